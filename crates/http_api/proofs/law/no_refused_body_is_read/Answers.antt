use Rattle.std.proofs.Common.{◌≡◌, ℕ, ◌≤◌, true, false, Bool, List, [], length, refl, sym, ap, ◌∙◌, subst, arith, append-nil, inl, inr, true≢false}
use Rattle.httparse.specs.Grammar.{RequestHead}
use Rattle.httparse.proofs.GrammarLemmas.{request_unique}
use Rattle.http_api.specs.declared.framing.Framing.{Framing}
use Rattle.http_api.specs.declared.framing.Framing.TheVariants.{Sized}
use Rattle.answers.specs.declared.end.End.{End}
use Rattle.answers.specs.declared.end.End.TheVariants.{Asked}
use Rattle.http_api.specs.Heads.{Begins, framing_of, max_head}
use Rattle.http_api.specs.Connection.{NoRequest, at_end, no_head, cut_in_head, unclear_length, no_length, too_large, cut_in_body, EndsInBody, IsFew}
use Rattle.http_api.proofs.law.no_refused_body_is_read.Goals as goal

abbrev is_asked : End → Bool
is_asked Asked = true
is_asked _ = false

abbrev is_sized : Framing → Bool
is_sized (Sized size) = true
is_sized _ = false

abbrev size_of : Framing → ℕ
size_of (Sized size) = size
size_of _ = 0

-- the head of the body is the head that was found
frames_same : (input : List ℕ) (h : RequestHead) (tail : List ℕ) → Begins input h tail → (e : EndsInBody input) → framing_of h ≡ Sized e.size
frames_same input h tail b e = ap framing_of (request_unique input h e.head tail e.tail b.reads e.begins.reads).0 ∙ e.frames

few_refused : (input text : List ℕ) (end : End) → NoRequest input text end → end ≡ Asked → IsFew input → length input ≤ max_head
few_refused input text end n asked (inl short) = short
few_refused input text end (at_end a b c) asked (inr e) = absurd (true≢false (sym (ap is_asked (sym c ∙ asked))))
few_refused input text end (no_head never b c) asked (inr e) =
    absurd (never [] e.head e.tail (subst (λ (i : List ℕ). Begins i e.head e.tail) (sym (append-nil input)) e.begins))
few_refused input text end (cut_in_head a b c) asked (inr e) = absurd (true≢false (sym (ap is_asked (sym c ∙ asked))))
few_refused input text end (unclear_length h tail b f a c) asked (inr e) = absurd (true≢false (ap is_sized (sym (frames_same input h tail b e) ∙ f)))
few_refused input text end (no_length h tail b f a c) asked (inr e) = absurd (true≢false (ap is_sized (sym (frames_same input h tail b e) ∙ f)))
few_refused input text end (too_large h tail size b f more a c) asked (inr e) = absurd (omega (arith, more, e.fits, ap size_of (sym (frames_same input h tail b e) ∙ f)))
few_refused input text end (cut_in_body h tail size b f fits cut a c) asked (inr e) = absurd (true≢false (sym (ap is_asked (sym c ∙ asked))))

pub returns : goal.returns
returns c input text n few = few_refused input text Asked n refl few
