-- What was answered stays answered, whatever bytes follow.
use Rattle.std.proofs.Common.{◌≡◌, ℕ, zero, suc, ◌+◌, ◌++◌, Bool, true, false, List, [], refl, sym, ap, ◌∙◌, subst, arith, append_assoc, append-nil}
use Rattle.httparse.specs.Grammar.{RequestHead}
use Rattle.httparse.proofs.GrammarLemmas.{ReadsRequest-append}
use Rattle.answers.specs.declared.end.End.{End}
use Rattle.answers.specs.Machine.{Step}
use Rattle.http_api.specs.Heads.{Begins}
use Rattle.http_api.specs.Connection.{Next, stop, go_on, after, HasRequest, Turn, Goes, no_request, unknown, answered, no_memory}

pub begins_more : (input more : List ℕ) (head : RequestHead) (rest : List ℕ) → Begins input head rest → Begins (input ++ more) head (rest ++ more)
begins_more input more head rest b = record { reads = ReadsRequest-append input head rest more b.reads; short = b.short; few = b.few }

pub request_more : (input more : List ℕ) (head : RequestHead) (body rest : List ℕ) → HasRequest input head body rest → HasRequest (input ++ more) head body (rest ++ more)
request_more input more head body rest a = record {
  tail = a.tail ++ more;
  begins = begins_more input more head a.tail a.begins;
  frames = a.frames;
  fits = a.fits;
  parts = ap (λ t. t ++ more) a.parts ∙ append_assoc body rest more;
}

-- the rest of the input grows by these bytes
abbrev pub with_more : Next → List ℕ → Next
with_more (stop end) more = stop end
with_more (go_on rest) more = go_on (rest ++ more)

after_more : (closed : Bool) (rest more : List ℕ) → with_more (after closed rest) more ≡ after closed (rest ++ more)
after_more true rest more = refl
after_more false rest more = refl

-- it goes on
abbrev pub IsOn : Next → Type 0
IsOn (stop end) = ⊥
IsOn (go_on rest) = Unit {0}

not_on : {end : End} {next : Next} → next ≡ stop end → IsOn next → ⊥
not_on e on = subst IsOn e on

pub turn_more : {S : Type 0} (step : Step S) (s : S) (number : ℕ) (input more text : List ℕ) (t : S) (next : Next) → IsOn next
    → Turn step s number input text t next → Turn step s number (input ++ more) text t (with_more next more)
turn_more step s number input more text t next on (no_request end a b e) = absurd (not_on e on)
turn_more step s number input more text t next on (unknown h body rest a r x y e) =
    unknown h body (rest ++ more) (request_more input more h body rest a) r x y (ap (λ n. with_more n more) e ∙ after_more _ rest more)
turn_more step s number input more text t next on (answered h body rest call status said a r m x e) =
    answered h body (rest ++ more) call status said (request_more input more h body rest a) r m x (ap (λ n. with_more n more) e ∙ after_more _ rest more)
turn_more step s number input more text t next on (no_memory h body rest call a r m x e) = absurd (not_on e on)

pub goes_more : {S : Type 0} (step : Step S) (s : S) (number count : ℕ) (input more rest text : List ℕ) (t : S)
    → Goes step s number count input rest text t → Goes step s number count (input ++ more) (rest ++ more) text t
goes_more step s number zero input more rest text t g = (ap (λ x. x ++ more) g.0, g.1, g.2)
goes_more step s number (suc count) input more rest text t (first, mid, left, later, turn, g, e) =
    (first, mid, left ++ more, later, turn_more step s number input more first mid (go_on left) tt turn, goes_more step mid (suc number) count left more rest later t g, e)

-- one more request is answered
pub goes_next : {S : Type 0} (step : Step S) (s : S) (number count : ℕ) (input rest text : List ℕ) (mid : S) (left more : List ℕ) (t : S)
    → Goes step s number count input rest text mid → Turn step mid (count + number) rest more t (go_on left) → Goes step s number (suc count) input left (text ++ more) t
goes_next {S} step s number zero input rest text mid left more t g turn =
    let P : S → Type 0 = λ u. Turn step u number rest more t (go_on left) in
    let Q : List ℕ → Type 0 = λ i. Turn step s number i more t (go_on left) in
    let R : ℕ → Type 0 = λ n. Turn step mid n rest more t (go_on left) in
    (more, t, left, [], subst Q g.0 (subst P g.2 (subst R (omega arith) turn)), (refl, refl, refl), ap (λ x. x ++ more) g.1 ∙ sym (append-nil more))
goes_next {S} step s number (suc count) input rest text mid left more t (first, u, between, later, head, g, e) turn =
    let P : ℕ → Type 0 = λ n. Turn step mid n rest more t (go_on left) in
    let again = goes_next step u (suc number) count between rest later mid left more t g (subst P (omega arith) turn) in
    (first, u, between, later ++ more, head, again, ap (λ x. x ++ more) e ∙ append_assoc first later more)
