-- Why the body of a question is refused: its form, and its `at`.
use Rattle.std.proofs.Common.{◌≡◌, ℕ, true, false, List, refl, sym, ap, ◌∙◌, subst}
use Rattle.std.specs.Prelude.{Option, Some, None, codes}
use Rattle.std.specs.Cmp.Lexicographic.{same_text, other_text}
use Rattle.std.proofs.lemmas.Option.{none-some}
use Rattle.serde_json.specs.Data.{Data, null, boolean, number, string, array, object}
use Rattle.serde_json.specs.Find.{get, as_str}
use Rattle.config_text.specs.Objects.{is_text}
use Rattle.config_text.specs.Reading.{Reads}
use Rattle.names.specs.Refusals.{IsMalformed, ReadCause}
use Rattle.names.specs.declared.refusal.Refusal.{Refusal}
use Rattle.names.specs.declared.refusal.Refusal.TheVariants.{Malformed, BadZookie}
use Rattle.zookie.specs.declared.Zookie.{Zookie}
use Rattle.zookie.specs.declared.consistency.Consistency.{Consistency}
use Rattle.zookie.specs.declared.consistency.Consistency.TheVariants.{Latest, AtLeast, Exactly}
use Rattle.bodies.specs.Requests.{IsZookieOf, IsAnyText, AsksAt, AsksSo, QuestionCause, only_text}
use Rattle.bodies.specs.inside.Parts.{AtCause}
use Rattle.bodies.proofs.Bytes.{same_read}
use Rattle.bodies.proofs.Options.{so_of, is_so, not_so, some_of}
use Rattle.bodies.proofs.Causes.{nought, part_cause, malformed_cause, read_cause}
use Rattle.bodies.proofs.Marks.{one_name}

module _ (body : List ℕ) (Is : Data → Type 0) where
  pub question_unread : (e : Refusal) → ReadCause ((d : Data) → Reads body d → ⊥) e → QuestionCause body Is e
  question_unread e cause = read_cause (λ IsOf. (consistency : Consistency) × AsksSo IsOf body Is consistency) (λ not w. not w.1.0 w.1.1) e cause

  module _ (d : Data) (reads : Reads body d) where
    pub question_unasked : {P : Type 0} → (P → Is d → ⊥) → (e : Refusal) → IsMalformed P e → QuestionCause body Is e
    question_unasked f e cause =
        malformed_cause (λ IsOf. (consistency : Consistency) × AsksSo IsOf body Is consistency) (λ p w. f p (subst Is (same_read body w.1.0 d w.1.1 reads) w.1.2.0)) e cause

    pub question_unlike : {P : Type 0} → (P → Is d → ⊥) → (e : Refusal) → ReadCause P e → QuestionCause body Is e
    question_unlike f e cause =
        read_cause (λ IsOf. (consistency : Consistency) × AsksSo IsOf body Is consistency) (λ p w. f p (subst Is (same_read body w.1.0 d w.1.1 reads) w.1.2.0)) e cause

    pub question_at : Is d → (e : Refusal) → AtCause (get (codes "at") d) e → QuestionCause body Is e
    question_at is e cause =
        part_cause (λ IsOf. (consistency : Consistency) × AsksAt IsOf (get (codes "at") d) consistency) (λ IsOf. (consistency : Consistency) × AsksSo IsOf body Is consistency)
        (λ IsOf w. (w.0, subst (λ (x : Data). AsksAt IsOf (get (codes "at") x) w.0) (same_read body w.1.0 d w.1.1 reads) w.1.2.1))
        (λ w. (w.0, (d, reads, (is, w.1)))) e cause

-- an object of one member is no text
no_text_in : (name : List ℕ) (d : Data) (s t : List ℕ) → only_text name d ≡ Some s → as_str d ≡ Some t → ⊥
no_text_in name null s t only text = none-some s only
no_text_in name (boolean b) s t only text = none-some s only
no_text_in name (number n) s t only text = none-some s only
no_text_in name (string c) s t only text = none-some s only
no_text_in name (array ds) s t only text = none-some s only
no_text_in name (object ms) s t only text = none-some t text

module _ (d : Data) where
  pub is_latest : (t : List ℕ) → Some t ≡ as_str d → is_text t (codes "latest") ≡ true → AsksAt IsZookieOf (Some d) Latest
  is_latest t there is = sym there ∙ ap (λ (x : List ℕ). Some x) (same_text t (codes "latest") (sym is))

  pub not_latest : (t : List ℕ) → Some t ≡ as_str d → is_text t (codes "latest") ≡ false → AtCause (Some d) Malformed
  not_latest t there not w = no w.0 w.1
    where
      no : (c : Consistency) → AsksAt IsAnyText (Some d) c → ⊥
      no Latest is = let both : Some t ≡ Some (codes "latest") = there ∙ is in let same : t ≡ codes "latest" = cc in other_text t (codes "latest") (sym not) same
      no (AtLeast z) is = let found = some_of (only_text (codes "at_least") d) is in no_text_in (codes "at_least") d found.0 t found.1 (sym there)
      no (Exactly z) is = let found = some_of (only_text (codes "exactly") d) is in no_text_in (codes "exactly") d found.0 t found.1 (sym there)

  pub at_unlike : as_str d ≡ None → only_text (codes "at_least") d ≡ None → only_text (codes "exactly") d ≡ None → AtCause (Some d) Malformed
  at_unlike text least exact w = no w.0 w.1
    where
      no : (c : Consistency) → AsksAt IsAnyText (Some d) c → ⊥
      no Latest is = none-some (codes "latest") (sym text ∙ is)
      no (AtLeast z) is = not_so (λ s. IsAnyText s z) (only_text (codes "at_least") d) least is
      no (Exactly z) is = not_so (λ s. IsAnyText s z) (only_text (codes "exactly") d) exact is

  module _ (text : List ℕ) (e : Refusal) (bad : (e ≡ BadZookie) × ((zookie : Zookie) → IsZookieOf text zookie → ⊥)) where
    pub at_least_bad : Some text ≡ only_text (codes "at_least") d → AtCause (Some d) e
    at_least_bad there = rw bad.0 ((AtLeast nought, is_so (λ s. IsAnyText s nought) (only_text (codes "at_least") d) text there tt), λ w. no w.0 w.1)
      where
        no : (c : Consistency) → AsksAt IsZookieOf (Some d) c → ⊥
        no Latest is = no_text_in (codes "at_least") d text (codes "latest") (sym there) is
        no (AtLeast z) is = bad.1 z (so_of (λ s. IsZookieOf s z) (only_text (codes "at_least") d) text there is)
        no (Exactly z) is = let found = some_of (only_text (codes "exactly") d) is in one_name (codes "at_least") (codes "exactly") refl d text found.0 (sym there) found.1

    pub exactly_bad : Some text ≡ only_text (codes "exactly") d → AtCause (Some d) e
    exactly_bad there = rw bad.0 ((Exactly nought, is_so (λ s. IsAnyText s nought) (only_text (codes "exactly") d) text there tt), λ w. no w.0 w.1)
      where
        no : (c : Consistency) → AsksAt IsZookieOf (Some d) c → ⊥
        no Latest is = no_text_in (codes "exactly") d text (codes "latest") (sym there) is
        no (AtLeast z) is = let found = some_of (only_text (codes "at_least") d) is in one_name (codes "exactly") (codes "at_least") refl d text found.0 (sym there) found.1
        no (Exactly z) is = bad.1 z (so_of (λ s. IsZookieOf s z) (only_text (codes "exactly") d) text there is)

-- the member, where it is there and where it is not
pub at_absent : (at : Option Data) → at ≡ None → AsksAt IsZookieOf at Latest
at_absent at none = rw none tt

module _ (at : Option Data) (d : Data) (there : Some d ≡ at) where
  pub at_there : (c : Consistency) → AsksAt IsZookieOf (Some d) c → AsksAt IsZookieOf at c
  at_there c asks = subst (λ (o : Option Data). AsksAt IsZookieOf o c) there asks

  pub at_cause : (e : Refusal) → AtCause (Some d) e → AtCause at e
  at_cause e cause = subst (λ (o : Option Data). AtCause o e) there cause
