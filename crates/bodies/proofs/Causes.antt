-- Why a body is refused, by what its parts are refused for.
use Rattle.std.proofs.Common.{◌≡◌, ℕ, List, Option, Result, IfErr, sym, subst}
use Rattle.std.specs.Prelude.{Some, None, IsSomeAnd}
use Rattle.std.specs.Result.{IsErrAnd}
use Rattle.std.proofs.lemmas.Result.{err_from_is_err_and}
use Rattle.names.specs.Refusals.{IsMalformed, ReadCause}
use Rattle.names.specs.declared.refusal.Refusal.{Refusal}
use Rattle.names.specs.declared.refusal.Refusal.TheVariants.{Malformed, BadZookie, Memory}
use Rattle.zookie.specs.declared.Zookie.{Zookie}
use Rattle.bodies.specs.Requests.{IsZookieOf, IsAnyText, BodyCause}
use Rattle.bodies.specs.inside.Parts.{TextCause}
use Rattle.bodies.proofs.Options.{so_of, is_so, not_so}

-- at the exit of a `?`
pub exit : {T : Type 0} (cause : Refusal → Type 0) (r : Result T Refusal) (e : Refusal) → IsErrAnd r (λ x. x ≡ e) → cause e → IfErr r cause
exit cause r e was why = let p = err_from_is_err_and r was in rw (p.1, p.2) why

-- what asks by the whole asks by the part, and the part comes with all else
pub part_cause : (Part Whole : (List ℕ → Zookie → Type 0) → Type 0) → ((IsOf : List ℕ → Zookie → Type 0) → Whole IsOf → Part IsOf) → (Part IsAnyText → Whole IsAnyText)
    → (e : Refusal) → BodyCause Part e → BodyCause Whole e
part_cause Part Whole down up Malformed not = λ w. not (down IsAnyText w)
part_cause Part Whole down up BadZookie bad = (up bad.0, λ w. bad.1 (down IsZookieOf w))
part_cause Part Whole down up Memory none = tt
part_cause Part Whole down up _ none = absurd none

pub malformed_cause : {P : Type 0} (Whole : (List ℕ → Zookie → Type 0) → Type 0) → (P → Whole IsAnyText → ⊥) → (e : Refusal) → IsMalformed P e → BodyCause Whole e
malformed_cause Whole f Malformed p = f p
malformed_cause Whole f _ p = absurd p

pub read_cause : {P : Type 0} (Whole : (List ℕ → Zookie → Type 0) → Type 0) → (P → Whole IsAnyText → ⊥) → (e : Refusal) → ReadCause P e → BodyCause Whole e
read_cause Whole f Malformed p = f p
read_cause Whole f Memory p = tt
read_cause Whole f _ p = absurd p

-- some zookie
pub nought : Zookie
nought = record { store = 0; rev = 0 }

-- a text in a zookie's place
pub text_bad : (at : Option (List ℕ)) (text : List ℕ) (e : Refusal) → Some text ≡ at → (e ≡ BadZookie) × ((zookie : Zookie) → IsZookieOf text zookie → ⊥) → TextCause at e
text_bad at text e there bad = rw bad.0 ((nought, is_so (λ s. IsAnyText s nought) at text there tt), λ w. bad.1 w.0 (so_of (λ s. IsZookieOf s w.0) at text there w.1))

pub no_text : (at : Option (List ℕ)) → at ≡ None → TextCause at Malformed
no_text at none = λ w. not_so (λ s. IsAnyText s w.0) at none w.1
