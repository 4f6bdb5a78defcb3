-- Events that come one after the other.
use Rattle.std.proofs.Common.{◌≡◌, ◌+◌, ◌≤◌, ℕ, Bool, true, false, List, [], ◌∷◌, ◌++◌, length, nat_le, ap, sym, ◌∙◌, subst, if◌then◌else◌, arith, length-append, append-nil}
use Rattle.std.proofs.lemmas.Bool.Decides.{nat_tests}
use Rattle.std.specs.Prelude.{◌&&◌}
use mathlib.Core.Bool.{true≢false}
use mathlib.Core.List.{IsPrefix}
use Rattle.shown.specs.declared.step.Step.{Step}
use Rattle.shown.specs.Standing.{standing}
use Rattle.published.proofs.Prefixes.{prefix_length}
use Rattle.publication.specs.declared.event.Event.{Event}
use Rattle.publication.specs.declared.event.Event.TheVariants.{Published}
use Rattle.publication.specs.World.{State, can_come, after_coming, after_event}
use Rattle.publication.specs.Runs.{after_events}
use Rattle.refinement.specs.Events.{state_after, Lead, IsRunTo}

lead_on : (es fs : List Event) (s t u : State) → Lead es s t → Lead fs t u → Lead (es ++ fs) s u
lead_on [] fs s t u first second = subst (λ (x : State). Lead fs x u) first second
lead_on (e ∷ es) fs s t u first second = (first.0, lead_on es fs (after_coming s e) t u first.1 second)

pub on : (s t u : State) → IsRunTo s t → IsRunTo t u → IsRunTo s u
on s t u first second = (first.0 ++ second.0, lead_on first.0 second.0 s t u first.1 second.1)

pub stays : (s t : State) → t ≡ s → IsRunTo s t
stays s t same = ([], same)

pub one : (s t : State) (e : Event) → can_come s e ≡ true → t ≡ after_coming s e → IsRunTo s t
one s t e can is = (e ∷ [], (can, is))

came : (s : State) (e : Event) → can_come s e ≡ true → after_event s e ≡ after_coming s e
came s e can = ap (λ (b : Bool). if b then after_coming s e else s) can

pub after : (events : List Event) (s t : State) → Lead events s t → t ≡ after_events s events
after [] s t lead = lead
after (e ∷ events) s t lead =
    after events (after_coming s e) t lead.1 ∙ ap (λ (x : State). after_events x events) (sym (came s e lead.0))

pub both_true : (a b : Bool) → a ≡ true → b ≡ true → (a && b) ≡ true
both_true true b h k = k
both_true false b h k = absurd (true≢false (sym h))

pub reaches : (a b : ℕ) → a ≤ b → nat_le a b ≡ true
reaches a b h = grind (arith, nat_tests, h)

-- what waits is published
pub publishes : (posted before shown : List Step) → IsPrefix before shown → IsPrefix shown posted → IsRunTo (state_after posted before) (state_after posted shown)
publishes posted before shown later beginning = by_more later.0 later.1
  where
    by_more : (more : List Step) → before ++ more ≡ shown → IsRunTo (state_after posted before) (state_after posted shown)
    by_more [] is = stays _ _ (ap (λ (xs : List Step). state_after posted xs) (sym is ∙ append-nil before))
    by_more (step ∷ more) is =
        let n = length (step ∷ more) in
        let len : length shown ≡ length before + n = sym (ap length is) ∙ length-append before (step ∷ more) in
        one _ _ (Published n)
        (both_true (nat_le 1 n) (nat_le (length before + n) (length posted)) (reaches 1 n (omega arith)) (reaches _ _ (omega (arith, len, prefix_length shown posted beginning))))
        (ap (λ (k : ℕ). record { stored = (standing posted).kept; posted = posted; shown = k }) len)
