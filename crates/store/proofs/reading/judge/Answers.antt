use Rattle.std.proofs.Common.{List, refl, sym, ap, subst, ◌∙◌}
use Rattle.std.specs.Prelude.{nat_le}
use Rattle.std.proofs.lemmas.Bool.{leb-true, leb-false}
use Rattle.names.specs.declared.limits.TheConstants.{MAX_TUPLES}
use Rattle.rows.specs.Loads.{retained_of}
use Rattle.store.specs.inside.Reading.{current, ArePlaced}
use Rattle.store.specs.Refused.{AreListed, AreSound}
use Rattle.store.specs.declared.parts.ReadSpan.{ReadSpan}
use Rattle.store.proofs.Sound.{sound, many_refused}
use Rattle.store.proofs.reading.judge.Goals as goal
use Rattle.store.proofs.reading.judge.Goals.{then-not-are_enough-via-then-not-are_enough, then-not-are_enough-via-else-not-are_enough+then-not-are_placed, then-not-are_enough-via-else-not-are_enough+else-not-are_placed+then-not-is_small}

pub returns-clause-sound : goal.returns-clause-sound
returns-clause-sound c =
    let P : List ReadSpan → Type 0 = λ s. ArePlaced c.args.head c.args.configs.now s in
    let is = c.as_slice-rows.ensures.value in
    sound c.args.head c.args.spans.items c.args.configs.now c.requires.head c.requires.spans (subst P is (c.if-not-are_placed.ensures.passes refl)) c.in_ok-loaded.ensures.whole c.requires.configs
    (retained_of c.in_ok-loaded.loaded) c.in_ok-loaded.ensures.same c.in_ok-loaded.ensures.within.rows (leb-true _ _ (ap (λ s. nat_le (current s) MAX_TUPLES) (sym is) ∙ sym c.if-not-is_small.ensures))

pub returns-then-not-are_enough-clause-fault : goal.returns-then-not-are_enough-clause-fault
returns-then-not-are_enough-clause-fault c = λ (listed, sound).
    let L : List ReadSpan → Type 0 = λ s. AreListed c.args.configs.now s in
    let S : List ReadSpan → Type 0 = λ s. AreSound c.args.head c.args.configs.now s in
    let back = sym c.as_slice-rows.ensures.value in
    let listed_rows = subst L back listed in
    let sound_rows = subst S back sound in
    elim c.then-not-are_enough.branch [
      | then-not-are_enough-via-then-not-are_enough w ↦ w.if-not-are_enough.ensures refl sound_rows.whole
      | then-not-are_enough-via-else-not-are_enough+then-not-are_placed w ↦ w.if-not-are_placed.ensures.refuses refl listed_rows sound_rows
      | then-not-are_enough-via-else-not-are_enough+else-not-are_placed+then-not-is_small w ↦
          many_refused c.args.head c.as_slice-rows.result.now c.args.configs.now (leb-false _ MAX_TUPLES (sym w.if-not-is_small.ensures)) sound_rows
    ]

pub are_placed-requires : goal.are_placed-requires
are_placed-requires c = λ k d less. (c.requires.configs k d less).begins

pub build-requires-clause-later : goal.build-requires-clause-later
build-requires-clause-later c = λ k d less. (c.requires.configs k d less).begins
