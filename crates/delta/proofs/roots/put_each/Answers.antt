use Rattle.std.proofs.Math.Bool.{or_assoc}
use Rattle.std.proofs.Common.{ℕ, nat_eq, get_or, take, ◌∙◌, ap, sym, subst}
use Rattle.std.proofs.lemmas.List.Folds.{list_any_more}
use Rattle.std.specs.Prelude.{◌||◌, List}
use Rattle.std.specs.List.Sorted.{IsStrictlyIncreasing}
use Rattle.least_sets.specs.World.{has}
use Rattle.delta.specs.inside.Putting.{IsWithout}
use Rattle.delta.proofs.roots.put_each.Goals as goal

pub returns-in-Err-clause-err : goal.returns-in-Err-clause-err
returns-in-Err-clause-err c =
    let added = c.in-Err.ensures.added c.args.ids.now c.loop-id.invariant.1 in
    c.take_each.ensures c.args.ids.now (subst IsStrictlyIncreasing c.as_slice.ensures.ids c.as_slice.ensures.ascending)
    (subst (λ (xs : List ℕ). IsWithout c.args.ids.now c.put_one.new.ids xs) (sym c.deref.ensures.value) added)

pub loop-id-preserved : goal.loop-id-preserved
loop-id-preserved c =
    let more = c.args.more.now in
    let k = c.loop-id.id-index in
    let one = c.in_default.ensures in (
      λ i. one.all i ∙ ap (λ b. b || nat_eq i (get_or more k 0)) (c.loop-id.invariant.0 i) ∙ or_assoc (has c.args.ids.now i) (has (take k more) i) (nat_eq i (get_or more k 0))
          ∙ ap (λ b. has c.args.ids.now i || b) (sym (list_any_more (nat_eq i) more k 0 c.loop-id-test.true)),
      one.added c.args.ids.now c.loop-id.invariant.1,
    )
