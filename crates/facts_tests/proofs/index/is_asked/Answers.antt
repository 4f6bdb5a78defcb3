use Rattle.std.proofs.Common.{ℕ, refl, le_of_eq}
use Rattle.group_index.specs.Indices.{IsGroupIndexOf}
use Rattle.facts_tests.proofs.index.is_asked.Goals as goal

pub check_at-requires : goal.check_at-requires
check_at-requires c =
    let snaps = λ (rev : ℕ). c.at-view.result in
    let first : IsGroupIndexOf c.in_ok-index.index snaps = c.in_ok-index.ensures.index snaps refl in
    let later = c.in_ok-rebase.ensures.index snaps first (le_of_eq c.in_ok-index.ensures.base) refl in
    (c.in-Some.ensures.told snaps later, c.each_view_is_valid.ensures)
