use Rattle.std.proofs.Common.{◌≡◌, ap, ◌∙◌, sym, subst}
use Rattle.std.specs.Prelude.{IfOk, IfSome}
use Rattle.meaning.specs.Reads.{IsValid}
use Rattle.meaning.specs.Snap.{Snap}
use Rattle.group_index.specs.Indices.{TellsOf}
use Rattle.hot.specs.Kept.{IsHot}
use Rattle.lookup.specs.Found.{IsLookup}
use Rattle.rows.specs.Retained.{snap_at}
use Rattle.shown.specs.Standing.{Standing}
use Rattle.shown.proofs.shown.Shown.lookup_at.Goals as goal

pub lookup_at-requires : goal.lookup_at-requires
lookup_at-requires c =
    let is : c.of-view.result ≡ snap_at c.args.self.now.kept c.args.rev = c.of-view.ensures ∙ c.at-view.ensures ∙ ap (λ (s : Standing). snap_at s.kept c.args.rev) c.self.view_is in (
      subst (λ (T : Snap). IfSome c.members_at-hot.result (λ hot. IsHot hot.now T)) (sym is) c.members_at-hot.ensures,
      subst (λ (T : Snap). IfSome c.index_at-groups.result (λ at. TellsOf at T)) (sym is) c.index_at-groups.ensures,
      subst IsValid (sym c.of-view.ensures) c.each_view_is_valid.ensures,
      tt,
    )

pub returns-clause-ok : goal.returns-clause-ok
returns-clause-ok c =
    subst (λ (S : Snap). IfOk c.lookup_at.result (λ ids. IsLookup S c.args.asked.now ids.items))
    (c.of-view.ensures ∙ c.at-view.ensures ∙ ap (λ (s : Standing). snap_at s.kept c.args.rev) c.self.view_is) c.lookup_at.ensures.ok
