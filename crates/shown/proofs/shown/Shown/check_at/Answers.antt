use Rattle.std.proofs.Common.{◌≡◌, ap, ◌∙◌, sym, subst}
use Rattle.std.specs.Prelude.{◌↔◌, IsTrue, IfOk, IfSome}
use Rattle.meaning.specs.Membership.{IsMember}
use Rattle.meaning.specs.Snap.{Snap}
use Rattle.group_index.specs.Indices.{TellsOf}
use Rattle.hot.specs.Kept.{IsHot}
use Rattle.rows.specs.Retained.{snap_at}
use Rattle.shown.specs.Standing.{Standing}
use Rattle.shown.proofs.Knowing.{where_kept}
use Rattle.shown.proofs.shown.Shown.check_at.Goals as goal

pub check_at-requires : goal.check_at-requires
check_at-requires c =
    let S = c.at-view.result in
    let r = c.args.self.now.kept in
    let is : S ≡ snap_at r c.args.rev = c.at-view.ensures ∙ ap (λ (s : Standing). snap_at s.kept c.args.rev) c.self.view_is in (
      subst (λ (T : Snap). IfSome c.members_at-hot.result (λ hot. IsHot hot.now T)) (sym is) c.members_at-hot.ensures,
      subst (λ (T : Snap). IfSome c.index_at-groups.result (λ at. TellsOf at T)) (sym is) c.index_at-groups.ensures,
      c.each_view_is_valid.ensures,
      c.answers_at-answers.ensures S (where_kept (λ kept. kept.now) r c.args.rev S c.args.kept is c.requires.retained c.requires.kept),
    )

pub returns-clause-ok : goal.returns-clause-ok
returns-clause-ok c =
    subst (λ (S : Snap). IfOk c.check_at.result (λ answer. IsTrue answer ↔ IsMember S c.args.user.now c.args.node.now))
    (c.at-view.ensures ∙ ap (λ (s : Standing). snap_at s.kept c.args.rev) c.self.view_is) c.check_at.ensures.ok
