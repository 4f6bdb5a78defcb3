use Rattle.std.proofs.Common.{◌≡◌, ap, sym, subst, ◌∙◌}
use Rattle.idsets.specs.Sets.{IsLeastFrom}
use Rattle.idsets.proofs.Placing.{first_here, first_past}
use Rattle.idsets.proofs.seek.GallopingSeek.seek.Goals.{then-at-ids, else-at-ids}
use Rattle.idsets.proofs.seek.GallopingSeek.seek.Goals as goal

pub returns-clause-first : goal.returns-clause-first
returns-clause-first c =
    let ids = c.as_slice-ids.result.now in
    let same : ids ≡ c.args.self.now.ids = c.as_slice-ids.ensures.ids ∙ ap (λ s. s.ids) c.self.view_is in
    subst (λ l. IsLeastFrom l c.args.id c.if-at-ids.result) same
    (elim c.if-at-ids.branch [
      | then-at-ids w ↦ subst (IsLeastFrom ids c.args.id) (sym w.result-is) (first_here _ _ _ c.as_slice-ids.ensures.ascending c.place_from-at.ensures w.if-at-ids.true)
      | else-at-ids w ↦ subst (IsLeastFrom ids c.args.id) (sym w.result-is) (first_past _ _ _ c.as_slice-ids.ensures.ascending c.place_from-at.ensures w.if-at-ids.false)
    ])
