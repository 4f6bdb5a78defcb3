use Rattle.std.proofs.Common.{ap, subst, sym, ◌∙◌}
use Rattle.one_history.specs.History.{Hand, entries_by}
use Rattle.keeper.specs.declared.deeds.Deed.{Deed}
use Rattle.keeper.specs.Deeds.{StandsIn}
use Rattle.keeper.proofs.deeds.Place.look.Goals as goal

pub returns-clause-stands : goal.returns-clause-stands
returns-clause-stands g c =
    let log = c.args.log.now in
    let looked = c.look.ensures in
    subst (λ (h : Hand Deed). StandsIn log h) c.self.view_is
    (record { begins = looked.begins; own = ap (λ by. entries_by by log) (sym looked.by) ∙ looked.own ∙ looked.mine })
