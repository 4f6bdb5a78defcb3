use Rattle.std.proofs.Common.{◌∙◌, ◌∷◌, ap, sym, subst, Err, true≢false}
use Rattle.tables.specs.Changing.{with_change}
use Rattle.desk.proofs.Agreeing.{agrees_anew, agrees_on}
use Rattle.desk.proofs.latched_tables.LatchedTables.change.Goals as goal

pub returns-in-Ok-clause-held : goal.returns-in-Ok-clause-held
returns-in-Ok-clause-held g c = λ r agrees is. c.in-Ok.ensures.done r (agrees.holds c.requires.works) is

pub returns-in-Ok-clause-settled : goal.returns-in-Ok-clause-settled
returns-in-Ok-clause-settled g c =
    λ r agrees is. g.met.T.Tables.settled c.change.new.self (with_change r c.args.change.now) (returns-in-Ok-clause-held g c r agrees is) c.in-Ok.ensures.open

pub returns-in-Ok-clause-stored : goal.returns-in-Ok-clause-stored
returns-in-Ok-clause-stored g c =
    λ r agrees is. agrees_anew g.T.Tables c.args.self.now.failed c.change.new.self (with_change r c.args.change.now) (returns-in-Ok-clause-held g c r agrees is) (returns-in-Ok-clause-settled g c r agrees is)

pub returns-in-Err-Memory-clause-unstored : goal.returns-in-Err-Memory-clause-unstored
returns-in-Err-Memory-clause-unstored g c =
    λ r agrees is can. agrees_on g.T.Tables g.met.T.Tables.weaker c.args.self.now.failed c.args.self.now.failed c.args.self.now.tables c.change.new.self r c.args.change.now agrees can
    (λ _. c.change.ensures.undone r (agrees.holds c.requires.works) (c.in-Err-Memory.is ∙ ap Err c.in-Err-Memory.field-0-is)) (λ rs left. c.change.ensures.left r rs (agrees.holds c.requires.works) left is)

pub returns-in-Err-Fault-clause-unstored : goal.returns-in-Err-Fault-clause-unstored
returns-in-Err-Fault-clause-unstored g c =
    λ r agrees is can. agrees_on g.T.Tables g.met.T.Tables.weaker c.args.self.now.failed c.note_fault.new.self.failed c.args.self.now.tables c.note_fault.new.self.tables r c.args.change.now agrees can
    (λ no. absurd (true≢false (sym c.note_fault.ensures.failed ∙ no)))
    (λ rs left. subst (λ t. g.T.Tables.leaves t (with_change r c.args.change.now ∷ rs)) (sym c.note_fault.ensures.tables) (c.change.ensures.left r rs (agrees.holds c.requires.works) left is))
