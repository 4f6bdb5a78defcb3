use Rattle.names.specs.declared.refusal.Refusal.{Refusal}
use Rattle.desk.specs.Changes.{IsRefused}
use Rattle.desk.specs.Made.{MayStore, SpeaksAgainst}
use Rattle.desk.proofs.Accepting.{refused_exit}
use Rattle.desk.proofs.desk.Desk.change.Goals as goal

pub returns-in_err-write-in-Write-clause-err : goal.returns-in_err-write-in-Write-clause-err
returns-in_err-write-in-Write-clause-err g c =
    refused_exit (λ (why : Refusal). IsRefused g.T.Tables c.args.self.now (MayStore c.args.self.now c.args.change) (SpeaksAgainst c.args.self.now c.args.change) why c.write.new.self)
    c.from_residual.result c.in_err-write-in-Write.field-0.0 c.from_residual.ensures.1 (rw c.in-Write.is c.in_err-write-in-Write.ensures.err)
