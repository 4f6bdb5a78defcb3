use Rattle.std.proofs.Common.{refl, ◌∙◌}
use Rattle.command_line.specs.declared.fault.Fault.TheVariants.{CommandLine, Refused, CannotRead, CannotWrite, CannotListen}
use Rattle.program.proofs.Told.{says, refusal_is}
use Rattle.program.proofs.telling.put_fault.Goals as goal

pub returns-in-CommandLine-clause-wrote : goal.returns-in-CommandLine-clause-wrote
returns-in-CommandLine-clause-wrote g c = says c.put.result _ _ _ c.args.fault.now CommandLine c.in-CommandLine.is refl c.put.ensures.wrote

pub returns-in-CannotRead-clause-wrote : goal.returns-in-CannotRead-clause-wrote
returns-in-CannotRead-clause-wrote g c = says c.put-in-CannotRead.result _ _ _ c.args.fault.now CannotRead c.in-CannotRead.is refl c.put-in-CannotRead.ensures.wrote

pub returns-in-CannotWrite-clause-wrote : goal.returns-in-CannotWrite-clause-wrote
returns-in-CannotWrite-clause-wrote g c = says c.put-in-CannotWrite.result _ _ _ c.args.fault.now CannotWrite c.in-CannotWrite.is refl c.put-in-CannotWrite.ensures.wrote

pub returns-in-CannotListen-clause-wrote : goal.returns-in-CannotListen-clause-wrote
returns-in-CannotListen-clause-wrote g c = says c.put-in-CannotListen.result _ _ _ c.args.fault.now CannotListen c.in-CannotListen.is refl c.put-in-CannotListen.ensures.wrote

pub returns-in-Refused-clause-wrote : goal.returns-in-Refused-clause-wrote
returns-in-Refused-clause-wrote g c = says c.put_refusal.result _ _ _ c.args.fault.now (Refused c.in-Refused.why) c.in-Refused.is (refusal_is c.in-Refused.why _ _ c.number.ensures (c.as_bytes.ensures.value ∙ c.name.ensures)) c.put_refusal.ensures.wrote
