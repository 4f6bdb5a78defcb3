use Rattle.program.proofs.Told.{tells}
use Rattle.program.proofs.telling.tell.Goals as goal

pub returns : goal.returns
returns g c = tells c.args.errors.now c.say_fault.new.errors c.args.fault.now c.say_fault.result c.say_fault.ensures.wrote c.say_fault.ensures.failed c.say_fault.ensures.flushed c.requires.unbroken
