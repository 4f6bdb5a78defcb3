use Rattle.std.proofs.Common.{refl, ◌∙◌}
use Rattle.delta.specs.declared.earlier.Earlier.{Earlier}
use Rattle.delta.specs.Noted.{led_in}
use Rattle.delta.proofs.Noting.{noted_more}
use Rattle.delta.proofs.earlier.push_noted.Goals as goal

pub returns : goal.returns
returns c =
    let e : Earlier = record { rev = c.args.rev; group = c.args.group; led = c.in_ok-led.led } in
    noted_more c.args.rev (led_in c.args.sets.now.rows) c.args.list.now.items c.push.new.self.items e c.args.group refl refl (c.in_ok-led.ensures ∙ c.members.ensures) c.in_ok-push.ensures.items
