use Rattle.std.proofs.Common.{◌≡◌, rules}
use Rattle.plain.proofs.Gather.{had}
use Rattle.plain.proofs.OrderedSets.{put_object, had_object}
use Rattle.plain.proofs.membership.add_object.Goals as goal

pub returns-in_ok-insert : goal.returns-in_ok-insert
returns-in_ok-insert c =
    let same : c.in_ok-clone.field-0 ≡ c.args.object.now = search rules in
    put_object c.args.objects.now.keys c.insert.new.self.keys c.in_ok-clone.field-0 c.args.object.now same c.in_ok-insert.ensures.updates.0

pub returns-else-not-contains : goal.returns-else-not-contains
returns-else-not-contains c = λ o. had c.args.objects.now.keys c.args.object.now o (had_object c.args.objects.now.keys c.args.object.now c.if-not-contains.ensures)
