use Rattle.desk.proofs.Sound.{sound_same, sound_unstored}
use Rattle.desk.proofs.desk.Desk.post_unstored.Goals as goal

pub invariant_of-self-2 : goal.invariant_of-self-2
invariant_of-self-2 g c =
    let inside = c.self.inside in
    let room = c.reserve.ensures.same in
    sound_unstored g.T.Tables inside.tables.failed inside.tables.tables inside.own c.reserve.new.self c.post.new.self
    (sound_same g.T.Tables inside.tables.failed inside.tables.tables inside.own inside.publication c.reserve.new.self c.self.invariant room.1 room.2)
    c.args.step c.requires.history c.post.ensures.posted c.post.ensures.same.1 c.post.ensures.judged c.apply.new.self c.in_ok-apply.ensures.ok
