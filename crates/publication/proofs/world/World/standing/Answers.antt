use Rattle.publication.proofs.Waiting.{posted_room}
use Rattle.publication.proofs.world.World.standing.Goals as goal

pub standing_of-requires : goal.standing_of-requires
standing_of-requires c = posted_room c.self.inside.posted.items c.deref.result.now c.self.inside.waiting.items c.deref.ensures.value c.self.invariant.room
