use Rattle.published.proofs.publication.Publication.hand_in.Goals as goal

pub invariant_of-self : goal.invariant_of-self
invariant_of-self g c = c.self.invariant
