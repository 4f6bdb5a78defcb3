use Rattle.keeper.proofs.deeds.Place.note_answered.Goals as goal

pub returns : goal.returns
returns g c = c.note.ensures _ c.requires.what
