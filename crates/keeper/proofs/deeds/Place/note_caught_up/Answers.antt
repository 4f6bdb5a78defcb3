use Rattle.keeper.proofs.deeds.Place.note_caught_up.Goals as goal

pub returns : goal.returns
returns g c = c.note.ensures _ c.requires.what
