-- The map as it stands in memory: tuples as texts.
use Rattle.std.specs.Prelude.{ℕ, List, [], ◌∷◌}
use Rattle.names.specs.declared.tuple.Tuple.{Tuple}
use Rattle.versions.specs.declared.version.Version.{Version}
use Rattle.tuple_keys.specs.Spelled.{tuple_of, IsSpelling}
use Rattle.versions.specs.Versions.{Entries, HasSame, ChangesAt}

-- texts, each with the versions of the tuple that it spells
abbrev pub Texts : Type 0
Texts = List (List ℕ × List Version)

abbrev pub entry_of : List ℕ × List Version → Tuple × List Version
entry_of e = (tuple_of e.0, e.1)

-- the tuples that the texts spell, with their versions
abbrev pub entries_of : Texts → Entries
entries_of [] = []
entries_of (e ∷ es) = entry_of e ∷ entries_of es

-- each text spells a tuple
abbrev pub AreSpelled : Texts → Type 0
AreSpelled [] = Unit {0}
AreSpelled (e ∷ es) = IsSpelling e.0 × AreSpelled es

-- the same of the texts: the versions of each tuple stay
abbrev pub TextsStay : Texts → Texts → Type 0
TextsStay old new = HasSame (entries_of old) (entries_of new)

-- the versions of one tuple change so, and those of the others stay
abbrev pub TextsChangeAt : Tuple → (List Version → List Version) → Texts → Texts → Type 0
TextsChangeAt t f old new = ChangesAt t f (entries_of old) (entries_of new)
