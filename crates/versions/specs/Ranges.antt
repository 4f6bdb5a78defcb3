-- The tuples of one revision whose texts begin alike.
use Rattle.std.specs.Prelude.{◌≡◌, ℕ, List, [], ◌∷◌, Bool, cond, ◌&&◌}
use Rattle.std.specs.List.Sorted.{IsStrictlySortedBy}
use Rattle.std.specs.Map.{keys_of}
use Rattle.std.specs.Ordering.{is_le}
use Rattle.std.specs.declared.cmp.Ordering.TheVariants.{Less}
use Rattle.names.specs.Order.{tuple_cmp}
use Rattle.names.specs.declared.tuple.Tuple.{Tuple}
use Rattle.tuple_keys.specs.Spelled.{tuple_of}
use Rattle.tuple_keys.specs.Texts.{text_cmp, begins}
use Rattle.versions.specs.Versions.{stands, IsRising}
use Rattle.versions.specs.Texts.{Texts, AreSpelled}

-- the tuple is this one or comes later
abbrev pub is_from : Tuple → Tuple → Bool
is_from least t = is_le (tuple_cmp least t)

-- the tuples of the texts that begin so, as far as they stand at the revision
abbrev pub standing_in : List ℕ → ℕ → Texts → List Tuple
standing_in start rev [] = []
standing_in start rev (e ∷ es) = cond (stands e.1 rev && begins start e.0) (tuple_of e.0 ∷ standing_in start rev es) (standing_in start rev es)

-- the versions at each text are in the order of their revisions
abbrev pub AllRising : Texts → Type 0
AllRising [] = Unit {0}
AllRising (e ∷ es) = IsRising e.1 × AllRising es

-- no text is below this
abbrev pub AreFrom : List ℕ → Texts → Type 0
AreFrom start [] = Unit {0}
AreFrom start (e ∷ es) = (text_cmp e.0 start ≡ Less → ⊥) × AreFrom start es

-- the texts are tuples', in order, and not below what those begin with that are sought
pub record IsRange (start : List ℕ) (texts : Texts) : Type 0 where
  pub spelled : AreSpelled texts
  pub rising : AllRising texts
  pub sorted : IsStrictlySortedBy text_cmp (keys_of texts)
  pub above : AreFrom start texts
