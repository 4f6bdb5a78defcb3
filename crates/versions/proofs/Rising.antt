-- The versions at each text are in the order of their revisions.
use Rattle.std.proofs.Common.{◌≡◌, ℕ, List, [], ◌∷◌, ap, sym, subst}
use Rattle.std.specs.Prelude.{Bool, true, false, cond}
use Rattle.std.specs.Map.{keys_of}
use Rattle.std.specs.List.Sorted.{IsStrictlySortedBy}
use Rattle.std.specs.BTreeMap.Range.{range_contains}
use Rattle.std.specs.declared.ops.Bound.TheVariants.{Included, Unbounded}
use Rattle.tuple_keys.specs.Spelled.{tuple_of}
use Rattle.versions.specs.Versions.{Entries, items_or, IsRising, AreRising}
use Rattle.versions.specs.Texts.{Texts, entries_of, AreSpelled}
use Rattle.shelf.specs.Texts.{text_cmp}
use Rattle.versions.specs.Ranges.{AllRising}
use Rattle.versions.proofs.Decoding.{sorted_tuples}
use Rattle.versions.proofs.Picking.{AreIn, all_in}
use Rattle.versions.proofs.Together.{from}

rising_in : (m : Entries) → AreRising m → (es : Texts) → AreIn m (entries_of es) → AllRising es
rising_in m r [] are = tt
rising_in m r (e ∷ es) are = (subst IsRising (ap items_or are.0) (r (tuple_of e.0)), rising_in m r es are.1)

-- as those of each tuple are
pub all_rising : (es : Texts) → AreSpelled es → IsStrictlySortedBy text_cmp (keys_of es) → (m : Entries) → entries_of es ≡ m → AreRising m → AllRising es
all_rising es s sorted m is r = rising_in (entries_of es) (subst AreRising (sym is) r) es (all_in (entries_of es) (sorted_tuples es s sorted))

-- also from a text on
pub from_rising : (least : List ℕ) (es : Texts) → AllRising es → AllRising (from least es)
from_rising least [] r = r
from_rising least (e ∷ es) r = by_test (range_contains text_cmp (Included least) Unbounded e.0) (from_rising least es r.1)
  where
    by_test : (b : Bool) → AllRising (from least es) → AllRising (cond b (e ∷ from least es) (from least es))
    by_test true rest = (r.0, rest)
    by_test false rest = rest
