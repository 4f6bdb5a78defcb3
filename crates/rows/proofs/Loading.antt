-- Making a history from what tables held.
use Rattle.std.proofs.Common.{◌≡◌, ℕ, ◌+◌, ◌<◌, ◌≤◌, List, [], ◌∷◌, ◌++◌, length, take, zero, suc, refl, ap, sym, subst, ◌∙◌, arith, get_or}
use Rattle.std.specs.List.Sorted.{IsStrictlySortedBy}
use Rattle.std.proofs.lemmas.List.{append-nil}
use Rattle.std.proofs.Math.Seq.{take-length}
use Rattle.names.specs.Order.{tuple_cmp}
use Rattle.names.specs.declared.tuple.Tuple.{Tuple}
use Rattle.names.specs.declared.commit.Commit.{Commit}
use Rattle.meaning.specs.TupleSet as set
use Rattle.meaning.specs.Config.{Configured}
use Rattle.meaning.specs.History.{History, after_commit, after_commits, rows_of, commit_rows}
use Rattle.meaning.proofs.TupleSets.{items_from_list, len_items}
use Rattle.rows.specs.declared.loaded.Loaded.{Loaded}
use Rattle.rows.specs.declared.loaded.Counts.{Counts}
use Rattle.rows.specs.Retained.{newest_of, AreAdmitted, IsAdmitted, with_commit, HasRoom}
use Rattle.rows.specs.Loads.{retained_of, loaded_to, IsWithin}
use Rattle.versions.specs.Versions.{Entries, versions_at, base_versions}
use Rattle.rows.specs.Representation.{IsConsistent}
use Rattle.versions.proofs.VersionRuns.{take_none}
use Rattle.versions.proofs.Settling.{after_push, take_more}
use Rattle.rows.proofs.Admitting.{all_first, all_at, to_all, of_all}
use Rattle.rows.proofs.Ordering.{ordered_at}
use Rattle.rows.proofs.Committing.{rows_push, length_push}

-- the tuples in order are as many as the set has
pub len_is : (tuples : List Tuple) → IsStrictlySortedBy tuple_cmp tuples → length tuples ≡ set.len (set.from_list tuples)
len_is tuples ordered = sym (len_items (set.from_list tuples) ∙ ap length (items_from_list tuples ordered))

rows_take : (k : ℕ) (h : History) → rows_of (take k h) ≤ rows_of h
rows_take zero h = let none = ap rows_of (take_none h) in omega (arith, none)
rows_take (suc k) [] = omega arith
rows_take (suc k) (c ∷ h) = let rest = rows_take k h in omega (arith, rest)

length_take : {A : Type 0} (k : ℕ) (xs : List A) → length (take k xs) ≤ length xs
length_take zero xs = let none = ap length (take_none xs) in omega (arith, none)
length_take (suc k) [] = omega arith
length_take (suc k) (x ∷ xs) = let rest = length_take k xs in omega (arith, rest)

-- the first tuples are admitted
first_admitted : (l : Loaded) → IsAdmitted (retained_of l) → IsAdmitted (record { number = l.number; floor = l.floor; base = record { config = l.config; tuples = set.from_list l.tuples }; commits = [] })
first_admitted l admitted = of_all (record { number = l.number; floor = l.floor; base = (retained_of l).base; commits = [] }) (all_first (retained_of l).base l.commits (to_all (retained_of l) admitted))

-- and those after each commit
next_admitted : (l : Loaded) (k : ℕ) (c : Commit Configured) → IsAdmitted (retained_of l) → take (suc k) l.commits ≡ take k l.commits ++ c ∷ [] → AreAdmitted (after_commit (newest_of (loaded_to l k)).held c)
next_admitted l k c admitted more =
    let base = (retained_of l).base in
    subst AreAdmitted (ap (after_commits base) more ∙ after_push base (take k l.commits) c) (all_at base l.commits (suc k) (to_all (retained_of l) admitted))

-- no commit yet
pub consistent_none : (l : Loaded) (m : Entries) (counts : Counts) → IsWithin l → ((q : Tuple) → versions_at m q ≡ base_versions (set.contains (set.from_list l.tuples) q))
    → counts.rows ≡ length l.tuples → counts.tuples ≡ length l.tuples
    → IsConsistent (record { number = l.number; floor = l.floor; base = record { config = l.config; tuples = set.from_list l.tuples }; commits = [] }) m [] counts
consistent_none l m counts within versions rows tuples =
    let len = len_is l.tuples within.ordered in
    let revs = within.revs in
    let few = within.rows in
    record {
      versions = λ q. versions q ∙ sym (append-nil (base_versions (set.contains (set.from_list l.tuples) q)));
      configs_right = refl;
      rows = omega (arith, rows, len);
      tuples = tuples ∙ len;
      revs = omega (arith, revs);
      few = omega (arith, few);
      admitted = first_admitted l within.admitted;
      each_ordered = refl;
    }

-- there is room for each commit
pub has_room : (l : Loaded) (k : ℕ) (c : Commit Configured) → IsWithin l → k < length l.commits → c ≡ get_or l.commits k c → HasRoom (loaded_to l k) c
has_room l k c within small is =
    let more = take_more l.commits k c small is in
    let rows : rows_of (take (suc k) l.commits) ≡ rows_of (take k l.commits) + commit_rows c = ap rows_of more ∙ rows_push (take k l.commits) c in
    let all = rows_take (suc k) l.commits in
    let longer : length (take (suc k) l.commits) ≡ length (take k l.commits) + 1 = ap length more ∙ length_push (take k l.commits) c in
    let fits = length_take (suc k) l.commits in
    let revs = within.revs in
    let few = within.rows in
    record {
      revs = omega (arith, longer, fits, revs);
      rows = omega (arith, rows, all, few);
      admitted = next_admitted l k c within.admitted more;
      ordered = ordered_at l.commits k c small is within.each_ordered;
    }

pub next_loaded : (l : Loaded) (k : ℕ) (c : Commit Configured) → k < length l.commits → c ≡ get_or l.commits k c → with_commit (loaded_to l k) c ≡ loaded_to l (k + 1)
next_loaded l k c small is =
    let next : suc k ≡ k + 1 = omega arith in
    ap (λ (h : History). record { number = l.number; floor = l.floor; base = record { config = l.config; tuples = set.from_list l.tuples }; commits = h }) (sym (take_more l.commits k c small is) ∙ ap (λ n. take n l.commits) next)

pub all_loaded : (l : Loaded) (k : ℕ) → k ≡ length l.commits → loaded_to l k ≡ retained_of l
all_loaded l k is = ap (λ (h : History). record { number = l.number; floor = l.floor; base = record { config = l.config; tuples = set.from_list l.tuples }; commits = h }) (ap (λ n. take n l.commits) is ∙ take-length l.commits)
