-- The revision of a tuple's last version says whether later commits touch it.
use Rattle.std.proofs.Common.{◌≡◌, ℕ, ◌+◌, ◌-◌, ◌≤◌, List, [], ◌∷◌, ◌++◌, drop, zero, suc, refl, ap, sym, ◌∙◌, arith}
use Rattle.std.specs.Prelude.{Bool, true, false, cond, not, ◌||◌, ◌&&◌, nat_le}
use Rattle.std.specs.List.{list_any}
use Rattle.std.proofs.lemmas.Bool.{le-leb, lt-leb}
use Rattle.names.specs.Order.{is_same_tuple}
use Rattle.names.specs.declared.tuple.Tuple.{Tuple}
use Rattle.names.specs.declared.commit.Event.{Event}
use Rattle.names.specs.declared.commit.Commit.{Commit}
use Rattle.names.specs.declared.commit.Commit.TheVariants as kinds
use Rattle.meaning.specs.TupleSet as set
use Rattle.meaning.specs.Config.{Configured}
use Rattle.meaning.specs.History.{History}
use Rattle.versions.specs.declared.version.Version.{Version}
use Rattle.rows.specs.Retained.{Retained, touches, is_touched_after}
use Rattle.versions.specs.Versions.{Entries, version_of, versions_in, commit_versions, versions_after, versions_at, base_versions, last_rev, last_rev_from, AreVersions}
use Rattle.rows.proofs.Retaining.{whole}

rev_in : (n r : ℕ) (es : List Event) (q : Tuple) (later : List Version) → last_rev_from n (versions_in r es q ++ later) ≡ last_rev_from (cond (list_any (λ e. is_same_tuple q e.tuple) es) r n) later
rev_in n r [] q later = refl
rev_in n r (e ∷ es) q later = by_same (is_same_tuple q e.tuple) (rev_in r r es q later) (rev_in n r es q later)
  where
    both : (b : Bool) → last_rev_from (cond b r r) later ≡ last_rev_from r later
    both true = refl
    both false = refl

    by_same : (same : Bool) → last_rev_from r (versions_in r es q ++ later) ≡ last_rev_from (cond (list_any (λ e. is_same_tuple q e.tuple) es) r r) later
        → last_rev_from n (versions_in r es q ++ later) ≡ last_rev_from (cond (list_any (λ e. is_same_tuple q e.tuple) es) r n) later
        → last_rev_from n (cond same (version_of r e ∷ versions_in r es q) (versions_in r es q) ++ later) ≡ last_rev_from (cond (same || list_any (λ e. is_same_tuple q e.tuple) es) r n) later
    by_same true touched rest = touched ∙ both (list_any (λ e. is_same_tuple q e.tuple) es)
    by_same false touched rest = rest

rev_commit : (n r : ℕ) (c : Commit Configured) (q : Tuple) (later : List Version) → last_rev_from n (commit_versions r c q ++ later) ≡ last_rev_from (cond (touches q c) r n) later
rev_commit n r (kinds.Tuples es) q later = rev_in n r es q later
rev_commit n r (kinds.Config config) q later = refl

late_rev : (n f rev : ℕ) (h : History) (q : Tuple) → rev ≤ f → nat_le (last_rev_from n (versions_after f h q)) rev ≡ (nat_le n rev && not (list_any (touches q) h))
late_rev n f rev [] q small = sym (and_true (nat_le n rev))
  where
    and_true : (b : Bool) → (b && true) ≡ b
    and_true true = refl
    and_true false = refl
late_rev n f rev (c ∷ h) q small =
    ap (λ m. nat_le m rev) (rev_commit n (f + 1) c q (versions_after (f + 1) h q))
    ∙ late_rev (cond (touches q c) (f + 1) n) (f + 1) rev h q (omega (arith, small))
    ∙ by_touched (touches q c) (lt-leb (f + 1) rev (omega (arith, small)))
  where
    and_false : (b : Bool) → false ≡ (b && false)
    and_false true = refl
    and_false false = refl

    by_touched : (t : Bool) → nat_le (f + 1) rev ≡ false → (nat_le (cond t (f + 1) n) rev && not (list_any (touches q) h)) ≡ (nat_le n rev && not (t || list_any (touches q) h))
    by_touched true above = ap (λ b. b && not (list_any (touches q) h)) above ∙ and_false (nat_le n rev)
    by_touched false above = refl

most : (b : Bool) (m n r : ℕ) → m ≤ r → n ≤ r → cond b m n ≤ r
most true m n r h k = h
most false m n r h k = k

touched_from : (n f k : ℕ) (h : History) (q : Tuple) → n ≤ f + k → nat_le (last_rev_from n (versions_after f h q)) (f + k) ≡ not (list_any (touches q) (drop k h))
touched_from n f zero h q small =
    late_rev n f (f + 0) h q (omega arith)
    ∙ ap (λ b. b && not (list_any (touches q) h)) (le-leb n (f + 0) small)
    ∙ ap (λ cs. not (list_any (touches q) cs)) (all h)
  where
    all : (h : History) → h ≡ drop 0 h
    all [] = refl
    all (c ∷ h) = refl
touched_from n f (suc k) [] q small = le-leb n (f + suc k) small
touched_from n f (suc k) (c ∷ h) q small =
    ap (λ m. nat_le m (f + suc k)) (rev_commit n (f + 1) c q (versions_after (f + 1) h q))
    ∙ ap (λ r. nat_le (last_rev_from (cond (touches q c) (f + 1) n) (versions_after (f + 1) h q)) r) (omega arith)
    ∙ touched_from (cond (touches q c) (f + 1) n) (f + 1) k h q (most (touches q c) (f + 1) n (f + 1 + k) (omega arith) (omega (arith, small)))

based_rev : (b : Bool) (ms : List Version) → last_rev (base_versions b ++ ms) ≡ last_rev ms
based_rev true ms = refl
based_rev false ms = refl

pub unchanged_is : (r : Retained) (m : Entries) (rev : ℕ) (q : Tuple) → AreVersions m r.base.tuples r.floor r.commits → r.floor ≤ rev → nat_le (last_rev (versions_at m q)) rev ≡ not (is_touched_after r q rev)
unchanged_is r m rev q versions h =
    ap (λ ms. nat_le (last_rev ms) rev) (versions q)
    ∙ ap (λ n. nat_le n rev) (based_rev (set.contains r.base.tuples q) (versions_after r.floor r.commits q))
    ∙ ap (λ n. nat_le (last_rev (versions_after r.floor r.commits q)) n) (sym (whole r.floor rev h))
    ∙ touched_from 0 r.floor (rev - r.floor) r.commits q (omega arith)
