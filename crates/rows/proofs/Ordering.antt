-- What keeps each commit's events in order.
use Rattle.std.proofs.Common.{◌≡◌, ℕ, ◌<◌, true, List, [], ◌∷◌, ◌++◌, map, length, take, drop, zero, suc, refl, sym, subst, get_or}
use Rattle.std.specs.List.{list_all}
use Rattle.std.proofs.lemmas.Bool.{true≢false, and_parts, and_from}
use Rattle.names.specs.declared.commit.Event.{Event}
use Rattle.names.specs.declared.commit.Commit.{Commit}
use Rattle.names.specs.declared.commit.Commit.TheVariants as kinds
use Rattle.meaning.specs.Config.{Configured}
use Rattle.meaning.specs.History.{History}
use Rattle.meaning.specs.Verdict.{is_in_range}
use Rattle.rows.specs.Ordered.{is_in_order, is_ordered, AreOrdered}
use Rattle.rows.specs.Follows.{touch_of}
use Rattle.versions.proofs.VersionRuns.{take_none}
use Rattle.versions.proofs.Settling.{drop_none, take_more}

pub ordered_take : (k : ℕ) (h : History) → AreOrdered h → AreOrdered (take k h)
ordered_take zero h all = subst AreOrdered (sym (take_none h)) refl
ordered_take (suc k) [] all = refl
ordered_take (suc k) (c ∷ h) all =
    let p = and_parts (is_ordered c) (list_all is_ordered h) all in
    and_from (is_ordered c) (list_all is_ordered (take k h)) p.0 (ordered_take k h p.1)

pub ordered_drop : (k : ℕ) (h : History) → AreOrdered h → AreOrdered (drop k h)
ordered_drop zero h all = subst AreOrdered (sym (drop_none h)) all
ordered_drop (suc k) [] all = refl
ordered_drop (suc k) (c ∷ h) all = ordered_drop k h (and_parts (is_ordered c) (list_all is_ordered h) all).1

pub ordered_push : (h : History) (c : Commit Configured) → AreOrdered h → is_ordered c ≡ true → AreOrdered (h ++ c ∷ [])
ordered_push [] c all last = and_from (is_ordered c) true last refl
ordered_push (d ∷ h) c all last =
    let p = and_parts (is_ordered d) (list_all is_ordered h) all in
    and_from (is_ordered d) (list_all is_ordered (h ++ c ∷ [])) p.0 (ordered_push h c p.1 last)

pub ordered_before : (h : History) (c : Commit Configured) → AreOrdered (h ++ c ∷ []) → AreOrdered h
ordered_before [] c all = refl
ordered_before (d ∷ h) c all =
    let p = and_parts (is_ordered d) (list_all is_ordered (h ++ c ∷ [])) all in
    and_from (is_ordered d) (list_all is_ordered h) p.0 (ordered_before h c p.1)

ordered_last : (h : History) (c : Commit Configured) → AreOrdered (h ++ c ∷ []) → is_ordered c ≡ true
ordered_last [] c all = (and_parts (is_ordered c) true all).0
ordered_last (d ∷ h) c all = ordered_last h c (and_parts (is_ordered d) (list_all is_ordered (h ++ c ∷ [])) all).1

-- the commit at one place
pub ordered_at : (h : History) (k : ℕ) (c : Commit Configured) → k < length h → c ≡ get_or h k c → AreOrdered h → is_ordered c ≡ true
ordered_at h k c small is all = ordered_last (take k h) c (subst AreOrdered (take_more h k c small is) (ordered_take (suc k) h all))

-- a write that is accepted has an operation
pub ordered_write : (events : List Event) → is_in_order events ≡ true → is_in_range (map touch_of events) ≡ true → is_ordered (kinds.Tuples events) ≡ true
ordered_write [] order range = absurd (true≢false (sym range))
ordered_write (e ∷ es) order range = order
