-- How many tuples operations on distinct tuples leave, and how many rows they make.
use Rattle.std.proofs.Common.{◌≡◌, Some, None, ℕ, ◌+◌, ◌-◌, ◌<◌, ◌≤◌, List, [], ◌∷◌, length, Bool, true, false, cond, refl, sym, ap, ◌∙◌, arith}
use Rattle.std.specs.Prelude.{not, ◌&&◌, ◌||◌, map, count_by, nat_lt}
use mathlib.Core.Bool.{true≢false}
use Rattle.std.specs.List.{list_any}
use Rattle.std.proofs.lemmas.Bool.Decides.{nat_tests}
use Rattle.std.proofs.lemmas.List.Recursion.{is_count_by}
use Rattle.names.specs.Order.{is_same_tuple, tuple_cmp}
use Rattle.names.specs.declared.tuple.Tuple.{Tuple}
use Rattle.names.specs.declared.write.Op.{Op}
use Rattle.names.specs.declared.write.OpKind.{OpKind}
use Rattle.names.specs.declared.write.OpKind.TheVariants.{Insert, Touch, Delete}
use Rattle.std.specs.Ordering.{eq_by_cmp}
use Rattle.names.specs.declared.limits.TheConstants.{MAX_REV, MAX_ROWS, MAX_TUPLES}
use Rattle.meaning.specs.Snap.{Snap}
use Rattle.meaning.specs.TupleSet as set
use Rattle.meaning.specs.TupleSet.{Tuples}
use Rattle.meaning.specs.History.{after_kind, after_event, replay, puts_in, puts_of_kind}
use Rattle.meaning.specs.Verdict.{event_of, kind_of, is_insert, is_delete, is_twice, is_full, first_from, inserts_again, deletes_nothing}
use Rattle.meaning.proofs.TupleSets.{contains_items, len_items, len_insert, len_remove}
use Rattle.rows.specs.Judging.{puts_tuple, adds_tuple, takes_tuple}
use Rattle.rows.specs.inside.Counting.{is_new, is_new_by, deletes}
use Rattle.versions.specs.Versions.{is_put}
use Rattle.versions.proofs.VersionRuns.{after_one}
use Rattle.versions.proofs.Bases.{same_turned}

abbrev counted : (Op → Bool) → List Op → ℕ
counted p [] = 0
counted p (o ∷ os) = cond (p o) (1 + counted p os) (counted p os)

counts : (p : Op → Bool) (os : List Op) → counted p os ≡ count_by p os
counts p os = is_count_by (counted p) p refl (λ o os. refl) os

-- operations on other tuples find what they found
otherwise : (s : Tuples) (o p : Op) → is_same_tuple o.tuple p.tuple ≡ false → set.contains (after_event s (event_of o)) p.tuple ≡ set.contains s p.tuple
otherwise s o p other = after_one s (kind_of o.kind) o.tuple p.tuple ∙ ap (λ b. cond b (is_put (kind_of o.kind)) (set.contains s p.tuple)) (same_turned p.tuple o.tuple ∙ other)

or_left : (a b : Bool) → (a || b) ≡ false → a ≡ false
or_left true b h = h
or_left false b h = refl

or_right : (a b : Bool) → (a || b) ≡ false → b ≡ false
or_right true b h = absurd (true≢false h)
or_right false b h = h

same_count : (g : Op → Bool → Bool) (s : Tuples) (o : Op) (os : List Op) → list_any (λ p. is_same_tuple o.tuple p.tuple) os ≡ false
    → counted (λ p. g p (set.contains (after_event s (event_of o)) p.tuple)) os ≡ counted (λ p. g p (set.contains s p.tuple)) os
same_count g s o [] h = refl
same_count g s o (p ∷ os) h =
    ap (λ b. cond (g p b) (1 + counted (λ p. g p (set.contains (after_event s (event_of o)) p.tuple)) os) (counted (λ p. g p (set.contains (after_event s (event_of o)) p.tuple)) os)) (otherwise s o p (or_left (is_same_tuple o.tuple p.tuple) _ h))
    ∙ ap (λ n. cond (g p (set.contains s p.tuple)) (1 + n) n) (same_count g s o os (or_right (is_same_tuple o.tuple p.tuple) _ h))

-- a set that has a tuple is not empty
some_len : (ts : List Tuple) (q : Tuple) → list_any (eq_by_cmp tuple_cmp q) ts ≡ true → 0 < length ts
some_len [] q h = absurd (true≢false (sym h))
some_len (t ∷ ts) q h = omega arith

held_some : (s : Tuples) (t : Tuple) → set.contains s t ≡ true → 0 < set.len s
held_some s t h = let some = some_len (set.items s) t (sym (contains_items s t) ∙ h) in omega (arith, len_items s)

put_len : (b : Bool) (n m : ℕ) → m ≡ cond b n (n + 1) → m + 0 ≡ n + cond (not b) 1 0
put_len true n m h = omega (arith, h)
put_len false n m h = omega (arith, h)

del_len : (b : Bool) (n m : ℕ) → (b ≡ true → 0 < n) → m ≡ cond b (n - 1) n → m + cond b 1 0 ≡ n + 0
del_len true n m some h = let some_n = some refl in omega (arith, h, some_n)
del_len false n m some h = omega (arith, h)

-- one operation
abbrev one : Bool → ℕ
one b = cond b 1 0

after_len : (s : Tuples) (k : OpKind) (t : Tuple) → set.len (after_kind (kind_of k) t s) + one (not (not (is_delete k)) && set.contains s t) ≡ set.len s + one (not (is_delete k) && not (set.contains s t))
after_len s Insert t = put_len (set.contains s t) (set.len s) _ (len_insert s t)
after_len s Touch t = put_len (set.contains s t) (set.len s) _ (len_insert s t)
after_len s Delete t = del_len (set.contains s t) (set.len s) _ (held_some s t) (len_remove s t)

counted_one : (p : Op → Bool) (o : Op) (os : List Op) → counted p (o ∷ os) ≡ one (p o) + counted p os
counted_one p o os = by_test (p o)
  where
    by_test : (b : Bool) → cond b (1 + counted p os) (counted p os) ≡ one b + counted p os
    by_test true = refl
    by_test false = omega arith

sums : (a b c d e f g h x y z w : ℕ) → a + b ≡ c + d → b ≡ x → d ≡ y → c + e ≡ f + g → z ≡ e + x → w ≡ g + y → a + z ≡ f + w
sums a b c d e f g h x y z w p q r s t u = omega (arith, p, q, r, s, t, u)

pub left_len : (s : Tuples) (os : List Op) → is_twice os ≡ false → set.len (replay s (map event_of os)) + counted (takes_tuple s) os ≡ set.len s + counted (adds_tuple s) os
left_len s [] once = refl
left_len s (o ∷ os) once =
    let t : Tuples = after_event s (event_of o) in
    let others = or_left (list_any (λ p. is_same_tuple o.tuple p.tuple) os) (is_twice os) once in
    sums _ (counted (takes_tuple t) os) (set.len t) (counted (adds_tuple t) os) (one (takes_tuple s o)) (set.len s) (one (adds_tuple s o)) 0
    (counted (takes_tuple s) os) (counted (adds_tuple s) os) (counted (takes_tuple s) (o ∷ os)) (counted (adds_tuple s) (o ∷ os))
    (left_len t os (or_right (list_any (λ p. is_same_tuple o.tuple p.tuple) os) (is_twice os) once))
    (same_count (λ p b. not (puts_tuple p) && b) s o os others)
    (same_count (λ p b. puts_tuple p && not b) s o os others)
    (after_len s o.kind o.tuple)
    (counted_one (takes_tuple s) o os)
    (counted_one (adds_tuple s) o os)

-- rows
puts_one : (k : OpKind) → puts_of_kind (kind_of k) ≡ one (not (is_delete k))
puts_one Insert = refl
puts_one Touch = refl
puts_one Delete = refl

pub rows_made : (os : List Op) → puts_in (map event_of os) ≡ count_by puts_tuple os
rows_made os = made os ∙ counts puts_tuple os
  where
    made : (os : List Op) → puts_in (map event_of os) ≡ counted puts_tuple os
    made [] = refl
    made (o ∷ os) = ap (λ n. n + puts_in (map event_of os)) (puts_one o.kind) ∙ ap (λ n. one (puts_tuple o) + n) (made os) ∙ sym (counted_one puts_tuple o os)

-- how many tuples are left
pub tuples_left : (s : Tuples) (os : List Op) → is_twice os ≡ false → set.len (replay s (map event_of os)) + count_by (takes_tuple s) os ≡ set.len s + count_by (adds_tuple s) os
tuples_left s os once =
    ap (λ n. set.len (replay s (map event_of os)) + n) (sym (counts (takes_tuple s) os))
    ∙ left_len s os once
    ∙ ap (λ n. set.len s + n) (counts (adds_tuple s) os)

-- where a test is true of no operation, two others that differ only there count alike
alike : (p q r : Op → Bool) → ((o : Op) → r o ≡ false → p o ≡ q o) → (n : ℕ) (os : List Op) → first_from r n os ≡ None → counted p os ≡ counted q os
alike p q r each n [] h = refl
alike p q r each n (o ∷ os) h = by_test (r o) refl h (alike p q r each (n + 1) os)
  where
    by_test : (b : Bool) → r o ≡ b → cond b (Some n) (first_from r (n + 1) os) ≡ None
        → (first_from r (n + 1) os ≡ None → counted p os ≡ counted q os) → counted p (o ∷ os) ≡ counted q (o ∷ os)
    by_test true is h rest = absurd cc
    by_test false is h rest =
        ap (λ b. cond b (1 + counted p os) (counted p os)) (each o is)
        ∙ ap (λ m. cond (q o) (1 + m) m) (rest h)

counts_alike : (p q r : Op → Bool) → ((o : Op) → r o ≡ false → p o ≡ q o) → (os : List Op) → first_from r 0 os ≡ None → count_by p os ≡ count_by q os
counts_alike p q r each os h = sym (counts p os) ∙ alike p q r each 0 os h ∙ counts q os

new_adds : (k : OpKind) (there : Bool) → (is_insert k && there) ≡ false → is_new_by k there ≡ (not (is_delete k) && not there)
new_adds Insert true h = absurd (true≢false h)
new_adds Insert false h = refl
new_adds Touch there h = refl
new_adds Delete there h = refl

delete_takes : (k : OpKind) (there : Bool) → (is_delete k && not there) ≡ false → not (not (is_delete k)) ≡ (not (not (is_delete k)) && there)
delete_takes Insert there h = refl
delete_takes Touch there h = refl
delete_takes Delete true h = refl
delete_takes Delete false h = absurd (true≢false h)

-- where no insert is of a tuple that is there
pub new_are_added : (s : Tuples) (os : List Op) → first_from (inserts_again s) 0 os ≡ None → count_by (is_new s) os ≡ count_by (adds_tuple s) os
new_are_added s = counts_alike (is_new s) (adds_tuple s) (inserts_again s) (λ o. new_adds o.kind (set.contains s o.tuple))

-- where no delete is of a tuple that is not
pub deletes_are_taken : (s : Tuples) (os : List Op) → first_from (deletes_nothing s) 0 os ≡ None → count_by deletes os ≡ count_by (takes_tuple s) os
deletes_are_taken s = counts_alike deletes (takes_tuple s) (deletes_nothing s) (λ o. delete_takes o.kind (set.contains s o.tuple))

-- the limits
lt_true : (m n : ℕ) → m < n → nat_lt m n ≡ true
lt_true m n h = grind (arith, nat_tests)

lt_false : (m n : ℕ) → n ≤ m → nat_lt m n ≡ false
lt_false m n h = grind (arith, nat_tests)

pub less : (m n : ℕ) → nat_lt m n ≡ true → m < n
less m n h = grind (arith, nat_tests)

pub not_less : (m n : ℕ) → nat_lt m n ≡ false → n ≤ m
not_less m n h = grind (arith, nat_tests)

first_full : (a b c : Bool) → a ≡ true → true ≡ (a || b || c)
first_full true b c h = refl
first_full false b c h = absurd (true≢false (sym h))

second_full : (a b c : Bool) → a ≡ false → b ≡ true → true ≡ (a || b || c)
second_full true b c h k = absurd (true≢false h)
second_full false true c h k = refl
second_full false false c h k = absurd (true≢false (sym k))

third_full : (a b c : Bool) → a ≡ false → b ≡ false → c ≡ (a || b || c)
third_full true b c h k = absurd (true≢false h)
third_full false true c h k = absurd (true≢false k)
third_full false false c h k = refl

module _ (rev rows : ℕ) (s : Snap) (os : List Op) (once : is_twice os ≡ false) (held added taken : ℕ)
    (held_is : held ≡ set.len s.tuples) (added_is : added ≡ count_by (adds_tuple s.tuples) os) (taken_is : taken ≡ count_by (takes_tuple s.tuples) os) where
  -- too many tuples
  pub too_many : MAX_TUPLES + taken < held + added → true ≡ is_full (record { rev = rev; rows = rows; held = s }) (map event_of os)
  too_many more =
      let left = tuples_left s.tuples os once in
      first_full (nat_lt MAX_TUPLES (set.len (replay s.tuples (map event_of os)))) (nat_lt MAX_ROWS (rows + puts_in (map event_of os))) (nat_lt MAX_REV (rev + 1))
      (lt_true MAX_TUPLES (set.len (replay s.tuples (map event_of os))) (omega (arith, left, held_is, added_is, taken_is, more)))

  few : held + added ≤ MAX_TUPLES + taken → nat_lt MAX_TUPLES (set.len (replay s.tuples (map event_of os))) ≡ false
  few fits =
      let left = tuples_left s.tuples os once in
      lt_false MAX_TUPLES (set.len (replay s.tuples (map event_of os))) (omega (arith, left, held_is, added_is, taken_is, fits))

  -- too many rows
  pub too_long : (puts : ℕ) → puts ≡ count_by puts_tuple os → held + added ≤ MAX_TUPLES + taken → MAX_ROWS < rows + puts
      → nat_lt MAX_ROWS (rows + puts) ≡ is_full (record { rev = rev; rows = rows; held = s }) (map event_of os)
  too_long puts puts_is fits more =
      let made = rows_made os in
      lt_true MAX_ROWS (rows + puts) more
      ∙ second_full (nat_lt MAX_TUPLES (set.len (replay s.tuples (map event_of os)))) (nat_lt MAX_ROWS (rows + puts_in (map event_of os))) (nat_lt MAX_REV (rev + 1))
      (few fits) (lt_true MAX_ROWS (rows + puts_in (map event_of os)) (omega (arith, made, puts_is, more)))

  -- the revisions decide
  pub by_revisions : (puts : ℕ) → puts ≡ count_by puts_tuple os → held + added ≤ MAX_TUPLES + taken → rows + puts ≤ MAX_ROWS
      → nat_lt MAX_REV (rev + 1) ≡ is_full (record { rev = rev; rows = rows; held = s }) (map event_of os)
  by_revisions puts puts_is fits short =
      let made = rows_made os in
      third_full (nat_lt MAX_TUPLES (set.len (replay s.tuples (map event_of os)))) (nat_lt MAX_ROWS (rows + puts_in (map event_of os))) (nat_lt MAX_REV (rev + 1))
      (few fits) (lt_false MAX_ROWS (rows + puts_in (map event_of os)) (omega (arith, made, puts_is, short)))
