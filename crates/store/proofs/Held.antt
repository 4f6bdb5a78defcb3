-- What is alive at a revision is what the history holds there.
use Rattle.std.proofs.Common.{◌≡◌, ℕ, ◌+◌, ◌-◌, ◌<◌, ◌≤◌, List, [], ◌∷◌, take, refl, sym, ap, ◌∙◌, inl, inr, arith, zero, suc}
use Rattle.std.specs.Prelude.{Bool, true, false, cond, not, ◌&&◌, ◌||◌, ◌==◌, map, All, nat_le, nat_lt, Option, Some, None}
use Rattle.std.specs.List.{list_any}
use Rattle.std.specs.Ordering.{eq_by_cmp}
use Rattle.std.proofs.lemmas.Bool.{true≢false, and_parts, and_from, leb-true, eqb-true, eqb-false, lt-ltb, le-ltb, le-leb, eq-eqb, not-true}
use Rattle.names.specs.Order.{tuple_cmp, is_same_tuple}
use Rattle.names.specs.declared.tuple.Tuple.{Tuple}
use Rattle.names.specs.declared.commit.EventKind.{EventKind}
use Rattle.names.specs.declared.commit.EventKind.TheVariants.{Put, Del}
use Rattle.meaning.specs.TupleSet as set
use Rattle.meaning.specs.TupleSet.{Tuples}
use Rattle.meaning.specs.Config.{Configured}
use Rattle.meaning.specs.Snap.{Snap}
use Rattle.meaning.specs.History.{after_kind, replay, after_commit, after_commits}
use Rattle.meaning.proofs.TupleSets.{contains_items, contains_insert, contains_remove, same_tuples}
use Rattle.rows.specs.Retained.{snap_at, newest_of}
use Rattle.store.specs.Written.{ConfigAt, Written, IsSpan, IsSound, Pairwise, is_alive, is_moved, tuples_of, is_put_at, events_at, config_at, commit_of, commit_at, commits_above, last_up_to, config_up_to, are_apart, are_distinct, is_one, brings_one, history_of}
use Rattle.store.proofs.Picking.{In, same_bool, found, any_in, all_in}
use Rattle.store.proofs.Living.{is_of, one_tuple, contains_of, alive_next}

-- ---- events

abbrev pub puts : EventKind → Bool
puts Put = true
puts Del = false

pub after_kind_has : (s : Tuples) (k : EventKind) (t q : Tuple) → set.contains (after_kind k t s) q ≡ cond (is_same_tuple q t) (puts k) (set.contains s q)
after_kind_has s Put t q = contains_insert s t q ∙ by_same (is_same_tuple q t) (set.contains s q)
  where
    by_same : (a c : Bool) → (a || c) ≡ cond a true c
    by_same true c = refl
    by_same false c = refl
after_kind_has s Del t q = contains_remove s t q ∙ by_same (is_same_tuple q t) (set.contains s q)
  where
    by_same : (a c : Bool) → (not a && c) ≡ cond a false c
    by_same true c = refl
    by_same false c = refl

puts_cond : (b : Bool) → puts (cond b Put Del) ≡ b
puts_cond true = refl
puts_cond false = refl

-- events on some tuples, each of its kind by a test of its tuple
pub replayed : (g : Tuple → Bool) (ts : List Tuple) (s : Tuples) (q : Tuple)
    → set.contains (replay s (map (λ t. record { tuple = t; kind = cond (g t) Put Del }) ts)) q ≡ cond (list_any (eq_by_cmp tuple_cmp q) ts) (g q) (set.contains s q)
replayed g [] s q = refl
replayed g (t ∷ ts) s q = replayed g ts (after_kind (cond (g t) Put Del) t s) q ∙ by_same (is_same_tuple q t) refl (list_any (eq_by_cmp tuple_cmp q) ts)
  where
    by_same : (b : Bool) → is_same_tuple q t ≡ b → (rest : Bool)
        → cond rest (g q) (set.contains (after_kind (cond (g t) Put Del) t s) q) ≡ cond (is_same_tuple q t || rest) (g q) (set.contains s q)
    by_same true e true = sym (ap (λ b. cond (b || true) (g q) (set.contains s q)) e)
    by_same true e false =
        after_kind_has s (cond (g t) Put Del) t q
        ∙ ap (λ b. cond b (puts (cond (g t) Put Del)) (set.contains s q)) e
        ∙ puts_cond (g t)
        ∙ ap g (sym (one_tuple q t e))
        ∙ sym (ap (λ b. cond (b || false) (g q) (set.contains s q)) e)
    by_same false e true = sym (ap (λ b. cond (b || true) (g q) (set.contains s q)) e)
    by_same false e false =
        after_kind_has s (cond (g t) Put Del) t q
        ∙ ap (λ b. cond b (puts (cond (g t) Put Del)) (set.contains s q)) e
        ∙ sym (ap (λ b. cond (b || false) (g q) (set.contains s q)) e)

-- ---- configurations

pub last_below : (rev : ℕ) (cs : List ConfigAt) → (last_up_to rev cs).rev ≤ rev
last_below rev [] = omega arith
last_below rev (c ∷ cs) = by_first (nat_le c.rev rev) refl (nat_lt (last_up_to rev cs).rev c.rev) (last_below rev cs)
  where
    by_first : (a : Bool) → nat_le c.rev rev ≡ a → (b : Bool) → (last_up_to rev cs).rev ≤ rev → (cond (a && b) c (last_up_to rev cs)).rev ≤ rev
    by_first true e true rest = leb-true c.rev rev e
    by_first true e false rest = rest
    by_first false e b rest = rest

-- where none is of the next revision, the last is as before it
pub last_still : (rev : ℕ) (cs : List ConfigAt) → config_at (rev + 1) cs ≡ None → last_up_to (rev + 1) cs ≡ last_up_to rev cs
last_still rev [] h = refl
last_still rev (c ∷ cs) h = by_here (last_still rev cs) (c.rev == (rev + 1)) refl h
  where
    same_le : (c.rev ≡ rev + 1 → ⊥) → nat_le c.rev (rev + 1) ≡ nat_le c.rev rev
    same_le ne = same_bool (nat_le c.rev (rev + 1)) (nat_le c.rev rev)
        (λ a. let b = leb-true c.rev (rev + 1) a in le-leb c.rev rev (omega (arith, b, ne)))
        (λ a. let b = leb-true c.rev rev a in le-leb c.rev (rev + 1) (omega (arith, b)))

    by_here : (config_at (rev + 1) cs ≡ None → last_up_to (rev + 1) cs ≡ last_up_to rev cs) → (b : Bool) → (c.rev == (rev + 1)) ≡ b → cond b (Some c.config) (config_at (rev + 1) cs) ≡ None
        → cond (nat_le c.rev (rev + 1) && nat_lt (last_up_to (rev + 1) cs).rev c.rev) c (last_up_to (rev + 1) cs) ≡ cond (nat_le c.rev rev && nat_lt (last_up_to rev cs).rev c.rev) c (last_up_to rev cs)
    by_here rest true e h = cc
    by_here rest false e h =
        ap (λ (l : ConfigAt). cond (nat_le c.rev (rev + 1) && nat_lt l.rev c.rev) c l) (rest h)
        ∙ ap (λ b. cond (b && nat_lt (last_up_to rev cs).rev c.rev) c (last_up_to rev cs)) (same_le (eqb-false c.rev (rev + 1) e))

-- the last of configurations that are of other revisions
last_other : (rev : ℕ) (cs : List ConfigAt) → 0 < rev → ((c : ConfigAt) → In c cs → c.rev ≡ rev → ⊥) → (last_up_to rev cs).rev < rev
last_other rev [] some others = some
last_other rev (c ∷ cs) some others = by_first (nat_le c.rev rev) refl (nat_lt (last_up_to rev cs).rev c.rev) (last_other rev cs some (λ d i. others d (inr i)))
  where
    below : nat_le c.rev rev ≡ true → c.rev < rev
    below e = let a = leb-true c.rev rev e in let b = others c (inl refl) in omega (arith, a, b)

    by_first : (a : Bool) → nat_le c.rev rev ≡ a → (b : Bool) → (last_up_to rev cs).rev < rev → (cond (a && b) c (last_up_to rev cs)).rev < rev
    by_first true e true rest = below e
    by_first true e false rest = rest
    by_first false e b rest = rest

-- where one is of the revision, it is the last
pub last_here : (floor rev : ℕ) (cs : List ConfigAt) (config : Configured) → 0 < rev → Pairwise (are_distinct floor) cs → config_at rev cs ≡ Some config → (config_up_to rev cs ≡ config) × ((last_up_to rev cs).rev ≡ rev)
last_here floor rev [] config some apart h = cc
last_here floor rev (c ∷ cs) config some apart h = by_here (last_here floor rev cs config some apart.1) (c.rev == rev) refl h
  where
    differs : (d : ConfigAt) → are_distinct floor c d ≡ true → c.rev ≡ d.rev → ⊥
    differs d h e = true≢false (sym h ∙ ap (λ b. cond b false (nat_lt floor c.rev || nat_lt floor d.rev)) (eq-eqb c.rev d.rev e))

    is_last : c.rev ≡ rev → c.config ≡ config → (nat_le c.rev rev && nat_lt (last_up_to rev cs).rev c.rev) ≡ true
        → ((cond (nat_le c.rev rev && nat_lt (last_up_to rev cs).rev c.rev) c (last_up_to rev cs)).config ≡ config) × ((cond (nat_le c.rev rev && nat_lt (last_up_to rev cs).rev c.rev) c (last_up_to rev cs)).rev ≡ rev)
    is_last at is t = (ap (λ b. (cond b c (last_up_to rev cs)).config) t ∙ is, ap (λ b. (cond b c (last_up_to rev cs)).rev) t ∙ at)

    not_last : (last_up_to rev cs).config ≡ config → (last_up_to rev cs).rev ≡ rev → (nat_le c.rev rev && nat_lt (last_up_to rev cs).rev c.rev) ≡ false
        → ((cond (nat_le c.rev rev && nat_lt (last_up_to rev cs).rev c.rev) c (last_up_to rev cs)).config ≡ config) × ((cond (nat_le c.rev rev && nat_lt (last_up_to rev cs).rev c.rev) c (last_up_to rev cs)).rev ≡ rev)
    not_last is at t = (ap (λ b. (cond b c (last_up_to rev cs)).config) t ∙ is, ap (λ b. (cond b c (last_up_to rev cs)).rev) t ∙ at)

    late : (last_up_to rev cs).rev ≡ rev → (nat_le c.rev rev && nat_lt (last_up_to rev cs).rev c.rev) ≡ false
    late at = by_le (nat_le c.rev rev) refl
      where
        by_le : (a : Bool) → nat_le c.rev rev ≡ a → (a && nat_lt (last_up_to rev cs).rev c.rev) ≡ false
        by_le true e = let x = leb-true c.rev rev e in le-ltb (last_up_to rev cs).rev c.rev (omega (arith, x, at))
        by_le false e = refl

    first_here : c.rev ≡ rev → (nat_le c.rev rev && nat_lt (last_up_to rev cs).rev c.rev) ≡ true
    first_here at =
        let rest : (last_up_to rev cs).rev < rev = last_other rev cs some (λ d i e. differs d (all_in (λ d. are_distinct floor c d ≡ true) cs apart.0 d i) (at ∙ sym e)) in
        and_from (nat_le c.rev rev) (nat_lt (last_up_to rev cs).rev c.rev) (le-leb c.rev rev (omega (arith, at))) (lt-ltb (last_up_to rev cs).rev c.rev (omega (arith, rest, at)))

    by_here : (config_at rev cs ≡ Some config → (config_up_to rev cs ≡ config) × ((last_up_to rev cs).rev ≡ rev)) → (b : Bool) → (c.rev == rev) ≡ b → cond b (Some c.config) (config_at rev cs) ≡ Some config
        → ((cond (nat_le c.rev rev && nat_lt (last_up_to rev cs).rev c.rev) c (last_up_to rev cs)).config ≡ config) × ((cond (nat_le c.rev rev && nat_lt (last_up_to rev cs).rev c.rev) c (last_up_to rev cs)).rev ≡ rev)
    by_here rest true e h = let at = eqb-true c.rev rev e in is_last at (cc) (first_here at)
    by_here rest false e h = let r = rest h in not_last r.0 r.1 (late r.1)

-- ---- from one revision to the next

-- what the rows say of a revision
abbrev pub snap_in : Written → ℕ → Snap
snap_in w rev = record { config = config_up_to rev w.configs; tuples = tuples_of (is_alive rev) w.spans }

-- rows of a history, whatever their number
pub record IsWhole (w : Written) : Type 0 where
  pub order : w.floor ≤ w.newest
  pub spans_are : All (IsSpan w.floor w.newest) w.spans
  pub apart : Pairwise are_apart w.spans
  pub distinct : Pairwise (are_distinct w.floor) w.configs
  pub whole : (rev : ℕ) → w.floor < rev → rev ≤ w.newest → brings_one w rev ≡ true

pub whole_of : (w : Written) → IsSound w → IsWhole w
whole_of w sound = record { order = sound.order; spans_are = sound.spans_are; apart = sound.apart; distinct = sound.distinct; whole = sound.whole }

module _ (w : Written) (sound : IsWhole w) where
  has_next : (rev : ℕ) (t : Tuple) → set.contains (tuples_of (is_alive (rev + 1)) w.spans) t
      ≡ cond (list_any (is_of t (is_moved (rev + 1))) w.spans) (is_put_at (rev + 1) w.spans t) (set.contains (tuples_of (is_alive rev) w.spans) t)
  has_next rev t =
      contains_of (is_alive (rev + 1)) w.spans t
      ∙ alive_next w.floor w.newest w.spans sound.spans_are sound.apart rev t
      ∙ ap (λ b. cond (list_any (is_of t (is_moved (rev + 1))) w.spans) (is_put_at (rev + 1) w.spans t) b) (sym (contains_of (is_alive rev) w.spans t))

  by_events : (rev : ℕ) → replay (tuples_of (is_alive rev) w.spans) (events_at (rev + 1) w.spans) ≡ tuples_of (is_alive (rev + 1)) w.spans
  by_events rev = same_tuples _ _ (λ q.
      replayed (is_put_at (rev + 1) w.spans) (set.items (tuples_of (is_moved (rev + 1)) w.spans)) (tuples_of (is_alive rev) w.spans) q
      ∙ ap (λ b. cond b (is_put_at (rev + 1) w.spans q) (set.contains (tuples_of (is_alive rev) w.spans) q))
      (sym (contains_items (tuples_of (is_moved (rev + 1)) w.spans) q) ∙ contains_of (is_moved (rev + 1)) w.spans q)
      ∙ sym (has_next rev q))

  -- where no tuple comes or goes
  by_config : (rev : ℕ) → list_any (is_moved (rev + 1)) w.spans ≡ false → tuples_of (is_alive rev) w.spans ≡ tuples_of (is_alive (rev + 1)) w.spans
  by_config rev still = same_tuples _ _ (λ q. sym (has_next rev q ∙ ap (λ b. cond b (is_put_at (rev + 1) w.spans q) (set.contains (tuples_of (is_alive rev) w.spans) q)) (none q)))
    where
      none : (q : Tuple) → list_any (is_of q (is_moved (rev + 1))) w.spans ≡ false
      none q = by_any (list_any (is_of q (is_moved (rev + 1))) w.spans) refl
        where
          by_any : (b : Bool) → list_any (is_of q (is_moved (rev + 1))) w.spans ≡ b → b ≡ false
          by_any true e =
              let l = found (is_of q (is_moved (rev + 1))) w.spans e in
              absurd (true≢false (sym (any_in (is_moved (rev + 1)) w.spans l.0 l.1 (and_parts (is_same_tuple q (l.0).tuple) (is_moved (rev + 1) l.0) l.2).1) ∙ still))
          by_any false e = refl

  next_is : (rev : ℕ) → w.floor ≤ rev → rev + 1 ≤ w.newest → after_commit (snap_in w rev) (commit_at w (rev + 1)) ≡ snap_in w (rev + 1)
  next_is rev low high = by_kind (config_at (rev + 1) w.configs) refl (sound.whole (rev + 1) (omega arith) high)
    where
      snap_by : (c d : Configured) (s t : Tuples) → c ≡ d → s ≡ t → ◌≡◌ {A = Snap} (record { config = c; tuples = s }) (record { config = d; tuples = t })
      snap_by c d s t p q = cc

      by_kind : (o : Option Configured) → config_at (rev + 1) w.configs ≡ o → is_one (config_at (rev + 1) w.configs) (list_any (is_moved (rev + 1)) w.spans) ≡ true
          → after_commit (snap_in w rev) (commit_of o (events_at (rev + 1) w.spans)) ≡ snap_in w (rev + 1)
      by_kind (Some config) e one =
          snap_by config (config_up_to (rev + 1) w.configs) _ _ (sym (last_here w.floor (rev + 1) w.configs config (omega arith) sound.distinct e).0)
          (by_config rev (not-true (list_any (is_moved (rev + 1)) w.spans) (sym (ap (λ o. is_one o (list_any (is_moved (rev + 1)) w.spans)) e) ∙ one)))
      by_kind None e one = snap_by _ _ _ _ (sym (ap (λ (l : ConfigAt). l.config) (last_still rev w.configs e))) (by_events rev)

  -- what the history holds a number of revisions above one
  pub held_above : (n rev : ℕ) → w.floor ≤ rev → rev + n ≤ w.newest → after_commits (snap_in w rev) (commits_above w rev n) ≡ snap_in w (rev + n)
  held_above zero rev low high = ap (snap_in w) (omega arith)
  held_above (suc n) rev low high =
      ap (λ s. after_commits s (commits_above w (rev + 1) n)) (next_is rev low (omega arith))
      ∙ held_above n (rev + 1) (omega arith) (omega arith)
      ∙ ap (snap_in w) (omega arith)

  -- what the newest revision holds
  pub held_newest : (newest_of (history_of w)).held ≡ snap_in w w.newest
  held_newest = held_above (w.newest - w.floor) w.floor (omega arith) (upto sound.order) ∙ ap (snap_in w) (same sound.order)
    where
      upto : w.floor ≤ w.newest → w.floor + (w.newest - w.floor) ≤ w.newest
      upto h = omega (arith, h)

      same : w.floor ≤ w.newest → w.floor + (w.newest - w.floor) ≡ w.newest
      same h = omega (arith, h)

commits_take : (w : Written) (n m rev : ℕ) → n ≤ m → take n (commits_above w rev m) ≡ commits_above w rev n
commits_take w zero zero rev h = refl
commits_take w zero (suc m) rev h = refl
commits_take w (suc n) zero rev h = absurd (omega arith)
commits_take w (suc n) (suc m) rev h = ap (λ cs. commit_at w (rev + 1) ∷ cs) (commits_take w n m (rev + 1) (omega arith))

-- what each retained revision holds
pub held_at : (w : Written) → IsWhole w → (rev : ℕ) → w.floor ≤ rev → rev ≤ w.newest → snap_at (history_of w) rev ≡ snap_in w rev
held_at w whole rev low high =
    ap (after_commits (snap_in w w.floor)) (commits_take w (rev - w.floor) (w.newest - w.floor) w.floor (omega arith))
    ∙ held_above w whole (rev - w.floor) w.floor (omega arith) (omega arith)
    ∙ ap (snap_in w) (omega arith)
