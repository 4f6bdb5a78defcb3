-- The rows after a configuration are the history with that commit.
use Rattle.std.proofs.Common.{◌≡◌, ℕ, ◌+◌, ◌-◌, ◌<◌, ◌≤◌, [], ◌∷◌, ◌++◌, refl, sym, ap, subst, ◌∙◌, inl, inr, arith}
use Rattle.std.specs.Prelude.{true, false, cond, ◌&&◌, ◌||◌, ◌⊎◌, nat_lt, Some}
use Rattle.std.specs.List.{list_any}
use Rattle.std.specs.Ordering.{eq_by_cmp}
use Rattle.std.proofs.lemmas.Bool.{or_left, lt-ltb, lt-leb, eq-eqb, ne_eqb, cases_lt, not_from_false}
use Rattle.std.proofs.lemmas.List.Elements.{All-cons}
use Rattle.names.specs.declared.limits.TheConstants.{MAX_ROWS, MAX_TUPLES}
use Rattle.names.specs.Order.{tuple_cmp}
use Rattle.names.specs.declared.tuple.Tuple.{Tuple}
use Rattle.names.specs.declared.commit.Commit.TheVariants as kinds
use Rattle.meaning.specs.TupleSet as set
use Rattle.meaning.specs.Config.{Configured}
use Rattle.meaning.specs.Snap.{Snap}
use Rattle.meaning.specs.Admits.{admits}
use Rattle.meaning.proofs.TupleSets.{contains_items}
use Rattle.config.specs.Causes.{Accepts}
use Rattle.rows.specs.Retained.{newest_of, spans_of, with_commit}
use Rattle.rows.specs.Follows.{IsNext}
use Rattle.store.specs.Written.{TupleSpan, ConfigAt, Written, IsSound, IsConfigAt, Pairwise, is_alive, is_moved, events_at, config_at, commit_of, commit_at, commits_above, last_up_to, config_up_to, are_distinct, is_one, brings_one, history_of, canonical}
use Rattle.store.proofs.Picking.{In, found, any_in, all_in, all_from, any_none}
use Rattle.store.proofs.Living.{is_of, one_tuple, contains_of}
use Rattle.store.proofs.Held.{last_here}
use Rattle.store.proofs.Standing.{Admitted}
use Rattle.store.proofs.Causes.{AcceptedConfig, accepted_config}
use Rattle.store.proofs.Following.{unmoved_next, newest_is, itself as itself_same, upto, one_more, stand_onwards, configs_onwards, held_tuples, admitted_onwards, commits_push, after_push, rows_push, same_history, same_snap}

module _ (w : Written) (sound : IsSound w) (config : Configured) (valid : Accepts (canonical config) config) (next : IsNext (history_of w) (kinds.Config config)) where
  abbrev pub now : ConfigAt
  now = record { rev = w.newest + 1; config = config }

  abbrev pub with_config : Written
  with_config = record { number = w.number; floor = w.floor; newest = w.newest + 1; spans = w.spans; configs = now ∷ w.configs }

  acc : AcceptedConfig (newest_of (history_of w)) config
  acc = accepted_config (newest_of (history_of w)) config next

  -- older revisions do not see it
  last_before : (at : ℕ) → at ≤ w.newest → config_up_to at (now ∷ w.configs) ≡ config_up_to at w.configs
  last_before at old = ap (λ b. (cond (b && nat_lt (last_up_to at w.configs).rev (w.newest + 1)) now (last_up_to at w.configs)).config) (lt-leb (w.newest + 1) at (omega arith))

  at_before : (at : ℕ) → at ≤ w.newest → config_at at (now ∷ w.configs) ≡ config_at at w.configs
  at_before at old = ap (λ b. cond b (Some config) (config_at at w.configs)) (ne_eqb (w.newest + 1) at (λ e. omega (arith, e)))

  at_now : config_at (w.newest + 1) (now ∷ w.configs) ≡ Some config
  at_now = ap (λ b. cond b (Some config) (config_at (w.newest + 1) w.configs)) (eq-eqb (w.newest + 1) (w.newest + 1) refl)

  unmoved_now : list_any (is_moved (w.newest + 1)) w.spans ≡ false
  unmoved_now = any_none (is_moved (w.newest + 1)) w.spans (unmoved_next w sound)

  pub config_history : history_of with_config ≡ with_commit (history_of w) (kinds.Config config)
  config_history = same_history w.number w.floor _ _ _ _ (same_snap _ _ _ _ (last_before w.floor sound.order) refl)
      (ap (commits_above with_config w.floor) (one_more w sound)
      ∙ commits_push with_config w (w.newest - w.floor) w.floor (λ at low high. ap (λ o. commit_of o (events_at at w.spans)) (at_before at (small at high)))
      ∙ ap (λ c. commits_above w w.floor (w.newest - w.floor) ++ c ∷ []) now_is)
    where
      small : (at : ℕ) → at ≤ w.floor + (w.newest - w.floor) → at ≤ w.newest
      small at high = let u = upto w sound in omega (arith, u, high)

      now_is : commit_at with_config (w.floor + (w.newest - w.floor) + 1) ≡ kinds.Config config
      now_is = ap (λ n. commit_at with_config (n + 1)) (upto w sound) ∙ ap (λ o. commit_of o (events_at (w.newest + 1) w.spans)) at_now

  distinct_now : Pairwise (are_distinct w.floor) (now ∷ w.configs)
  distinct_now = (all_from (λ c. are_distinct w.floor now c ≡ true) w.configs (λ c i. apart c (all_in (IsConfigAt w.newest) w.configs sound.configs_are c i).begun sound.order), sound.distinct)
    where
      apart : (c : ConfigAt) → c.rev ≤ w.newest → w.floor ≤ w.newest → are_distinct w.floor now c ≡ true
      apart c begun order =
          ap (λ b. cond b false (nat_lt w.floor (w.newest + 1) || nat_lt w.floor c.rev)) (ne_eqb (w.newest + 1) c.rev (λ e. omega (arith, e, begun)))
          ∙ or_left (nat_lt w.floor (w.newest + 1)) (nat_lt w.floor c.rev) (lt-ltb w.floor (w.newest + 1) (omega (arith, order)))

  whole_now : (at : ℕ) → w.floor < at → at ≤ w.newest + 1 → brings_one with_config at ≡ true
  whole_now at low high = by_case (cases_lt w.newest at)
    where
      by_case : (w.newest < at) ⊎ (at ≤ w.newest) → brings_one with_config at ≡ true
      by_case (inr old) = ap (λ o. is_one o (list_any (is_moved at) w.spans)) (at_before at old) ∙ sound.whole at low old
      by_case (inl new) = let e : at ≡ w.newest + 1 = omega arith in
          ap (brings_one with_config) e ∙ ap (λ o. is_one o (list_any (is_moved (w.newest + 1)) w.spans)) at_now ∙ not_from_false (list_any (is_moved (w.newest + 1)) w.spans) unmoved_now

  -- each current tuple is admitted
  admitted_current : Admitted config w.newest w.spans
  admitted_current = all_from (λ l. is_alive w.newest l ≡ true → admits config l.tuple ≡ true) w.spans (λ l i alive. acc.admitted l.tuple (in_items l i alive))
    where
      itself : (t : Tuple) → set.contains (newest_of (history_of w)).held.tuples t ≡ true → In t (set.items (newest_of (history_of w)).held.tuples)
      itself t h = by_found (found (eq_by_cmp tuple_cmp t) (set.items (newest_of (history_of w)).held.tuples) (sym (contains_items (newest_of (history_of w)).held.tuples t) ∙ h))
        where
          by_found : (u : Tuple) × In u (set.items (newest_of (history_of w)).held.tuples) × (eq_by_cmp tuple_cmp t u ≡ true) → In t (set.items (newest_of (history_of w)).held.tuples)
          by_found (u, i, e) = subst (λ v. In v (set.items (newest_of (history_of w)).held.tuples)) (sym (one_tuple t u e)) i

      in_items : (l : TupleSpan) → In l w.spans → is_alive w.newest l ≡ true → In l.tuple (set.items (newest_of (history_of w)).held.tuples)
      in_items l i alive = itself l.tuple
          (ap (λ s. set.contains s l.tuple) (held_tuples w sound) ∙ contains_of (is_alive w.newest) w.spans l.tuple ∙ any_in (is_of l.tuple (is_alive w.newest)) w.spans l i (here alive))
        where
          here : is_alive w.newest l ≡ true → is_of l.tuple (is_alive w.newest) l ≡ true
          here a = ap (λ b. b && is_alive w.newest l) (itself_same l.tuple) ∙ a

  admitted_after : (at : ℕ) → w.floor ≤ at → at ≤ w.newest + 1 → Admitted (config_up_to at (now ∷ w.configs)) at w.spans
  admitted_after at low high = by_case (cases_lt w.newest at)
    where
      last_now : config_up_to (w.newest + 1) (now ∷ w.configs) ≡ config
      last_now = (last_here w.floor (w.newest + 1) (now ∷ w.configs) config (omega arith) distinct_now at_now).0

      by_case : (w.newest < at) ⊎ (at ≤ w.newest) → Admitted (config_up_to at (now ∷ w.configs)) at w.spans
      by_case (inr old) = subst (λ c. Admitted c at w.spans) (sym (last_before at old)) (sound.admitted at low old)
      by_case (inl new) = let e : w.newest + 1 ≡ at = omega arith in
          subst (λ n. Admitted (config_up_to n (now ∷ w.configs)) n w.spans) e
          (subst (λ c. Admitted c (w.newest + 1) w.spans) (sym last_now) (admitted_onwards w sound config admitted_current))

  pub config_sound : IsSound with_config
  config_sound = record {
    number_is = sound.number_is;
    order = let o = sound.order in omega (arith, o);
    revs = let r = acc.revs in let n = newest_is w sound in omega (arith, r, n);
    spans_are = (stand_onwards w sound).are;
    apart = sound.apart;
    configs_are = All-cons (IsConfigAt (w.newest + 1)) now w.configs (record { valid = valid; begins = omega arith; begun = omega arith }) (configs_onwards w sound);
    distinct = distinct_now;
    whole = whole_now;
    admitted = admitted_after;
    rows = subst (λ r. spans_of r ≤ MAX_ROWS) (sym config_history) rows_now;
    tuples = subst (λ r. set.len (newest_of r).held.tuples ≤ MAX_TUPLES) (sym config_history) tuples_now;
  }
    where
      rows_now : spans_of (with_commit (history_of w) (kinds.Config config)) ≤ MAX_ROWS
      rows_now = let r = rows_push (history_of w).commits (kinds.Config config) in let a = sound.rows in omega (arith, r, a)

      tuples_now : set.len (newest_of (with_commit (history_of w) (kinds.Config config))).held.tuples ≤ MAX_TUPLES
      tuples_now = subst (λ (s : Snap). set.len s.tuples ≤ MAX_TUPLES) (sym (after_push (history_of w).base (history_of w).commits (kinds.Config config))) sound.tuples
