-- Each retained revision's tuples are admitted.
use Rattle.std.proofs.Common.{◌≡◌, ℕ, ◌-◌, ◌≤◌, sym, ap, subst, ◌∙◌, arith}
use Rattle.std.specs.Prelude.{true, All}
use Rattle.std.proofs.lemmas.Bool.{and_parts}
use Rattle.names.specs.Order.{is_same_tuple}
use Rattle.meaning.specs.Admits.{admits}
use Rattle.rows.specs.Retained.{AreAdmitted, IsAdmitted}
use Rattle.store.specs.Written.{TupleSpan, Written, is_alive, config_up_to, history_of}
use Rattle.store.proofs.Picking.{In, found, all_in}
use Rattle.store.proofs.Living.{is_of, one_tuple, contains_of}
use Rattle.store.proofs.CommitRuns.{length_above}
use Rattle.store.proofs.Held.{IsWhole, snap_in, held_at}

-- while a span is there, its tuple is admitted
abbrev pub AdmitsSpan : Written → ℕ → TupleSpan → Type 0
AdmitsSpan w rev l = is_alive rev l ≡ true → admits (config_up_to rev w.configs) l.tuple ≡ true

module _ (w : Written) (whole : IsWhole w) (admitted : (rev : ℕ) → w.floor ≤ rev → rev ≤ w.newest → All (AdmitsSpan w rev) w.spans) where
  snap_admitted : (rev : ℕ) → w.floor ≤ rev → rev ≤ w.newest → AreAdmitted (snap_in w rev)
  snap_admitted rev low high t there = by_span (found (is_of t (is_alive rev)) w.spans (sym (contains_of (is_alive rev) w.spans t) ∙ there))
    where
      by_span : (l : TupleSpan) × In l w.spans × (is_of t (is_alive rev) l ≡ true) → admits (config_up_to rev w.configs) t ≡ true
      by_span (l, i, h) =
          let p = and_parts (is_same_tuple t l.tuple) (is_alive rev l) h in
          ap (admits (config_up_to rev w.configs)) (one_tuple t l.tuple p.0) ∙ all_in (AdmitsSpan w rev) w.spans (admitted rev low high) l i p.1

  pub history_admitted : IsAdmitted (history_of w)
  history_admitted rev retained =
      let order = whole.order in
      let long = length_above w w.floor (w.newest - w.floor) in
      let above = retained.not_above in
      let high : rev ≤ w.newest = omega (arith, order, long, above) in
      subst AreAdmitted (sym (held_at w whole rev retained.not_below high)) (snap_admitted rev retained.not_below high)
