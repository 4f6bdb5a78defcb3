-- Levels that are raised, step by step.
use Rattle.std.proofs.Common.{◌≡◌, ℕ, ◌<◌, ◌≤◌, ◌+◌, ◌-◌, List, length, get_or, set, replicate, refl, ap, ◌∙◌, sym, subst, ⊎_elim, arith, add-one, add-zero}
use Rattle.std.specs.Prelude.{Contains, sum_by, Bool, true, false}
use Rattle.std.proofs.lemmas.Bool.{cases_eq, cases_lt}
use Rattle.std.proofs.lemmas.List.{get_or-set_same, get_or-set_other, length-set, get_or-replicate, length-replicate, get_or_past}
use Rattle.std.proofs.lemmas.List.Sums.{sum_by-set}
use Rattle.meaning.specs.Levels.{Path, stop, plain, subtracted}
use Rattle.strata.specs.declared.graph.Step.{Step}
use Rattle.strata.specs.Graph.{HasStep, NoneBack, AreLevels, sign_cost}
use Rattle.strata.specs.inside.Raise.{IsRaising, IsMet, IsPass, room}
use Rattle.strata.proofs.Bounds.{path_few, path_below}

pub raising_none : (steps : List Step) (count : ℕ) → IsRaising steps count (replicate count 0)
raising_none steps count = record {
  long = length-replicate {A = ℕ} count 0;
  paths = λ r. ⊎_elim
      (λ less. rw (get_or-replicate {A = ℕ} count r 0 0 less) stop)
      (λ more. rw (get_or_past {X = ℕ} (replicate count 0) r 0 (omega (arith, length-replicate {A = ℕ} count 0, more))) stop)
      (cases_lt r count);
}

by_sign : (steps : List Step) (s : Step) (n : ℕ) → Contains steps s → Path (HasStep steps) s.to n → Path (HasStep steps) s.from (n + sign_cost s.subtracted)
by_sign steps s n has p = by_case s.subtracted has
  where
    by_case : (sign : Bool) → Contains steps (record { from = s.from; to = s.to; subtracted = sign }) → Path (HasStep steps) s.from (n + sign_cost sign)
    by_case true c = rw add-one (subtracted c p)
    by_case false c = rw add-zero (plain c p)

pub raising_now : (steps : List Step) (count : ℕ) (levels : List ℕ) → IsRaising steps count levels → IsRaising steps (length levels) levels
raising_now steps count levels raising = record { long = refl; paths = raising.paths }

pub raising_at : (steps : List Step) (old new : List ℕ) (count : ℕ) → IsRaising steps count old → IsRaising steps (length old) new → IsRaising steps count new
raising_at steps old new count before after = record { long = after.long ∙ before.long; paths = after.paths }

raising_more : (steps : List Step) (count : ℕ) (levels : List ℕ) (s : Step) → Contains steps s → s.from < count → IsRaising steps count levels → IsRaising steps count (set levels s.from (get_or levels s.to 0 + sign_cost s.subtracted))
raising_more steps count levels s has lt raising =
    let v = get_or levels s.to 0 + sign_cost s.subtracted in
    let low : s.from < length levels = omega (arith, lt, raising.long) in
    record {
      long = length-set levels s.from v ∙ raising.long;
      paths = λ r. ⊎_elim
          (λ e. subst (λ q. Path (HasStep steps) q (get_or (set levels s.from v) q 0)) (sym e) (rw (get_or-set_same levels s.from v 0 low) (by_sign steps s (get_or levels s.to 0) has (raising.paths s.to))))
          (λ n. rw (get_or-set_other levels s.from r v 0 n) (raising.paths r))
          (cases_eq r s.from);
    }

raising_falls : (steps : List Step) (count : ℕ) (levels : List ℕ) (s : Step) → NoneBack steps → Contains steps s → s.from < count → get_or levels s.from 0 < get_or levels s.to 0 + sign_cost s.subtracted → IsRaising steps count levels → room steps (set levels s.from (get_or levels s.to 0 + sign_cost s.subtracted)) < room steps levels
raising_falls steps count levels s none has lt up raising =
    let v = get_or levels s.to 0 + sign_cost s.subtracted in
    let low : s.from < length levels = omega (arith, lt, raising.long) in
    let next = raising_more steps count levels s has lt raising in
    let path : Path (HasStep steps) s.from v = subst (Path (HasStep steps) s.from) (get_or-set_same levels s.from v 0 low) (next.paths s.from) in
    let few : v ≤ length steps = path_few steps none s.from v path in
    let e = sum_by-set (λ x. length steps - x) levels s.from v 0 low in
    omega (arith, e, few, up)

pub raising_few : (steps : List Step) (count : ℕ) (levels : List ℕ) → NoneBack steps → IsRaising steps count levels → (r : ℕ) → get_or levels r 0 ≤ length steps
raising_few steps count levels none raising r = path_few steps none r (get_or levels r 0) (raising.paths r)

pub raising_done : (steps : List Step) (count : ℕ) (levels : List ℕ) → ((s : Step) → Contains steps s → IsMet levels s) → IsRaising steps count levels → AreLevels steps count levels
raising_done steps count levels met raising =
    (raising.long, λ r h. record { path = raising.paths r; greatest = λ n p. path_below steps levels met p })

pub pass_none : (steps : List Step) (levels : List ℕ) → IsRaising steps (length levels) levels → IsPass steps levels levels 0 false
pass_none steps levels raising = record {
  raising = raising;
  falls = λ e. cc;
  same = λ e. refl;
  met = λ e k s h. absurd (omega (arith, h));
}

pub pass_raises : (steps : List Step) (old new : List ℕ) (i : ℕ) (rose : Bool) (s : Step) → NoneBack steps → Contains steps s → s.from < length old → get_or new s.from 0 < get_or new s.to 0 + sign_cost s.subtracted → IsPass steps old new i rose → IsPass steps old (set new s.from (get_or new s.to 0 + sign_cost s.subtracted)) (i + 1) true
pass_raises steps old new i rose s none has lt up pass =
    let fell = raising_falls steps (length old) new s none has lt up pass.raising in
    record {
      raising = raising_more steps (length old) new s has lt pass.raising;
      falls = λ e. falls rose pass fell;
      same = λ e. cc;
      met = λ e. cc;
    }
  where
    falls : (rose : Bool) → IsPass steps old new i rose → room steps (set new s.from (get_or new s.to 0 + sign_cost s.subtracted)) < room steps new → room steps (set new s.from (get_or new s.to 0 + sign_cost s.subtracted)) < room steps old
    falls true pass fell = let before = pass.falls refl in omega (arith, before, fell)
    falls false pass fell = subst (λ l. room steps (set new s.from (get_or new s.to 0 + sign_cost s.subtracted)) < room steps l) (pass.same refl) fell

pub pass_keeps : (steps : List Step) (old new : List ℕ) (i : ℕ) (rose : Bool) (s : Step) → ((d : Step) → get_or steps i d ≡ s) → IsMet new s → IsPass steps old new i rose → IsPass steps old new (i + 1) rose
pass_keeps steps old new i rose s at met pass = record {
  raising = pass.raising;
  falls = pass.falls;
  same = pass.same;
  met = λ e k t h is. ⊎_elim
      (λ less. pass.met e k t less is)
      (λ more.
      let here : k ≡ i = omega (arith, h, more) in
      let same : t ≡ s = sym is ∙ ap (λ q. get_or steps q t) here ∙ at t in
      subst (IsMet new) (sym same) met)
      (cases_lt k i);
}

pub pass_done : (steps : List Step) (old new : List ℕ) (count : ℕ) → length old ≡ count → IsPass steps old new (length steps) false → AreLevels steps count new
pass_done steps old new count e pass = subst (λ n. AreLevels steps n new) e (raising_done steps (length old) new (λ s (k, h, is). pass.met refl k s h is) pass.raising)
