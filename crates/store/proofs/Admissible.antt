-- A span whose tuple a configuration refuses is none of a history.
use Rattle.std.proofs.Common.{◌≡◌, ℕ, ◌<◌, ◌≤◌, ◌⊎◌, inl, inr, List, refl, ap, sym, ◌∙◌, arith}
use Rattle.std.specs.Prelude.{true, ◌||◌, ◌==◌, nat_lt, Option, Some, None}
use Rattle.std.proofs.lemmas.Bool.{and_parts, or_cases, ltb-true, eqb-true}
use Rattle.meaning.specs.Admits.{admits}
use Rattle.meaning.specs.Config.{Configured}
use Rattle.store.specs.Written.{TupleSpan, ConfigAt, IsSpan, IsConfigAt, Pairwise, are_distinct, config_at, config_up_to}
use Rattle.store.specs.inside.Following.{is_between}
use Rattle.store.specs.Refused.{AreConfigs, IsAdmittedTo}
use Rattle.store.proofs.Picking.{In, all_in}
use Rattle.store.proofs.Living.{alive_from}
use Rattle.store.proofs.Held.{last_here}
use Rattle.store.proofs.Once.{at_in, at_none, distinct_revs}

-- from where it begins, or the floor, the span is there
pub first_admitted : (floor newest from : ℕ) (configs : List ConfigAt) (l : TupleSpan) → floor ≤ newest → (from ≡ floor) ⊎ (from ≡ l.added) → floor ≤ from → l.added ≤ from → IsSpan floor newest l → IsAdmittedTo floor newest configs l
    → admits (config_up_to from configs) l.tuple ≡ true
first_admitted floor newest from configs l order either above begun span admitted = admitted from above (upto either) (alive_from from l begun (open_there span.ends either))
  where
    upto : (from ≡ floor) ⊎ (from ≡ l.added) → from ≤ newest
    upto (inl e) = omega (arith, e, order)
    upto (inr e) = let b = span.begun in omega (arith, e, b)

    open_there : (l.removed ≡ 0) ⊎ ((l.added < l.removed) × (floor < l.removed) × (l.removed ≤ newest)) → (from ≡ floor) ⊎ (from ≡ l.added) → (l.removed ≡ 0) ⊎ (from < l.removed)
    open_there (inl z) e = inl z
    open_there (inr z) (inl e) = let s = z.1 in inr (omega (arith, e, s))
    open_there (inr z) (inr e) = let s = z.0 in inr (omega (arith, e, s))

-- the configuration of a later revision at which the span is there
pub later_admitted : (floor newest from : ℕ) (configs : List ConfigAt) (l : TupleSpan) (c : ConfigAt) → AreConfigs floor newest configs → floor ≤ from → l.added ≤ from → In c configs → is_between from l.removed c.rev ≡ true
    → IsAdmittedTo floor newest configs l → admits c.config l.tuple ≡ true
later_admitted floor newest from configs l c good above begun i between admitted =
    let p = and_parts (nat_lt from c.rev) ((l.removed == 0) || nat_lt c.rev l.removed) between in
    let after = ltb-true from c.rev p.0 in
    let alive = alive_from c.rev l (omega (arith, begun, after)) (there (or_cases (l.removed == 0) (nat_lt c.rev l.removed) p.1)) in
    let is = (last_here floor c.rev configs c.config (omega (arith, after)) good.distinct (at_its configs good.distinct c i)).0 in
    sym (ap (λ (g : Configured). admits g l.tuple) is) ∙ admitted c.rev (omega (arith, above, after)) (all_in (IsConfigAt newest) configs good.are c i).begun alive
  where
    there : ((l.removed == 0) ≡ true) ⊎ (nat_lt c.rev l.removed ≡ true) → (l.removed ≡ 0) ⊎ (c.rev < l.removed)
    there (inl e) = inl (eqb-true l.removed 0 e)
    there (inr e) = inr (ltb-true c.rev l.removed e)

    at_its : (cs : List ConfigAt) → Pairwise (are_distinct floor) cs → (d : ConfigAt) → In d cs → config_at d.rev cs ≡ Some d.config
    at_its cs distinct d j = by_found (config_at d.rev cs) refl
      where
        by_found : (o : Option Configured) → config_at d.rev cs ≡ o → config_at d.rev cs ≡ Some d.config
        by_found (Some config) e =
            let r = at_in d.rev cs config e in
            e ∙ ap (λ n. Some n) (sym r.3 ∙ ap (λ (x : ConfigAt). x.config) (distinct_revs floor cs distinct r.0 d r.1 j r.2))
        by_found None e = absurd (at_none d.rev cs e d j refl)
