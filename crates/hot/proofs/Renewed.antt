-- A gathering and a filling are a refresh.
use Rattle.std.proofs.Common.{ℕ, ◌≡◌, ◌⊎◌, List, true, not, sym, ◌∙◌, ap, ⊎_elim, inl, inr}
use Rattle.std.specs.Prelude.{Some}
use Rattle.std.proofs.lemmas.Bool.{or_left, or_right, or_cases, and_from, and_parts, cases_Bool, false≢true}
use Rattle.std.proofs.lemmas.Option.{none-some}
use Rattle.names.specs.declared.object.Object.{Object}
use Rattle.names.specs.declared.node.Node.{Node}
use Rattle.meaning.specs.Snap.{Snap}
use Rattle.least_sets.specs.World.{Fact, has}
use Rattle.least_sets.specs.Least.{IsLevelled}
use Rattle.region.specs.declared.rule.Told.{Told}
use Rattle.region.specs.Steps.{is_told, Tells, AreTold}
use Rattle.region.specs.Tables.{Rows, kept}
use Rattle.region.specs.Sets.{IsHeld}
use Rattle.region.specs.Gathered.{stays, in_region, IsGathered, IsAskedOnce, IsTurned, IsSameElsewhere}
use Rattle.region.specs.Refreshed.{IsRefreshed}
use Rattle.region.proofs.Walked.{untouched}
use Rattle.region.specs.Rules.{fact_of}
use Rattle.hot.specs.Kept.{Remembered, told_of}
use Rattle.hot.specs.inside.Remembering.{MayRecall, IsFresh, IsRemembered, IsRenewed}
use Rattle.hot.proofs.After.{told_at}

told_eq : {x y : Told} → Some x ≡ Some y → x ≡ y
told_eq e = cc

-- where something is remembered of a node, that alone may be told of it
recalled : (S : Snap) (memory : Remembered) (nodes : List Node) (users : List Object) (n : ℕ) (fact : Fact) (t : Told)
    → MayRecall S memory nodes users n fact → told_of memory n ≡ Some t → fact ≡ fact_of t
recalled S memory nodes users n fact t (inl told) at = absurd (none-some t (sym told.0 ∙ at))
recalled S memory nodes users n fact t (inr r) at = r.2 ∙ ap fact_of (told_eq (sym r.1 ∙ at))

-- what was remembered of a node that is dropped and still kept was told again
pub remembered_after : (S : Snap) (before after : Remembered) (nodes : List Node) (users : List Object) (old new : Rows) (told : List Told) (dropped : List ℕ)
    → AreTold (MayRecall S before nodes users) told → ((n : ℕ) → kept new n ≡ in_region old dropped told n)
    → ((n : ℕ) (t : Told) → told_of after n ≡ Some t → IsFresh told n t ⊎ ((told_of before n ≡ Some t) × (has dropped n ≡ true → kept new n ≡ true)))
    → IsRemembered told dropped before after
remembered_after S before after nodes users old new told dropped are kept_is each n t at = ⊎_elim
    (λ fresh. inl fresh)
    (λ was. ⊎_elim
    (λ h.
    let again : is_told told n ≡ true = ⊎_elim
    (λ s. absurd (false≢true (sym (ap not h) ∙ (and_parts (kept old n) (not (has dropped n)) s).1)))
    (λ q. q)
    (or_cases (stays old dropped n) (is_told told n) (sym (kept_is n) ∙ was.1 h)) in
    inl (again, λ world tells. recalled S before nodes users n (world n) t (told_at (MayRecall S before nodes users) world told n are tells again) was.0))
    (λ h. inr (was.0, h))
    (cases_Bool (has dropped n)))
    (each n t at)

module _ (tells : ℕ → Fact → Type 0) (old new : Rows) (roots turned changed before after asked : List ℕ) (told : List Told) (dropped : List ℕ)
    (are_told : AreTold tells told) (agree : (world : ℕ → Fact) × Tells world told)
    (gathered : (world : ℕ → Fact) → Tells world told → IsGathered world old roots turned changed told dropped)
    (once : IsAskedOnce told before after) (same : asked ≡ after)
    (nodes : (n : ℕ) → kept new n ≡ in_region old dropped told n)
    (held : (was world : ℕ → Fact) (first roots turned changed : List ℕ) → IsLevelled world → IsHeld was first old → IsTurned first roots turned
    → IsGathered world old roots turned changed told dropped → IsSameElsewhere was world old changed → IsHeld world roots new) where
  pub refreshed : IsRefreshed tells old new roots turned changed before asked
  refreshed =
      let got = gathered agree.0 agree.1 in
      record {
        told = told;
        are_told = are_told;
        some = agree;
        asked_is = same ∙ once.asked;
        once = once.once;
        few = λ n h. (nodes n ∙ or_right (stays old dropped n) (is_told told n) h, got.new_or_touched n h);
        nodes = λ n h. ⊎_elim
            (λ s. inr ((got.untouched n s).0, untouched agree.0 old roots turned changed told dropped got n s))
            (λ t. inl t)
            (or_cases (stays old dropped n) (is_told told n) (sym (nodes n) ∙ h));
        arcs = λ world t n m h arc. nodes m ∙ (gathered world t).told_arcs n m h arc;
        reached = λ world t. (gathered world t).reached;
        held = λ was world first levels t is turns elsewhere. held was world first roots turned changed levels is turns (gathered world t) elsewhere;
      }

  pub renewed : (was is : Remembered) → IsRemembered told dropped was is → IsRenewed tells old new roots turned changed before asked was is
  unfolding refreshed
  renewed was is remembered = record {
    refreshed = refreshed;
    dropped = dropped;
    stays = λ n there off.
        let got = gathered agree.0 agree.1 in
        let left = and_from (kept old n) (not (has dropped n)) there (ap not off) in
        (nodes n ∙ or_left (stays old dropped n) (is_told told n) left, got.apart n left, (got.untouched n left).1);
    remembered = remembered;
  }
