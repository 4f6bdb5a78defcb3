-- What is kept after a refresh.
use Rattle.std.proofs.Common.{ℕ, ◌≡◌, true, false, cond, nat_eq, List, [], ◌∷◌, refl, sym, ◌∙◌, ap, subst, ⊎_elim}
use Rattle.std.specs.Prelude.{Bool, Option, None, is_some}
use Rattle.std.proofs.lemmas.Bool.{or_cases, or_left, or_right, cases_Bool, false≢true, eqb-true, eq-eqb}
use Rattle.std.proofs.Math.Path.{fun_ext}
use Rattle.names.specs.declared.node.Node.{Node}
use Rattle.meaning.specs.Snap.{Snap}
use Rattle.least_sets.specs.World.{Fact, has, arcs_of}
use Rattle.least_sets.specs.Least.{IsLeastIn}
use Rattle.least_sets.specs.Groups.{groups, groups_levelled}
use Rattle.least_sets.specs.Walks.{IsTouched, IsReached, arc_of}
use Rattle.region.specs.declared.rule.Told.{Told}
use Rattle.region.specs.declared.sets.Row.{Row}
use Rattle.region.specs.Steps.{is_told, Tells, AreTold}
use Rattle.region.specs.Tables.{Rows, row_of, kept, arc_in, holds, arcs_or_none, members_or_none}
use Rattle.region.specs.Gathered.{IsTurned, IsSameElsewhere}
use Rattle.region.specs.Refreshed.{IsRefreshed}
use Rattle.delta.specs.Telling.{MayTell, IsMore}
use Rattle.delta.specs.inside.Growing.{may_more}
use Rattle.delta.specs.Layers.{AreKept}

told_at : (tells : ℕ → Fact → Type 0) (world : ℕ → Fact) (told : List Told) (n : ℕ) → AreTold tells told → Tells world told → is_told told n ≡ true → tells n (world n)
told_at tells world [] n a t h = absurd (false≢true h)
told_at tells world (x ∷ xs) n a t h = ⊎_elim
    (λ q. subst (λ m. tells m (world m)) (sym (eqb-true n x.node q)) (subst (λ f. tells x.node f) (sym t.0) a.0))
    (λ q. told_at tells world xs n a.1 t.1 q)
    (or_cases (nat_eq n x.node) (is_told xs n) h)

tells_agree : (one other : ℕ → Fact) (told : List Told) → ((n : ℕ) → is_told told n ≡ true → one n ≡ other n) → Tells other told → Tells one told
tells_agree one other [] f t = tt
tells_agree one other (x ∷ xs) f t = (
  f x.node (or_left (nat_eq x.node x.node) (is_told xs x.node) (eq-eqb x.node x.node refl)) ∙ t.0,
  tells_agree one other xs (λ n h. f n (or_right (nat_eq n x.node) (is_told xs n) h)) t.1,
)

-- nothing is kept where there is no row
pub kept_none : (S : Snap) (nodes : List Node) (rows : Rows) → ((n : ℕ) → row_of rows n ≡ None) → AreKept S nodes [] rows
kept_none S nodes rows e = record {
  arcs = λ n. [];
  held = record {
    from_roots = λ n h. absurd (false≢true h);
    reached = λ n h. absurd (off n h);
    arcs = λ n m h. absurd (off n h);
    closed = λ n m h arc. absurd (off n h);
    least = λ user. record { closed = λ n h g. absurd (off n h); derived = λ n h s. absurd (off n h) };
  };
  told = λ n h. absurd (off n h);
}
  where
    off : (n : ℕ) → kept rows n ≡ true → ⊥
    off n h = false≢true (sym (ap (λ (r : Option Row). is_some r) (e n)) ∙ h)

-- the same rows, where more nodes have numbers
pub kept_same : (S : Snap) (nodes nodes' : List Node) (roots : List ℕ) (a b : Rows) → IsMore nodes nodes' → ((n : ℕ) → row_of b n ≡ row_of a n) → AreKept S nodes roots a → AreKept S nodes' roots b
kept_same S nodes nodes' roots a b more e k = record {
  arcs = k.arcs;
  held = record {
    from_roots = λ n h. kept_is n ∙ k.held.from_roots n h;
    reached = λ n h. k.held.reached n (sym (kept_is n) ∙ h);
    arcs = λ n m h. ap (λ (r : Option Row). has (arcs_or_none r) m) (e n) ∙ k.held.arcs n m (sym (kept_is n) ∙ h);
    closed = λ n m h arc. kept_is m ∙ k.held.closed n m (sym (kept_is n) ∙ h) (sym (ap (λ (r : Option Row). has (arcs_or_none r) m) (e n)) ∙ arc);
    least = λ user. subst (λ (part : ℕ → Bool). IsLeastIn (groups k.arcs) part user (holds b user)) (sym (fun_ext kept_is))
        (subst (λ (set : ℕ → Bool). IsLeastIn (groups k.arcs) (kept a) user set) (sym (fun_ext (λ n. ap (λ (r : Option Row). has (members_or_none r) user) (e n)))) (k.held.least user));
  };
  told = λ i h. may_more S nodes nodes' i (groups k.arcs i) more (k.told i (sym (kept_is i) ∙ h));
}
  where
    kept_is : (n : ℕ) → kept b n ≡ kept a n
    kept_is n = ap (λ (r : Option Row). is_some r) (e n)

module _ (S T : Snap) (nodes nodes' : List Node) (old new : Rows) (first roots turned changed asked asked' : List ℕ)
    (k : AreKept S nodes first old)
    (stays : (i : ℕ) → kept old i ≡ true → (IsTouched (arc_in old) changed i → ⊥) → MayTell T nodes' i (groups k.arcs i))
    (turns : IsTurned first roots turned)
    (r : IsRefreshed (MayTell T nodes') old new roots turned changed asked asked') where
  arcs : ℕ → List ℕ
  arcs i = cond (is_told r.told i) (arcs_of (r.some.0 i).shape) (k.arcs i)

  at_told : (i : ℕ) → is_told r.told i ≡ true → arcs i ≡ arcs_of (r.some.0 i).shape
  unfolding arcs
  at_told i h = ap (λ b. cond b (arcs_of (r.some.0 i).shape) (k.arcs i)) h

  at_old : (i : ℕ) → is_told r.told i ≡ false → arcs i ≡ k.arcs i
  unfolding arcs
  at_old i h = ap (λ b. cond b (arcs_of (r.some.0 i).shape) (k.arcs i)) h

  pub may_tell : (i : ℕ) → is_told r.told i ≡ true → MayTell T nodes' i (r.some.0 i)
  may_tell i h = told_at (MayTell T nodes') r.some.0 r.told i r.are_told r.some.1 h

  same_told : (i : ℕ) → is_told r.told i ≡ true → groups arcs i ≡ r.some.0 i
  same_told i h =
      let may = may_tell i h in
      let is : arcs i ≡ may.arcs = at_told i h ∙ ap (λ (f : Fact). arcs_of f.shape) may.fact_is in
      ap (λ xs. groups (λ _. xs) i) is ∙ sym may.fact_is

  same_old : (i : ℕ) → is_told r.told i ≡ false → groups arcs i ≡ groups k.arcs i
  same_old i h = ap (λ xs. groups (λ _. xs) i) (at_old i h)

  tells : Tells (groups arcs) r.told
  tells = tells_agree (groups arcs) r.some.0 r.told same_told r.some.1

  -- a node that is kept and not touched is not asked
  pub untold : (i : ℕ) → kept old i ≡ true → (IsTouched (arc_in old) changed i → ⊥) → is_told r.told i ≡ false
  untold i h off = ⊎_elim (λ t. absurd (off ((r.few i t).1 h))) (λ f. f) (cases_Bool (is_told r.told i))

  elsewhere : IsSameElsewhere (groups k.arcs) (groups arcs) old changed
  elsewhere i h off = same_old i (untold i h off)

  pub after : AreKept T nodes' roots new
  after = record {
    arcs = arcs;
    held = r.held (groups k.arcs) (groups arcs) first (groups_levelled arcs) tells k.held turns elsewhere;
    told = λ i h. ⊎_elim
        (λ t. subst (λ f. MayTell T nodes' i f) (sym (same_told i t)) (may_tell i t))
        (λ s. subst (λ f. MayTell T nodes' i f) (sym (elsewhere i s.0 s.1)) (stays i s.0 s.1))
        (r.nodes i h);
  }

  -- the arcs of what is kept and not touched are what they were
  pub arcs_stay : (i : ℕ) → kept old i ≡ true → (IsTouched (arc_in old) changed i → ⊥) → after.arcs i ≡ k.arcs i
  unfolding after
  arcs_stay i h off = at_old i (untold i h off)

  -- a node that was asked is reached from the roots
  pub told_reached : (i : ℕ) → is_told r.told i ≡ true → IsReached (arc_of (groups after.arcs)) roots i
  unfolding after
  told_reached i h = r.reached (groups arcs) tells i h

-- What is kept after all was asked, where nothing was kept before.
pub anew : (T : Snap) (nodes' : List Node) (old new : Rows) (roots turned asked asked' : List ℕ) → ((n : ℕ) → row_of old n ≡ None) → ((n : ℕ) → has turned n ≡ has roots n)
    → IsRefreshed (MayTell T nodes') old new roots turned [] asked asked' → AreKept T nodes' roots new
anew T nodes' old new roots turned asked asked' none same r =
    after T T nodes' nodes' old new [] roots turned [] asked asked' (kept_none T nodes' old none)
    (λ i h off. absurd (false≢true (sym (ap (λ (x : Option Row). is_some x) (none i)) ∙ h)))
    (λ n h. sym (same n) ∙ h)
    r
