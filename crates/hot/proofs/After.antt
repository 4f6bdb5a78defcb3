-- What is kept after a refresh.
use Rattle.std.proofs.Common.{ℕ, ◌≡◌, ◌≤◌, ◌<◌, true, false, cond, nat_eq, List, [], ◌∷◌, refl, sym, ◌∙◌, ap, subst, ⊎_elim, ◌⊎◌, inl, inr}
use Rattle.std.specs.Prelude.{Some}
use Rattle.std.proofs.lemmas.Bool.{or_cases, or_left, or_right, cases_Bool, false≢true, eqb-true, eq-eqb}
use Rattle.names.specs.declared.object.Object.{Object}
use Rattle.names.specs.declared.node.Node.{Node}
use Rattle.meaning.specs.Snap.{Snap}
use Rattle.meaning.specs.Config.{Configured}
use Rattle.meaning.specs.Reads.{IsValid}
use Rattle.least_sets.specs.World.{Fact, AnyOf, has, arcs_of, plain_of, taken_of}
use Rattle.least_sets.specs.Least.{IsLevelled}
use Rattle.least_sets.specs.Walks.{IsTouched}
use Rattle.least_sets.proofs.Gives.{plain_named, taken_named}
use Rattle.region.specs.declared.rule.Told.{Told}
use Rattle.region.specs.Rules.{fact_of}
use Rattle.region.specs.Steps.{is_told, Tells, AreTold}
use Rattle.region.specs.Tables.{Rows, kept, arc_in}
use Rattle.region.specs.Gathered.{IsTurned, IsSameElsewhere}
use Rattle.region.specs.Sets.{IsHeld}
use Rattle.region.specs.Refreshed.{IsRefreshed}
use Rattle.facts.specs.Numbers.{node_at}
use Rattle.facts.specs.Telling.{MayTell, IsLater}
use Rattle.facts.specs.inside.Growing.{may_more}
use Rattle.hot.proofs.Looking.{HasLevel, told_level, told_plain, told_taken}
use Rattle.hot.specs.Kept.{AreKept, AreOfWorld, Remembered, told_of}
use Rattle.hot.specs.inside.Remembering.{IsRemembered}

pub told_at : (tells : ℕ → Fact → Type 0) (world : ℕ → Fact) (told : List Told) (n : ℕ) → AreTold tells told → Tells world told → is_told told n ≡ true → tells n (world n)
told_at tells world [] n a t h = absurd (false≢true h)
told_at tells world (x ∷ xs) n a t h = ⊎_elim
    (λ q. subst (λ m. tells m (world m)) (sym (eqb-true n x.node q)) (subst (λ f. tells x.node f) (sym t.0) a.0))
    (λ q. told_at tells world xs n a.1 t.1 q)
    (or_cases (nat_eq n x.node) (is_told xs n) h)

tells_agree : (one other : ℕ → Fact) (told : List Told) → ((n : ℕ) → is_told told n ≡ true → one n ≡ other n) → Tells other told → Tells one told
tells_agree one other [] f t = tt
tells_agree one other (x ∷ xs) f t = (
  f x.node (or_left (nat_eq x.node x.node) (is_told xs x.node) (eq-eqb x.node x.node refl)) ∙ t.0,
  tells_agree one other xs (λ n h. f n (or_right (nat_eq n x.node) (is_told xs n) h)) t.1,
)

-- what is told of nobody
abbrev nobody : Fact
nobody = record { level = 0; shape = AnyOf []; own = [] }

module _ (S T : Snap) (nodes nodes' : List Node) (users users' : List Object) (old new : Rows) (first roots turned changed asked asked' : List ℕ) (before : ℕ → Fact)
    (one : S.config ≡ T.config) (valid_before : IsValid S) (valid : IsValid T)
    (held : IsHeld before first old)
    (was : (n : ℕ) → kept old n ≡ true → MayTell S nodes users n (before n))
    (later : IsLater nodes nodes' users users')
    (stays : (n : ℕ) → kept old n ≡ true → (IsTouched (arc_in old) changed n → ⊥) → MayTell T nodes users n (before n))
    (turns : IsTurned first roots turned)
    (r : IsRefreshed (MayTell T nodes' users') old new roots turned changed asked asked') where
  world : ℕ → Fact
  world n = cond (is_told r.told n) (r.some.0 n) (cond (kept old n) (before n) nobody)

  at_told : (n : ℕ) → is_told r.told n ≡ true → world n ≡ r.some.0 n
  unfolding world
  at_told n h = ap (λ b. cond b (r.some.0 n) (cond (kept old n) (before n) nobody)) h

  at_old : (n : ℕ) → is_told r.told n ≡ false → kept old n ≡ true → world n ≡ before n
  unfolding world
  at_old n h k = ap (λ b. cond b (r.some.0 n) (cond (kept old n) (before n) nobody)) h ∙ ap (λ b. cond b (before n) nobody) k

  at_none : (n : ℕ) → is_told r.told n ≡ false → kept old n ≡ false → world n ≡ nobody
  unfolding world
  at_none n h k = ap (λ b. cond b (r.some.0 n) (cond (kept old n) (before n) nobody)) h ∙ ap (λ b. cond b (before n) nobody) k

  told_one : (n : ℕ) → is_told r.told n ≡ true → MayTell T nodes' users' n (world n)
  told_one n h = subst (λ f. MayTell T nodes' users' n f) (sym (at_told n h)) (told_at (MayTell T nodes' users') r.some.0 r.told n r.are_told r.some.1 h)

  old_one : (n : ℕ) → is_told r.told n ≡ false → kept old n ≡ true → MayTell S nodes' users' n (world n)
  old_one n h k = subst (λ f. MayTell S nodes' users' n f) (sym (at_old n h k)) (may_more S nodes nodes' users users' n (before n) later (was n k))

  tells_of : (n : ℕ) → kept new n ≡ true → MayTell T nodes' users' n (world n)
  tells_of n h = ⊎_elim
      (λ t. told_one n t)
      (λ k. ⊎_elim
      (λ t. told_one n t)
      (λ off. subst (λ f. MayTell T nodes' users' n f) (sym (at_old n off k.0)) (may_more T nodes nodes' users users' n (before n) later (stays n k.0 k.1)))
      (cases_Bool (is_told r.told n)))
      (r.nodes n h)

  -- a node that was told of or was kept has the level of its relation
  level_at : (n : ℕ) → (is_told r.told n ≡ true) ⊎ (kept old n ≡ true) → HasLevel T.config (node_at nodes' n) (world n).level
  level_at n (inl h) = told_level T nodes' users' n (world n) (told_one n h)
  level_at n (inr k) = ⊎_elim
      (λ h. told_level T nodes' users' n (world n) (told_one n h))
      (λ h. subst (λ (c : Configured). HasLevel c (node_at nodes' n) (world n).level) one (told_level S nodes' users' n (world n) (old_one n h k)))
      (cases_Bool (is_told r.told n))

  -- what it names was told of or was kept
  names : (n m : ℕ) → (is_told r.told n ≡ true) ⊎ ((is_told r.told n ≡ false) × (kept old n ≡ true)) → has (arcs_of (world n).shape) m ≡ true
      → (is_told r.told m ≡ true) ⊎ (kept old m ≡ true)
  names n m (inl h) arc = ⊎_elim (λ t. inl t) (λ k. inr k.0)
      (r.nodes m (r.arcs r.some.0 r.some.1 n m h (subst (λ (f : Fact). has (arcs_of f.shape) m ≡ true) (at_told n h) arc)))
  names n m (inr h) arc = inr (held.closed n m h.1 (held.arcs n m h.1 ∙ subst (λ (f : Fact). has (arcs_of f.shape) m ≡ true) (at_old n h.0 h.1) arc))

  plain : (n m : ℕ) → has (plain_of (world n).shape) m ≡ true → (world m).level ≤ (world n).level
  plain n m h = ⊎_elim
      (λ t. told_plain T valid nodes' users' n m (world m).level (world n) (told_one n t) (level_at m (names n m (inl t) (plain_named (world n).shape m h))) h)
      (λ off. ⊎_elim
      (λ k. told_plain S valid_before nodes' users' n m (world m).level (world n) (old_one n off k)
      (subst (λ (c : Configured). HasLevel c (node_at nodes' m) (world m).level) (sym one) (level_at m (names n m (inr (off, k)) (plain_named (world n).shape m h)))) h)
      (λ k. absurd (false≢true (subst (λ (f : Fact). has (plain_of f.shape) m ≡ true) (at_none n off k) h)))
      (cases_Bool (kept old n)))
      (cases_Bool (is_told r.told n))

  taken : (n m : ℕ) → has (taken_of (world n).shape) m ≡ true → (world m).level < (world n).level
  taken n m h = ⊎_elim
      (λ t. told_taken T valid nodes' users' n m (world m).level (world n) (told_one n t) (level_at m (names n m (inl t) (taken_named (world n).shape m h))) h)
      (λ off. ⊎_elim
      (λ k. told_taken S valid_before nodes' users' n m (world m).level (world n) (old_one n off k)
      (subst (λ (c : Configured). HasLevel c (node_at nodes' m) (world m).level) (sym one) (level_at m (names n m (inr (off, k)) (taken_named (world n).shape m h)))) h)
      (λ k. absurd (false≢true (subst (λ (f : Fact). has (taken_of f.shape) m ≡ true) (at_none n off k) h)))
      (cases_Bool (kept old n)))
      (cases_Bool (is_told r.told n))

  levels : IsLevelled world
  levels = record { plain = plain; taken = taken }

  same : IsSameElsewhere before world old changed
  same n k off = ⊎_elim
      (λ t. absurd (off ((r.few n t).1 k)))
      (λ t. at_old n t k)
      (cases_Bool (is_told r.told n))

  pub after : AreKept T nodes' users' roots new
  after = record {
    world = world;
    levelled = levels;
    held = r.held before world first levels (tells_agree world r.some.0 r.told at_told r.some.1) held turns same;
    told = tells_of;
  }

  -- what is remembered then is of that world
  pub after_of_world : (was is : Remembered) (dropped : List ℕ)
      → ((n : ℕ) (t : Told) → told_of was n ≡ Some t → (kept old n ≡ true) × (has dropped n ≡ false → fact_of t ≡ before n))
      → ((n : ℕ) → kept old n ≡ true → has dropped n ≡ false → (kept new n ≡ true) × (is_told r.told n ≡ false) × (has changed n ≡ false))
      → IsRemembered r.told dropped was is → AreOfWorld after.world new is
  unfolding after
  after_of_world was is dropped of_world stay remembered = record {
    each = λ n t at. ⊎_elim
        (λ fresh. ((r.few n fresh.0).0, sym (at_told n fresh.0 ∙ fresh.1 r.some.0 r.some.1)))
        (λ still.
        let there = of_world n t still.0 in
        let left = stay n there.0 still.1 in
        (left.0, there.1 still.1 ∙ sym (at_old n left.1 there.0)))
        (remembered n t at);
  }
