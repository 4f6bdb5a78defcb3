-- Only what a rewrite looks up matters, and it looks at no higher level.
use Rattle.std.proofs.Common.{ℕ, zero, suc, ◌<◌, ◌≤◌, Bool, true, false, arith, ap, ◌∙◌, subst, sym, refl, inl, inr, ⊎_elim}
use Rattle.std.specs.Prelude.{◌↔◌, Contains, Some, None}
use Rattle.names.specs.declared.object.Object.{Object}
use Rattle.names.specs.declared.node.Node.{Node}
use Rattle.meaning.specs.Snap.{one, set_of}
use Rattle.meaning.specs.Form.{Form, Forms, This, Computed, TupleTo, Union, Intersection, Exclusion, none, more}
use Rattle.meaning.specs.Levels.{plain, subtracted}
use Rattle.meaning.specs.Config.{Defined, Defines, Has, Step, StepsTo, SomeStepsTo, IsAt, rel_of}
use Rattle.meaning.specs.Least.{Below}
use Rattle.meaning.specs.Snap.{Snap}
use Rattle.meaning.specs.Membership.{Gives, SomeGives, EachGives, RelationGives, IsMember}
use Rattle.meaning.specs.Reads.{Reads, SomeReads, IsValid}
use Rattle.meaning.proofs.GivesLemmas.{relation_grows, relation_finitary}
use Rattle.meaning.proofs.LeastLemmas.{unfolds, from_given, up_to}

mutual
  pub gives_reads : (S : Snap) (u : Object) (n : Node) (w : Form) (X Y L K : Node → Type 0) → ((m : Node) → Reads S n w false m → X m → Y m) → ((m : Node) → Reads S n w true m → L m ↔ K m) → Gives S u n w X L → Gives S u n w Y K
  gives_reads S u n This X Y L K f e (inl h) = inl h
  gives_reads S u n This X Y L K f e (inr h) = inr (h.0, h.1, f h.0 (refl, h.1) h.2)
  gives_reads S u n (Computed c) X Y L K f e h = f _ (refl, refl) h
  gives_reads S u n (TupleTo t c) X Y L K f e h = (h.0, h.1, h.2, f _ (refl, (h.0, h.1, h.2, refl)) h.3)
  gives_reads S u n (Union ws) X Y L K f e h = some_reads S u n ws X Y L K f e h
  gives_reads S u n (Intersection ws) X Y L K f e h = each_reads S u n ws X Y L K f e h
  gives_reads S u n (Exclusion a b) X Y L K f e h = (
    gives_reads S u n a X Y L K (λ m r. f m (inl r)) (λ m r. e m (inl r)) h.0,
    λ g. h.1 (gives_reads S u n b K L K L (λ m r. (e m (inr (refl, (false, r)))).1) (λ m r. let s = e m (inr (refl, (true, r))) in (s.1, s.0)) g),
  )

  pub some_reads : (S : Snap) (u : Object) (n : Node) (ws : Forms) (X Y L K : Node → Type 0) → ((m : Node) → SomeReads S n ws false m → X m → Y m) → ((m : Node) → SomeReads S n ws true m → L m ↔ K m) → SomeGives S u n ws X L → SomeGives S u n ws Y K
  some_reads S u n none X Y L K f e h = h
  some_reads S u n (more w ws) X Y L K f e (inl h) = inl (gives_reads S u n w X Y L K (λ m r. f m (inl r)) (λ m r. e m (inl r)) h)
  some_reads S u n (more w ws) X Y L K f e (inr h) = inr (some_reads S u n ws X Y L K (λ m r. f m (inr r)) (λ m r. e m (inr r)) h)

  pub each_reads : (S : Snap) (u : Object) (n : Node) (ws : Forms) (X Y L K : Node → Type 0) → ((m : Node) → SomeReads S n ws false m → X m → Y m) → ((m : Node) → SomeReads S n ws true m → L m ↔ K m) → EachGives S u n ws X L → EachGives S u n ws Y K
  each_reads S u n none X Y L K f e h = h
  each_reads S u n (more w ws) X Y L K f e h =
      (gives_reads S u n w X Y L K (λ m r. f m (inl r)) (λ m r. e m (inl r)) h.0, each_reads S u n ws X Y L K (λ m r. f m (inr r)) (λ m r. e m (inr r)) h.1)

-- what is looked up is a step of dependence
module _ (S : Snap) (valid : IsValid S) (n : Node) (d : Defined) (defines : Defines S.config (rel_of n) d) where
  mutual
    pub reads_steps : (w : Form) (sign : Bool) (m : Node) → Reads S n w sign m → StepsTo S.config d w sign (rel_of m)
    reads_steps This sign m r =
        let a = valid.admitted (record { node = n; subject = set_of m }) r.1 in
        (r.0, subst (λ x. Contains x.types (record { namespace = m.object.namespace; relation = Some m.relation })) (valid.once (rel_of n) a.0 d a.1 defines) a.2)
    reads_steps (Computed c) sign m r =
        (r.0, ap rel_of r.1 ∙ ap (λ q. record { namespace = q.namespace; relation = c }) (sym defines.1))
    reads_steps (TupleTo t c) sign m r =
        let a = valid.admitted (record { node = record { object = n.object; relation = t }; subject = one r.1.0 }) r.1.1 in
        let space = ap (λ (x : Node). x.object.namespace) r.1.3 in (
          r.0,
          ap (λ (x : Node). x.relation) r.1.3,
          subst (λ x. Has S.config (rel_of x)) (sym r.1.3) r.1.2,
          (a.0, subst (λ q. Defines S.config (record { namespace = q; relation = t }) a.0) (ap (λ q. q.namespace) (sym defines.1)) a.1, subst (λ q. Contains a.0.types (record { namespace = q; relation = None })) (sym space) a.2),
        )
    reads_steps (Union ws) sign m r = some_reads_steps ws sign m r
    reads_steps (Intersection ws) sign m r = some_reads_steps ws sign m r
    reads_steps (Exclusion a b) sign m (inl r) = inl (reads_steps a sign m r)
    reads_steps (Exclusion a b) sign m (inr r) = inr (r.0, (r.1.0, reads_steps b r.1.0 m r.1.1))

    pub some_reads_steps : (ws : Forms) (sign : Bool) (m : Node) → SomeReads S n ws sign m → SomeStepsTo S.config d ws sign (rel_of m)
    some_reads_steps none sign m r = r
    some_reads_steps (more w ws) sign m (inl r) = inl (reads_steps w sign m r)
    some_reads_steps (more w ws) sign m (inr r) = inr (some_reads_steps ws sign m r)

-- a member is gained at its own level
pub at_level : (S : Snap) (u : Object) (k : ℕ) (n : Node) → Below (IsAt S.config) (RelationGives S u) k n → (j : ℕ) × IsAt S.config n j × Below (IsAt S.config) (RelationGives S u) (suc j) n × RelationGives S u n (Below (IsAt S.config) (RelationGives S u) (suc j)) (Below (IsAt S.config) (RelationGives S u) j)
at_level S u zero n b = absurd b
at_level S u (suc k) n b =
    ⊎_elim
    (λ l. at_level S u k n l)
    (λ g. (k, g.0, b, g.1))
    (unfolds (RelationGives S u) (relation_grows S u) (relation_finitary S u) (λ m. IsAt S.config m k) (Below (IsAt S.config) (RelationGives S u) k) n b)

-- what is gained below k is of a level below k
pub below_level : (S : Snap) (u : Object) (k : ℕ) (n : Node) → Below (IsAt S.config) (RelationGives S u) k n → (j : ℕ) × IsAt S.config n j × (j < k)
below_level S u zero n b = absurd b
below_level S u (suc k) n b =
    ⊎_elim
    (λ l. let h = below_level S u k n l in (h.0, h.1, omega (arith, h.2)))
    (λ g. (k, g.0, omega arith))
    (unfolds (RelationGives S u) (relation_grows S u) (relation_finitary S u) (λ m. IsAt S.config m k) (Below (IsAt S.config) (RelationGives S u) k) n b)

module _ (S : Snap) (valid : IsValid S) (u : Object) where
  abbrev pub below : ℕ → Node → Type 0
  below = Below (IsAt S.config) (RelationGives S u)

  -- the members among what a node of level k looks up
  pub plain_read : (n m : Node) (d : Defined) (k : ℕ) → Defines S.config (rel_of n) d → IsAt S.config n k → Reads S n d.form false m → IsMember S u m → below (suc k) m
  plain_read n m d k defines at reads member =
      let l = at_level S u member.0 m member.1 in
      let step : Step S.config (rel_of n) false (rel_of m) = (d, defines, reads_steps S valid n d defines d.form false m reads) in
      let low : l.0 ≤ k = at.1.greatest l.0 (plain step l.1.1.path) in
      up_to (RelationGives S u) (relation_grows S u) (relation_finitary S u) (IsAt S.config) (suc k) (suc l.0) m (omega (arith, low)) l.2

  pub subtracted_read : (n m : Node) (d : Defined) (k : ℕ) → Defines S.config (rel_of n) d → IsAt S.config n k → Reads S n d.form true m → IsMember S u m ↔ below k m
  subtracted_read n m d k defines at reads = (
    λ member.
        let l = at_level S u member.0 m member.1 in
        let step : Step S.config (rel_of n) true (rel_of m) = (d, defines, reads_steps S valid n d defines d.form true m reads) in
        let low : suc l.0 ≤ k = at.1.greatest (suc l.0) (subtracted step l.1.1.path) in
        up_to (RelationGives S u) (relation_grows S u) (relation_finitary S u) (IsAt S.config) k (suc l.0) m low l.2,
    λ b. (k, b),
  )

  -- membership is what the rewrites give from membership
  pub member_unfolds : (n : Node) → IsMember S u n ↔ RelationGives S u n (IsMember S u) (IsMember S u)
  member_unfolds n = (
    λ member.
        let l = at_level S u member.0 n member.1 in
        let g = l.3 in
        (g.0, g.1, gives_reads S u n g.0.form (below (suc l.0)) (IsMember S u) (below l.0) (IsMember S u) (λ m r b. (suc l.0, b)) (λ m r. let e = subtracted_read n m g.0 l.0 g.1 l.1 r in (e.1, e.0)) g.2),
    λ g.
        let level = valid.levels (rel_of n) (g.0, g.1) in
        let k = level.0 in
        let at : IsAt S.config n k = ((g.0, g.1), level.1) in (
          suc k,
          from_given (RelationGives S u) (relation_grows S u) (relation_finitary S u) (λ m. IsAt S.config m k) (below k) n at
              (g.0, g.1, gives_reads S u n g.0.form (IsMember S u) (below (suc k)) (IsMember S u) (below k) (λ m r b. plain_read n m g.0 k g.1 at r b) (λ m r. subtracted_read n m g.0 k g.1 at r) g.2),
        ),
  )
