-- A region of one level, evaluated for one user: what is held in it, beside what is known of the nodes that it looks up.
use Rattle.std.proofs.Common.{◌≡◌, ℕ, suc, ◌<◌, true, false, arith, subst, inl, inr, ⊎_elim}
use Rattle.std.specs.Prelude.{◌⊎◌}
use Rattle.names.specs.declared.object.Object.{Object}
use Rattle.names.specs.declared.node.Node.{Node}
use Rattle.meaning.specs.Config.{Defined, Defines, IsAt, Step, rel_of}
use Rattle.meaning.specs.Least.{Below}
use Rattle.meaning.specs.Snap.{Snap}
use Rattle.meaning.specs.Membership.{RelationGives, IsMember}
use Rattle.meaning.specs.Reads.{Reads, IsValid}
use Rattle.meaning.proofs.GivesLemmas.{relation_grows, relation_finitary}
use Rattle.meaning.proofs.LeastLemmas.{least_of}
use Rattle.meaning.proofs.LevelLemmas.{one_level}
use Rattle.meaning.proofs.ReadsLemmas.{gives_reads, at_level, below_level, subtracted_read, member_unfolds}

-- what is known of the nodes that the region's nodes look up: T has only members, and each member that is looked up is in the region or in T, and in T where it is subtracted
pub record IsKnownAround (S : Snap) (u : Object) (region : Node → Type 0) (T : Node → Type 0) : Type 0 where
  pub sound : (m : Node) → T m → IsMember S u m
  pub plain_known : (n m : Node) (d : Defined) → region n → Defines S.config (rel_of n) d → Reads S n d.form false m → region m ⊎ (IsMember S u m → T m)
  pub subtracted_known : (n m : Node) (d : Defined) → region n → Defines S.config (rel_of n) d → Reads S n d.form true m → IsMember S u m → T m

module _ (S : Snap) (valid : IsValid S) (u : Object) (k : ℕ) (region T : Node → Type 0) (around : IsKnownAround S u region T) where
  -- what the rule gives from members is a member
  pub region_sound : (X : Node → Type 0) → ((m : Node) → X m → IsMember S u m) → (n : Node) → region n → RelationGives S u n X T → IsMember S u n
  region_sound X members n in_region g =
      (member_unfolds S valid u n).1
      (g.0, g.1, gives_reads S u n g.0.form X (IsMember S u) T (IsMember S u) (λ m r x. members m x) (λ m r. (around.sound m, around.subtracted_known n m g.0 in_region g.1 r)) g.2)

  -- and where what is held is closed in the region, it has all members of the region
  pub region_complete : (held : Node → Type 0) → ((m : Node) → region m → IsAt S.config m k) → ((n : Node) → region n → RelationGives S u n (λ m. (region m × held m) ⊎ T m) T → held n) → (n : Node) → region n → IsMember S u n → held n
  region_complete held at closed n in_region member =
      let own = at_level S u member.0 n member.1 in
      let same : own.0 ≡ k = one_level (Step S.config) (rel_of n) own.0 k own.1.1 (at n in_region).1 in
      let here : Below (IsAt S.config) (RelationGives S u) (suc k) n = subst (λ j. Below (IsAt S.config) (RelationGives S u) (suc j) n) same own.2 in
      (least_of (RelationGives S u) (relation_grows S u) (relation_finitary S u) (λ m. IsAt S.config m k) (Below (IsAt S.config) (RelationGives S u) k) (λ m. IsMember S u m × (region m → held m)) lower given n here).1 in_region
    where
      lower : (m : Node) → Below (IsAt S.config) (RelationGives S u) k m → IsMember S u m × (region m → held m)
      lower m b = ((k, b), λ r. absurd (not_here m b r))
        where
          not_here : (m : Node) → Below (IsAt S.config) (RelationGives S u) k m → region m → ⊥
          not_here m b r =
              let l = below_level S u k m b in
              let e : l.0 ≡ k = one_level (Step S.config) (rel_of m) l.0 k l.1.1 (at m r).1 in
              let less : l.0 < k = l.2 in
              omega (arith, e, less)

      given : (m : Node) → IsAt S.config m k → RelationGives S u m (λ p. IsMember S u p × (region p → held p)) (Below (IsAt S.config) (RelationGives S u) k) → IsMember S u m × (region m → held m)
      given m here g = (
        member_of m here g,
        λ r. closed m r (
          g.0,
          g.1,
          gives_reads S u m g.0.form (λ p. IsMember S u p × (region p → held p)) (λ p. (region p × held p) ⊎ T p) (Below (IsAt S.config) (RelationGives S u) k) T
              (λ p reads x. ⊎_elim (λ q. inl (q, x.1 q)) (λ t. inr (t x.0)) (around.plain_known m p g.0 r g.1 reads))
              (λ p reads. (λ b. around.subtracted_known m p g.0 r g.1 reads (k, b), λ t. below_of m here g p reads (around.sound p t)))
              g.2,
        ),
      )
        where
          member_of : (m : Node) → IsAt S.config m k → RelationGives S u m (λ p. IsMember S u p × (region p → held p)) (Below (IsAt S.config) (RelationGives S u) k) → IsMember S u m
          member_of m here g =
              (member_unfolds S valid u m).1
              (g.0, g.1, gives_reads S u m g.0.form (λ p. IsMember S u p × (region p → held p)) (IsMember S u) (Below (IsAt S.config) (RelationGives S u) k) (IsMember S u) (λ p r x. x.0) (λ p r. let e = subtracted_read S valid u m p g.0 k g.1 here r in (e.1, e.0)) g.2)

          below_of : (m : Node) → IsAt S.config m k → (g : RelationGives S u m (λ p. IsMember S u p × (region p → held p)) (Below (IsAt S.config) (RelationGives S u) k)) → (p : Node) → Reads S m g.0.form true p → IsMember S u p → Below (IsAt S.config) (RelationGives S u) k p
          below_of m here g p reads member = (subtracted_read S valid u m p g.0 k g.1 here reads).0 member
