-- A group's closure and a user's direct groups meet exactly where the user is a member.
use Rattle.std.proofs.Common.{◌≡◌, ℕ, zero, suc, true, subst, inl, inr, ⊎_elim}
use Rattle.std.specs.Prelude.{◌↔◌, Contains}
use Rattle.names.specs.declared.object.Object.{Object}
use Rattle.names.specs.declared.node.Node.{Node}
use Rattle.meaning.specs.Config.{IsAt, rel_of}
use Rattle.meaning.specs.Snap.{Snap, one, set_of}
use Rattle.meaning.specs.Least.{Below}
use Rattle.meaning.specs.Membership.{HasOne, Gives, RelationGives, IsMember}
use Rattle.meaning.specs.Admits.{type_of}
use Rattle.meaning.specs.Reads as reads
use Rattle.meaning.proofs.LeastLemmas.{gained_ind}
use Rattle.meaning.proofs.ReadsLemmas.{member_unfolds}
use Rattle.config.specs.Valid as valid
use Rattle.config.specs.Valid.{uses_this}
use Rattle.graphs.specs.Groups.{Computes, IsGroupArc, GroupWalk, here, on}
use Rattle.leopard.specs.Groups.{IsGroup, GroupToGroup, MemberToGroup}
use Rattle.leopard.specs.Law.{MeetWhereMember}
use Rattle.leopard.proofs.Indexed.{indexed_has, rule_of, declares_uses, arc_indexed, given_along, own_gives, computed_gives}

-- an arc before a walk
pub before : (S : Snap) (g b n : Node) → IsGroupArc S g b → GroupWalk S b n → GroupWalk S g n
before S g b n arc here = on here arc
before S g b n arc (on {g = m} w a) = on (before S g b m arc w) a

module _ (S : Snap) (v : valid.IsValid S.config) (rv : reads.IsValid S) where
  pub walk_indexed : (g n : Node) → IsGroup S.config g → GroupWalk S g n → IsGroup S.config n
  walk_indexed g n i here = i
  walk_indexed g n i (on {g = m} w a) = arc_indexed S m n v rv (walk_indexed g m i w) a

  module _ (u : Object) where
    own_member : (g : Node) → IsGroup S.config g → HasOne S g u → IsMember S u g
    own_member g i h =
        let (d, defines, indexed) = indexed_has S.config (rel_of g) i in
        let (e, told, declared) = rv.admitted (record { node = g; subject = one u }) h in
        let same : e ≡ d = rv.once (rel_of g) e d told defines in
        let uses : uses_this d.form ≡ true = declares_uses S.config d (type_of (one u)) v defines.0 (subst (λ k. Contains k.types (type_of (one u))) same declared) in
        (member_unfolds S rv u g).1 (d, defines, own_gives S u g d.form (IsMember S u) (IsMember S u) d.rel.namespace (rule_of S.config d v defines.0 indexed).0 uses (inl h))

    arc_member : (g n : Node) → IsGroup S.config g → IsGroupArc S g n → IsMember S u n → IsMember S u g
    arc_member g n i (inl h) m =
        let (d, defines, indexed) = indexed_has S.config (rel_of g) i in
        let (e, told, declared) = rv.admitted (record { node = g; subject = set_of n }) h in
        let same : e ≡ d = rv.once (rel_of g) e d told defines in
        let uses : uses_this d.form ≡ true = declares_uses S.config d (type_of (set_of n)) v defines.0 (subst (λ k. Contains k.types (type_of (set_of n))) same declared) in
        (member_unfolds S rv u g).1 (d, defines, own_gives S u g d.form (IsMember S u) (IsMember S u) d.rel.namespace (rule_of S.config d v defines.0 indexed).0 uses (inr (n, h, m)))
    arc_member g n i (inr (e, r, told, computes, is)) m =
        let (d, defines, indexed) = indexed_has S.config (rel_of g) i in
        let same : e ≡ d = rv.once (rel_of g) e d told defines in
        (member_unfolds S rv u g).1 (d, defines, computed_gives S u g d.form (IsMember S u) (IsMember S u) d.rel.namespace r (rule_of S.config d v defines.0 indexed).0 (subst (λ k. Computes k.form r) same computes) (subst (IsMember S u) is m))

    walk_member : (g n : Node) → IsGroup S.config g → GroupWalk S g n → IsMember S u n → IsMember S u g
    walk_member g n i here m = m
    walk_member g n i (on {g = b} w a) m = walk_member g b i w (arc_member b n (walk_indexed g b i w) a m)

    abbrev Meets : Node → Type 0
    Meets g = IsGroup S.config g → (n : Node) × GroupToGroup S g n × MemberToGroup S u n

    along : (g m : Node) → IsGroup S.config g → IsGroupArc S g m → Meets m → (n : Node) × GroupToGroup S g n × MemberToGroup S u n
    along g m i arc meets =
        let r = meets (arc_indexed S g m v rv i arc) in
        (r.0, before S g m r.0 arc r.1, r.2)

    given_meets : (g : Node) (X L : Node → Type 0) → RelationGives S u g X L → ((m : Node) → X m → Meets m) → Meets g
    given_meets g X L (e, told, gives) all i =
        let (d, defines, indexed) = indexed_has S.config (rel_of g) i in
        let same : e ≡ d = rv.once (rel_of g) e d told defines in
        ⊎_elim
        (λ h. (g, here, (i, h)))
        (λ q. ⊎_elim
        (λ h. along g q.0 i (inl h) (all q.0 q.1))
        (λ h. along g q.0 i (inr (d, h.0, defines, h.1, h.2)) (all q.0 q.1))
        q.2)
        (given_along S u g d.form X L d.rel.namespace (rule_of S.config d v defines.0 indexed).0 (subst (λ k. Gives S u g k.form X L) same gives))

    level_meets : (k : ℕ) (g : Node) → Below (IsAt S.config) (RelationGives S u) k g → Meets g
    level_meets zero g b = absurd b
    level_meets (suc k) g b = gained_ind Meets
        (λ n ms rule all. ⊎_elim
        (λ low. level_meets k n low)
        (λ q. given_meets n (Contains ms) (Below (IsAt S.config) (RelationGives S u) k) q.1 all)
        rule)
        b

    pub meet : (g : Node) → IsGroup S.config g → ((n : Node) × GroupToGroup S g n × MemberToGroup S u n) ↔ IsMember S u g
    meet g i = (
      λ r. walk_member g r.0 i r.1 (own_member r.0 r.2.0 r.2.1),
      λ m. level_meets m.0 g m.1 i,
    )

pub meet_where_member : MeetWhereMember
meet_where_member S u g v rv i = meet S v rv u g i
