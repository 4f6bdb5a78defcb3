-- What an index says, and what its snapshot does.
use Rattle.std.proofs.Common.{◌≡◌, ℕ, get_or, Bool, true, false, true≢false, refl, ap, sym, subst, ◌∙◌, inl, inr, ⊎_elim}
use Rattle.std.specs.Prelude.{◌↔◌, ◌||◌, not, Contains, Some}
use Rattle.std.specs.List.{slice_get}
use Rattle.std.proofs.lemmas.List.{get_or_default}
use Rattle.std.proofs.lemmas.Option.{same_Some}
use Rattle.names.specs.declared.object.Object.{Object}
use Rattle.names.specs.declared.node.Node.{Node}
use Rattle.names.specs.declared.relation.RelationName.{RelationName}
use Rattle.names.specs.declared.tuple.Tuple.{Tuple}
use Rattle.meaning.specs.TupleSet as set
use Rattle.meaning.specs.Config.{Configured, Defined, Defines, Step, rel_of}
use Rattle.meaning.specs.Levels.{IsLevel}
use Rattle.meaning.specs.Snap.{Snap, one, set_of}
use Rattle.meaning.specs.Reads as reads
use Rattle.meaning.proofs.AdmitsLemmas.{told_admitted}
use Rattle.meaning.proofs.TupleSets.{contains_iff}
use Rattle.config_text.specs.Order.{IsOrdered}
use Rattle.config.specs.Valid as valid
use Rattle.config.specs.inside.Graph.{nowhere}
use Rattle.config.proofs.Distinct.{names_apart}
use Rattle.rows.specs.Retained.{AreAdmitted}
use Rattle.graphs.specs.Groups.{IsGroupArc, GroupWalk, here, on}
use Rattle.leopard.specs.Groups.{IsGroup, MemberToGroup, Means, SomeMeans, EachMeans}
use Rattle.leopard.specs.Query.{Query, Queries, Member2Group, Group2Group, Union, Intersection, Exclusion, none, more}
use Rattle.leopard.specs.Causes.{names_unindexed, some_name_unindexed}
use Rattle.leopard.specs.Index.{Index, Keeps, bare, LeadsTo, NamesUser, IsIndexOf, MeansBy, SomeMeansBy, EachMeansBy}
use Rattle.leopard.specs.Build.{IsListed, IsBuiltOf}
use Rattle.leopard.proofs.Bare.{no_set}
use Rattle.leopard.proofs.Ordered.{get_contains, contains_get}
use Rattle.leopard.proofs.Rounds.{listed_first}
use Rattle.leopard.proofs.Gather.{any_contains}
use Rattle.leopard.proofs.Meeting.{walk_indexed}

-- ---- a valid view

once_in : (c : Configured) → IsOrdered c → (r : RelationName) (d e : Defined) → Defines c r d → Defines c r e → d ≡ e
once_in c ordered r d e ((i, lt, at), rel) ((j, gt, there), same) =
    let at_i : get_or c.relations i nowhere ≡ d = get_or_default c.relations i nowhere d lt ∙ at in
    let at_j : get_or c.relations j nowhere ≡ e = get_or_default c.relations j nowhere e gt ∙ there in
    let one_place : i ≡ j = names_apart c ordered i j lt gt (ap (λ (x : Defined). x.rel) at_i ∙ rel ∙ sym same ∙ sym (ap (λ (x : Defined). x.rel) at_j)) in
    sym at_i ∙ ap (λ k. get_or c.relations k nowhere) one_place ∙ at_j

pub valid_snap : (S : Snap) (c : Configured) → c ≡ S.config → valid.IsValid c → IsOrdered c → AreAdmitted S → reads.IsValid S
valid_snap S c same v ordered admitted = record {
  once = once_in S.config (subst IsOrdered same ordered);
  levels = λ r h. let (d, (at, rel)) = h in let (k, level) = (subst valid.IsValid same v).levels d at in (k, subst (λ (q : RelationName). IsLevel (Step S.config) q k) rel level);
  admitted = λ t h. told_admitted S.config t (admitted t ((contains_iff S.tuples t).1 h));
}

-- ---- walks

pub joined : (S : Snap) (g h n : Node) → GroupWalk S g h → GroupWalk S h n → GroupWalk S g n
joined S g h n first here = first
joined S g h n first (on {g = m} w a) = on (joined S g h m first w) a

-- an arc of the configuration by itself is one of the snapshot
bare_arc : (S : Snap) (c : Configured) → c ≡ S.config → (g h : Node) → IsGroupArc (bare c) g h → IsGroupArc S g h
bare_arc S c same g h (inl s) = absurd (no_set c g h s)
bare_arc S c same g h (inr (d, r, defines, computes, is)) = inr (d, r, subst (λ (k : Configured). Defines k (rel_of g) d) same defines, computes, is)

bare_walk : (S : Snap) (c : Configured) → c ≡ S.config → (g n : Node) → GroupWalk (bare c) g n → GroupWalk S g n
bare_walk S c same g n here = here
bare_walk S c same g n (on {g = m} w a) = on (bare_walk S c same g m w) (bare_arc S c same m n a)

-- ---- the index of a snapshot

-- the tuple by which a group has the other
abbrev arc_tuple : Node → Node → Tuple
arc_tuple n m = record { node = n; subject = set_of m }

-- the one by which it has a user
abbrev user_tuple : Node → Object → Tuple
user_tuple n u = record { node = n; subject = one u }

-- a group with a tuple is listed
pub owner_listed : (S : Snap) (g : Node) (t : Tuple) → Contains (set.items S.tuples) t → t.node ≡ g → IsGroup S.config g → IsListed S g
owner_listed S g t c is group = listed_first S g (any_contains (λ (q : Tuple). IsGroup S.config q.node × (g ≡ q.node)) (set.items S.tuples) t c (subst (IsGroup S.config) (sym is) group, sym is))

module _ (S : Snap) (rev : ℕ) (x : Index) (b : IsBuiltOf S rev x) where
  -- what a listed group leads to is kept
  kept_of : (g n : Node) (at : ℕ) → slice_get x.groups at ≡ Some g → GroupWalk S g n → Keeps x.groups x.closures at n
  kept_of g n at there w =
      let (o, own, walk) = (b.groups g).0 (get_contains x.groups at g there) in
      let (id, is) = contains_get x.groups n ((b.groups n).1 (o, own, joined S o g n walk w)) in
      (id, is, ((b.closures.each at g there).ids id).1 (n, is, w))

  kept_is : (h n : Node) (at : ℕ) → slice_get x.groups at ≡ Some h → Keeps x.groups x.closures at n → GroupWalk S h n
  kept_is h n at there (id, is, in_set) =
      let (m, m_is, m_walk) = ((b.closures.each at h there).ids id).0 in_set in
      subst (GroupWalk S h) (same_Some m n (sym m_is ∙ is)) m_walk

  leads_sound : (g n : Node) → LeadsTo x g n → GroupWalk S g n
  leads_sound g n (h, w, kept) =
      let walk = bare_walk S x.config b.config g h w in
      ⊎_elim
      (λ e. subst (GroupWalk S g) e walk)
      (λ (at, there, keeps). joined S g h n walk (kept_is h n at there keeps))
      kept

  module _ (v : valid.IsValid S.config) (rv : reads.IsValid S) where
    leads_on : (g m n : Node) → IsGroup S.config g → GroupWalk S g m → LeadsTo x g m → IsGroupArc S m n → LeadsTo x g n
    leads_on g m n group walk (h, w, inr (at, there, keeps)) a =
        (h, w, inr (at, there, kept_of h n at there (on (kept_is h m at there keeps) a)))
    leads_on g m n group walk (h, w, inl e) (inr (d, r, defines, computes, is)) =
        (n, on (subst (GroupWalk (bare x.config) g) e w) (inr (d, r, subst (λ (k : Configured). Defines k (rel_of m) d) (sym b.config) defines, computes, is)), inl refl)
    leads_on g m n group walk (h, w, inl e) (inl s) =
        let (at, is) = contains_get x.groups m ((b.groups m).1 (owner_listed S m (arc_tuple m n) s refl (walk_indexed S v rv g m group walk))) in
        (m, subst (GroupWalk (bare x.config) g) e w, inr (at, is, kept_of m n at is (on here (inl s))))

    leads_complete : (g n : Node) → IsGroup S.config g → GroupWalk S g n → LeadsTo x g n
    leads_complete g n group here = (g, here, inl refl)
    leads_complete g n group (on {g = m} w a) = leads_on g m n group w (leads_complete g m group w) a

    named_by : (u : Object) (n : Node) → NamesUser x u n ↔ MemberToGroup S u n
    named_by u n = (
      λ (at, there, (id, is, in_set)).
          let (m, m_is, member) = ((b.direct.each at u there).ids id).0 in_set in
          subst (MemberToGroup S u) (same_Some m n (sym m_is ∙ is)) member,
      λ (group, h).
          let (at, there) = contains_get x.users u ((b.users u).1 (n, (group, h))) in
          let (id, is) = contains_get x.groups n ((b.groups n).1 (owner_listed S n (user_tuple n u) h refl group)) in
          (at, there, (id, is, ((b.direct.each at u there).ids id).1 (n, is, (group, h)))),
    )

    pub is_index : IsIndexOf S x
    is_index = record {
      config = b.config;
      closures = λ g n group. (leads_sound g n, leads_complete g n group);
      direct = named_by;
    }

-- ---- expressions

pub or_false : (a b : Bool) → (a || b) ≡ false → (a ≡ false) × (b ≡ false)
or_false false b e = (refl, e)
or_false true b e = absurd (true≢false e)

pub indexed_is : (b : Bool) → not b ≡ false → b ≡ true
indexed_is true e = refl
indexed_is false e = absurd (true≢false e)

module _ (S : Snap) (x : Index) (is : IsIndexOf S x) where
  mutual
    pub means_by : (q : Query) → names_unindexed S.config q ≡ false → (n : Node) → MeansBy x q n ↔ Means S q n
    means_by (Member2Group u) e n = is.direct u n
    means_by (Group2Group g) e n = is.closures g n (indexed_is (valid.is_indexed S.config (rel_of g)) e)
    means_by (Union qs) e n = some_means_by qs e n
    means_by (Intersection qs) e n = each_means_by qs e n
    means_by (Exclusion a b) e n =
        let parts = or_false (names_unindexed S.config a) (names_unindexed S.config b) e in (
          λ (h, lacks). ((means_by a parts.0 n).0 h, λ k. lacks ((means_by b parts.1 n).1 k)),
          λ (h, lacks). ((means_by a parts.0 n).1 h, λ k. lacks ((means_by b parts.1 n).0 k)),
        )

    some_means_by : (qs : Queries) → some_name_unindexed S.config qs ≡ false → (n : Node) → SomeMeansBy x qs n ↔ SomeMeans S qs n
    some_means_by none e n = (λ h. h, λ h. h)
    some_means_by (more q qs) e n =
        let parts = or_false (names_unindexed S.config q) (some_name_unindexed S.config qs) e in (
          λ h. ⊎_elim (λ k. inl ((means_by q parts.0 n).0 k)) (λ k. inr ((some_means_by qs parts.1 n).0 k)) h,
          λ h. ⊎_elim (λ k. inl ((means_by q parts.0 n).1 k)) (λ k. inr ((some_means_by qs parts.1 n).1 k)) h,
        )

    each_means_by : (qs : Queries) → some_name_unindexed S.config qs ≡ false → (n : Node) → EachMeansBy x qs n ↔ EachMeans S qs n
    each_means_by none e n = (λ h. h, λ h. h)
    each_means_by (more q qs) e n =
        let parts = or_false (names_unindexed S.config q) (some_name_unindexed S.config qs) e in (
          λ (h, k). ((means_by q parts.0 n).0 h, (each_means_by qs parts.1 n).0 k),
          λ (h, k). ((means_by q parts.0 n).1 h, (each_means_by qs parts.1 n).1 k),
        )
