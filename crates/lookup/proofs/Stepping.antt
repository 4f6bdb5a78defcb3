-- The walk up from a user.
use Rattle.std.proofs.Common.{◌≡◌, ℕ, ◌+◌, ◌<◌, ◌≤◌, List, [], ◌∷◌, ◌++◌, length, get_or, take, true, refl, sym, ap, subst, ◌∙◌, ⊎_elim, arith}
use Rattle.std.specs.Prelude.{◌↔◌, Contains, Some, None}
use Rattle.std.specs.List.{slice_get}
use Rattle.std.proofs.lemmas.Bool.{cases_lt}
use Rattle.std.proofs.lemmas.List.{take_more, take_all}
use Rattle.std.proofs.lemmas.List.Elements.{Contains-push_cases}
use Rattle.std.proofs.lemmas.Option.{none-some, same_Some, slice_get-get_or, slice_get_within}
use Rattle.names.specs.declared.object.Object.{Object}
use Rattle.names.specs.declared.node.Node.{Node}
use Rattle.names.specs.declared.subject.Subject.{Subject}
use Rattle.meaning.specs.TupleSet as set
use Rattle.meaning.specs.TupleSet.{Tuples}
use Rattle.meaning.specs.Config.{Configured, Defined, Defines, rel_of}
use Rattle.meaning.specs.Snap.{Snap, one, set_of}
use Rattle.meaning.specs.Membership.{HasOne, HasSet}
use Rattle.meaning.proofs.TupleSets.{contains_iff}
use Rattle.by_subject.specs.Complete.{Covers}
use Rattle.lookup.specs.inside.Leading.{computes, follows}
use Rattle.lookup.specs.inside.Walking.{Grew, IsNaming, HasFollowing, HasAbove, HasReached}
use Rattle.lookup.proofs.Growing.{grew_has, grew_got}
use Rattle.lookup.proofs.ReadBy.{read_by}

-- what a snapshot's tuples have is found by its subject
is_found : (S : Snap) (subjects : Tuples) (n : Node) (s : Subject) → Covers subjects S.tuples → Contains (set.items S.tuples) (record { node = n; subject = s }) → IsNaming subjects s n
is_found S subjects n s covers c = covers (record { node = n; subject = s }) ((contains_iff S.tuples (record { node = n; subject = s })).1 c)

-- the three ways up from a node
pub steps_up : (config : Configured) (subjects : Tuples) (m : Node) (members tuplesets computed named all : List Node)
    → ((n : Node) (d : Defined) → Defines config (rel_of n) d → n.object ≡ m.object → computes m.relation d.form ≡ true → Contains computed n)
    → ((n : Node) → Contains members n ↔ IsNaming subjects (set_of m) n) → ((n : Node) → Contains members n → Contains named n)
    → ((n : Node) → Contains tuplesets n ↔ IsNaming subjects (one m.object) n) → ((q : Node) → Contains tuplesets q → HasFollowing config q m.relation all)
    → Grew computed named → Grew named all → HasAbove config subjects m all
steps_up config subjects m members tuplesets computed named all by_computed are_members by_members are_tuplesets by_tuplesets more most S same covers n d defines reads =
    ⊎_elim set_way (⊎_elim computed_way tupleset_way) (read_by S n m d.form reads)
  where
    defines_here : Defines config (rel_of n) d
    defines_here = subst (λ (k : Configured). Defines k (rel_of n) d) same defines

    set_way : HasSet S n m → Contains all n
    set_way h = grew_has named all n most (by_members n ((are_members n).1 (is_found S subjects n (set_of m) covers h)))

    computed_way : (n.object ≡ m.object) × (computes m.relation d.form ≡ true) → Contains all n
    computed_way h = grew_has named all n most (grew_has computed named n more (by_computed n d defines_here h.0 h.1))

    tupleset_way : (t : List ℕ) × HasOne S (record { object = n.object; relation = t }) m.object × (follows t m.relation d.form ≡ true) → Contains all n
    tupleset_way h =
        let q : Node = record { object = n.object; relation = h.0 } in
        by_tuplesets q ((are_tuplesets q).1 (is_found S subjects q (one m.object) covers h.1)) n d defines_here refl h.2

-- a tupleset more
pub one_more : (config : Configured) (relation : List ℕ) (old new tuplesets : List Node) (i : ℕ) (q : Node) → i < length tuplesets → q ≡ get_or tuplesets i q → Grew old new
    → ((p : Node) → Contains (take i tuplesets) p → HasFollowing config p relation old) → HasFollowing config q relation new
    → (p : Node) → Contains (take (i + 1) tuplesets) p → HasFollowing config p relation new
one_more config relation old new tuplesets i q within is grew before here p c =
    ⊎_elim
    (λ d n e defines same goes. grew_has old new n grew (before p d n e defines same goes))
    (λ e. subst (λ (x : Node). HasFollowing config x relation new) e here)
    (Contains-push_cases (take i tuplesets) q p (subst (λ (xs : List Node). Contains xs p) (sym more) c))
  where
    more : take i tuplesets ++ q ∷ [] ≡ take (i + 1) tuplesets
    more = ap (λ x. take i tuplesets ++ x ∷ []) is ∙ sym (take_more tuplesets i q within)

pub all_of_them : (config : Configured) (relation : List ℕ) (nodes tuplesets : List Node) (i : ℕ) → length tuplesets ≤ i
    → ((p : Node) → Contains (take i tuplesets) p → HasFollowing config p relation nodes) → (p : Node) → Contains tuplesets p → HasFollowing config p relation nodes
all_of_them config relation nodes tuplesets i end before p c = before p (subst (λ (xs : List Node). Contains xs p) (sym (take_all i tuplesets end)) c)

-- The nodes that name the user are there, and of those before a place all that are above.
pub record IsWalked (config : Configured) (subjects : Tuples) (u : Object) (nodes : List Node) (next : ℕ) : Type 0 where
  pub begins : (n : Node) → IsNaming subjects (one u) n → Contains nodes n
  pub above : (k : ℕ) (m : Node) → k < next → slice_get nodes k ≡ Some m → HasAbove config subjects m nodes

module _ (config : Configured) (subjects : Tuples) (u : Object) where
  pub walk_begins : (nodes : List Node) → ((n : Node) → IsNaming subjects (one u) n → Contains nodes n) → IsWalked config subjects u nodes 0
  walk_begins nodes begins = record { begins = begins; above = λ k m less at. absurd (omega (arith, less)) }

  pub walk_goes_on : (old new : List Node) (next : ℕ) (m : Node) → slice_get old next ≡ Some m → Grew old new → HasAbove config subjects m new
      → IsWalked config subjects u old next → IsWalked config subjects u new (next + 1)
  walk_goes_on old new next m at grew above walked = record {
    begins = λ n h. grew_has old new n grew (walked.begins n h);
    above = λ k p less at_k. above_at k p less (grew_got old new k p grew (omega (arith, less, slice_get_within old next m at)) at_k);
  }
    where
      above_at : (k : ℕ) (p : Node) → k < next + 1 → slice_get old k ≡ Some p → HasAbove config subjects p new
      above_at k p less before = ⊎_elim
          (λ l S same covers n d defines reads. grew_has old new n grew (walked.above k p l before S same covers n d defines reads))
          (λ l. subst (λ (x : Node). HasAbove config subjects x new) (same_Some m p (sym at ∙ ap (slice_get old) (here l) ∙ before)) above)
          (cases_lt k next)
        where
          here : next ≤ k → next ≡ k
          here l = omega (arith, l, less)

  pub walk_ends : (nodes : List Node) (next : ℕ) → slice_get nodes next ≡ None → IsWalked config subjects u nodes next → HasReached config subjects u nodes
  walk_ends nodes next none walked S same covers = record {
    begins = λ n h. walked.begins n (is_found S subjects n (one u) covers h);
    goes_on = λ n m d defines reads c. walked.above c.0 m (before c.0 m c.1) (slice_get-get_or nodes c.0 m c.1 ∙ ap (λ x. Some x) c.2) S same covers n d defines reads;
  }
    where
      before : (k : ℕ) (m : Node) → k < length nodes → k < next
      before k m within = ⊎_elim (λ l. l) (λ l. absurd (none-some (get_or nodes next m) (sym none ∙ slice_get-get_or nodes next m (omega (arith, l, within))))) (cases_lt k next)
