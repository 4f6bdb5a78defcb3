-- The least sets of groups are the group closure.
use Rattle.std.proofs.Common.{ℕ, ◌≡◌, Bool, true, List, refl, sym, subst}
use Rattle.names.specs.declared.node.Node.{Node}
use Rattle.meaning.specs.Snap.{Snap}
use Rattle.least_sets.specs.World.{has}
use Rattle.least_sets.specs.Walks.{Walk}
use Rattle.least_sets.specs.Walks as walks
use Rattle.least_sets.proofs.GroupLemmas as group
use Rattle.graphs.specs.Graph.{AreIdsOf}
use Rattle.graphs.specs.Groups.{IsGroupArc, GroupWalk, here, on, LeastIsClosure}

module _ (S : Snap) (nodes : ℕ → Node) (part : ℕ → Bool) (arcs : ℕ → List ℕ)
    (ids : (n : ℕ) → part n ≡ true → AreIdsOf nodes (arcs n) (IsGroupArc S (nodes n)))
    (closed : (n m : ℕ) → part n ≡ true → has (arcs n) m ≡ true → part m ≡ true) where
  walked : (n m : ℕ) → part n ≡ true → Walk (λ a b. has (arcs a) b) n m → (part m ≡ true) × GroupWalk S (nodes n) (nodes m)
  walked n m pn walks.here = (pn, here)
  walked n m pn (walks.on {b = b} w a) =
      let p = walked n b pn w in
      (closed b m p.0 a, on p.1 ((ids b p.0).sound m a))

  numbered : (n : ℕ) → part n ≡ true → (q : Node) → GroupWalk S (nodes n) q → (j : ℕ) × (part j ≡ true) × (nodes j ≡ q) × Walk (λ a b. has (arcs a) b) n j
  numbered n pn q here = (n, pn, refl, walks.here)
  numbered n pn q (on {g = g} w a) =
      let p = numbered n pn g w in
      let r = (ids p.0 p.1).complete q (subst (λ k. IsGroupArc S k q) (sym p.2) a) in
      (r.0, closed p.0 r.0 p.1 r.1, r.2, walks.on p.3 r.1)

pub closure : LeastIsClosure
closure S nodes part arcs end set one ids closed least n pn pe =
    let both = group.walks arcs part end set closed least n pn in (
      λ h. (walked S nodes part arcs ids closed n end pn (both.0 h)).1,
      λ w.
          let r = numbered S nodes part arcs ids closed n pn (nodes end) w in
          both.1 (subst (λ j. Walk (λ a b. has (arcs a) b) n j) (one r.0 end r.1 pe r.2) r.3),
    )
