-- A shape stays that of its rewrite where what it names keeps its number, and what it looks up its tuples.
use Rattle.std.proofs.Common.{ℕ, ◌≡◌, true, List, refl, sym, ◌∙◌, subst, inl, inr}
use Rattle.std.specs.Prelude.{◌↔◌}
use Rattle.names.specs.declared.object.Object.{Object}
use Rattle.names.specs.declared.node.Node.{Node}
use Rattle.meaning.specs.Snap.{Snap}
use Rattle.meaning.specs.Config.{Configured, Has}
use Rattle.meaning.specs.Form.{Form, Forms, none, more}
use Rattle.meaning.specs.Form as form
use Rattle.meaning.specs.Membership.{HasOne, HasSet}
use Rattle.least_sets.specs.World.{Shape, has, arcs_of}
use Rattle.least_sets.proofs.Gives.{has_left, has_right}
use Rattle.graphs.specs.Graph.{AreIdsOf, IsTupleTo, IsShapeOf, IsAnyOf, IsEachOf}

pub ids_same : (f g : ℕ → Node) (ids : List ℕ) (P Q : Node → Type 0) → ((i : ℕ) → has ids i ≡ true → f i ≡ g i) → ((m : Node) → P m ↔ Q m)
    → AreIdsOf f ids P → AreIdsOf g ids Q
ids_same f g ids P Q same both are = record {
  sound = λ i h. subst Q (same i h) ((both (f i)).0 (are.sound i h));
  complete = λ m q. let s = are.complete m ((both m).1 q) in (s.0, s.1, sym (same s.0 s.1) ∙ s.2);
}

module _ (S T : Snap) (f g : ℕ → Node) (users others : ℕ → Object) (n : Node) (own own' : List ℕ)
    (config : S.config ≡ T.config)
    (ones : (u : ℕ) → (has own u ≡ true ↔ HasOne S n (users u)) → has own' u ≡ true ↔ HasOne T n (others u))
    (sets : (m : Node) → HasSet S n m ↔ HasSet T n m) where
  -- the numbers that a shape names
  abbrev SameAt : Shape → Type 0
  SameAt shape = (i : ℕ) → has (arcs_of shape) i ≡ true → f i ≡ g i

  -- the tuples of each tupleset that it reads
  abbrev SameOf : Shape → Type 0
  SameOf shape = (i : ℕ) → has (arcs_of shape) i ≡ true → (t : List ℕ) → f i ≡ record { object = n.object; relation = t }
      → (p : Object) → HasOne S (record { object = n.object; relation = t }) p ↔ HasOne T (record { object = n.object; relation = t }) p

  itself : (P : Node → Type 0) (m : Node) → P m ↔ P m
  itself P m = (λ p. p, λ p. p)

  reaches : (t c : List ℕ) → ((p : Object) → HasOne S (record { object = n.object; relation = t }) p ↔ HasOne T (record { object = n.object; relation = t }) p)
      → (m : Node) → IsTupleTo S n t c m ↔ IsTupleTo T n t c m
  reaches t c both m = (
    λ w. (w.0, (both w.0).0 w.1, subst (λ (x : Configured). Has x (record { namespace = w.0.namespace; relation = c })) config w.2, w.3),
    λ w. (w.0, (both w.0).1 w.1, subst (λ (x : Configured). Has x (record { namespace = w.0.namespace; relation = c })) (sym config) w.2, w.3),
  )

  abbrev Left : Shape → Shape → Type 0
  Left x shape = (i : ℕ) → has (arcs_of x) i ≡ true → has (arcs_of shape) i ≡ true

  at_part : (x shape : Shape) → Left x shape → SameAt shape → SameAt x
  at_part x shape left same i h = same i (left i h)

  of_part : (x shape : Shape) → Left x shape → SameOf shape → SameOf x
  of_part x shape left same i h = same i (left i h)

  mutual
    pub shape_same : (w : Form) (shape : Shape) → SameAt shape → SameOf shape → IsShapeOf S users f n own w shape → IsShapeOf T others g n own' w shape
    shape_same form.This shape at of is =
        let e = is.1 in
        let at_ids : (i : ℕ) → has is.0 i ≡ true → f i ≡ g i = λ i h. at i (subst (λ (s : Shape). has (arcs_of s) i ≡ true) (sym e) h) in
        (is.0, e, λ u. ones u (is.2 u), ids_same f g is.0 (HasSet S n) (HasSet T n) at_ids sets is.3)
    shape_same (form.Computed c) shape at of is =
        let e = is.1 in
        let at_ids : (i : ℕ) → has is.0 i ≡ true → f i ≡ g i = λ i h. at i (subst (λ (s : Shape). has (arcs_of s) i ≡ true) (sym e) h) in (
          is.0,
          e,
          ids_same f g is.0 (λ m. m ≡ record { object = n.object; relation = c }) (λ m. m ≡ record { object = n.object; relation = c }) at_ids
              (itself (λ m. m ≡ record { object = n.object; relation = c })) is.2,
        )
    shape_same (form.TupleTo t c) shape at of is =
        let e = is.2 in
        let read = is.0 in
        let ids = is.1 in
        let in_read : (i : ℕ) → has read i ≡ true → has (arcs_of shape) i ≡ true = λ i h. subst (λ (s : Shape). has (arcs_of s) i ≡ true) (sym e) (has_left read ids i h) in
        let in_ids : (i : ℕ) → has ids i ≡ true → has (arcs_of shape) i ≡ true = λ i h. subst (λ (s : Shape). has (arcs_of s) i ≡ true) (sym e) (has_right read ids i h) in
        let found = is.3.complete (record { object = n.object; relation = t }) refl in
        let both = of found.0 (in_read found.0 found.1) t found.2 in (
          read,
          ids,
          e,
          ids_same f g read (λ m. m ≡ record { object = n.object; relation = t }) (λ m. m ≡ record { object = n.object; relation = t }) (λ i h. at i (in_read i h))
              (itself (λ m. m ≡ record { object = n.object; relation = t })) is.3,
          ids_same f g ids (IsTupleTo S n t c) (IsTupleTo T n t c) (λ i h. at i (in_ids i h)) (reaches t c both) is.4,
        )
    shape_same (form.Union ws) shape at of is = any_same ws shape at of is
    shape_same (form.Intersection ws) shape at of is = each_same ws shape at of is
    shape_same (form.Exclusion a b) shape at of is =
        let x = is.0 in
        let y = is.1 in
        let e = is.2 in
        let left : Left x shape = λ i h. subst (λ (s : Shape). has (arcs_of s) i ≡ true) (sym e) (has_left (arcs_of x) (arcs_of y) i h) in
        let right : Left y shape = λ i h. subst (λ (s : Shape). has (arcs_of s) i ≡ true) (sym e) (has_right (arcs_of x) (arcs_of y) i h) in
        (x, y, e, shape_same a x (at_part x shape left at) (of_part x shape left of) is.3, shape_same b y (at_part y shape right at) (of_part y shape right of) is.4)

    any_same : (ws : Forms) (shape : Shape) → SameAt shape → SameOf shape → IsAnyOf S users f n own ws shape → IsAnyOf T others g n own' ws shape
    any_same none shape at of is = is
    any_same (more w ws) shape at of is =
        let x = is.0 in
        let y = is.1 in
        let e = is.2 in
        let left : Left x shape = λ i h. subst (λ (s : Shape). has (arcs_of s) i ≡ true) (sym e) (has_left (arcs_of x) (arcs_of y) i h) in
        let right : Left y shape = λ i h. subst (λ (s : Shape). has (arcs_of s) i ≡ true) (sym e) (has_right (arcs_of x) (arcs_of y) i h) in
        (x, y, e, shape_same w x (at_part x shape left at) (of_part x shape left of) is.3, any_same ws y (at_part y shape right at) (of_part y shape right of) is.4)

    each_same : (ws : Forms) (shape : Shape) → SameAt shape → SameOf shape → IsEachOf S users f n own ws shape → IsEachOf T others g n own' ws shape
    each_same none shape at of is = is
    each_same (more w ws) shape at of (inl is) = inl (is.0, shape_same w shape at of is.1)
    each_same (more w ws) shape at of (inr is) =
        let x = is.0 in
        let y = is.1 in
        let e = is.2 in
        let left : Left x shape = λ i h. subst (λ (s : Shape). has (arcs_of s) i ≡ true) (sym e) (has_left (arcs_of x) (arcs_of y) i h) in
        let right : Left y shape = λ i h. subst (λ (s : Shape). has (arcs_of s) i ≡ true) (sym e) (has_right (arcs_of x) (arcs_of y) i h) in
        inr (x, y, e, shape_same w x (at_part x shape left at) (of_part x shape left of) is.3, each_same ws y (at_part y shape right at) (of_part y shape right of) is.4)
