-- The arcs of a shape are the dependences of its node.
use Rattle.std.proofs.Common.{ℕ, ◌≡◌, true, List, ◌++◌, sym, subst, ⊎_elim, inl, inr}
use Rattle.std.proofs.lemmas.Bool.{false≢true}
use Rattle.names.specs.declared.object.Object.{Object}
use Rattle.names.specs.declared.node.Node.{Node}
use Rattle.meaning.specs.Snap.{Snap}
use Rattle.meaning.specs.Form.{Form, Forms, none, more}
use Rattle.meaning.specs.Form as form
use Rattle.meaning.specs.Config.{Defined, rel_of}
use Rattle.meaning.specs.Reads.{IsValid}
use Rattle.least_sets.specs.World.{Fact, Shape, has, arcs_of}
use Rattle.least_sets.proofs.Gives.{has_cases, has_left, has_right}
use Rattle.graphs.specs.Graph.{IsNone, IsShapeOf, IsAnyOf, IsEachOf}
use Rattle.facts.specs.Numbers.{user_at, node_at}
use Rattle.facts.specs.Telling.{MayTell}
use Rattle.hot.specs.Depending.{LooksUp, SomeLookUp, DependsOn}

module _ (S : Snap) (users : ℕ → Object) (f : ℕ → Node) (n : Node) (own : List ℕ) where
  mutual
    pub arcs_look : (w : Form) (shape : Shape) → IsShapeOf S users f n own w shape → (j : ℕ) → has (arcs_of shape) j ≡ true → LooksUp S n w (f j)
    arcs_look form.This shape s j h = s.3.sound j (subst (λ (k : Shape). has (arcs_of k) j ≡ true) s.1 h)
    arcs_look (form.Computed c) shape s j h = s.2.sound j (subst (λ (k : Shape). has (arcs_of k) j ≡ true) s.1 h)
    arcs_look (form.TupleTo t c) shape s j h = ⊎_elim
        (λ q. inl (s.3.sound j q))
        (λ q. inr (s.4.sound j q))
        (has_cases s.0 s.1 j (subst (λ (k : Shape). has (arcs_of k) j ≡ true) s.2 h))
    arcs_look (form.Union ws) shape s j h = any_look ws shape s j h
    arcs_look (form.Intersection ws) shape s j h = each_look ws shape s j h
    arcs_look (form.Exclusion a b) shape s j h = ⊎_elim
        (λ q. inl (arcs_look a s.0 s.3 j q))
        (λ q. inr (arcs_look b s.1 s.4 j q))
        (has_cases (arcs_of s.0) (arcs_of s.1) j (subst (λ (k : Shape). has (arcs_of k) j ≡ true) s.2 h))

    any_look : (ws : Forms) (shape : Shape) → IsAnyOf S users f n own ws shape → (j : ℕ) → has (arcs_of shape) j ≡ true → SomeLookUp S n ws (f j)
    any_look none shape s j h = false≢true (subst (λ (k : Shape). has (arcs_of k) j ≡ true) s h)
    any_look (more w ws) shape s j h = ⊎_elim
        (λ q. inl (arcs_look w s.0 s.3 j q))
        (λ q. inr (any_look ws s.1 s.4 j q))
        (has_cases (arcs_of s.0) (arcs_of s.1) j (subst (λ (k : Shape). has (arcs_of k) j ≡ true) s.2 h))

    each_look : (ws : Forms) (shape : Shape) → IsEachOf S users f n own ws shape → (j : ℕ) → has (arcs_of shape) j ≡ true → SomeLookUp S n ws (f j)
    each_look none shape s j h = s
    each_look (more w ws) shape (inl s) j h = inl (arcs_look w shape s.1 j h)
    each_look (more w ws) shape (inr s) j h = ⊎_elim
        (λ q. inl (arcs_look w s.0 s.3 j q))
        (λ q. inr (each_look ws s.1 s.4 j q))
        (has_cases (arcs_of s.0) (arcs_of s.1) j (subst (λ (k : Shape). has (arcs_of k) j ≡ true) s.2 h))

  -- the shape names the node
  abbrev Names : Shape → Node → Type 0
  Names shape m = (j : ℕ) × (has (arcs_of shape) j ≡ true) × (f j ≡ m)

  on_left : (x y shape : Shape) (m : Node) → ((j : ℕ) → has (arcs_of x ++ arcs_of y) j ≡ true → has (arcs_of shape) j ≡ true) → Names x m → Names shape m
  on_left x y shape m g q = (q.0, g q.0 (has_left (arcs_of x) (arcs_of y) q.0 q.1), q.2)

  on_right : (x y shape : Shape) (m : Node) → ((j : ℕ) → has (arcs_of x ++ arcs_of y) j ≡ true → has (arcs_of shape) j ≡ true) → Names y m → Names shape m
  on_right x y shape m g q = (q.0, g q.0 (has_right (arcs_of x) (arcs_of y) q.0 q.1), q.2)

  no_looks : (ws : Forms) (m : Node) → IsNone ws → SomeLookUp S n ws m → ⊥
  no_looks none m i r = r
  no_looks (more w ws) m i r = i

  mutual
    pub look_arcs : (w : Form) (shape : Shape) → IsShapeOf S users f n own w shape → (m : Node) → LooksUp S n w m → Names shape m
    look_arcs form.This shape s m r =
        let q = s.3.complete m r in
        (q.0, subst (λ (k : Shape). has (arcs_of k) q.0 ≡ true) (sym s.1) q.1, q.2)
    look_arcs (form.Computed c) shape s m r =
        let q = s.2.complete m r in
        (q.0, subst (λ (k : Shape). has (arcs_of k) q.0 ≡ true) (sym s.1) q.1, q.2)
    look_arcs (form.TupleTo t c) shape s m (inl r) =
        let q = s.3.complete m r in
        (q.0, subst (λ (k : Shape). has (arcs_of k) q.0 ≡ true) (sym s.2) (has_left s.0 s.1 q.0 q.1), q.2)
    look_arcs (form.TupleTo t c) shape s m (inr r) =
        let q = s.4.complete m r in
        (q.0, subst (λ (k : Shape). has (arcs_of k) q.0 ≡ true) (sym s.2) (has_right s.0 s.1 q.0 q.1), q.2)
    look_arcs (form.Union ws) shape s m r = look_any ws shape s m r
    look_arcs (form.Intersection ws) shape s m r = look_each ws shape s m r
    look_arcs (form.Exclusion a b) shape s m (inl r) = on_left s.0 s.1 shape m (λ j h. subst (λ (k : Shape). has (arcs_of k) j ≡ true) (sym s.2) h) (look_arcs a s.0 s.3 m r)
    look_arcs (form.Exclusion a b) shape s m (inr r) = on_right s.0 s.1 shape m (λ j h. subst (λ (k : Shape). has (arcs_of k) j ≡ true) (sym s.2) h) (look_arcs b s.1 s.4 m r)

    look_any : (ws : Forms) (shape : Shape) → IsAnyOf S users f n own ws shape → (m : Node) → SomeLookUp S n ws m → Names shape m
    look_any none shape s m r = absurd r
    look_any (more w ws) shape s m (inl r) = on_left s.0 s.1 shape m (λ j h. subst (λ (k : Shape). has (arcs_of k) j ≡ true) (sym s.2) h) (look_arcs w s.0 s.3 m r)
    look_any (more w ws) shape s m (inr r) = on_right s.0 s.1 shape m (λ j h. subst (λ (k : Shape). has (arcs_of k) j ≡ true) (sym s.2) h) (look_any ws s.1 s.4 m r)

    look_each : (ws : Forms) (shape : Shape) → IsEachOf S users f n own ws shape → (m : Node) → SomeLookUp S n ws m → Names shape m
    look_each none shape s m r = absurd s
    look_each (more w ws) shape (inl s) m (inl r) = look_arcs w shape s.1 m r
    look_each (more w ws) shape (inl s) m (inr r) = absurd (no_looks ws m s.0 r)
    look_each (more w ws) shape (inr s) m (inl r) = on_left s.0 s.1 shape m (λ j h. subst (λ (k : Shape). has (arcs_of k) j ≡ true) (sym s.2) h) (look_arcs w s.0 s.3 m r)
    look_each (more w ws) shape (inr s) m (inr r) = on_right s.0 s.1 shape m (λ j h. subst (λ (k : Shape). has (arcs_of k) j ≡ true) (sym s.2) h) (look_each ws s.1 s.4 m r)

pub told_depends : (S : Snap) (nodes : List Node) (users : List Object) (i j : ℕ) (fact : Fact) → MayTell S nodes users i fact → has (arcs_of fact.shape) j ≡ true → DependsOn S (node_at nodes i) (node_at nodes j)
told_depends S nodes users i j fact may h = ⊎_elim
    (λ d. (d.0, d.1, arcs_look S (user_at users) (node_at nodes) (node_at nodes i) fact.own d.0.form fact.shape d.3 j h))
    (λ d. absurd (false≢true (subst (λ (k : Shape). has (arcs_of k) j ≡ true) d.1 h)))
    may.fact_is

pub depends_told : (S : Snap) → IsValid S → (nodes : List Node) (users : List Object) (i : ℕ) (m : Node) (fact : Fact) → MayTell S nodes users i fact → DependsOn S (node_at nodes i) m
    → (j : ℕ) × (has (arcs_of fact.shape) j ≡ true) × (node_at nodes j ≡ m)
depends_told S valid nodes users i m fact may on = ⊎_elim
    (λ d. look_arcs S (user_at users) (node_at nodes) (node_at nodes i) fact.own d.0.form fact.shape d.3 m
    (subst (λ (e : Defined). LooksUp S (node_at nodes i) e.form m) (valid.once (rel_of (node_at nodes i)) on.0 d.0 on.1 d.1) on.2))
    (λ d. absurd (d.0 (on.0, on.1)))
    may.fact_is
