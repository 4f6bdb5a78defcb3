-- What may be told of a node may be told of it when more names have numbers.
use Rattle.std.proofs.Common.{ℕ, ◌≡◌, ◌<◌, true, List, [], ◌∷◌, length, refl, sym, subst, arith, ⊎_elim, inl, inr}
use Rattle.std.specs.Prelude.{◌↔◌, Some}
use Rattle.std.specs.List.{slice_get}
use Rattle.std.proofs.lemmas.Bool.{cases_lt}
use Rattle.std.proofs.lemmas.Option.{slice_get_within}
use Rattle.names.specs.declared.object.Object.{Object}
use Rattle.names.specs.declared.node.Node.{Node}
use Rattle.meaning.specs.Snap.{Snap}
use Rattle.meaning.specs.Config.{Has, rel_of, IsAt, Defines}
use Rattle.meaning.specs.Form.{Form, Forms, none, more}
use Rattle.meaning.specs.Membership.{HasOne}
use Rattle.idsets.specs.Naming.{AreDistinct}
use Rattle.least_sets.specs.World.{Fact, Shape, has}
use Rattle.graphs.specs.Graph.{IsShapeOf}
use Rattle.facts.specs.Numbers.{Grew, user_at, node_at}
use Rattle.facts.specs.Telling.{MayTell, IsShapeIn, AreShapesIn, IsLater}
use Rattle.facts.specs.inside.Tables.{grew_none, grew_both, grew_get, grew_longer, node_same, user_same, number_below, past_none}
use Rattle.facts.specs.inside.Shapes.{shape_same}

-- the own users are told apart by the numbers that they had
own_more : (S : Snap) (a b : List Object) (n m : Node) (own : List ℕ) → AreDistinct b → Grew a b → n ≡ m → ((u : Object) → HasOne S n u → (j : ℕ) × (slice_get a j ≡ Some u))
    → (u : ℕ) → (has own u ≡ true ↔ HasOne S n (user_at a u)) → has own u ≡ true ↔ HasOne S m (user_at b u)
own_more S a b n m own distinct g e seen u both = ⊎_elim
    (λ lt.
    let same : user_at a u ≡ user_at b u = user_same a b u g lt in (
      λ h. subst (λ x. HasOne S x (user_at b u)) e (subst (λ x. HasOne S n x) same (both.0 h)),
      λ h. both.1 (subst (λ x. HasOne S n x) (sym same) (subst (λ x. HasOne S x (user_at b u)) (sym e) h)),
    ))
    (λ le. (
      λ h. (let s = seen (user_at a u) (both.0 h) in absurd (past_none a u s.0 le s.1)),
      λ h. (let s = seen (user_at b u) (subst (λ x. HasOne S x (user_at b u)) (sym e) h) in let below : u < length a = number_below a b u s.0 distinct g s.1 in absurd (omega (arith, below, le))),
    ))
    (cases_lt u (length a))

pub may_more : (S : Snap) (nodes nodes' : List Node) (users users' : List Object) (i : ℕ) (fact : Fact)
    → IsLater nodes nodes' users users' → MayTell S nodes users i fact → MayTell S nodes' users' i fact
may_more S nodes nodes' users users' i fact later may = record {
  named = (may.named.0, grew_get nodes nodes' i may.named.0 gn may.named.1);
  fact_is = ⊎_elim
      (λ d. inl (
        d.0,
        subst (λ n. Defines S.config (rel_of n) d.0) here d.1,
        subst (λ n. IsAt S.config n fact.level) here d.2,
        subst (λ n. IsShapeOf S (user_at users') (node_at nodes') n fact.own d.0.form fact.shape) here
            (shape_same S S (node_at nodes) (node_at nodes') (user_at users) (user_at users') (node_at nodes i) fact.own fact.own refl
            (own_more S users users' (node_at nodes i) (node_at nodes i) fact.own distinct gu refl may.seen)
            (λ m. (λ h. h, λ h. h)) d.0.form fact.shape
            (λ m h. node_same nodes nodes' m gn (may.within m h))
            (λ m h t e p. (λ o. o, λ o. o)) d.3),
      ))
      (λ d. inr (subst (λ n. Has S.config (rel_of n) → ⊥) here d.0, d.1))
      may.fact_is;
  own = λ u. own_more S users users' (node_at nodes i) (node_at nodes' i) fact.own distinct gu here may.seen u (may.own u);
  low = λ off. may.low (λ h. off (subst (λ n. Has S.config (rel_of n)) here h));
  within = λ m h. let l = grew_longer nodes nodes' gn in let lt = may.within m h in omega (arith, l, lt);
  distinct = distinct;
  seen = λ u h. let s = may.seen u (subst (λ n. HasOne S n u) (sym here) h) in (s.0, grew_get users users' s.0 u gu s.1);
}
  where
    gn : Grew nodes nodes'
    gn = later.nodes_grew

    gu : Grew users users'
    gu = later.users_grew

    distinct : AreDistinct users'
    distinct = later.users_distinct may.distinct

    here : node_at nodes i ≡ node_at nodes' i
    here = node_same nodes nodes' i gn (slice_get_within nodes i may.named.0 may.named.1)

pub shape_more : (S : Snap) (nodes nodes' : List Node) (n : Node) (w : Form) (shape : Shape) → Grew nodes nodes' → IsShapeIn S nodes n w shape → IsShapeIn S nodes' n w shape
shape_more S nodes nodes' n w shape g is = record {
  is = λ users own are. shape_same S S (node_at nodes) (node_at nodes') users users n own own refl (λ u both. both) (λ m. (λ h. h, λ h. h)) w shape
      (λ m h. node_same nodes nodes' m g (is.within m h)) (λ m h t e p. (λ o. o, λ o. o)) (is.is users own are);
  within = λ m h. let l = grew_longer nodes nodes' g in let lt = is.within m h in omega (arith, l, lt);
}

pub shapes_more : (S : Snap) (nodes nodes' : List Node) (n : Node) (ws : Forms) (shapes : List Shape) → Grew nodes nodes' → AreShapesIn S nodes n ws shapes → AreShapesIn S nodes' n ws shapes
shapes_more S nodes nodes' n none [] g are = tt
shapes_more S nodes nodes' n none (x ∷ xs) g are = are
shapes_more S nodes nodes' n (more w ws) [] g are = are
shapes_more S nodes nodes' n (more w ws) (x ∷ xs) g are = (shape_more S nodes nodes' n w x g are.0, shapes_more S nodes nodes' n ws xs g are.1)

pub later_stays : (nodes : List Node) (users : List Object) → IsLater nodes nodes users users
later_stays nodes users = record { nodes_grew = grew_none nodes; users_grew = grew_none users; nodes_distinct = λ d. d; users_distinct = λ d. d }

pub later_further : (n1 n2 n3 : List Node) (u1 u2 u3 : List Object) → IsLater n1 n2 u1 u2 → IsLater n2 n3 u2 u3 → IsLater n1 n3 u1 u3
later_further n1 n2 n3 u1 u2 u3 a b = record {
  nodes_grew = grew_both n1 n2 n3 a.nodes_grew b.nodes_grew;
  users_grew = grew_both u1 u2 u3 a.users_grew b.users_grew;
  nodes_distinct = λ d. b.nodes_distinct (a.nodes_distinct d);
  users_distinct = λ d. b.users_distinct (a.users_distinct d);
}
