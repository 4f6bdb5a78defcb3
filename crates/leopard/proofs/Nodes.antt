-- Ordered sets of nodes.
use Rattle.std.proofs.Common.{◌≡◌, List, Bool, true, false, cond, not, refl, ap, ◌∙◌, sym, subst, inl, inr, ⊎_elim, ap₂}
use Rattle.std.specs.Prelude.{◌⊎◌, Contains, filter}
use Rattle.std.specs.List.{list_any}
use Rattle.std.specs.Cmp.{eq_by_cmp_equiv}
use Rattle.std.specs.Ordering.{eq_by_cmp}
use Rattle.std.proofs.lemmas.Bool.{false≢true}
use Rattle.std.proofs.lemmas.Map.Views.{tells_apart, Contains-from_any, list_any-from_Contains}
use Rattle.names.specs.Order.{node_cmp}
use Rattle.names.specs.declared.object.Object.{Object}
use Rattle.names.specs.declared.node.Node.{Node}
use Rattle.meaning.proofs.TupleSets.{nodes_total, exact_nodes}
use Rattle.rows.proofs.Naming.{contains_kept, kept_contains}
use Rattle.leopard.specs.inside.Asking.{AreAll, Gains}

-- what the keys of a set of nodes have
pub has_node : (keys : List Node) (o : Node) → list_any (eq_by_cmp node_cmp o) keys ≡ true → Contains keys o
has_node keys o e = Contains-from_any (tells_apart exact_nodes) o keys e

pub finds_node : (keys : List Node) (o : Node) → Contains keys o → list_any (eq_by_cmp node_cmp o) keys ≡ true
finds_node keys o c = list_any-from_Contains (eq_by_cmp_equiv nodes_total) o keys c

-- a set of nodes that has one more
pub put_node : (old new : List Node) (node : Node) → ((q : Node) → list_any (eq_by_cmp node_cmp q) new ≡ cond (eq_by_cmp node_cmp node q) true (list_any (eq_by_cmp node_cmp q) old)) → Gains (λ n. n ≡ node) old new
put_node old new node h o = (
  λ c.
      let found : cond (eq_by_cmp node_cmp node o) true (list_any (eq_by_cmp node_cmp o) old) ≡ true = sym (h o) ∙ finds_node new o c in
      elim (eq_by_cmp node_cmp node o) as (λ b. eq_by_cmp node_cmp node o ≡ b → cond b true (list_any (eq_by_cmp node_cmp o) old) ≡ true → Contains old o ⊎ (o ≡ node)) [
        | true ↦ λ same _. inr (sym (tells_apart exact_nodes node o same))
        | false ↦ λ _ e. inl (has_node old o e)
      ] refl found,
  λ have. has_node new o (h o ∙ ⊎_elim
      (λ c. ap (λ b. cond (eq_by_cmp node_cmp node o) true b) (finds_node old o c) ∙ both (eq_by_cmp node_cmp node o))
      (λ e. ap (λ b. cond b true (list_any (eq_by_cmp node_cmp o) old)) (ap (λ q. eq_by_cmp node_cmp node q) e ∙ (eq_by_cmp_equiv nodes_total).refl node))
      have),
)
  where
    both : (b : Bool) → cond b true true ≡ true
    both true = refl
    both false = refl

-- one that was not added was there
pub there_node : (keys : List Node) (node : Node) (added : Bool) → added ≡ not (list_any (eq_by_cmp node_cmp node) keys) → added ≡ false → Contains keys node
there_node keys node added is none =
    elim (list_any (eq_by_cmp node_cmp node) keys) as (λ b. list_any (eq_by_cmp node_cmp node) keys ≡ b → added ≡ not b → Contains keys node) [
      | true ↦ λ has _. has_node keys node has
      | false ↦ λ _ e. absurd (false≢true (sym none ∙ e))
    ] refl is

module _ (a b new : List Node) where
  -- what a filter by another set leaves
  pub both_have : new ≡ filter (λ n. list_any (eq_by_cmp node_cmp n) b) a → AreAll (λ n. Contains a n × Contains b n) new
  both_have is n = (
    λ c. let (h, t) = contains_kept (λ m. list_any (eq_by_cmp node_cmp m) b) a n (subst (λ (ks : List Node). Contains ks n) is c) in (h, has_node b n t),
    λ (h, k). subst (λ (ks : List Node). Contains ks n) (sym is) (kept_contains (λ m. list_any (eq_by_cmp node_cmp m) b) a n h (finds_node b n k)),
  )

  pub one_lacks : new ≡ filter (λ n. not (list_any (eq_by_cmp node_cmp n) b)) a → AreAll (λ n. Contains a n × ¬ (Contains b n)) new
  one_lacks is n = (
    λ c. let (h, t) = contains_kept (λ m. not (list_any (eq_by_cmp node_cmp m) b)) a n (subst (λ (ks : List Node). Contains ks n) is c) in
        (h, λ k. false≢true (sym (ap not (finds_node b n k)) ∙ t)),
    λ (h, lacks). subst (λ (ks : List Node). Contains ks n) (sym is) (kept_contains (λ m. not (list_any (eq_by_cmp node_cmp m) b)) a n h (
        elim (list_any (eq_by_cmp node_cmp n) b) as (λ t. list_any (eq_by_cmp node_cmp n) b ≡ t → not t ≡ true) [
          | true ↦ λ has. absurd (lacks (has_node b n has))
          | false ↦ λ _. refl
        ] refl)),
  )

-- what a copy of a node is
pub same_node : (a b : Node) → ((a.object.namespace ≡ b.object.namespace) × (a.object.id ≡ b.object.id)) × (a.relation ≡ b.relation) → a ≡ b
same_node a b e = ap₂ (λ (o : Object) r. record { object = o; relation = r }) (ap₂ (λ n i. record { namespace = n; id = i }) e.0.0 e.0.1) e.1
