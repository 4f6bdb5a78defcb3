-- Nodes and their numbers, one by one.
use Rattle.std.proofs.Common.{ℕ, zero, suc, ◌≡◌, ◌<◌, true, false, nat_eq, List, [], ◌∷◌, ◌++◌, length, refl, sym, ◌∙◌, ap, subst, ⊎_elim, ◌⊎◌, inl, inr}
use Rattle.std.specs.Prelude.{Some, None, Contains}
use Rattle.std.specs.List.{slice_get}
use Rattle.std.specs.Cmp.{eq_by_cmp_equiv}
use Rattle.std.specs.Ordering.{eq_by_cmp}
use Rattle.std.proofs.lemmas.Bool.{or_cases, or_left, or_right, cases_Bool, true≢false, false≢true, eqb-true, eq-eqb}
use Rattle.std.proofs.lemmas.Option.{none-some, same_Some, slice_get-get_or}
use Rattle.std.proofs.lemmas.Map.Views.{tells_apart}
use Rattle.std.proofs.lemmas.List.Elements.{Contains-append_left, Contains-push, Contains-push_cases}
use Rattle.names.specs.Order.{node_cmp}
use Rattle.names.specs.declared.node.Node.{Node}
use Rattle.names.specs.declared.commit.Event.{Event}
use Rattle.meaning.proofs.Lists.{contains_none}
use Rattle.meaning.proofs.TupleSets.{nodes_total, exact_nodes}
use Rattle.idsets.specs.Naming.{AreDistinct}
use Rattle.least_sets.specs.World.{has}
use Rattle.facts.specs.Numbers.{Grew}
use Rattle.facts.specs.inside.Tables.{has_push, grew_get}
use Rattle.delta.specs.Layers.{IsOfSet}
use Rattle.delta.specs.inside.Changing.{AreOfEvents}
use Rattle.delta.specs.inside.Named.{AreNamed}

-- the node has a number or none
pub find_node : (nodes : List Node) (n : Node) → ((j : ℕ) × (slice_get nodes j ≡ Some n)) ⊎ ((j : ℕ) → slice_get nodes j ≡ Some n → ⊥)
find_node [] n = inr (λ j h. none-some n h)
find_node (o ∷ os) n = ⊎_elim
    (λ e. inl (zero, ap (λ x. Some x) (tells_apart exact_nodes o n e)))
    (λ e. ⊎_elim (λ q. inl (suc q.0, q.1)) (λ q. inr (other e q)) (find_node os n))
    (cases_Bool (eq_by_cmp node_cmp o n))
  where
    other : eq_by_cmp node_cmp o n ≡ false → ((j : ℕ) → slice_get os j ≡ Some n → ⊥) → (j : ℕ) → slice_get (o ∷ os) j ≡ Some n → ⊥
    other e f zero h = absurd (true≢false (sym (subst (λ x. eq_by_cmp node_cmp o x ≡ true) (same_Some o n h) ((eq_by_cmp_equiv nodes_total).refl o)) ∙ e))
    other e f (suc j) h = f j h

pub distinct_none : AreDistinct {N = Node} []
distinct_none = λ i j n a b. absurd (none-some n a)

-- a number that was there has the node that it had
pub got_before : (a b : List Node) (i : ℕ) (n : Node) → Grew a b → i < length a → slice_get b i ≡ Some n → slice_get a i ≡ Some n
got_before a b i n grew lt at =
    let there = slice_get-get_or a i n lt in
    there ∙ ap (λ x. Some x) (same_Some _ n (sym (grew_get a b i _ grew there) ∙ at))

pub events_none : (nodes : List Node) (ids : List ℕ) → ids ≡ [] → AreOfEvents nodes [] ids
events_none nodes ids e = record {
  sound = λ i h. absurd (false≢true (ap (λ xs. has xs i) (sym e) ∙ h));
  complete = λ e i c of at. absurd (contains_none e c);
}

pub events_more : (nodes : List Node) (ids ids' : List ℕ) (id : ℕ) (event : Event) → AreDistinct nodes → IsOfSet event.tuple → slice_get nodes id ≡ Some event.tuple.node → ids' ≡ ids ++ id ∷ []
    → (events : List Event) → AreOfEvents nodes events ids → AreOfEvents nodes (events ++ event ∷ []) ids'
events_more nodes ids ids' id event distinct of at is events are = record {
  sound = λ i h. ⊎_elim
      (λ f. let s = are.sound i f in (s.0, Contains-append_left events (event ∷ []) s.0 s.1, s.2, s.3))
      (λ f. (event, Contains-push events event, of, ap (slice_get nodes) (eqb-true i id f) ∙ at))
      (or_cases (has ids i) (nat_eq i id) (sym (has_push ids id i) ∙ ap (λ xs. has xs i) (sym is) ∙ h));
  complete = λ e i c set there. ap (λ xs. has xs i) is ∙ has_push ids id i ∙ ⊎_elim
      (λ d. or_left (has ids i) (nat_eq i id) (are.complete e i d set there))
      (λ d. or_right (has ids i) (nat_eq i id) (eq-eqb i id (distinct i id event.tuple.node (there ∙ ap (λ (x : Event). Some x.tuple.node) (sym d)) at)))
      (Contains-push_cases events event e c);
}

pub events_passed : (nodes : List Node) (ids : List ℕ) (event : Event) → (IsOfSet event.tuple → (id : ℕ) → slice_get nodes id ≡ Some event.tuple.node → ⊥)
    → (events : List Event) → AreOfEvents nodes events ids → AreOfEvents nodes (events ++ event ∷ []) ids
events_passed nodes ids event missing events are = record {
  sound = λ i h. let s = are.sound i h in (s.0, Contains-append_left events (event ∷ []) s.0 s.1, s.2, s.3);
  complete = λ e i c set there. ⊎_elim
      (λ d. are.complete e i d set there)
      (λ d. absurd (missing (subst (λ (x : Event). IsOfSet x.tuple) (sym d) set) i (there ∙ ap (λ (x : Event). Some x.tuple.node) (sym d))))
      (Contains-push_cases events event e c);
}

pub named_none : (table : List Node) (found : List Node) → found ≡ [] → AreNamed table [] found
named_none table found e u = (
  λ c. absurd (contains_none u (subst (λ xs. Contains xs u) e c)),
  λ s. absurd (false≢true s.1),
)

pub named_more : (table : List Node) (found found' : List Node) (id : ℕ) (node : Node) → slice_get table id ≡ Some node → found' ≡ found ++ node ∷ []
    → (ids : List ℕ) → AreNamed table ids found → AreNamed table (ids ++ id ∷ []) found'
named_more table found found' id node at is ids named u = (
  λ c. ⊎_elim
      (λ d. (let s = (named u).0 d in (s.0, has_push ids id s.0 ∙ or_left (has ids s.0) (nat_eq s.0 id) s.1, s.2)))
      (λ d. (id, has_push ids id id ∙ or_right (has ids id) (nat_eq id id) (eq-eqb id id refl), at ∙ ap (λ x. Some x) d))
      (Contains-push_cases found node u (subst (λ xs. Contains xs u) is c)),
  λ s. subst (λ xs. Contains xs u) (sym is) (⊎_elim
      (λ q. Contains-append_left found (node ∷ []) u ((named u).1 (s.0, q, s.2)))
      (λ q. subst (λ x. Contains (found ++ node ∷ []) x) (same_Some node u (sym at ∙ ap (slice_get table) (sym (eqb-true s.0 id q)) ∙ s.2)) (Contains-push found node))
      (or_cases (has ids s.0) (nat_eq s.0 id) (sym (has_push ids id s.0) ∙ s.1))),
)

pub named_passed : (table : List Node) (found : List Node) (id : ℕ) → None ≡ slice_get table id → (ids : List ℕ) → AreNamed table ids found → AreNamed table (ids ++ id ∷ []) found
named_passed table found id off ids named u = (
  λ c. (let s = (named u).0 c in (s.0, has_push ids id s.0 ∙ or_left (has ids s.0) (nat_eq s.0 id) s.1, s.2)),
  λ s. ⊎_elim
      (λ q. (named u).1 (s.0, q, s.2))
      (λ q. absurd (none-some u (off ∙ ap (slice_get table) (sym (eqb-true s.0 id q)) ∙ s.2)))
      (or_cases (has ids s.0) (nat_eq s.0 id) (sym (has_push ids id s.0) ∙ s.1)),
)
