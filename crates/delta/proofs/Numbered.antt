-- Numbers of groups above tuples.
use Rattle.std.proofs.Common.{ℕ, ◌≡◌, List, [], ◌∷◌, ◌++◌, sym, ◌∙◌, ap, subst, ⊎_elim, ◌⊎◌, inl, inr}
use Rattle.std.specs.Prelude.{◌↔◌, Contains, Some}
use Rattle.std.specs.List.{slice_get}
use Rattle.std.proofs.lemmas.Bool.{or_cases, or_left, or_right}
use Rattle.std.proofs.lemmas.List.Elements.{Contains-append_left, Contains-push, Contains-push_cases}
use Rattle.names.specs.declared.node.Node.{Node}
use Rattle.names.specs.declared.tuple.Tuple.{Tuple}
use Rattle.meaning.specs.Config.{Configured}
use Rattle.meaning.specs.Snap.{Snap}
use Rattle.meaning.proofs.Lists.{contains_none}
use Rattle.least_sets.specs.World.{Fact, Shape, Own, AnyOf, Either, has}
use Rattle.graphs.specs.Groups.{IsGroupArc, GroupWalk}
use Rattle.least_sets.proofs.Gives.{has-append}
use Rattle.facts.specs.Numbers.{Grew, AreNumbersOf}
use Rattle.facts.specs.inside.Tables.{grew_none, grew_get, numbers_none, numbers_keep, numbers_push}
use Rattle.leopard.specs.Index.{bare}
use Rattle.delta.specs.Arcs.{AreEndsOf}
use Rattle.delta.specs.Layers.{IsAbove, IsOfSet}
use Rattle.delta.specs.Telling.{MayTell}
use Rattle.delta.specs.inside.Leading.{LeadsTo}

module _ (config : Configured) where
  pub above_none : (nodes : List Node) (ids : List ℕ) → ids ≡ [] → AreNumbersOf nodes ids (IsAbove config (Contains []))
  above_none nodes ids e = numbers_none nodes ids (IsAbove config (Contains [])) e (λ g (group, (t, c, of, along)). contains_none t c)

  -- a tuple that is not of a userset adds nothing
  pub above_passed : (ts : List Tuple) (t : Tuple) → (IsOfSet t → ⊥) → (g : Node) → IsAbove config (Contains ts) g ↔ IsAbove config (Contains (ts ++ t ∷ [])) g
  above_passed ts t not g = (
    λ (group, (x, c, of, along)). (group, (x, Contains-append_left ts (t ∷ []) x c, of, along)),
    λ (group, (x, c, of, along)). ⊎_elim
        (λ d. (group, (x, d, of, along)))
        (λ d. absurd (not (subst IsOfSet (sym d) of)))
        (Contains-push_cases ts t x c),
  )

  -- one that is adds the groups that lead to its node
  pub above_more : (ts : List Tuple) (t : Tuple) → IsOfSet t → (found : List Node) → ((g : Node) → Contains found g ↔ LeadsTo config t.node g) → (g : Node)
      → (IsAbove config (Contains ts) g ⊎ Contains found g) ↔ IsAbove config (Contains (ts ++ t ∷ [])) g
  above_more ts t of found are g = (
    λ h. ⊎_elim
        (λ (group, (x, c, set, along)). (group, (x, Contains-append_left ts (t ∷ []) x c, set, along)))
        (λ c. let l = (are g).0 c in (l.0, (t, Contains-push ts t, of, l.1)))
        h,
    λ (group, (x, c, set, along)). ⊎_elim
        (λ d. inl (group, (x, d, set, along)))
        (λ d. inr ((are g).1 (group, subst (λ (y : Tuple). GroupWalk (bare config) g y.node) (sym d) along)))
        (Contains-push_cases ts t x c),
  )

pub numbers_as : (nodes : List Node) (ids : List ℕ) (P Q : Node → Type 0) → ((n : Node) → P n ↔ Q n) → AreNumbersOf nodes ids P → AreNumbersOf nodes ids Q
numbers_as nodes ids P Q both are = numbers_keep nodes nodes ids P Q (grew_none nodes) both are

-- some numbers, and then others
pub numbers_join : (a b : List Node) (ids more : List ℕ) (P Q R : Node → Type 0) → Grew a b → AreNumbersOf a ids P → AreNumbersOf b more Q → ((n : Node) → (P n ⊎ Q n) ↔ R n) → AreNumbersOf b (ids ++ more) R
numbers_join a b ids more P Q R grew are others both = record {
  sound = λ i h. ⊎_elim
      (λ f. let s = are.sound i f in (s.0, (both s.0).0 (inl s.1), grew_get a b i s.0 grew s.2))
      (λ f. let s = others.sound i f in (s.0, (both s.0).0 (inr s.1), s.2))
      (or_cases (has ids i) (has more i) (sym (has-append ids more i) ∙ h));
  complete = λ n r. ⊎_elim
      (λ p. (let s = are.complete n p in (s.0, has-append ids more s.0 ∙ or_left (has ids s.0) (has more s.0) s.1, grew_get a b s.0 n grew s.2)))
      (λ q. (let s = others.complete n q in (s.0, has-append ids more s.0 ∙ or_right (has ids s.0) (has more s.0) s.1, s.2)))
      ((both n).1 r);
}

-- one name more
pub list_push : (a b : List Node) (ids ids' : List ℕ) (id : ℕ) (n : Node) (xs : List Node) → Grew a b → ids' ≡ ids ++ id ∷ [] → slice_get b id ≡ Some n
    → AreNumbersOf a ids (Contains xs) → AreNumbersOf b ids' (Contains (xs ++ n ∷ []))
list_push a b ids ids' id n xs g is at are = subst (λ is. AreNumbersOf b is (Contains (xs ++ n ∷ []))) (sym is)
    (numbers_push a b ids id n (Contains xs) (Contains (xs ++ n ∷ [])) g are at
    (Contains-push xs n)
    (λ m c. Contains-append_left xs (n ∷ []) m c)
    (λ m c. ⊎_elim (λ d. inl d) (λ d. inr (sym d)) (Contains-push_cases xs n m c)))

-- the same numbers
pub numbers_set : (nodes : List Node) (a b : List ℕ) (P : Node → Type 0) → ((i : ℕ) → has b i ≡ has a i) → AreNumbersOf nodes a P → AreNumbersOf nodes b P
numbers_set nodes a b P same are = record {
  sound = λ i h. are.sound i (sym (same i) ∙ h);
  complete = λ n p. let s = are.complete n p in (s.0, same s.0 ∙ s.1, s.2);
}

abbrev fact : Shape → List ℕ → Fact
fact shape own = record { level = 0; shape = shape; own = own }

-- what is told of a group from the ends of its arcs
pub told_of : (S : Snap) (nodes nodes' : List Node) (i : ℕ) (group : Node) (ends : List Node) (ids own : List ℕ) (shape : Shape) → Grew nodes nodes' → slice_get nodes i ≡ Some group
    → AreEndsOf S group ends → AreNumbersOf nodes' ids (Contains ends) → shape ≡ Either Own (AnyOf ids) → own ≡ i ∷ [] → MayTell S nodes' i (fact shape own)
told_of S nodes nodes' i group ends ids own shape grew at all are shape_is own_is = record {
  group = group;
  named = grew_get nodes nodes' i group grew at;
  arcs = ids;
  fact_is = ap (λ s. fact s own) shape_is ∙ ap (λ o. fact (Either Own (AnyOf ids)) o) own_is;
  ends = numbers_as nodes' ids (Contains ends) (IsGroupArc S group) all are;
}
