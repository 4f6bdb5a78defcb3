-- Nodes by their numbers, one by one.
use Rattle.std.proofs.Common.{ℕ, ◌≡◌, nat_eq, List, [], ◌∷◌, ◌++◌, refl, sym, ◌∙◌, ap, subst, ⊎_elim}
use Rattle.std.specs.Prelude.{Some, None, Contains}
use Rattle.std.specs.List.{slice_get}
use Rattle.std.proofs.lemmas.Bool.{or_cases, or_left, or_right, false≢true, eqb-true, eq-eqb}
use Rattle.std.proofs.lemmas.Option.{none-some, same_Some}
use Rattle.std.proofs.lemmas.List.Elements.{Contains-append_left, Contains-push, Contains-push_cases}
use Rattle.names.specs.declared.node.Node.{Node}
use Rattle.meaning.proofs.Lists.{contains_none}
use Rattle.idsets.specs.Sets.{has}
use Rattle.facts.specs.inside.Tables.{has_push}
use Rattle.direct.specs.inside.Listing.{AreNamed}

pub named_none : (table : List Node) (found : List Node) → found ≡ [] → AreNamed table [] found
named_none table found e u = (
  λ c. absurd (contains_none u (subst (λ xs. Contains xs u) e c)),
  λ s. absurd (false≢true s.1),
)

pub named_more : (table : List Node) (found found' : List Node) (id : ℕ) (node : Node) → slice_get table id ≡ Some node → found' ≡ found ++ node ∷ []
    → (ids : List ℕ) → AreNamed table ids found → AreNamed table (ids ++ id ∷ []) found'
named_more table found found' id node at is ids named u = (
  λ c. ⊎_elim
      (λ d. (let s = (named u).0 d in (s.0, has_push ids id s.0 ∙ or_left (has ids s.0) (nat_eq s.0 id) s.1, s.2)))
      (λ d. (id, has_push ids id id ∙ or_right (has ids id) (nat_eq id id) (eq-eqb id id refl), at ∙ ap (λ x. Some x) d))
      (Contains-push_cases found node u (subst (λ xs. Contains xs u) is c)),
  λ s. subst (λ xs. Contains xs u) (sym is) (⊎_elim
      (λ q. Contains-append_left found (node ∷ []) u ((named u).1 (s.0, q, s.2)))
      (λ q. subst (λ x. Contains (found ++ node ∷ []) x) (same_Some node u (sym at ∙ ap (slice_get table) (sym (eqb-true s.0 id q)) ∙ s.2)) (Contains-push found node))
      (or_cases (has ids s.0) (nat_eq s.0 id) (sym (has_push ids id s.0) ∙ s.1))),
)

pub named_passed : (table : List Node) (found : List Node) (id : ℕ) → None ≡ slice_get table id → (ids : List ℕ) → AreNamed table ids found → AreNamed table (ids ++ id ∷ []) found
named_passed table found id off ids named u = (
  λ c. (let s = (named u).0 c in (s.0, has_push ids id s.0 ∙ or_left (has ids s.0) (nat_eq s.0 id) s.1, s.2)),
  λ s. ⊎_elim
      (λ q. (named u).1 (s.0, q, s.2))
      (λ q. absurd (none-some u (off ∙ ap (slice_get table) (sym (eqb-true s.0 id q)) ∙ s.2)))
      (or_cases (has ids s.0) (nat_eq s.0 id) (sym (has_push ids id s.0) ∙ s.1)),
)
