-- A fill, node by node.
use Rattle.std.proofs.Common.{◌≡◌, ℕ, ◌<◌, List, [], ◌∷◌, ◌++◌, length, get_or, inl, inr, ⊎_elim, subst, sym, ◌∙◌}
use Rattle.std.specs.Prelude.{Contains, remove, ◌⊎◌}
use Rattle.std.proofs.lemmas.List.{get_or_default}
use Rattle.std.proofs.lemmas.List.Elements.{Contains-append_left, Contains-push, Contains-push_cases}
use Rattle.meaning.proofs.LeastLemmas.{Grows, IsFinitary, from_given, from_lower}
use Rattle.meaning.specs.Least.{Gained, LevelRule}
use Rattle.plain.specs.inside.Rounds.{IsLeastOver}
use Rattle.meaning.proofs.Lists.{contains_remove, contains_removed}
use Rattle.names.specs.declared.node.Node.{Node}

-- waiting are those of the nodes that are not yet held
pub record IsFilling (Gives : Node → (Node → Type 0) → (Node → Type 0) → Type 0) (nodes lower waiting held : List Node) : Type 0 where
  pub remains : (m : Node) → Contains lower m → Contains held m
  pub split : (m : Node) → Contains nodes m → Contains held m ⊎ Contains waiting m
  pub sub : (m : Node) → Contains waiting m → Contains nodes m
  pub gained : (m : Node) → Contains held m → Gained (LevelRule (Contains nodes) Gives (Contains lower)) m

-- a node of those that wait, which the rule gives, is held from now on
pub filling_more : (Gives : Node → (Node → Type 0) → (Node → Type 0) → Type 0) → Grows Gives → IsFinitary Gives → (nodes lower waiting held : List Node) (i : ℕ) (n : Node) → i < length waiting → n ≡ get_or waiting i n → Gives n (Contains held) (Contains lower) → IsFilling Gives nodes lower waiting held → IsFilling Gives nodes lower (remove waiting i) (held ++ n ∷ [])
filling_more Gives grows finitary nodes lower waiting held i n lt is given filling = record {
  remains = λ m c. Contains-append_left held (n ∷ []) m (filling.remains m c);
  split = λ m c. ⊎_elim
      (λ h. inl (Contains-append_left held (n ∷ []) m h))
      (λ w. ⊎_elim (λ r. inr r) (λ e. let same : n ≡ m = is ∙ get_or_default waiting i n m lt ∙ sym e in inl (subst (λ z. Contains (held ++ n ∷ []) z) same (Contains-push held n))) (contains_removed waiting i m w))
      (filling.split m c);
  sub = λ m c. filling.sub m (contains_remove waiting i m c);
  gained = λ m c. ⊎_elim
      (filling.gained m)
      (λ e. subst (Gained (LevelRule (Contains nodes) Gives (Contains lower))) e
      (from_given Gives grows finitary (Contains nodes) (Contains lower) n (filling.sub n (i, lt, sym is))
      (grows n (Contains held) (Gained (LevelRule (Contains nodes) Gives (Contains lower))) (Contains lower) (Contains lower) filling.gained (λ p. (λ a. a, λ a. a)) given)))
      (Contains-push_cases held n m c);
}

-- where nothing is left that the rule gives, the least set is held
pub filling_done : (Gives : Node → (Node → Type 0) → (Node → Type 0) → Type 0) → (nodes lower waiting held : List Node) → ((m : Node) → Contains waiting m → Gives m (Contains held) (Contains lower) → ⊥) → IsFilling Gives nodes lower waiting held → IsLeastOver Gives nodes lower held
filling_done Gives nodes lower waiting held none filling = record {
  remains = filling.remains;
  closed = λ m c g. ⊎_elim (λ h. h) (λ w. absurd (none m w g)) (filling.split m c);
  gained = filling.gained;
}

pub filling_none : (Gives : Node → (Node → Type 0) → (Node → Type 0) → Type 0) → Grows Gives → IsFinitary Gives → (nodes lower : List Node) → IsFilling Gives nodes lower nodes lower
filling_none Gives grows finitary nodes lower = record {
  remains = λ m c. c;
  split = λ m c. inr c;
  sub = λ m c. c;
  gained = λ m c. from_lower Gives grows finitary (Contains nodes) (Contains lower) m c;
}
