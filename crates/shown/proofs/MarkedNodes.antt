-- Which nodes are marked after a marking, and whose members are kept.
use Rattle.std.proofs.Common.{◌≡◌, Bool, true, false, ◌||◌, List, [], ◌∷◌, ◌++◌, ℕ, ◌+◌, ◌<◌, length, take, get_or, refl, ap, sym, subst, ◌∙◌, ⊎_elim, inl, inr}
use Rattle.std.specs.Prelude.{◌↔◌, ◌⊎◌, if◌then◌else◌}
use Rattle.std.specs.List.{AllByRecursion, IsDistinct}
use Rattle.std.specs.Cmp.{eq_by_cmp_equiv}
use Rattle.std.proofs.lemmas.Bool.{false≢true, or_cases, or_from, or_left, or_right}
use Rattle.std.proofs.lemmas.List.{take_more}
use Rattle.std.proofs.lemmas.List.Folds.{list_any-append}
use Rattle.std.proofs.lemmas.Map.Keys.{IsDistinct-push}
use Rattle.std.proofs.lemmas.Map.Views.{tells_apart}
use Rattle.names.specs.declared.marking.Marking.{Marking}
use Rattle.names.specs.declared.marking.Marking.TheVariants.{Mark, Unmark}
use Rattle.names.specs.declared.node.Node.{Node}
use Rattle.names.specs.Order.{is_same_node}
use Rattle.meaning.proofs.TupleSets.{nodes_total, exact_nodes}
use Rattle.hot.specs.Kept.{HasMarked, HasSameMarks, HasUnmarked, IsMarked}
use Rattle.hot.specs.declared.hot.Hot.{Hot}
use Rattle.shown.specs.inside.Basing.{AreMarked}
use Rattle.shown.specs.Marks.{is_marked, with_mark, without_mark, after_marking}

one_node : (m n : Node) → is_same_node m n ≡ true → m ≡ n
one_node m n same = tells_apart exact_nodes m n same

itself : (n : Node) → is_same_node n n ≡ true
itself n = (eq_by_cmp_equiv nodes_total).refl n

-- ---- one more

at_end : (b : Bool) → (b || false) ≡ true → b ≡ true
at_end true h = refl
at_end false h = absurd (false≢true h)

pub marked_more : (marks : List Node) (node n : Node) → (is_marked (marks ++ node ∷ []) n ≡ true) ↔ ((is_marked marks n ≡ true) ⊎ (n ≡ node))
marked_more marks node n =
    let parts = list_any-append (is_same_node n) marks (node ∷ []) in
    let last : Bool = is_same_node n node || false in (
      λ h. ⊎_elim (λ old. inl old) (λ new. inr (one_node n node (at_end (is_same_node n node) new))) (or_cases (is_marked marks n) last (sym parts ∙ h)),
      λ h. parts ∙ ⊎_elim
          (λ old. or_left (is_marked marks n) last old)
          (λ is. or_right (is_marked marks n) last (or_left (is_same_node n node) false (subst (λ m. is_same_node n m ≡ true) is (itself n))))
          h,
    )

marked_with : (marks : List Node) (node n : Node) → (is_marked (with_mark marks node) n ≡ true) ↔ ((is_marked marks n ≡ true) ⊎ (n ≡ node))
marked_with marks node n =
    elim (is_marked marks node) as (λ b. is_marked marks node ≡ b → (is_marked (if b then marks else marks ++ node ∷ []) n ≡ true) ↔ ((is_marked marks n ≡ true) ⊎ (n ≡ node))) [
      | true ↦ λ there. (λ h. inl h, λ h. ⊎_elim (λ old. old) (λ is. subst (λ m. is_marked marks m ≡ true) (sym is) there) h)
      | false ↦ λ none. marked_more marks node n
    ] refl

once_with : (marks : List Node) (node : Node) → IsDistinct is_same_node marks → IsDistinct is_same_node (with_mark marks node)
once_with marks node once =
    elim (is_marked marks node) as (λ b. is_marked marks node ≡ b → IsDistinct is_same_node (if b then marks else marks ++ node ∷ [])) [
      | true ↦ λ there. once
      | false ↦ λ none. IsDistinct-push (eq_by_cmp_equiv nodes_total) marks node once none
    ] refl

-- ---- one less

none_same : (m : Node) (marks : List Node) → AllByRecursion (λ y. is_same_node m y ≡ false) marks → is_marked marks m ≡ false
none_same m [] apart = refl
none_same m (x ∷ xs) apart = or_from _ _ apart.0 (none_same m xs apart.1)

all_left : (P : Node → Type 0) (marks : List Node) (node : Node) → AllByRecursion P marks → AllByRecursion P (without_mark marks node)
all_left P [] node all = all
all_left P (m ∷ marks) node all =
    elim (is_same_node node m) as (λ b. AllByRecursion P (if b then marks else m ∷ without_mark marks node)) [
      | true ↦ all.1
      | false ↦ (all.0, all_left P marks node all.1)
    ]

once_without : (marks : List Node) (node : Node) → IsDistinct is_same_node marks → IsDistinct is_same_node (without_mark marks node)
unfolding IsDistinct
once_without [] node once = once
once_without (m ∷ marks) node once =
    elim (is_same_node node m) as (λ b. IsDistinct is_same_node (if b then marks else m ∷ without_mark marks node)) [
      | true ↦ once.1
      | false ↦ (all_left (λ y. is_same_node m y ≡ false) marks node once.0, once_without marks node once.1)
    ]

marked_without : (marks : List Node) (node n : Node) → IsDistinct is_same_node marks → (is_marked (without_mark marks node) n ≡ true) ↔ ((is_marked marks n ≡ true) × (n ≡ node → ⊥))
unfolding IsDistinct
marked_without [] node n once = (λ h. absurd (false≢true h), λ h. absurd (false≢true h.0))
marked_without (m ∷ marks) node n once =
    elim (is_same_node node m) as (λ b. is_same_node node m ≡ b → (is_marked (if b then marks else m ∷ without_mark marks node) n ≡ true) ↔ ((is_marked (m ∷ marks) n ≡ true) × (n ≡ node → ⊥))) [
      | true ↦ λ same. (
        λ h. (or_right (is_same_node n m) (is_marked marks n) h, λ is. false≢true (sym (none_same m marks once.0) ∙ subst (λ x. is_marked marks x ≡ true) (is ∙ one_node node m same) h)),
        λ h. ⊎_elim (λ first. absurd (h.1 (one_node n m first ∙ sym (one_node node m same)))) (λ later. later) (or_cases (is_same_node n m) (is_marked marks n) h.0),
      )
      | false ↦ λ other.
          let rest = marked_without marks node n once.1 in (
            λ h. ⊎_elim
                (λ first. (or_left (is_same_node n m) (is_marked marks n) first, λ is. false≢true (sym other ∙ subst (λ x. is_same_node x m ≡ true) is first)))
                (λ later. (let q = rest.0 later in (or_right (is_same_node n m) (is_marked marks n) q.0, q.1)))
                (or_cases (is_same_node n m) (is_marked (without_mark marks node) n) h),
            λ h. ⊎_elim
                (λ first. or_left (is_same_node n m) (is_marked (without_mark marks node) n) first)
                (λ later. or_right (is_same_node n m) (is_marked (without_mark marks node) n) (rest.1 (later, h.1)))
                (or_cases (is_same_node n m) (is_marked marks n) h.0),
          )
    ] refl

-- ---- after a marking

-- a node is still marked once
pub once_after : (marks : List Node) (marking : Marking) → IsDistinct is_same_node marks → IsDistinct is_same_node (after_marking marks marking)
once_after marks (Mark node) once = once_with marks node once
once_after marks (Unmark node) once = once_without marks node once

module _ (marks : List Node) (old new : Hot) (are : AreMarked marks old) where
  pub are_same : HasSameMarks old new → AreMarked marks new
  are_same has n = (λ h. (are n).0 ((has.nodes n).0 h), λ h. (has.nodes n).1 ((are n).1 h))

  pub are_more : (node : Node) → HasMarked old new node → AreMarked (marks ++ node ∷ []) new
  are_more node has n = (
    λ h. (marked_more marks node n).1 (⊎_elim (λ before. inl ((are n).0 before)) (λ is. inr is) ((has.nodes n).0 h)),
    λ h. (has.nodes n).1 (⊎_elim (λ before. inl ((are n).1 before)) (λ is. inr is) ((marked_more marks node n).0 h)),
  )

  pub are_with : (node : Node) → HasMarked old new node → AreMarked (with_mark marks node) new
  are_with node has n = (
    λ h. (marked_with marks node n).1 (⊎_elim (λ before. inl ((are n).0 before)) (λ is. inr is) ((has.nodes n).0 h)),
    λ h. (has.nodes n).1 (⊎_elim (λ before. inl ((are n).1 before)) (λ is. inr is) ((marked_with marks node n).0 h)),
  )

  pub are_without : (node : Node) → IsDistinct is_same_node marks → HasUnmarked old new node → AreMarked (without_mark marks node) new
  are_without node once has n = (
    λ h. (let before = (has.nodes n).0 h in (marked_without marks node n once).1 ((are n).0 before.0, before.1)),
    λ h. (let left = (marked_without marks node n once).0 h in (has.nodes n).1 ((are n).1 left.0, left.1)),
  )

-- where nothing is marked
pub are_none : (hot : Hot) → ((n : Node) → IsMarked hot n → ⊥) → AreMarked [] hot
are_none hot none n = (λ h. absurd (none n h), λ h. absurd (false≢true h))

-- the next of some marks
pub are_next : (marks : List Node) (i : ℕ) (node : Node) (old new : Hot) → i < length marks → node ≡ get_or marks i node → AreMarked (take i marks) old → HasMarked old new node → AreMarked (take (i + 1) marks) new
are_next marks i node old new within is are has =
    let next = take_more marks i node within ∙ ap (λ (n : Node). take i marks ++ n ∷ []) (sym is) in
    subst (λ (ns : List Node). AreMarked ns new) (sym next) (are_more (take i marks) old new are node has)

pub same_itself : (hot : Hot) → HasSameMarks hot hot
same_itself hot = record { nodes = λ n. (λ h. h, λ h. h); count = refl }

pub same_later : (a b c : Hot) → HasSameMarks a b → HasSameMarks b c → HasSameMarks a c
same_later a b c first second = record {
  nodes = λ n. (λ h. (first.nodes n).0 ((second.nodes n).0 h), λ h. (second.nodes n).1 ((first.nodes n).1 h));
  count = second.count ∙ first.count;
}
