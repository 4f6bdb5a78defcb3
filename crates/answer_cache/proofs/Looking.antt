-- What a look-up answers and leaves.
use Rattle.std.proofs.Common.{◌≡◌, ℕ, ◌≤◌, Bool, List, length, Option, Some, None, sym, ap, ◌∙◌, subst, ⊎_elim, arith}
use Rattle.std.specs.Prelude.{◌↔◌, Contains, IfSome, IfNone, IsTrue}
use Rattle.std.specs.List.{IsDistinct}
use Rattle.std.specs.Map.{keys_of, lookup}
use Rattle.lru.specs.LruCache.{LruCache, promoted}
use Rattle.names.specs.declared.object.Object.{Object}
use Rattle.names.specs.declared.node.Node.{Node}
use Rattle.meaning.specs.Membership.{IsMember}
use Rattle.meaning.specs.Snap.{Snap}
use Rattle.answer_cache.specs.declared.question.Question.{Question}
use Rattle.answer_cache.specs.declared.cached.TheConstants.{CAPACITY}
use Rattle.answer_cache.specs.Questions.{question, is_same}
use Rattle.answer_cache.specs.Kept.{answer_first, AreAnswersAt, AreAnswers}
use Rattle.answer_cache.specs.inside.Fits.{Fits}
use Rattle.answer_cache.proofs.Entries.{found, missed, used, unused, from_first, into_first, distinct_first, length-first}

pub answer_of : (p q : Question) (ds es : List (Question × Bool)) (r : Option Bool) → p ≡ q → ds ≡ es → r ≡ lookup (is_same p) ds → r ≡ lookup (is_same q) es
answer_of p q ds es r asked seen answer = answer ∙ ap (λ x. lookup (is_same x) ds) asked ∙ ap (lookup (is_same q)) seen

pub list_of : (p q : Question) (ds es new : List (Question × Bool)) → p ≡ q → ds ≡ es → new ≡ promoted (is_same p) ds → new ≡ promoted (is_same q) es
list_of p q ds es new asked seen list = list ∙ ap (λ x. promoted (is_same x) ds) asked ∙ ap (promoted (is_same q)) seen

module _ (q : Question) (es : List (Question × Bool)) where
  pub is_found : (r : Option Bool) → r ≡ lookup (is_same q) es → IfSome r (λ b. Contains es (q, b))
  is_found (Some b) answer = found q es b (sym answer)
  is_found None answer = tt

  pub is_none : (r : Option Bool) → r ≡ lookup (is_same q) es → IfNone r ((b : Bool) → ¬ (Contains es (q, b)))
  is_none (Some b) answer = tt
  is_none None answer = λ b held. missed q es (sym answer) b held

  module _ (new : List (Question × Bool)) where
    pub is_used : (r : Option Bool) → r ≡ lookup (is_same q) es → new ≡ promoted (is_same q) es → IfSome r (λ b. new ≡ answer_first q b es)
    is_used (Some b) answer list = list ∙ used q es b (sym answer)
    is_used None answer list = tt

    pub is_unused : (r : Option Bool) → r ≡ lookup (is_same q) es → new ≡ promoted (is_same q) es → IfNone r (new ≡ es)
    is_unused (Some b) answer list = tt
    is_unused None answer list = list ∙ unused q es (sym answer)

    pub is_same_set : (r : Option Bool) → r ≡ lookup (is_same q) es → new ≡ promoted (is_same q) es → IsDistinct is_same (keys_of es)
        → (p : Question) (a : Bool) → Contains new (p, a) ↔ Contains es (p, a)
    is_same_set (Some b) answer list distinct p a =
        let is : new ≡ answer_first q b es = list ∙ used q es b (sym answer) in let this = found q es b (sym answer) in (
          λ held. ⊎_elim (λ here. subst (Contains es) here this) (λ there. there) (from_first q es b (p, a) (subst (λ l. Contains l (p, a)) is held)),
          λ held. subst (λ l. Contains l (p, a)) (sym is) (into_first q es b distinct this p a held),
        )
    is_same_set None answer list distinct p a =
        let is : new ≡ es = list ∙ unused q es (sym answer) in
        (λ held. subst (λ l. Contains l (p, a)) is held, λ held. subst (λ l. Contains l (p, a)) (sym is) held)

    is_distinct : (r : Option Bool) → r ≡ lookup (is_same q) es → new ≡ promoted (is_same q) es → IsDistinct is_same (keys_of es)
        → IsDistinct is_same (keys_of new)
    is_distinct (Some b) answer list distinct = subst (λ l. IsDistinct is_same (keys_of l)) (sym (list ∙ used q es b (sym answer))) (distinct_first q es b distinct)
    is_distinct None answer list distinct = subst (λ l. IsDistinct is_same (keys_of l)) (sym (list ∙ unused q es (sym answer))) distinct

    is_few : (r : Option Bool) → r ≡ lookup (is_same q) es → new ≡ promoted (is_same q) es → length es ≤ CAPACITY → length new ≤ CAPACITY
    is_few (Some b) answer list few =
        let long = length-first q es b (sym answer) in let fits : length (answer_first q b es) ≤ CAPACITY = omega arith in
        subst (λ l. length l ≤ CAPACITY) (sym (list ∙ used q es b (sym answer))) fits
    is_few None answer list few = subst (λ l. length l ≤ CAPACITY) (sym (list ∙ unused q es (sym answer))) few

pub is_right : (revision : ℕ) (n : Node) (u : Object) (es : List (Question × Bool)) (r : Option Bool) → r ≡ lookup (is_same (question revision n u)) es
    → (snaps : ℕ → Snap) → AreAnswers es snaps → IfSome r (λ b. IsTrue b ↔ IsMember (snaps revision) u n)
is_right revision n u es (Some b) answer snaps are = are revision n u b (found (question revision n u) es b (sym answer))
is_right revision n u es None answer snaps are = tt

-- a cache that was looked into still fits
pub still_fits : (p : Question) (c d : LruCache Question Bool) (r : Option Bool) → Fits c → r ≡ lookup (is_same p) c.entries
    → d.entries ≡ promoted (is_same p) c.entries → d.cap ≡ c.cap → Fits d
still_fits p c d r fits answer list capacity = record {
  capacity = capacity ∙ fits.capacity;
  few = is_few p c.entries d.entries r answer list fits.few;
  distinct = is_distinct p c.entries d.entries r answer list fits.distinct;
}

-- what was found is right at the revision
pub told_right : (es : List (Question × Bool)) (revision : ℕ) (n : Node) (u : Object) (S : Snap) (r : Option Bool) → AreAnswersAt es revision S
    → IfSome r (λ b. Contains es (question revision n u, b)) → IfSome r (λ b. IsTrue b ↔ IsMember S u n)
told_right es revision n u S (Some b) are this = are n u b this
told_right es revision n u S None are this = tt
