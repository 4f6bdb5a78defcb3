-- What is kept after a `put`.
use Rattle.std.proofs.Common.{◌≡◌, ℕ, ◌≤◌, Bool, ◌⊎◌, List, length, Some, None, refl, sym, ap, ◌∙◌, subst, inl, inr, ⊎_elim}
use Rattle.std.specs.Prelude.{◌↔◌, Contains, IsTrue, IsSome}
use Rattle.std.specs.List.{IsDistinct}
use Rattle.std.specs.Map.{keys_of, lookup}
use Rattle.lru.specs.LruCache.{LruCache, put_entries}
use Rattle.names.specs.declared.object.Object.{Object}
use Rattle.names.specs.declared.node.Node.{Node}
use Rattle.meaning.specs.Membership.{IsMember}
use Rattle.meaning.specs.Snap.{Snap}
use Rattle.answer_cache.specs.declared.question.Question.{Question}
use Rattle.answer_cache.specs.declared.cached.TheConstants.{CAPACITY}
use Rattle.answer_cache.specs.Questions.{question, is_same}
use Rattle.answer_cache.specs.Kept.{answer_first, answers_with, AreAnswers}
use Rattle.answer_cache.specs.inside.Fits.{Fits}
use Rattle.answer_cache.proofs.Entries.{put, missed, few_taken, from_with, distinct_with}

pub few_with : (q : Question) (b : Bool) (es : List (Question × Bool)) → length (answers_with q b es) ≤ CAPACITY
few_with q b es = few_taken CAPACITY (answer_first q b es)

pub list_after : (p q : Question) (b : Bool) (c d : LruCache Question Bool) (es : List (Question × Bool)) → Fits c → p ≡ q → c.entries ≡ es
    → d.entries ≡ put_entries is_same c p b → d.entries ≡ answers_with q b es
list_after p q b c d es fits asked seen list =
    list ∙ put p c b fits.capacity fits.few ∙ ap (λ x. answers_with x b c.entries) asked ∙ ap (answers_with q b) seen

pub fits_after : (p : Question) (b : Bool) (c d : LruCache Question Bool) → Fits c → d.entries ≡ put_entries is_same c p b → d.cap ≡ c.cap → Fits d
fits_after p b c d fits list capacity =
    let is : d.entries ≡ answers_with p b c.entries = list ∙ put p c b fits.capacity fits.few in
    record {
      capacity = capacity ∙ fits.capacity;
      few = subst (λ l. length l ≤ CAPACITY) (sym is) (few_with p b c.entries);
      distinct = subst (λ l. IsDistinct is_same (keys_of l)) (sym is) (distinct_with p c.entries b fits.distinct);
    }

pub no_other : (q : Question) (b : Bool) (es new : List (Question × Bool)) → new ≡ answers_with q b es → (p : Question) (a : Bool) → Contains new (p, a)
    → ((p ≡ q) × (a ≡ b)) ⊎ Contains es (p, a)
no_other q b es new is p a held = ⊎_elim
    (λ here. inl (sym (ap (λ x. x.0) here), sym (ap (λ x. x.1) here)))
    (λ there. inr there)
    (from_with q es b (p, a) (subst (λ l. Contains l (p, a)) is held))

pub stays_right : (revision : ℕ) (n : Node) (u : Object) (b : Bool) (es new : List (Question × Bool)) → new ≡ answers_with (question revision n u) b es
    → (snaps : ℕ → Snap) → AreAnswers es snaps → (IsTrue b ↔ IsMember (snaps revision) u n) → AreAnswers new snaps
stays_right revision n u b es new is snaps are this at m w a held = ⊎_elim
    (λ here. subst (λ (e : Question × Bool). IsTrue e.1 ↔ IsMember (snaps e.0.revision) e.0.user e.0.node) here this)
    (λ there. are at m w a there)
    (from_with (question revision n u) es b (question at m w, a) (subst (λ l. Contains l (question at m w, a)) is held))

-- where an answer is kept of the question, a look-up finds one
pub is_there : (q : Question) (es : List (Question × Bool)) (b : Bool) → Contains es (q, b) → IsSome (lookup (is_same q) es)
is_there q es b held = (elim (lookup (is_same q) es) as (λ o. lookup (is_same q) es ≡ o → IsSome o) [
  | Some a ↦ λ h. refl
  | None ↦ λ h. absurd (missed q es h b held)
]) refl
