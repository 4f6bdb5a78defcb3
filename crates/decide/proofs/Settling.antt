-- Why the search is right: what is settled is no member.
use Rattle.std.proofs.Common.{◌≡◌, ℕ, zero, suc, ◌<◌, ◌≤◌, false, ◌∙◌, sym, subst, ⊎_elim, arith}
use Rattle.std.specs.Prelude.{Option, Some}
use Rattle.std.proofs.lemmas.List.{get_or_default}
use Rattle.names.specs.declared.object.Object.{Object}
use Rattle.names.specs.declared.node.Node.{Node}
use Rattle.meaning.specs.Snap.{Snap}
use Rattle.meaning.specs.Config.{IsAt, Step, rel_of}
use Rattle.meaning.specs.Membership.{RelationGives}
use Rattle.meaning.proofs.GivesLemmas.{relation_grows, relation_finitary}
use Rattle.meaning.proofs.LeastLemmas.{from_given, least_of, up_to}
use Rattle.meaning.proofs.LevelLemmas.{one_level}
use Rattle.meaning.proofs.ReadsLemmas.{at_level, below_level}
use Rattle.decide.specs.declared.search.Search.{Search}
use Rattle.decide.specs.declared.search.Opened.{Opened}
use Rattle.decide.specs.inside.Under.{Under}
use Rattle.decide.specs.inside.Searches.{Stands, IsStacked, Waits}
use Rattle.decide.specs.inside.Running.{IsRunning, IsStuck}

-- one level
pub level_is : (S : Snap) (m : Node) (j k : ℕ) → IsAt S.config m j → IsAt S.config m k → j ≡ k
level_is S m j k a b = one_level (Step S.config) (rel_of m) j k a.1 b.1

pub under_up : (S : Snap) (u : Object) (k n : ℕ) (m : Node) → k ≤ n → Under S u k m → Under S u n m
under_up S u k n m h b = up_to (RelationGives S u) (relation_grows S u) (relation_finitary S u) (IsAt S.config) n k m h b

-- a member below some level is one at its own
pub under_own : (S : Snap) (u : Object) (k l : ℕ) (m : Node) → IsAt S.config m l → Under S u k m → Under S u (suc l) m × (l < k)
under_own S u k l m at b =
    let own = at_level S u k m b in
    let low = below_level S u k m b in
    let e : own.0 ≡ l = level_is S m own.0 l own.1 at in
    let f : low.0 ≡ l = level_is S m low.0 l low.1 at in
    (subst (λ j. Under S u (suc j) m) e own.2, subst (λ j. j < k) f low.2)

pub under_given : (S : Snap) (u : Object) (k : ℕ) (n : Node) → IsAt S.config n k → RelationGives S u n (Under S u (suc k)) (Under S u k) → Under S u (suc k) n
under_given S u k n at g = from_given (RelationGives S u) (relation_grows S u) (relation_finitary S u) (λ m. IsAt S.config m k) (Under S u k) n at g

pub same_opened : (s : Search) (i : ℕ) (e f : Opened) → Stands s i e → Stands s i f → e ≡ f
same_opened s i e f (lt, a) (_, b) = sym a ∙ get_or_default s.opened.items i e f lt ∙ b

-- no number that is not known to have the user stands for the node
abbrev pub IsClear : Search → Node → Type 0
IsClear s m = (i : ℕ) (e : Opened) → Stands s i e → e.node ≡ m → e.sure ≡ false → ⊥

-- where nothing is left to look at up to a level, the members up to it are known
module _ (S : Snap) (u : Object) (s : Search) (but : Option ℕ) (run : IsRunning S u s but) (l : ℕ)
    (above : (i : ℕ) (e : Opened) → Stands s i e → e.level ≤ l → but ≡ Some i → ⊥)
    (empty : (k i : ℕ) → k ≤ l → IsStacked s k i → ⊥) where
  stuck_at : (n : Node) (k i : ℕ) (e : Opened) → e.node ≡ n → e.level ≡ k → IsStuck S u s i e → RelationGives S u n (λ m. Under S u (suc k) m × (Waits s m i → ⊥)) (Under S u k) → ⊥
  stuck_at n k i e node level stuck g =
      stuck
      (subst (λ j. RelationGives S u e.node (λ m. Under S u (suc j) m × (Waits s m i → ⊥)) (Under S u j)) (sym level)
      (subst (λ x. RelationGives S u x (λ m. Under S u (suc k) m × (Waits s m i → ⊥)) (Under S u k)) (sym node) g))

  given : (k : ℕ) → k ≤ l → (n : Node) → IsAt S.config n k → RelationGives S u n (λ m. Under S u (suc k) m × IsClear s m) (Under S u k) → Under S u (suc k) n × IsClear s n
  given k low n at g = (
    under_given S u k n at (relation_grows S u n (λ m. Under S u (suc k) m × IsClear s m) (Under S u (suc k)) (Under S u k) (Under S u k) (λ m x. x.0) (λ m. (λ a. a, λ a. a)) g),
    λ i e st node unsure.
        let here : e.level ≡ k = level_is S n e.level k (subst (λ x. IsAt S.config x e.level) node (run.at i e st)) at in
        ⊎_elim
        (λ stacked. empty e.level i (omega (arith, low, here)) stacked)
        (λ stuck. stuck_at n k i e node here stuck
        (relation_grows S u n (λ m. Under S u (suc k) m × IsClear s m) (λ m. Under S u (suc k) m × (Waits s m i → ⊥)) (Under S u k) (Under S u k)
        (λ m x. (x.0, λ (j, f, there, same, no_more, c). x.1 j f there same no_more))
        (λ m. (λ a. a, λ a. a)) g))
        (run.covered i e st unsure (above i e st (omega (arith, low, here)))),
  )

  pub settled : (k : ℕ) → k ≤ suc l → (m : Node) → Under S u k m → IsClear s m
  settled zero low m b = absurd b
  settled (suc k) low m b =
      (least_of (RelationGives S u) (relation_grows S u) (relation_finitary S u) (λ n. IsAt S.config n k) (Under S u k) (λ n. Under S u (suc k) n × IsClear s n)
      (λ n x. (under_up S u k (suc k) n (omega arith) x, settled k (omega (arith, low)) n x))
      (given k (omega (arith, low)))
      m b).1
