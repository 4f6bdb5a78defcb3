-- Walks in rounds.
use Rattle.std.proofs.Common.{◌≡◌, ℕ, List, refl, sym, inl, inr, ⊎_elim, subst}
use Rattle.std.specs.Prelude.{◌↔◌, ◌⊎◌}
use Rattle.names.specs.declared.node.Node.{Node}
use Rattle.meaning.specs.Snap.{Snap}
use Rattle.graphs.specs.Groups.{IsGroupArc, GroupWalk, here, on}
use Rattle.leopard.specs.Build.{IsOwner, IsListed}
use Rattle.leopard.specs.inside.Closing.{IsIdArc, IdWalk, stay, go}

-- All that was reached so far, and those that were new in the last round: arcs from the others lead to what was reached.
pub record IsRound {A : Type 0} (Arc : A → A → Type 0) (Start Reached All Fresh : A → Type 0) : Type 0 where
  pub start : (a : A) → Start a → All a
  pub reached : (a : A) → All a → Reached a
  pub among : (a : A) → Fresh a → All a
  pub closed : (a b : A) → All a → Arc a b → All b ⊎ Fresh a

module _ {A : Type 0} (Arc : A → A → Type 0) (Start Reached : A → Type 0) where
  pub first_round : (All Fresh : A → Type 0) → ((a : A) → All a ↔ Start a) → ((a : A) → Fresh a ↔ All a) → ((a : A) → Start a → Reached a) → IsRound Arc Start Reached All Fresh
  first_round All Fresh starts same begins = record {
    start = λ a s. (starts a).1 s;
    reached = λ a h. begins a ((starts a).0 h);
    among = λ a f. (same a).0 f;
    closed = λ a b h arc. inr ((same a).1 h);
  }

  -- what is new are ends of arcs from those that were new, and each such end that is not new was reached before
  pub next_round : (All Fresh All2 Fresh2 : A → Type 0) → IsRound Arc Start Reached All Fresh
      → ((a b : A) → Reached a → Arc a b → Reached b)
      → ((b : A) → Fresh2 b → (a : A) × Fresh a × Arc a b)
      → ((a b : A) → Fresh a → Arc a b → All b ⊎ Fresh2 b)
      → ((b : A) → All2 b ↔ (All b ⊎ Fresh2 b))
      → IsRound Arc Start Reached All2 Fresh2
  next_round All Fresh All2 Fresh2 round grows only covers all = record {
    start = λ a s. (all a).1 (inl (round.start a s));
    reached = λ b h. ⊎_elim
        (λ old. round.reached b old)
        (λ new. let (a, f, arc) = only b new in grows a b (round.reached a (round.among a f)) arc)
        ((all b).0 h);
    among = λ a f. (all a).1 (inr f);
    closed = λ a b h arc. ⊎_elim
        (λ old. ⊎_elim
        (λ there. inl ((all b).1 (inl there)))
        (λ f. inl ((all b).1 (covers a b f arc)))
        (round.closed a b old arc))
        (λ new. inr new)
        ((all a).0 h);
  }

  -- where nothing is new, all is reached
  pub last_round : (All Fresh : A → Type 0) → IsRound Arc Start Reached All Fresh → ((a : A) → Fresh a → ⊥)
      → ((Q : A → Type 0) → ((a : A) → Start a → Q a) → ((a b : A) → Q a → Arc a b → Q b) → (a : A) → Reached a → Q a)
      → (a : A) → All a ↔ Reached a
  last_round All Fresh round none least a = (
    λ h. round.reached a h,
    λ r. least All round.start (λ b c h arc. ⊎_elim (λ there. there) (λ f. absurd (none b f)) (round.closed b c h arc)) a r,
  )

-- ---- listed groups

module _ (S : Snap) where
  pub listed_first : (g : Node) → IsOwner S g → IsListed S g
  listed_first g own = (g, own, here)

  pub listed_grows : (a b : Node) → IsListed S a → IsGroupArc S a b → IsListed S b
  listed_grows a b (g, own, walk) arc = (g, own, on walk arc)

  along : (Q : Node → Type 0) → ((a b : Node) → Q a → IsGroupArc S a b → Q b) → (g n : Node) → Q g → GroupWalk S g n → Q n
  along Q step g n q here = q
  along Q step g n q (on {g = m} w arc) = step m n (along Q step g m q w) arc

  pub listed_least : (Q : Node → Type 0) → ((a : Node) → IsOwner S a → Q a) → ((a b : Node) → Q a → IsGroupArc S a b → Q b) → (n : Node) → IsListed S n → Q n
  listed_least Q first step n (g, own, walk) = along Q step g n (first g own) walk

-- ---- ids

module _ (arcs : List (List ℕ)) (from : ℕ) where
  pub id_first : (i : ℕ) → i ≡ from → IdWalk arcs from i
  id_first i is = subst (IdWalk arcs from) (sym is) stay

  pub id_grows : (i j : ℕ) → IdWalk arcs from i → IsIdArc arcs i j → IdWalk arcs from j
  id_grows i j walk arc = go walk arc

  pub id_least : (Q : ℕ → Type 0) → ((i : ℕ) → i ≡ from → Q i) → ((i j : ℕ) → Q i → IsIdArc arcs i j → Q j) → (n : ℕ) → IdWalk arcs from n → Q n
  id_least Q first step n stay = first n refl
  id_least Q first step n (go {i = i} w arc) = step i n (id_least Q first step i w) arc
