-- Stacks after a pop from one of them, and a search from which a number was taken.
use Rattle.std.proofs.Common.{◌≡◌, ℕ, ◌<◌, ◌≤◌, List, [], ◌∷◌, ◌++◌, length, set, refl, ap, ◌∙◌, sym, subst, inl, inr, ⊎_elim, arith}
use Rattle.std.specs.Prelude.{◌⊎◌, Contains, Vec, Option, Some, None, IfSome, IfNone}
use Rattle.std.specs.Global.{Global}
use Rattle.std.proofs.lemmas.Bool.{cases_eq}
use Rattle.std.proofs.lemmas.List.Elements.{Contains-append_left, Contains-push, Contains-push_cases}
use Rattle.names.specs.declared.object.Object.{Object}
use Rattle.names.specs.declared.node.Node.{Node}
use Rattle.meaning.specs.Snap.{Snap}
use Rattle.decide.specs.declared.search.Search.{Search}
use Rattle.decide.specs.declared.search.Opened.{Opened}
use Rattle.decide.specs.declared.search.Frame.{Frame}
use Rattle.decide.specs.inside.Searches.{Stands, IsStacked, Waits, IsNumberOf, IsFrame, AreFalling, IsLowest}
use Rattle.decide.specs.inside.Running.{IsRunning}
use Rattle.decide.proofs.Elements.{Holds, holds_same, holds_set, holds_stored, holds_set_back}
use Rattle.decide.proofs.Pushing.{IsOn}
use Rattle.decide.proofs.SearchLemmas.{waits_stuck}

-- a list was taken off the end of one stack
module _ (xs : List (Vec ℕ Global)) (k : ℕ) (v w : Vec ℕ Global) (is : List ℕ) (at : Holds xs k v) (items : v.items ≡ w.items ++ is) where
  pub popped_before : (l j : ℕ) → IsOn (set xs k w) l j → IsOn xs l j
  popped_before l j (x, lt, read, c) = ⊎_elim
      (λ (same, here).
      let left : Contains w.items j = subst (λ (y : Vec ℕ Global). Contains y.items j) here c in
      let all : Contains v.items j = subst (λ zs. Contains zs j) (sym items) (Contains-append_left w.items is j left) in
      let stood : Holds xs l v = subst (λ q. Holds xs q v) (sym same) at in
      (v, stood.0, stood.1, all))
      (λ (_, old). (x, old.0, old.1, c))
      (holds_set_back xs k w l x (lt, read))

  module _ (i : ℕ) (one : is ≡ i ∷ []) where
    last : v.items ≡ w.items ++ i ∷ []
    last = items ∙ ap (λ ys. w.items ++ ys) one

    pub popped_here : IsOn xs k i
    popped_here = (v, at.0, at.1, subst (λ zs. Contains zs i) (sym last) (Contains-push w.items i))

    pub popped_rest : (l j : ℕ) → IsOn xs l j → (j ≡ i) ⊎ IsOn (set xs k w) l j
    popped_rest l j (x, lt, read, c) = ⊎_elim
        (λ same.
        let here : x ≡ v = holds_same xs l x v (lt, read) (subst (λ q. Holds xs q v) (sym same) at) in
        let all : Contains (w.items ++ i ∷ []) j = subst (λ zs. Contains zs j) last (subst (λ (y : Vec ℕ Global). Contains y.items j) here c) in
        let stored : Holds (set xs k w) l w = subst (λ q. Holds (set xs k w) q w) (sym same) (holds_stored xs k w at.0) in
        ⊎_elim
        (λ left. inr (w, stored.0, stored.1, left))
        (λ taken. inl (sym taken))
        (Contains-push_cases w.items i j all))
        (λ other. let h = holds_set xs k w l x other (lt, read) in inr (x, h.0, h.1, c))
        (cases_eq l k)

pub if_some : (r : Option ℕ) (P : ℕ → Type 0) → ((n : ℕ) → r ≡ Some n → P n) → IfSome r P
if_some (Some n) P f = f n refl
if_some None P f = tt

module _ (S : Snap) (u : Object) (s t : Search) (opened : t.opened.items ≡ s.opened.items) (long : length t.stacks.items ≡ length s.stacks.items)
    (fewer : (l j : ℕ) → IsStacked t l j → IsStacked s l j) (falls : AreFalling s.frames.items → AreFalling t.frames.items) where
  module _ (but except : Option ℕ)
      (rest : (l j : ℕ) → (except ≡ Some j → ⊥) → IsStacked s l j → IsStacked t l j)
      (apart : (j : ℕ) → (except ≡ Some j → ⊥) → but ≡ Some j → ⊥) where
    pub fewer_running : IsRunning S u s but → IsRunning S u t except
    fewer_running r =
        let old : (j : ℕ) (g : Opened) → Stands t j g → Stands s j g = λ j g at. subst (λ xs. Holds xs j g) opened at in
        let as_long : length t.opened.items ≡ length s.opened.items = ap length opened in
        record {
          at = λ j g at. r.at j g (old j g at);
          placed = λ j g at. r.placed j g (old j g at);
          stack_there = λ j g at. let lt = r.stack_there j g (old j g at) in omega (arith, lt, long);
          waiting_there = λ j w g at c. let lt = r.waiting_there j w g (old j g at) c in omega (arith, lt, as_long);
          stacked_there = λ l j on. let lt = r.stacked_there l j (fewer l j on) in omega (arith, lt, as_long);
          leveled = λ l j g on at. r.leveled l j g (fewer l j on) (old j g at);
          falling = falls r.falling;
          right = λ j g at sure. r.right j g (old j g at) sure;
          kept = λ j g at. r.kept j g (old j g at);
          covered = λ j g at unsure other. ⊎_elim
              (λ on. inl (rest g.level j other on))
              (λ stuck. inr (waits_stuck S u s t j g g (still j) refl refl stuck))
              (r.covered j g (old j g at) unsure (apart j other));
        }
      where
        still : (j : ℕ) (m : Node) → Waits s m j → Waits t m j
        still j m (k, g, at, node, unsure, c) = (k, g, subst (λ xs. Holds xs k g) (sym opened) at, node, unsure, c)

  pub popped_running : (i : ℕ) → ((l j : ℕ) → IsStacked s l j → (j ≡ i) ⊎ IsStacked t l j)
      → IsRunning S u s None → IsRunning S u t (Some i)
  popped_running i rest = fewer_running None (Some i)
      (λ l j other on. ⊎_elim (λ same. absurd (other (ap (λ n. Some n) (sym same)))) (λ left. left) (rest l j on))
      (λ j _ equal. cc)

pub same_running : (S : Snap) (u : Object) (s t : Search) → t.opened.items ≡ s.opened.items → t.stacks.items ≡ s.stacks.items
    → (AreFalling s.frames.items → AreFalling t.frames.items) → IsRunning S u s None → IsRunning S u t None
same_running S u s t opened stacks falls =
    fewer_running S u s t opened (ap length stacks) (λ l j on. subst (λ xs. IsOn xs l j) stacks on) falls
    None None
    (λ l j _ on. subst (λ xs. IsOn xs l j) (sym stacks) on)
    (λ j other. other)

pub some_mapped : (r : Option ℕ) (P Q : ℕ → Type 0) → ((n : ℕ) → P n → Q n) → IfSome r P → IfSome r Q
some_mapped (Some n) P Q f h = f n h
some_mapped None P Q f h = tt

pub none_mapped : (r : Option ℕ) (P Q : Type 0) → (P → Q) → IfNone r P → IfNone r Q
none_mapped (Some n) P Q f h = tt
none_mapped None P Q f h = f h

-- one number was taken from a search that stood as another does
module _ (r s t : Search) (opened_before : s.opened.items ≡ r.opened.items) (stacks_before : s.stacks.items ≡ r.stacks.items)
    (opened : t.opened.items ≡ s.opened.items) (framed : t.frames.items ≡ s.frames.items) (falls : AreFalling r.frames.items → AreFalling s.frames.items) where
  pub taken_running : (S : Snap) (u : Object) (n : ℕ) → length t.stacks.items ≡ length s.stacks.items
      → ((l j : ℕ) → IsStacked t l j → IsStacked s l j)
      → ((l : ℕ) × IsStacked s l n) × ((l j : ℕ) → IsStacked s l j → (j ≡ n) ⊎ IsStacked t l j)
      → IsRunning S u r None → (n < length t.opened.items) × IsRunning S u t (Some n)
  taken_running S u n long fewer took running =
      let now = same_running S u r s opened_before stacks_before falls running in
      let lt = now.stacked_there took.0.0 n took.0.1 in
      let same = ap length opened in
      (omega (arith, lt, same), popped_running S u s t opened long fewer (subst AreFalling (sym framed)) n took.1 now)

  -- its level is below all frames
  pub taken_lowest : (S : Snap) (u : Object) (n level : ℕ) → ((l : ℕ) × (l < level) × IsStacked s l n)
      → (AreFalling s.frames.items → (i : ℕ) (f : Frame) → IsFrame s.frames.items i f → level ≤ f.level)
      → IsRunning S u r None → IsLowest t n
  taken_lowest S u n level (l, below, on) low running i e f stands frame =
      let now = same_running S u r s opened_before stacks_before falls running in
      let its = now.leveled l n e on (subst (λ xs. Holds xs n e) opened stands) in
      let above = low now.falling i f (subst (λ fs. IsFrame fs i f) framed frame) in
      omega (arith, its, below, above)

  pub taken_numbers : (i k : ℕ) (n : Node) → IsNumberOf r i n k → IsNumberOf t i n k
  taken_numbers i k n (e, at, node, level) = (e, subst (λ xs. Holds xs i e) (sym (opened ∙ opened_before)) at, node, level)
