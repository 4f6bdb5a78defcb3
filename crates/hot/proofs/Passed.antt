-- From the numbers that were counted to the nodes that were asked.
use Rattle.std.proofs.Common.{ℕ, zero, suc, ◌≡◌, true, false, ◌||◌, nat_eq, List, [], ◌∷◌, ◌++◌, refl, sym, ◌∙◌, ap, subst, append-nil}
use Rattle.std.specs.Prelude.{Some}
use Rattle.std.specs.List.{slice_get, AllByRecursion, IsDistinct}
use Rattle.std.proofs.lemmas.Bool.{or_left, or_right, false≢true, eq-eqb}
use Rattle.std.proofs.lemmas.Option.{none-some, same_Some, slice_get-get_or}
use Rattle.names.specs.declared.node.Node.{Node}
use Rattle.idsets.specs.Naming.{AreDistinct}
use Rattle.least_sets.specs.World.{has}
use Rattle.hot.specs.Nodes.{WereAskedOnly}
use Rattle.hot.specs.inside.Passing.{HaveSome, no_more, not_passed, passed_on, WerePassed}

off_all : (i : ℕ) (ids : List ℕ) → AllByRecursion (λ y. nat_eq i y ≡ false) ids → has ids i ≡ false
off_all i [] h = refl
off_all i (x ∷ xs) h = ap (λ b. b || has xs i) h.0 ∙ off_all i xs h.1

-- each that was asked has one of the numbers
of_place : (nodes : List Node) (ids : List ℕ) (names : List Node) (j : ℕ) (n : Node) → HaveSome nodes ids names → slice_get names j ≡ Some n
    → (i : ℕ) × (has ids i ≡ true) × (slice_get nodes i ≡ Some n)
of_place nodes ids names j n no_more h = absurd (none-some n h)
of_place nodes ids names j n (not_passed {i = a} {ids = is} {names = ns} rest) h =
    let s = of_place nodes is ns j n rest h in
    (s.0, or_right (nat_eq s.0 a) (has is s.0) s.1, s.2)
of_place nodes ids names zero n (passed_on {i = a} {ids = is} {names = ns} m at rest) h = (a, or_left (nat_eq a a) (has is a) (eq-eqb a a refl), at ∙ h)
of_place nodes ids names (suc j) n (passed_on {i = a} {ids = is} {names = ns} m at rest) h =
    let s = of_place nodes is ns j n rest h in
    (s.0, or_right (nat_eq s.0 a) (has is s.0) s.1, s.2)

distinct_more : (m : Node) (names : List Node) → ((j : ℕ) → slice_get names j ≡ Some m → ⊥) → AreDistinct names
    → (i j : ℕ) (n : Node) → slice_get (m ∷ names) i ≡ Some n → slice_get (m ∷ names) j ≡ Some n → i ≡ j
distinct_more m names off rest zero zero n a b = refl
distinct_more m names off rest zero (suc j) n a b = absurd (off j (b ∙ sym a))
distinct_more m names off rest (suc i) zero n a b = absurd (off i (a ∙ sym b))
distinct_more m names off rest (suc i) (suc j) n a b = ap (λ k. suc k) (rest i j n a b)

-- each number was counted once, and so each node was asked once
of_once : (nodes : List Node) (ids : List ℕ) (names : List Node) → AreDistinct nodes → IsDistinct nat_eq ids → HaveSome nodes ids names → AreDistinct names
unfolding IsDistinct
of_once nodes ids names distinct once no_more = λ i j n a b. absurd (none-some n a)
of_once nodes ids names distinct once (not_passed {ids = is} {names = ns} rest) = of_once nodes is ns distinct once.1 rest
of_once nodes ids names distinct once (passed_on {i = a} {ids = is} {names = ns} m at rest) = distinct_more m ns
    (λ j h.
    let s = of_place nodes is ns j m rest h in
    let same : s.0 ≡ a = distinct s.0 a m s.2 at in
    false≢true (sym (off_all a is once.0) ∙ subst (λ x. has is x ≡ true) same s.1))
    (of_once nodes is ns distinct once.1 rest)

pub asked_only : (nodes : List Node) (counted : List ℕ) (old new : List Node) (who : Node → Type 0) → AreDistinct nodes → IsDistinct nat_eq counted
    → ((i : ℕ) → has counted i ≡ true → (n : Node) × (slice_get nodes i ≡ Some n) × who n)
    → WerePassed nodes [] counted old new → WereAskedOnly old new who
asked_only nodes counted old new who distinct once is were = record {
  more = were.names;
  asked_is = were.asked_is;
  once = of_once nodes were.ids were.names distinct (subst (λ xs. IsDistinct nat_eq xs) were.counted_is once) were.have;
  only = λ n c.
      let s = of_place nodes were.ids were.names c.0 n were.have (slice_get-get_or were.names c.0 n c.1 ∙ ap (λ x. Some x) c.2) in
      let f = is s.0 (ap (λ xs. has xs s.0) were.counted_is ∙ s.1) in
      subst (λ x. who x) (same_Some f.0 n (sym f.1 ∙ s.2)) f.2;
}

-- one more was counted, and asked
pub one_passed : (nodes : List Node) (counted counted' : List ℕ) (i : ℕ) (asked asked' : List Node) (n : Node) → slice_get nodes i ≡ Some n
    → counted' ≡ counted ++ i ∷ [] → asked' ≡ asked ++ n ∷ [] → WerePassed nodes counted counted' asked asked'
one_passed nodes counted counted' i asked asked' n at counts asks =
    record { ids = i ∷ []; names = n ∷ []; counted_is = counts; asked_is = asks; have = passed_on n at no_more }

-- one more was counted, and not asked
pub one_not_passed : (nodes : List Node) (counted counted' : List ℕ) (i : ℕ) (asked : List Node) → counted' ≡ counted ++ i ∷ [] → WerePassed nodes counted counted' asked asked
one_not_passed nodes counted counted' i asked counts = record { ids = i ∷ []; names = []; counted_is = counts; asked_is = sym (append-nil asked); have = not_passed no_more }
