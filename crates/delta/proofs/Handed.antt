-- From the numbers that were counted to the groups that were asked.
use Rattle.std.proofs.Common.{ℕ, zero, suc, ◌≡◌, true, false, ◌||◌, nat_eq, List, [], ◌∷◌, ◌++◌, refl, sym, ◌∙◌, ap, subst, ◌⊎◌, append-nil}
use Rattle.std.specs.Prelude.{Some}
use Rattle.std.specs.List.{slice_get, AllByRecursion, IsDistinct}
use Rattle.std.proofs.lemmas.Bool.{or_left, or_right, false≢true, eq-eqb}
use Rattle.std.proofs.lemmas.Option.{none-some, same_Some, slice_get-get_or}
use Rattle.names.specs.declared.node.Node.{Node}
use Rattle.names.specs.declared.commit.Event.{Event}
use Rattle.meaning.specs.Snap.{Snap}
use Rattle.idsets.specs.Naming.{AreDistinct}
use Rattle.least_sets.specs.World.{has}
use Rattle.region.specs.Tables.{Rows}
use Rattle.delta.specs.Layers.{IsNewlyLedTo}
use Rattle.delta.specs.Asked.{HasEvent, WereAskedFew}
use Rattle.delta.specs.inside.Handing.{IsAnew, AreOf, nobody, kept_back, handed_on, WereOf}

off_all : (i : ℕ) (ids : List ℕ) → AllByRecursion (λ y. nat_eq i y ≡ false) ids → has ids i ≡ false
off_all i [] h = refl
off_all i (x ∷ xs) h = ap (λ b. b || has xs i) h.0 ∙ off_all i xs h.1

-- each that was asked has one of the numbers, and is anew
of_place : (nodes : List Node) (rows : Rows) (changed ids : List ℕ) (groups : List Node) (j : ℕ) (n : Node) → AreOf nodes rows changed ids groups → slice_get groups j ≡ Some n
    → (i : ℕ) × (has ids i ≡ true) × (slice_get nodes i ≡ Some n) × IsAnew rows changed i
of_place nodes rows changed ids groups j n nobody h = absurd (none-some n h)
of_place nodes rows changed ids groups j n (kept_back {i = a} {ids = is} {groups = gs} rest) h =
    let s = of_place nodes rows changed is gs j n rest h in
    (s.0, or_right (nat_eq s.0 a) (has is s.0) s.1, s.2, s.3)
of_place nodes rows changed ids groups zero n (handed_on {i = a} {ids = is} {groups = gs} m at anew rest) h = (a, or_left (nat_eq a a) (has is a) (eq-eqb a a refl), at ∙ h, anew)
of_place nodes rows changed ids groups (suc j) n (handed_on {i = a} {ids = is} {groups = gs} m at anew rest) h =
    let s = of_place nodes rows changed is gs j n rest h in
    (s.0, or_right (nat_eq s.0 a) (has is s.0) s.1, s.2, s.3)

distinct_more : (m : Node) (groups : List Node) → ((j : ℕ) → slice_get groups j ≡ Some m → ⊥) → AreDistinct groups
    → (i j : ℕ) (n : Node) → slice_get (m ∷ groups) i ≡ Some n → slice_get (m ∷ groups) j ≡ Some n → i ≡ j
distinct_more m groups off rest zero zero n a b = refl
distinct_more m groups off rest zero (suc j) n a b = absurd (off j (b ∙ sym a))
distinct_more m groups off rest (suc i) zero n a b = absurd (off i (a ∙ sym b))
distinct_more m groups off rest (suc i) (suc j) n a b = ap (λ k. suc k) (rest i j n a b)

-- each number was counted once, and so each group was asked once
of_once : (nodes : List Node) (rows : Rows) (changed ids : List ℕ) (groups : List Node) → AreDistinct nodes → IsDistinct nat_eq ids → AreOf nodes rows changed ids groups → AreDistinct groups
unfolding IsDistinct
of_once nodes rows changed ids groups distinct once nobody = λ i j n a b. absurd (none-some n a)
of_once nodes rows changed ids groups distinct once (kept_back {ids = is} {groups = gs} rest) = of_once nodes rows changed is gs distinct once.1 rest
of_once nodes rows changed ids groups distinct once (handed_on {i = a} {ids = is} {groups = gs} m at anew rest) = distinct_more m gs
    (λ j h.
    let s = of_place nodes rows changed is gs j m rest h in
    let same : s.0 ≡ a = distinct s.0 a m s.2 at in
    false≢true (sym (off_all a is once.0) ∙ subst (λ x. has is x ≡ true) same s.1))
    (of_once nodes rows changed is gs distinct once.1 rest)

pub were_few : (S T : Snap) (events : List Event) (nodes : List Node) (rows : Rows) (changed counted : List ℕ) (old new : List Node) → AreDistinct nodes → IsDistinct nat_eq counted
    → ((i : ℕ) → has counted i ≡ true → IsAnew rows changed i → (n : Node) × (slice_get nodes i ≡ Some n) × (HasEvent events n ⊎ IsNewlyLedTo S T events n))
    → WereOf nodes rows changed [] counted old new → WereAskedFew S T events old new
were_few S T events nodes rows changed counted old new distinct once few were = record {
  more = were.groups;
  asked_is = were.asked_is;
  once = of_once nodes rows changed were.ids were.groups distinct (subst (λ xs. IsDistinct nat_eq xs) were.counted_is once) were.of;
  few = λ n c.
      let s = of_place nodes rows changed were.ids were.groups c.0 n were.of (slice_get-get_or were.groups c.0 n c.1 ∙ ap (λ x. Some x) c.2) in
      let f = few s.0 (ap (λ xs. has xs s.0) were.counted_is ∙ s.1) s.3 in
      subst (λ x. HasEvent events x ⊎ IsNewlyLedTo S T events x) (same_Some f.0 n (sym f.1 ∙ s.2)) f.2;
}

-- one more was counted, and handed on
pub one_handed : (nodes : List Node) (rows : Rows) (changed counted counted' : List ℕ) (i : ℕ) (asked asked' : List Node) (n : Node) → slice_get nodes i ≡ Some n → IsAnew rows changed i
    → counted' ≡ counted ++ i ∷ [] → asked' ≡ asked ++ n ∷ [] → WereOf nodes rows changed counted counted' asked asked'
one_handed nodes rows changed counted counted' i asked asked' n at anew counts asks =
    record { ids = i ∷ []; groups = n ∷ []; counted_is = counts; asked_is = asks; of = handed_on n at anew nobody }

-- one more was counted, and not handed on
pub one_kept_back : (nodes : List Node) (rows : Rows) (changed counted counted' : List ℕ) (i : ℕ) (asked : List Node) → counted' ≡ counted ++ i ∷ [] → WereOf nodes rows changed counted counted' asked asked
one_kept_back nodes rows changed counted counted' i asked counts = record { ids = i ∷ []; groups = []; counted_is = counts; asked_is = sym (append-nil asked); of = kept_back nobody }
