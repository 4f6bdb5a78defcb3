-- How many of the tuples that pass are left.
use Rattle.std.proofs.Common.{◌≡◌, ℕ, suc, ◌+◌, ◌-◌, ◌<◌, List, ◌∷◌, length, ap, sym, subst, ◌∙◌, arith}
use Rattle.std.specs.Prelude.{Bool, true, cond, filter, Option, None}
use Rattle.std.specs.List.{starts_with}
use Rattle.std.specs.List.Sorted.{IsStrictlySortedBy}
use Rattle.std.specs.Map.{keys_of}
use Rattle.std.proofs.Math.Dec.{eqb}
use Rattle.names.specs.declared.node.Node.{Node}
use Rattle.names.specs.declared.tuple.Tuple.{Tuple}
use Rattle.meaning.specs.TupleSet as set
use Rattle.meaning.specs.TupleSet.{Tuples}
use Rattle.meaning.proofs.TupleSets.{items_from_list}
use Rattle.shelf.specs.Texts.{text_cmp}
use Rattle.tuple_keys.specs.Spelled.{tuple_of}
use Rattle.tuple_keys.specs.Texts.{IsStartOf}
use Rattle.by_subject.specs.inside.Texts.{Texts, tuples_of, found_in, AreSpelled}
use Rattle.by_subject.proofs.Going.{from, from_all, sorted_tuples}

abbrev count : (Tuple → Bool) → Texts → ℕ
count g es = length (filter g (tuples_of es))

-- those that are left, and as many as were gone over since `most` might be, are all
pub record Counted (g : Tuple → Bool) (self : Tuples) (it : Texts) (most more : ℕ) : Type 0 where
  pub all : count g it + most ≡ length (filter g (set.items self)) + more

no_node : Tuple → Option Node
no_node t = None

pub counted_first : (p : List ℕ) (g : Tuple → Bool) → IsStartOf p g → (es : Texts) → AreSpelled es → IsStrictlySortedBy text_cmp (keys_of es) → (self : Tuples) → found_in es ≡ self
    → (it : Texts) → from p es ≡ it → (most : ℕ) → Counted g self it most most
counted_first p g begins es s sorted self all it same most = record {
  all =
      ap (λ (us : Texts). count g us + most) (sym same)
      ∙ ap (λ (ts : List Tuple). length ts + most) (from_all no_node p g begins es s)
      ∙ ap (λ (ts : List Tuple). length (filter g ts) + most) (sym (items_from_list (tuples_of es) (sorted_tuples es s sorted)) ∙ ap (λ (ts : Tuples). set.items ts) all);
}

-- one that passes is next
module _ (p : List ℕ) (g : Tuple → Bool) (begins : IsStartOf p g) (self : Tuples) (it : Texts) (spelled : AreSpelled it) (most more : ℕ) (counted : Counted g self it most more)
    (e : List ℕ × Unit {0}) (rest : Texts) (steps : it ≡ e ∷ rest) (starts : starts_with eqb e.0 p ≡ true)
  where
    one_of_them : count g it ≡ suc (count g rest)
    one_of_them =
        let others = filter g (tuples_of rest) in
        let passes = sym (begins e.0 (subst AreSpelled steps spelled).0) ∙ starts in
        ap (λ (us : Texts). count g us) steps ∙ ap (λ b. length (cond b (tuple_of e.0 ∷ others) others)) passes

    -- but no more may be
    pub counted_out : more ≡ 0 → most < length (filter g (set.items self))
    counted_out none =
        let one = one_of_them in
        let all = counted.all in
        omega (arith, one, all, none)

    pub counted_more : (more ≡ 0 → ⊥) → Counted g self rest most (more - 1)
    counted_more some =
        let one = one_of_them in
        let all = counted.all in
        record { all = omega (arith, one, all, some) }
