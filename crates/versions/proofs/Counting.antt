-- How many of the tuples that pass are left.
use Rattle.std.proofs.Common.{◌≡◌, ℕ, suc, ◌+◌, ◌-◌, ◌<◌, List, [], ◌∷◌, length, refl, ap, sym, subst, ◌∙◌, arith}
use Rattle.std.specs.Prelude.{Bool, true, cond, filter}
use Rattle.std.specs.List.{starts_with}
use Rattle.std.proofs.Math.Dec.{eqb}
use Rattle.names.specs.declared.tuple.Tuple.{Tuple}
use Rattle.versions.specs.declared.version.Version.{Version}
use Rattle.tuple_keys.specs.Spelled.{tuple_of}
use Rattle.versions.specs.Versions.{Entries, keys}
use Rattle.versions.specs.Texts.{Texts, entries_of, AreSpelled}
use Rattle.versions.proofs.Picking.{pick}
use Rattle.versions.proofs.Together.{from, from_all}
use Rattle.tuple_keys.specs.Texts.{IsStartOf}

abbrev count : (Tuple → Bool) → Entries → ℕ
count g es = length (pick (λ e. g e.0) es)

picked_keys : (g : Tuple → Bool) (es : Entries) → pick (λ e. g e.0) es ≡ filter g (keys es)
picked_keys g [] = refl
picked_keys g (e ∷ es) = ap (λ (ts : List Tuple). cond (g e.0) (e.0 ∷ ts) ts) (picked_keys g es)

-- those that are left, and as many as were gone over since `most` might be, are all
pub record Counted (g : Tuple → Bool) (m : Entries) (it : Texts) (most more : ℕ) : Type 0 where
  pub all : count g (entries_of it) + most ≡ length (filter g (keys m)) + more

pub counted_first : (p : List ℕ) (g : Tuple → Bool) → IsStartOf p g → (es : Texts) → AreSpelled es → (m : Entries) → entries_of es ≡ m
    → (it : Texts) → from p es ≡ it → (most : ℕ) → Counted g m it most most
counted_first p g begins es s m is it same most = record {
  all =
      ap (λ (us : Texts). count g (entries_of us) + most) (sym same)
      ∙ ap (λ (ts : List Tuple). length ts + most) (from_all p g begins (λ _. true) es s)
      ∙ ap (λ (ds : Entries). count g ds + most) is
      ∙ ap (λ (ts : List Tuple). length ts + most) (picked_keys g m);
}

-- one that passes is next
module _ (p : List ℕ) (g : Tuple → Bool) (begins : IsStartOf p g) (m : Entries) (it : Texts) (spelled : AreSpelled it) (most more : ℕ) (counted : Counted g m it most more)
    (e : List ℕ × List Version) (rest : Texts) (steps : it ≡ e ∷ rest) (starts : starts_with eqb e.0 p ≡ true)
  where
    one_of_them : count g (entries_of it) ≡ suc (count g (entries_of rest))
    one_of_them =
        let others = pick (λ x. g x.0) (entries_of rest) in
        let passes = sym (begins e.0 (subst AreSpelled steps spelled).0) ∙ starts in
        ap (λ (us : Texts). count g (entries_of us)) steps ∙ ap (λ b. length (cond b (tuple_of e.0 ∷ others) others)) passes

    -- but no more may be
    pub counted_out : more ≡ 0 → most < length (filter g (keys m))
    counted_out none =
        let one = one_of_them in
        let all = counted.all in
        omega (arith, one, all, none)

    pub counted_more : (more ≡ 0 → ⊥) → Counted g m rest most (more - 1)
    counted_more some =
        let one = one_of_them in
        let all = counted.all in
        record { all = omega (arith, one, all, some) }
