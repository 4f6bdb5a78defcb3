-- How a lookup ends.
use Rattle.std.proofs.Common.{◌≡◌, ℕ, ◌≤◌, List, [], length, sym, subst, inl, inr, ⊎_elim, arith}
use Rattle.std.specs.Prelude.{◌⊎◌, Contains, Result, Ok, Err, IfErr, IsErrAnd}
use Rattle.std.specs.Cmp.Lexicographic.{slice_cmp}
use Rattle.std.specs.Ordering.{nat_cmp}
use Rattle.std.specs.declared.cmp.Ordering.TheVariants.{Less}
use Rattle.std.proofs.lemmas.List.Elements.{All-weaker, All-contains_itself}
use Rattle.names.specs.declared.refusal.Refusal.{Refusal}
use Rattle.names.specs.declared.refusal.Refusal.TheVariants.{UnknownRelation, Memory}
use Rattle.meaning.specs.Causes.{CheckCause}
use Rattle.meaning.specs.Snap.{Snap}
use Rattle.meaning.proofs.Lists.{contains_none}
use Rattle.lookup.specs.declared.asked.Lookup.{Lookup}
use Rattle.lookup.specs.declared.looking.Found.{Found}
use Rattle.lookup.specs.Found.{node_of, IsLookup}
use Rattle.lookup.specs.Causes.{LookupCause}
use Rattle.lookup.specs.inside.Underway.{IsUnderway}
use Rattle.lookup.proofs.Ids.{between}

-- where none is left, or as many are found as are asked for
pub ended : (S : Snap) (asked : Lookup) (found : Found) (left : List (List ℕ)) → IsUnderway S asked found left → (left ≡ []) ⊎ (asked.limit ≤ length found.ids.items) → IsLookup S asked found.ids.items
ended S asked found left is end = record {
  sorted = is.sorted;
  few = is.few;
  only = λ id c. (is.only id c).0;
  others = λ id f. ⊎_elim inl
      (λ r. inr (
        full id r.1 end,
        All-weaker (Contains found.ids.items) (λ i. slice_cmp nat_cmp i id ≡ Less) (λ i c. between found.last i id (is.only i c).1 r.0) found.ids.items (All-contains_itself found.ids.items),
      ))
      (is.others id f);
}
  where
    full : (id : List ℕ) → Contains left id ⊎ (length found.ids.items ≡ asked.limit) → (left ≡ []) ⊎ (asked.limit ≤ length found.ids.items) → length found.ids.items ≡ asked.limit
    full id (inr as_many) e = as_many
    full id (inl c) (inl none) = absurd (contains_none id (subst (λ (ids : List (List ℕ)). Contains ids id) none c))
    full id (inl c) (inr enough) = omega (arith, enough, is.few)

-- why a check is refused is why the lookup is
pub cause_of : (S : Snap) (asked : Lookup) (id : List ℕ) (why : Refusal) → CheckCause S (node_of asked.relation id) why → LookupCause S asked why
cause_of S asked id UnknownRelation h = h
cause_of S asked id Memory h = tt
cause_of S asked id _ h = absurd h

-- a refusal is handed on
pub exit : {A : Type 0} (P : Refusal → Type 0) (r : Result A Refusal) (e : Refusal) → IsErrAnd r (λ why. why ≡ e) → P e → IfErr r P
exit P (Ok x) e h p = tt
exit P (Err why) e h p = subst P (sym h) p
