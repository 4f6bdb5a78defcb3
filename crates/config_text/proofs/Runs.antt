-- Relations in order are those of each namespace, one namespace after another.
use Rattle.std.proofs.Common.{◌≡◌, ℕ, List, [], ◌∷◌, ◌++◌, Bool, true, false, cond, map, refl, sym, ap, ◌∙◌, inl, inr, true≢false, Ordering, Less, Equal, Greater}
use Rattle.std.specs.Prelude.{nat_eq, ◌⊎◌}
use Rattle.std.specs.List.{AllByRecursion}
use Rattle.std.specs.List.Sorted.{IsStrictlySortedBy}
use Rattle.std.specs.Ordering.{ordering_then, ordering_reverse, is_lt}
use Rattle.std.specs.Cmp.Lexicographic.{pointwise}
use Rattle.std.proofs.lemmas.Bool.Decides.{Decides-eqb}
use Rattle.std.proofs.lemmas.Cmp.{nat_list_cmp_total, tied_itself}
use Rattle.std.proofs.lemmas.Slice.Eq.{slice_eq-Decides}
use Rattle.names.specs.declared.relation.RelationName.{RelationName}
use Rattle.meaning.specs.Config.{Defined}
use Rattle.config_text.specs.Order.{name_cmp, relation_cmp}

abbrev pub is_same : List ℕ → List ℕ → Bool
is_same = pointwise nat_eq

pub same_space : (xs ys : List ℕ) → is_same xs ys ≡ true → xs ≡ ys
same_space xs ys e = (slice_eq-Decides Decides-eqb xs ys (is_same xs ys) refl).0 e

differ : (xs ys : List ℕ) (b : Bool) → is_same xs ys ≡ b → (xs ≡ ys → ⊥) → b ≡ false
differ xs ys true e other = absurd (other (same_space xs ys e))
differ xs ys false e other = refl

pub other_space : (xs ys : List ℕ) → (xs ≡ ys → ⊥) → is_same xs ys ≡ false
other_space xs ys other = differ xs ys (is_same xs ys) refl other

-- the relations of a namespace
abbrev pub mine : List ℕ → List Defined → List Defined
mine n [] = []
mine n (d ∷ ds) = cond (is_same d.rel.namespace n) (d ∷ mine n ds) (mine n ds)

abbrev pub runs : List (List ℕ) → List Defined → List Defined
runs [] ds = []
runs (n ∷ ns) ds = mine n ds ++ runs ns ds

abbrev pub rels : List Defined → List RelationName
rels ds = map (λ d. d.rel) ds

not_less : (o : Ordering) → o ≡ Greater → o ≡ Less → ⊥
not_less o g l = let same : Less ≡ Greater = sym l ∙ g in absurd (true≢false (ap is_lt same))

less_other : (n k : List ℕ) → name_cmp n k ≡ Less → k ≡ n → ⊥
less_other n k h e = let t : name_cmp n n ≡ Equal = tied_itself nat_list_cmp_total n in
    let same : Less ≡ Equal = sym (ap (name_cmp n) (sym e) ∙ h) ∙ t in absurd (true≢false (ap is_lt same))

-- what comes after a relation of a later namespace is not of this one
later_other : (n : List ℕ) (a b : RelationName) → name_cmp n a.namespace ≡ Less → relation_cmp a b ≡ Less → b.namespace ≡ n → ⊥
later_other n a b h l e =
    let back : name_cmp a.namespace n ≡ Greater = nat_list_cmp_total.antisymm a.namespace n ∙ ap ordering_reverse h in
    let g : relation_cmp a b ≡ Greater = ap (λ k. ordering_then (name_cmp a.namespace k) (name_cmp a.relation b.relation)) e ∙ ap (λ o. ordering_then o (name_cmp a.relation b.relation)) back in
    not_less (relation_cmp a b) g l

none_mine : (n : List ℕ) (a : RelationName) (ds : List Defined) → name_cmp n a.namespace ≡ Less → AllByRecursion (λ r. relation_cmp a r ≡ Less) (rels ds) → mine n ds ≡ []
none_mine n a [] h l = refl
none_mine n a (d ∷ ds) h l =
    ap (λ b. cond b (d ∷ mine n ds) (mine n ds)) (other_space d.rel.namespace n (later_other n a d.rel h l.0)) ∙ none_mine n a ds h l.1

runs_skip : (ns : List (List ℕ)) (d : Defined) (ds : List Defined) → AllByRecursion (λ k. name_cmp d.rel.namespace k ≡ Less) ns → runs ns (d ∷ ds) ≡ runs ns ds
runs_skip [] d ds h = refl
runs_skip (n ∷ ns) d ds h =
    let other : is_same d.rel.namespace n ≡ false = other_space d.rel.namespace n (λ e. less_other d.rel.namespace n h.0 (sym e)) in
    ap (λ b. cond b (d ∷ mine n ds) (mine n ds) ++ runs ns (d ∷ ds)) other ∙ ap (λ xs. mine n ds ++ xs) (runs_skip ns d ds h.1)

-- among the names, by recursion
abbrev pub Among : List ℕ → List (List ℕ) → Type 0
Among k [] = ⊥
Among k (n ∷ ns) = (k ≡ n) ⊎ Among k ns

above_first : (n k : List ℕ) (ns : List (List ℕ)) → AllByRecursion (λ y. name_cmp n y ≡ Less) ns → Among k ns → name_cmp n k ≡ Less
above_first n k [] h x = absurd x
above_first n k (m ∷ ns) h (inl e) = ap (name_cmp n) e ∙ h.0
above_first n k (m ∷ ns) h (inr later) = above_first n k ns h.1 later

runs_cons_at : (b : Bool) (n : List ℕ) (ns : List (List ℕ)) (d : Defined) (ds : List Defined) → is_same d.rel.namespace n ≡ b
    → (b ≡ true → runs ns (d ∷ ds) ≡ runs ns ds) → (b ≡ false → (mine n ds ≡ []) × (runs ns (d ∷ ds) ≡ d ∷ runs ns ds)) → cond b (d ∷ mine n ds) (mine n ds) ++ runs ns (d ∷ ds) ≡ d ∷ (mine n ds ++ runs ns ds)
runs_cons_at true n ns d ds e same other = ap (λ xs. d ∷ (mine n ds ++ xs)) (same refl)
runs_cons_at false n ns d ds e same other = let o = other refl in rw (o.0, o.1) refl

not_first : (n k : List ℕ) (ns : List (List ℕ)) → Among k (n ∷ ns) → is_same k n ≡ false → Among k ns
not_first n k ns (inl e) other = absurd (true≢false (sym ((slice_eq-Decides Decides-eqb k n (is_same k n) refl).1 e) ∙ other))
not_first n k ns (inr later) other = later

runs_cons : (ns : List (List ℕ)) (d : Defined) (ds : List Defined) → IsStrictlySortedBy name_cmp ns → Among d.rel.namespace ns → AllByRecursion (λ r. relation_cmp d.rel r ≡ Less) (rels ds) → runs ns (d ∷ ds) ≡ d ∷ runs ns ds
unfolding IsStrictlySortedBy
runs_cons [] d ds up home below = absurd home
runs_cons (n ∷ ns) d ds up home below =
    runs_cons_at (is_same d.rel.namespace n) n ns d ds refl
    (λ e. runs_skip ns d ds (rw (same_space d.rel.namespace n e) up.0))
    (λ e. let later = not_first n d.rel.namespace ns home e in (none_mine n d.rel ds (above_first n d.rel.namespace ns up.0 later) below, runs_cons ns d ds up.1 later below))

runs_none : (ns : List (List ℕ)) → runs ns [] ≡ []
runs_none [] = refl
runs_none (n ∷ ns) = runs_none ns

pub runs_all : (ns : List (List ℕ)) (ds : List Defined) → IsStrictlySortedBy name_cmp ns → IsStrictlySortedBy relation_cmp (rels ds) → AllByRecursion (λ d. Among d.rel.namespace ns) ds → runs ns ds ≡ ds
unfolding IsStrictlySortedBy
runs_all ns [] up sorted homes = runs_none ns
runs_all ns (d ∷ ds) up sorted homes = runs_cons ns d ds up homes.0 sorted.0 ∙ ap (λ xs. d ∷ xs) (runs_all ns ds up sorted.1 homes.1)

-- ---- those of one namespace

then_same : (n : List ℕ) (o : Ordering) → ordering_then (name_cmp n n) o ≡ o
then_same n o = ap (λ x. ordering_then x o) (tied_itself nat_list_cmp_total n)

by_relation : (a b : RelationName) → a.namespace ≡ b.namespace → relation_cmp a b ≡ Less → name_cmp a.relation b.relation ≡ Less
by_relation a b e l = sym (then_same a.namespace (name_cmp a.relation b.relation)) ∙ ap (λ k. ordering_then (name_cmp a.namespace k) (name_cmp a.relation b.relation)) e ∙ l

abbrev pub relation_of : Defined → List ℕ
relation_of d = d.rel.relation

mine_above_at : (b : Bool) (P : List ℕ → Type 0) (d : Defined) (ds : List Defined) → (b ≡ true → P (relation_of d)) → AllByRecursion P (map relation_of ds) → AllByRecursion P (map relation_of (cond b (d ∷ ds) ds))
mine_above_at true P d ds h rest = (h refl, rest)
mine_above_at false P d ds h rest = rest

mine_above : (n : List ℕ) (d : Defined) (ds : List Defined) → d.rel.namespace ≡ n → AllByRecursion (λ r. relation_cmp d.rel r ≡ Less) (rels ds) → AllByRecursion (λ y. name_cmp (relation_of d) y ≡ Less) (map relation_of (mine n ds))
mine_above n d [] is h = tt
mine_above n d (e ∷ ds) is h = mine_above_at (is_same e.rel.namespace n) (λ y. name_cmp (relation_of d) y ≡ Less) e (mine n ds)
    (λ same. by_relation d.rel e.rel (is ∙ sym (same_space e.rel.namespace n same)) h.0) (mine_above n d ds is h.1)

mine_sorted_at : (b : Bool) (d : Defined) (ds : List Defined) → (b ≡ true → AllByRecursion (λ y. name_cmp (relation_of d) y ≡ Less) (map relation_of ds)) → IsStrictlySortedBy name_cmp (map relation_of ds) → IsStrictlySortedBy name_cmp (map relation_of (cond b (d ∷ ds) ds))
unfolding IsStrictlySortedBy
mine_sorted_at true d ds h rest = (h refl, rest)
mine_sorted_at false d ds h rest = rest

pub mine_sorted : (n : List ℕ) (ds : List Defined) → IsStrictlySortedBy relation_cmp (rels ds) → IsStrictlySortedBy name_cmp (map relation_of (mine n ds))
unfolding IsStrictlySortedBy
mine_sorted n [] h = tt
mine_sorted n (d ∷ ds) h = mine_sorted_at (is_same d.rel.namespace n) d (mine n ds) (λ same. mine_above n d ds (same_space d.rel.namespace n same) h.0) (mine_sorted n ds h.1)

mine_all_at : (b : Bool) (Q : Defined → Type 0) (d : Defined) (ds : List Defined) → (b ≡ true → Q d) → AllByRecursion Q ds → AllByRecursion Q (cond b (d ∷ ds) ds)
mine_all_at true Q d ds h rest = (h refl, rest)
mine_all_at false Q d ds h rest = rest

-- each is of the namespace, and what holds of all holds of each
pub mine_all : (Q : Defined → Type 0) (n : List ℕ) (ds : List Defined) → AllByRecursion Q ds → AllByRecursion (λ d. (d.rel.namespace ≡ n) × Q d) (mine n ds)
mine_all Q n [] h = tt
mine_all Q n (d ∷ ds) h = mine_all_at (is_same d.rel.namespace n) (λ x. (x.rel.namespace ≡ n) × Q x) d (mine n ds) (λ same. (same_space d.rel.namespace n same, h.0)) (mine_all Q n ds h.1)
