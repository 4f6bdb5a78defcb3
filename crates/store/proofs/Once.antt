-- Rows are one history at most.
use Rattle.std.proofs.Common.{◌≡◌, ℕ, ◌+◌, ◌-◌, ◌<◌, ◌≤◌, List, [], ◌∷◌, refl, sym, ap, subst, ◌∙◌, inl, inr, arith, zero, suc}
use Rattle.std.specs.Prelude.{Bool, true, false, cond, ◌&&◌, ◌||◌, ◌==◌, ◌⊎◌, map, All, codes, nat_le, nat_lt, Option, Some, None, IsPermutation, Contains, bytes_eq}
use Rattle.std.specs.List.{list_any}
use Rattle.std.proofs.lemmas.Bool.{true≢false, eqb-true, eqb-false, eq-eqb, le-leb, ltb-true, ltb-false}
use Rattle.std.proofs.lemmas.List.Elements.{All-head, All-tail}
use Rattle.std.proofs.lemmas.List.Sorted.{IsPermutation-sym, IsPermutation-trans, Contains-permutation}
use Rattle.names.specs.Order.{is_same_tuple}
use Rattle.names.specs.Spelling.{IsTuple, IsSubjectType, type_text}
use Rattle.names.specs.declared.tuple.Tuple.{Tuple}
use Rattle.names.specs.declared.relation.SubjectType.{SubjectType}
use Rattle.names.specs.declared.commit.EventKind.TheVariants.{Put, Del}
use Rattle.meaning.specs.TupleSet as set
use Rattle.meaning.specs.Config.{Configured, Defined, empty_config}
use Rattle.meaning.specs.History.{History}
use Rattle.meaning.specs.Snap.{Snap}
use Rattle.meaning.proofs.TupleSets.{same_tuples}
use Rattle.config_text.specs.Reading.{Describes}
use Rattle.config_text.specs.Shape.{config_read}
use Rattle.config_text.specs.Texts.{RelationTexts, ConfigTexts}
use Rattle.config_text.specs.Spelling.{Spells, IsNamed, defined_texts, configured_texts}
use Rattle.config.specs.Causes.{Accepts}
use Rattle.rows.specs.Retained.{Retained}
use Rattle.sqlite_tables.specs.Tables.{Span, ConfigRow, Entry, Contents}
use Rattle.store.specs.Written.{TupleSpan, ConfigAt, Written, IsSpan, IsConfigAt, IsSound, IsWritten, Pairwise, is_alive, is_moved, tuples_of, event_at, events_at, config_at, commit_of, commit_at, commits_above, last_up_to, config_up_to, are_distinct, history_of, span_of, config_row_of, entries_of, entry, canonical, IsHistory}
use Rattle.store.proofs.Picking.{In, same_bool, found, any_in, all_in, pair_in}
use Rattle.store.proofs.Living.{is_of, contains_of}
use Rattle.store.proofs.Held.{last_below}
use Rattle.store.proofs.Following.{same_snap}
use Rattle.store.proofs.Spellings.{one_subject, ids, name_lacks}

-- ---- what a list has

in_from : {A : Type 0} (xs : List A) (x : A) → Contains xs x → In x xs
in_from [] x (k, small, e) = absurd (omega (arith, small))
in_from (y ∷ ys) x (zero, small, e) = inl (sym e)
in_from (y ∷ ys) x (suc k, small, e) = inr (in_from ys x (k, omega (arith, small), e))

has_from : {A : Type 0} (xs : List A) (x : A) → In x xs → Contains xs x
has_from [] x i = absurd i
has_from (y ∷ ys) x (inl e) = (0, omega arith, sym e)
has_from (y ∷ ys) x (inr i) = later (has_from ys x i)
  where
    later : Contains ys x → Contains (y ∷ ys) x
    later (k, small, e) = (suc k, omega (arith, small), e)

pub in_permuted : {A : Type 0} (xs ys : List A) (x : A) → IsPermutation xs ys → In x xs → In x ys
in_permuted xs ys x p i = in_from ys x (Contains-permutation xs ys x p (has_from xs x i))

pub in_map : {A B : Type 0} (f : A → B) (xs : List A) (x : A) → In x xs → In (f x) (map f xs)
in_map f [] x i = absurd i
in_map f (y ∷ ys) x (inl e) = inl (ap f e)
in_map f (y ∷ ys) x (inr i) = inr (in_map f ys x i)

pub in_unmap : {A B : Type 0} (f : A → B) (xs : List A) (y : B) → In y (map f xs) → (x : A) × In x xs × (y ≡ f x)
in_unmap f [] y i = absurd i
in_unmap f (x ∷ xs) y (inl e) = (x, inl refl, e)
in_unmap f (x ∷ xs) y (inr i) = let r = in_unmap f xs y i in (r.0, inr r.1, r.2)

pub any_both : {A : Type 0} (p : A → Bool) (xs ys : List A) → ((x : A) → In x xs → In x ys) → ((x : A) → In x ys → In x xs) → list_any p xs ≡ list_any p ys
any_both p xs ys f b = same_bool (list_any p xs) (list_any p ys)
    (λ h. let r = found p xs h in any_in p ys r.0 (f r.0 r.1) r.2)
    (λ h. let r = found p ys h in any_in p xs r.0 (b r.0 r.1) r.2)

-- ---- a text is of one configuration

map_once : {A B : Type 0} (f : A → B) (P : A → Type 0) → ((x y : A) → P x → P y → f x ≡ f y → x ≡ y) → (xs ys : List A) → All P xs → All P ys → map f xs ≡ map f ys → xs ≡ ys
map_once f P once [] [] p q e = refl
map_once f P once [] (y ∷ ys) p q e = cc
map_once f P once (x ∷ xs) [] p q e = cc
map_once {A = A} {B = B} f P once (x ∷ xs) (y ∷ ys) p q e = joined (once x y (All-head P x xs p) (All-head P y ys q) (head e)) (map_once f P once xs ys (All-tail P x xs p) (All-tail P y ys q) (tail e))
  where
    head : ◌≡◌ {A = List B} (f x ∷ map f xs) (f y ∷ map f ys) → f x ≡ f y
    head e = cc

    tail : ◌≡◌ {A = List B} (f x ∷ map f xs) (f y ∷ map f ys) → map f xs ≡ map f ys
    tail e = cc

    joined : x ≡ y → xs ≡ ys → ◌≡◌ {A = List A} (x ∷ xs) (y ∷ ys)
    joined a b = cc

one_type : (a b : SubjectType) → IsSubjectType a → IsSubjectType b → type_text a ≡ type_text b → a ≡ b
one_type a b p q e =
    let r = ids a.namespace b.namespace a.relation b.relation (name_lacks 35 refl a.namespace p.0) (name_lacks 35 refl b.namespace q.0) e in
    λ i. record { namespace = r.0 i; relation = r.1 i }

one_defined : (d e : Defined) → IsNamed d → IsNamed e → defined_texts d ≡ defined_texts e → d ≡ e
one_defined d e p q same =
    let types = map_once type_text IsSubjectType one_type d.types e.types p.1 q.1 (ap (λ (t : RelationTexts). t.types) same) in
    λ i. record { rel = record { namespace = (same i).namespace; relation = (same i).relation }; types = types i; form = (same i).form; indexed = (same i).indexed }

one_config : (texts : ConfigTexts) (c d : Configured) → Spells texts c → Spells texts d → c ≡ d
one_config texts c d p q =
    let same : configured_texts c ≡ configured_texts d = p.spelling ∙ sym q.spelling in
    let relations = map_once defined_texts IsNamed one_defined c.relations d.relations p.named.1 q.named.1 (ap (λ (t : ConfigTexts). t.relations) same) in
    λ i. record { namespaces = (same i).namespaces; relations = relations i }

pub one_some : {A : Type 0} (o : Option A) (a b : A) → o ≡ Some a → o ≡ Some b → a ≡ b
one_some o a b p q = cc

pub one_described : (bytes : List ℕ) (c d : Configured) → Describes bytes c → Describes bytes d → c ≡ d
one_described bytes c d p q =
    let data_is = one_some _ p.says.data_read q.says.data_read p.says.reads.reads q.says.reads.reads in
    let texts_is = one_some _ p.texts q.texts p.says.shape (ap config_read data_is ∙ q.says.shape) in
    one_config q.texts c d (subst (λ (t : ConfigTexts). Spells t c) texts_is p.spells) q.spells

-- ---- rows

one_span : (l m : TupleSpan) → IsTuple l.tuple → IsTuple m.tuple → span_of l ≡ span_of m → l ≡ m
one_span l m p q e =
    let subject = one_subject l.tuple.subject m.tuple.subject p.1 q.1 (ap (λ (s : Span). s.subject) e) in
    λ i. record { tuple = record { node = record { object = record { namespace = (e i).namespace; id = (e i).object }; relation = (e i).relation }; subject = subject i }; added = (e i).added; removed = (e i).removed }

one_config_row : (c d : ConfigAt) → Accepts (canonical c.config) c.config → Accepts (canonical d.config) d.config → config_row_of c ≡ config_row_of d → c ≡ d
one_config_row c d p q e =
    let describes : Describes (canonical d.config) c.config = subst (λ t. Describes t c.config) (ap (λ (x : ConfigRow). x.text) e) p.describes in
    let config = one_described (canonical d.config) c.config d.config describes q.describes in
    λ i. record { rev = (e i).rev; config = config i }

-- each row is what a row of a history may be
pub record HasRows (w : Written) : Type 0 where
  pub spans_are : All (IsSpan w.floor w.newest) w.spans
  pub configs_are : All (IsConfigAt w.newest) w.configs

pub rows_in : (w : Written) → IsSound w → HasRows w
rows_in w sound = record { spans_are = sound.spans_are; configs_are = sound.configs_are }

module _ (h : Contents) (v w : Written) (is_v : IsWritten h v) (is_w : IsWritten h w) (rows_v : HasRows v) (rows_w : HasRows w) where
  pub spans_in : (l : TupleSpan) → In l v.spans → In l w.spans
  spans_in l i = by_row (in_unmap span_of w.spans (span_of l) (in_permuted _ _ (span_of l) (IsPermutation-trans _ _ _ (IsPermutation-sym _ _ is_v.spans) is_w.spans) (in_map span_of v.spans l i)))
    where
      by_row : (m : TupleSpan) × In m w.spans × (span_of l ≡ span_of m) → In l w.spans
      by_row (m, j, e) = subst (λ x. In x w.spans)
          (sym (one_span l m (all_in (IsSpan v.floor v.newest) v.spans rows_v.spans_are l i).spelled (all_in (IsSpan w.floor w.newest) w.spans rows_w.spans_are m j).spelled e)) j

  pub configs_in : (c : ConfigAt) → In c v.configs → In c w.configs
  configs_in c i = by_row (in_unmap config_row_of w.configs (config_row_of c) (in_permuted _ _ (config_row_of c) (IsPermutation-trans _ _ _ (IsPermutation-sym _ _ is_v.configs) is_w.configs) (in_map config_row_of v.configs c i)))
    where
      by_row : (d : ConfigAt) × In d w.configs × (config_row_of c ≡ config_row_of d) → In c w.configs
      by_row (d, j, e) = subst (λ x. In x w.configs)
          (sym (one_config_row c d (all_in (IsConfigAt v.newest) v.configs rows_v.configs_are c i).valid (all_in (IsConfigAt w.newest) w.configs rows_w.configs_are d j).valid e)) j

  pub entries_in : (e : Entry) → In e (entries_of v) → In e (entries_of w)
  entries_in e i = in_permuted _ _ e (IsPermutation-trans _ _ _ (IsPermutation-sym _ _ is_v.entries) is_w.entries) i

-- an entry of the state with a key has the value of that key
value_at : (key : List ℕ) (e : Entry) (w : Written) → In e (entries_of w) → bytes_eq key e.key ≡ true → ((bytes_eq key (codes "floor") ≡ true) × (e.value ≡ w.floor)) ⊎ (((bytes_eq key (codes "format") ≡ true) × (e.value ≡ 1))
    ⊎ (((bytes_eq key (codes "newest") ≡ true) × (e.value ≡ w.newest)) ⊎ ((bytes_eq key (codes "store") ≡ true) × (e.value ≡ w.number))))
value_at key e w (inl x) k = inl (ap (λ (y : Entry). bytes_eq key y.key) (sym x) ∙ k, ap (λ (y : Entry). y.value) x)
value_at key e w (inr (inl x)) k = inr (inl (ap (λ (y : Entry). bytes_eq key y.key) (sym x) ∙ k, ap (λ (y : Entry). y.value) x))
value_at key e w (inr (inr (inl x))) k = inr (inr (inl (ap (λ (y : Entry). bytes_eq key y.key) (sym x) ∙ k, ap (λ (y : Entry). y.value) x)))
value_at key e w (inr (inr (inr (inl x)))) k = inr (inr (inr (ap (λ (y : Entry). bytes_eq key y.key) (sym x) ∙ k, ap (λ (y : Entry). y.value) x)))
value_at key e w (inr (inr (inr (inr i)))) k = absurd i

pub floor_is : (n : ℕ) (w : Written) → In (entry (codes "floor") n) (entries_of w) → n ≡ w.floor
floor_is n w i = by_value (value_at (codes "floor") (entry (codes "floor") n) w i refl)
  where
    by_value : ((bytes_eq (codes "floor") (codes "floor") ≡ true) × (n ≡ w.floor)) ⊎ (((bytes_eq (codes "floor") (codes "format") ≡ true) × (n ≡ 1))
        ⊎ (((bytes_eq (codes "floor") (codes "newest") ≡ true) × (n ≡ w.newest)) ⊎ ((bytes_eq (codes "floor") (codes "store") ≡ true) × (n ≡ w.number)))) → n ≡ w.floor
    by_value (inl x) = x.1
    by_value (inr (inl x)) = absurd (true≢false (sym x.0))
    by_value (inr (inr (inl x))) = absurd (true≢false (sym x.0))
    by_value (inr (inr (inr x))) = absurd (true≢false (sym x.0))

pub newest_is : (n : ℕ) (w : Written) → In (entry (codes "newest") n) (entries_of w) → n ≡ w.newest
newest_is n w i = by_value (value_at (codes "newest") (entry (codes "newest") n) w i refl)
  where
    by_value : ((bytes_eq (codes "newest") (codes "floor") ≡ true) × (n ≡ w.floor)) ⊎ (((bytes_eq (codes "newest") (codes "format") ≡ true) × (n ≡ 1))
        ⊎ (((bytes_eq (codes "newest") (codes "newest") ≡ true) × (n ≡ w.newest)) ⊎ ((bytes_eq (codes "newest") (codes "store") ≡ true) × (n ≡ w.number)))) → n ≡ w.newest
    by_value (inl x) = absurd (true≢false (sym x.0))
    by_value (inr (inl x)) = absurd (true≢false (sym x.0))
    by_value (inr (inr (inl x))) = x.1
    by_value (inr (inr (inr x))) = absurd (true≢false (sym x.0))

pub number_is : (n : ℕ) (w : Written) → In (entry (codes "store") n) (entries_of w) → n ≡ w.number
number_is n w i = by_value (value_at (codes "store") (entry (codes "store") n) w i refl)
  where
    by_value : ((bytes_eq (codes "store") (codes "floor") ≡ true) × (n ≡ w.floor)) ⊎ (((bytes_eq (codes "store") (codes "format") ≡ true) × (n ≡ 1))
        ⊎ (((bytes_eq (codes "store") (codes "newest") ≡ true) × (n ≡ w.newest)) ⊎ ((bytes_eq (codes "store") (codes "store") ≡ true) × (n ≡ w.number)))) → n ≡ w.number
    by_value (inl x) = absurd (true≢false (sym x.0))
    by_value (inr (inl x)) = absurd (true≢false (sym x.0))
    by_value (inr (inr (inl x))) = absurd (true≢false (sym x.0))
    by_value (inr (inr (inr x))) = x.1

-- ---- configurations by revision

-- no two are of one revision
pub distinct_revs : (floor : ℕ) (cs : List ConfigAt) → Pairwise (are_distinct floor) cs → (c d : ConfigAt) → In c cs → In d cs → c.rev ≡ d.rev → c ≡ d
distinct_revs floor cs apart c d i j same = by_pair (pair_in (are_distinct floor) both cs apart c d i j)
  where
    turned : (x y : Bool) → (x || y) ≡ (y || x)
    turned true true = refl
    turned true false = refl
    turned false true = refl
    turned false false = refl

    swapped : (m n : ℕ) → (m == n) ≡ (n == m)
    swapped m n = same_bool (m == n) (n == m) (λ h. eq-eqb n m (sym (eqb-true m n h))) (λ h. eq-eqb m n (sym (eqb-true n m h)))

    both : (x y : ConfigAt) → are_distinct floor x y ≡ are_distinct floor y x
    both x y = ap (λ b. cond b false (nat_lt floor x.rev || nat_lt floor y.rev)) (swapped x.rev y.rev) ∙ ap (λ b. cond (y.rev == x.rev) false b) (turned (nat_lt floor x.rev) (nat_lt floor y.rev))

    by_pair : (c ≡ d) ⊎ (are_distinct floor c d ≡ true) → c ≡ d
    by_pair (inl e) = e
    by_pair (inr e) = absurd (true≢false (sym e ∙ ap (λ b. cond b false (nat_lt floor c.rev || nat_lt floor d.rev)) (eq-eqb c.rev d.rev same)))

pub at_in : (at : ℕ) (cs : List ConfigAt) (x : Configured) → config_at at cs ≡ Some x → (c : ConfigAt) × In c cs × (c.rev ≡ at) × (c.config ≡ x)
at_in at [] x h = cc
at_in at (c ∷ cs) x h = by_here (c.rev == at) refl h (at_in at cs x)
  where
    by_here : (b : Bool) → (c.rev == at) ≡ b → cond b (Some c.config) (config_at at cs) ≡ Some x → (config_at at cs ≡ Some x → (d : ConfigAt) × In d cs × (d.rev ≡ at) × (d.config ≡ x)) → (d : ConfigAt) × In d (c ∷ cs) × (d.rev ≡ at) × (d.config ≡ x)
    by_here true e h rest = (c, inl refl, eqb-true c.rev at e, cc)
    by_here false e h rest = let r = rest h in (r.0, inr r.1, r.2, r.3)

pub at_none : (at : ℕ) (cs : List ConfigAt) → config_at at cs ≡ None → (c : ConfigAt) → In c cs → c.rev ≡ at → ⊥
at_none at [] h c i = absurd i
at_none at (d ∷ cs) h c i = by_here (d.rev == at) refl h i (at_none at cs)
  where
    by_here : (b : Bool) → (d.rev == at) ≡ b → cond b (Some d.config) (config_at at cs) ≡ None → (c ≡ d) ⊎ In c cs → (config_at at cs ≡ None → (c : ConfigAt) → In c cs → c.rev ≡ at → ⊥) → c.rev ≡ at → ⊥
    by_here true e h i rest same = cc
    by_here false e h (inl x) rest same = eqb-false d.rev at e (ap (λ (y : ConfigAt). y.rev) (sym x) ∙ same)
    by_here false e h (inr j) rest same = rest h c j same

pub same_at : (floor at : ℕ) (cs ds : List ConfigAt) → Pairwise (are_distinct floor) ds → ((c : ConfigAt) → In c cs → In c ds) → ((c : ConfigAt) → In c ds → In c cs) → config_at at cs ≡ config_at at ds
same_at floor at cs ds apart f b = by_both (config_at at cs) refl (config_at at ds) refl
  where
    by_both : (o : Option Configured) → config_at at cs ≡ o → (p : Option Configured) → config_at at ds ≡ p → o ≡ p
    by_both None e None g = refl
    by_both None e (Some y) g = let r = at_in at ds y g in absurd (at_none at cs e r.0 (b r.0 r.1) r.2)
    by_both (Some x) e None g = let r = at_in at cs x e in absurd (at_none at ds g r.0 (f r.0 r.1) r.2)
    by_both (Some x) e (Some y) g =
        let r = at_in at cs x e in let s = at_in at ds y g in
        let one = distinct_revs floor ds apart r.0 s.0 (f r.0 r.1) s.1 (r.2 ∙ sym s.2) in
        ap (λ n. Some n) (sym r.3 ∙ ap (λ (c : ConfigAt). c.config) one ∙ s.3)

abbrev pub unset : ConfigAt
unset = record { rev = 0; config = empty_config }

pub last_in : (at : ℕ) (cs : List ConfigAt) → In (last_up_to at cs) cs ⊎ (last_up_to at cs ≡ unset)
last_in at [] = inr refl
last_in at (c ∷ cs) = by_test (nat_le c.rev at && nat_lt (last_up_to at cs).rev c.rev) (last_in at cs)
  where
    by_test : (b : Bool) → In (last_up_to at cs) cs ⊎ (last_up_to at cs ≡ unset) → In (cond b c (last_up_to at cs)) (c ∷ cs) ⊎ (cond b c (last_up_to at cs) ≡ unset)
    by_test true rest = inl (inl refl)
    by_test false (inl i) = inl (inr i)
    by_test false (inr e) = inr e

pub last_most : (at : ℕ) (cs : List ConfigAt) (c : ConfigAt) → In c cs → c.rev ≤ at → c.rev ≤ (last_up_to at cs).rev
last_most at [] c i low = absurd i
last_most at (d ∷ cs) c i low = by_first (nat_le d.rev at) refl (nat_lt (last_up_to at cs).rev d.rev) refl i (last_most at cs c)
  where
    by_first : (a : Bool) → nat_le d.rev at ≡ a → (b : Bool) → nat_lt (last_up_to at cs).rev d.rev ≡ b → (c ≡ d) ⊎ In c cs → (In c cs → c.rev ≤ at → c.rev ≤ (last_up_to at cs).rev) → c.rev ≤ (cond (a && b) d (last_up_to at cs)).rev
    by_first true e true f (inl x) rest = let y = ap (λ (z : ConfigAt). z.rev) x in omega (arith, y)
    by_first true e true f (inr j) rest = let y = rest j low in let z = ltb-true (last_up_to at cs).rev d.rev f in omega (arith, y, z)
    by_first true e false f (inl x) rest = let y = ap (λ (z : ConfigAt). z.rev) x in let z = ltb-false (last_up_to at cs).rev d.rev f in omega (arith, y, z)
    by_first true e false f (inr j) rest = rest j low
    by_first false e b f (inl x) rest = let y = ap (λ (z : ConfigAt). z.rev) x in absurd (true≢false (sym (le-leb d.rev at (omega (arith, y, low))) ∙ e))
    by_first false e b f (inr j) rest = rest j low

pub same_last : (floor at : ℕ) (cs ds : List ConfigAt) → Pairwise (are_distinct floor) ds → ((c : ConfigAt) → In c cs → In c ds) → ((c : ConfigAt) → In c ds → In c cs)
    → ((c : ConfigAt) → In c ds → 0 < c.rev) → last_up_to at cs ≡ last_up_to at ds
same_last floor at cs ds apart f b some = by_both (last_in at cs) (last_in at ds)
  where
    by_both : In (last_up_to at cs) cs ⊎ (last_up_to at cs ≡ unset) → In (last_up_to at ds) ds ⊎ (last_up_to at ds ≡ unset) → last_up_to at cs ≡ last_up_to at ds
    by_both (inl i) (inl j) =
        let x = last_most at ds (last_up_to at cs) (f _ i) (last_below at cs) in let y = last_most at cs (last_up_to at ds) (b _ j) (last_below at ds) in
        distinct_revs floor ds apart (last_up_to at cs) (last_up_to at ds) (f _ i) j (omega (arith, x, y))
    by_both (inl i) (inr e) =
        let x = last_most at ds (last_up_to at cs) (f _ i) (last_below at cs) in let y = some (last_up_to at cs) (f _ i) in let z = ap (λ (r : ConfigAt). r.rev) e in absurd (omega (arith, x, y, z))
    by_both (inr e) (inl j) =
        let x = last_most at cs (last_up_to at ds) (b _ j) (last_below at ds) in let y = some (last_up_to at ds) j in let z = ap (λ (r : ConfigAt). r.rev) e in absurd (omega (arith, x, y, z))
    by_both (inr e) (inr g) = e ∙ sym g

-- ---- histories

module _ (v w : Written) (f : (l : TupleSpan) → In l v.spans → In l w.spans) (b : (l : TupleSpan) → In l w.spans → In l v.spans) where
  same_set : (test : TupleSpan → Bool) → tuples_of test v.spans ≡ tuples_of test w.spans
  same_set test = same_tuples _ _ (λ q. contains_of test v.spans q ∙ any_both (is_of q test) v.spans w.spans f b ∙ sym (contains_of test w.spans q))

  same_events : (at : ℕ) → events_at at v.spans ≡ events_at at w.spans
  same_events at = ap (λ s. map (event_at at v.spans) (set.items s)) (same_set (is_moved at)) ∙ map_same (set.items (tuples_of (is_moved at) w.spans))
    where
      map_same : (ts : List Tuple) → map (event_at at v.spans) ts ≡ map (event_at at w.spans) ts
      map_same [] = refl
      map_same (t ∷ ts) =
          ap (λ c. record { tuple = t; kind = cond c Put Del } ∷ map (event_at at v.spans) ts) (any_both (λ l. is_same_tuple t l.tuple && (l.added == at)) v.spans w.spans f b)
          ∙ ap (λ xs. event_at at w.spans t ∷ xs) (map_same ts)

same_commits : (v w : Written) (n rev : ℕ) → ((at : ℕ) → commit_at v at ≡ commit_at w at) → commits_above v rev n ≡ commits_above w rev n
same_commits v w zero rev same = refl
same_commits v w (suc n) rev same = ap (λ c. c ∷ commits_above v (rev + 1) n) (same (rev + 1)) ∙ ap (λ h. commit_at w (rev + 1) ∷ h) (same_commits v w n (rev + 1) same)

whole_history : (a b c d : ℕ) (s t : Snap) (h k : History) → a ≡ b → c ≡ d → s ≡ t → h ≡ k
    → ◌≡◌ {A = Retained} (record { number = a; floor = c; base = s; commits = h }) (record { number = b; floor = d; base = t; commits = k })
whole_history a b c d s t h k p q r e = cc

-- rows are one history at most
pub history_once : (h : Contents) (v w : Written) → IsWritten h v → HasRows v → IsWritten h w → IsSound w → history_of v ≡ history_of w
history_once h v w is_v rows_v is_w sound_w =
    let rows_w = rows_in w sound_w in
    let f = spans_in h v w is_v is_w rows_v rows_w in let b = spans_in h w v is_w is_v rows_w rows_v in
    let cf = configs_in h v w is_v is_w rows_v rows_w in let cb = configs_in h w v is_w is_v rows_w rows_v in
    let entries = entries_in h v w is_v is_w rows_v rows_w in
    let floor : v.floor ≡ w.floor = floor_is v.floor w (entries _ (inl refl)) in
    let newest : v.newest ≡ w.newest = newest_is v.newest w (entries _ (inr (inr (inl refl)))) in
    let number : v.number ≡ w.number = number_is v.number w (entries _ (inr (inr (inr (inl refl))))) in
    let last = λ (at : ℕ). same_last w.floor at v.configs w.configs sound_w.distinct cf cb (λ c i. (all_in (IsConfigAt w.newest) w.configs sound_w.configs_are c i).begins) in
    whole_history v.number w.number v.floor w.floor _ _ _ _ number floor
    (same_snap _ _ _ _ (ap (λ (c : ConfigAt). c.config) (last v.floor) ∙ ap (λ n. config_up_to n w.configs) floor) (same_set v w f b (is_alive v.floor) ∙ ap (λ n. tuples_of (is_alive n) w.spans) floor))
    (same_commits v w (v.newest - v.floor) v.floor (λ at. ap (λ o. commit_of o (events_at at v.spans)) (same_at w.floor at v.configs w.configs sound_w.distinct cf cb) ∙ ap (commit_of (config_at at w.configs)) (same_events v w f b at))
    ∙ ap (λ n. commits_above w n (v.newest - n)) floor ∙ ap (λ n. commits_above w w.floor (n - w.floor)) newest)

pub history_same : (h : Contents) (r q : Retained) → IsHistory h r → IsHistory h q → r ≡ q
history_same h r q (v, is_v, sound_v, e) (w, is_w, sound_w, f) = sym e ∙ history_once h v w is_v (rows_in v sound_v) is_w sound_w ∙ f
