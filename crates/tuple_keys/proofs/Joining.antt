-- Lists of bytes joined by spaces, which are below every byte of the parts.
use Rattle.std.proofs.Common.{◌≡◌, ℕ, ◌==◌, ◌++◌, ◌<◌, Bool, true, false, IsTrue, List, [], ◌∷◌, Option, Some, None, nat_lt, nat_cmp, refl, sym, ap, ap₂, ◌∙◌, arith, append-nil, Ordering, Less, Equal, Greater}
use Rattle.std.specs.List.{list_all}
use Rattle.std.specs.Option.{option_cmp}
use Rattle.std.specs.Ordering.{ordering_then}
use Rattle.std.specs.Cmp.Lexicographic.{slice_cmp}
use Rattle.std.proofs.lemmas.Bool.{and_parts}
use Rattle.names.specs.Names.{is_name, is_id, is_name_byte, is_id_byte}
use Rattle.tuple_keys.specs.Spelled.{spelled_relation, before_space, has, last_part}
use Rattle.tuple_keys.proofs.Parts.{Lacks, before_joined, after_joined, has_joined, before_alone}

-- a space is below the byte
abbrev is_above : ℕ → Bool
is_above b = nat_lt 32 b

-- each byte is above a space
pub record Above (xs : List ℕ) : Type 0 where
  pub all : list_all is_above xs ≡ true

first : (x : ℕ) (xs : List ℕ) → Above (x ∷ xs) → 32 < x
first x xs a = let h = (and_parts (is_above x) (list_all is_above xs) a.all).0 in grind arith

rest : (x : ℕ) (xs : List ℕ) → Above (x ∷ xs) → Above xs
rest x xs a = record { all = (and_parts (is_above x) (list_all is_above xs) a.all).1 }

-- ---- names and ids

all_above : (p : ℕ → Bool) → ((b : ℕ) → p b ≡ true → is_above b ≡ true) → (xs : List ℕ) → list_all p xs ≡ true → list_all is_above xs ≡ true
all_above p above [] h = refl
all_above p above (x ∷ xs) h =
    let parts = and_parts (p x) (list_all p xs) h in
    let here : is_above x ≡ true = above x parts.0 in
    rw here (all_above p above xs parts.1)

name_byte_above : (b : ℕ) → is_name_byte b ≡ true → is_above b ≡ true
name_byte_above b h = grind arith

id_byte_above : (b : ℕ) → is_id_byte b ≡ true → is_above b ≡ true
id_byte_above b h = grind arith

name_bytes : (xs : List ℕ) → IsTrue (is_name xs) → list_all is_name_byte xs ≡ true
name_bytes xs h = grind arith

id_bytes : (xs : List ℕ) → IsTrue (is_id xs) → list_all is_id_byte xs ≡ true
id_bytes xs h = grind arith

pub name_above : (xs : List ℕ) → IsTrue (is_name xs) → Above xs
name_above xs h = record { all = all_above is_name_byte name_byte_above xs (name_bytes xs h) }

pub id_above : (xs : List ℕ) → IsTrue (is_id xs) → Above xs
id_above xs h = record { all = all_above is_id_byte id_byte_above xs (id_bytes xs h) }

-- ---- the parts of a joined list

no_space_above : (xs : List ℕ) → Above xs → has 32 xs ≡ false
no_space_above [] a = refl
no_space_above (x ∷ xs) a =
    let h = first x xs a in
    let other : (x == 32) ≡ false = grind arith in
    rw other (no_space_above xs (rest x xs a))

pub above_lacks : (xs : List ℕ) → Above xs → Lacks 32 xs
above_lacks xs a = record { none = no_space_above xs a }

pub last_joined : (xs s : List ℕ) → Lacks 32 xs → last_part (xs ++ 32 ∷ s) ≡ Some s
last_joined xs s a = rw (has_joined 32 xs s a) (ap Some (after_joined 32 xs s a))

pub last_alone : (xs : List ℕ) → Lacks 32 xs → last_part xs ≡ None
last_alone xs a = rw a.none refl

pub before_last : (xs : List ℕ) (relation : Option (List ℕ)) → Lacks 32 xs → before_space (xs ++ spelled_relation relation) ≡ xs
before_last xs None a = rw append-nil (before_alone 32 xs a)
before_last xs (Some r) a = before_joined 32 xs r a

pub relation_last : (xs : List ℕ) (relation : Option (List ℕ)) → Lacks 32 xs → last_part (xs ++ spelled_relation relation) ≡ relation
relation_last xs None a = ap last_part (append-nil xs) ∙ last_alone xs a
relation_last xs (Some r) a = last_joined xs r a

-- ---- their order

pub then_associates : (a b c : Ordering) → ordering_then (ordering_then a b) c ≡ ordering_then a (ordering_then b c)
then_associates Less b c = refl
then_associates Equal b c = refl
then_associates Greater b c = refl

then_equal : (a : Ordering) → ordering_then a Equal ≡ a
then_equal Less = refl
then_equal Equal = refl
then_equal Greater = refl

space_before : (y : ℕ) → 32 < y → nat_cmp 32 y ≡ Less
space_before y h = grind arith

space_after : (x : ℕ) → 32 < x → nat_cmp x 32 ≡ Greater
space_after x h = grind arith

pub joined_order : (xs ys s t : List ℕ) → Above xs → Above ys → slice_cmp nat_cmp (xs ++ 32 ∷ s) (ys ++ 32 ∷ t) ≡ ordering_then (slice_cmp nat_cmp xs ys) (slice_cmp nat_cmp s t)
joined_order [] [] s t a b = refl
joined_order [] (y ∷ ys) s t a b = ap (λ o. ordering_then o (slice_cmp nat_cmp s (ys ++ 32 ∷ t))) (space_before y (first y ys b))
joined_order (x ∷ xs) [] s t a b = ap (λ o. ordering_then o (slice_cmp nat_cmp (xs ++ 32 ∷ s) t)) (space_after x (first x xs a))
joined_order (x ∷ xs) (y ∷ ys) s t a b =
    ap (ordering_then (nat_cmp x y)) (joined_order xs ys s t (rest x xs a) (rest y ys b)) ∙ sym (then_associates (nat_cmp x y) (slice_cmp nat_cmp xs ys) (slice_cmp nat_cmp s t))

-- where one of the two ends
before_order : (xs ys t : List ℕ) → Above xs → Above ys → slice_cmp nat_cmp xs (ys ++ 32 ∷ t) ≡ ordering_then (slice_cmp nat_cmp xs ys) Less
before_order [] [] t a b = refl
before_order [] (y ∷ ys) t a b = refl
before_order (x ∷ xs) [] t a b = ap (λ o. ordering_then o (slice_cmp nat_cmp xs t)) (space_after x (first x xs a))
before_order (x ∷ xs) (y ∷ ys) t a b =
    ap (ordering_then (nat_cmp x y)) (before_order xs ys t (rest x xs a) (rest y ys b)) ∙ sym (then_associates (nat_cmp x y) (slice_cmp nat_cmp xs ys) Less)

after_order : (xs ys s : List ℕ) → Above xs → Above ys → slice_cmp nat_cmp (xs ++ 32 ∷ s) ys ≡ ordering_then (slice_cmp nat_cmp xs ys) Greater
after_order [] [] s a b = refl
after_order [] (y ∷ ys) s a b = ap (λ o. ordering_then o (slice_cmp nat_cmp s ys)) (space_before y (first y ys b))
after_order (x ∷ xs) [] s a b = refl
after_order (x ∷ xs) (y ∷ ys) s a b =
    ap (ordering_then (nat_cmp x y)) (after_order xs ys s (rest x xs a) (rest y ys b)) ∙ sym (then_associates (nat_cmp x y) (slice_cmp nat_cmp xs ys) Greater)

pub last_order : (xs ys : List ℕ) (r q : Option (List ℕ)) → Above xs → Above ys
    → slice_cmp nat_cmp (xs ++ spelled_relation r) (ys ++ spelled_relation q) ≡ ordering_then (slice_cmp nat_cmp xs ys) (option_cmp (slice_cmp nat_cmp) r q)
last_order xs ys None None a b = ap₂ (slice_cmp nat_cmp) (append-nil xs) (append-nil ys) ∙ sym (then_equal (slice_cmp nat_cmp xs ys))
last_order xs ys None (Some q) a b = ap (λ l. slice_cmp nat_cmp l (ys ++ 32 ∷ q)) (append-nil xs) ∙ before_order xs ys q a b
last_order xs ys (Some r) None a b = ap (λ l. slice_cmp nat_cmp (xs ++ 32 ∷ r) l) (append-nil ys) ∙ after_order xs ys r a b
last_order xs ys (Some r) (Some q) a b = joined_order xs ys r q a b
