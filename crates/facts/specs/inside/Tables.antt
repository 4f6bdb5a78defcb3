-- Tables of names that grow.
use Rattle.std.proofs.Common.{ℕ, zero, suc, ◌≡◌, ◌≤◌, ◌<◌, Bool, true, false, ◌||◌, nat_eq, List, [], ◌∷◌, ◌++◌, length, get_or, refl, sym, ◌∙◌, ap, subst, arith, ⊎_elim, ◌⊎◌, append_assoc, append-nil, length-append}
use Rattle.std.specs.Prelude.{◌↔◌, Some}
use Rattle.std.specs.List.{slice_get}
use Rattle.std.proofs.lemmas.Bool.{or_cases, or_left, or_right, cases_lt, false≢true, eqb-true, eq-eqb}
use Rattle.std.proofs.lemmas.Option.{none-some, same_Some, slice_get_within, slice_get-get_or, get_or_from_slice_get}
use Rattle.names.specs.declared.object.Object.{Object}
use Rattle.names.specs.declared.node.Node.{Node}
use Rattle.idsets.specs.Naming.{AreDistinct}
use Rattle.idsets.proofs.Numbering.{front_get}
use Rattle.least_sets.specs.World.{has}
use Rattle.least_sets.proofs.Gives.{has-append}
use Rattle.graphs.specs.Graph.{AreIdsOf}
use Rattle.facts.specs.Numbers.{Grew, AreNumbersOf, longer, fresh, user_at, node_at}

or_last : (b : Bool) → (b || false) ≡ b
or_last true = refl
or_last false = refl

pub has_push : (xs : List ℕ) (x n : ℕ) → has (xs ++ x ∷ []) n ≡ (has xs n || nat_eq n x)
has_push xs x n = has-append xs (x ∷ []) n ∙ ap (λ b. has xs n || b) (or_last (nat_eq n x))

module _ {N : Type 0} where
  pub grew_none : (a : List N) → Grew a a
  grew_none a = ([], sym (append-nil a))

  pub grew_both : (a b c : List N) → Grew a b → Grew b c → Grew a c
  grew_both a b c f g = (f.0 ++ g.0, g.1 ∙ ap (λ xs. xs ++ g.0) f.1 ∙ append_assoc a f.0 g.0)

  pub grew_get : (a b : List N) (i : ℕ) (n : N) → Grew a b → slice_get a i ≡ Some n → slice_get b i ≡ Some n
  grew_get a b i n g h = ap (λ xs. slice_get xs i) g.1 ∙ front_get a g.0 i n h

  pub grew_longer : (a b : List N) → Grew a b → length a ≤ length b
  grew_longer a b g = omega (arith, ap (λ (xs : List N). length xs) g.1, length-append a g.0)

  pub numbers_none : (table : List N) (ids : List ℕ) (P : N → Type 0) → ids ≡ [] → ((n : N) → P n → ⊥) → AreNumbersOf table ids P
  numbers_none table ids P e f = record {
    sound = λ i h. absurd (false≢true (ap (λ xs. has xs i) (sym e) ∙ h));
    complete = λ n p. absurd (f n p);
  }

  pub numbers_keep : (a b : List N) (ids : List ℕ) (P Q : N → Type 0) → Grew a b → ((n : N) → P n ↔ Q n) → AreNumbersOf a ids P → AreNumbersOf b ids Q
  numbers_keep a b ids P Q g f are = record {
    sound = λ i h. let s = are.sound i h in (s.0, (f s.0).0 s.1, grew_get a b i s.0 g s.2);
    complete = λ n q. let s = are.complete n ((f n).1 q) in (s.0, s.1, grew_get a b s.0 n g s.2);
  }

  pub numbers_push : (a b : List N) (ids : List ℕ) (id : ℕ) (n : N) (P Q : N → Type 0) → Grew a b → AreNumbersOf a ids P → slice_get b id ≡ Some n → Q n
      → ((m : N) → P m → Q m) → ((m : N) → Q m → P m ⊎ (m ≡ n)) → AreNumbersOf b (ids ++ id ∷ []) Q
  numbers_push a b ids id n P Q g are at q there back = record {
    sound = λ i h. ⊎_elim
        (λ f. let s = are.sound i f in (s.0, there s.0 s.1, grew_get a b i s.0 g s.2))
        (λ f. (n, q, ap (slice_get b) (eqb-true i id f) ∙ at))
        (or_cases (has ids i) (nat_eq i id) (sym (has_push ids id i) ∙ h));
    complete = λ m r. ⊎_elim
        (λ p. let s = are.complete m p in (s.0, has_push ids id s.0 ∙ or_left (has ids s.0) (nat_eq s.0 id) s.1, grew_get a b s.0 m g s.2))
        (λ e. (id, has_push ids id id ∙ or_right (has ids id) (nat_eq id id) (eq-eqb id id refl), at ∙ ap (λ x. Some x) (sym e)))
        (back m r);
  }

  pub numbers_within : (table : List N) (ids : List ℕ) (P : N → Type 0) → AreNumbersOf table ids P → (i : ℕ) → has ids i ≡ true → i < length table
  numbers_within table ids P are i h = let s = are.sound i h in slice_get_within table i s.0 s.2

pub node_is : (nodes : List Node) (i : ℕ) (n : Node) → slice_get nodes i ≡ Some n → node_at nodes i ≡ n
node_is nodes i n h = get_or_from_slice_get nodes i n (record { object = record { namespace = []; id = [] }; relation = [] }) h

pub user_is : (users : List Object) (i : ℕ) (u : Object) → slice_get users i ≡ Some u → user_at users i ≡ u
user_is users i u h = get_or_from_slice_get users i u (fresh users) h

pub node_got : (nodes : List Node) (i : ℕ) → i < length nodes → slice_get nodes i ≡ Some (node_at nodes i)
node_got nodes i lt = slice_get-get_or nodes i (record { object = record { namespace = []; id = [] }; relation = [] }) lt

pub user_got : (users : List Object) (i : ℕ) → i < length users → slice_get users i ≡ Some (user_at users i)
user_got users i lt = slice_get-get_or users i (fresh users) lt

pub node_same : (a b : List Node) (i : ℕ) → Grew a b → i < length a → node_at a i ≡ node_at b i
node_same a b i g lt = sym (node_is b i (node_at a i) (grew_get a b i (node_at a i) g (node_got a i lt)))

pub user_same : (a b : List Object) (i : ℕ) → Grew a b → i < length a → user_at a i ≡ user_at b i
user_same a b i g lt = sym (user_is b i (user_at a i) (grew_get a b i (user_at a i) g (user_got a i lt)))

pub ids_of : (nodes : List Node) (ids : List ℕ) (P : Node → Type 0) → AreNumbersOf nodes ids P → AreIdsOf (node_at nodes) ids P
ids_of nodes ids P are = record {
  sound = λ i h. let s = are.sound i h in subst P (sym (node_is nodes i s.0 s.2)) s.1;
  complete = λ m p. let s = are.complete m p in (s.0, s.1, node_is nodes s.0 m s.2);
}

-- an object that has no number has none
shorter : (users : List Object) (j : ℕ) (u : Object) → slice_get users j ≡ Some u → length u.id < length (longer users)
shorter [] j u h = absurd (none-some u h)
shorter (o ∷ os) zero u h =
    let e : o ≡ u = same_Some o u h in
    let l : length o.id ≡ length u.id = ap (λ (x : Object). length x.id) e in
    omega (arith, l, length-append o.id (longer os))
shorter (o ∷ os) (suc j) u h =
    let l = shorter os j u h in
    omega (arith, l, length-append o.id (longer os))

pub fresh_none : (users : List Object) (j : ℕ) → slice_get users j ≡ Some (fresh users) → ⊥
fresh_none users j h = let l = shorter users j (fresh users) h in absurd (omega (arith, l))

-- past its end a table has no user
pub past_none : (users : List Object) (u j : ℕ) → length users ≤ u → slice_get users j ≡ Some (user_at users u) → ⊥
past_none users u j le h = fresh_none users j (h ∙ ap (λ x. Some x) (past users u le (fresh users)))
  where
    past : (xs : List Object) (i : ℕ) → length xs ≤ i → (d : Object) → get_or xs i d ≡ d
    past [] i l d = refl
    past (x ∷ xs) zero l d = absurd (omega arith)
    past (x ∷ xs) (suc i) l d = past xs i (omega arith) d

-- a user that had a number has no other
pub number_below : (a b : List Object) (u j : ℕ) → AreDistinct b → Grew a b → slice_get a j ≡ Some (user_at b u) → u < length a
number_below a b u j distinct g h = ⊎_elim
    (λ lt. lt)
    (λ le. absurd (⊎_elim
    (λ lt. let same : u ≡ j = distinct u j (user_at b u) (user_got b u lt) (grew_get a b j (user_at b u) g h) in
    let below : j < length a = slice_get_within a j (user_at b u) h in
    absurd (omega (arith, same, below, le)))
    (λ ge. past_none b u j ge (grew_get a b j (user_at b u) g h))
    (cases_lt u (length b))))
    (cases_lt u (length a))
