-- What is read of tuples, one by one.
use Rattle.std.proofs.Common.{ℕ, ◌≡◌, ◌≤◌, ◌<◌, ◌+◌, nat_lt, List, [], ◌∷◌, ◌++◌, take, length, get_or, sym, ◌∙◌, ap, subst, ⊎_elim, inl, inr, append-nil}
use Rattle.std.specs.Global.{Global}
use Rattle.std.specs.Prelude.{◌↔◌, Vec, Contains, Option, Some, None, Result, Ok, Err, IfOk, OnErr, filter, if◌then◌else◌}
use Rattle.std.specs.List.{slice_get, filter_map}
use Rattle.std.proofs.lemmas.Bool.{cases_Bool}
use Rattle.std.proofs.lemmas.List.{take_more, take_all}
use Rattle.std.proofs.lemmas.List.Elements.{Contains-push_cases, filter_map-append}
use Rattle.names.specs.declared.object.Object.{Object}
use Rattle.names.specs.declared.node.Node.{Node}
use Rattle.names.specs.declared.tuple.Tuple.{Tuple}
use Rattle.meaning.specs.Snap.{Snap, one, set_of}
use Rattle.meaning.specs.TupleSet as set
use Rattle.meaning.specs.Config.{Configured, Has, rel_of}
use Rattle.meaning.specs.Membership.{HasOne, HasSet}
use Rattle.meaning.proofs.Lists.{contains_here, contains_there, contains_cases, contains_none}
use Rattle.config.specs.Places.{StandsAt}
use Rattle.versions.specs.Named.{objects_in, nodes_in}
use Rattle.tuple_keys.specs.Named.{is_of, object_in, node_in}
use Rattle.rows.proofs.Naming.{of_node, is_of_itself, named_object, object_named, named_node, node_named}
use Rattle.graphs.specs.Graph.{IsTupleTo}
use Rattle.facts.specs.Numbers.{Grew, AreNumbersOf}
use Rattle.facts.specs.Telling.{IsComputedOf}
use Rattle.facts.specs.inside.Tables.{numbers_keep, numbers_push}

-- a name gets the next number where it had none
pub see_grew : {N E : Type 0} (old new : List N) (n : N) (r : Result ℕ E) → IfOk r (λ id. new ≡ (if nat_lt id (length old) then old else old ++ n ∷ [])) → OnErr r (new ≡ old) → Grew old new
see_grew old new n (Ok id) ok err = ⊎_elim
    (λ h. ([], ok ∙ ap (λ b. if b then old else old ++ n ∷ []) h ∙ sym (append-nil old)))
    (λ h. (n ∷ [], ok ∙ ap (λ b. if b then old else old ++ n ∷ []) h))
    (cases_Bool (nat_lt id (length old)))
see_grew old new n (Err e) ok err = ([], err ∙ sym (append-nil old))

pub in_left : {A : Type 0} (xs ys : List A) (x : A) → Contains xs x → Contains (xs ++ ys) x
in_left [] ys x c = absurd (contains_none x c)
in_left (y ∷ xs) ys x c = ⊎_elim (λ e. subst (λ z. Contains (y ∷ xs ++ ys) z) e (contains_here y (xs ++ ys))) (λ d. contains_there y x (xs ++ ys) (in_left xs ys x d)) (contains_cases y x xs c)

pub in_last : {A : Type 0} (xs : List A) (x : A) → Contains (xs ++ x ∷ []) x
in_last [] x = contains_here x []
in_last (y ∷ xs) x = contains_there y x (xs ++ x ∷ []) (in_last xs x)

-- one name more of a list, or none
list_push : {N : Type 0} (a b : List N) (ids : List ℕ) (id : ℕ) (n : N) (xs ys : List N) → ys ≡ xs ++ n ∷ [] → Grew a b → slice_get b id ≡ Some n
    → AreNumbersOf a ids (Contains xs) → AreNumbersOf b (ids ++ id ∷ []) (Contains ys)
list_push a b ids id n xs ys e g at are = numbers_push a b ids id n (Contains xs) (Contains ys) g are at
    (subst (λ zs. Contains zs n) (sym e) (in_last xs n))
    (λ m c. subst (λ zs. Contains zs m) (sym e) (in_left xs (n ∷ []) m c))
    (λ m c. ⊎_elim (λ d. inl d) (λ d. inr (sym d)) (Contains-push_cases xs n m (subst (λ zs. Contains zs m) e c)))

list_same : {N : Type 0} (a b : List N) (ids : List ℕ) (xs ys : List N) → ys ≡ xs → Grew a b → AreNumbersOf a ids (Contains xs) → AreNumbersOf b ids (Contains ys)
list_same a b ids xs ys e g are = numbers_keep a b ids (Contains xs) (Contains ys) g
    (λ m. (λ c. subst (λ zs. Contains zs m) (sym e) c, λ c. subst (λ zs. Contains zs m) e c)) are

picked : {A B : Type 0} (h : A → Option B) (xs : List A) (x : A) (y : B) → h x ≡ Some y → filter_map h (xs ++ x ∷ []) ≡ filter_map h xs ++ y ∷ []
picked h xs x y e = filter_map-append h xs (x ∷ []) ∙ ap (λ zs. filter_map h xs ++ zs) (last h x y e)
  where
    last : {A B : Type 0} (h : A → Option B) (x : A) (y : B) → h x ≡ Some y → filter_map h (x ∷ []) ≡ y ∷ []
    last h x y e = cc

passed : {A B : Type 0} (h : A → Option B) (xs : List A) (x : A) → h x ≡ None → filter_map h (xs ++ x ∷ []) ≡ filter_map h xs
passed h xs x e = filter_map-append h xs (x ∷ []) ∙ ap (λ zs. filter_map h xs ++ zs) (last h x e) ∙ append-nil (filter_map h xs)
  where
    last : {A B : Type 0} (h : A → Option B) (x : A) → h x ≡ None → filter_map h (x ∷ []) ≡ []
    last h x e = cc

pub user_more : (a b : List Object) (ids ids' : List ℕ) (id : ℕ) (t : Tuple) → t.subject.relation ≡ None → Grew a b → slice_get b id ≡ Some t.subject.object → ids' ≡ ids ++ id ∷ []
    → (ts : List Tuple) → AreNumbersOf a ids (Contains (objects_in ts)) → AreNumbersOf b ids' (Contains (objects_in (ts ++ t ∷ [])))
user_more a b ids ids' id t none g at e ts are = subst (λ xs. AreNumbersOf b xs (Contains (objects_in (ts ++ t ∷ [])))) (sym e)
    (list_push a b ids id t.subject.object (objects_in ts) (objects_in (ts ++ t ∷ [])) (picked (λ q. object_in q.subject) ts t t.subject.object (ap (λ r. without_at t.subject.object r) none)) g at are)
  where
    without_at : Object → Option (List ℕ) → Option Object
    without_at o r = object_in (record { object = o; relation = r })

pub user_passed : (a : List Object) (ids : List ℕ) (t : Tuple) (relation : List ℕ) → t.subject.relation ≡ Some relation
    → (ts : List Tuple) → AreNumbersOf a ids (Contains (objects_in ts)) → AreNumbersOf a ids (Contains (objects_in (ts ++ t ∷ [])))
user_passed a ids t relation some ts are = list_same a a ids (objects_in ts) (objects_in (ts ++ t ∷ []))
    (passed (λ q. object_in q.subject) ts t (ap (λ r. object_in (record { object = t.subject.object; relation = r })) some)) ([], sym (append-nil a)) are

pub set_more : (a b : List Node) (ids ids' : List ℕ) (id : ℕ) (t : Tuple) (n : Node) (relation : List ℕ) → t.subject.relation ≡ Some relation → n ≡ record { object = t.subject.object; relation = relation }
    → Grew a b → slice_get b id ≡ Some n → ids' ≡ ids ++ id ∷ []
    → (ts : List Tuple) → AreNumbersOf a ids (Contains (nodes_in ts)) → AreNumbersOf b ids' (Contains (nodes_in (ts ++ t ∷ [])))
set_more a b ids ids' id t n relation some is g at e ts are = subst (λ xs. AreNumbersOf b xs (Contains (nodes_in (ts ++ t ∷ [])))) (sym e)
    (list_push a b ids id n (nodes_in ts) (nodes_in (ts ++ t ∷ []))
    (picked (λ q. node_in q.subject) ts t n (ap (λ r. node_in (record { object = t.subject.object; relation = r })) some ∙ ap (λ x. Some x) (sym is))) g at are)

pub set_passed : (a : List Node) (ids : List ℕ) (t : Tuple) → t.subject.relation ≡ None
    → (ts : List Tuple) → AreNumbersOf a ids (Contains (nodes_in ts)) → AreNumbersOf a ids (Contains (nodes_in (ts ++ t ∷ [])))
set_passed a ids t none ts are = list_same a a ids (nodes_in ts) (nodes_in (ts ++ t ∷ []))
    (passed (λ q. node_in q.subject) ts t (ap (λ r. node_in (record { object = t.subject.object; relation = r })) none)) ([], sym (append-nil a)) are

-- the relation of one object more
pub computed_more : (config : Configured) (relation : List ℕ) (a b : List Node) (ids ids' : List ℕ) (id : ℕ) (o : Object) (n : Node) → n ≡ record { object = o; relation = relation }
    → Has config (rel_of n) → Grew a b → slice_get b id ≡ Some n → ids' ≡ ids ++ id ∷ []
    → (os : List Object) → AreNumbersOf a ids (IsComputedOf config os relation) → AreNumbersOf b ids' (IsComputedOf config (os ++ o ∷ []) relation)
computed_more config relation a b ids ids' id o n is has g at e os are = subst (λ xs. AreNumbersOf b xs (IsComputedOf config (os ++ o ∷ []) relation)) (sym e)
    (numbers_push a b ids id n (IsComputedOf config os relation) (IsComputedOf config (os ++ o ∷ []) relation) g are at
    (o, in_last os o, subst (λ x. Has config (rel_of x)) is has, is)
    (λ m w. (w.0, in_left os (o ∷ []) w.0 w.1, w.2, w.3))
    (λ m w. ⊎_elim (λ c. inl (w.0, c, w.2, w.3)) (λ c. inr (w.3 ∙ ap (λ x. record { object = x; relation = relation }) (sym c) ∙ sym is)) (Contains-push_cases os o w.0 w.1)))

pub computed_passed : (config : Configured) (relation : List ℕ) (a : List Node) (ids : List ℕ) (o : Object) (n : Node) → n ≡ record { object = o; relation = relation }
    → (Has config (rel_of n) → ⊥)
    → (os : List Object) → AreNumbersOf a ids (IsComputedOf config os relation) → AreNumbersOf a ids (IsComputedOf config (os ++ o ∷ []) relation)
computed_passed config relation a ids o n is off os are = numbers_keep a a ids (IsComputedOf config os relation) (IsComputedOf config (os ++ o ∷ []) relation) ([], sym (append-nil a))
    (λ m. (
      λ w. (w.0, in_left os (o ∷ []) w.0 w.1, w.2, w.3),
      λ w. ⊎_elim (λ c. (w.0, c, w.2, w.3))
          (λ c. absurd (off (subst (λ x. Has config (rel_of x)) (ap (λ x. record { object = x; relation = relation }) (sym c) ∙ sym is) w.2)))
          (Contains-push_cases os o w.0 w.1),
    ))
    are

-- the first ones and one more
pub one_more : {A : Type 0} (xs : List A) (i : ℕ) (x : A) → i < length xs → x ≡ get_or xs i x → take i xs ++ x ∷ [] ≡ take (i + 1) xs
one_more xs i x lt e = ap (λ y. take i xs ++ y ∷ []) e ∙ sym (take_more xs i x lt)

pub all_of : {A : Type 0} (xs : List A) (i : ℕ) → length xs ≤ i → take i xs ≡ xs
all_of xs i le = take_all i xs le

-- what the node's own tuples name
pub own_objects : (S : Snap) (n : Node) (ts : List Tuple) → ts ≡ filter (is_of n) (set.items S.tuples) → (p : Object) → Contains (objects_in ts) p ↔ HasOne S n p
own_objects S n ts is p = (
  λ c. named_object n (is_of n) (set.items S.tuples) (of_node n) p (subst (λ xs. Contains (objects_in xs) p) is c),
  λ c. subst (λ xs. Contains (objects_in xs) p) (sym is) (object_named n (is_of n) (set.items S.tuples) p (is_of_itself n (one p)) c),
)

pub own_sets : (S : Snap) (n : Node) (ts : List Tuple) → ts ≡ filter (is_of n) (set.items S.tuples) → (m : Node) → Contains (nodes_in ts) m ↔ HasSet S n m
own_sets S n ts is m = (
  λ c. named_node n (is_of n) (set.items S.tuples) (of_node n) m (subst (λ xs. Contains (nodes_in xs) m) is c),
  λ c. subst (λ xs. Contains (nodes_in xs) m) (sym is) (node_named n (is_of n) (set.items S.tuples) m (is_of_itself n (set_of m)) c),
)

-- the computed nodes of a tupleset
pub parents : (S : Snap) (n : Node) (t c : List ℕ) (from : Node) (config : Configured) (objects : List Object) → from ≡ record { object = n.object; relation = t } → config ≡ S.config
    → ((p : Object) → Contains objects p ↔ HasOne S from p) → (m : Node) → IsComputedOf config objects c m ↔ IsTupleTo S n t c m
parents S n t c from config objects is same both m = (
  λ w. (w.0, subst (λ x. HasOne S x w.0) is ((both w.0).0 w.1), subst (λ (x : Configured). Has x (record { namespace = w.0.namespace; relation = c })) same w.2, w.3),
  λ w. (w.0, (both w.0).1 (subst (λ x. HasOne S x w.0) (sym is) w.1), subst (λ (x : Configured). Has x (record { namespace = w.0.namespace; relation = c })) (sym same) w.2, w.3),
)

-- the relation of a node that has a place is there
pub has_at : (config : Configured) (n : Node) (i : ℕ) → StandsAt config (rel_of n) i → Has config (rel_of n)
has_at config n i at = (at.defined, ((i, at.within, at.there), at.rel))

pub numbers_parents : {E : Type 0} (S : Snap) (n : Node) (t c : List ℕ) (from : Node) (config : Configured) (objects : List Object) (nodes : List Node) (r : Result (Vec ℕ Global) E)
    → from ≡ record { object = n.object; relation = t } → config ≡ S.config → {listed : List Object} → ((p : Object) → Contains listed p ↔ HasOne S from p) → objects ≡ listed
    → IfOk r (λ ids. AreNumbersOf nodes ids.items (IsComputedOf config objects c)) → IfOk r (λ ids. AreNumbersOf nodes ids.items (IsTupleTo S n t c))
numbers_parents S n t c from config objects nodes (Ok ids) is same {listed} both e are =
    numbers_keep nodes nodes ids.items (IsComputedOf config objects c) (IsTupleTo S n t c) ([], sym (append-nil nodes))
    (parents S n t c from config objects is same (λ p. subst (λ xs. Contains xs p ↔ HasOne S from p) (sym e) (both p))) are
numbers_parents S n t c from config objects nodes (Err x) is same both e are = tt
