-- The tuples of an object of which few were read.
use Rattle.std.proofs.Common.{◌≡◌, ℕ, suc, ◌<◌, ◌+◌, List, [], ◌∷◌, ◌++◌, length, get_or, take, ap, ◌∙◌, sym, subst, arith, ⊎_elim, Bool, true, refl}
use Rattle.std.specs.Global.{Global}
use Rattle.std.specs.Prelude.{◌↔◌, Vec, Result, Ok, Err, IfOk, Contains, Option, Some, None, IfSome, IfNone, filter}
use Rattle.std.specs.List.{filter_map}
use Rattle.std.specs.Cmp.{eq_by_cmp_equiv}
use Rattle.std.proofs.Math.Seq.{take-suc}
use Rattle.std.proofs.lemmas.List.Elements.{Contains-push_cases, filter-append, filter_map-append}
use Rattle.names.specs.declared.object.Object.{Object}
use Rattle.names.specs.declared.node.Node.{Node}
use Rattle.names.specs.declared.tuple.Tuple.{Tuple}
use Rattle.meaning.specs.TupleSet as set
use Rattle.meaning.specs.Snap.{Snap, set_of}
use Rattle.meaning.specs.Membership.{HasOne, HasSet}
use Rattle.meaning.proofs.TupleSets.{objects_total}
use Rattle.versions.specs.Named.{objects_in, nodes_in}
use Rattle.tuple_keys.specs.Named.{is_at, is_of, user_tuple}
use Rattle.rows.proofs.Naming.{contains_kept, kept_contains, of_node, is_of_itself, named_object, object_named, named_node, node_named}
use Rattle.decide.specs.declared.reads.Named.{Named}
use Rattle.decide.specs.declared.reads.Read.{Read}
use Rattle.decide.specs.declared.reads.Reads.{Reads}
use Rattle.decide.specs.inside.Reading.{AreNamed, IsRead, AreRead, IsReadAt}
use Rattle.decide.specs.inside.Reads.{AreOwn}

pub object_parts : (o p : Object) → o.namespace ≡ p.namespace → o.id ≡ p.id → o ≡ p
object_parts o p namespace id = ap (λ x. record { namespace = x; id = o.id }) namespace ∙ ap (λ x. record { namespace = p.namespace; id = x }) id

-- one object more was read
pub read_more : (S : Snap) (old now : List Read) (o : Object) (r : Read) → now ≡ old ++ r ∷ [] → r.object ≡ o → ((q : Read) → Contains old q → IsRead S q)
    → IfSome r.few (λ v. v.items ≡ filter (is_at o) (set.items S.tuples)) → IfSome r.named (λ n. AreNamed S o n.tupleset n.objects.items)
    → (q : Read) → Contains now q → IsRead S q
read_more S old now o r more object before few named q at = ⊎_elim
    (before q)
    (λ same. subst (IsRead S) same (record {
      few = subst (λ p. IfSome r.few (λ v. v.items ≡ filter (is_at p) (set.items S.tuples))) (sym object) few;
      named = subst (λ p. IfSome r.named (λ n. AreNamed S p n.tupleset n.objects.items)) (sym object) named;
    }))
    (Contains-push_cases old r q (subst (λ rs. Contains rs q) more at))

-- what was read of the object has its tuples
pub read_held : (S : Snap) (o : Object) (r : Read) (v : Vec Tuple Global) (ts : List Tuple) → IsRead S r × (r.object ≡ o) → r.few ≡ Some v → ts ≡ v.items
    → ts ≡ filter (is_at o) (set.items S.tuples)
read_held S o r v ts (all, object) some items =
    let read : v.items ≡ filter (is_at r.object) (set.items S.tuples) = subst (λ f. IfSome f (λ w. w.items ≡ filter (is_at r.object) (set.items S.tuples))) some all.few in
    items ∙ read ∙ ap (λ p. filter (is_at p) (set.items S.tuples)) object

-- what was read of the object has what its tupleset names
pub read_named : (S : Snap) (o : Object) (r : Read) (n : Named) (tupleset : List ℕ) (objects : List Object) → IsRead S r × (r.object ≡ o) → r.named ≡ Some n
    → n.tupleset ≡ tupleset → objects ≡ n.objects.items → AreNamed S o tupleset objects
read_named S o r n tupleset objects (all, object) some same items =
    let read : AreNamed S r.object n.tupleset n.objects.items = subst (λ f. IfSome f (λ m. AreNamed S r.object m.tupleset m.objects.items)) some all.named in
    subst (AreNamed S o tupleset) (sym items)
    (subst (λ t. AreNamed S o t n.objects.items) same (subst (λ p. AreNamed S p n.tupleset n.objects.items) object read))

-- what stands at the object's place was read of it
pub read_at : (S : Snap) (reads : Reads) (o : Object) (i : ℕ) (r : Read) → AreRead S reads → IsReadAt reads o i → r ≡ get_or reads.read.items i r → IsRead S r × (r.object ≡ o)
read_at S reads o i r are (lt, at) is = (are r (i, lt, sym is), ap (λ (q : Read). q.object) is ∙ at r)

-- an object's tuples are all of those of its nodes
pub held : (S : Snap) (o : Object) (ts : List Tuple) → ts ≡ filter (is_at o) (set.items S.tuples) → (t : Tuple) → t.node.object ≡ o → Contains ts t ↔ Contains (set.items S.tuples) t
held S o ts is t of = (
  λ c. (contains_kept (is_at o) (set.items S.tuples) t (subst (λ xs. Contains xs t) is c)).0,
  λ c. subst (λ xs. Contains xs t) (sym is) (kept_contains (is_at o) (set.items S.tuples) t c (subst (λ p. is_at p t ≡ true) of ((eq_by_cmp_equiv objects_total).refl t.node.object))),
)

module _ (S : Snap) (n : Node) (ts : List Tuple) (is : ts ≡ filter (is_at n.object) (set.items S.tuples)) where
  pub few_objects : (found : List Object) → found ≡ objects_in (filter (is_of n) ts) → (p : Object) → Contains found p ↔ HasOne S n p
  few_objects found e p =
      let both = held S n.object ts is (user_tuple n p) refl in (
        λ c. both.0 (named_object n (is_of n) ts (of_node n) p (subst (λ xs. Contains xs p) e c)),
        λ c. subst (λ xs. Contains xs p) (sym e) (object_named n (is_of n) ts p (is_of_itself n (user_tuple n p).subject) (both.1 c)),
      )

  pub few_nodes : (found : List Node) → found ≡ nodes_in (filter (is_of n) ts) → (m : Node) → Contains found m ↔ HasSet S n m
  few_nodes found e m =
      let both = held S n.object ts is (record { node = n; subject = set_of m }) refl in (
        λ c. both.0 (named_node n (is_of n) ts (of_node n) m (subst (λ xs. Contains xs m) e c)),
        λ c. subst (λ xs. Contains xs m) (sym e) (node_named n (is_of n) ts m (is_of_itself n (set_of m)) (both.1 c)),
      )

  -- of tuples of which none is the user's, the nodes are the node's own
  pub few_own : (u : Object) (found : List Node) → (Contains ts (user_tuple n u) → ⊥) × (found ≡ nodes_in (filter (is_of n) ts)) → AreOwn S u n found
  few_own u found (none, e) = record {
    direct = λ has. none ((held S n.object ts is (user_tuple n u) refl).1 has);
    only = λ m at. (few_nodes found e m).0 at;
    all = λ m has there. (few_nodes found e m).1 has;
  }

-- what is picked of the first elements and of one more
pub picked_more : {A B : Type 0} (h : A → Option B) (test : A → Bool) (xs : List A) (i : ℕ) (x : A) → i < length xs → x ≡ get_or xs i x
    → filter_map h (filter test (take (i + 1) xs)) ≡ filter_map h (filter test (take i xs)) ++ filter_map h (filter test (x ∷ []))
picked_more h test xs i x lt at =
    let next : i + 1 ≡ suc i = omega arith in
    let front : take (i + 1) xs ≡ take i xs ++ x ∷ [] = ap (λ (n : ℕ). take n xs) next ∙ take-suc xs i x lt ∙ ap (λ y. take i xs ++ y ∷ []) (sym at) in
    ap (λ ys. filter_map h (filter test ys)) front
    ∙ ap (filter_map h) (filter-append test (take i xs) (x ∷ []))
    ∙ filter_map-append h (filter test (take i xs)) (filter test (x ∷ []))

pub both_ways : {A B C : Type 0} → A ↔ B → B ↔ C → A ↔ C
both_ways f g = (λ a. g.0 (f.0 a), λ c. f.1 (g.1 c))

pub some_mapped : {A : Type 0} (r : Option A) (P Q : A → Type 0) → ((a : A) → P a → Q a) → IfSome r P → IfSome r Q
some_mapped (Some a) P Q f h = f a h
some_mapped None P Q f h = tt

pub ok_mapped : {A E : Type 0} (r : Result A E) (P Q : A → Type 0) → ((a : A) → P a → Q a) → IfOk r P → IfOk r Q
ok_mapped (Ok a) P Q f h = f a h
ok_mapped (Err e) P Q f h = tt

pub none_mapped : {A : Type 0} (r : Option A) (P Q : Type 0) → (P → Q) → IfNone r P → IfNone r Q
none_mapped (Some a) P Q f h = tt
none_mapped None P Q f h = f h
