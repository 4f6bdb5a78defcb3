-- What the tuples of a set name.
use Rattle.std.proofs.Common.{◌≡◌, ℕ, suc, ◌+◌, ◌<◌, ◌++◌, length, take, get_or, arith, List, [], ◌∷◌, Bool, true, false, Option, Some, None, refl, ap, sym, subst, ◌∙◌, inl, inr, ⊎_elim, true≢false}
use Rattle.std.specs.Prelude.{◌⊎◌, ◌&&◌, cond, filter, nat_eq, Contains}
use Rattle.std.specs.Cmp.Lexicographic.{pointwise, nat_list_eq_equiv}
use Rattle.std.specs.List.{filter_map, cons_option}
use Rattle.std.specs.Option.{option_map}
use Rattle.std.proofs.Math.Seq.{take-suc}
use Rattle.std.proofs.lemmas.List.Elements.{Contains-push_cases, Contains-append_left, Contains-append_right, Contains-append_cases}
use Rattle.std.specs.Cmp.{eq_by_cmp_equiv}
use Rattle.std.proofs.lemmas.Map.Views.{tells_apart}
use Rattle.names.specs.declared.object.Object.{Object}
use Rattle.names.specs.declared.node.Node.{Node}
use Rattle.names.specs.declared.subject.Subject.{Subject}
use Rattle.names.specs.declared.tuple.Tuple.{Tuple}
use Rattle.config_text.specs.declared.relation.Relation.{Relation}
use Rattle.config_text.specs.Forms.{defined_of}
use Rattle.meaning.specs.Config.{Configured, Defined, rel_of}
use Rattle.meaning.specs.Snap.{one, set_of}
use Rattle.meaning.proofs.Lists.{contains_here, contains_there, contains_cases, contains_none}
use Rattle.meaning.proofs.TupleSets.{exact_nodes, nodes_total}
use Rattle.tuple_keys.specs.Named.{is_of}
use Rattle.versions.specs.Named.{objects_in, nodes_in}
use Rattle.tuple_keys.specs.Named.{user_tuple, without, object_in, node_in, is_within}
use Rattle.rows.specs.Lookups.{IsOfNodes, DeclaresNodes, IsRepeated}
use Rattle.names.specs.declared.relation.SubjectType.{SubjectType}
use Rattle.meaning.specs.Admits.{Admits}
use Rattle.config.specs.Places.{StandsAt}

-- ---- what passes a test

kept_cases : {A : Type 0} (test : A → Bool) (x : A) (xs : List A) (y : A) (b : Bool) → test x ≡ b → (Contains (filter test xs) y → Contains xs y × (test y ≡ true)) → Contains (cond b (x ∷ filter test xs) (filter test xs)) y
    → Contains (x ∷ xs) y × (test y ≡ true)
kept_cases test x xs y true is rest c =
    ⊎_elim (λ e. (subst (λ z. Contains (x ∷ xs) z) e (contains_here x xs), ap test (sym e) ∙ is)) (λ d. let r = rest d in (contains_there x y xs r.0, r.1)) (contains_cases x y (filter test xs) c)
kept_cases test x xs y false is rest c = let r = rest c in (contains_there x y xs r.0, r.1)

pub contains_kept : {A : Type 0} (test : A → Bool) (xs : List A) (y : A) → Contains (filter test xs) y → Contains xs y × (test y ≡ true)
contains_kept test [] y c = absurd (contains_none y c)
contains_kept test (x ∷ xs) y c = kept_cases test x xs y (test x) refl (contains_kept test xs y) c

keeps_first : {A : Type 0} (x : A) (xs : List A) (y : A) (b : Bool) → b ≡ true → x ≡ y → Contains (cond b (x ∷ xs) xs) y
keeps_first x xs y true is e = subst (λ z. Contains (x ∷ xs) z) e (contains_here x xs)
keeps_first x xs y false is e = absurd (true≢false (sym is))

keeps_later : {A : Type 0} (x : A) (xs : List A) (y : A) (b : Bool) → Contains xs y → Contains (cond b (x ∷ xs) xs) y
keeps_later x xs y true c = contains_there x y xs c
keeps_later x xs y false c = c

pub kept_contains : {A : Type 0} (test : A → Bool) (xs : List A) (y : A) → Contains xs y → test y ≡ true → Contains (filter test xs) y
kept_contains test [] y c passes = absurd (contains_none y c)
kept_contains test (x ∷ xs) y c passes =
    ⊎_elim (λ e. keeps_first x (filter test xs) y (test x) (ap test e ∙ passes) e) (λ d. keeps_later x (filter test xs) y (test x) (kept_contains test xs y d passes)) (contains_cases x y xs c)

-- ---- what is given of some

given_cases : {A B : Type 0} (h : A → Option B) (x : A) (xs : List A) (y : B) (o : Option B) → h x ≡ o → (Contains (filter_map h xs) y → (z : A) × Contains xs z × (h z ≡ Some y)) → Contains (cons_option o (filter_map h xs)) y
    → (z : A) × Contains (x ∷ xs) z × (h z ≡ Some y)
given_cases h x xs y (Some b) is rest c =
    ⊎_elim (λ e. (x, contains_here x xs, is ∙ ap Some e)) (λ d. let r = rest d in (r.0, contains_there x r.0 xs r.1, r.2)) (contains_cases b y (filter_map h xs) c)
given_cases h x xs y None is rest c = let r = rest c in (r.0, contains_there x r.0 xs r.1, r.2)

pub contains_given : {A B : Type 0} (h : A → Option B) (xs : List A) (y : B) → Contains (filter_map h xs) y → (z : A) × Contains xs z × (h z ≡ Some y)
contains_given h [] y c = absurd (contains_none y c)
contains_given h (x ∷ xs) y c = given_cases h x xs y (h x) refl (contains_given h xs y) c

gives_first : {B : Type 0} (o : Option B) (ys : List B) (y : B) → o ≡ Some y → Contains (cons_option o ys) y
gives_first o ys y is = subst (λ p. Contains (cons_option p ys) y) (sym is) (contains_here y ys)

gives_later : {B : Type 0} (o : Option B) (ys : List B) (y : B) → Contains ys y → Contains (cons_option o ys) y
gives_later (Some b) ys y c = contains_there b y ys c
gives_later None ys y c = c

pub given_contains : {A B : Type 0} (h : A → Option B) (xs : List A) (x : A) (y : B) → Contains xs x → h x ≡ Some y → Contains (filter_map h xs) y
given_contains h [] x y c is = absurd (contains_none x c)
given_contains h (z ∷ zs) x y c is =
    ⊎_elim (λ e. gives_first (h z) (filter_map h zs) y (ap h e ∙ is)) (λ d. gives_later (h z) (filter_map h zs) y (given_contains h zs x y d is)) (contains_cases z x zs c)

-- ---- what a tuple names

pub of_node : (n : Node) (t : Tuple) → is_of n t ≡ true → t.node ≡ n
of_node n t e = tells_apart exact_nodes t.node n e

pub is_of_itself : (n : Node) (s : Subject) → is_of n (record { node = n; subject = s }) ≡ true
is_of_itself n s = (eq_by_cmp_equiv nodes_total).refl n

object_is : (o : Object) (r : Option (List ℕ)) (u : Object) → without o r ≡ Some u → record { object = o; relation = r } ≡ one u
object_is o None u e = ap (λ (p : Option Object). one (or_first o p)) e
  where
    or_first : Object → Option Object → Object
    or_first d None = d
    or_first d (Some x) = x
object_is o (Some r) u e = cc

node_is : (o : Object) (r : Option (List ℕ)) (m : Node) → option_map (λ relation. record { object = o; relation = relation }) r ≡ Some m → record { object = o; relation = r } ≡ set_of m
node_is o None m e = cc
node_is o (Some r) m e = ap (λ (p : Option Node). set_of (or_first (record { object = o; relation = r }) p)) e
  where
    or_first : Node → Option Node → Node
    or_first d None = d
    or_first d (Some x) = x

-- where the test passes the tuples of one node alone
module _ (n : Node) (test : Tuple → Bool) (ts : List Tuple) where
  pub named_object : ((t : Tuple) → test t ≡ true → t.node ≡ n) → (u : Object) → Contains (objects_in (filter test ts)) u → Contains ts (user_tuple n u)
  named_object one_node u c =
      let g = contains_given (λ (t : Tuple). object_in t.subject) (filter test ts) u c in
      let k = contains_kept test ts g.0 g.1 in
      let node : g.0.node ≡ n = one_node g.0 k.1 in
      let subject : g.0.subject ≡ one u = object_is g.0.subject.object g.0.subject.relation u g.2 in
      subst (λ t. Contains ts t) (λ i. record { node = node i; subject = subject i }) k.0

  pub object_named : (u : Object) → test (user_tuple n u) ≡ true → Contains ts (user_tuple n u) → Contains (objects_in (filter test ts)) u
  object_named u passes c = given_contains (λ (t : Tuple). object_in t.subject) (filter test ts) (user_tuple n u) u (kept_contains test ts (user_tuple n u) c passes) refl

  pub named_node : ((t : Tuple) → test t ≡ true → t.node ≡ n) → (m : Node) → Contains (nodes_in (filter test ts)) m → Contains ts (record { node = n; subject = set_of m })
  named_node one_node m c =
      let g = contains_given (λ (t : Tuple). node_in t.subject) (filter test ts) m c in
      let k = contains_kept test ts g.0 g.1 in
      let node : g.0.node ≡ n = one_node g.0 k.1 in
      let subject : g.0.subject ≡ set_of m = node_is g.0.subject.object g.0.subject.relation m g.2 in
      subst (λ t. Contains ts t) (λ i. record { node = node i; subject = subject i }) k.0

  pub node_named : (m : Node) → test (record { node = n; subject = set_of m }) ≡ true → Contains ts (record { node = n; subject = set_of m }) → Contains (nodes_in (filter test ts)) m
  node_named m passes c =
      given_contains (λ (t : Tuple). node_in t.subject) (filter test ts) (record { node = n; subject = set_of m }) m (kept_contains test ts (record { node = n; subject = set_of m }) c passes) refl

-- ---- the namespaces of declared types

pub within_of : (n : Node) (namespace : List ℕ) (t : Tuple) → is_within n namespace t ≡ true → t.node ≡ n
within_of n namespace t e = of_node n t (first (is_of n t) (pointwise nat_eq t.subject.object.namespace namespace) e)
  where
    first : (a b : Bool) → (a && b) ≡ true → a ≡ true
    first true b h = refl
    first false b h = cc

pub is_within_itself : (n m : Node) (namespace : List ℕ) → namespace ≡ m.object.namespace → is_within n namespace (record { node = n; subject = set_of m }) ≡ true
is_within_itself n m namespace same =
    ap (λ b. b && pointwise nat_eq m.object.namespace namespace) (is_of_itself n (set_of m))
    ∙ ap (pointwise nat_eq m.object.namespace) same
    ∙ nat_list_eq_equiv.refl m.object.namespace

pub declared_none : (types : List SubjectType) (namespace : List ℕ) → DeclaresNodes (take 0 types) namespace → ⊥
declared_none [] namespace declared = contains_none declared.0 declared.1
declared_none (t ∷ ts) namespace declared = contains_none declared.0 declared.1

-- one of those up to a place is before it, or it is the one there
declared_more : (types : List SubjectType) (i : ℕ) (d : SubjectType) → i < length types → (namespace : List ℕ) → DeclaresNodes (take (i + 1) types) namespace
    → DeclaresNodes (take i types) namespace ⊎ IsOfNodes namespace (get_or types i d)
declared_more types i d small namespace declared =
    let next : i + 1 ≡ suc i = omega arith in
    let front : take (i + 1) types ≡ take i types ++ get_or types i d ∷ [] = ap (λ (n : ℕ). take n types) next ∙ take-suc types i d small in
    ⊎_elim (λ among. inl (declared.0, among, declared.2)) (λ e. inr (subst (IsOfNodes namespace) (sym e) declared.2))
    (Contains-push_cases (take i types) (get_or types i d) declared.0 (subst (λ (ts : List SubjectType). Contains ts declared.0) front declared.1))

-- the type of an admitted tuple's subject is declared
pub declared_all : (config : Configured) (n m : Node) (i : ℕ) (stands : StandsAt config (rel_of n) i) (d : Relation) → stands.defined ≡ defined_of d → Admits config (record { node = n; subject = set_of m })
    → DeclaresNodes d.types.items m.object.namespace
declared_all config n m i stands d is (e, defines, among) =
    let t : SubjectType = record { namespace = m.object.namespace; relation = Some m.relation } in
    (t, subst (λ (x : Defined). Contains x.types t) (stands.only e defines ∙ is) among, (refl, (m.relation, refl)))

-- ---- one namespace more

module _ (n : Node) (ts : List Tuple) (types : List SubjectType) (i : ℕ) (small : i < length types) (old now : List Node)
    (only : (m : Node) → Contains old m → Contains ts (record { node = n; subject = set_of m }))
    (all : (m : Node) → Contains ts (record { node = n; subject = set_of m }) → DeclaresNodes (take i types) m.object.namespace → Contains old m)
  where
    module _ (d : SubjectType) (adds : now ≡ old ++ nodes_in (filter (is_within n (get_or types i d).namespace) ts)) where
      pub more_only : (m : Node) → Contains now m → Contains ts (record { node = n; subject = set_of m })
      more_only m c =
          let namespace = (get_or types i d).namespace in
          ⊎_elim (only m) (named_node n (is_within n namespace) ts (within_of n namespace) m)
          (Contains-append_cases old (nodes_in (filter (is_within n namespace) ts)) m (subst (λ (ms : List Node). Contains ms m) adds c))

      pub more_all : (m : Node) → Contains ts (record { node = n; subject = set_of m }) → DeclaresNodes (take (i + 1) types) m.object.namespace → Contains now m
      more_all m has one =
          let namespace = (get_or types i d).namespace in
          let added = nodes_in (filter (is_within n namespace) ts) in
          subst (λ (ms : List Node). Contains ms m) (sym adds)
          (⊎_elim (λ before. Contains-append_left old added m (all m has before))
          (λ here. Contains-append_right old added m (node_named n (is_within n namespace) ts m (is_within_itself n m namespace here.0) has))
          (declared_more types i d small m.object.namespace one))

    -- a namespace that was there before adds nothing
    pub same_only : now ≡ old → (m : Node) → Contains now m → Contains ts (record { node = n; subject = set_of m })
    same_only same m c = only m (subst (λ (ms : List Node). Contains ms m) same c)

    pub same_all : now ≡ old → IsRepeated types i → (m : Node) → Contains ts (record { node = n; subject = set_of m }) → DeclaresNodes (take (i + 1) types) m.object.namespace → Contains now m
    same_all same repeated m has declared =
        subst (λ (ms : List Node). Contains ms m) (sym same)
        (⊎_elim (all m has) (λ here. all m has (repeated declared.0 m.object.namespace here))
        (declared_more types i declared.0 small m.object.namespace declared))
