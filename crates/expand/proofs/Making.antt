-- Trees that are made one after the other.
use Rattle.std.proofs.Common.{◌≡◌, ℕ, zero, suc, take, ◌+◌, ◌<◌, ◌≤◌, List, [], ◌∷◌, ◌++◌, length, get_or, drop, map, Vec, Result, Ok, Err, Option, Some, None, true, arith, ⊎_elim, sym, ap, subst, ◌∙◌, refl}
use Rattle.std.specs.Prelude.{min, IsErrAnd, IfErr, filter}
use Rattle.std.specs.List.{filter_map, cons_option}
use Rattle.std.proofs.lemmas.Bool.{cases_lt}
use Rattle.std.proofs.lemmas.List.{append-nil, take_all, length-take, take-append-drop}
use Rattle.names.specs.declared.refusal.Refusal.{Refusal}
use Rattle.names.specs.declared.refusal.Refusal.TheVariants as refusals
use Rattle.names.specs.declared.node.Node.{Node}
use Rattle.names.specs.declared.subject.Subject.{Subject}
use Rattle.names.specs.declared.tuple.Tuple.{Tuple}
use Rattle.meaning.specs.TupleSet as set
use Rattle.meaning.specs.Snap.{Snap}
use Rattle.meaning.specs.Config.{rel_of}
use Rattle.meaning.specs.Admits.{has_relation}
use Rattle.std.specs.Global.{Global}
use Rattle.tuple_keys.specs.Named.{is_of}
use Rattle.config_text.specs.declared.rewrite.Rewrite.{Rewrite}
use Rattle.config_text.specs.Forms.{form_of, rewrite_forms}
use Rattle.config_text.proofs.ByItem.{drop_here, drop_past}
use Rattle.expand.specs.declared.tree.Tree.{Tree}
use Rattle.expand.specs.declared.walk.Walk.{Walk}
use Rattle.expand.specs.UsersetTree.{UsersetTree, UsersetTrees, Union, tree_nodes, trees_nodes, trees}
use Rattle.expand.specs.declared.limits.TheConstants.{MAX_TREE_NODES}
use Rattle.expand.specs.Causes.{ExpandCause}
use Rattle.expand.specs.Tree.{filled, all_filled, leaf, subjects_of, parents_of, userset, tree}
use Rattle.expand.specs.Viewed.{tree_of, trees_of}
use Rattle.expand.specs.inside.Walking.{IsMade, AreMade, IsRefused, AreRefused, NoRoom}

abbrev pub nodes_in : List UsersetTree → ℕ
nodes_in ts = trees_nodes (trees ts)

-- of the trees that are wanted, these are left
pub record Making (wanted left : List UsersetTree) (before after : Walk) (made : List Tree) : Type 0 where
  pub same : map tree_of made ++ left ≡ wanted
  pub path : after.path.items ≡ before.path.items
  pub room : before.room + nodes_in left ≡ after.room + nodes_in wanted

-- the trees of the items from a place on
pub left_at : {A : Type 0} (f : A → UsersetTree) (xs : List A) (i : ℕ) (x : A) → i < length xs → x ≡ get_or xs i x → map f (drop i xs) ≡ f x ∷ map f (drop (i + 1) xs)
left_at f xs i x lt is = ap (map f) (drop_here xs i x lt is)

pub left_none : {A : Type 0} (f : A → UsersetTree) (xs : List A) (i : ℕ) → length xs ≤ i → map f (drop i xs) ≡ []
left_none f xs i h = ap (map f) (drop_past xs i h)

pub making_ends : (wanted left : List UsersetTree) (before after : Walk) (made : List Tree) → Making wanted left before after made → left ≡ [] → AreMade before after (trees wanted) made
making_ends wanted left before after made so_far none =
    let nodes : nodes_in left ≡ 0 = ap nodes_in none in
    let was : before.room + nodes_in left ≡ after.room + nodes_in wanted = so_far.room in
    record {
      same = ap trees (sym (append-nil (map tree_of made)) ∙ ap (λ ts. map tree_of made ++ ts) (sym none) ∙ so_far.same);
      spends = record { path = so_far.path; room = omega (arith, nodes, was) };
    }

pub no_room_more : (w v : Walk) (a b : ℕ) → (v.room < a → w.room < b) → (why : Refusal) → NoRoom v a why → NoRoom w b why
no_room_more w v a b f refusals.TooLarge h = f h
no_room_more w v a b f refusals.Memory h = tt
no_room_more w v a b f _ h = absurd h

pub making_refused : (wanted left rest : List UsersetTree) (one : UsersetTree) (before mid : Walk) (made : List Tree) (why : Refusal) → Making wanted left before mid made → left ≡ one ∷ rest → IsRefused mid one why → AreRefused before (trees wanted) why
making_refused wanted left rest one before mid made why so_far is refused =
    let nodes : nodes_in left ≡ tree_nodes one + nodes_in rest = ap nodes_in is in
    let was : before.room + nodes_in left ≡ mid.room + nodes_in wanted = so_far.room in
    no_room_more before mid (tree_nodes one) (nodes_in wanted) (λ h. omega (arith, nodes, was, h)) why refused

-- a refusal is handed on
pub exit : {T : Type 0} (cause : Refusal → Type 0) (r : Result T Refusal) (e : Refusal) → IsErrAnd r (λ x. x ≡ e) → cause e → IfErr r cause
exit cause (Ok a) e was why = tt
exit cause (Err x) e was why = subst cause (sym was) why

-- ---- with the node that holds the trees

pub union_made : (before taken after : Walk) (ts : UsersetTrees) (items : List Tree) (made : Tree) → before.room ≡ taken.room + 1 → taken.path.items ≡ before.path.items → AreMade taken after ts items → tree_of made ≡ Union (trees_of items) → IsMade before after (Union ts) made
union_made before taken after ts items made took path are is =
    let spent : taken.room ≡ after.room + trees_nodes ts = are.spends.room in
    record {
      same = is ∙ ap Union are.same;
      spends = record { path = are.spends.path ∙ path; room = omega (arith, took, spent) };
    }

pub union_refused : (before taken : Walk) (ts : UsersetTrees) (why : Refusal) → before.room ≡ taken.room + 1 → AreRefused taken ts why → IsRefused before (Union ts) why
union_refused before taken ts why took refused =
    no_room_more before taken (trees_nodes ts) (1 + trees_nodes ts) (λ h. omega (arith, took, h)) why refused

-- ---- the trees of parts

pub all_filled_is : (S : Snap) (inner : Node → UsersetTree) (n : Node) (parts : List Rewrite) → all_filled S inner n (rewrite_forms parts) ≡ trees (map (λ w. filled S inner n (form_of w)) parts)
all_filled_is S inner n [] = refl
all_filled_is S inner n (w ∷ ws) = ap (λ ts. UsersetTrees.more (filled S inner n (form_of w)) ts) (all_filled_is S inner n ws)

-- ---- the first of some items

tree_some : (t : UsersetTree) → 1 ≤ tree_nodes t
tree_some (UsersetTree.Opened n t) = omega arith
tree_some (UsersetTree.One o) = omega arith
tree_some (UsersetTree.Closed n) = omega arith
tree_some (UsersetTree.Union ts) = omega arith
tree_some (UsersetTree.Intersection ts) = omega arith
tree_some (UsersetTree.Exclusion a b) = omega arith

-- each item's tree has a node
nodes_long : {A : Type 0} (f : A → UsersetTree) (xs : List A) → length xs ≤ nodes_in (map f xs)
nodes_long f [] = omega arith
nodes_long f (x ∷ xs) = let one = tree_some (f x) in let rest = nodes_long f xs in omega (arith, one, rest)

-- where fewer than the first k are there, they are all
take_short : {A : Type 0} (k : ℕ) (xs : List A) → length (take k xs) < k → take k xs ≡ xs
take_short k xs short = let long : length (take k xs) ≡ min k (length xs) = length-take k xs in take_all k xs (omega (arith, long, short))

-- ---- the trees of subjects

map_subjects : (f : Subject → UsersetTree) (ts : List Tuple) → map (λ t. f t.subject) ts ≡ map f (map (λ t. t.subject) ts)
map_subjects f [] = refl
map_subjects f (t ∷ ts) = ap (λ xs. f t.subject ∷ xs) (map_subjects f ts)

pub subjects_are : (S : Snap) (inner : Node → UsersetTree) (n : Node) (items : List Tuple) → items ≡ filter (is_of n) (set.items S.tuples) → trees (map (λ t. leaf inner t.subject) items) ≡ trees (map (leaf inner) (subjects_of S n))
subjects_are S inner n items is =
    ap trees (map_subjects (leaf inner) items ∙ ap (λ (ts : List Tuple). map (leaf inner) (map (λ t. t.subject) ts)) is)

-- ---- refusals and trees of loops

pub parts_refused : (S : Snap) (left : ℕ) (n : Node) (parts : List Rewrite) (i : ℕ) (x : Rewrite) (before mid : Walk) (made : List Tree) (why : Refusal)
    → let f = λ (w : Rewrite). filled S (userset S left before.path.items) n (form_of w) in
    Making (map f parts) (map f (drop i parts)) before mid made → i < length parts → x ≡ get_or parts i x
    → IsRefused mid (filled S (userset S left mid.path.items) n (form_of x)) why
    → AreRefused before (all_filled S (userset S left before.path.items) n (rewrite_forms parts)) why
parts_refused S left n parts i x before mid made why so_far lt is refused =
    let f = λ (w : Rewrite). filled S (userset S left before.path.items) n (form_of w) in
    subst (λ ts. AreRefused before ts why) (sym (all_filled_is S (userset S left before.path.items) n parts))
    (making_refused (map f parts) (map f (drop i parts)) (map f (drop (i + 1) parts)) (f x) before mid made why so_far (left_at f parts i x lt is)
    (subst (λ (p : List Node). IsRefused mid (filled S (userset S left p) n (form_of x)) why) so_far.path refused))

pub parts_made : (S : Snap) (left : ℕ) (n : Node) (parts : List Rewrite) (i : ℕ) (before after : Walk) (made : List Tree)
    → let f = λ (w : Rewrite). filled S (userset S left before.path.items) n (form_of w) in
    Making (map f parts) (map f (drop i parts)) before after made → length parts ≤ i
    → AreMade before after (all_filled S (userset S left before.path.items) n (rewrite_forms parts)) made
parts_made S left n parts i before after made so_far h =
    let f = λ (w : Rewrite). filled S (userset S left before.path.items) n (form_of w) in
    subst (λ ts. AreMade before after ts made) (sym (all_filled_is S (userset S left before.path.items) n parts))
    (making_ends (map f parts) (map f (drop i parts)) before after made so_far (left_none f parts i h))

-- ---- some first items

-- where fewer of the items are there than are looked at, they are all
short_all : {A : Type 0} (k : ℕ) (items all : List A) → length items < k → take k items ≡ take k all → items ≡ all
short_all k items all short same =
    let first : items ≡ take k all = sym (take_all k items (omega (arith, short))) ∙ same in
    first ∙ take_short k all (subst (λ xs. length xs < k) first short)

-- and else there are so many
long_all : {A : Type 0} (k : ℕ) (items all : List A) → k ≤ length items → take k items ≡ take k all → k ≤ length all
long_all k items all long same =
    let one : length (take k items) ≡ min k (length items) = length-take k items in
    let two : length (take k all) ≡ min k (length all) = length-take k all in
    let both : length (take k items) ≡ length (take k all) = ap length same in
    omega (arith, long, one, two, both)

first_again : {A : Type 0} (k : ℕ) (xs : List A) → take k (take k xs) ≡ take k xs
first_again k xs = let long : length (take k xs) ≡ min k (length xs) = length-take k xs in take_all k (take k xs) (omega (arith, long))

-- the first items are those of the whole list, as far as there is room for a node of each
module _ {A : Type 0} (f : A → UsersetTree) (items all : List A) (before taken : Walk)
    (took : before.room ≡ taken.room + 1) (same : take before.room items ≡ take before.room all) where
  no_fewer : taken.room < nodes_in (map f items) → taken.room < nodes_in (map f all)
  no_fewer over = ⊎_elim
      (λ short. subst (λ xs. taken.room < nodes_in (map f xs)) (short_all before.room items all short same) over)
      (λ long. let many = long_all before.room items all long same in let nodes = nodes_long f all in omega (arith, took, many, nodes))
      (cases_lt (length items) before.room)

  pub first_refused : (i : ℕ) (x : A) (mid : Walk) (made : List Tree) (why : Refusal)
      → Making (map f items) (map f (drop i items)) taken mid made → i < length items → x ≡ get_or items i x
      → IsRefused mid (f x) why → IsRefused before (Union (trees (map f all))) why
  first_refused i x mid made why so_far lt is refused =
      union_refused before taken (trees (map f all)) why took
      (no_room_more taken taken (nodes_in (map f items)) (nodes_in (map f all)) no_fewer why
      (making_refused (map f items) (map f (drop i items)) (map f (drop (i + 1) items)) (f x) taken mid made why so_far (left_at f items i x lt is) refused))

  pub first_made : (i : ℕ) (after : Walk) (made : List Tree) (whole : Tree) → taken.path.items ≡ before.path.items
      → Making (map f items) (map f (drop i items)) taken after made → length items ≤ i → tree_of whole ≡ Union (trees_of made)
      → IsMade before after (Union (trees (map f all))) whole
  first_made i after made whole path so_far h as_data =
      let ends : AreMade taken after (trees (map f items)) made = making_ends (map f items) (map f (drop i items)) taken after made so_far (left_none f items i h) in
      let spent : taken.room ≡ after.room + nodes_in (map f items) = ends.spends.room in
      let long = nodes_long f items in
      let whole_list : items ≡ all = short_all before.room items all (omega (arith, spent, long, took)) same in
      subst (λ xs. IsMade before after (Union (trees (map f xs))) whole) whole_list
      (union_made before taken after (trees (map f items)) made whole took path ends as_data)

pub this_refused : (S : Snap) (left : ℕ) (n : Node) (items : List Tuple) (i : ℕ) (x : Tuple) (before taken mid : Walk) (made : List Tree) (why : Refusal)
    → let f = λ (t : Tuple). leaf (userset S left before.path.items) t.subject in
    before.room ≡ taken.room + 1 → taken.path ≡ before.path → items ≡ take before.room (filter (is_of n) (set.items S.tuples))
    → Making (map f items) (map f (drop i items)) taken mid made → i < length items → x ≡ get_or items i x
    → IsRefused mid (leaf (userset S left mid.path.items) x.subject) why
    → IsRefused before (Union (trees (map (leaf (userset S left before.path.items)) (subjects_of S n)))) why
this_refused S left n items i x before taken mid made why took path are so_far lt is refused =
    let f = λ (t : Tuple). leaf (userset S left before.path.items) t.subject in
    let all = filter (is_of n) (set.items S.tuples) in
    let back : mid.path.items ≡ before.path.items = so_far.path ∙ ap (λ (v : Vec Node Global). v.items) path in
    subst (λ ts. IsRefused before (Union ts) why) (subjects_are S (userset S left before.path.items) n all refl)
    (first_refused f items all before taken took (ap (take before.room) are ∙ first_again before.room all) i x mid made why so_far lt is
    (subst (λ (p : List Node). IsRefused mid (leaf (userset S left p) x.subject) why) back refused))

pub this_made : (S : Snap) (left : ℕ) (n : Node) (items : List Tuple) (i : ℕ) (before taken after : Walk) (made : List Tree) (whole : Tree)
    → let f = λ (t : Tuple). leaf (userset S left before.path.items) t.subject in
    before.room ≡ taken.room + 1 → taken.path ≡ before.path → items ≡ take before.room (filter (is_of n) (set.items S.tuples))
    → Making (map f items) (map f (drop i items)) taken after made → length items ≤ i → tree_of whole ≡ Union (trees_of made)
    → IsMade before after (Union (trees (map (leaf (userset S left before.path.items)) (subjects_of S n)))) whole
this_made S left n items i before taken after made whole took path are so_far h as_data =
    let f = λ (t : Tuple). leaf (userset S left before.path.items) t.subject in
    let all = filter (is_of n) (set.items S.tuples) in
    subst (λ ts. IsMade before after (Union ts) whole) (subjects_are S (userset S left before.path.items) n all refl)
    (first_made f items all before taken took (ap (take before.room) are ∙ first_again before.room all) i after made whole (ap (λ (v : Vec Node Global). v.items) path) so_far h as_data)

-- ---- the trees of parents

pub through_refused : (S : Snap) (left : ℕ) (n : Node) (t c : List ℕ) (items : List Node) (i : ℕ) (x : Node) (before taken mid : Walk) (made : List Tree) (why : Refusal)
    → let f = userset S left before.path.items in
    before.room ≡ taken.room + 1 → taken.path ≡ before.path → take before.room items ≡ take before.room (parents_of S n t c)
    → Making (map f items) (map f (drop i items)) taken mid made → i < length items → x ≡ get_or items i x
    → IsRefused mid (userset S left mid.path.items x) why → IsRefused before (Union (trees (map f (parents_of S n t c)))) why
through_refused S left n t c items i x before taken mid made why took path are so_far lt is refused =
    let back : mid.path.items ≡ before.path.items = so_far.path ∙ ap (λ (v : Vec Node Global). v.items) path in
    first_refused (userset S left before.path.items) items (parents_of S n t c) before taken took are i x mid made why so_far lt is
    (subst (λ (p : List Node). IsRefused mid (userset S left p x) why) back refused)

pub through_made : (S : Snap) (left : ℕ) (n : Node) (t c : List ℕ) (items : List Node) (i : ℕ) (before taken after : Walk) (made : List Tree) (whole : Tree)
    → let f = userset S left before.path.items in
    before.room ≡ taken.room + 1 → taken.path ≡ before.path → take before.room items ≡ take before.room (parents_of S n t c)
    → Making (map f items) (map f (drop i items)) taken after made → length items ≤ i → tree_of whole ≡ Union (trees_of made)
    → IsMade before after (Union (trees (map f (parents_of S n t c)))) whole
through_made S left n t c items i before taken after made whole took path are so_far h as_data =
    first_made (userset S left before.path.items) items (parents_of S n t c) before taken took are i after made whole (ap (λ (v : Vec Node Global). v.items) path) so_far h as_data

-- ---- the parents among the first tuples

-- what the first of a list give is the beginning of what it gives
given_first : {A B : Type 0} (h : A → Option B) (xs ys : List A) → filter_map h (xs ++ ys) ≡ filter_map h xs ++ filter_map h ys
given_first h [] ys = refl
given_first h (x ∷ xs) ys = ap (cons_option (h x)) (given_first h xs ys) ∙ joined (h x) (filter_map h xs) (filter_map h ys)
  where
    joined : {B : Type 0} (o : Option B) (xs ys : List B) → cons_option o (xs ++ ys) ≡ cons_option o xs ++ ys
    joined None xs ys = refl
    joined (Some b) xs ys = refl

take_joined : {A : Type 0} (k : ℕ) (xs ys : List A) → k ≤ length xs → take k xs ≡ take k (xs ++ ys)
take_joined zero xs ys long = refl
take_joined (suc k) [] ys long = absurd (omega (arith, long))
take_joined (suc k) (x ∷ xs) ys long = ap (λ zs. x ∷ zs) (take_joined k xs ys (omega (arith, long)))

module _ {B : Type 0} (h : Subject → Option B) (all tuples : List Tuple) (read most : ℕ) (found : List B)
    (are : tuples ≡ take read all) (gives : found ≡ filter_map h (map (λ t. t.subject) tuples)) where
  pub all_found : length tuples < read → take most found ≡ take most (filter_map h (map (λ t. t.subject) all))
  all_found short =
      let whole : tuples ≡ all = are ∙ take_short read all (subst (λ (ts : List Tuple). length ts < read) are short) in
      ap (take most) (gives ∙ ap (λ (ts : List Tuple). filter_map h (map (λ t. t.subject) ts)) whole)

  pub enough_found : most ≤ length found → take most found ≡ take most (filter_map h (map (λ t. t.subject) all))
  enough_found enough =
      let subject = λ (t : Tuple). t.subject in
      let split : all ≡ tuples ++ drop read all = sym (take-append-drop read all) ∙ ap (λ (ts : List Tuple). ts ++ drop read all) (sym are) in
      let given : filter_map h (map subject all) ≡ found ++ filter_map h (map subject (drop read all)) =
      ap (λ (ts : List Tuple). filter_map h (map subject ts)) split ∙ ap (filter_map h) (map_joined subject tuples (drop read all))
      ∙ given_first h (map subject tuples) (map subject (drop read all)) ∙ ap (λ xs. xs ++ filter_map h (map subject (drop read all))) (sym gives) in
      take_joined most found (filter_map h (map subject (drop read all))) enough ∙ ap (take most) (sym given)
    where
      map_joined : {A C : Type 0} (f : A → C) (xs ys : List A) → map f (xs ++ ys) ≡ map f xs ++ map f ys
      map_joined f [] ys = refl
      map_joined f (x ∷ xs) ys = ap (λ zs. f x ∷ zs) (map_joined f xs ys)

-- ---- why the root's tree is refused

pub expand_cause : (S : Snap) (n : Node) (depth : ℕ) (walk : Walk) (why : Refusal) → walk.path.items ≡ [] → walk.room ≡ MAX_TREE_NODES → has_relation S.config (rel_of n) ≡ true
    → IsRefused walk (userset S depth walk.path.items n) why → ExpandCause S n depth why
expand_cause S n depth walk refusals.TooLarge path room known h = (known, let nodes : tree_nodes (userset S depth walk.path.items n) ≡ tree_nodes (tree S n depth) = ap (λ (p : List Node). tree_nodes (userset S depth p n)) path in omega (arith, nodes, room, h))
expand_cause S n depth walk refusals.Memory path room known h = tt
expand_cause S n depth walk _ path room known h = absurd h
