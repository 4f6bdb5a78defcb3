-- What trees mean.
use Rattle.std.proofs.Common.{◌≡◌, ℕ, zero, suc, List, [], ◌∷◌, ◌++◌, Bool, true, false, Option, Some, None, refl, sym, ap, subst, ◌∙◌, inl, inr, ⊎_elim}
use Rattle.std.specs.Prelude.{◌↔◌, Contains, map, filter, cond, unwrap_or}
use Rattle.std.specs.List.{find}
use Rattle.names.specs.declared.object.Object.{Object}
use Rattle.names.specs.declared.node.Node.{Node}
use Rattle.names.specs.declared.subject.Subject.{Subject}
use Rattle.names.specs.declared.tuple.Tuple.{Tuple}
use Rattle.meaning.specs.TupleSet as set
use Rattle.meaning.specs.Snap.{Snap, one, set_of}
use Rattle.meaning.specs.Form.{Form, Forms, This, Computed, TupleTo, Union, Intersection, Exclusion, none, more}
use Rattle.meaning.specs.Config.{Configured, Defined, Defines, Has, rel_of, relation_in}
use Rattle.meaning.specs.Admits.{is_relation, has_relation}
use Rattle.meaning.specs.Membership.{IsMember, Gives, SomeGives, EachGives, HasOne}
use Rattle.meaning.specs.Reads.{IsValid}
use Rattle.meaning.proofs.Lists.{contains_here, contains_there, contains_cases, contains_none, contains_map, contains_map_back}
use Rattle.meaning.proofs.KnownRelations.{relation_is, known_has, has_known}
use Rattle.meaning.proofs.ReadsLemmas.{member_unfolds}
use Rattle.tuple_keys.specs.Named.{is_of}
use Rattle.rows.proofs.Naming.{kept_contains, contains_kept, given_contains, contains_given, of_node, is_of_itself}
use Rattle.expand.specs.UsersetTree.{UsersetTree, trees}
use Rattle.expand.specs.Tree.{node_with, subjects_of, leaf_of, leaf, parent_of, parent, parents_of, filled, all_filled, definition_of, opened, is_among, userset, tree}
use Rattle.expand.specs.Meaning.{Means, SomeMeans, EachMeans}

-- a user whom one of some trees means
module _ (S : Snap) (u : Object) {A : Type 0} (f : A → UsersetTree) where
  pub some_means : (xs : List A) → SomeMeans S u (trees (map f xs)) → (x : A) × Contains xs x × Means S u (f x)
  some_means [] h = absurd h
  some_means (x ∷ xs) (inl h) = (x, contains_here x xs, h)
  some_means (x ∷ xs) (inr h) = let r = some_means xs h in (r.0, contains_there x r.0 xs r.1, r.2)

  pub means_some : (xs : List A) (x : A) → Contains xs x → Means S u (f x) → SomeMeans S u (trees (map f xs))
  means_some [] x c h = absurd (contains_none x c)
  means_some (y ∷ ys) x c h =
      ⊎_elim (λ e. inl (subst (λ z. Means S u (f z)) (sym e) h)) (λ d. inr (means_some ys x d h)) (contains_cases y x ys c)

-- the subjects of a node
pub subject_there : (S : Snap) (n : Node) (s : Subject) → Contains (subjects_of S n) s → Contains (set.items S.tuples) (record { node = n; subject = s })
subject_there S n s c =
    let (t, kept, is) = contains_map_back (λ (t : Tuple). t.subject) (filter (is_of n) (set.items S.tuples)) s c in
    let (there, passes) = contains_kept (is_of n) (set.items S.tuples) t kept in
    subst (λ x. Contains (set.items S.tuples) (record { node = n; subject = x })) is (subst (λ m. Contains (set.items S.tuples) (record { node = m; subject = t.subject })) (of_node n t passes) there)

pub there_subject : (S : Snap) (n : Node) (s : Subject) → Contains (set.items S.tuples) (record { node = n; subject = s }) → Contains (subjects_of S n) s
there_subject S n s c =
    contains_map (λ (t : Tuple). t.subject) (filter (is_of n) (set.items S.tuples)) (record { node = n; subject = s }) (kept_contains (is_of n) (set.items S.tuples) (record { node = n; subject = s }) c (is_of_itself n s))

-- the parents by one of the node's tuplesets
parent_is : (config : Configured) (c : List ℕ) (p : Object) (r : Option (List ℕ)) (b : Bool) (m : Node) → has_relation config (relation_in p.namespace c) ≡ b → parent_of config c p r ≡ Some m
    → (r ≡ None) × Has config (relation_in p.namespace c) × (node_with c p ≡ m)
parent_is config c p None true m known is = (refl, known_has config (relation_in p.namespace c) known, cc)
parent_is config c p None false m known is = absurd (cc)
parent_is config c p (Some r) b m known is = absurd (cc)

parent_there : (config : Configured) (c : List ℕ) (p : Object) → Has config (relation_in p.namespace c) → parent config c (one p) ≡ Some (node_with c p)
parent_there config c p has = ap (λ b. cond b (Some (node_with c p)) None) (has_known config (relation_in p.namespace c) has)

-- usersets whose trees mean their members
module _ (S : Snap) (u : Object) (inner : Node → UsersetTree) (means : (m : Node) → Means S u (inner m) ↔ IsMember S u m) where
  leaf_given : (n : Node) (o : Object) (r : Option (List ℕ)) → Contains (set.items S.tuples) (record { node = n; subject = record { object = o; relation = r } }) → Means S u (leaf_of inner o r) → Gives S u n This (IsMember S u) (IsMember S u)
  leaf_given n o None c h = inl (subst (λ x. HasOne S n x) h c)
  leaf_given n o (Some r) c h = inr (node_with r o, c, (means (node_with r o)).0 h)

  this_given : (n : Node) → Means S u (filled S inner n This) → Gives S u n This (IsMember S u) (IsMember S u)
  this_given n h =
      let (s, c, m) = some_means S u (leaf inner) (subjects_of S n) h in
      leaf_given n s.object s.relation (subject_there S n s c) m

  given_this : (n : Node) → Gives S u n This (IsMember S u) (IsMember S u) → Means S u (filled S inner n This)
  given_this n (inl has) = means_some S u (leaf inner) (subjects_of S n) (one u) (there_subject S n (one u) has) refl
  given_this n (inr (m, has, member)) =
      means_some S u (leaf inner) (subjects_of S n) (set_of m) (there_subject S n (set_of m) has) ((means m).1 member)

  through_given : (n : Node) (t c : List ℕ) → Means S u (filled S inner n (TupleTo t c)) → Gives S u n (TupleTo t c) (IsMember S u) (IsMember S u)
  through_given n t c h =
      let from = node_with t n.object in
      let (m, in', h') = some_means S u inner (parents_of S n t c) h in
      let (s, there, is) = contains_given (parent S.config c) (subjects_of S from) m in' in
      let (single, has, same) = parent_is S.config c s.object s.relation (has_relation S.config (relation_in s.object.namespace c)) m refl is in (
        s.object,
        subst (λ r. Contains (set.items S.tuples) (record { node = from; subject = record { object = s.object; relation = r } })) single (subject_there S from s there),
        has,
        subst (IsMember S u) (sym same) ((means m).0 h'),
      )

  given_through : (n : Node) (t c : List ℕ) → Gives S u n (TupleTo t c) (IsMember S u) (IsMember S u) → Means S u (filled S inner n (TupleTo t c))
  given_through n t c (p, one_there, has, member) =
      let from = node_with t n.object in
      means_some S u inner (parents_of S n t c) (node_with c p)
      (given_contains (parent S.config c) (subjects_of S from) (one p) (node_with c p) (there_subject S from (one p) one_there) (parent_there S.config c p has)) ((means (node_with c p)).1 member)

  mutual
    pub filled_given : (n : Node) (w : Form) → Means S u (filled S inner n w) → Gives S u n w (IsMember S u) (IsMember S u)
    filled_given n This h = this_given n h
    filled_given n (Computed c) h = (means (node_with c n.object)).0 h
    filled_given n (TupleTo t c) h = through_given n t c h
    filled_given n (Union ws) h = some_given n ws h
    filled_given n (Intersection ws) h = each_given n ws h
    filled_given n (Exclusion a b) h = (filled_given n a h.0, λ g. h.1 (given_filled n b g))

    pub given_filled : (n : Node) (w : Form) → Gives S u n w (IsMember S u) (IsMember S u) → Means S u (filled S inner n w)
    given_filled n This g = given_this n g
    given_filled n (Computed c) g = (means (node_with c n.object)).1 g
    given_filled n (TupleTo t c) g = given_through n t c g
    given_filled n (Union ws) g = given_some n ws g
    given_filled n (Intersection ws) g = given_each n ws g
    given_filled n (Exclusion a b) g = (given_filled n a g.0, λ h. g.1 (filled_given n b h))

    some_given : (n : Node) (ws : Forms) → SomeMeans S u (all_filled S inner n ws) → SomeGives S u n ws (IsMember S u) (IsMember S u)
    some_given n none h = h
    some_given n (more w ws) (inl h) = inl (filled_given n w h)
    some_given n (more w ws) (inr h) = inr (some_given n ws h)

    given_some : (n : Node) (ws : Forms) → SomeGives S u n ws (IsMember S u) (IsMember S u) → SomeMeans S u (all_filled S inner n ws)
    given_some n none h = h
    given_some n (more w ws) (inl g) = inl (given_filled n w g)
    given_some n (more w ws) (inr g) = inr (given_some n ws g)

    each_given : (n : Node) (ws : Forms) → EachMeans S u (all_filled S inner n ws) → EachGives S u n ws (IsMember S u) (IsMember S u)
    each_given n none h = h
    each_given n (more w ws) h = (filled_given n w h.0, each_given n ws h.1)

    given_each : (n : Node) (ws : Forms) → EachGives S u n ws (IsMember S u) (IsMember S u) → EachMeans S u (all_filled S inner n ws)
    given_each n none h = h
    given_each n (more w ws) h = (given_filled n w h.0, given_each n ws h.1)

-- what is found passes the test
found_first : {A : Type 0} (p : A → Bool) (x : A) (xs : List A) (d : A) (b : Bool) → p x ≡ b → cond b (Some x) (find p xs) ≡ Some d → (find p xs ≡ Some d → Contains xs d × (p d ≡ true)) → Contains (x ∷ xs) d × (p d ≡ true)
found_first {A} p x xs d true is e rest =
    let same : x ≡ d = ap (λ (o : Option A). unwrap_or o x) e in
    (subst (λ z. Contains (x ∷ xs) z) same (contains_here x xs), ap p (sym same) ∙ is)
found_first p x xs d false is e rest = let r = rest e in (contains_there x d xs r.0, r.1)

pub found_passes : {A : Type 0} (p : A → Bool) (xs : List A) (d : A) → find p xs ≡ Some d → Contains xs d × (p d ≡ true)
found_passes p [] d e = absurd (cc)
found_passes p (x ∷ xs) d e = found_first p x xs d (p x) refl e (found_passes p xs d)

-- the definition that is found is the node's
pub found_defines : (config : Configured) (n : Node) (d : Defined) → definition_of config n ≡ Some d → Defines config (rel_of n) d
found_defines config n d e =
    let (there, passes) = found_passes (is_relation (rel_of n)) config.relations d e in
    (there, relation_is (rel_of n) d passes)

-- an opened node means its members
pub opened_means : (S : Snap) (u : Object) (inner : Node → UsersetTree) → ((m : Node) → Means S u (inner m) ↔ IsMember S u m) → IsValid S → (n : Node) (o : Option Defined) → definition_of S.config n ≡ o → Means S u (opened S inner n o) ↔ IsMember S u n
opened_means S u inner means valid n None is = (λ h. h, λ h. h)
opened_means S u inner means valid n (Some d) is =
    let defines : Defines S.config (rel_of n) d = found_defines S.config n d is in (
      λ h. (member_unfolds S valid u n).1 (d, defines, filled_given S u inner means n d.form h),
      λ member.
          let (e, others, g) = (member_unfolds S valid u n).0 member in
          given_filled S u inner means n d.form (subst (λ (x : Defined). Gives S u n x.form (IsMember S u) (IsMember S u)) (valid.once (rel_of n) e d others defines) g),
    )

choice_means : (S : Snap) (u : Object) (n : Node) (t : UsersetTree) (b : Bool) → Means S u t ↔ IsMember S u n → Means S u (cond b (UsersetTree.Closed n) t) ↔ IsMember S u n
choice_means S u n t true means = (λ h. h, λ h. h)
choice_means S u n t false means = means

pub userset_means : (S : Snap) (u : Object) → IsValid S → (left : ℕ) (path : List Node) (n : Node) → Means S u (userset S left path n) ↔ IsMember S u n
userset_means S u valid zero path n = (λ h. h, λ h. h)
userset_means S u valid (suc left) path n =
    choice_means S u n (opened S (userset S left (path ++ n ∷ [])) n (definition_of S.config n)) (is_among path n)
    (opened_means S u (userset S left (path ++ n ∷ [])) (userset_means S u valid left (path ++ n ∷ [])) valid n (definition_of S.config n) refl)

pub tree_means : (S : Snap) (u : Object) (n : Node) (depth : ℕ) → IsValid S → Means S u (tree S n depth) ↔ IsMember S u n
tree_means S u n depth valid = userset_means S u valid depth [] n
