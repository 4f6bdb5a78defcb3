-- Groups, and where their arcs lead, under a valid configuration.
use Rattle.std.proofs.Common.{◌≡◌, ℕ, List, [], ◌∷◌, true, false, cond, refl, sym, subst, ap, ◌∙◌, inl, inr, ⊎_elim, arith}
use Rattle.std.specs.Prelude.{◌⊎◌, ◌&&◌, not, Contains, nat_lt, length}
use Rattle.std.proofs.lemmas.Bool.{and_parts, or_cases, false≢true, cases_Bool, lt-ltb, false_from_ne_true}
use Rattle.std.proofs.lemmas.List.Folds.{Any-from_list_any, list_any-from_Any}
use Rattle.names.specs.declared.object.Object.{Object}
use Rattle.names.specs.declared.node.Node.{Node}
use Rattle.names.specs.declared.relation.RelationName.{RelationName}
use Rattle.names.specs.declared.relation.SubjectType.{SubjectType}
use Rattle.meaning.specs.Form.{Form, Forms, This, Computed, TupleTo, Union, Intersection, Exclusion, none, more}
use Rattle.meaning.specs.Config.{Configured, Defined, Defines, Has, relation_in, rel_of}
use Rattle.meaning.specs.Snap.{Snap, set_of}
use Rattle.meaning.specs.Membership.{HasOne, HasSet, Gives, SomeGives}
use Rattle.meaning.specs.Admits.{is_relation, type_of}
use Rattle.meaning.specs.Reads as reads
use Rattle.meaning.proofs.KnownRelations.{relation_is, is_itself}
use Rattle.meaning.proofs.Lists.{contains_none}
use Rattle.config.specs.Valid as valid
use Rattle.config.specs.Valid.{is_indexed, is_indexed_relation, form_indexable, forms_indexable, type_indexed, types_indexed, is_indexable, uses_this, some_use_this, has_types, types_used}
use Rattle.config.specs.Places.{StandsAt}
use Rattle.config.proofs.Tested.{all_test}
use Rattle.idsets.proofs.Having.{same_tests}
use Rattle.graphs.specs.Groups.{Computes, SomeComputes, IsGroupArc}
use Rattle.leopard.specs.Groups.{IsGroup}

-- the definition of an indexed relation
pub indexed_has : (c : Configured) (r : RelationName) → is_indexed c r ≡ true → (d : Defined) × Defines c r d × (d.indexed ≡ true)
indexed_has c r e =
    let (k, d, lt, at, is) = Any-from_list_any (is_indexed_relation r) c.relations e in
    let b = and_parts (is_relation r d) d.indexed is in
    (d, ((k, lt, at), relation_is r d b.0), b.1)

pub has_indexed : (c : Configured) (r : RelationName) (d : Defined) → Defines c r d → d.indexed ≡ true → is_indexed c r ≡ true
has_indexed c r d ((k, lt, at), e) i =
    list_any-from_Any (is_indexed_relation r) c.relations (k, d, lt, at, ap (λ b. b && d.indexed) (is_itself r d e) ∙ i)

-- what the rule for indexed relations says of a definition
pub rule_of : (c : Configured) (d : Defined) → valid.IsValid c → Contains c.relations d → d.indexed ≡ true
    → (form_indexable c d.rel.namespace d.form ≡ true) × (types_indexed c d.types ≡ true)
rule_of c d v at i = ⊎_elim
    (λ q. absurd (false≢true (sym (ap not i) ∙ q)))
    (λ q. and_parts (form_indexable c d.rel.namespace d.form) (types_indexed c d.types) q)
    (or_cases (not d.indexed) (form_indexable c d.rel.namespace d.form && types_indexed c d.types) (all_test (is_indexable c) c.relations d v.indexed at))

some_types : (ts : List SubjectType) (t : SubjectType) → Contains ts t → nat_lt 0 (length ts) ≡ true
some_types [] t h = absurd (contains_none t h)
some_types (x ∷ xs) t h = lt-ltb 0 (length (x ∷ xs)) (omega arith)

-- whether the relation at a place is indexed
pub indexed_at : (c : Configured) (r : RelationName) (i : ℕ) (s : StandsAt c r i) → is_indexed c r ≡ s.defined.indexed
indexed_at c r i s = same_tests (is_indexed c r) s.defined.indexed
    (λ h. let (d, defines, indexed) = indexed_has c r h in subst (λ (k : Defined). k.indexed ≡ true) (s.only d defines) indexed)
    (λ h. has_indexed c r s.defined ((i, s.within, s.there), s.rel) h)

pub not_indexed : (c : Configured) (r : RelationName) → (Has c r → ⊥) → is_indexed c r ≡ false
not_indexed c r lacks = false_from_ne_true (is_indexed c r) (λ h. let (d, defines, indexed) = indexed_has c r h in lacks (d, defines))

-- a definition that declares a type has `this`
pub declares_uses : (c : Configured) (d : Defined) (t : SubjectType) → valid.IsValid c → Contains c.relations d → Contains d.types t → uses_this d.form ≡ true
declares_uses c d t v at h = ⊎_elim
    (λ q. q)
    (λ q.
    let e = all_test types_used c.relations d v.this at in
    let f : not (has_types d) ≡ true = sym (ap (λ b. cond b (has_types d) (not (has_types d))) q) ∙ e in
    absurd (false≢true (sym (ap not (some_types d.types t h)) ∙ f)))
    (cases_Bool (uses_this d.form))

-- a computed relation of an indexed one is indexed
mutual
  pub computed_indexed : (c : Configured) (n : List ℕ) (w : Form) (r : List ℕ) → form_indexable c n w ≡ true → Computes w r → is_indexed c (relation_in n r) ≡ true
  computed_indexed c n This r e h = absurd h
  computed_indexed c n (Computed q) r e h = subst (λ k. is_indexed c (relation_in n k) ≡ true) h e
  computed_indexed c n (TupleTo t q) r e h = absurd h
  computed_indexed c n (Union ws) r e h = some_computed_indexed c n ws r e h
  computed_indexed c n (Intersection ws) r e h = absurd (false≢true e)
  computed_indexed c n (Exclusion a b) r e h = absurd (false≢true e)

  some_computed_indexed : (c : Configured) (n : List ℕ) (ws : Forms) (r : List ℕ) → forms_indexable c n ws ≡ true → SomeComputes ws r → is_indexed c (relation_in n r) ≡ true
  some_computed_indexed c n none r e h = absurd h
  some_computed_indexed c n (more w ws) r e (inl h) = computed_indexed c n w r (and_parts (form_indexable c n w) (forms_indexable c n ws) e).0 h
  some_computed_indexed c n (more w ws) r e (inr h) = some_computed_indexed c n ws r (and_parts (form_indexable c n w) (forms_indexable c n ws) e).1 h

-- an arc of a group leads to a group
pub arc_indexed : (S : Snap) (g h : Node) → valid.IsValid S.config → reads.IsValid S → IsGroup S.config g → IsGroupArc S g h → IsGroup S.config h
arc_indexed S g h v rv i (inl there) =
    let (d, defines, indexed) = indexed_has S.config (rel_of g) i in
    let (e, told, declared) = rv.admitted (record { node = g; subject = set_of h }) there in
    let same : e ≡ d = rv.once (rel_of g) e d told defines in
    let rule = rule_of S.config d v defines.0 indexed in
    all_test (λ t. type_indexed S.config t.namespace t.relation) d.types (type_of (set_of h)) rule.1 (subst (λ k. Contains k.types (type_of (set_of h))) same declared)
arc_indexed S g h v rv i (inr (e, r, told, computes, is)) =
    let (d, defines, indexed) = indexed_has S.config (rel_of g) i in
    let same : e ≡ d = rv.once (rel_of g) e d told defines in
    let rule = rule_of S.config d v defines.0 indexed in
    let there : is_indexed S.config (relation_in d.rel.namespace r) ≡ true = computed_indexed S.config d.rel.namespace d.form r rule.0 (subst (λ k. Computes k.form r) same computes) in
    subst (λ k. IsGroup S.config k) (sym is) (subst (λ k. is_indexed S.config (relation_in k.namespace r) ≡ true) defines.1 there)

-- what the rewrite of a group gives comes from its own tuples or along an arc
mutual
  pub given_along : (S : Snap) (u : Object) (n : Node) (w : Form) (X L : Node → Type 0) (s : List ℕ) → form_indexable S.config s w ≡ true → Gives S u n w X L
      → HasOne S n u ⊎ ((m : Node) × X m × (HasSet S n m ⊎ ((r : List ℕ) × Computes w r × (m ≡ record { object = n.object; relation = r }))))
  given_along S u n This X L s e (inl h) = inl h
  given_along S u n This X L s e (inr (m, h, x)) = inr (m, x, inl h)
  given_along S u n (Computed r) X L s e h = inr (record { object = n.object; relation = r }, h, inr (r, refl, refl))
  given_along S u n (TupleTo t r) X L s e h = absurd (false≢true e)
  given_along S u n (Union ws) X L s e h = some_given_along S u n ws X L s e h
  given_along S u n (Intersection ws) X L s e h = absurd (false≢true e)
  given_along S u n (Exclusion a b) X L s e h = absurd (false≢true e)

  some_given_along : (S : Snap) (u : Object) (n : Node) (ws : Forms) (X L : Node → Type 0) (s : List ℕ) → forms_indexable S.config s ws ≡ true → SomeGives S u n ws X L
      → HasOne S n u ⊎ ((m : Node) × X m × (HasSet S n m ⊎ ((r : List ℕ) × SomeComputes ws r × (m ≡ record { object = n.object; relation = r }))))
  some_given_along S u n none X L s e h = absurd h
  some_given_along S u n (more w ws) X L s e (inl h) = ⊎_elim
      (λ o. inl o)
      (λ o. inr (o.0, o.1, ⊎_elim (λ t. inl t) (λ q. inr (q.0, inl q.1, q.2)) o.2))
      (given_along S u n w X L s (and_parts (form_indexable S.config s w) (forms_indexable S.config s ws) e).0 h)
  some_given_along S u n (more w ws) X L s e (inr h) = ⊎_elim
      (λ o. inl o)
      (λ o. inr (o.0, o.1, ⊎_elim (λ t. inl t) (λ q. inr (q.0, inr q.1, q.2)) o.2))
      (some_given_along S u n ws X L s (and_parts (form_indexable S.config s w) (forms_indexable S.config s ws) e).1 h)

-- what comes from its own tuples is given where it has `this`
mutual
  pub own_gives : (S : Snap) (u : Object) (n : Node) (w : Form) (X L : Node → Type 0) (s : List ℕ) → form_indexable S.config s w ≡ true → uses_this w ≡ true
      → HasOne S n u ⊎ ((m : Node) × HasSet S n m × X m) → Gives S u n w X L
  own_gives S u n This X L s e t h = h
  own_gives S u n (Computed r) X L s e t h = absurd (false≢true t)
  own_gives S u n (TupleTo q r) X L s e t h = absurd (false≢true t)
  own_gives S u n (Union ws) X L s e t h = some_own_gives S u n ws X L s e t h
  own_gives S u n (Intersection ws) X L s e t h = absurd (false≢true e)
  own_gives S u n (Exclusion a b) X L s e t h = absurd (false≢true e)

  some_own_gives : (S : Snap) (u : Object) (n : Node) (ws : Forms) (X L : Node → Type 0) (s : List ℕ) → forms_indexable S.config s ws ≡ true → some_use_this ws ≡ true
      → HasOne S n u ⊎ ((m : Node) × HasSet S n m × X m) → SomeGives S u n ws X L
  some_own_gives S u n none X L s e t h = absurd (false≢true t)
  some_own_gives S u n (more w ws) X L s e t h =
      let b = and_parts (form_indexable S.config s w) (forms_indexable S.config s ws) e in
      ⊎_elim
      (λ q. inl (own_gives S u n w X L s b.0 q h))
      (λ q. inr (some_own_gives S u n ws X L s b.1 q h))
      (or_cases (uses_this w) (some_use_this ws) t)

-- what a computed userset has is given
mutual
  pub computed_gives : (S : Snap) (u : Object) (n : Node) (w : Form) (X L : Node → Type 0) (s r : List ℕ) → form_indexable S.config s w ≡ true → Computes w r
      → X (record { object = n.object; relation = r }) → Gives S u n w X L
  computed_gives S u n This X L s r e h x = absurd h
  computed_gives S u n (Computed q) X L s r e h x = subst (λ k. X (record { object = n.object; relation = k })) (sym h) x
  computed_gives S u n (TupleTo t q) X L s r e h x = absurd h
  computed_gives S u n (Union ws) X L s r e h x = some_computed_gives S u n ws X L s r e h x
  computed_gives S u n (Intersection ws) X L s r e h x = absurd (false≢true e)
  computed_gives S u n (Exclusion a b) X L s r e h x = absurd (false≢true e)

  some_computed_gives : (S : Snap) (u : Object) (n : Node) (ws : Forms) (X L : Node → Type 0) (s r : List ℕ) → forms_indexable S.config s ws ≡ true → SomeComputes ws r
      → X (record { object = n.object; relation = r }) → SomeGives S u n ws X L
  some_computed_gives S u n none X L s r e h x = absurd h
  some_computed_gives S u n (more w ws) X L s r e (inl h) x = inl (computed_gives S u n w X L s r (and_parts (form_indexable S.config s w) (forms_indexable S.config s ws) e).0 h x)
  some_computed_gives S u n (more w ws) X L s r e (inr h) x = inr (some_computed_gives S u n ws X L s r (and_parts (form_indexable S.config s w) (forms_indexable S.config s ws) e).1 h x)
