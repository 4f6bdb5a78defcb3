-- The texts of a tuple tell which it is.
use Rattle.std.proofs.Common.{◌≡◌, ℕ, List, [], ◌∷◌, ◌++◌, refl, sym, ap, ◌∙◌, append_assoc, append-nil, true≢false}
use Rattle.std.specs.Prelude.{true, false, not, Option, Some, None, IsTrue, bytes_eq}
use Rattle.std.specs.List.{list_all}
use Rattle.std.proofs.lemmas.Bool.{and_parts, and_from, eq-eqb}
use Rattle.std.proofs.lemmas.Slice.Eq.{bytes_eq-Decides}
use Rattle.names.specs.Names.{is_name, is_id, is_name_byte, is_id_byte}
use Rattle.names.specs.Order.{is_same_tuple}
use Rattle.names.specs.Spelling.{IsTuple, IsSubject, subject_text, relation_part}
use Rattle.names.specs.declared.tuple.Tuple.{Tuple}
use Rattle.names.specs.declared.subject.Subject.{Subject}
use Rattle.names.proofs.Splitting.{is_other, lacks_refused}
use Rattle.sqlite_tables.specs.Tables.{same_tuple}
use Rattle.store.specs.Written.{TupleSpan, span_of}
use Rattle.store.proofs.Picking.{same_bool}
use Rattle.store.proofs.Living.{one_tuple}
use Rattle.store.proofs.Following.{itself}

pub name_lacks : (c : ℕ) → is_name_byte c ≡ false → (xs : List ℕ) → IsTrue (is_name xs) → list_all (is_other c) xs ≡ true
name_lacks c refused xs h = (lacks_refused is_name_byte c refused xs (and_parts _ (list_all is_name_byte xs) h).1).others

id_lacks : (c : ℕ) → is_id_byte c ≡ false → (xs : List ℕ) → IsTrue (is_id xs) → list_all (is_other c) xs ≡ true
id_lacks c refused xs h = (lacks_refused is_id_byte c refused xs (and_parts _ (list_all is_id_byte xs) h).1).others

not_itself : (c : ℕ) → is_other c c ≡ true → ⊥
not_itself c h = true≢false (sym h ∙ ap not (eq-eqb c c refl))

never_in : (c : ℕ) (xs us : List ℕ) → list_all (is_other c) (xs ++ c ∷ us) ≡ true → ⊥
never_in c [] us h = not_itself c (and_parts (is_other c c) (list_all (is_other c) us) h).0
never_in c (x ∷ xs) us h = never_in c xs us (and_parts (is_other c x) (list_all (is_other c) (xs ++ c ∷ us)) h).1

-- the part before a separator that it lacks
cut : (c : ℕ) (xs ys us vs : List ℕ) → list_all (is_other c) xs ≡ true → list_all (is_other c) ys ≡ true → xs ++ c ∷ us ≡ ys ++ c ∷ vs → (xs ≡ ys) × (us ≡ vs)
cut c [] [] us vs x y e = (refl, tail e)
  where
    tail : ◌≡◌ {A = List ℕ} (c ∷ us) (c ∷ vs) → us ≡ vs
    tail e = cc
cut c [] (y ∷ ys) us vs x h e = absurd (not_itself c (ap (is_other c) (head e) ∙ (and_parts (is_other c y) (list_all (is_other c) ys) h).0))
  where
    head : ◌≡◌ {A = List ℕ} (c ∷ us) (y ∷ (ys ++ c ∷ vs)) → c ≡ y
    head e = cc
cut c (x ∷ xs) [] us vs h y e = absurd (not_itself c (ap (is_other c) (head e) ∙ (and_parts (is_other c x) (list_all (is_other c) xs) h).0))
  where
    head : ◌≡◌ {A = List ℕ} (x ∷ (xs ++ c ∷ us)) (c ∷ vs) → c ≡ x
    head e = cc
cut c (x ∷ xs) (y ∷ ys) us vs h k e = both (cut c xs ys us vs (and_parts (is_other c x) (list_all (is_other c) xs) h).1 (and_parts (is_other c y) (list_all (is_other c) ys) k).1 (tail e)) (head e)
  where
    head : ◌≡◌ {A = List ℕ} (x ∷ (xs ++ c ∷ us)) (y ∷ (ys ++ c ∷ vs)) → x ≡ y
    head e = cc

    tail : ◌≡◌ {A = List ℕ} (x ∷ (xs ++ c ∷ us)) (y ∷ (ys ++ c ∷ vs)) → xs ++ c ∷ us ≡ ys ++ c ∷ vs
    tail e = cc

    both : (xs ≡ ys) × (us ≡ vs) → x ≡ y → (x ∷ xs ≡ y ∷ ys) × (us ≡ vs)
    both p q = (cc, p.1)

pub ids : (a b : List ℕ) (r s : Option (List ℕ)) → list_all (is_other 35) a ≡ true → list_all (is_other 35) b ≡ true → a ++ relation_part r ≡ b ++ relation_part s → (a ≡ b) × (r ≡ s)
ids a b None None x y e = (sym (append-nil a) ∙ e ∙ append-nil b, refl)
ids a b None (Some s) x y e = absurd (never_in 35 b s (ap (list_all (is_other 35)) (sym e ∙ append-nil a) ∙ x))
ids a b (Some r) None x y e = absurd (never_in 35 a r (ap (list_all (is_other 35)) (e ∙ append-nil b) ∙ y))
ids a b (Some r) (Some s) x y e = let p = cut 35 a b r s x y e in (p.0, ap (λ n. Some n) p.1)

pub one_subject : (a b : Subject) → IsSubject a → IsSubject b → subject_text a ≡ subject_text b → a ≡ b
one_subject a b is_a is_b e =
    let p = cut 58 a.object.namespace b.object.namespace (a.object.id ++ relation_part a.relation) (b.object.id ++ relation_part b.relation)
    (name_lacks 58 refl a.object.namespace is_a.0.0) (name_lacks 58 refl b.object.namespace is_b.0.0)
    (sym (append_assoc a.object.namespace (58 ∷ a.object.id) (relation_part a.relation)) ∙ e ∙ append_assoc b.object.namespace (58 ∷ b.object.id) (relation_part b.relation)) in
    let q = ids a.object.id b.object.id a.relation b.relation (id_lacks 35 refl a.object.id is_a.0.1) (id_lacks 35 refl b.object.id is_b.0.1) p.1 in
    whole p.0 q.0 q.1
  where
    whole : a.object.namespace ≡ b.object.namespace → a.object.id ≡ b.object.id → a.relation ≡ b.relation → a ≡ b
    whole p q r = λ i. record { object = record { namespace = p i; id = q i }; relation = r i }

-- rows are of one tuple where the tuples are one
pub same_texts : (l : TupleSpan) (t : Tuple) → IsTuple l.tuple → IsTuple t → same_tuple (span_of l) (span_of (record { tuple = t; added = 0; removed = 0 })) ≡ is_same_tuple t l.tuple
same_texts l t is_l is_t = same_bool _ _ same back
  where
    bytes : (a b : List ℕ) → bytes_eq a b ≡ true → a ≡ b
    bytes a b = (bytes_eq-Decides a b).0

    equal : (a : List ℕ) → bytes_eq a a ≡ true
    equal a = (bytes_eq-Decides a a).1 refl

    same : same_tuple (span_of l) (span_of (record { tuple = t; added = 0; removed = 0 })) ≡ true → is_same_tuple t l.tuple ≡ true
    same h =
        let p = and_parts (bytes_eq l.tuple.node.object.namespace t.node.object.namespace) _ h in
        let q = and_parts (bytes_eq l.tuple.node.object.id t.node.object.id) _ p.1 in
        let r = and_parts (bytes_eq l.tuple.node.relation t.node.relation) (bytes_eq (subject_text l.tuple.subject) (subject_text t.subject)) q.1 in
        by_parts (bytes _ _ p.0) (bytes _ _ q.0) (bytes _ _ r.0) (one_subject l.tuple.subject t.subject is_l.1 is_t.1 (bytes _ _ r.1))
      where
        by_parts : l.tuple.node.object.namespace ≡ t.node.object.namespace → l.tuple.node.object.id ≡ t.node.object.id → l.tuple.node.relation ≡ t.node.relation → l.tuple.subject ≡ t.subject → is_same_tuple t l.tuple ≡ true
        by_parts a b c d =
            let e : l.tuple ≡ t = λ i. record { node = record { object = record { namespace = a i; id = b i }; relation = c i }; subject = d i } in
            ap (is_same_tuple t) e ∙ itself t

    back : is_same_tuple t l.tuple ≡ true → same_tuple (span_of l) (span_of (record { tuple = t; added = 0; removed = 0 })) ≡ true
    back h = ap (λ (u : Tuple). same_tuple (span_of (record { tuple = u; added = l.added; removed = l.removed })) (span_of (record { tuple = t; added = 0; removed = 0 }))) (sym (one_tuple t l.tuple h))
        ∙ and_from (bytes_eq t.node.object.namespace t.node.object.namespace) _ (equal t.node.object.namespace)
        (and_from (bytes_eq t.node.object.id t.node.object.id) _ (equal t.node.object.id)
        (and_from (bytes_eq t.node.relation t.node.relation) _ (equal t.node.relation) (equal (subject_text t.subject))))
