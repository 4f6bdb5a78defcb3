-- What the refusal of a part says of the whole text: that nothing is spelled so.
use Rattle.std.proofs.Common.{◌≡◌, ℕ, Bool, true, false, IsTrue, List, Option, Some, None, Result, IfErr, Bor, refl, sym, ap, ◌∙◌, arith, true≢false}
use Rattle.std.specs.List.{list_all}
use Rattle.std.specs.Result.{IsErrAnd}
use Rattle.std.proofs.lemmas.Result.{err_from_is_err_and}
use Rattle.std.proofs.lemmas.Str.Pattern.{IsSplitOnceResult, split_parts}
use Rattle.names.specs.Names.{is_name, is_id, is_name_byte, is_id_byte}
use Rattle.names.specs.Refusals.{IsMalformed, ReadCause}
use Rattle.names.specs.Spelling.{IsObject, IsNode, IsNameOrNone, SpellsObject, SpellsNode, SpellsSubject, SpellsTuple, SpellsType, object_text, node_text, subject_text}
use Rattle.names.specs.declared.refusal.Refusal.{Refusal}
use Rattle.names.specs.declared.refusal.Refusal.TheVariants.{Malformed, Memory}
use Rattle.names.specs.declared.object.Object.{Object}
use Rattle.names.specs.declared.node.Node.{Node}
use Rattle.names.specs.declared.subject.Subject.{Subject}
use Rattle.names.specs.declared.tuple.Tuple.{Tuple}
use Rattle.names.specs.declared.relation.SubjectType.{SubjectType}
use Rattle.names.proofs.Splitting.{Lacks, is_other, lacks_refused, lacks_joined, cut_at, cut_optional}

pub malformed_map : {P Q : Type 0} → (P → Q) → (e : Refusal) → IsMalformed P e → IsMalformed Q e
malformed_map f Malformed p = f p
malformed_map f _ p = absurd p

-- a reader that takes memory, of a part that takes none
pub read_map : {P Q : Type 0} → (P → Q) → (e : Refusal) → IsMalformed P e → ReadCause Q e
read_map f Malformed p = f p
read_map f _ p = absurd p

pub read_cause_map : {P Q : Type 0} → (P → Q) → (e : Refusal) → ReadCause P e → ReadCause Q e
read_cause_map f Malformed p = f p
read_cause_map f Memory p = tt
read_cause_map f _ p = absurd p

-- at the exit of a `?`
pub malformed_exit : {T P Q : Type 0} → (r : Result T Refusal) (e : Refusal) → IsErrAnd r (λ x. x ≡ e) → (P → Q) → IsMalformed P e → IfErr r (λ x. IsMalformed Q x)
malformed_exit r e was f cause = let p = err_from_is_err_and r was in rw (p.1, p.2) (malformed_map f e cause)

pub read_exit : {T P Q : Type 0} → (r : Result T Refusal) (e : Refusal) → IsErrAnd r (λ x. x ≡ e) → (P → Q) → ReadCause P e → IfErr r (λ x. ReadCause Q x)
read_exit r e was f cause = let p = err_from_is_err_and r was in rw (p.1, p.2) (read_cause_map f e cause)

pub read_part : {T P Q : Type 0} → (r : Result T Refusal) (e : Refusal) → IsErrAnd r (λ x. x ≡ e) → (P → Q) → IsMalformed P e → IfErr r (λ x. ReadCause Q x)
read_part r e was f cause = let p = err_from_is_err_and r was in rw (p.1, p.2) (read_map f e cause)

clash : (p : List ℕ → Bool) (xs ys : List ℕ) → xs ≡ ys → p xs ≡ false → IsTrue (p ys) → ⊥
clash p xs ys e refused good = let g : p ys ≡ true = good in true≢false (sym g ∙ ap p (sym e) ∙ refused)

name_bytes : (xs : List ℕ) → IsTrue (is_name xs) → list_all is_name_byte xs ≡ true
name_bytes xs h = grind arith

id_bytes : (xs : List ℕ) → IsTrue (is_id xs) → list_all is_id_byte xs ≡ true
id_bytes xs h = grind arith

name_lacks : (c : ℕ) → is_name_byte c ≡ false → (xs : List ℕ) → IsTrue (is_name xs) → Lacks c xs
name_lacks c refused xs h = lacks_refused is_name_byte c refused xs (name_bytes xs h)

id_lacks : (c : ℕ) → is_id_byte c ≡ false → (xs : List ℕ) → IsTrue (is_id xs) → Lacks c xs
id_lacks c refused xs h = lacks_refused is_id_byte c refused xs (id_bytes xs h)

object_lacks : (c : ℕ) → is_name_byte c ≡ false → is_id_byte c ≡ false → is_other c 58 ≡ true → (o : Object) → IsObject o → Lacks c (object_text o)
object_lacks c name id other o is =
    lacks_joined c 58 other o.namespace o.id (name_lacks c name o.namespace is.0) (id_lacks c id o.id is.1)

node_lacks : (n : Node) → IsNode n → Lacks 64 (node_text n)
node_lacks n is =
    lacks_joined 64 35 refl (object_text n.object) n.relation (object_lacks 64 refl refl refl n.object is.0) (name_lacks 64 refl n.relation is.1)

pub object_uncut : (text : List ℕ) → IsSplitOnceResult 58 text None → (o : Object) → SpellsObject text o → ⊥
object_uncut text split o s =
    cut_at 58 text o.namespace o.id None split (omega arith) s.spelling (name_lacks 58 refl o.namespace s.is.0)

object_cut : (text : List ℕ) (a b : Bor (List ℕ)) → IsSplitOnceResult 58 text (Some (a, b)) → (o : Object) → SpellsObject text o → (a.now ≡ o.namespace) × (b.now ≡ o.id)
object_cut text a b split o s =
    cut_at 58 text o.namespace o.id (Some (a, b)) split (omega arith) s.spelling (name_lacks 58 refl o.namespace s.is.0)

pub object_namespace_refused : (text : List ℕ) (a b : Bor (List ℕ)) → IsSplitOnceResult 58 text (Some (a, b)) → is_name a.now ≡ false → (o : Object) → SpellsObject text o → ⊥
object_namespace_refused text a b split refused o s = clash is_name a.now o.namespace (object_cut text a b split o s).0 refused s.is.0

pub object_id_refused : (text : List ℕ) (a b : Bor (List ℕ)) → IsSplitOnceResult 58 text (Some (a, b)) → is_id b.now ≡ false → (o : Object) → SpellsObject text o → ⊥
object_id_refused text a b split refused o s = clash is_id b.now o.id (object_cut text a b split o s).1 refused s.is.1

pub object_spelled : (text : List ℕ) (a b : Bor (List ℕ)) → IsSplitOnceResult 58 text (Some (a, b)) → IsTrue (is_name a.now) → (o : Object) → (o.namespace ≡ a.now) × (o.id ≡ b.now) × IsTrue (is_id b.now) → SpellsObject text o
object_spelled text a b split name o is =
    let parts = split_parts 58 text (Some (a, b)) split (omega arith) in
    record { is = (rw is.0 name, rw is.1 is.2); spelling = rw (is.0, is.1) (sym parts.0) }

pub node_uncut : (text : List ℕ) → IsSplitOnceResult 35 text None → (n : Node) → SpellsNode text n → ⊥
node_uncut text split n s =
    cut_at 35 text (object_text n.object) n.relation None split (omega arith) s.spelling (object_lacks 35 refl refl refl n.object s.is.0)

node_cut : (text : List ℕ) (a b : Bor (List ℕ)) → IsSplitOnceResult 35 text (Some (a, b)) → (n : Node) → SpellsNode text n → (a.now ≡ object_text n.object) × (b.now ≡ n.relation)
node_cut text a b split n s =
    cut_at 35 text (object_text n.object) n.relation (Some (a, b)) split (omega arith) s.spelling (object_lacks 35 refl refl refl n.object s.is.0)

pub node_object_refused : (text : List ℕ) (a b : Bor (List ℕ)) → IsSplitOnceResult 35 text (Some (a, b)) → ((o : Object) → SpellsObject a.now o → ⊥) → (n : Node) → SpellsNode text n → ⊥
node_object_refused text a b split refused n s = refused n.object (record { is = s.is.0; spelling = sym (node_cut text a b split n s).0 })

pub node_relation_refused : (text : List ℕ) (a b : Bor (List ℕ)) → IsSplitOnceResult 35 text (Some (a, b)) → is_name b.now ≡ false → (n : Node) → SpellsNode text n → ⊥
node_relation_refused text a b split refused n s = clash is_name b.now n.relation (node_cut text a b split n s).1 refused s.is.1

pub subject_uncut_refused : (text : List ℕ) → IsSplitOnceResult 35 text None → ((o : Object) → SpellsObject text o → ⊥) → (s : Subject) → SpellsSubject text s → ⊥
subject_uncut_refused text split refused s spells =
    let parts = cut_optional text (object_text s.object) s.relation None split spells.spelling (object_lacks 35 refl refl refl s.object spells.is.0) in
    refused s.object (record { is = spells.is.0; spelling = parts.1 })

subject_cut : (text : List ℕ) (a b : Bor (List ℕ)) → IsSplitOnceResult 35 text (Some (a, b)) → (s : Subject) → SpellsSubject text s → (a.now ≡ object_text s.object) × (s.relation ≡ Some b.now)
subject_cut text a b split s spells =
    cut_optional text (object_text s.object) s.relation (Some (a, b)) split spells.spelling (object_lacks 35 refl refl refl s.object spells.is.0)

pub subject_object_refused : (text : List ℕ) (a b : Bor (List ℕ)) → IsSplitOnceResult 35 text (Some (a, b)) → ((o : Object) → SpellsObject a.now o → ⊥) → (s : Subject) → SpellsSubject text s → ⊥
subject_object_refused text a b split refused s spells =
    refused s.object (record { is = spells.is.0; spelling = sym (subject_cut text a b split s spells).0 })

is_some_name : (relation : Option (List ℕ)) (name : List ℕ) → relation ≡ Some name → IsNameOrNone relation → IsTrue (is_name name)
is_some_name relation name e is = rw e at is

pub subject_relation_refused : (text : List ℕ) (a b : Bor (List ℕ)) → IsSplitOnceResult 35 text (Some (a, b)) → is_name b.now ≡ false → (s : Subject) → SpellsSubject text s → ⊥
subject_relation_refused text a b split refused s spells =
    clash is_name b.now b.now refl refused (is_some_name s.relation b.now (subject_cut text a b split s spells).1 spells.is.1)

pub tuple_uncut : (text : List ℕ) → IsSplitOnceResult 64 text None → (t : Tuple) → SpellsTuple text t → ⊥
tuple_uncut text split t s =
    cut_at 64 text (node_text t.node) (subject_text t.subject) None split (omega arith) s.spelling (node_lacks t.node s.is.0)

tuple_cut : (text : List ℕ) (a b : Bor (List ℕ)) → IsSplitOnceResult 64 text (Some (a, b)) → (t : Tuple) → SpellsTuple text t → (a.now ≡ node_text t.node) × (b.now ≡ subject_text t.subject)
tuple_cut text a b split t s =
    cut_at 64 text (node_text t.node) (subject_text t.subject) (Some (a, b)) split (omega arith) s.spelling (node_lacks t.node s.is.0)

pub tuple_node_refused : (text : List ℕ) (a b : Bor (List ℕ)) → IsSplitOnceResult 64 text (Some (a, b)) → ((n : Node) → SpellsNode a.now n → ⊥) → (t : Tuple) → SpellsTuple text t → ⊥
tuple_node_refused text a b split refused t s = refused t.node (record { is = s.is.0; spelling = sym (tuple_cut text a b split t s).0 })

pub tuple_subject_refused : (text : List ℕ) (a b : Bor (List ℕ)) → IsSplitOnceResult 64 text (Some (a, b)) → ((s : Subject) → SpellsSubject b.now s → ⊥) → (t : Tuple) → SpellsTuple text t → ⊥
tuple_subject_refused text a b split refused t s = refused t.subject (record { is = s.is.1; spelling = sym (tuple_cut text a b split t s).1 })

type_lacks : (t : SubjectType) → IsTrue (is_name t.namespace) → Lacks 35 t.namespace
type_lacks t is = name_lacks 35 refl t.namespace is

pub type_uncut_refused : (text : List ℕ) → IsSplitOnceResult 35 text None → is_name text ≡ false → (t : SubjectType) → SpellsType text t → ⊥
type_uncut_refused text split refused t s =
    let parts = cut_optional text t.namespace t.relation None split s.spelling (type_lacks t s.is.0) in
    clash is_name text t.namespace (sym parts.1) refused s.is.0

type_cut : (text : List ℕ) (a b : Bor (List ℕ)) → IsSplitOnceResult 35 text (Some (a, b)) → (t : SubjectType) → SpellsType text t → (a.now ≡ t.namespace) × (t.relation ≡ Some b.now)
type_cut text a b split t s = cut_optional text t.namespace t.relation (Some (a, b)) split s.spelling (type_lacks t s.is.0)

pub type_namespace_refused : (text : List ℕ) (a b : Bor (List ℕ)) → IsSplitOnceResult 35 text (Some (a, b)) → is_name a.now ≡ false → (t : SubjectType) → SpellsType text t → ⊥
type_namespace_refused text a b split refused t s = clash is_name a.now t.namespace (type_cut text a b split t s).0 refused s.is.0

pub type_relation_refused : (text : List ℕ) (a b : Bor (List ℕ)) → IsSplitOnceResult 35 text (Some (a, b)) → is_name b.now ≡ false → (t : SubjectType) → SpellsType text t → ⊥
type_relation_refused text a b split refused t s =
    clash is_name b.now b.now refl refused (is_some_name t.relation b.now (type_cut text a b split t s).1 s.is.1)
