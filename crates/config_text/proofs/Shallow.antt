-- The data of a configuration whose rewrites are shallow nests little.
use Rattle.std.proofs.Common.{ℕ, suc, ◌+◌, ◌*◌, ◌≤◌, List, [], ◌∷◌, Bool, true, false, cond, arith, nat_cmp, Ordering, Less, Equal, Greater}
use Rattle.std.specs.Prelude.{codes, nat_eq, max}
use Rattle.std.specs.List.{AllByRecursion}
use Rattle.std.specs.Ordering.{match_ordering}
use Rattle.std.specs.Cmp.Lexicographic.{slice_cmp, pointwise}
use Rattle.std.proofs.Math.Nat.{le-max_left, le-max_right, max-le}
use Rattle.serde_json.specs.Data.{Data, object, array, boolean, Members, no_members, member, put, depth, items_depth, members_depth}
use Rattle.names.specs.declared.relation.SubjectType.{SubjectType}
use Rattle.meaning.specs.Form.{Form, Forms, This, Computed, TupleTo, Union, Intersection, Exclusion, none, more}
use Rattle.meaning.specs.Config.{Configured, Defined}
use Rattle.config_text.specs.Size.{form_depth, forms_depth}
use Rattle.config_text.specs.Canonical.{form_data, forms_data, types_data, with_types, is_this, with_rewrite, with_indexed, relation_data, relation_into, relations_into, namespaces_into, config_data}

most : (a b k : ℕ) → a ≤ k → b ≤ k → max a b ≤ k
most a b k h g = max-le h g

parts_low : (a b k : ℕ) → max a b ≤ k → (a ≤ k) × (b ≤ k)
parts_low a b k h = let l = le-max_left a b in let r = le-max_right a b in (omega (arith, h, l), omega (arith, h, r))

-- an object of one member that is an array
boxed : (x m : ℕ) → x ≤ 2 * m → suc (max (suc x) 0) ≤ 2 * (1 + m)
boxed x m h = let p = most (suc x) 0 (suc (2 * m)) (omega (arith, h)) (omega arith) in omega (arith, p)

mutual
  form_low : (f : Form) → depth (form_data f) ≤ 2 * form_depth f
  form_low This = omega arith
  form_low (Computed r) = omega arith
  form_low (TupleTo t r) = omega arith
  form_low (Union ws) = boxed (items_depth (forms_data ws)) (forms_depth ws) (forms_low ws)
  form_low (Intersection ws) = boxed (items_depth (forms_data ws)) (forms_depth ws) (forms_low ws)
  form_low (Exclusion a b) =
      let l = le-max_left (form_depth a) (form_depth b) in let r = le-max_right (form_depth a) (form_depth b) in
      let x = form_low a in let y = form_low b in let m = max (form_depth a) (form_depth b) in
      let second = most (depth (form_data b)) 0 (2 * m) (omega (arith, y, r)) (omega arith) in
      boxed (max (depth (form_data a)) (max (depth (form_data b)) 0)) m (most (depth (form_data a)) (max (depth (form_data b)) 0) (2 * m) (omega (arith, x, l)) second)

  forms_low : (ws : Forms) → items_depth (forms_data ws) ≤ 2 * forms_depth ws
  forms_low none = omega arith
  forms_low (more w ws) =
      let l = le-max_left (form_depth w) (forms_depth ws) in let r = le-max_right (form_depth w) (forms_depth ws) in
      let x = form_low w in let y = forms_low ws in let m = max (form_depth w) (forms_depth ws) in
      most (depth (form_data w)) (items_depth (forms_data ws)) (2 * m) (omega (arith, x, l)) (omega (arith, y, r))

put_low_at : (o : Ordering) (b : ℕ) (k l : List ℕ) (d e : Data) (ms : Members) → depth d ≤ b → depth e ≤ b → members_depth ms ≤ b → members_depth (put k d ms) ≤ b
    → members_depth (match_ordering o (member k d (member l e ms)) (member l d ms) (member l e (put k d ms))) ≤ b
put_low_at Less b k l d e ms hd he hm hp = most (depth d) (max (depth e) (members_depth ms)) b hd (most (depth e) (members_depth ms) b he hm)
put_low_at Equal b k l d e ms hd he hm hp = most (depth d) (members_depth ms) b hd hm
put_low_at Greater b k l d e ms hd he hm hp = most (depth e) (members_depth (put k d ms)) b he hp

put_low : (b : ℕ) (k : List ℕ) (d : Data) (ms : Members) → depth d ≤ b → members_depth ms ≤ b → members_depth (put k d ms) ≤ b
put_low b k d no_members hd hm = most (depth d) 0 b hd (omega arith)
put_low b k d (member l e ms) hd hm = let p = parts_low (depth e) (members_depth ms) b hm in put_low_at (slice_cmp nat_cmp k l) b k l d e ms hd p.0 p.1 (put_low b k d ms hd p.1)

types_low : (ts : List SubjectType) → items_depth (types_data ts) ≤ 0
types_low [] = omega arith
types_low (t ∷ ts) = most 0 (items_depth (types_data ts)) 0 (omega arith) (types_low ts)

with_types_low : (ts : List SubjectType) → members_depth (with_types ts no_members) ≤ 32
with_types_low [] = omega arith
with_types_low (t ∷ ts) = let h = types_low (t ∷ ts) in put_low 32 (codes "types") (array (types_data (t ∷ ts))) no_members (omega (arith, h)) (omega arith)

cond_low : (c : Bool) (b : ℕ) (ms ns : Members) → members_depth ms ≤ b → members_depth ns ≤ b → members_depth (cond c ms ns) ≤ b
cond_low true b ms ns hm hn = hm
cond_low false b ms ns hm hn = hn

with_indexed_low : (c : Bool) (ms : Members) → members_depth ms ≤ 32 → members_depth (with_indexed c ms) ≤ 32
with_indexed_low false ms h = h
with_indexed_low true ms h = put_low 32 (codes "indexed") (boolean true) ms (omega arith) h

relation_low : (d : Defined) → form_depth d.form ≤ 16 → depth (relation_data d) ≤ 33
relation_low d h =
    let written = with_types d.types no_members in let types = with_types_low d.types in let low = form_low d.form in
    let rewrite = cond_low (is_this d.form) 32 written (put (codes "rewrite") (form_data d.form) written) types (put_low 32 (codes "rewrite") (form_data d.form) written (omega (arith, low, h)) types) in
    let all = with_indexed_low d.indexed (with_rewrite d.form written) rewrite in
    omega (arith, all)

relations_low : (n : List ℕ) (ms : Members) (ds : List Defined) → AllByRecursion (λ d. form_depth d.form ≤ 16) ds → members_depth ms ≤ 33 → members_depth (relations_into n ms ds) ≤ 33
relations_low n ms [] all h = h
relations_low n ms (d ∷ ds) all h =
    relations_low n (relation_into n ms d) ds all.1
    (cond_low (pointwise nat_eq d.rel.namespace n) 33 (put d.rel.relation (relation_data d) ms) ms (put_low 33 d.rel.relation (relation_data d) ms (relation_low d all.0) h) h)

namespaces_low : (ds : List Defined) (ms : Members) (ns : List (List ℕ)) → AllByRecursion (λ d. form_depth d.form ≤ 16) ds → members_depth ms ≤ 34 → members_depth (namespaces_into ds ms ns) ≤ 34
namespaces_low ds ms [] all h = h
namespaces_low ds ms (n ∷ ns) all h =
    let low = relations_low n no_members ds all (omega arith) in
    namespaces_low ds (put n (object (relations_into n no_members ds)) ms) ns all (put_low 34 n (object (relations_into n no_members ds)) ms (omega (arith, low)) h)

pub config_low : (c : Configured) → AllByRecursion (λ d. form_depth d.form ≤ 16) c.relations → depth (config_data c) ≤ 127
config_low c all =
    let low = namespaces_low c.relations no_members c.namespaces all (omega arith) in
    let inner = most (suc (members_depth (namespaces_into c.relations no_members c.namespaces))) 0 35 (omega (arith, low)) (omega arith) in
    omega (arith, inner)
