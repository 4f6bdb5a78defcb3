-- The nodes that were found are those whose tuples name the object, or the members of the node.
use Rattle.std.proofs.Common.{◌≡◌, ℕ, List, refl, ap, sym, subst, ◌∙◌}
use Rattle.std.specs.Prelude.{Bool, true, filter, ◌↔◌, Contains, Option, Some, None}
use Rattle.std.specs.Option.{option_map}
use Rattle.names.specs.declared.object.Object.{Object}
use Rattle.names.specs.declared.node.Node.{Node}
use Rattle.names.specs.declared.tuple.Tuple.{Tuple}
use Rattle.meaning.specs.TupleSet as set
use Rattle.meaning.specs.TupleSet.{Tuples}
use Rattle.meaning.specs.Snap.{one, set_of}
use Rattle.meaning.proofs.TupleSets.{contains_iff}
use Rattle.tuple_keys.specs.Named.{is_at, is_of, without}
use Rattle.tuple_keys.proofs.Spellings.{same_object, object_itself, same_node, node_itself}
use Rattle.rows.proofs.Naming.{contains_kept, kept_contains, contains_given, given_contains}
use Rattle.by_subject.specs.Turned.{turned}
use Rattle.by_subject.specs.inside.Texts.{namer_in, set_namer_in}
use Rattle.by_subject.proofs.Going.{given}

-- Where one tuple alone gives a node, that is found exactly where the tuple is there.
by_one : (h : Tuple → Option Node) (g : Tuple → Bool) (self : Tuples) (n : Node) (u : Tuple) → g u ≡ true → h u ≡ Some n → ((t : Tuple) → g t ≡ true → h t ≡ Some n → t ≡ u)
    → (found : List Node) → found ≡ given h g (set.items self) → Contains found n ↔ (set.contains self u ≡ true)
by_one h g self n u passes gives alone found same = (
  λ c.
      let a = contains_given h (filter g (set.items self)) n (subst (λ (ns : List Node). Contains ns n) same c) in
      let b = contains_kept g (set.items self) a.0 a.1 in
      subst (λ (t : Tuple). set.contains self t ≡ true) (alone a.0 b.1 a.2) ((contains_iff self a.0).1 b.0),
  λ has. subst (λ (ns : List Node). Contains ns n) (sym same) (given_contains h (filter g (set.items self)) u n (kept_contains g (set.items self) u ((contains_iff self u).0 has) passes) gives),
)

abbrev or_node : Node → Option Node → Node
or_node d None = d
or_node d (Some n) = n

-- ---- of an object

namer_parts : (o : Object) (n m : Node) (u : Object) (r : Option (List ℕ)) → m.object ≡ o → option_map (λ v. record { object = v; relation = m.relation }) (without u r) ≡ Some n
    → record { node = m; subject = record { object = u; relation = r } } ≡ turned (record { node = n; subject = one o })
namer_parts o n m u None at gives =
    ap (λ (k : Option Node). record { node = record { object = m.object; relation = (or_node n k).relation }; subject = one (or_node n k).object }) gives
    ∙ ap (λ (p : Object). record { node = record { object = p; relation = n.relation }; subject = one n.object }) at
namer_parts o n m u (Some r) at gives = cc

namer_alone : (o : Object) (n : Node) (t : Tuple) → is_at o t ≡ true → namer_in t ≡ Some n → t ≡ turned (record { node = n; subject = one o })
namer_alone o n t at gives = namer_parts o n t.node t.subject.object t.subject.relation (same_object t.node.object o at) gives

pub named_by : (self : Tuples) (o : Object) (found : List Node) → found ≡ given namer_in (is_at o) (set.items self)
    → (n : Node) → Contains found n ↔ (set.contains self (turned (record { node = n; subject = one o })) ≡ true)
named_by self o found same n = by_one namer_in (is_at o) self n (turned (record { node = n; subject = one o })) (object_itself o) refl (namer_alone o n) found same

-- ---- of a node's members

set_namer_parts : (m n : Node) (u : Object) (r : Option (List ℕ)) → option_map (λ relation. record { object = u; relation = relation }) r ≡ Some n
    → record { node = m; subject = record { object = u; relation = r } } ≡ turned (record { node = n; subject = set_of m })
set_namer_parts m n u None gives = cc
set_namer_parts m n u (Some r) gives = ap (λ (k : Option Node). record { node = m; subject = set_of (or_node n k) }) gives

set_namer_alone : (m : Node) (n : Node) (t : Tuple) → is_of m t ≡ true → set_namer_in t ≡ Some n → t ≡ turned (record { node = n; subject = set_of m })
set_namer_alone m n t at gives =
    ap (λ (k : Node). record { node = k; subject = t.subject }) (same_node t.node m at) ∙ set_namer_parts m n t.subject.object t.subject.relation gives

pub set_named_by : (self : Tuples) (m : Node) (found : List Node) → found ≡ given set_namer_in (is_of m) (set.items self)
    → (n : Node) → Contains found n ↔ (set.contains self (turned (record { node = n; subject = set_of m })) ≡ true)
set_named_by self m found same n = by_one set_namer_in (is_of m) self n (turned (record { node = n; subject = set_of m })) (node_itself m) refl (set_namer_alone m n) found same
