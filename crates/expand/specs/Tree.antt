-- The userset tree of a node in a snapshot: its rewrite, with the leaves filled from the tuples (Zanzibar, section 2.4).
use Rattle.std.specs.Prelude.{ℕ, List, [], ◌∷◌, ◌++◌, map, filter, Bool, cond, Option, Some, None}
use Rattle.std.proofs.Common.{zero, suc}
use Rattle.std.specs.List.{find, filter_map, list_any}
use Rattle.std.specs.Ordering.{eq_by_cmp}
use Rattle.names.specs.Order.{node_cmp}
use Rattle.names.specs.declared.object.Object.{Object}
use Rattle.names.specs.declared.node.Node.{Node}
use Rattle.names.specs.declared.subject.Subject.{Subject}
use Rattle.meaning.specs.TupleSet as set
use Rattle.meaning.specs.Snap.{Snap}
use Rattle.meaning.specs.Form.{Form, Forms, This, Computed, TupleTo, Union, Intersection, Exclusion, none, more}
use Rattle.meaning.specs.Config.{Configured, Defined, rel_of, relation_in}
use Rattle.meaning.specs.Admits.{is_relation, has_relation}
use Rattle.tuple_keys.specs.Named.{is_of}
use Rattle.expand.specs.UsersetTree.{UsersetTree, UsersetTrees, trees}
use Rattle.expand.specs.UsersetTree as made

-- the object's node of the relation
abbrev pub node_with : List ℕ → Object → Node
node_with relation o = record { object = o; relation = relation }

-- the subjects of the node's tuples, in the order of tuples
abbrev pub subjects_of : Snap → Node → List Subject
subjects_of S n = map (λ t. t.subject) (filter (is_of n) (set.items S.tuples))

-- an object is one; a userset is what `inner` makes of it
abbrev pub leaf_of : (Node → UsersetTree) → Object → Option (List ℕ) → UsersetTree
leaf_of inner o None = made.One o
leaf_of inner o (Some relation) = inner (node_with relation o)

abbrev pub leaf : (Node → UsersetTree) → Subject → UsersetTree
leaf inner s = leaf_of inner s.object s.relation

-- the node of a relation of the object that is the subject, where the object's namespace has the relation
abbrev pub parent_of : Configured → List ℕ → Object → Option (List ℕ) → Option Node
parent_of config relation p None = cond (has_relation config (relation_in p.namespace relation)) (Some (node_with relation p)) None
parent_of config relation p (Some r) = None

abbrev pub parent : Configured → List ℕ → Subject → Option Node
parent config relation s = parent_of config relation s.object s.relation

-- the nodes of a relation, of the objects that the node's tupleset names, in the order of tuples
abbrev pub parents_of : Snap → Node → (tupleset relation : List ℕ) → List Node
parents_of S n tupleset relation = filter_map (parent S.config relation) (subjects_of S (node_with tupleset n.object))

-- the rewrite's tree at the node n, where `inner` makes the trees of usersets
abbrev mutual
  pub filled : Snap → (Node → UsersetTree) → Node → Form → UsersetTree
  filled S inner n This = made.Union (trees (map (leaf inner) (subjects_of S n)))
  filled S inner n (Computed relation) = inner (node_with relation n.object)
  filled S inner n (TupleTo tupleset relation) = made.Union (trees (map inner (parents_of S n tupleset relation)))
  filled S inner n (Union ws) = made.Union (all_filled S inner n ws)
  filled S inner n (Intersection ws) = made.Intersection (all_filled S inner n ws)
  filled S inner n (Exclusion a b) = made.Exclusion (filled S inner n a) (filled S inner n b)

  pub all_filled : Snap → (Node → UsersetTree) → Node → Forms → UsersetTrees
  all_filled S inner n none = made.none
  all_filled S inner n (more w ws) = made.more (filled S inner n w) (all_filled S inner n ws)

-- the node's relation, if the configuration has it
abbrev pub definition_of : Configured → Node → Option Defined
definition_of config n = find (is_relation (rel_of n)) config.relations

-- the node with its rewrite's tree; with no rewrite it stays closed
abbrev pub opened : Snap → (Node → UsersetTree) → Node → Option Defined → UsersetTree
opened S inner n (Some d) = made.Opened n (filled S inner n d.form)
opened S inner n None = made.Closed n

abbrev pub is_among : List Node → Node → Bool
is_among path n = list_any (eq_by_cmp node_cmp n) path

-- A userset below the open nodes of a path: opened while fewer nodes are open than may be, so `left` more, and it is not one of them; else closed.
abbrev pub userset : Snap → (left : ℕ) → (path : List Node) → Node → UsersetTree
userset S zero path n = made.Closed n
userset S (suc left) path n = cond (is_among path n) (made.Closed n) (opened S (userset S left (path ++ n ∷ [])) n (definition_of S.config n))

-- the tree of the node, where at most `depth` nodes may be open on a path
abbrev pub tree : Snap → Node → (depth : ℕ) → UsersetTree
tree S n depth = userset S depth [] n
