-- What a rewrite gives, and which users are members of which nodes (Zanzibar, sections 2.3 and 2.4): the least sets, level by level.
use Rattle.std.specs.Prelude.{◌≡◌, ◌⊎◌, Contains}
use Rattle.meaning.specs.TupleSet as set
use Rattle.names.specs.declared.object.Object.{Object}
use Rattle.names.specs.declared.node.Node.{Node}
use Rattle.names.specs.declared.tuple.Tuple.{Tuple}
use Rattle.meaning.specs.Snap.{Snap, one, set_of}
use Rattle.meaning.specs.Form.{Form, Forms, This, Computed, TupleTo, Union, Intersection, Exclusion, none, more}
use Rattle.meaning.specs.Config.{Defined, Defines, Has, IsAt, rel_of}
use Rattle.meaning.specs.Least.{IsGained}

-- the tuples have node@subject, for an object or a node as the subject
abbrev pub HasOne : Snap → Node → Object → Type 0
HasOne S n u = Contains (set.items S.tuples) (record { node = n; subject = one u })

abbrev pub HasSet : Snap → Node → Node → Type 0
HasSet S n m = Contains (set.items S.tuples) (record { node = n; subject = set_of m })

-- Whether w at the node n gives the user u, where X are the nodes that have u so far, and L those of the finished lower levels.
abbrev mutual
  pub Gives : Snap → Object → Node → Form → (Node → Type 0) → (Node → Type 0) → Type 0
  Gives S u n This X L = HasOne S n u ⊎ ((m : Node) × HasSet S n m × X m)
  Gives S u n (Computed c) X L = X (record { object = n.object; relation = c })
  Gives S u n (TupleTo t c) X L = (p : Object) × HasOne S (record { object = n.object; relation = t }) p × Has S.config (record { namespace = p.namespace; relation = c }) × X (record { object = p; relation = c })
  Gives S u n (Union ws) X L = SomeGives S u n ws X L
  Gives S u n (Intersection ws) X L = EachGives S u n ws X L
  Gives S u n (Exclusion a b) X L = Gives S u n a X L × ¬ (Gives S u n b L L)

  pub SomeGives : Snap → Object → Node → Forms → (Node → Type 0) → (Node → Type 0) → Type 0
  SomeGives S u n none X L = ⊥
  SomeGives S u n (more w ws) X L = Gives S u n w X L ⊎ SomeGives S u n ws X L

  pub EachGives : Snap → Object → Node → Forms → (Node → Type 0) → (Node → Type 0) → Type 0
  EachGives S u n none X L = Unit {0}
  EachGives S u n (more w ws) X L = Gives S u n w X L × EachGives S u n ws X L

-- the node's own rewrite gives the user
abbrev pub RelationGives : Snap → Object → Node → (Node → Type 0) → (Node → Type 0) → Type 0
RelationGives S u n X L = (d : Defined) × Defines S.config (rel_of n) d × Gives S u n d.form X L

-- the user is a member of the node
abbrev pub IsMember : Snap → Object → Node → Type 0
IsMember S u n = IsGained (IsAt S.config) (RelationGives S u) n

-- some tuple is of the node's object
abbrev pub IsKnown : Snap → Node → Type 0
IsKnown S n = (t : Tuple) × Contains (set.items S.tuples) t × (t.node.object ≡ n.object)

-- some tuple is of the user
abbrev pub IsUser : Snap → Object → Type 0
IsUser S u = (t : Tuple) × Contains (set.items S.tuples) t × (t.subject ≡ one u)
