-- What gives a node a user, where some nodes are held, and those of the finished lower levels are listed too.
use Rattle.std.specs.Prelude.{◌≡◌, ℕ, ◌<◌, ◌≤◌, List, Contains, length, map, slice_index_or}
use Rattle.names.specs.declared.object.Object.{Object}
use Rattle.names.specs.declared.node.Node.{Node}
use Rattle.meaning.specs.Form.{This, TupleTo}
use Rattle.meaning.specs.Membership.{Gives, SomeGives, EachGives, RelationGives}
use Rattle.config_text.specs.declared.rewrite.Rewrite.{Rewrite}
use Rattle.config.specs.Forms.{form_of, forms_of}
use Rattle.plain.specs.declared.source.Source.{Source}
use Rattle.plain.specs.inside.Source.{snap_of}

-- a tuple of the node does
abbrev pub TupleGives : Source → Object → Node → List Node → Type 0
TupleGives s u n held = Gives (snap_of s) u n This (Contains held) (Contains held)

-- a tuple of the tupleset's node does, by an object whose relation is held
abbrev pub TuplesetGives : Source → Object → Node → List ℕ → List ℕ → List Node → Type 0
TuplesetGives s u n tupleset relation held = Gives (snap_of s) u n (TupleTo tupleset relation) (Contains held) (Contains held)

abbrev pub RewriteGives : Source → Object → Node → Rewrite → List Node → List Node → Type 0
RewriteGives s u n rewrite held lower = Gives (snap_of s) u n (form_of rewrite) (Contains held) (Contains lower)

abbrev pub SomePartGives : Source → Object → Node → List Rewrite → List Node → List Node → Type 0
SomePartGives s u n parts held lower = SomeGives (snap_of s) u n (forms_of (map form_of parts)) (Contains held) (Contains lower)

abbrev pub EachPartGives : Source → Object → Node → List Rewrite → List Node → List Node → Type 0
EachPartGives s u n parts held lower = EachGives (snap_of s) u n (forms_of (map form_of parts)) (Contains held) (Contains lower)

-- the rewrite of the node's own relation does
abbrev pub IsGiven : Source → Object → Node → List Node → List Node → Type 0
IsGiven s u n held lower = RelationGives (snap_of s) u n (Contains held) (Contains lower)

-- the node at place i is given
abbrev pub IsGivenAt : Source → Object → List Node → ℕ → List Node → List Node → Type 0
IsGivenAt s u nodes i held lower = (i < length nodes) × ((d : Node) → IsGiven s u (slice_index_or nodes i d) held lower)

-- from place i on, no node is given
abbrev pub NoneIsGiven : Source → Object → List Node → ℕ → List Node → List Node → Type 0
NoneIsGiven s u nodes i held lower = (k : ℕ) (m : Node) → i ≤ k → k < length nodes → slice_index_or nodes k m ≡ m → IsGiven s u m held lower → ⊥
