-- What is found of a part of a rewrite.
use Rattle.std.specs.Prelude.{List, Bool, true, false, Contains}
use Rattle.names.specs.declared.node.Node.{Node}
use Rattle.meaning.specs.Snap.{Snap}
use Rattle.meaning.specs.Form.{Form, Exclusion}
use Rattle.meaning.specs.Membership.{Gives, RelationGives}
use Rattle.decide.specs.declared.asking.Asking.{Asking}
use Rattle.decide.specs.declared.asking.Found.{Found}
use Rattle.decide.specs.declared.asking.Found.TheVariants as found
use Rattle.decide.specs.declared.search.Search.{Search}
use Rattle.decide.specs.inside.Under.{Under}
use Rattle.decide.specs.inside.Asked.{Counts, IsLeft}
use Rattle.decide.specs.inside.Ending.{IsUnfinished}

-- the part gives the user; or nothing that is left can make it; or some lower level is to be finished first
abbrev pub Gave : Snap → Search → Asking → Form → Found → Type 0
Gave S s a w found.Yes = Gives S a.user.now a.node.now w (Counts S a) (Under S a.user.now a.level)
Gave S s a w found.No = Gives S a.user.now a.node.now w (IsLeft S s a) (Under S a.user.now a.level) → ⊥
Gave S s a w found.Later = IsUnfinished s a.level

-- the first part of an exclusion gives the user
abbrev pub BaseGives : Snap → Asking → Form → Type 0
BaseGives S a (Exclusion v w) = Gives S a.user.now a.node.now v (Counts S a) (Under S a.user.now a.level)
BaseGives S a _ = ⊥

-- the same of the node's own relation
abbrev pub RelationGave : Snap → Search → Asking → Found → Type 0
RelationGave S s a found.Yes = RelationGives S a.user.now a.node.now (Counts S a) (Under S a.user.now a.level)
RelationGave S s a found.No = RelationGives S a.user.now a.node.now (IsLeft S s a) (Under S a.user.now a.level) → ⊥
RelationGave S s a found.Later = IsUnfinished s a.level

-- the same of a node that is looked up
abbrev pub HasNode : Snap → Search → Asking → Node → Found → Type 0
HasNode S s a m found.Yes = Counts S a m
HasNode S s a m found.No = IsLeft S s a m → ⊥
HasNode S s a m found.Later = IsUnfinished s a.level

-- one of the nodes counts; or none that is left does
abbrev pub HasSome : Snap → Search → Asking → List Node → Found → Type 0
HasSome S s a ms found.Yes = (m : Node) × Contains ms m × Counts S a m
HasSome S s a ms found.No = (m : Node) → Contains ms m → IsLeft S s a m → ⊥
HasSome S s a ms found.Later = IsUnfinished s a.level

abbrev pub no_or_later : Bool → Found
no_or_later true = found.Later
no_or_later false = found.No

abbrev pub opposite : Found → Found
opposite found.Yes = found.No
opposite found.No = found.Yes
opposite found.Later = found.Later
