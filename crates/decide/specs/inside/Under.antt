-- The members of lower levels.
use Rattle.std.specs.Prelude.{ℕ}
use Rattle.names.specs.declared.object.Object.{Object}
use Rattle.names.specs.declared.node.Node.{Node}
use Rattle.meaning.specs.Snap.{Snap}
use Rattle.meaning.specs.Config.{IsAt}
use Rattle.meaning.specs.Least.{Below}
use Rattle.meaning.specs.Membership.{RelationGives}

-- the user is a member of the node, whose level is below k
abbrev pub Under : Snap → Object → ℕ → Node → Type 0
Under S u k = Below (IsAt S.config) (RelationGives S u) k
