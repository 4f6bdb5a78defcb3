-- What an answer says.
use Rattle.std.specs.Prelude.{◌↔◌, Bool, IsTrue}
use Rattle.names.specs.declared.object.Object.{Object}
use Rattle.names.specs.declared.node.Node.{Node}
use Rattle.meaning.specs.Snap.{Snap}
use Rattle.meaning.specs.Membership.{IsMember}

-- the answer is yes exactly where the user is a member
abbrev pub IsAnswer : Snap → Object → Node → Bool → Type 0
IsAnswer S u n answer = IsTrue answer ↔ IsMember S u n
