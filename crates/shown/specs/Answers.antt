-- What a check is answered, and why it is refused.
use Rattle.std.specs.Prelude.{◌≡◌, ◌↔◌, ℕ, Bool, true, false, IsTrue, Option, Some, None}
use Rattle.names.specs.declared.node.Node.{Node}
use Rattle.names.specs.declared.object.Object.{Object}
use Rattle.names.specs.declared.refusal.Refusal.{Refusal}
use Rattle.names.specs.declared.refusal.Refusal.TheVariants.{UnknownRelation, Memory}
use Rattle.meaning.specs.Config.{rel_of}
use Rattle.meaning.specs.Admits.{has_relation}
use Rattle.meaning.specs.Membership.{IsMember}
use Rattle.rows.specs.Retained.{newest, snap_at}
use Rattle.zookie.specs.declared.consistency.Consistency.{Consistency}
use Rattle.zookie.specs.Fits.{Fits, IsAnswerable, IsFirstCause, IsChoice}
use Rattle.shown.specs.declared.answer.Answer.{Answer}
use Rattle.shown.specs.declared.answer.Refused.{Refused}
use Rattle.shown.specs.Standing.{Standing}

-- The question is answered at the revision: it is of this store, not of the future, retained and as fresh as
-- was asked; where an older one serves, it is that of the index.
pub record IsAskedAt (s : Standing) (consistency : Consistency) (rev : ℕ) : Type 0 where
  pub answerable : IsAnswerable consistency s.kept.number s.kept.floor (newest s.kept)
  pub fits : Fits consistency s.kept.floor (newest s.kept) rev
  pub chosen : IsChoice consistency (newest s.kept) s.index rev

-- the answer is at such a revision, and says whether the user is a member of the node there
pub record IsChecked
    (s : Standing) (consistency : Consistency) (node : Node) (user : Object)
    (rev : ℕ) (allowed : Bool) : Type 0 where
  pub asked : IsAskedAt s consistency rev
  pub meaning : IsTrue allowed ↔ IsMember (snap_at s.kept rev) user node
  pub known : has_relation (snap_at s.kept rev).config (rel_of node) ≡ true

-- the node's relation is not there at the revision that was chosen
pub record IsUnknownAt
    (s : Standing) (consistency : Consistency) (node : Node) (at : Option ℕ) : Type 0 where
  pub rev : ℕ
  pub at_rev : at ≡ Some rev
  pub asked : IsAskedAt s consistency rev
  pub unknown : has_relation (snap_at s.kept rev).config (rel_of node) ≡ false

-- the first cause of the zookie, or else that the relation is not there; or there was no memory
abbrev pub CheckRefused : Standing → Consistency → Node → Refusal → Option ℕ → Type 0
CheckRefused s consistency node UnknownRelation at = IsUnknownAt s consistency node at
CheckRefused s consistency node Memory at = at ≡ None
CheckRefused s consistency node why at =
    IsFirstCause consistency s.kept.number s.kept.floor (newest s.kept) why × (at ≡ None)

-- the answer says so of the revision that it names
abbrev pub IsAnswer : Standing → Consistency → Node → Object → Answer Bool → Type 0
IsAnswer s consistency node user answer = IsChecked s consistency node user answer.rev answer.value

-- the question is refused for this, at the revision that is named, if one is
abbrev pub IsRefusal : Standing → Consistency → Node → Refused → Type 0
IsRefusal s consistency node refused = CheckRefused s consistency node refused.why refused.at
