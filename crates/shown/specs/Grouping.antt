-- What a question about groups is answered, and why it is refused (Zanzibar, section 3.2.4).
use Rattle.std.specs.Prelude.{◌≡◌, ℕ, true, false, List, Option, Some, None}
use Rattle.names.specs.declared.node.Node.{Node}
use Rattle.names.specs.declared.refusal.Refusal.{Refusal}
use Rattle.names.specs.declared.refusal.Refusal.TheVariants.{Malformed, UnknownRelation, NotIndexed, Memory}
use Rattle.rows.specs.Retained.{newest, snap_at}
use Rattle.zookie.specs.declared.consistency.Consistency.{Consistency}
use Rattle.zookie.specs.Fits.{IsFirstCause}
use Rattle.leopard.specs.Query.{Query, is_allowed}
use Rattle.leopard.specs.Groups.{Means}
use Rattle.leopard.specs.Answers.{AreFirst}
use Rattle.leopard.specs.Causes.{IsAnswerable, AskCause}
use Rattle.shown.specs.declared.answer.Answer.{Answer}
use Rattle.shown.specs.declared.answer.Refused.{Refused}
use Rattle.shown.specs.Standing.{Standing}
use Rattle.shown.specs.Answers.{IsAskedAt}

-- the answer is at a revision that fits, and has the first of the groups that the expression means there; the configuration there can answer it
pub record IsGrouped (s : Standing) (consistency : Consistency) (asked : Query) (limit rev : ℕ) (groups : List Node) : Type 0 where
  pub asked_at : IsAskedAt s consistency rev
  pub answerable : IsAnswerable (snap_at s.kept rev).config asked limit
  pub groups_there : AreFirst limit (Means (snap_at s.kept rev) asked) groups

-- the configuration at the revision that was chosen cannot answer it, for this cause
pub record IsUnansweredAt (s : Standing) (consistency : Consistency) (asked : Query) (limit : ℕ) (why : Refusal) (at : Option ℕ) : Type 0 where
  pub rev : ℕ
  pub at_rev : at ≡ Some rev
  pub asked_at : IsAskedAt s consistency rev
  pub cause : AskCause (snap_at s.kept rev).config asked limit why

-- The expression or the limit is larger than allowed, or a union or an intersection has no part; else the first cause of the zookie; else a
-- relation is not there, or is not indexed; or there was no memory.
abbrev pub GroupsRefused : Standing → Consistency → Query → (limit : ℕ) → Refusal → Option ℕ → Type 0
GroupsRefused s consistency asked limit Malformed at = (is_allowed asked limit ≡ false) × (at ≡ None)
GroupsRefused s consistency asked limit UnknownRelation at = IsUnansweredAt s consistency asked limit UnknownRelation at
GroupsRefused s consistency asked limit NotIndexed at = IsUnansweredAt s consistency asked limit NotIndexed at
GroupsRefused s consistency asked limit Memory at = at ≡ None
GroupsRefused s consistency asked limit why at =
    (is_allowed asked limit ≡ true) × IsFirstCause consistency s.kept.number s.kept.floor (newest s.kept) why × (at ≡ None)

-- the answer is such groups, at the revision that it names
abbrev pub AreGroups : Standing → Consistency → Query → (limit : ℕ) → Answer (List Node) → Type 0
AreGroups s consistency asked limit answer = IsGrouped s consistency asked limit answer.rev answer.value

-- the question is refused for this, at the revision that is named, if one is
abbrev pub IsGroupsRefusal : Standing → Consistency → Query → (limit : ℕ) → Refused → Type 0
IsGroupsRefusal s consistency asked limit refused = GroupsRefused s consistency asked limit refused.why refused.at
