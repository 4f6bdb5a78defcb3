-- What each question is told, and why it is refused.
use Rattle.std.specs.Prelude.{◌≡◌, None}
use Rattle.names.specs.declared.refusal.Refusal.TheVariants.{Future}
use Rattle.leopard.specs.Exprs.{query_of}
use Rattle.shown.specs.declared.answer.Refused.{Refused}
use Rattle.shown.specs.declared.question.Question.{Question}
use Rattle.shown.specs.declared.question.Question.TheVariants.{Check, Expand, Read, Lookup, Groups, Watch, State}
use Rattle.shown.specs.declared.question.Told.{Told}
use Rattle.shown.specs.declared.question.Told.TheVariants.{Checked, Expanded, Found, Looked, Grouped, Watched, Numbers}
use Rattle.shown.specs.Standing.{Standing, state_of}
use Rattle.shown.specs.Answers.{IsAnswer, IsRefusal}
use Rattle.shown.specs.Expanding.{IsTree, IsTreeRefusal}
use Rattle.shown.specs.Paging.{IsPage, IsPageRefusal}
use Rattle.shown.specs.Looking.{AreObjects, IsLookupRefusal}
use Rattle.shown.specs.Grouping.{AreGroups, IsGroupsRefusal}
use Rattle.shown.specs.Watching.{IsWatched, WatchRefused}

-- Each question is told of its own kind: a check whether the user is a member, an expand the tree, a read the page, a lookup the
-- objects, a question about groups the groups, a watch the events, at a revision that fits; and who asks for the state its numbers.
abbrev pub IsTold : Standing → Question → Told → Type 0
IsTold s (Check consistency node user) (Checked answer) = IsAnswer s consistency node user answer
IsTold s (Expand consistency node depth) (Expanded answer) = IsTree s consistency node depth.nodes answer
IsTold s (Read consistency asked) (Found answer) = IsPage s consistency asked answer
IsTold s (Lookup consistency asked) (Looked answer) = AreObjects s consistency asked answer
IsTold s (Groups consistency expr limit) (Grouped answer) = AreGroups s consistency (query_of expr) limit answer
IsTold s (Watch cursor namespaces commits) (Watched page) = IsWatched s cursor namespaces commits page
IsTold s State (Numbers numbers) = numbers ≡ state_of s
IsTold s question told = ⊥

-- the question is refused for this, at the revision that is named, if one is; the state is always told
abbrev pub RefusesQuestion : Standing → Question → Refused → Type 0
RefusesQuestion s (Check consistency node user) refused = IsRefusal s consistency node refused
RefusesQuestion s (Expand consistency node depth) refused = IsTreeRefusal s consistency node depth.nodes refused
RefusesQuestion s (Read consistency asked) refused = IsPageRefusal s consistency refused
RefusesQuestion s (Lookup consistency asked) refused = IsLookupRefusal s consistency asked refused
RefusesQuestion s (Groups consistency expr limit) refused = IsGroupsRefusal s consistency (query_of expr) limit refused
RefusesQuestion s (Watch cursor namespaces commits) refused = WatchRefused s cursor refused.why × (refused.at ≡ None)
RefusesQuestion s State refused = ⊥

-- the question is of a revision that is not there yet, and is refused for that
pub record IsAhead (s : Standing) (question : Question) : Type 0 where
  pub refused : Refused
  pub why : refused.why ≡ Future
  pub refuses : RefusesQuestion s question refused
