-- What the body of a call asks, and what a question is answered.
use Rattle.std.specs.Prelude.{ℕ, ◌≡◌, List, Option}
use Rattle.names.specs.declared.call.Call.{Call}
use Rattle.names.specs.declared.call.Call.TheVariants.{Check as CheckCall, Read as ReadCall, Expand as ExpandCall, Lookup as LookupCall, Leopard, Watch as WatchCall, State as StateCall}
use Rattle.names.specs.declared.refusal.Refusal.{Refusal}
use Rattle.names.specs.declared.refusal.Refusal.TheVariants.{Malformed}
use Rattle.zookie.specs.Text.{zookie_text}
use Rattle.expand.specs.Viewed.{tree_of}
use Rattle.leopard.specs.Exprs.{query_of}
use Rattle.shown.specs.declared.question.Question.{Question}
use Rattle.shown.specs.declared.question.Question.TheVariants.{Check, Expand, Read, Lookup, Groups, Watch, State}
use Rattle.shown.specs.declared.question.Told.{Told}
use Rattle.shown.specs.declared.question.Told.TheVariants.{Checked, Expanded, Found, Looked, Grouped, Watched, Numbers}
use Rattle.bodies.specs.Requests.{AsksCheck, CheckCause}
use Rattle.bodies.specs.Expanding.{AsksExpand, ExpandBodyCause}
use Rattle.bodies.specs.Paging.{AsksRead, ReadBodyCause, page_data as tuples_data}
use Rattle.bodies.specs.Looking.{AsksLookup, LookupBodyCause, objects_data}
use Rattle.bodies.specs.Grouping.{AsksGroups, GroupsBodyCause, groups_data}
use Rattle.bodies.specs.Watching.{AsksWatch, WatchBodyCause}
use Rattle.bodies.specs.Trees.{expanded_data}
use Rattle.bodies.specs.Pages.{page_data}
use Rattle.bodies.specs.Replies.{Says, answer_data, state_data}

-- the body of the call asks this; who asks for the state asks it with any body
abbrev pub Asks : Call → List ℕ → Question → Type 0
Asks CheckCall body (Check consistency node user) = AsksCheck body consistency node user
Asks ExpandCall body (Expand consistency node depth) = AsksExpand body consistency node depth.nodes
Asks ReadCall body (Read consistency asked) = AsksRead body consistency asked
Asks LookupCall body (Lookup consistency asked) = AsksLookup body consistency asked
Asks Leopard body (Groups consistency expr limit) = AsksGroups body consistency (query_of expr) limit
Asks WatchCall body (Watch cursor namespaces commits) = AsksWatch body cursor namespaces commits
Asks StateCall body State = Unit {0}
Asks call body question = ⊥

-- why it asks nothing: it is of another form, its zookie is none, or there was no memory to read it; a change asks nothing
abbrev pub AsksNothing : Call → List ℕ → Refusal → Type 0
AsksNothing CheckCall body why = CheckCause body why
AsksNothing ExpandCall body why = ExpandBodyCause body why
AsksNothing ReadCall body why = ReadBodyCause body why
AsksNothing LookupCall body why = LookupBodyCause body why
AsksNothing Leopard body why = GroupsBodyCause body why
AsksNothing WatchCall body why = WatchBodyCause body why
AsksNothing StateCall body why = ⊥
AsksNothing call body why = why ≡ Malformed

-- the reply says what a question was told, with zookies of the store that has this number
abbrev pub SaysTold : ℕ → Told → Option (ℕ × List ℕ) → Type 0
SaysTold store (Checked answer) told = Says told 200 (answer_data answer.value (zookie_text store answer.rev))
SaysTold store (Expanded answer) told = Says told 200 (expanded_data (tree_of answer.value) (zookie_text store answer.rev))
SaysTold store (Found answer) told = Says told 200 (tuples_data answer.value (zookie_text store answer.rev))
SaysTold store (Looked answer) told = Says told 200 (objects_data answer.value.namespace answer.value.ids (zookie_text store answer.rev))
SaysTold store (Grouped answer) told = Says told 200 (groups_data answer.value (zookie_text store answer.rev))
SaysTold store (Watched page) told = Says told 200 (page_data store page)
SaysTold store (Numbers numbers) told = Says told 200 (state_data store numbers)
