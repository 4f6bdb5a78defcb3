-- What is of no form of a question.
use Rattle.std.specs.Prelude.{ℕ, ◌≤◌, List, length}
use Rattle.serde_json.specs.Data.{Data}
use Rattle.names.specs.declared.node.Node.{Node}
use Rattle.zookie.specs.declared.Zookie.{Zookie}
use Rattle.rows.specs.declared.tupleset.Tupleset.{Tupleset}
use Rattle.lookup.specs.declared.asked.Lookup.{Lookup}
use Rattle.leopard.specs.Query.{Query}
use Rattle.watch.specs.declared.limits.TheConstants.{MAX_NAMES}
use Rattle.watch.specs.declared.watched.Namespaces.{Namespaces}
use Rattle.bodies.specs.Requests.{IsAnyText}
use Rattle.bodies.specs.Expanding.{ExpandOf}
use Rattle.bodies.specs.Paging.{ReadOf}
use Rattle.bodies.specs.Looking.{LookupOf}
use Rattle.bodies.specs.Grouping.{GroupsOf}
use Rattle.bodies.specs.Writing.{IsListOf}
use Rattle.bodies.specs.Watching.{AsksName, WatchOf}

-- it is about no node and depth
abbrev pub IsOfNoExpand : Data → Type 0
IsOfNoExpand d = (node : Node) (depth : ℕ) → ¬ (ExpandOf d node depth)

-- it asks for no tupleset
abbrev pub IsOfNoRead : Data → Type 0
IsOfNoRead d = (asked : Tupleset) → ¬ (ReadOf d asked)

-- it asks for no objects
abbrev pub IsOfNoLookup : Data → Type 0
IsOfNoLookup d = (asked : Lookup) → ¬ (LookupOf d asked)

-- it asks for no groups
abbrev pub IsOfNoGroups : Data → Type 0
IsOfNoGroups d = (asked : Query) (limit : ℕ) → ¬ (GroupsOf d asked limit)

-- it is about no namespaces and commits, whatever the cursor
abbrev pub IsOfNoWatch : Data → Type 0
IsOfNoWatch d = (cursor : Zookie) (namespaces : Namespaces) (commits : ℕ) → ¬ (WatchOf IsAnyText d cursor namespaces commits)

-- the value is a list of 1 to 64 names
abbrev pub IsNameList : List (List ℕ) → Data → Type 0
IsNameList names d = IsListOf AsksName names d × (1 ≤ length names) × (length names ≤ MAX_NAMES)
