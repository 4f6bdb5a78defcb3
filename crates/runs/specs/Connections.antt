-- What a desk does over connections, one after another, and what it leaves of its tables.
use Rattle.std.specs.Prelude.{ℕ, ◌≡◌, ◌⊎◌, false, List, [], ◌∷◌, map, Some, zero, suc}
use Rattle.std.specs.List.{All}
use Rattle.names.specs.declared.call.Call.{Call}
use Rattle.httparse.specs.Grammar.{RequestHead}
use Rattle.tables.specs.Device.{Lasts}
use Rattle.tables.specs.declared.tables.Tables.{Ghosts}
use Rattle.desk.specs.TableChanges.{TableChange, changed, CanChange}
use Rattle.desk.specs.Posts.{Posts}
use Rattle.calls.specs.Rules.{DeskStep}
use Rattle.answers.specs.declared.end.End.{End}
use Rattle.answers.specs.Machine.{Step}
use Rattle.http_api.specs.Routes.{route_of}
use Rattle.http_api.specs.Connection.{HasRequest, Next, Text}
use Rattle.http_api.specs.Talks.{Talked, TalkedSoFar, TalkCut}
use Rattle.tracked_io.specs.Tracking.{TrackedWriting}
use Rattle.calls.specs.Beginning.{kept_by}
use Rattle.runs.specs.Runs.{AsksStored}

-- ---- what was asked for

-- the request asks for the change
abbrev pub RequestAsks : RequestHead → List ℕ → TableChange → Type 0
RequestAsks head body change = (call : Call) × (route_of head.method head.target ≡ Some call) × AsksStored call body change

-- one of so many requests, from the front of the input on, asks for the change
abbrev pub IsAmongRequests : ℕ → List ℕ → TableChange → Type 0
IsAmongRequests zero input change = ⊥
IsAmongRequests (suc count) input change = (head : RequestHead) × (body : List ℕ) × (rest : List ℕ) × HasRequest input head body rest
    × (RequestAsks head body change ⊎ IsAmongRequests count rest change)

-- a request in the input of a connection asks for the change
abbrev pub IsRequestedIn : List ℕ → TableChange → Type 0
IsRequestedIn input change = (count : ℕ) × IsAmongRequests count input change

-- a request in one of these inputs does
abbrev pub IsRequestedInOne : List (List ℕ) → TableChange → Type 0
IsRequestedInOne [] change = ⊥
IsRequestedInOne (input ∷ inputs) change = IsRequestedIn input change ⊎ IsRequestedInOne inputs change

-- ---- what was written

-- the text of the connection over this input was written, of a run of the desk, and it ends so
abbrev pub TalkedBy : {T W : Type 0} → Ghosts T → TrackedWriting W → List ℕ → TrackedWriting W → End → Posts T → Posts T → Type 0
TalkedBy g old input new end first last = Talked (DeskStep g) first old.taken input last new.taken end

-- the same, as if the input had ended here
abbrev pub TalkedSoFarBy : {T W : Type 0} → Ghosts T → TrackedWriting W → List ℕ → TrackedWriting W → Posts T → Posts T → Type 0
TalkedSoFarBy g old input new first last = TalkedSoFar (DeskStep g) first old.taken input last new.taken

-- a beginning of the text of some first requests was written
abbrev pub TalkCutBy : {T W : Type 0} → Ghosts T → TrackedWriting W → List ℕ → TrackedWriting W → Posts T → Posts T → Type 0
TalkCutBy g old input new first last = TalkCut (DeskStep g) first old.taken input last new.taken

-- ---- one connection after another

-- connections with these inputs, the last one first: each has its text, from where the one before left the machine
abbrev pub Connections : {S : Type 0} → Step S → S → List (List ℕ) → S → Type 0
Connections step s [] t = t ≡ s
Connections {S} step s (input ∷ inputs) t = (mid : S) × (text : List ℕ) × (next : Next) × Connections step s inputs mid × Text step mid input text t next

-- Connections with these inputs, the last one first, took a desk from the first state to this one. Its tables hold the history of
-- the posted steps as long as they have not failed. What the end of the process or a crash leaves of them holds it, perhaps with
-- one change more that a request asked for.
pub record HasServed {T : Type 0} (g : Ghosts T) (first : Posts T) (inputs : List (List ℕ)) (desk : Posts T) : Type 0 where
  pub ran : Connections (DeskStep g) first inputs desk
  pub holds : desk.failed ≡ false → g.holds desk.tables (kept_by desk)
  pub more : List TableChange
  pub follow : All (CanChange (kept_by desk)) more
  pub asked : All (IsRequestedInOne inputs) more
  pub leaves : g.leaves desk.tables (kept_by desk ∷ map (changed (kept_by desk)) more)
  pub lasts : Lasts (g.device first.tables) (g.device desk.tables)

-- a connection with this input did this, and a desk that had served others has served this one more
pub record Serves {T : Type 0} (g : Ghosts T) (input : List ℕ) (Did : Posts T → Posts T → Type 0) (old new : Posts T) : Type 0 where
  pub did : Did old new
  pub served : (first : Posts T) (inputs : List (List ℕ)) → HasServed g first inputs old → HasServed g first (input ∷ inputs) new

-- some connections took a desk from the first state to this one
abbrev pub IsServing : {T : Type 0} → Ghosts T → Posts T → Posts T → Type 0
IsServing g first desk = (inputs : List (List ℕ)) × HasServed g first inputs desk

-- what is known of a desk that has served some connections is still known
abbrev pub StaysServing : {T : Type 0} → Ghosts T → Posts T → Posts T → Type 0
StaysServing {T} g old new = (first : Posts T) → IsServing g first old → IsServing g first new
