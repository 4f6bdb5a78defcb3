-- What comes of a change.
use Rattle.std.specs.Prelude.{◌≡◌}
use Rattle.names.specs.declared.commit.Commit.TheVariants.{Config as ConfigCommit}
use Rattle.names.specs.declared.refusal.Refusal.{Refusal}
use Rattle.rows.specs.Judging.{ConfigRefused}
use Rattle.verdict.specs.Verdict.{RefusesWrite}
use Rattle.tables.specs.declared.tables.Tables.{Ghosts}
use Rattle.shown.specs.Standing.{standing}
use Rattle.shown.specs.Raising.{RefusesFloor, RefusesMarking}
use Rattle.published.specs.Receipts.{ReceiptFacts}
use Rattle.desk.specs.TableChanges.{TableChange, Adds}
use Rattle.desk.specs.Posts.{Posts, newest_posted}
use Rattle.desk.specs.Changes.{WriteAccepted, ConfigAccepted, TrimAccepted, CatchUpAccepted, MarkingAccepted, RebuildAccepted, IsCommitOfWrite, IsRaiseTo, IsNoChange, CatchUpJudged, RebuildJudged}
use Rattle.desk.specs.declared.change.Change.{Change}
use Rattle.desk.specs.declared.change.Change.TheVariants.{Write, Config, Trim, CatchUp, Mark, Rebuild}
use Rattle.desk.specs.declared.change.Made.{Made}
use Rattle.desk.specs.declared.change.Made.TheVariants.{Commit, Floor, Cursor, Marked, Base}

-- the change was made, and this is told of it
abbrev pub IsMade : {T : Type 0} → Ghosts T → Posts T → Change → Made → ReceiptFacts → Posts T → Type 0
IsMade g old (Write write) Commit receipt new = WriteAccepted g old write receipt new
IsMade g old (Config config) Commit receipt new = ConfigAccepted g old config receipt new
IsMade g old (Trim zookie) (Floor rev) receipt new = TrimAccepted g old zookie rev receipt new
IsMade g old (CatchUp part commits) (Cursor rev) receipt new = CatchUpAccepted old part commits rev receipt new
IsMade g old (Mark marking) (Marked count) receipt new = MarkingAccepted old marking count receipt new
IsMade g old Rebuild (Base rev) receipt new = RebuildAccepted old rev receipt new
IsMade g old change made receipt new = ⊥

-- what tables may be asked to store for it
abbrev pub MayStore : {T : Type 0} → Posts T → Change → TableChange → Type 0
MayStore old (Write write) = IsCommitOfWrite (standing old.posted).kept write
MayStore old (Config config) = λ change. change ≡ Adds (ConfigCommit config)
MayStore old (Trim zookie) = IsRaiseTo (standing old.posted) zookie
MayStore old change = IsNoChange

-- what speaks against it, by all that is posted
abbrev pub SpeaksAgainst : {T : Type 0} → Posts T → Change → Refusal → Type 0
SpeaksAgainst old (Write write) = RefusesWrite (standing old.posted).kept write
SpeaksAgainst old (Config config) = ConfigRefused (newest_posted old) config
SpeaksAgainst old (Trim zookie) = RefusesFloor (standing old.posted) zookie
SpeaksAgainst old (CatchUp part commits) = CatchUpJudged commits
SpeaksAgainst old (Mark marking) = RefusesMarking (standing old.posted) marking
SpeaksAgainst old Rebuild = RebuildJudged
