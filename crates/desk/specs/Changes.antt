-- What an accepted change leaves and tells, and why one is refused.
use Rattle.std.specs.Prelude.{◌≡◌, length, ◌<◌, ◌≤◌, ◌↔◌, ℕ, List, [], ◌∷◌, Bool, true, false, IsTrue, Option}
use Rattle.names.specs.declared.limits.TheConstants.{MAX_CATCH_UP}
use Rattle.names.specs.declared.write.Op.{Op}
use Rattle.names.specs.declared.write.Write.{Write}
use Rattle.names.specs.declared.commit.Event.{Event}
use Rattle.names.specs.declared.commit.Commit.{Commit}
use Rattle.names.specs.declared.commit.Commit.TheVariants.{Tuples, Config}
use Rattle.names.specs.declared.refusal.Refusal.{Refusal}
use Rattle.names.specs.declared.refusal.Refusal.TheVariants.{Malformed, Memory, StoreFault, Reopen}
use Rattle.meaning.specs.Config.{Configured}
use Rattle.meaning.specs.Verdict.{config_cause}
use Rattle.zookie.specs.declared.Zookie.{Zookie}
use Rattle.rows.specs.Retained.{Retained, newest}
use Rattle.rows.specs.Follows.{AreEventsOf}
use Rattle.verdict.specs.Verdict.{AcceptsWrite}
use Rattle.tables.specs.Device.{IsOpen, Lasts, HasFailed}
use Rattle.tables.specs.Storing.{one_more}
use Rattle.tables.specs.declared.tables.Tables.{Ghosts}
use Rattle.names.specs.declared.marking.Marking.{Marking}
use Rattle.names.specs.declared.part.Part.{Part}
use Rattle.shown.specs.declared.step.Step.TheVariants.{Commit as CommitStep, Take, Trim, Marking as MarkingStep, Rebase}
use Rattle.shown.specs.Marks.{marking_cause}
use Rattle.shown.specs.Standing.{Standing, standing, cursor_of, base_cause}
use Rattle.shown.specs.Raising.{floor_cause}
use Rattle.published.specs.Receipts.{ReceiptFacts}
use Rattle.desk.specs.TableChanges.{TableChange, Adds, Raises, changed, CanChange}
use Rattle.desk.specs.Posts.{Posts, IsSettled, SameTables, ShowsMore, PostsStep, shown_by, newest_posted}

-- the receipt tells of the desk as it is, and names the newest posted revision
pub record Tells {T : Type 0} (receipt : ReceiptFacts) (desk : Posts T) : Type 0 where
  pub number : receipt.number ≡ (standing desk.posted).kept.number
  pub rev : receipt.rev ≡ newest (standing desk.posted).kept
  pub shown : IsTrue receipt.shown ↔ (desk.shown ≡ desk.posted)
  pub published : receipt.published ≡ shown_by desk

-- the same, but for the revision, which is the newest that is shown
pub record TellsShown {T : Type 0} (receipt : ReceiptFacts) (desk : Posts T) : Type 0 where
  pub number : receipt.number ≡ (standing desk.posted).kept.number
  pub rev : receipt.rev ≡ newest (standing desk.shown).kept
  pub shown : IsTrue receipt.shown ↔ (desk.shown ≡ desk.posted)
  pub published : receipt.published ≡ shown_by desk

-- the receipt at a revision of the desk's store
abbrev pub receipt_at : {T : Type 0} → Posts T → ℕ → Bool → ReceiptFacts
receipt_at desk rev shown = record {
  number = (standing desk.posted).kept.number;
  rev = rev;
  shown = shown;
  published = shown_by desk;
}

-- the tables hold the posted steps' history, and what is left now holds it and no other; they are open, and their device
-- has gone on
pub record IsStored {T : Type 0} (g : Ghosts T) (old new : Posts T) : Type 0 where
  pub works : new.failed ≡ false
  pub holds : g.holds new.tables (standing new.posted).kept
  pub settled : g.leaves new.tables ((standing new.posted).kept ∷ [])
  pub is_open : IsOpen (g.device new.tables)
  pub lasts : Lasts (g.device old.tables) (g.device new.tables)

-- the write was accepted, and the commit of its operations is posted and stored, and the receipt tells of it
pub record WriteAccepted {T : Type 0} (g : Ghosts T) (old : Posts T) (write : Write Zookie) (receipt : ReceiptFacts) (new : Posts T) : Type 0 where
  pub works : old.failed ≡ false
  pub accepted : AcceptsWrite (standing old.posted).kept write
  pub events : List Event
  pub events_of : AreEventsOf write.ops events
  pub posts : PostsStep old (CommitStep (Tuples events)) new
  pub stored : IsStored g old new
  pub tells : Tells receipt new

-- the configuration was accepted, and is posted and stored, and the receipt tells of it
pub record ConfigAccepted {T : Type 0} (g : Ghosts T) (old : Posts T) (config : Configured) (receipt : ReceiptFacts) (new : Posts T) : Type 0 where
  pub works : old.failed ≡ false
  pub accepted : config_cause (newest_posted old) config ≡ Option.None
  pub posts : PostsStep old (CommitStep (Config config)) new
  pub stored : IsStored g old new
  pub tells : Tells receipt new

-- The part has taken the commits, which is posted and changes nothing of the tables. The receipt names the
-- newest shown revision.
pub record CatchUpAccepted {T : Type 0}
    (old : Posts T) (part : Part) (commits : ℕ) (cursor : ℕ) (receipt : ReceiptFacts)
    (new : Posts T) : Type 0 where
  pub works : old.failed ≡ false
  pub few : commits ≤ MAX_CATCH_UP
  pub posts : PostsStep old (Take part commits) new
  pub tables : new.tables ≡ old.tables
  pub stored : new.failed ≡ false
  pub moved : cursor ≡ cursor_of part (standing new.posted)
  pub tells : TellsShown receipt new

-- The floor was below the revision, and that it is raised to it is posted and stored; or it was not, and nothing is changed.
pub data IsTrimmed {T : Type 0} (g : Ghosts T) (old : Posts T) (rev : ℕ) (new : Posts T) : Type 0 where
  trim_raises : (standing old.posted).kept.floor < rev
      → PostsStep old (Trim rev) new → IsStored g old new → IsTrimmed g old rev new
  trim_stays : rev ≤ (standing old.posted).kept.floor
      → ShowsMore old new → SameTables old new → IsTrimmed g old rev new

-- Nothing speaks against the zookie's revision as the floor, and the floor is no lower now. It is told, and the receipt names
-- the newest shown revision.
pub record TrimAccepted {T : Type 0} (g : Ghosts T)
    (old : Posts T) (zookie : Zookie) (floor : ℕ) (receipt : ReceiptFacts) (new : Posts T) : Type 0 where
  pub works : old.failed ≡ false
  pub accepted : floor_cause (standing old.posted) zookie ≡ Option.None
  pub done : IsTrimmed g old zookie.rev new
  pub told : floor ≡ (standing new.posted).kept.floor
  pub tells : TellsShown receipt new

-- The node is marked, or its mark is taken away, which is posted and changes nothing of the tables. It is told how many nodes
-- are marked then, and the receipt names the newest shown revision.
pub record MarkingAccepted {T : Type 0}
    (old : Posts T) (marking : Marking) (marked : ℕ) (receipt : ReceiptFacts) (new : Posts T) : Type 0 where
  pub works : old.failed ≡ false
  pub accepted :
      marking_cause (newest_posted old).held.config (standing old.posted).marks marking ≡ Option.None
  pub posts : PostsStep old (MarkingStep marking) new
  pub tables : new.tables ≡ old.tables
  pub stored : new.failed ≡ false
  pub told : marked ≡ length (standing new.posted).marks
  pub tells : TellsShown receipt new

-- The base of the index is made of the newest posted revision, which is posted and changes nothing of the tables. It is told,
-- and the receipt names the newest shown revision.
pub record RebuildAccepted {T : Type 0}
    (old : Posts T) (base : ℕ) (receipt : ReceiptFacts) (new : Posts T) : Type 0 where
  pub works : old.failed ≡ false
  pub accepted : base_cause (standing old.posted) (newest (standing old.posted).kept) ≡ Option.None
  pub posts : PostsStep old (Rebase (newest (standing old.posted).kept)) new
  pub tables : new.tables ≡ old.tables
  pub stored : new.failed ≡ false
  pub told : base ≡ (standing new.posted).base
  pub tells : TellsShown receipt new

-- too many commits at once
abbrev pub CatchUpJudged : ℕ → Refusal → Type 0
CatchUpJudged commits Malformed = MAX_CATCH_UP < commits
CatchUpJudged commits _ = ⊥

-- nothing speaks against a base of the newest revision
abbrev pub RebuildJudged : Refusal → Type 0
RebuildJudged why = ⊥

-- the commit is that of the operations
abbrev pub IsCommitOf : List Op → Commit Configured → Type 0
IsCommitOf ops commit = (events : List Event) × AreEventsOf ops events × (commit ≡ Tuples events)

-- the commit of a write that the history accepts is added
abbrev pub IsCommitOfWrite : Retained → Write Zookie → TableChange → Type 0
IsCommitOfWrite r write (Adds commit) = AcceptsWrite r write × IsCommitOf write.ops commit
IsCommitOfWrite r write (Raises floor) = ⊥

-- the floor is raised to the zookie's revision, which nothing speaks against
abbrev pub IsRaiseTo : Standing → Zookie → TableChange → Type 0
IsRaiseTo s zookie change = (floor_cause s zookie ≡ Option.None) × (change ≡ Raises zookie.rev)

-- no change at all
abbrev pub IsNoChange : TableChange → Type 0
IsNoChange change = ⊥

-- What is left may hold one history more than before: that of the posted steps with the change. As long as the tables have
-- not failed, they hold that of the posted steps.
pub record MayLeave {T : Type 0} (g : Ghosts T) (old : Posts T) (change : TableChange) (new : Posts T) : Type 0 where
  pub follows : CanChange (standing old.posted).kept change
  pub adds : (rs : List Retained) → g.leaves old.tables rs → g.leaves new.tables (changed (standing old.posted).kept change ∷ rs)
  pub holds : new.failed ≡ false → g.holds new.tables (standing old.posted).kept

-- What is refused leaves the tables alone, or adds the one change that was asked for to what they may leave.
pub data Touches {T : Type 0} (g : Ghosts T) (old : Posts T) (made : TableChange → Type 0) (new : Posts T) : Type 0 where
  leaves_alone : new.tables ≡ old.tables → Touches g old made new
  adds_one : (change : TableChange) → made change → MayLeave g old change new → Touches g old made new

-- nothing speaks against the change
abbrev pub IsUnopposed : (Refusal → Type 0) → Type 0
IsUnopposed judged = (why : Refusal) → ¬ (judged why)

-- Why a change was refused, where `judged` says why it would be on the posted steps. After a fault every
-- change asks to open the tables again. A fault is one only where the device failed meanwhile. Want of memory and a fault
-- are told only of a change that nothing speaks against: to judge one takes no memory, and asks no tables.
abbrev pub Refuses : {T : Type 0} → Ghosts T → Posts T → (Refusal → Type 0) → Refusal → Posts T → Type 0
Refuses g old judged Reopen new = (old.failed ≡ true) × SameTables old new
Refuses g old judged StoreFault new =
    (old.failed ≡ false) × (new.failed ≡ true) × (new.faults ≡ one_more old.faults)
    × (IsOpen (g.device old.tables) → HasFailed (g.device old.tables) (g.device new.tables)) × IsUnopposed judged
Refuses g old judged Memory new = (old.failed ≡ false) × (new.failed ≡ false) × (new.faults ≡ old.faults) × IsUnopposed judged
Refuses g old judged why new = (old.failed ≡ false) × SameTables old new × judged why

-- Nothing is posted, and this is why. What an earlier refusal may have left beside the posted steps' history is there no more,
-- unless the tables have failed or were closed.
pub record IsRefused {T : Type 0} (g : Ghosts T) (old : Posts T) (made : TableChange → Type 0) (judged : Refusal → Type 0) (why : Refusal) (new : Posts T) : Type 0 where
  pub shows : ShowsMore old new
  pub cause : Refuses g old judged why new
  pub touches : Touches g old made new
  pub settled : IsSettled g new
  pub lasts : Lasts (g.device old.tables) (g.device new.tables)
