-- What an index that was made beside the desk leaves and tells.
use Rattle.std.specs.Prelude.{◌≡◌, ℕ, false, Option}
use Rattle.shown.specs.declared.step.Step.TheVariants.{Rebase}
use Rattle.shown.specs.Standing.{standing, base_cause}
use Rattle.published.specs.Receipts.{ReceiptFacts}
use Rattle.desk.specs.Posts.{Posts, PostsStep}
use Rattle.desk.specs.Changes.{TellsShown}

-- The base of the index is made of the revision, against which nothing speaks. That is posted and changes nothing of the tables. It
-- is told, and the receipt names the newest shown revision.
pub record InstallAccepted {T : Type 0}
    (old : Posts T) (rev : ℕ) (base : ℕ) (receipt : ReceiptFacts) (new : Posts T) : Type 0 where
  pub works : old.failed ≡ false
  pub accepted : base_cause (standing old.posted) rev ≡ Option.None
  pub posts : PostsStep old (Rebase rev) new
  pub tables : new.tables ≡ old.tables
  pub stored : new.failed ≡ false
  pub told : base ≡ (standing new.posted).base
  pub tells : TellsShown receipt new
