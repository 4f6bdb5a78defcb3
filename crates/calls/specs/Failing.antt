-- What a desk whose tables have failed is asked in vain.
use Rattle.std.specs.Prelude.{ℕ, ◌≡◌, true, List, Option}
use Rattle.names.specs.declared.call.Call.{Call}
use Rattle.names.specs.declared.refusal.Refusal.{Refusal}
use Rattle.names.specs.declared.refusal.Refusal.TheVariants.{Reopen}
use Rattle.desk.specs.Posts.{Posts}
use Rattle.desk.specs.declared.change.Change.{Change}
use Rattle.bodies.specs.Replies.{SaysRefusal}
use Rattle.calls.specs.Changes.{AsksChange, AsksNoChange}

-- The body asks for no change, or there was no memory to read it, and this is told; or it asks for one, and is told to open the
-- tables again.
pub data ToldInVain (call : Call) (body : List ℕ) (told : Option (ℕ × List ℕ)) : Type 0 where
  told_of_the_body : (why : Refusal) → AsksNoChange call body why → SaysRefusal told why → ToldInVain call body told
  told_to_reopen : (change : Change) → AsksChange call body change → SaysRefusal told Reopen → ToldInVain call body told

-- so it is, and the tables, which have failed, and what is posted stay as they are
pub record StaysFailed {T : Type 0}
    (old : Posts T) (call : Call) (body : List ℕ) (told : Option (ℕ × List ℕ)) (new : Posts T) : Type 0 where
  pub tells : ToldInVain call body told
  pub failed : new.failed ≡ true
  pub tables : new.tables ≡ old.tables
  pub posted : new.posted ≡ old.posted
