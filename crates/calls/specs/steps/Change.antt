-- What is answered to a call that changes something.
use Rattle.std.specs.Prelude.{ℕ, ◌≡◌, List, Option}
use Rattle.names.specs.declared.call.Call.{Call}
use Rattle.names.specs.declared.refusal.Refusal.{Refusal}
use Rattle.tables.specs.declared.tables.Tables.{Ghosts}
use Rattle.published.specs.Receipts.{ReceiptFacts}
use Rattle.desk.specs.Posts.{Posts}
use Rattle.desk.specs.Changes.{IsRefused}
use Rattle.desk.specs.Made.{IsMade, MayStore, SpeaksAgainst}
use Rattle.desk.specs.declared.change.Change.{Change}
use Rattle.desk.specs.declared.change.Made.{Made}
use Rattle.bodies.specs.Replies.{SaysRefusal}
use Rattle.calls.specs.Changes.{AsksChange, AsksNoChange, SaysMade}

-- The body asks for no change, or there was no memory to read it; the change is made, and told of; or it is refused, by what
-- is posted, and what is posted stays. No session is given out.
pub data ChangeStep {T : Type 0} (g : Ghosts T) (old : Posts T) (call : Call) (body : List ℕ) (told : Option (ℕ × List ℕ)) (new : Posts T) : Type 0 where
  changes_nothing : (why : Refusal) → AsksNoChange call body why → SaysRefusal told why → new ≡ old → ChangeStep g old call body told new
  is_made : (change : Change) (made : Made) (receipt : ReceiptFacts)
      → AsksChange call body change → IsMade g old change made receipt new → SaysMade made receipt told → new.seats ≡ old.seats → ChangeStep g old call body told new
  is_not_made : (change : Change) (why : Refusal) → AsksChange call body change → IsRefused g old (MayStore old change) (SpeaksAgainst old change) why new
      → SaysRefusal told why → new.seats ≡ old.seats → ChangeStep g old call body told new
