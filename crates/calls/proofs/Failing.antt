-- A desk whose tables have failed makes no change.
use Rattle.std.proofs.Common.{◌≡◌, ℕ, Bool, true, false, true≢false, List, refl, ap, sym, ◌∙◌, subst}
use Rattle.std.specs.Prelude.{Option}
use Rattle.std.specs.Bool.{MatchBool}
use Rattle.names.specs.declared.call.Call.{Call}
use Rattle.names.specs.declared.refusal.Refusal.{Refusal}
use Rattle.names.specs.declared.refusal.Refusal.TheVariants.{Memory, StoreFault, Reopen}
use Rattle.tables.specs.declared.tables.Tables.{Ghosts}
use Rattle.published.specs.Receipts.{ReceiptFacts}
use Rattle.desk.specs.Posts.{Posts}
use Rattle.desk.specs.Changes.{Refuses, IsRefused}
use Rattle.desk.specs.Made.{IsMade, MayStore, SpeaksAgainst}
use Rattle.desk.specs.declared.change.Change.{Change}
use Rattle.desk.specs.declared.change.Change.TheVariants.{Write, Config, Trim, CatchUp, Mark, Rebuild}
use Rattle.desk.specs.declared.change.Made.{Made}
use Rattle.desk.specs.declared.change.Made.TheVariants.{Commit, Floor, Cursor, Marked, Base}
use Rattle.bodies.specs.Replies.{SaysRefusal}
use Rattle.calls.specs.Changes.{is_change, AsksChange}
use Rattle.calls.specs.Rules.{DeskStep}
use Rattle.calls.specs.steps.Ask.{AskStep}
use Rattle.calls.specs.steps.Change.{ChangeStep, changes_nothing, is_made, is_not_made}
use Rattle.calls.specs.Failing.{told_of_the_body, told_to_reopen, StaysFailed}

module _ {T : Type 0} (g : Ghosts T) (old new : Posts T) where
  made_works : (change : Change) (made : Made) (receipt : ReceiptFacts) → IsMade g old change made receipt new → old.failed ≡ false
  made_works (Write write) Commit receipt is = is.works
  made_works (Config config) Commit receipt is = is.works
  made_works (Trim zookie) (Floor rev) receipt is = is.works
  made_works (CatchUp part commits) (Cursor rev) receipt is = is.works
  made_works (Mark marking) (Marked count) receipt is = is.works
  made_works Rebuild (Base rev) receipt is = is.works
  made_works _ _ receipt is = absurd is

  module _ (fails : old.failed ≡ true) where
    works_not : {A : Type 0} → old.failed ≡ false → A
    works_not works = absurd (true≢false (sym fails ∙ works))

    module _ (call : Call) (body : List ℕ) (told : Option (ℕ × List ℕ)) where
      refused_so : (change : Change) (why : Refusal) → AsksChange call body change → IsRefused g old (MayStore old change) (SpeaksAgainst old change) why new
          → Refuses g old (SpeaksAgainst old change) why new → SaysRefusal told why → StaysFailed old call body told new
      refused_so change Reopen asks is cause says =
          record { tells = told_to_reopen change asks says; failed = cause.1.1 ∙ cause.0; tables = cause.1.0; posted = is.shows.posted }
      refused_so change StoreFault asks is cause says = works_not cause.0
      refused_so change Memory asks is cause says = works_not cause.0
      refused_so change _ asks is cause says = works_not cause.0

      stays : ChangeStep g old call body told new → StaysFailed old call body told new
      stays (changes_nothing why cause says same) =
          record {
            tells = told_of_the_body why cause says;
            failed = ap (λ (d : Posts T). d.failed) same ∙ fails;
            tables = ap (λ (d : Posts T). d.tables) same;
            posted = ap (λ (d : Posts T). d.posted) same;
          }
      stays (is_made change made receipt asks is says seats) = works_not (made_works change made receipt is)
      stays (is_not_made change why asks is says seats) = refused_so change why asks is is.cause says

      stays_so : (changing : Bool) → changing ≡ true → MatchBool changing (ChangeStep g old call body told new) (AskStep old call body told new) → StaysFailed old call body told new
      stays_so true is step = stays step
      stays_so false is step = absurd (true≢false (sym is))

      pub stays_failed : is_change call ≡ true → DeskStep g old call body told new → StaysFailed old call body told new
      stays_failed is step = stays_so (is_change call) is step
