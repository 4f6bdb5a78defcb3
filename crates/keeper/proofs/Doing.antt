-- What a deed leaves of a desk.
use Rattle.std.proofs.Common.{◌≡◌, ◌+◌, ℕ, List, [], ◌∷◌, ◌++◌, length, refl, sym, ap, ◌∙◌, subst, inl, inr, arith}
use Rattle.std.specs.Prelude.{Option, Result, Ok, Err, IfOk, IfErr}
use mathlib.Core.List.{IsPrefix}
use Rattle.logbook.specs.Pages.{Book}
use Rattle.names.specs.declared.call.Call.{Call}
use Rattle.names.specs.declared.part.Part.{Part}
use Rattle.names.specs.declared.refusal.Refusal.{Refusal}
use Rattle.names.specs.declared.refusal.Refusal.TheVariants.{NoSeat}
use Rattle.tables.specs.declared.tables.Tables.{Ghosts}
use Rattle.shown.specs.declared.step.Step.{Step}
use Rattle.shown.specs.declared.step.Step.TheVariants.{Open}
use Rattle.published.specs.Receipts.{ReceiptFacts}
use Rattle.published.proofs.Prefixes.{prefix_self, prefix_trans}
use Rattle.desk.specs.Posts.{Posts, ShowsMore, SameTables, PostsStep}
use Rattle.desk.specs.Changes.{IsTrimmed, trim_raises, trim_stays, CatchUpAccepted, CatchUpJudged, IsNoChange, IsRefused}
use Rattle.desk.specs.Made.{IsMade, MayStore, SpeaksAgainst}
use Rattle.desk.specs.declared.change.Change.{Change}
use Rattle.desk.specs.declared.change.Change.TheVariants.{Write, Config, Trim, CatchUp, Mark, Rebuild}
use Rattle.desk.specs.declared.change.Made.{Made}
use Rattle.desk.specs.declared.change.Made.TheVariants.{Commit, Floor, Cursor, Marked, Base}
use Rattle.calls.specs.steps.Change.{ChangeStep, changes_nothing, is_made, is_not_made}
use Rattle.one_history.specs.History.{Hand, signed, entries_by}
use Rattle.one_history.specs.declared.entry.Entry.{Entry}
use Rattle.one_history.proofs.Runs.{ran_from_next, done_by}
use Rattle.keeper.specs.declared.deeds.Deed.{Deed}
use Rattle.keeper.specs.declared.deeds.Deed.TheVariants.{Answered, CaughtUp, Changed, Refreshed, Seated}
use Rattle.keeper.specs.Deeds.{IsNoted, CatchesUp, takes, takes_none, Changes, makes, makes_none, Does, IsLeft, IsDoneTo, AllStandIn}
use Rattle.keeper.specs.Kept.{IsOpened, IsOfBook}

-- a note of this one deed
pub noted_of : (old new : Hand Deed) (log now : List (Entry Deed)) (what : List Deed) (deed : Deed) → what ≡ deed ∷ []
    → now ≡ log ++ signed old.by what → IsPrefix old.seen log → new.by ≡ old.by → new.seen ≡ now → new.mine ≡ old.mine ++ signed old.by what → entries_by new.by now ≡ new.mine
    → IsNoted old log deed new now
noted_of old new log now what deed is noted begins by seen mine own =
    record {
      noted = subst (λ (ds : List Deed). now ≡ log ++ signed old.by ds) is noted;
      begins = begins;
      by = by;
      seen = seen;
      mine = subst (λ (ds : List Deed). new.mine ≡ old.mine ++ signed old.by ds) is mine;
      own = own;
    }

module _ {T : Type 0} (g : Ghosts T) (before after : Posts T) where
  abbrev GoesOn : Type 0
  GoesOn = (after.book ≡ before.book) × IsPrefix before.shown after.shown

  on_same : after ≡ before → GoesOn
  on_same is = (ap (λ (d : Posts T). d.book) is, subst (λ (d : Posts T). IsPrefix before.shown d.shown) (sym is) (prefix_self before.shown))

  on_shown : ShowsMore before after → GoesOn
  on_shown more = (more.book, more.later)

  on_posted : (step : Step) → PostsStep before step after → GoesOn
  on_posted step is = (is.shows.book, is.shows.later)

  on_trimmed : (rev : ℕ) → IsTrimmed g before rev after → GoesOn
  on_trimmed rev (trim_raises above is stored) = on_posted _ is
  on_trimmed rev (trim_stays below more tables) = on_shown more

  on_made : (change : Change) (made : Made) (receipt : ReceiptFacts) → IsMade g before change made receipt after → GoesOn
  on_made (Write write) Commit receipt is = on_posted _ is.posts
  on_made (Config config) Commit receipt is = on_posted _ is.posts
  on_made (Trim zookie) (Floor rev) receipt is = on_trimmed zookie.rev is.done
  on_made (CatchUp part commits) (Cursor rev) receipt is = on_posted _ is.posts
  on_made (Mark marking) (Marked count) receipt is = on_posted _ is.posts
  on_made Rebuild (Base rev) receipt is = on_posted _ is.posts
  on_made _ _ receipt is = absurd is

  on_answered : (call : Call) (body : List ℕ) (told : Option (ℕ × List ℕ)) → ChangeStep g before call body told after → GoesOn
  on_answered call body told (changes_nothing why cause says is) = on_same is
  on_answered call body told (is_made change made receipt asks is says seats) = on_made change made receipt is
  on_answered call body told (is_not_made change why asks is says seats) = on_shown is.shows

  on_caught_up : (part : Part) (commits : ℕ) → CatchesUp g before part commits after → GoesOn
  on_caught_up part commits (takes value receipt is) = on_posted _ is.posts
  on_caught_up part commits (takes_none why is) = on_shown is.shows

  on_changed : Changes g before after → GoesOn
  on_changed (makes change made receipt is) = on_made change made receipt is
  on_changed (makes_none change why is) = on_shown is.shows

  goes_on : (deed : Deed) → Does g before deed after → GoesOn
  goes_on (Answered call body told) is = on_answered call body told is
  goes_on (CaughtUp part commits) is = on_caught_up part commits is.0
  goes_on Changed is = on_changed is.0
  goes_on Refreshed is = on_shown is.0.0
  goes_on Seated is = on_shown is.0.0

  -- a session was given out, or there was none left
  pub seated : {A : Type 0} (r : Result A Refusal) → ShowsMore before after → SameTables before after
      → IfOk r (λ _. after.seats + 1 ≡ before.seats) → IfErr r (λ why. (why ≡ NoSeat) × (after.seats ≡ before.seats)) → Does g before Seated after
  seated (Ok session) more same ok err = ((more, same), inr ok)
  seated (Err why) more same ok err = ((more, same), inl err.1)

  -- a desk of the book stays one, and is what one deed more has left
  pub kept_next : (book : Book) (starts : Posts T → Type 0) (deed : Deed) (old new : Hand Deed) (log now : List (Entry Deed))
      → IsOfBook book before × IsLeft g starts log before → Does g before deed after → IsNoted old log deed new now
      → IsOfBook book after × IsLeft g starts now after
  kept_next book starts deed old new log now kept does noted =
      let on = goes_on deed does in
      let opened : IsOpened after.shown = record {
        loaded = kept.0.opened.loaded;
        begins = prefix_trans (Open kept.0.opened.loaded ∷ []) before.shown after.shown kept.0.opened.begins on.1;
      } in (
        record { of_book = on.0 ∙ kept.0.of_book; opened = opened },
        subst (λ (es : List (Entry Deed)). IsLeft g starts es after) (sym noted.noted) (ran_from_next (Does g) starts old.by log deed before after kept.1 does),
      )

  -- the worker did it to the desk that was there
  pub done_to : (book : Book) (starts : Posts T → Type 0) (deed : Deed) (old new : Hand Deed) (log now : List (Entry Deed)) (viewed : Posts T) → before ≡ viewed
      → IsOfBook book before × IsLeft g starts log before → Does g before deed after → IsNoted old log deed new now
      → IsDoneTo g starts old viewed deed after new
  done_to book starts deed old new log now viewed is kept does noted =
      subst (λ (d : Posts T). IsDoneTo g starts old d deed after new) is
      (done_by (Does g) starts old new log now before deed after noted.begins kept.1 does noted.noted noted.by noted.seen noted.mine noted.own)

  pub caught_up : {A : Type 0} (value : A → ℕ) (receipt : A → ReceiptFacts) (part : Part) (commits : ℕ) (r : Result A Refusal)
      → IfOk r (λ p. CatchUpAccepted before part commits (value p) (receipt p) after)
      → IfErr r (λ why. IsRefused g before IsNoChange (CatchUpJudged commits) why after) → CatchesUp g before part commits after
  caught_up value receipt part commits (Ok p) ok err = takes (value p) (receipt p) ok
  caught_up value receipt part commits (Err why) ok err = takes_none why err

  pub changed : {A : Type 0} (made : A → Made) (receipt : A → ReceiptFacts) (change : Change) (r : Result A Refusal)
      → IfOk r (λ p. IsMade g before change (made p) (receipt p) after)
      → IfErr r (λ why. IsRefused g before (MayStore before change) (SpeaksAgainst before change) why after) → Changes g before after
  changed made receipt change (Ok p) ok err = makes change (made p) (receipt p) ok
  changed made receipt change (Err why) ok err = makes_none change why err

-- the deeds are these
pub kept_by : {T : Type 0} (g : Ghosts T) (book : Book) (starts : Posts T → Type 0) (desk : Posts T) (log now : List (Entry Deed)) → now ≡ log
    → IsOfBook book desk × IsLeft g starts log desk → IsOfBook book desk × IsLeft g starts now desk
kept_by g book starts desk log now same kept = (kept.0, subst (λ (es : List (Entry Deed)). IsLeft g starts es desk) (sym same) kept.1)

-- nothing was done yet
pub left_first : {T : Type 0} (g : Ghosts T) (starts : Posts T → Type 0) (desk : Posts T) (log : List (Entry Deed)) → log ≡ [] → starts desk → IsLeft g starts log desk
left_first g starts desk log none begun = subst (λ (es : List (Entry Deed)). IsLeft g starts es desk) (sym none) (desk, begun, refl)

-- no place is left
pub none_stand : (deeds : List (Entry Deed)) (places : List (Hand Deed)) → length places ≡ 0 → AllStandIn deeds places
none_stand deeds [] none = tt
none_stand deeds (place ∷ places) none = absurd (omega (arith, none))
