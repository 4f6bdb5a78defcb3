-- What a turn does to a desk, also where more is shown after it.
use Rattle.std.proofs.Common.{◌≡◌, ℕ, suc, List, ap, sym, ◌∙◌, subst, inl, inr}
use Rattle.std.specs.Prelude.{◌⊎◌}
use Rattle.logbook.specs.Pages.{Book}
use Rattle.names.specs.declared.part.Part.{Part}
use Rattle.names.specs.declared.part.Part.TheVariants.{Index, Hot}
use Rattle.names.specs.declared.refusal.Refusal.{Refusal}
use Rattle.tables.specs.declared.tables.Tables.{Ghosts}
use Rattle.shown.specs.declared.step.Step.{Step}
use Rattle.shown.specs.declared.step.Step.TheVariants.{Take}
use Rattle.shown.specs.Standing.{Standing, standing, after_take, cursor_of, cursor_after}
use Rattle.published.specs.Receipts.{ReceiptFacts}
use Rattle.published.proofs.Prefixes.{prefix_trans}
use Rattle.desk.specs.Posts.{Posts, ShowsMore, SameTables, PostsStep}
use Rattle.desk.specs.Changes.{CatchUpAccepted, TellsShown, CatchUpJudged, IsNoChange}
use Rattle.desk.proofs.Standings.{standing_next}
use Rattle.calls.proofs.Refreshing.{still_refused}
use Rattle.server.specs.declared.turn.TheConstants.{TURN_COMMITS}
use Rattle.one_history.specs.History.{Hand}
use Rattle.keeper.specs.declared.deeds.Deed.{Deed}
use Rattle.server.specs.Turning.{TakesOneTurn, TurnByTurn}
use Rattle.server.specs.Turns.{TakesTurn, TurnRefused, index_refused, hot_refused}

-- ---- more is shown, and a new receipt tells of it

taken_still : {T : Type 0} (old mid new : Posts T) (part : Part) (commits cursor : ℕ) (first then : ReceiptFacts)
    → CatchUpAccepted old part commits cursor first mid → ShowsMore mid new → SameTables mid new → TellsShown then new → CatchUpAccepted old part commits cursor then new
taken_still old mid new part commits cursor first then taken more same tells =
    record {
      works = taken.works;
      few = taken.few;
      posts = record {
        shows = record {
          posted = more.posted ∙ taken.posts.shows.posted;
          book = more.book ∙ taken.posts.shows.book;
          later = prefix_trans old.shown mid.shown new.shown taken.posts.shows.later more.later;
          beginning = more.beginning;
          judged = more.judged;
        };
        faults = same.2 ∙ taken.posts.faults;
      };
      tables = same.0 ∙ taken.tables;
      stored = same.1 ∙ taken.stored;
      moved = taken.moved ∙ ap (λ (steps : List Step). cursor_of part (standing steps)) (sym more.posted);
      tells = tells;
    }

pub turn_still : {T : Type 0} (old mid new : Posts T) (index hot : ℕ) (first then : ReceiptFacts)
    → TakesTurn old index hot first mid → ShowsMore mid new → SameTables mid new → TellsShown then new → TakesTurn old index hot then new
turn_still old mid new index hot first then turn more same tells =
    record {
      between = turn.between;
      told = turn.told;
      index_takes = turn.index_takes;
      hot_takes = taken_still turn.between mid new Hot TURN_COMMITS hot first then turn.hot_takes more same tells;
    }

pub turn_refused_still : {T : Type 0} (g : Ghosts T) (old mid new : Posts T) (why : Refusal) → TurnRefused g old why mid → ShowsMore mid new → SameTables mid new → TurnRefused g old why new
turn_refused_still g old mid new why (index_refused refused) more same = index_refused (still_refused g old mid new IsNoChange (CatchUpJudged TURN_COMMITS) why refused more same)
turn_refused_still g old mid new why (hot_refused between index told taken refused) more same =
    hot_refused between index told taken (still_refused g between mid new IsNoChange (CatchUpJudged TURN_COMMITS) why refused more same)

-- ---- where the cursors are

taken_stands : {T : Type 0} (old new : Posts T) (part : Part) (commits : ℕ) → PostsStep old (Take part commits) new → standing new.posted ≡ after_take (standing old.posted) part commits
taken_stands old new part commits posts = ap standing posts.shows.posted ∙ standing_next old.posted (Take part commits)

module _ {T : Type 0} (old : Posts T) (index hot : ℕ) (receipt : ReceiptFacts) (new : Posts T) (turn : TakesTurn old index hot receipt new) where
  between_stands : standing turn.between.posted ≡ after_take (standing old.posted) Index TURN_COMMITS
  between_stands = taken_stands old turn.between Index TURN_COMMITS turn.index_takes.posts

  pub index_at : index ≡ cursor_after (standing old.posted).kept (standing old.posted).index TURN_COMMITS
  index_at = turn.index_takes.moved ∙ ap (cursor_of Index) between_stands

  pub hot_at : hot ≡ cursor_after (standing old.posted).kept (standing old.posted).hot TURN_COMMITS
  hot_at =
      turn.hot_takes.moved
      ∙ (ap (cursor_of Hot) (taken_stands turn.between new Hot TURN_COMMITS turn.hot_takes.posts) ∙ ap (λ (s : Standing). cursor_after s.kept s.hot TURN_COMMITS) between_stands)

-- ---- turns, one after another

-- one more, or none
pub turns_on : {T : Type 0} (g : Ghosts T) (book : Book) (starts : Posts T → Type 0) (old mid new : Hand Deed)
    → (turns : ℕ) × TurnByTurn g book starts old turns mid → (new ≡ mid) ⊎ TakesOneTurn g book starts mid new → (turns : ℕ) × TurnByTurn g book starts old turns new
turns_on g book starts old mid new so (inl same) = (so.0, subst (λ (h : Hand Deed). TurnByTurn g book starts old so.0 h) (sym same) so.1)
turns_on g book starts old mid new so (inr turn) = (suc so.0, (mid, so.1, turn))
