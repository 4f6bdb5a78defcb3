-- What each call does to a desk, by events.
use Rattle.std.proofs.Common.{◌≡◌, ℕ, Bool, true, false, List, [], ◌∷◌, refl, ap, sym, ◌∙◌, subst}
use Rattle.std.specs.Prelude.{Option}
use Rattle.std.specs.Bool.{MatchBool}
use Rattle.names.specs.declared.call.Call.{Call}
use Rattle.names.specs.declared.commit.Commit.TheVariants.{Tuples, Config as ConfigCommit}
use Rattle.rows.specs.Loads.{retained_of}
use Rattle.rows.specs.Retained.{newest}
use Rattle.shown.specs.declared.step.Step.{Step}
use Rattle.shown.specs.declared.step.Step.TheVariants.{Open, Commit as CommitStep, Take, Trim as TrimStep, Marking, Rebase}
use Rattle.shown.specs.Standing.{standing}
use Rattle.published.specs.Judged.{AreJudged}
use Rattle.published.specs.Receipts.{ReceiptFacts}
use Rattle.tables.specs.declared.tables.Tables.{Ghosts}
use Rattle.publication.specs.declared.event.Event.TheVariants.{Posted, Published}
use Rattle.publication.specs.declared.event.Posting.TheVariants.{Opening}
use Rattle.publication.specs.World.{State, start}
use Rattle.publication.proofs.Opening.{within_of}
use Rattle.desk.specs.Posts.{Posts, PostsStep, ShowsMore}
use Rattle.desk.specs.Changes.{IsTrimmed, trim_raises, trim_stays}
use Rattle.desk.specs.Made.{IsMade}
use Rattle.desk.specs.declared.change.Change.{Change}
use Rattle.desk.specs.declared.change.Change.TheVariants.{Write, Config, Trim, CatchUp, Mark, Rebuild}
use Rattle.desk.specs.declared.change.Made.{Made}
use Rattle.desk.specs.declared.change.Made.TheVariants.{Commit, Floor, Cursor, Marked, Base}
use Rattle.calls.specs.Beginning.{Began}
use Rattle.calls.specs.Changes.{is_change}
use Rattle.calls.specs.Rules.{DeskStep}
use Rattle.calls.specs.steps.Ask.{AskStep, asks_nothing, is_told, is_refused}
use Rattle.calls.specs.steps.Change.{ChangeStep, changes_nothing, is_made, is_not_made}
use Rattle.refinement.specs.Events.{state_after, state_of, IsRunTo}
use Rattle.refinement.proofs.Leading.{on, stays, publishes}
use Rattle.refinement.proofs.Posting.{judged_last, Fits, posts}

module _ {T : Type 0} (g : Ghosts T) (old : Posts T) (are : AreJudged old.posted) (new : Posts T) where
  same : new ≡ old → IsRunTo (state_of old) (state_of new)
  same is = stays _ _ (ap (λ (d : Posts T). state_of d) is)

  pub shows : ShowsMore old new → IsRunTo (state_of old) (state_of new)
  shows more =
      subst (λ (posted : List Step). IsRunTo (state_after posted old.shown) (state_of new)) more.posted
      (publishes new.posted old.shown new.shown more.later more.beginning)

  posts_one : (step : Step) → Fits step → PostsStep old step new → IsRunTo (state_of old) (state_of new)
  posts_one step fits is =
      let room = judged_last old.posted step are (subst AreJudged is.shows.posted is.shows.judged.posted_were) in
      let mid : State = state_after new.posted old.shown in
      on (state_of old) mid (state_of new)
      (subst (λ (posted : List Step). IsRunTo (state_of old) (state_after posted old.shown)) (sym is.shows.posted) (posts old.posted old.shown are step fits room))
      (publishes new.posted old.shown new.shown is.shows.later is.shows.beginning)

  trims : (rev : ℕ) → IsTrimmed g old rev new → IsRunTo (state_of old) (state_of new)
  trims rev (trim_raises above is stored) = posts_one (TrimStep rev) tt is
  trims rev (trim_stays below more tables) = shows more

  pub makes : (change : Change) (made : Made) (receipt : ReceiptFacts) → IsMade g old change made receipt new → IsRunTo (state_of old) (state_of new)
  makes (Write write) Commit receipt is = posts_one (CommitStep (Tuples is.events)) tt is.posts
  makes (Config config) Commit receipt is = posts_one (CommitStep (ConfigCommit config)) tt is.posts
  makes (Trim zookie) (Floor rev) receipt is = trims zookie.rev is.done
  makes (CatchUp part commits) (Cursor rev) receipt is = posts_one (Take part commits) is.few is.posts
  makes (Mark marking) (Marked count) receipt is = posts_one (Marking marking) tt is.posts
  makes Rebuild (Base rev) receipt is = posts_one (Rebase (newest (standing old.posted).kept)) tt is.posts
  makes _ _ receipt is = absurd is

  module _ (call : Call) (body : List ℕ) (told : Option (ℕ × List ℕ)) where
    by_change : ChangeStep g old call body told new → IsRunTo (state_of old) (state_of new)
    by_change (changes_nothing why cause says is) = same is
    by_change (is_made change made receipt asks is says seats) = makes change made receipt is
    by_change (is_not_made change why asks is says seats) = shows is.shows

    by_question : AskStep old call body told new → IsRunTo (state_of old) (state_of new)
    by_question (asks_nothing why cause says is) = same is
    by_question (is_told question answer asks is says only) = shows only.only.shows
    by_question (is_refused question refused asks is says only) = shows only.only.shows

    by_either : (changing : Bool) → MatchBool changing (ChangeStep g old call body told new) (AskStep old call body told new) → IsRunTo (state_of old) (state_of new)
    by_either true is = by_change is
    by_either false is = by_question is

    pub by_call : DeskStep g old call body told new → IsRunTo (state_of old) (state_of new)
    by_call is = by_either (is_change call) is

-- the opening is posted and published
pub opens : {T : Type 0} (g : Ghosts T) (tables : T) (first : Posts T) → Began g tables first → IsRunTo start (state_of first)
opens {T} g tables first began =
    let loaded = began.posted.0 in
    let only = began.posted.1 in
    let room = subst AreJudged only began.judged.posted_were in
    let here : state_of first ≡ record { stored = retained_of loaded; posted = Open loaded ∷ []; shown = 1 } =
    ap (λ (xs : List Step). state_after first.posted xs) began.shown ∙ ap (λ (xs : List Step). state_after xs xs) only in
    (Posted (Opening loaded) ∷ Published 1 ∷ [], (within_of loaded room.0, (refl, here)))
