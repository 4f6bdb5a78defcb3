-- A desk that shows more, and what was refused before that.
use Rattle.std.proofs.Common.{List, [], ◌∷◌, refl, sym, ◌∙◌, subst}
use mathlib.Core.List.{IsPrefix}
use Rattle.names.specs.declared.refusal.Refusal.{Refusal}
use Rattle.names.specs.declared.refusal.Refusal.TheVariants.{Memory, StoreFault, Reopen}
use Rattle.rows.specs.Retained.{Retained}
use Rattle.shown.specs.declared.step.Step.{Step}
use Rattle.shown.specs.Standing.{standing}
use Rattle.tables.specs.Device.{IsOpen, HasFailed, Lasts}
use Rattle.tables.specs.declared.tables.Tables.{Ghosts}
use Rattle.published.specs.Judged.{WereJudged}
use Rattle.published.proofs.Prefixes.{prefix_self, prefix_trans}
use Rattle.desk.specs.TableChanges.{TableChange, changed}
use Rattle.desk.specs.Posts.{Posts, IsSettled, ShowsMore, SameTables}
use Rattle.desk.specs.Changes.{Touches, leaves_alone, adds_one, Refuses, IsRefused}
use Rattle.calls.specs.Showing.{OnlyShows}

-- a desk that stayed as it was shows no less
pub shows_itself : {T : Type 0} (d : Posts T) → IsPrefix d.shown d.posted → WereJudged d.posted d.shown → OnlyShows d d
shows_itself d beginning judged =
    record {
      shows = record { posted = refl; book = refl; later = prefix_self d.shown; beginning = beginning; judged = judged };
      tables = (refl, refl, refl);
      seats = refl;
    }

-- the tables leave what they left
settled_still : {T : Type 0} (g : Ghosts T) (mid new : Posts T) → ShowsMore mid new → SameTables mid new → IsSettled g mid → IsSettled g new
settled_still {T} g mid new more same settled works opened =
    let tables = subst (λ (t : T). IsOpen (g.device t)) same.0 opened in
    subst (λ (steps : List Step). g.leaves new.tables ((standing steps).kept ∷ [])) (sym more.posted)
    (subst (λ (t : T). g.leaves t ((standing mid.posted).kept ∷ [])) (sym same.0) (settled (sym same.1 ∙ works) tables))

-- a change that was refused is so still where more was shown since
module _ {T : Type 0} (g : Ghosts T) (old mid new : Posts T) (made : TableChange → Type 0) (judged : Refusal → Type 0) (why : Refusal) where
  same_since : SameTables old mid → SameTables mid new → SameTables old new
  same_since first more = (more.0 ∙ first.0, more.1 ∙ first.1, more.2 ∙ first.2)

  refuses_still : (why : Refusal) → SameTables mid new → Refuses g old judged why mid → Refuses g old judged why new
  refuses_still Reopen same cause = (cause.0, same_since cause.1 same)
  refuses_still StoreFault same cause =
      (cause.0, same.1 ∙ cause.1, same.2 ∙ cause.2, subst (λ (t : T). IsOpen (g.device old.tables) → HasFailed (g.device old.tables) (g.device t)) (sym same.0) cause.3, cause.4)
  refuses_still Memory same cause = (cause.0, same.1 ∙ cause.1, same.2 ∙ cause.2, cause.3)
  refuses_still _ same cause = (cause.0, same_since cause.1 same, cause.2)

  touches_still : SameTables mid new → Touches g old made mid → Touches g old made new
  touches_still same (leaves_alone alone) = leaves_alone (same.0 ∙ alone)
  touches_still same (adds_one change asked may) =
      adds_one change asked (record {
        follows = may.follows;
        adds = subst (λ (t : T). (rs : List Retained) → g.leaves old.tables rs → g.leaves t (changed (standing old.posted).kept change ∷ rs)) (sym same.0) may.adds;
        holds = λ sound. subst (λ (t : T). g.holds t (standing old.posted).kept) (sym same.0) (may.holds (sym same.1 ∙ sound));
      })

  pub still_refused : IsRefused g old made judged why mid → ShowsMore mid new → SameTables mid new → IsRefused g old made judged why new
  still_refused refused more same =
      record {
        shows = record {
          posted = more.posted ∙ refused.shows.posted;
          book = more.book ∙ refused.shows.book;
          later = prefix_trans old.shown mid.shown new.shown refused.shows.later more.later;
          beginning = more.beginning;
          judged = more.judged;
        };
        cause = refuses_still why same refused.cause;
        touches = touches_still same refused.touches;
        settled = settled_still g mid new more same refused.settled;
        lasts = subst (λ (t : T). Lasts (g.device old.tables) (g.device t)) (sym same.0) refused.lasts;
      }
