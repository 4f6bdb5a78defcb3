-- What the tables of a desk leave after each line.
use Rattle.std.proofs.Common.{◌≡◌, ℕ, Bool, true, false, List, [], ◌∷◌, map, refl, sym, ap, subst, ◌∙◌, inl, inr, true≢false}
use Rattle.std.specs.Prelude.{Option, Some, None, nat_le, length}
use Rattle.std.specs.Bool.{MatchBool}
use Rattle.std.specs.List.{All}
use Rattle.std.proofs.lemmas.List.Elements.{All-nil, All-cons}
use Rattle.names.specs.Calls.{call_of}
use Rattle.names.specs.declared.limits.TheConstants.{MAX_BODY_LEN}
use Rattle.names.specs.declared.call.Call.{Call}
use Rattle.names.specs.declared.call.Call.TheVariants as call
use Rattle.names.specs.declared.refusal.Refusal.{Refusal}
use Rattle.names.specs.declared.refusal.Refusal.TheVariants.{Memory, StoreFault, Reopen}
use Rattle.names.specs.declared.part.Part.{Part}
use Rattle.names.specs.declared.part.Part.TheVariants.{Index, Hot}
use Rattle.rows.specs.Retained.{Retained, newest}
use Rattle.published.specs.Receipts.{ReceiptFacts}
use Rattle.tables.specs.Device.{Device, Lasts}
use Rattle.tables.specs.Leaving.{AreAmong}
use Rattle.tables.specs.declared.tables.Tables.{Ghosts}
use Rattle.shown.specs.declared.step.Step.{Step}
use Rattle.shown.specs.declared.step.Step.TheVariants.{Take, Marking, Rebase}
use Rattle.shown.specs.Standing.{Standing, standing, nothing, after_step, after_take}
use Rattle.std.proofs.lemmas.List.Sums.{fold-append}
use Rattle.desk.specs.TableChanges.{TableChange, Adds, Raises, changed, CanChange}
use Rattle.desk.specs.Posts.{Posts}
use Rattle.desk.specs.Changes.{IsStored, IsTrimmed, trim_raises, trim_stays, IsRefused, Touches, leaves_alone, adds_one, Refuses}
use Rattle.desk.specs.Made.{IsMade, MayStore, SpeaksAgainst}
use Rattle.desk.specs.declared.change.Change.{Change}
use Rattle.desk.specs.declared.change.Change.TheVariants as of_change
use Rattle.desk.specs.declared.change.Made.{Made}
use Rattle.desk.specs.declared.change.Made.TheVariants.{Commit, Floor, Cursor, Marked, Base}
use Rattle.calls.specs.Changes.{is_change}
use Rattle.calls.specs.Rules.{DeskStep}
use Rattle.calls.specs.Showing.{OnlyShows}
use Rattle.calls.specs.steps.Ask.{AskStep, asks_nothing, is_told, is_refused}
use Rattle.calls.specs.steps.Change.{ChangeStep, changes_nothing, is_made, is_not_made}
use Rattle.lines.specs.Text.{word_of, body_of}
use Rattle.lines.specs.Machine.{IsAnswer, Run}
use Rattle.calls.specs.Beginning.{Began, kept_by}
use Rattle.runs.specs.Runs.{Stores, AsksStored, IsAskedIn}
use Rattle.runs.specs.inside.Leaving.{HasLeft}
use Rattle.tables.proofs.Lasting.{lasts_trans}

-- what leaves one of these leaves one of more
abbrev pub Weaker : {T : Type 0} → Ghosts T → Type 0
Weaker {T} g = (t : T) (rs ss : List Retained) → AreAmong rs ss → g.leaves t rs → g.leaves t ss

swap : (a b : Retained) (rs : List Retained) → AreAmong (a ∷ b ∷ rs) (b ∷ a ∷ rs)
swap a b rs x (inl is) = inr (inl is)
swap a b rs x (inr (inl is)) = inl is
swap a b rs x (inr (inr more)) = inr (inr more)

-- what may be stored for a change is what it stores
stores_asked : {T : Type 0} (old : Posts T) (change : Change) (stored : TableChange) → MayStore old change stored → Stores change stored
stores_asked old (of_change.Write write) (Adds commit) may = may.1
stores_asked old (of_change.Write write) (Raises floor) may = absurd may
stores_asked old (of_change.Config config) stored may = may
stores_asked old (of_change.Trim zookie) stored may = may.1
stores_asked old (of_change.CatchUp part commits) stored may = absurd may
stores_asked old (of_change.Mark marking) stored may = absurd may
stores_asked old of_change.Rebuild stored may = absurd may

kept_by_take : (s : Standing) (part : Part) (n : ℕ) → (after_take s part n).kept ≡ s.kept
kept_by_take s Index n = refl
kept_by_take s Hot n = refl

-- the tables that a desk was opened on hold the history of its one step
pub holds_first : {T : Type 0} (g : Ghosts T) (tables : T) (first : Posts T) → Began g tables first → g.holds first.tables (kept_by first)
holds_first g tables first began = subst (λ (steps : List Step). g.holds first.tables (standing steps).kept) (sym began.posted.1) began.posted.2

module _ {T : Type 0} (g : Ghosts T) (weaker : Weaker g) (P : TableChange → Type 0) (start : Device) where
  pub same_desk : (old new : Posts T) → new ≡ old → HasLeft g P start old → HasLeft g P start new
  same_desk old new same h = subst (λ (d : Posts T). HasLeft g P start d) (sym same) h

  same_tables : (old new : Posts T) → new.tables ≡ old.tables → (new.failed ≡ false → old.failed ≡ false) → kept_by new ≡ kept_by old → HasLeft g P start old → HasLeft g P start new
  same_tables old new tables sound kept h = record {
    holds = λ works. subst (λ (r : Retained). g.holds new.tables r) (sym kept) (subst (λ (t : T). g.holds t (kept_by old)) (sym tables) (h.holds (sound works)));
    more = h.more;
    follow = subst (λ (r : Retained). All (CanChange r) h.more) (sym kept) h.follow;
    asked = h.asked;
    leaves = subst (λ (r : Retained). g.leaves new.tables (r ∷ map (changed r) h.more)) (sym kept) (subst (λ (t : T). g.leaves t (kept_by old ∷ map (changed (kept_by old)) h.more)) (sym tables) h.leaves);
    lasts = subst (λ (t : T). Lasts start (g.device t)) (sym tables) h.lasts;
  }

  shows_only : (old new : Posts T) → OnlyShows old new → HasLeft g P start old → HasLeft g P start new
  shows_only old new only h = same_tables old new only.tables.0 (λ works. sym only.tables.1 ∙ works) (ap (λ (steps : List Step). (standing steps).kept) only.shows.posted) h

  one_more : (old new : Posts T) (change : TableChange) → kept_by new ≡ kept_by old → P change → CanChange (kept_by old) change → (new.failed ≡ false → g.holds new.tables (kept_by old))
      → ((rs : List Retained) → g.leaves old.tables rs → g.leaves new.tables (changed (kept_by old) change ∷ rs))
      → Lasts (g.device old.tables) (g.device new.tables) → HasLeft g P start old → HasLeft g P start new
  one_more old new change kept asked can holds adds lasts h = record {
    holds = λ works. subst (λ (r : Retained). g.holds new.tables r) (sym kept) (holds works);
    more = change ∷ h.more;
    follow = subst (λ (r : Retained). All (CanChange r) (change ∷ h.more)) (sym kept) (All-cons (CanChange (kept_by old)) change h.more can h.follow);
    asked = All-cons P change h.more asked h.asked;
    leaves = subst (λ (r : Retained). g.leaves new.tables (r ∷ map (changed r) (change ∷ h.more))) (sym kept)
        (weaker new.tables _ _ (swap (changed (kept_by old) change) (kept_by old) (map (changed (kept_by old)) h.more)) (adds _ h.leaves));
    lasts = lasts_trans start (g.device old.tables) (g.device new.tables) h.lasts lasts;
  }

  stored : (old new : Posts T) → IsStored g old new → HasLeft g P start old → HasLeft g P start new
  stored old new is h = record {
    holds = λ works. is.holds;
    more = [];
    follow = All-nil (CanChange (kept_by new));
    asked = All-nil P;
    leaves = is.settled;
    lasts = lasts_trans start (g.device old.tables) (g.device new.tables) h.lasts is.lasts;
  }

  touched : (old new : Posts T) (made : TableChange → Type 0) → ((c : TableChange) → made c → P c) → kept_by new ≡ kept_by old → (new.failed ≡ false → old.failed ≡ false) → Lasts (g.device old.tables) (g.device new.tables)
      → Touches g old made new → HasLeft g P start old → HasLeft g P start new
  touched old new made asked kept sound lasts (leaves_alone same) h = same_tables old new same sound kept h
  touched old new made asked kept sound lasts (adds_one change is may) h = one_more old new change kept (asked change is) may.follows may.holds may.adds lasts h

  -- tables that have not failed had not before
  worked : (old new : Posts T) (judged : Refusal → Type 0) (why : Refusal) → Refuses g old judged why new → new.failed ≡ false → old.failed ≡ false
  worked old new judged Reopen cause works = absurd (true≢false (sym (cause.1.1 ∙ cause.0) ∙ works))
  worked old new judged StoreFault cause works = absurd (true≢false (sym cause.1 ∙ works))
  worked old new judged Memory cause works = cause.0
  worked old new judged _ cause works = cause.0

  refused : (old new : Posts T) (made : TableChange → Type 0) (judged : Refusal → Type 0) (why : Refusal) → ((c : TableChange) → made c → P c)
      → IsRefused g old made judged why new → HasLeft g P start old → HasLeft g P start new
  refused old new made judged why asked is h = touched old new made asked (ap (λ (steps : List Step). (standing steps).kept) is.shows.posted) (worked old new judged why is.cause) is.lasts is.touches h

  after_question : (old : Posts T) (k : Call) (body : List ℕ) (told : Option (ℕ × List ℕ)) (new : Posts T) → AskStep old k body told new → HasLeft g P start old → HasLeft g P start new
  after_question old k body told new (asks_nothing why cause says same) h = same_desk old new same h
  after_question old k body told new (is_told question answer asks is says shows) h = shows_only old new shows.only h
  after_question old k body told new (is_refused question refused asks is says shows) h = shows_only old new shows.only h

  trimmed : (old new : Posts T) (rev : ℕ) → IsTrimmed g old rev new → HasLeft g P start old → HasLeft g P start new
  trimmed old new rev (trim_raises above posts is) h = stored old new is h
  trimmed old new rev (trim_stays below shows same) h = same_tables old new same.0 (λ works. sym same.1 ∙ works) (ap (λ (steps : List Step). (standing steps).kept) shows.posted) h

  after_made : (old new : Posts T) (change : Change) (made : Made) (receipt : ReceiptFacts) → IsMade g old change made receipt new → HasLeft g P start old → HasLeft g P start new
  after_made old new (of_change.Write write) Commit receipt is h = stored old new is.stored h
  after_made old new (of_change.Config config) Commit receipt is h = stored old new is.stored h
  after_made old new (of_change.Trim zookie) (Floor rev) receipt is h = trimmed old new zookie.rev is.done h
  after_made old new (of_change.CatchUp part commits) (Cursor rev) receipt is h =
      same_tables old new is.tables (λ _. is.works) (ap (λ (steps : List Step). (standing steps).kept) is.posts.shows.posted ∙ (ap (λ (s : Standing). s.kept) (fold-append after_step nothing old.posted (Take part commits ∷ [])) ∙ kept_by_take (standing old.posted) part commits)) h
  after_made old new (of_change.Mark marking) (Marked count) receipt is h =
      same_tables old new is.tables (λ _. is.works) (ap (λ (steps : List Step). (standing steps).kept) is.posts.shows.posted ∙ ap (λ (s : Standing). s.kept) (fold-append after_step nothing old.posted (Marking marking ∷ []))) h
  after_made old new of_change.Rebuild (Base rev) receipt is h =
      same_tables old new is.tables (λ _. is.works) (ap (λ (steps : List Step). (standing steps).kept) is.posts.shows.posted ∙ ap (λ (s : Standing). s.kept) (fold-append after_step nothing old.posted (Rebase (newest (kept_by old)) ∷ []))) h
  after_made old new _ _ receipt is h = absurd is

  after_change : (old : Posts T) (k : Call) (body : List ℕ) (told : Option (ℕ × List ℕ)) (new : Posts T) → ((c : TableChange) → AsksStored k body c → P c)
      → ChangeStep g old k body told new → HasLeft g P start old → HasLeft g P start new
  after_change old k body told new asked (changes_nothing why cause says same) h = same_desk old new same h
  after_change old k body told new asked (is_made change made receipt asks is says seats) h = after_made old new change made receipt is h
  after_change old k body told new asked (is_not_made change why asks is says seats) h =
      refused old new (MayStore old change) (SpeaksAgainst old change) why (λ c may. asked c (change, asks, stores_asked old change c may)) is h

  after_either : (changing : Bool) (old : Posts T) (k : Call) (body : List ℕ) (told : Option (ℕ × List ℕ)) (new : Posts T) → ((c : TableChange) → AsksStored k body c → P c)
      → MatchBool changing (ChangeStep g old k body told new) (AskStep old k body told new) → HasLeft g P start old → HasLeft g P start new
  after_either true old k body told new asked s h = after_change old k body told new asked s h
  after_either false old k body told new asked s h = after_question old k body told new s h

  pub after_step_of : (old : Posts T) (k : Call) (body : List ℕ) (told : Option (ℕ × List ℕ)) (new : Posts T) → ((c : TableChange) → AsksStored k body c → P c)
      → DeskStep g old k body told new → HasLeft g P start old → HasLeft g P start new
  after_step_of old k body told new asked s h = after_either (is_change k) old k body told new asked s h

  after_answer : (old : Posts T) (fits : Bool) (k : Option Call) (body text : List ℕ) (new : Posts T) → ((it : Call) → k ≡ Some it → (c : TableChange) → AsksStored it body c → P c)
      → IsAnswer (DeskStep g) old fits k body text new → HasLeft g P start old → HasLeft g P start new
  after_answer old false k body text new asked s h = same_desk old new s.1 h
  after_answer old true None body text new asked s h = same_desk old new s.1 h
  after_answer old true (Some it) body text new asked s h = after_step_of old it body s.0 new (asked it refl) s.1 h

  -- the tables of a desk that answered lines leave a commit more only where one of them asked for it
  pub after_run : (lines : List (List ℕ)) (old : Posts T) (text : List ℕ) (new : Posts T) → ((c : TableChange) → IsAskedIn lines c → P c)
      → Run (DeskStep g) old lines text new → HasLeft g P start old → HasLeft g P start new
  after_run [] old text new asked r h = same_desk old new r.1 h
  after_run (line ∷ lines) old text new asked r h =
      after_run lines r.1 r.2 new (λ c is. asked c (inr is)) r.4
      (after_answer old (nat_le (length (body_of line)) MAX_BODY_LEN) (call_of (word_of line)) (body_of line) r.0 r.1 (λ it named c asks. asked c (inl (it, named, asks))) r.3 h)
