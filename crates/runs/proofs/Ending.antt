-- A desk was opened, answered lines, and was closed.
use Rattle.std.proofs.Common.{◌≡◌, ℕ, List, [], ◌∷◌, map, take, sym, ap, subst, ◌∙◌}
use Rattle.std.proofs.lemmas.List.Elements.{All-nil}
use Rattle.tables.specs.Device.{Lasts}
use Rattle.tables.specs.declared.tables.Tables.{Ghosts}
use Rattle.tables.proofs.Lasting.{lasts_self, lasts_trans, clean_before}
use Rattle.desk.specs.TableChanges.{TableChange, changed, CanChange}
use Rattle.desk.specs.Posts.{Posts, Agrees, ComesBack}
use Rattle.calls.specs.Rules.{DeskStep}
use Rattle.lines.specs.Text.{lines_of}
use Rattle.lines.specs.Machine.{Run}
use Rattle.tracked_io.specs.Tracking.{TrackedReading, TrackedWriting}
use Rattle.calls.specs.Beginning.{Began, kept_by}
use Rattle.runs.specs.Runs.{Ended, ServedBy, PausedBy, CutBy, IsAskedIn}
use Rattle.runs.specs.inside.Leaving.{HasLeft, Answered}
use Rattle.runs.proofs.Leaving.{Weaker, holds_first, after_run}
use Rattle.runs.proofs.Asked.{asked_first, asked_fed}

-- what is known of a desk whose tables were given back
pub record Closed {T : Type 0} (g : Ghosts T) (last : Posts T) (left : T) : Type 0 where
  pub given : left ≡ last.tables
  pub agrees : Agrees g last.failed left (kept_by last)

module _ {T : Type 0} (g : Ghosts T) (weaker : Weaker g) (tables : T) (first last : Posts T) (left : T) (began : Began g tables first) (closed : Closed g last left) where
  starts : (P : TableChange → Type 0) → HasLeft g P (g.device first.tables) first
  starts P = record { holds = λ _. holds_first g tables first began; more = []; follow = All-nil (CanChange (kept_by first)); asked = All-nil P; leaves = began.settled; lasts = lasts_self (g.device first.tables) }

  lasts_to : (P : TableChange → Type 0) → HasLeft g P (g.device first.tables) last → Lasts (g.device first.tables) (g.device left)
  lasts_to P h = subst (λ (t : T). Lasts (g.device first.tables) (g.device t)) (sym closed.given) h.lasts

  pub device_lasts : Answered g first last → Lasts (g.device tables) (g.device left)
  device_lasts ran =
      lasts_trans (g.device tables) (g.device first.tables) (g.device left) began.back.lasts
      (lasts_to (λ c. Unit {0}) (after_run g weaker (λ c. Unit {0}) (g.device first.tables) ran.0 first ran.1 last (λ c is. tt) ran.2 (starts (λ c. Unit {0}))))

  ended : (input : List ℕ) (Did : Posts T → Posts T → Type 0) → HasLeft g (IsAskedIn (lines_of input)) (g.device first.tables) last → Did first last → Ended g tables input Did left
  ended input Did h did = record {
    loaded = began.posted.0;
    first = first;
    last = last;
    opened = record { posted = began.posted.1; shown = began.shown; works = began.works };
    found = λ clean. began.posted.3 (clean_before (g.device first.tables) (g.device left) (lasts_to (IsAskedIn (lines_of input)) h) clean);
    same = λ r held clean. began.posted.4 r held (clean_before (g.device first.tables) (g.device left) (lasts_to (IsAskedIn (lines_of input)) h) clean);
    did = did;
    given = closed.given;
    agrees = record {
      holds = closed.agrees.holds;
      more = h.more;
      follow = h.follow;
      leaves = subst (λ (t : T). g.leaves t (kept_by last ∷ map (changed (kept_by last)) h.more)) (sym closed.given) h.leaves;
    };
    asked = h.asked;
  }

  ran : (input : List ℕ) (lines : List (List ℕ)) (text : List ℕ) → ((c : TableChange) → IsAskedIn lines c → IsAskedIn (lines_of input) c) → Run (DeskStep g) first lines text last
      → HasLeft g (IsAskedIn (lines_of input)) (g.device first.tables) last
  ran input lines text asked run = after_run g weaker (IsAskedIn (lines_of input)) (g.device first.tables) lines first text last asked run (starts (IsAskedIn (lines_of input)))

  module _ {R W : Type 0} (old new : TrackedReading R × TrackedWriting W) (input : List ℕ) where
    pub ended_served : ServedBy g old input new first last → Ended g tables input (ServedBy g old input new) left
    ended_served v = ended input _ (ran input (lines_of input) v.served.0 (λ c is. is) v.served.1) v

    pub ended_paused : PausedBy g old input new first last → Ended g tables input (PausedBy g old input new) left
    ended_paused v =
        let fed = v.paused.2 in
        ended input _ (ran input fed.lines v.paused.1 (asked_fed (DeskStep g) first input v.paused.0 v.paused.1 last fed) fed.run) v

    pub ended_cut : CutBy g old input new first last → Ended g tables input (CutBy g old input new) left
    ended_cut v = ended input _ (ran input (take v.cut.0 (lines_of input)) v.cut.1 (asked_first v.cut.0 (lines_of input)) v.cut.2) v

-- nothing was done, and the tables are given back
pub comes_back : {T : Type 0} (g : Ghosts T) (tables : T) (first last : Posts T) (left : T) → ComesBack g tables first.tables → last ≡ first → left ≡ last.tables → ComesBack g tables left
comes_back g tables first last left back same given = subst (λ t. ComesBack g tables t) (sym (given ∙ ap (λ d. d.tables) same)) back
