-- What each call does to what a front knows.
use Rattle.std.proofs.Common.{◌≡◌, ℕ, Bool, true, false, List, ap, sym, subst, inl, inr}
use Rattle.std.specs.Prelude.{Option, [], Result, Ok, Err, IfOk}
use Rattle.std.specs.Bool.{MatchBool}
use Rattle.logbook.specs.Pages.{Book}
use Rattle.names.specs.declared.call.Call.{Call}
use Rattle.tables.specs.declared.tables.Tables.{Ghosts}
use Rattle.names.specs.declared.refusal.Refusal.{Refusal}
use Rattle.published.specs.Known.{Known, Begins}
use Rattle.published.proofs.Rules.{begins_trans}
use Rattle.desk.specs.Posts.{Posts, shown_by}
use Rattle.calls.specs.Changes.{is_change}
use Rattle.one_history.specs.History.{Hand}
use Rattle.keeper.specs.declared.deeds.Deed.{Deed}
use Rattle.keeper.specs.declared.deeds.Deed.TheVariants.{Refreshed, Seated}
use Rattle.keeper.specs.Deeds.{IsDoneTo}
use Rattle.keeper.specs.Kept.{IsKept, IsKnownIn, KnowsMore}
use Rattle.keeper.specs.Fronts.{FrontState, ChangeFrom, off_the_desk, on_the_desk, QuestionFrom, Sought, MayTell, FrontStep, IsSeated}
use Rattle.keeper.proofs.Kept.{Keeps}
use Rattle.keeper.proofs.NeverBack.{never_back}
use Rattle.keeper.proofs.Told.{from_later}

module _ {T : Type 0} (g : Ghosts T) (b : Book) (starts : Posts T → Type 0) where
  change_later : (old : FrontState) (call : Call) (body : List ℕ) (told : Option (ℕ × List ℕ)) (new : FrontState) → ChangeFrom g b starts old call body told new → Keeps old.known new.known
  change_later old call body told new (off_the_desk stays same) = inl (ap (λ (s : FrontState). s.known) same)
  change_later old call body told new (on_the_desk before after kept still done later known) = inr later

  tells_later : (changing : Bool) (old : FrontState) (call : Call) (body : List ℕ) (told : Option (ℕ × List ℕ)) (new : FrontState)
      → MatchBool changing (ChangeFrom g b starts old call body told new) (QuestionFrom g b starts old call body told new) → Keeps old.known new.known
  tells_later true old call body told new tells = change_later old call body told new tells
  tells_later false old call body told new tells = from_later old.known call body told new.known tells.asked

  -- what it tells so goes back on nothing
  pub step_of : (old : FrontState) (call : Call) (body : List ℕ) (told : Option (ℕ × List ℕ)) (new : FrontState) → IsKnownIn b old.known → MayTell g b starts old call body told new → FrontStep g b starts old call body told new
  step_of old call body told new known tells =
      record { tells = tells; never_back = never_back b old.known new.known known (tells_later (is_change call) old call body told new tells) }

  -- what waits was sought, also of one who had asked the session before that, and has asked it since
  pub sought_on : (old first mid new : FrontState) → first.hand ≡ old.hand → new.hand ≡ mid.hand → KnowsMore mid.known new.known → Sought g b starts first mid → Sought g b starts old new
  sought_on old first mid new same still later sought =
      record {
        before = sought.before;
        after = sought.after;
        kept = sought.kept;
        done = subst (λ (h : Hand Deed). IsDoneTo g starts h sought.before Refreshed sought.after new.hand) same
            (subst (λ (h : Hand Deed). IsDoneTo g starts first.hand sought.before Refreshed sought.after h) (sym still) sought.done);
        known = begins_trans (shown_by sought.after) mid.known new.known sought.known later.0;
      }

-- a session was given out, by the desk under the lock
pub seated_of : {T A : Type 0} (g : Ghosts T) (b : Book) (starts : Posts T → Type 0) (known : A → Known) (hand : A → Hand Deed) (r : Result A Refusal) (before after : Posts T)
    → IfOk r (λ a. (start : Hand Deed) × (start.mine ≡ []) × IsDoneTo g starts start before Seated after (hand a)) → IfOk r (λ a. Begins (shown_by after) (known a)) → IsKept g b after
    → IfOk r (λ a. IsSeated g b starts (record { known = known a; hand = hand a }))
seated_of g b starts known hand (Ok a) before after noted begins kept =
    record { start = noted.0; fresh = noted.1; before = before; after = after; kept = kept; done = noted.2; known = begins }
seated_of g b starts known hand (Err why) before after noted begins kept = tt
