-- What became of all workers, by what each thread left and what its place saw last.
use Rattle.std.proofs.Common.{◌≡◌, ℕ, suc, zero, List, [], ◌∷◌, ◌++◌, length, refl, ap, subst, inl, inr}
use Rattle.std.specs.Prelude.{Option, Some, None}
use Rattle.logbook.specs.Pages.{Book}
use Rattle.names.specs.declared.call.Call.{Call}
use Rattle.tables.specs.declared.tables.Tables.{Ghosts}
use Rattle.desk.specs.Posts.{Posts}
use Rattle.answers.specs.declared.end.End.{End}
use Rattle.answers.specs.declared.end.End.TheVariants.{Closed, Asked, Broken, ReadFault, WriteFault, Memory}
use Rattle.answers.specs.Machine.{Step}
use Rattle.http_api.specs.Connection.{Next, go_on, Turn, no_request, unknown, answered, no_memory, Goes}
use Rattle.one_history.specs.History.{Hand}
use Rattle.one_history.specs.declared.entry.Entry.{Entry}
use Rattle.keeper.specs.declared.deeds.Deed.{Deed}
use Rattle.keeper.specs.Deeds.{StandsIn, AllStandIn}
use Rattle.keeper.specs.Fronts.{FrontState, FrontStep, IsSeated}
use Rattle.server.specs.Attending.{HasText, Attended, OneByOne, Pairs, ServedUntil}
use Rattle.server.specs.Served.{AllSeated, WorkerServed}

-- ---- a connection does to what a machine holds as it does to the machine

module _ {S U : Type 0} (held : S → U) (step : Step S) (inner : Step U)
    (on : (s : S) (call : Call) (body : List ℕ) (told : Option (ℕ × List ℕ)) (t : S) → step s call body told t → inner (held s) call body told (held t)) where
  turn_along : (s : S) (number : ℕ) (input text : List ℕ) (t : S) (next : Next) → Turn step s number input text t next → Turn inner (held s) number input text (held t) next
  turn_along s number input text t next (no_request end none same then) = no_request end none (ap held same) then
  turn_along s number input text t next (unknown head body rest has unrouted says same then) = unknown head body rest has unrouted says (ap held same) then
  turn_along s number input text t next (answered head body rest call status said has routed may says then) =
      answered head body rest call status said has routed (on s call body (Some (status, said)) t may) says then
  turn_along s number input text t next (no_memory head body rest call has routed may says then) = no_memory head body rest call has routed (on s call body None t may) says then

  goes_along : (count : ℕ) (s : S) (number : ℕ) (input rest text : List ℕ) (t : S) → Goes step s number count input rest text t → Goes inner (held s) number count input rest text (held t)
  goes_along zero s number input rest text t goes = (goes.0, goes.1, ap held goes.2)
  goes_along (suc count) s number input rest text t goes = (
    goes.0,
    held goes.1,
    goes.2,
    goes.3,
    turn_along s number input goes.0 goes.1 (go_on goes.2) goes.4,
    goes_along count goes.1 (suc number) goes.2 rest goes.3 t goes.5,
    goes.6,
  )

  text_along : (s : S) (next : Next) (t : S) → HasText step s next t → HasText inner (held s) next (held t)
  text_along s next t has =
      let it = has.is_text in
      record {
        input = has.input;
        text = has.text;
        is_text = record {
          count = it.count;
          rest = it.rest;
          before = it.before;
          mid = held it.mid;
          last = it.last;
          goes = goes_along it.count s 1 has.input it.rest it.before it.mid it.goes;
          turn = turn_along it.mid (suc it.count) it.rest it.last t next it.turn;
          says = it.says;
        };
      }

  pub attended_along : (s : S) (end : End) (t : S) → Attended step s end t → Attended inner (held s) end (held t)
  attended_along s Closed t has = text_along s _ t has
  attended_along s Asked t has = text_along s _ t has
  attended_along s Broken t has = text_along s _ t has
  attended_along s ReadFault t (inl has) = inl (text_along s _ t has)
  attended_along s ReadFault t (inr has) = inr (text_along s _ t has)
  attended_along s WriteFault t has = (has.0, text_along s has.0 t has.1)
  attended_along s Memory t (inl same) = inl (ap held same)
  attended_along s Memory t (inr has) = inr (text_along s _ t has)

-- ---- what a worker did

module _ {T : Type 0} (g : Ghosts T) (book : Book) (starts : Posts T → Type 0) {S : Type 0} (front : S → FrontState) where
  -- one more has a seat
  pub seated_on : (ss : List S) (s : S) → AllSeated g book starts front ss → IsSeated g book starts (front s) → AllSeated g book starts front (ss ++ s ∷ [])
  seated_on [] s all one = (one, tt)
  seated_on (x ∷ ss) s all one = (all.0, seated_on ss s all.1 one)

  module _ (served : S → End → S → Type 0) (left : S → Hand Deed → Type 0)
      (on : (s : S) (end : End) (t : S) → served s end t → Attended (FrontStep g book starts) (front s) end (front t))
      (gives : (t : S) (place : Hand Deed) → left t place → place ≡ (front t).hand) (deeds : List (Entry Deed)) where
    each_along : (s : S) (ends : List End) (t : S) → OneByOne served s ends t → OneByOne (Attended (FrontStep g book starts)) (front s) ends (front t)
    each_along s [] t same = ap front same
    each_along s (end ∷ ends) t took = (front took.0, each_along s ends took.0 took.1, on took.0 end t took.2)

    worker_served : (s : S) (place : Hand Deed) → IsSeated g book starts (front s) → ServedUntil served left s place → StandsIn deeds place → WorkerServed g book starts deeds
    worker_served s place seated until stands =
        record {
          began = front s;
          seated = seated;
          ends = until.0;
          ended = front until.1;
          served = each_along s until.0 until.1 until.2;
          stands = subst (λ (h : Hand Deed). StandsIn deeds h) (gives until.1 place until.3) stands;
        }

    -- all workers, and the one place more
    pub all_served : (ss : List S) (places : List (Hand Deed)) (last : Hand Deed) → AllSeated g book starts front ss → Pairs (ServedUntil served left) ss places
        → AllStandIn deeds (places ++ last ∷ []) → (all : List (WorkerServed g book starts deeds)) × (length all ≡ length ss) × StandsIn deeds last
    all_served [] [] last seated pairs stand = ([], refl, stand.0)
    all_served [] (place ∷ places) last seated pairs stand = absurd pairs
    all_served (s ∷ ss) [] last seated pairs stand = absurd pairs
    all_served (s ∷ ss) (place ∷ places) last seated pairs stand =
        let more = all_served ss places last seated.1 pairs.1 stand.1 in (worker_served s place seated.0 pairs.0 stand.0 ∷ more.0, ap suc more.1, more.2)
