-- What the tables of a desk leave after each connection.
use Rattle.std.proofs.Common.{◌≡◌, ℕ, Bool, true, false, List, [], ◌∷◌, zero, suc, sym, refl, ◌∙◌, subst, inl, inr}
use Rattle.std.specs.Prelude.{Some, None}
use Rattle.std.proofs.lemmas.List.Elements.{All-nil, All-weaker}
use Rattle.httparse.specs.Grammar.{RequestHead}
use Rattle.tables.specs.Device.{Device}
use Rattle.tables.specs.declared.tables.Tables.{Ghosts}
use Rattle.tables.proofs.Lasting.{lasts_self}
use Rattle.desk.specs.TableChanges.{TableChange, CanChange}
use Rattle.desk.specs.Posts.{Posts}
use Rattle.calls.specs.Rules.{DeskStep}
use Rattle.answers.specs.declared.end.End.{End}
use Rattle.answers.specs.declared.end.End.TheVariants.{Closed, Asked, Broken, ReadFault, WriteFault, Memory}
use Rattle.answers.specs.Machine.{Step}
use Rattle.http_api.specs.Connection.{Next, stop, go_on, after, HasRequest, Turn, no_request, unknown, answered, no_memory, Goes, Text}
use Rattle.http_api.specs.Talks.{Talked, TalkedSoFar, TalkCut}
use Rattle.calls.specs.Beginning.{Began, kept_by}
use Rattle.runs.specs.Connections.{IsRequestedIn, IsRequestedInOne, HasServed, Serves, IsServing, StaysServing}
use Rattle.runs.specs.inside.Leaving.{HasLeft}
use Rattle.runs.proofs.Leaving.{Weaker, holds_first, same_desk, after_step_of}
use Rattle.tracked_io.specs.Wrote.{Taken}

-- what a connection goes on with is what follows the request
rest_of : (closed : Bool) (rest left : List ℕ) → go_on left ≡ after closed rest → rest ≡ left
rest_of true rest left is = let e : go_on left ≡ stop Asked = is in cc
rest_of false rest left is = let e : go_on left ≡ go_on rest = is in cc

went_on : {S : Type 0} (step : Step S) (s : S) (number : ℕ) (input text : List ℕ) (t : S) (next : Next) (left : List ℕ) → next ≡ go_on left → Turn step s number input text t next
    → (head : RequestHead) × (body : List ℕ) × HasRequest input head body left
went_on step s number input text t next left goes (no_request end none same then) = let e : go_on left ≡ stop end = sym goes ∙ then in cc
went_on step s number input text t next left goes (unknown head body rest has unrouted says same then) =
    (head, body, subst (λ (r : List ℕ). HasRequest input head body r) (rest_of _ rest left (sym goes ∙ then)) has)
went_on step s number input text t next left goes (answered head body rest call status said has routed may says then) =
    (head, body, subst (λ (r : List ℕ). HasRequest input head body r) (rest_of _ rest left (sym goes ∙ then)) has)
went_on step s number input text t next left goes (no_memory head body rest call has routed may says then) = let e : go_on left ≡ stop Memory = sym goes ∙ then in cc

-- a request behind the first is one of the input
asked_later : (input left : List ℕ) (c : TableChange) → ((head : RequestHead) × (body : List ℕ) × HasRequest input head body left) → IsRequestedIn left c → IsRequestedIn input c
asked_later input left c first is = (suc is.0, (first.0, first.1, left, first.2, inr is.1))

asked_behind : {S : Type 0} (step : Step S) (count : ℕ) (s : S) (number : ℕ) (input rest text : List ℕ) (t : S) (c : TableChange) → Goes step s number count input rest text t → IsRequestedIn rest c → IsRequestedIn input c
asked_behind step zero s number input rest text t c goes is = subst (λ (i : List ℕ). IsRequestedIn i c) goes.0 is
asked_behind step (suc count) s number input rest text t c goes is =
    asked_later input goes.2 c (went_on step s number input goes.0 goes.1 (go_on goes.2) goes.2 refl goes.4) (asked_behind step count goes.1 (suc number) goes.2 rest goes.3 t c goes.5 is)

module _ {T : Type 0} (g : Ghosts T) (weaker : Weaker g) (P : TableChange → Type 0) (start : Device) where
  after_turn : (old : Posts T) (number : ℕ) (input text : List ℕ) (new : Posts T) (next : Next) → ((c : TableChange) → IsRequestedIn input c → P c)
      → Turn (DeskStep g) old number input text new next → HasLeft g P start old → HasLeft g P start new
  after_turn old number input text new next asked (no_request end none same then) h = same_desk g weaker P start old new same h
  after_turn old number input text new next asked (unknown head body rest has unrouted says same then) h = same_desk g weaker P start old new same h
  after_turn old number input text new next asked (answered head body rest call status said has routed may says then) h =
      after_step_of g weaker P start old call body (Some (status, said)) new (λ c asks. asked c (1, (head, body, rest, has, inl (call, routed, asks)))) may h
  after_turn old number input text new next asked (no_memory head body rest call has routed may says then) h =
      after_step_of g weaker P start old call body None new (λ c asks. asked c (1, (head, body, rest, has, inl (call, routed, asks)))) may h

  after_goes : (count : ℕ) (old : Posts T) (number : ℕ) (input rest text : List ℕ) (new : Posts T) → ((c : TableChange) → IsRequestedIn input c → P c)
      → Goes (DeskStep g) old number count input rest text new → HasLeft g P start old → HasLeft g P start new
  after_goes zero old number input rest text new asked goes h = same_desk g weaker P start old new goes.2 h
  after_goes (suc count) old number input rest text new asked goes h =
      after_goes count goes.1 (suc number) goes.2 rest goes.3 new
      (λ c is. asked c (asked_later input goes.2 c (went_on (DeskStep g) old number input goes.0 goes.1 (go_on goes.2) goes.2 refl goes.4) is)) goes.5
      (after_turn old number input goes.0 goes.1 (go_on goes.2) asked goes.4 h)

  after_text : (old : Posts T) (input text : List ℕ) (new : Posts T) (next : Next) → ((c : TableChange) → IsRequestedIn input c → P c)
      → Text (DeskStep g) old input text new next → HasLeft g P start old → HasLeft g P start new
  after_text old input text new next asked t h =
      after_turn t.mid (suc t.count) t.rest t.last new next (λ c is. asked c (asked_behind (DeskStep g) t.count old 1 input t.rest t.before t.mid c t.goes is)) t.turn
      (after_goes t.count old 1 input t.rest t.before t.mid asked t.goes h)

module _ {T : Type 0} (g : Ghosts T) (weaker : Weaker g) (input text : List ℕ) (old new : Posts T) (next : Next) (is_text : Text (DeskStep g) old input text new next) where
  -- a desk that had served connections has served one more
  pub served_more : (first : Posts T) (inputs : List (List ℕ)) → HasServed g first inputs old → HasServed g first (input ∷ inputs) new
  served_more first inputs h =
      let Asks : TableChange → Type 0 = IsRequestedInOne (input ∷ inputs) in
      let before : HasLeft g Asks (g.device first.tables) old = record {
        holds = h.holds;
        more = h.more;
        follow = h.follow;
        asked = All-weaker (IsRequestedInOne inputs) Asks (λ c is. inr is) h.more h.asked;
        leaves = h.leaves;
        lasts = h.lasts;
      } in
      let left : HasLeft g Asks (g.device first.tables) new = after_text g weaker Asks (g.device first.tables) old input text new next (λ c is. inl is) is_text before in
      record { ran = (old, text, next, h.ran, is_text); holds = left.holds; more = left.more; follow = left.follow; asked = left.asked; leaves = left.leaves; lasts = left.lasts }

  pub serves : (Did : Posts T → Posts T → Type 0) → Did old new → Serves g input Did old new
  serves Did did = record { did = did; served = served_more }

-- a desk that was opened has served none yet
pub ready : {T : Type 0} (g : Ghosts T) (tables : T) (desk : Posts T) → Began g tables desk → HasServed g desk [] desk
ready g tables desk began = record {
  ran = refl;
  holds = λ _. holds_first g tables desk began;
  more = [];
  follow = All-nil (CanChange (kept_by desk));
  asked = All-nil (IsRequestedInOne []);
  leaves = began.settled;
  lasts = lasts_self (g.device desk.tables);
}

-- ---- however a connection ends

pub kept_by_serving : {T : Type 0} (g : Ghosts T) (input : List ℕ) (Did : Posts T → Posts T → Type 0) (old new : Posts T) → Serves g input Did old new → StaysServing g old new
kept_by_serving g input Did old new s first known = (input ∷ known.0, s.served first known.0 known.1)

pub kept_alone : {T : Type 0} (g : Ghosts T) (old new : Posts T) → new ≡ old → StaysServing g old new
kept_alone {T} g old new same first known = subst (λ (d : Posts T). IsServing g first d) (sym same) known

module _ {T : Type 0} (g : Ghosts T) (weaker : Weaker g) (input : List ℕ) (old new : Posts T) (held holds : Taken) where
  pub serves_talked : (end : End) (Did : Posts T → Posts T → Type 0) → Did old new → Talked (DeskStep g) old held input new holds end → Serves g input Did old new
  serves_talked end Did did t = serves g weaker input t.text old new (stop end) t.is_text Did did

  pub serves_so_far : (Did : Posts T → Posts T → Type 0) → Did old new → TalkedSoFar (DeskStep g) old held input new holds → Serves g input Did old new
  serves_so_far Did did (inl t) = serves_talked Closed Did did t
  serves_so_far Did did (inr t) = serves_talked Broken Did did t

  pub serves_cut : (Did : Posts T → Posts T → Type 0) → Did old new → TalkCut (DeskStep g) old held input new holds → Serves g input Did old new
  serves_cut Did did t = serves g weaker input t.text old new t.next t.is_text Did did

module _ {T : Type 0} (g : Ghosts T) (weaker : Weaker g) (input : List ℕ) (old new : Posts T) (held holds : Taken) where
  pub talked_on : (end : End) → Talked (DeskStep g) old held input new holds end → StaysServing g old new
  talked_on end t = kept_by_serving g input (λ a b. Unit {0}) old new (serves_talked g weaker input old new held holds end (λ a b. Unit {0}) tt t)

  pub so_far_on : TalkedSoFar (DeskStep g) old held input new holds → StaysServing g old new
  so_far_on t = kept_by_serving g input (λ a b. Unit {0}) old new (serves_so_far g weaker input old new held holds (λ a b. Unit {0}) tt t)

  pub cut_on : TalkCut (DeskStep g) old held input new holds → StaysServing g old new
  cut_on t = kept_by_serving g input (λ a b. Unit {0}) old new (serves_cut g weaker input old new held holds (λ a b. Unit {0}) tt t)

pub kept_to_each_end : {T : Type 0} (g : Ghosts T) (old new : Posts T) (end : End) → (end ≡ Closed → StaysServing g old new) → (end ≡ Asked → StaysServing g old new) → (end ≡ Broken → StaysServing g old new)
    → (end ≡ ReadFault → StaysServing g old new) → (end ≡ WriteFault → StaysServing g old new) → (end ≡ Memory → StaysServing g old new) → StaysServing g old new
kept_to_each_end g old new Closed closed asked broken unread unwritten memory = closed refl
kept_to_each_end g old new Asked closed asked broken unread unwritten memory = asked refl
kept_to_each_end g old new Broken closed asked broken unread unwritten memory = broken refl
kept_to_each_end g old new ReadFault closed asked broken unread unwritten memory = unread refl
kept_to_each_end g old new WriteFault closed asked broken unread unwritten memory = unwritten refl
kept_to_each_end g old new Memory closed asked broken unread unwritten memory = memory refl
