-- A revision that was shown is none of the future.
use Rattle.std.proofs.Common.{◌≡◌, ℕ, ◌≤◌, true, sym, ap, ◌∙◌, subst, arith}
use Rattle.std.specs.Prelude.{IsTrue, Option, None}
use Rattle.names.specs.declared.refusal.Refusal.{Refusal}
use Rattle.names.specs.declared.refusal.Refusal.TheVariants.{Future}
use Rattle.logbook.specs.Pages.{Book}
use Rattle.rows.specs.Retained.{newest}
use Rattle.zookie.specs.Fits.{IsFuture, IsForeign, IsFirstCause}
use Rattle.zookie.specs.declared.consistency.Consistency.{Consistency}
use Rattle.zookie.specs.declared.consistency.Consistency.TheVariants.{Latest, AtLeast, Exactly}
use Rattle.leopard.specs.Query.{is_allowed}
use Rattle.leopard.specs.Exprs.{query_of}
use Rattle.tables.specs.declared.tables.Tables.{Ghosts}
use Rattle.shown.specs.declared.answer.Refused.{Refused}
use Rattle.shown.specs.declared.question.Question.{Question}
use Rattle.shown.specs.declared.question.Question.TheVariants.{Check, Expand, Read, Lookup, Groups, Watch, State}
use Rattle.shown.specs.Standing.{Standing, standing}
use Rattle.shown.specs.Answers.{CheckRefused}
use Rattle.shown.specs.Expanding.{ExpandRefused}
use Rattle.shown.specs.Paging.{ReadRefused}
use Rattle.shown.specs.Looking.{LookupRefused}
use Rattle.shown.specs.Grouping.{GroupsRefused}
use Rattle.shown.specs.Watching.{WatchRefused}
use Rattle.shown.specs.Asked.{RefusesQuestion, IsAhead}
use Rattle.published.specs.Judged.{AreJudged}
use Rattle.published.specs.Known.{Known, Begins}
use Rattle.published.specs.Receipts.{ReceiptFacts}
use Rattle.published.proofs.Rising.{rise}
use Rattle.desk.specs.Posts.{Posts, shown_by}
use Rattle.desk.specs.Changes.{Tells, TellsShown}
use Rattle.keeper.specs.Kept.{IsKept}
use Rattle.keeper.specs.Shown.{consistency_of, AsksAtMost, ShowsWhatIsStored}

first_of : (A B : Type 0) → A × B → A
first_of A B p = p.0

second_of : (A B : Type 0) → A × B → B
second_of A B p = p.1

middle_of : (A B C : Type 0) → A × B × C → B
middle_of A B C p = p.1

-- the first cause of a zookie is that it is of the future
cause_future : (consistency : Consistency) (store floor last : ℕ) → IsFirstCause consistency store floor last Future → IsFuture consistency last
cause_future consistency store floor last cause = second_of (¬ (IsForeign consistency store)) (IsFuture consistency last) cause

told_future : (s : Standing) (consistency : Consistency) (at : Option ℕ) → IsFirstCause consistency s.kept.number s.kept.floor (newest s.kept) Future × (at ≡ None)
    → IsFuture consistency (newest s.kept)
told_future s consistency at told =
    cause_future consistency s.kept.number s.kept.floor (newest s.kept) (first_of (IsFirstCause consistency s.kept.number s.kept.floor (newest s.kept) Future) (at ≡ None) told)

future_of : (s : Standing) (question : Question) (refused : Refused) → refused.why ≡ Future → RefusesQuestion s question refused → IsFuture (consistency_of question) (newest s.kept)
future_of s (Check consistency node user) refused is why = told_future s consistency refused.at (subst (λ (e : Refusal). CheckRefused s consistency node e refused.at) is why)
future_of s (Expand consistency node depth) refused is why = told_future s consistency refused.at (subst (λ (e : Refusal). ExpandRefused s consistency node depth.nodes e refused.at) is why)
future_of s (Read consistency asked) refused is why = told_future s consistency refused.at (subst (λ (e : Refusal). ReadRefused s consistency e refused.at) is why)
future_of s (Lookup consistency asked) refused is why = told_future s consistency refused.at (subst (λ (e : Refusal). LookupRefused s consistency asked e refused.at) is why)
future_of s (Groups consistency expr limit) refused is why =
    cause_future consistency s.kept.number s.kept.floor (newest s.kept)
    (middle_of (is_allowed (query_of expr) limit ≡ true) (IsFirstCause consistency s.kept.number s.kept.floor (newest s.kept) Future) (refused.at ≡ None)
    (subst (λ (e : Refusal). GroupsRefused s consistency (query_of expr) limit e refused.at) is why))
future_of s (Watch cursor namespaces commits) refused is why =
    cause_future (Exactly cursor) s.kept.number s.kept.floor (newest s.kept)
    (subst (λ (e : Refusal). WatchRefused s cursor e) is (first_of (WatchRefused s cursor refused.why) (refused.at ≡ None) why))
future_of s State refused is why = absurd why

not_above : (consistency : Consistency) (rev last : ℕ) → AsksAtMost consistency rev → rev ≤ last → IsFuture consistency last → ⊥
not_above Latest rev last asks there future = future
not_above (AtLeast zookie) rev last asks there future = absurd (omega (arith, asks, there, future))
not_above (Exactly zookie) rev last asks there future = absurd (omega (arith, asks, there, future))

module _ {T : Type 0} (g : Ghosts T) (book : Book) (desk : Posts T) (kept : IsKept g book desk) where
  pub shows_stored : ShowsWhatIsStored g desk
  shows_stored =
      record {
        rises = rise desk.shown desk.posted kept.judged.shown_were kept.judged.posted_were kept.beginning;
        holds = kept.agrees.holds;
      }

  module _ (receipt : ReceiptFacts) (known : Known) (question : Question) (learnt : Begins receipt.published known) (judged : AreJudged known.steps)
      (asks : AsksAtMost (consistency_of question) receipt.rev) where
    not_ahead : receipt.published ≡ shown_by desk → receipt.rev ≡ newest (standing desk.shown).kept → IsAhead (standing known.steps) question → ⊥
    not_ahead published shown ahead =
        let begins = subst (λ (k : Known). Begins k known) published learnt in
        let there = (rise desk.shown known.steps kept.judged.shown_were judged begins.1).newest_there in
        not_above (consistency_of question) receipt.rev (newest (standing known.steps).kept) asks (omega (arith, shown, there))
        (future_of (standing known.steps) question ahead.refused ahead.why ahead.refuses)

    pub told_not_ahead : TellsShown receipt desk → IsAhead (standing known.steps) question → ⊥
    told_not_ahead tells = not_ahead tells.published tells.rev

    pub shown_not_ahead : Tells receipt desk → IsTrue receipt.shown → IsAhead (standing known.steps) question → ⊥
    shown_not_ahead tells shown = not_ahead tells.published (tells.rev ∙ ap (λ steps. newest (standing steps).kept) (sym (tells.shown.0 shown)))
