use Rattle.std.proofs.Common.{◌≡◌, ℕ, ◌+◌, ◌<◌, List, [], ◌∷◌, ◌++◌, length, take, get_or, ap, sym, subst, ◌∙◌}
use Rattle.std.specs.List.{AllByRecursion}
use Rattle.std.proofs.lemmas.List.{take_more, take_all}
use Rattle.names.specs.Spelling.{IsTuple}
use Rattle.names.specs.declared.commit.Event.{Event}
use Rattle.tuple_keys.specs.Packed.{event_text, text_of, ends_of}
use Rattle.tuple_keys.proofs.Packing.{reads, packed, text_more, ends_more, tuples_more}
use Rattle.tuple_keys.proofs.kept_events.KeptEvents.of.Goals as goal

-- as far as the loop has come
record SoFar (text ends : List ℕ) (es : List Event) (i : ℕ) : Type 0 where
  pub text_is : text ≡ text_of (take i es)
  pub ends_are : ends ≡ ends_of 0 (take i es)
  pub tuples : AllByRecursion (λ e. IsTuple e.tuple) (take i es)

one_more : (text ends new_text new_ends : List ℕ) (es : List Event) (i end : ℕ) (e : Event) → SoFar text ends es i → i < length es → e ≡ get_or es i e → IsTuple e.tuple
    → new_text ≡ text ++ event_text e → new_ends ≡ ends ++ end ∷ [] → end ≡ length new_text → SoFar new_text new_ends es (i + 1)
one_more text ends new_text new_ends es i end e far within is tuple t s n =
    let more : take (i + 1) es ≡ take i es ++ e ∷ [] = take_more es i e within ∙ ap (λ x. take i es ++ x ∷ []) (sym is) in
    let whole : new_text ≡ text_of (take i es) ++ event_text e = t ∙ ap (λ l. l ++ event_text e) far.text_is in
    record {
      text_is = whole ∙ sym (text_more (take i es) e) ∙ ap text_of (sym more);
      ends_are = s ∙ ap (λ l. l ++ end ∷ []) far.ends_are ∙ ap (λ m. ends_of 0 (take i es) ++ m ∷ []) (n ∙ ap length whole) ∙ sym (ends_more (take i es) e) ∙ ap (ends_of 0) (sym more);
      tuples = subst (AllByRecursion (λ e. IsTuple e.tuple)) (sym more) (tuples_more (take i es) e far.tuples tuple);
    }

pub loop-event-preserved : goal.loop-event-preserved
loop-event-preserved c =
    let far : SoFar _ c.loop-event.ends.items c.args.events.now c.loop-event.event-index = record { text_is = c.loop-event.invariant.text; ends_are = c.loop-event.invariant.ends; tuples = c.loop-event.invariant.tuples } in
    let more = one_more _ _ _ c.push.new.self.items c.args.events.now c.loop-event.event-index c.in_ok-end_of.field-0 c.event-item.result far c.loop-event-test.true c.event-item.is c.push_event.ensures.tuple
    c.in_ok-push_event.ensures.text c.in_ok-push.ensures.items c.in_ok-end_of.ensures in
    record { text = more.text_is; ends = more.ends_are; tuples = more.tuples }

pub invariant_of-result : goal.invariant_of-result
invariant_of-result c = packed _ _ _ c.loop-event.invariant.text c.loop-event.invariant.ends c.loop-event.invariant.tuples

pub returns : goal.returns
returns c =
    reads _ _ _ c.loop-event.invariant.text c.loop-event.invariant.ends c.loop-event.invariant.tuples
    ∙ take_all c.loop-event.event-index c.args.events.now c.loop-event-test.false
