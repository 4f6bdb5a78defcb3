use Rattle.std.proofs.Common.{◌≡◌, ◌<◌, ℕ, ◌+◌, List, [], ◌∷◌, ◌++◌, map, take, get_or, length, sym, ap, subst, ◌∙◌}
use Rattle.std.proofs.lemmas.List.{map-append, map_more}
use Rattle.std.proofs.lemmas.List.Elements.{All-more}
use Rattle.names.specs.Spelling.{IsTuple}
use Rattle.names.specs.declared.commit.Event.{Event}
use Rattle.store.specs.inside.EventTexts.{event_texts, event_texts_in}
use Rattle.store.proofs.texts.events_of.Goals as goal

one_more : {A B C : Type 0} (f : A → C) (p : B → C) (xs new : List A) (ys : List B) (x : A) (y : B) (i : ℕ) → i < length ys → y ≡ get_or ys i y → map f xs ≡ map p (take i ys) → f x ≡ p y → new ≡ xs ++ x ∷ []
    → map f new ≡ map p (take (i + 1) ys)
one_more f p xs new ys x y i small at same here pushed =
    ap (map f) pushed ∙ map-append f xs (x ∷ []) ∙ ap (λ zs. zs ++ f x ∷ []) same ∙ ap (λ z. map p (take i ys) ++ z ∷ []) (here ∙ ap p at) ∙ sym (map_more p ys i y small)

at_index : {A : Type 0} (xs : List A) (i : ℕ) (x y : A) → x ≡ get_or xs i x → y ≡ x → y ≡ get_or xs i y
at_index xs i x y at is = is ∙ at ∙ ap (λ d. get_or xs i d) (sym is)

pub loop-i-preserved : goal.loop-i-preserved
loop-i-preserved c =
    let small : c.loop-i.i < length c.args.events.now = subst (λ (n : ℕ). c.loop-i.i < n) c.len-i-end.ensures.len c.loop-i-test.true in
    let at : c.event-event.result ≡ get_or c.args.events.now c.loop-i.i c.event-event.result = at_index c.args.events.now c.loop-i.i c.event.result c.event-event.result c.event.ensures c.event-event.ensures in (
      one_more event_texts_in (event_texts c.args.puts) c.loop-i.texts.items c.push.new.self.items c.args.events.now c.in_ok-event_of.field-0 c.event-event.result c.loop-i.i
          small at c.loop-i.invariant.0 c.in_ok-event_of.ensures c.in_ok-push.ensures.items,
      All-more (λ (e : Event). IsTuple e.tuple) c.args.events.now c.loop-i.i c.event-event.result small c.loop-i.invariant.1
          (subst (λ (e : Event). IsTuple e.tuple) at c.see_tuple.ensures),
    )
