use Rattle.std.proofs.Common.{◌≡◌, ℕ, List, [], ◌∷◌, ◌++◌, ap, ap₂, ◌∙◌, append_assoc}
use Rattle.std.specs.Prelude.{Result, Ok, Err, OnOk, is_ok, cond}
use Rattle.names.specs.declared.commit.Event.{Event}
use Rattle.tuple_keys.specs.Packed.{sign_of, event_text}
use Rattle.tuple_keys.specs.Spelled.{spelled}
use Rattle.tuple_keys.proofs.kept_events.push_event.Goals as goal

pushed : {T E : Type 0} (r : Result T E) (old mid new sign tuple : List ℕ) (e : Event) → mid ≡ old ++ sign → sign ≡ sign_of e.kind ∷ [] → tuple ≡ spelled e.tuple
    → new ≡ cond (is_ok r) (mid ++ tuple) mid → OnOk r (new ≡ old ++ event_text e)
pushed (Ok x) old mid new sign tuple e m s t n = n ∙ ap₂ (λ a b. a ++ b) (m ∙ ap (λ l. old ++ l) s) t ∙ append_assoc old (sign_of e.kind ∷ []) (spelled e.tuple)
pushed (Err x) old mid new sign tuple e m s t n = tt

pub returns-clause-text : goal.returns-clause-text
returns-clause-text c =
    pushed c.push_str-2.result _ _ _ c.sign_of.result.now c.as_str.result.now c.args.event.now c.in_ok-push_str.ensures.bytes c.sign_of.ensures
    (c.as_str.ensures.text ∙ ap spelled (c.tuple_ref-tuple.ensures ∙ c.of-scratch.ensures)) c.push_str-2.ensures.bytes
