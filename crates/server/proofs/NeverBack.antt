-- No connection takes a machine back on what it knew, where none of its steps does.
use Rattle.std.proofs.Common.{◌≡◌, ℕ, suc, zero, List, [], ◌∷◌, sym, subst, inl, inr}
use Rattle.std.specs.Prelude.{Option, Some, None}
use Rattle.names.specs.declared.call.Call.{Call}
use Rattle.answers.specs.declared.end.End.{End}
use Rattle.answers.specs.declared.end.End.TheVariants.{Closed, Asked, Broken, ReadFault, WriteFault, Memory}
use Rattle.answers.specs.Machine.{Step}
use Rattle.http_api.specs.Connection.{Next, go_on, Turn, no_request, unknown, answered, no_memory, Goes}
use Rattle.keeper.specs.Fronts.{FrontState}
use Rattle.keeper.specs.Kept.{NeverGoesBack}
use Rattle.keeper.proofs.NeverBack.{never_back_self, never_back_on}
use Rattle.server.specs.Attending.{HasText, Attended, OneByOne}

stays : (s t : FrontState) → t ≡ s → NeverGoesBack s.known t.known
stays s t same = subst (λ (x : FrontState). NeverGoesBack s.known x.known) (sym same) (never_back_self s.known)

module _ (step : Step FrontState) (never : (s : FrontState) (call : Call) (body : List ℕ) (told : Option (ℕ × List ℕ)) (t : FrontState) → step s call body told t → NeverGoesBack s.known t.known) where
  turn_stays : (s : FrontState) (number : ℕ) (input text : List ℕ) (t : FrontState) (next : Next) → Turn step s number input text t next → NeverGoesBack s.known t.known
  turn_stays s number input text t next (no_request end none same then) = stays s t same
  turn_stays s number input text t next (unknown head body rest has unrouted says same then) = stays s t same
  turn_stays s number input text t next (answered head body rest call status said has routed may says then) = never s call body (Some (status, said)) t may
  turn_stays s number input text t next (no_memory head body rest call has routed may says then) = never s call body None t may

  goes_stays : (count : ℕ) (s : FrontState) (number : ℕ) (input rest text : List ℕ) (t : FrontState) → Goes step s number count input rest text t → NeverGoesBack s.known t.known
  goes_stays zero s number input rest text t goes = stays s t goes.2
  goes_stays (suc count) s number input rest text t goes =
      never_back_on s.known goes.1.known t.known (turn_stays s number input goes.0 goes.1 (go_on goes.2) goes.4) (goes_stays count goes.1 (suc number) goes.2 rest goes.3 t goes.5)

  text_stays : (s : FrontState) (next : Next) (t : FrontState) → HasText step s next t → NeverGoesBack s.known t.known
  text_stays s next t has =
      let it = has.is_text in
      never_back_on s.known it.mid.known t.known (goes_stays it.count s 1 has.input it.rest it.before it.mid it.goes) (turn_stays it.mid (suc it.count) it.rest it.last t next it.turn)

  pub attended_stays : (s : FrontState) (end : End) (t : FrontState) → Attended step s end t → NeverGoesBack s.known t.known
  attended_stays s Closed t has = text_stays s _ t has
  attended_stays s Asked t has = text_stays s _ t has
  attended_stays s Broken t has = text_stays s _ t has
  attended_stays s ReadFault t (inl has) = text_stays s _ t has
  attended_stays s ReadFault t (inr has) = text_stays s _ t has
  attended_stays s WriteFault t has = text_stays s has.0 t has.1
  attended_stays s Memory t (inl same) = stays s t same
  attended_stays s Memory t (inr has) = text_stays s _ t has

  pub each_stays : (s : FrontState) (ends : List End) (t : FrontState) → OneByOne (Attended step) s ends t → NeverGoesBack s.known t.known
  each_stays s [] t same = stays s t same
  each_stays s (end ∷ ends) t took = never_back_on s.known took.0.known t.known (each_stays s ends took.0 took.1) (attended_stays took.0 end t took.2)
