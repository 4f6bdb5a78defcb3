-- That the input decides the text of a connection, but for two freedoms.
use Rattle.std.specs.Prelude.{◌≡◌, ◌⊎◌, List, [], Option, true, ℕ}
use Rattle.names.specs.declared.call.Call.{Call}
use Rattle.httparse.specs.Grammar.{EndsInTarget}
use Rattle.answers.specs.declared.end.End.{End}
use Rattle.answers.specs.declared.end.End.TheVariants.{Asked, Broken}
use Rattle.answers.specs.Machine.{Step}
use Rattle.http_api.specs.Heads.{IsHopeless, CanBeHead}
use Rattle.http_api.specs.Replies.{reply_text, malformed}
use Rattle.http_api.specs.Connection.{stop, Text}

-- the machine has one reply to a call, and is then in one state
abbrev pub IsDecided : {S : Type 0} → Step S → Type 0
IsDecided {S} step = (s t u : S) (call : Call) (body : List ℕ) (reply other : Option (ℕ × List ℕ))
    → step s call body reply t → step s call body other u → (reply ≡ other) × (t ≡ u)

-- no head within the limits can come any more, and yet the input ends inside one in time, which then has too many fields, or inside a target
abbrev pub IsFree : List ℕ → Type 0
IsFree input = IsHopeless input × (CanBeHead input ⊎ EndsInTarget input)

-- the first is refused as malformed, and the second told as broken off
abbrev pub Parts : List ℕ → End → List ℕ → End → Type 0
Parts text end other ending = (text ≡ reply_text 400 malformed true) × (end ≡ Asked) × (other ≡ []) × (ending ≡ Broken)

-- two texts of a connection over one input: they are the same, or come to a freedom behind the same requests, and part there
pub record AreOne {S : Type 0} (step : Step S) (s : S) (input text other : List ℕ) (t u : S) (end ending : End)
    (a : Text step s input text t (stop end)) (b : Text step s input other u (stop ending)) : Type 0 where
  pub state : t ≡ u
  pub before : a.before ≡ b.before
  pub rest : a.rest ≡ b.rest
  pub last : ((a.last ≡ b.last) × (end ≡ ending)) ⊎ (IsFree a.rest × (Parts a.last end b.last ending ⊎ Parts b.last ending a.last end))
