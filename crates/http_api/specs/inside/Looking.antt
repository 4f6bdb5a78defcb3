-- What was found of a request in the bytes that have come.
use Rattle.std.specs.Prelude.{ℕ, ◌≡◌, ◌⊎◌, ◌≤◌, ◌<◌, List, [], length, drop, true, ⊤}
use Rattle.names.specs.declared.limits.TheConstants.{MAX_BODY_LEN}
use Rattle.httparse.specs.Grammar.{RequestHead}
use Rattle.http_api.specs.declared.framing.Framing.TheVariants.{Unclear, Missing, Sized}
use Rattle.http_api.specs.declared.looking.Heading.{Heading}
use Rattle.http_api.specs.declared.looking.Refused.{Refused}
use Rattle.http_api.specs.declared.looking.Refused.TheVariants.{Malformed, NoLength, TooLarge}
use Rattle.http_api.specs.declared.looking.Looked.{Looked}
use Rattle.http_api.specs.declared.looking.Looked.TheVariants.{Request, Refused as RefusedFor, Partial}
use Rattle.http_api.specs.Heads.{Begins, EndsInHead, pairs, framing_of, asks_to_close, max_head}
use Rattle.http_api.specs.Routes.{route_of}
use Rattle.http_api.specs.Replies.{reply_text, malformed, length_required, body_too_large}

-- the heading is that of this head
pub record IsHeading (head : RequestHead) (heading : Heading) : Type 0 where
  pub frames : framing_of head ≡ Sized heading.body
  pub fits : heading.body ≤ MAX_BODY_LEN
  pub call : heading.call ≡ route_of head.method head.target
  pub closes : heading.closes ≡ asks_to_close head.minor (pairs head)

-- the input begins with this head, whose heading this is
pub record HasHeading (input : List ℕ) (head : RequestHead) (heading : Heading) : Type 0 where
  pub begins : Begins input head (drop heading.head input)
  pub within : heading.head ≤ length input
  pub short : heading.head ≤ max_head
  pub heads : IsHeading head heading

-- a head of this length asks for this
abbrev pub AsksFor : RequestHead → ℕ → Looked → Type 0
AsksFor head len (Request heading) = (heading.head ≡ len) × IsHeading head heading
AsksFor head len (RefusedFor Malformed) = framing_of head ≡ Unclear
AsksFor head len (RefusedFor NoLength) = framing_of head ≡ Missing
AsksFor head len (RefusedFor TooLarge) = (size : ℕ) × (framing_of head ≡ Sized size) × (MAX_BODY_LEN < size)
AsksFor head len Partial = ⊥

-- nothing has come, or the beginning of a head
abbrev pub Waits : List ℕ → Type 0
Waits input = (input ≡ []) ⊎ EndsInHead input

abbrev pub refusal_text : Refused → List ℕ
refusal_text Malformed = reply_text 400 malformed true
refusal_text NoLength = reply_text 411 length_required true
refusal_text TooLarge = reply_text 413 body_too_large true

abbrev pub IfHeading : Looked → (Heading → Type 0) → Type 0
IfHeading (Request heading) P = P heading
IfHeading (RefusedFor why) P = ⊤
IfHeading Partial P = ⊤

abbrev pub IfRefused : Looked → (Refused → Type 0) → Type 0
IfRefused (Request heading) P = ⊤
IfRefused (RefusedFor why) P = P why
IfRefused Partial P = ⊤

abbrev pub OnPartial : Looked → Type 0 → Type 0
OnPartial (Request heading) P = ⊤
OnPartial (RefusedFor why) P = ⊤
OnPartial Partial P = P
