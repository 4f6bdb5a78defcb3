-- The text of a connection over HTTP: what is written for the bytes read, case by case, and how it ends.
use Rattle.std.specs.Prelude.{ℕ, ◌≡◌, ◌⊎◌, ◌≤◌, ◌<◌, ◌++◌, List, [], length, Bool, true, if◌then◌else◌, Some, None, zero, suc}
use Rattle.names.specs.declared.call.Call.{Call}
use Rattle.names.specs.declared.limits.TheConstants.{MAX_BODY_LEN}
use Rattle.httparse.specs.Grammar.{RequestHead}
use Rattle.http_api.specs.declared.framing.Framing.TheVariants.{Unclear, Missing, Sized}
use Rattle.answers.specs.declared.end.End.{End}
use Rattle.answers.specs.declared.end.End.TheVariants.{Closed, Asked, Broken, Memory}
use Rattle.answers.specs.Machine.{Step}
use Rattle.http_api.specs.Heads.{Begins, IsHopeless, EndsInHead, framing_of, closes, max_head}
use Rattle.http_api.specs.Routes.{route_of}
use Rattle.http_api.specs.Replies.{reply_text, memory_text, malformed, length_required, body_too_large, no_route}

-- The cases come in the order in which they decide. That a head was found, within its limits, is `Begins` in those that follow it.

-- the input has no whole request at its front: what is written, and how the connection ends
pub data NoRequest (input : List ℕ) (text : List ℕ) (end : End) : Type 0 where
  -- the input ends before its first byte
  at_end : input ≡ [] → text ≡ [] → end ≡ Closed → NoRequest input text end
  -- no head can come any more
  no_head : IsHopeless input → text ≡ reply_text 400 malformed true → end ≡ Asked → NoRequest input text end
  -- the input ends inside a head
  cut_in_head : EndsInHead input → text ≡ [] → end ≡ Broken → NoRequest input text end
  -- Transfer-Encoding, two Content-Lengths, or one that is not 1 to 19 digits
  unclear_length : (head : RequestHead) (tail : List ℕ) → Begins input head tail → framing_of head ≡ Unclear
      → text ≡ reply_text 400 malformed true → end ≡ Asked → NoRequest input text end
  -- a POST without a Content-Length
  no_length : (head : RequestHead) (tail : List ℕ) → Begins input head tail → framing_of head ≡ Missing
      → text ≡ reply_text 411 length_required true → end ≡ Asked → NoRequest input text end
  -- the body is too long, and is not read
  too_large : (head : RequestHead) (tail : List ℕ) (size : ℕ) → Begins input head tail → framing_of head ≡ Sized size → MAX_BODY_LEN < size
      → text ≡ reply_text 413 body_too_large true → end ≡ Asked → NoRequest input text end
  -- the input ends in the body
  cut_in_body : (head : RequestHead) (tail : List ℕ) (size : ℕ) → Begins input head tail → framing_of head ≡ Sized size → size ≤ MAX_BODY_LEN
      → length tail < size → text ≡ [] → end ≡ Broken → NoRequest input text end

-- the input begins with this head, then a body of a length that is taken, and then has this rest
pub record HasRequest (input : List ℕ) (head : RequestHead) (body rest : List ℕ) : Type 0 where
  pub tail : List ℕ
  pub begins : Begins input head tail
  pub frames : framing_of head ≡ Sized (length body)
  pub fits : length body ≤ MAX_BODY_LEN
  pub parts : tail ≡ body ++ rest

-- the input begins with this head, and ends within the body that it asks for
pub record EndsInBody (input : List ℕ) : Type 0 where
  pub head : RequestHead
  pub tail : List ℕ
  pub size : ℕ
  pub begins : Begins input head tail
  pub frames : framing_of head ≡ Sized size
  pub fits : size ≤ MAX_BODY_LEN
  pub within : length tail ≤ size

-- as much as is read for one request: what a head may have, or a body that is taken, to its end
abbrev pub IsFew : List ℕ → Type 0
IsFew input = (length input ≤ max_head) ⊎ EndsInBody input

-- what becomes of a connection after a request: it ends, or goes on with the rest of its input
pub data Next : Type 0 where
  stop : End → Next
  go_on : List ℕ → Next

abbrev pub after : Bool → List ℕ → Next
after closed rest = if closed then stop Asked else go_on rest

-- request `number` of a connection, at the front of the input: what is written for it, where it leaves the machine, and what becomes of the connection
pub data Turn {S : Type 0} (step : Step S) (s : S) (number : ℕ) (input : List ℕ) (text : List ℕ) (t : S) (next : Next) : Type 0 where
  no_request : (end : End) → NoRequest input text end → t ≡ s → next ≡ stop end → Turn step s number input text t next
  -- no route has this method and this target
  unknown : (head : RequestHead) (body rest : List ℕ) → HasRequest input head body rest → route_of head.method head.target ≡ None
      → text ≡ reply_text 404 no_route (closes head number) → t ≡ s → next ≡ after (closes head number) rest → Turn step s number input text t next
  -- the call is answered
  answered : (head : RequestHead) (body rest : List ℕ) (call : Call) (status : ℕ) (said : List ℕ) → HasRequest input head body rest
      → route_of head.method head.target ≡ Some call → step s call body (Some (status, said)) t
      → text ≡ reply_text status said (closes head number) → next ≡ after (closes head number) rest → Turn step s number input text t next
  -- or there was no memory for the reply
  no_memory : (head : RequestHead) (body rest : List ℕ) (call : Call) → HasRequest input head body rest
      → route_of head.method head.target ≡ Some call → step s call body None t
      → text ≡ memory_text → next ≡ stop Memory → Turn step s number input text t next

-- so many requests, from `number` on, are answered one after another, and the connection goes on with the rest
abbrev pub Goes : {S : Type 0} → Step S → S → ℕ → ℕ → List ℕ → List ℕ → List ℕ → S → Type 0
Goes step s number zero input rest text t = (rest ≡ input) × (text ≡ []) × (t ≡ s)
Goes {S} step s number (suc count) input rest text t = (first : List ℕ) × (mid : S) × (left : List ℕ) × (more : List ℕ)
    × Turn step s number input first mid (go_on left) × Goes step mid (suc number) count left rest more t × (text ≡ first ++ more)

-- the whole connection: some requests that it goes on after, and one turn more, after which this becomes of it
pub record Text {S : Type 0} (step : Step S) (s : S) (input : List ℕ) (text : List ℕ) (t : S) (next : Next) : Type 0 where
  pub count : ℕ
  pub rest : List ℕ
  pub before : List ℕ
  pub mid : S
  pub last : List ℕ
  pub goes : Goes step s 1 count input rest before mid
  pub turn : Turn step mid (suc count) rest last t next
  pub says : text ≡ before ++ last
