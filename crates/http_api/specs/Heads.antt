-- The heads that a connection takes, and what their fields say of the body and of the connection.
use Rattle.std.specs.Prelude.{ℕ, ◌⊎◌, ◌≤◌, ◌<◌, ◌==◌, ◌&&◌, ◌||◌, ◌++◌, List, [], ◌∷◌, length, map, Bool, if◌then◌else◌, nat_le, bytes_eq, codes}
use Rattle.std.specs.List.{list_all, list_any, filter}
use Rattle.std.specs.Char.{to_ascii_lowercase, is_ascii_digit}
use Rattle.std.specs.Str.Parse.{digits_value}
use Rattle.httparse.specs.Grammar.{RequestHead, print_request, ReadsRequest, HasNoRequest, EndsInTarget}
use Rattle.httparse.specs.Spans.{name_and_value}
use Rattle.http_api.specs.declared.framing.Framing.{Framing}
use Rattle.http_api.specs.declared.framing.Framing.TheVariants.{Unclear, Missing, Sized}

-- the most bytes that a head may have, and the most fields
abbrev pub max_head : ℕ
max_head = 8192

abbrev pub max_fields : ℕ
max_fields = 64

-- the input begins with this head, which is within the limits, and then has this rest
pub record Begins (input : List ℕ) (head : RequestHead) (rest : List ℕ) : Type 0 where
  pub reads : ReadsRequest input head rest
  pub short : length (print_request head) ≤ max_head
  pub few : length head.fields ≤ max_fields

-- whatever follows, the input begins with no such head
abbrev pub IsHopeless : List ℕ → Type 0
IsHopeless input = (more : List ℕ) (head : RequestHead) (rest : List ℕ) → ¬ (Begins (input ++ more) head rest)

-- with some more bytes the input is a head that is not too long
abbrev pub CanBeHead : List ℕ → Type 0
CanBeHead input = (more : List ℕ) × (head : RequestHead) × ReadsRequest (input ++ more) head [] × (length (input ++ more) ≤ max_head)

-- the input ends inside a head that can still be ended in time, or inside a target
pub record EndsInHead (input : List ℕ) : Type 0 where
  pub begun : 0 < length input
  pub room : length input < max_head
  pub none : HasNoRequest input
  pub may : CanBeHead input ⊎ EndsInTarget input

-- a field's name, and its value without spaces and tabs at both ends
abbrev pub Pair : Type 0
Pair = List ℕ × List ℕ

abbrev pub pairs : RequestHead → List Pair
pairs head = map name_and_value head.fields

abbrev pub in_lower_case : List ℕ → List ℕ
in_lower_case text = map to_ascii_lowercase text

-- the field has this name, without regard to ASCII case
abbrev pub is_named : List ℕ → Pair → Bool
is_named name pair = bytes_eq (in_lower_case pair.0) name

-- the values of the fields of this name, in order
abbrev pub values : List ℕ → List Pair → List (List ℕ)
values name fields = map (λ pair. pair.1) (filter (is_named name) fields)

-- 1 to 19 digits
abbrev pub is_length : List ℕ → Bool
is_length value = nat_le 1 (length value) && (nat_le (length value) 19 && list_all is_ascii_digit value)

-- what a head says of the length of its body, by the values of Content-Length: a POST wants one, another method without any has an empty body
abbrev pub framing_by : Bool → List (List ℕ) → Framing
framing_by posts [] = if posts then Missing else Sized 0
framing_by posts (value ∷ []) = if is_length value then Sized (digits_value 10 value) else Unclear
framing_by posts (value ∷ other ∷ values) = Unclear

abbrev pub framing : List ℕ → List Pair → Framing
framing method fields =
    if list_any (is_named (codes "transfer-encoding")) fields then Unclear
    else framing_by (bytes_eq method (codes "POST")) (values (codes "content-length") fields)

abbrev pub framing_of : RequestHead → Framing
framing_of head = framing head.method (pairs head)

-- this value of a Connection field is `close`, without regard to ASCII case
abbrev pub is_close : List ℕ → Bool
is_close value = bytes_eq (in_lower_case value) (codes "close")

-- a head of this version, 1.0 or 1.1, with these fields asks for the end of the connection
abbrev pub asks_to_close : ℕ → List Pair → Bool
asks_to_close minor fields = (minor == 0) || list_any is_close (values (codes "connection") fields)

-- the most requests that a connection has, 2^64 - 1
abbrev pub max_requests : ℕ
max_requests = 18446744073709551615

-- the connection is closed after the reply to request `number` with this head
abbrev pub closes : RequestHead → ℕ → Bool
closes head number = asks_to_close head.minor (pairs head) || (number == max_requests)
