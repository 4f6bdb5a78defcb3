-- What was found at the front of some bytes.
use Rattle.std.specs.Prelude.{⊤, ℕ, ◌⊎◌, List, map}
use Rattle.httparse.specs.Grammar.{EndsInTarget}
use Rattle.httparse.specs.Spans.{header_bytes}
use Rattle.httparse.specs.declared.spans.HeaderSpan.{HeaderSpan}
use Rattle.httparse.specs.declared.spans.RequestSpans.{RequestSpans}
use Rattle.http_api.specs.Heads.{CanBeHead}
use Rattle.http_api.specs.declared.head.HeadRead.{HeadRead}
use Rattle.http_api.specs.declared.head.HeadRead.TheVariants.{Head, Unfinished, Hopeless}

abbrev pub IfHead : HeadRead → (RequestSpans → Type 0) → Type 0
IfHead (Head spans) P = P spans
IfHead Unfinished P = ⊤
IfHead Hopeless P = ⊤

abbrev pub OnUnfinished : HeadRead → Type 0 → Type 0
OnUnfinished (Head spans) P = ⊤
OnUnfinished Unfinished P = P
OnUnfinished Hopeless P = ⊤

abbrev pub OnHopeless : HeadRead → Type 0 → Type 0
OnHopeless (Head spans) P = ⊤
OnHopeless Unfinished P = ⊤
OnHopeless Hopeless P = P

-- the names and the values of the fields that lie so in the bytes
abbrev pub pairs_at : List ℕ → List HeaderSpan → List (List ℕ × List ℕ)
pairs_at bytes fields = map (header_bytes bytes) fields

-- more bytes can end the head in time, or the target is still being read
abbrev pub MayGoOn : List ℕ → Type 0
MayGoOn bytes = CanBeHead bytes ⊎ EndsInTarget bytes
