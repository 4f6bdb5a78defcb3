-- How long a worker waits for a peer, in milliseconds, and when that is enough.
use Rattle.std.specs.Prelude.{ℕ, ◌+◌, ◌-◌, ◌^◌, ◌<◌, ◌/◌, min, ⊤}
use Rattle.server.specs.declared.waited.TheConstants.{PATIENCE, BYTES_A_MILLISECOND}
use Rattle.server.specs.declared.waited.Doing.{Doing}
use Rattle.server.specs.declared.waited.Doing.TheVariants.{Nothing, Silence, Request}
use Rattle.server.specs.declared.waited.Waited.{Waited}

-- so long and so much longer, as far as it can be counted
abbrev pub longer : ℕ → ℕ → ℕ
longer waited more = min (waited + more) (2 ^ 64 - 1)

-- what is left of it once so many bytes came
abbrev pub less : ℕ → ℕ → ℕ
less waited bytes = waited - bytes / BYTES_A_MILLISECOND

-- a request is sent
abbrev pub IsUnderWay : Doing → Type 0
IsUnderWay (Request waited) = ⊤
IsUnderWay _ = ⊥

-- It was silent for too long between its requests, and is silent; or too long was waited for the rest of the one that it sends.
abbrev pub HasHadItsTime : Waited → Type 0
HasHadItsTime waited = IsOver waited.doing where
  IsOver : Doing → Type 0
  IsOver Nothing = ⊥
  IsOver Silence = PATIENCE < waited.silent
  IsOver (Request waited) = PATIENCE < waited
