-- What the program says where it listens.
use Rattle.std.specs.Prelude.{ℕ, ◌≡◌, ◌≢◌, ◌⊎◌, true, false, ◌++◌, ◌∷◌, [], List, codes, decimal}
use Rattle.std.specs.declared.net.socket_addr.SocketAddr.{SocketAddr}
use Rattle.std.specs.Net.Addr.{IsV4And, ipv4_octets}
use Rattle.std.specs.Net.Socket.{socket_ip}
use Rattle.tracked_io.specs.Tracking.{TrackedWriting}
use Rattle.tracked_io.specs.Wrote.{Took, WroteSome}
use Rattle.names.specs.declared.refusal.Refusal.TheVariants.{Memory, NoSeat}
use Rattle.tables.specs.Opening.{CannotOpen}
use Rattle.command_line.specs.declared.fault.Fault.{Fault}
use Rattle.command_line.specs.declared.fault.Fault.TheVariants.{Refused, CannotWrite, CannotListen}

-- the line that says on which port it listens
abbrev pub listening_line : ℕ → List ℕ
listening_line port = codes "listening 127.0.0.1:" ++ (decimal port ++ 10 ∷ [])

-- 127.0.0.1, at which no other machine reaches this one
abbrev pub IsOwnAddress : SocketAddr → Type 0
IsOwnAddress address = IsV4And (socket_ip address) (λ ip. ipv4_octets ip ≡ 127 ∷ 0 ∷ 0 ∷ 1 ∷ [])

-- a port that is had where this one is asked for: the same, or any where 0 is
abbrev pub IsPortFor : ℕ → ℕ → Type 0
IsPortFor asked port = (port ≢ 0) × ((asked ≡ 0) ⊎ (port ≡ asked))

-- the line was written, for a port that was asked for
abbrev pub Announced : {W : Type 0} → ℕ → TrackedWriting W → TrackedWriting W → Type 0
Announced asked old new = (port : ℕ) × IsPortFor asked port × Took old.taken new.taken (listening_line port)

-- a beginning of it was
abbrev pub BeganAnnounced : {W : Type 0} → ℕ → TrackedWriting W → TrackedWriting W → Type 0
BeganAnnounced asked old new = (port : ℕ) × IsPortFor asked port × WroteSome old.taken new.taken (listening_line port)

-- the store cannot be opened, or memory is refused, or the port cannot be had
abbrev pub IsStartFault : Fault → Type 0
IsStartFault (Refused why) = CannotOpen why
IsStartFault CannotListen = Unit {0}
IsStartFault _ = ⊥

-- all sessions were given out, or memory is refused
abbrev pub IsWorkerFault : Fault → Type 0
IsWorkerFault (Refused NoSeat) = Unit {0}
IsWorkerFault (Refused Memory) = Unit {0}
IsWorkerFault _ = ⊥

-- For this fault it was not said: a beginning of it was, where the writer failed; or nothing was, for want of a store or a port.
abbrev pub NotAnnounced : {W : Type 0} → ℕ → Fault → TrackedWriting W → TrackedWriting W → Type 0
NotAnnounced asked fault old new = ((fault ≡ CannotWrite) × (new.failed ≡ true) × BeganAnnounced asked old new) ⊎ (IsStartFault fault × (new ≡ old))

-- It was said and handed on, and no worker could be made; or it was not said.
abbrev pub StoppedServing : {W : Type 0} → ℕ → Fault → TrackedWriting W → TrackedWriting W → Type 0
StoppedServing asked fault old new = (IsWorkerFault fault × (new.failed ≡ false) × (new.flushed ≡ true) × Announced asked old new) ⊎ NotAnnounced asked fault old new
