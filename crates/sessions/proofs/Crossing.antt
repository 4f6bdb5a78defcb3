-- What sessions take with them to another thread.
use mathlib.Core.List.{[], ◌∷◌}
use denote.Builtin.{u32}
use denote.Param.Send.{IsSend, IsSync, sendable, recorded_send, struct_send}
use denote.Param.SendFields.{declared_send}
use denote.RattleType.{RattleType}
use base.Fml.{Lft}
use mir.Syntax.{Lifetime}
use denote.Struct.Declared as S
use denote.Struct.Tuple.{TupleAt, type_at}
use denote.Text.{Str}
use Rattle.std.specs.Prelude.{ℕ, List}
use Rattle.std.specs.contracts.sync.atomic.AtomicBool as AtomicBool
use Rattle.std.proofs.Crossing.{crosses, send}
use Rattle.keeper.proofs.Crossing.{Session-send}
use Rattle.sessions.specs.contracts.asking.Client as Client

pub Client-send : (J : RattleType) (n : _) → IsSend J → IsSync J → IsSend (Client.the_row J n)
Client-send J n s y = declared_send (Client.the_type J n) (send, ((Session-send J n s y), ((search sendable), tt)))

pub Str-send : (ℓ : Lifetime) (κ : Lft) → IsSend (Str ℓ κ)
Str-send ℓ κ = search sendable

pub u32-sync : IsSync u32
u32-sync = search sendable

pub AtomicBool-sync : IsSync AtomicBool.the_row
AtomicBool-sync = search (crosses, sendable) depth 20

-- a closure over five values
pub five_send : (name : List ℕ) (A B C D E : RattleType) → IsSend A → IsSend B → IsSend C → IsSend D → IsSend E → IsSend (TupleAt name (A ∷ B ∷ C ∷ D ∷ E ∷ []))
five_send name A B C D E a b c d e =
    let T = type_at name (A ∷ B ∷ C ∷ D ∷ E ∷ []) in
    recorded_send _ _ T.to T.to_one (struct_send (S.shape T) (a, (b, (c, (d, (e, tt))))))
