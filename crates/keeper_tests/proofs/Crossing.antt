-- What is sent to another thread together.
use mathlib.Core.List.{[], ◌∷◌}
use denote.Param.Send.{IsSend, recorded_send, struct_send, enum_send}
use denote.RattleType.{RattleType}
use denote.Struct.Declared as S
use denote.Struct.Tuple.{TupleAt, type_at}
use denote.Enum.Declared as E
use Rattle.std.specs.Prelude.{ℕ, List}
use Rattle.std.specs.contracts.option.Option as Option

pub Option-send : (A : RattleType) → IsSend A → IsSend (Option.the_row A)
Option-send A s = let T = Option.the_type A in recorded_send _ _ T.to T.to_one (enum_send (E.shape T) (tt, ((s, tt), tt)))

-- a closure over one value, and over three
pub one_send : (name : List ℕ) (A : RattleType) → IsSend A → IsSend (TupleAt name (A ∷ []))
one_send name A a =
    let T = type_at name (A ∷ []) in
    recorded_send _ _ T.to T.to_one (struct_send (S.shape T) (a, tt))

pub three_send : (name : List ℕ) (A B C : RattleType) → IsSend A → IsSend B → IsSend C → IsSend (TupleAt name (A ∷ B ∷ C ∷ []))
three_send name A B C a b c =
    let T = type_at name (A ∷ B ∷ C ∷ []) in
    recorded_send _ _ T.to T.to_one (struct_send (S.shape T) (a, (b, (c, tt))))
