-- What two threads that make an index share, and what one hands back. Rattle finds this by itself for types that do not
-- reach a rewrite, which holds rewrites; so it is said here for those that do.
use mathlib.Core.List.{[], ◌∷◌}
use denote.Builtin.{u64}
use denote.Param.Send.{IsSend, IsSync, sendable, recorded_send, recorded_sync, struct_send, struct_sync, enum_send}
use denote.RattleType.{RattleType}
use denote.Struct.Struct.{Struct}
use denote.Struct.Declared as S
use denote.Struct.Tuple.{TupleAt, type_at}
use denote.Enum.Enum.{Enum}
use denote.Enum.Declared as E
use Rattle.std.specs.Prelude.{ℕ, List}
use Rattle.std.specs.contracts.alloc.AllocError as AllocError
use Rattle.std.specs.contracts.random_state.RandomState as RandomState
use Rattle.std.specs.contracts.result.Result as Result
use Rattle.std.proofs.Crossing.{crosses, Vec-send, Vec-sync}
use Rattle.names.proofs.name.Name.TheSendSync as Name
use Rattle.names.proofs.relation.RelationName.TheSendSync as RelationName
use Rattle.names.proofs.relation.SubjectType.TheSendSync as SubjectType
use Rattle.names.proofs.tuple.Tuple.TheSendSync as Tuple
use Rattle.config_text.proofs.rewrite.Rewrite.TheLaws.TheKnot.{crosses as rewrites_cross}
use Rattle.config_text.specs.contracts.rewrite.Rewrite as Rewrite
use Rattle.config_text.specs.contracts.relation.Relation as Relation
use Rattle.config.specs.contracts.config.Config as Config
use Rattle.leopard.specs.contracts.input.Input as Input
use Rattle.direct.proofs.memberships.Memberships.TheSendSync as Memberships
use Rattle.direct.proofs.noted.EarlierGroups.TheSendSync as EarlierGroups
use Rattle.direct.specs.contracts.direct.Direct as Direct

Rewrite-field-send : IsSend (Enum (E.shape Rewrite.the_type))
Rewrite-field-send = search (rewrites_cross, Name.the_send, crosses, sendable) depth 40

Rewrite-field-sync : IsSync (Enum (E.shape Rewrite.the_type))
Rewrite-field-sync = search (rewrites_cross, Name.the_sync, crosses, sendable) depth 40

Relation-send : IsSend Relation.the_row
Relation-send =
    let T = Relation.the_type in
    recorded_send _ _ T.to T.to_one (struct_send (S.shape T) (RelationName.the_field_send, (Vec-send _ SubjectType.the_send, (Rewrite-field-send, (search sendable, tt)))))

Relation-sync : IsSync Relation.the_row
Relation-sync =
    let T = Relation.the_type in
    recorded_sync _ _ T.to T.to_one (struct_sync (S.shape T) (RelationName.the_field_sync, (Vec-sync _ SubjectType.the_sync, (Rewrite-field-sync, (search sendable, tt)))))

Config-send : IsSend Config.the_row
Config-send = search (Relation-send, Name.the_send, crosses, sendable) depth 40

Config-sync : IsSync Config.the_row
Config-sync = search (Relation-sync, Name.the_sync, crosses, sendable) depth 40

pub Input-sync : IsSync Input.the_row
Input-sync = search (Config-sync, Tuple.the_sync, crosses, sendable) depth 40

Direct-field-send : IsSend (Struct (S.shape Direct.the_type))
Direct-field-send = search (Config-send, Memberships.the_field_send, EarlierGroups.the_send, crosses, sendable) depth 40

pub Direct-send : IsSend Direct.the_row
Direct-send = let T = Direct.the_type in recorded_send _ _ T.to T.to_one Direct-field-send

pub Result-send : (A B : RattleType) → IsSend A → IsSend B → IsSend (Result.the_row A B)
Result-send A B a b = let T = Result.the_type A B in recorded_send _ _ T.to T.to_one (enum_send (E.shape T) ((a, tt), ((b, tt), tt)))

pub u64-send : IsSend u64
u64-send = search sendable

pub keys_send : IsSend RandomState.the_row
keys_send = search sendable depth 20

pub error_send : IsSend AllocError.the_row
error_send = search sendable depth 20

-- a closure over four values
pub four_send : (name : List ℕ) (A B C D : RattleType) → IsSend A → IsSend B → IsSend C → IsSend D → IsSend (TupleAt name (A ∷ B ∷ C ∷ D ∷ []))
four_send name A B C D a b c d =
    let T = type_at name (A ∷ B ∷ C ∷ D ∷ []) in
    recorded_send _ _ T.to T.to_one (struct_send (S.shape T) (a, (b, (c, (d, tt)))))
