-- What may be sent to another thread, or shared with one. Rattle finds this by itself for types that do not reach a rewrite,
-- which holds rewrites, or a rule, which holds rules; so it is said here for those that do.
use denote.Param.Send.{IsSend, IsSync, sendable, recorded_send, recorded_sync, struct_send, struct_sync, enum_send, enum_sync}
use denote.Struct.Struct.{Struct}
use denote.Enum.Enum.{Enum}
use denote.Struct.Declared as S
use denote.Enum.Declared as E
use Rattle.std.proofs.Crossing.{crosses, send, sync, Vec-send, Vec-sync}
use Rattle.std_collections.proofs.Crosses.{BTreeMap-send, BTreeMap-sync}
use Rattle.config_text.proofs.rewrite.Rewrite.TheLaws.TheKnot.{crosses as rewrites_cross}
use Rattle.names.proofs.name.Name.TheSendSync as Name
use Rattle.names.proofs.node.Node.TheSendSync as Node
use Rattle.names.proofs.relation.RelationName.TheSendSync as RelationName
use Rattle.names.proofs.relation.SubjectType.TheSendSync as SubjectType
use Rattle.versions.proofs.version_map.VersionMap.TheSendSync as VersionMap
use Rattle.by_subject.proofs.by_subject.BySubject.TheSendSync as BySubject
use Rattle.config_text.specs.contracts.rewrite.Rewrite as Rewrite
use Rattle.config_text.specs.contracts.relation.Relation as Relation
use Rattle.names.proofs.tuple.Tuple.TheSendSync as Tuple
use Rattle.config.specs.contracts.config.Config as Config
use Rattle.idsets.proofs.ids.Ids.TheSendSync as Ids
use Rattle.idsets.proofs.set.IdSet.TheSendSync as IdSet
use Rattle.hot.specs.contracts.hot.Hot as Hot
use Rattle.region.proofs.rule.Rule.TheLaws.TheKnot.{crosses as rules_cross}
use Rattle.region.specs.contracts.rule.Rule as Rule
use Rattle.region.specs.contracts.rule.Told as Told
use Rattle.region.proofs.sets.Sets.TheSendSync as Sets
use Rattle.facts.proofs.numbers.Numbers.TheSendSync as Numbers
use Rattle.delta.proofs.earlier.Earlier.TheSendSync as Earlier
use Rattle.delta.specs.contracts.layer.Layer as Layer
use Rattle.direct.proofs.memberships.Memberships.TheSendSync as Memberships
use Rattle.direct.proofs.noted.EarlierGroups.TheSendSync as EarlierGroups
use Rattle.direct.specs.contracts.direct.Direct as Direct
use Rattle.group_index.specs.contracts.index.GroupIndex as GroupIndex
use Rattle.tuple_keys.specs.contracts.kept_commit.KeptCommit as KeptCommit
use Rattle.rows.specs.contracts.loaded.Loaded as Loaded
use Rattle.shown.specs.contracts.shown.Shown as Shown
use Rattle.shown.specs.contracts.step.Step as Step
use Rattle.published.proofs.book.StepPrefix.TheSendSync as StepPrefix
use Rattle.published.proofs.book.Book.TheSendSync as Book
use Rattle.published.proofs.remembered.Remembered.TheSendSync as Remembered
use denote.RattleType.{RattleType}
use Rattle.left_right.proofs.reader.Reader.TheSendSync as Reader
use Rattle.published.specs.contracts.copy.ShownCopy as ShownCopy
use Rattle.published.specs.contracts.made.MadeIndex as MadeIndex
use Rattle.published.specs.contracts.made.MadeIndexes as MadeIndexes
use Rattle.published.specs.contracts.session.Session as Session
use Rattle.published.specs.contracts.post.Post as Post
use Rattle.published.specs.contracts.publisher.Publisher as Publisher
use Rattle.published.specs.contracts.publication.Publication as Publication
use Rattle.left_right.proofs.writer.Writer.TheSendSync as Writer
use Rattle.names.proofs.marking.Marking.TheSendSync as Marking

Rewrite-field-send : IsSend (Enum (E.shape Rewrite.the_type))
Rewrite-field-send = search (rewrites_cross, Name.the_send, crosses, sendable) depth 40

Rewrite-field-sync : IsSync (Enum (E.shape Rewrite.the_type))
Rewrite-field-sync = search (rewrites_cross, Name.the_sync, crosses, sendable) depth 40

pub Relation-send : IsSend Relation.the_row
Relation-send =
    let T = Relation.the_type in
    recorded_send _ _ T.to T.to_one (struct_send (S.shape T) (RelationName.the_field_send, (Vec-send _ SubjectType.the_send, (Rewrite-field-send, (search sendable, tt)))))

pub Relation-sync : IsSync Relation.the_row
Relation-sync =
    let T = Relation.the_type in
    recorded_sync _ _ T.to T.to_one (struct_sync (S.shape T) (RelationName.the_field_sync, (Vec-sync _ SubjectType.the_sync, (Rewrite-field-sync, (search sendable, tt)))))

pub Config-send : IsSend Config.the_row
Config-send = search (Relation-send, Name.the_send, crosses, sendable) depth 40

pub Config-sync : IsSync Config.the_row
Config-sync = search (Relation-sync, Name.the_sync, crosses, sendable) depth 40

pub KeptCommit-send : IsSend KeptCommit.the_row
KeptCommit-send = search (Config-send, Config-sync, crosses, sendable) depth 40

pub KeptCommit-sync : IsSync KeptCommit.the_row
KeptCommit-sync = search (Config-send, Config-sync, crosses, sendable) depth 40

Layer-field-send : IsSend (Struct (S.shape Layer.the_type))
Layer-field-send = search (Config-send, Node.the_send, Ids.the_send, IdSet.the_send, Sets.the_field_send, Earlier.the_send, crosses, sendable) depth 40

Layer-field-sync : IsSync (Struct (S.shape Layer.the_type))
Layer-field-sync = search (Config-sync, Node.the_sync, Ids.the_sync, IdSet.the_sync, Sets.the_field_sync, Earlier.the_sync, crosses, sendable) depth 40

Direct-field-send : IsSend (Struct (S.shape Direct.the_type))
Direct-field-send = search (Config-send, Memberships.the_field_send, EarlierGroups.the_send, crosses, sendable) depth 40

Direct-field-sync : IsSync (Struct (S.shape Direct.the_type))
Direct-field-sync = search (Config-sync, Memberships.the_field_sync, EarlierGroups.the_sync, crosses, sendable) depth 40

GroupIndex-field-send : IsSend (Struct (S.shape GroupIndex.the_type))
GroupIndex-field-send = search (Layer-field-send, Direct-field-send, sendable) depth 40

GroupIndex-field-sync : IsSync (Struct (S.shape GroupIndex.the_type))
GroupIndex-field-sync = search (Layer-field-sync, Direct-field-sync, sendable) depth 40

pub GroupIndex-send : IsSend GroupIndex.the_row
GroupIndex-send = let T = GroupIndex.the_type in recorded_send _ _ T.to T.to_one GroupIndex-field-send

pub GroupIndex-sync : IsSync GroupIndex.the_row
GroupIndex-sync = let T = GroupIndex.the_type in recorded_sync _ _ T.to T.to_one GroupIndex-field-sync

Rule-field-send : IsSend (Enum (E.shape Rule.the_type))
Rule-field-send = search (rules_cross, crosses, sendable) depth 40

Rule-field-sync : IsSync (Enum (E.shape Rule.the_type))
Rule-field-sync = search (rules_cross, crosses, sendable) depth 40

Told-field-send : IsSend (Struct (S.shape Told.the_type))
Told-field-send = struct_send (S.shape Told.the_type) (search sendable, (search sendable, (Rule-field-send, (IdSet.the_send, tt))))

Told-field-sync : IsSync (Struct (S.shape Told.the_type))
Told-field-sync = struct_sync (S.shape Told.the_type) (search sendable, (search sendable, (Rule-field-sync, (IdSet.the_sync, tt))))

Told-send : IsSend Told.the_row
Told-send = let T = Told.the_type in recorded_send _ _ T.to T.to_one Told-field-send

Told-sync : IsSync Told.the_row
Told-sync = let T = Told.the_type in recorded_sync _ _ T.to T.to_one Told-field-sync

Hot-field-send : IsSend (Struct (S.shape Hot.the_type))
Hot-field-send = struct_send (S.shape Hot.the_type) (Numbers.the_field_send, (IdSet.the_send, (Sets.the_field_send, (search (BTreeMap-send, Told-send, send, crosses, sendable) depth 40, tt))))

Hot-field-sync : IsSync (Struct (S.shape Hot.the_type))
Hot-field-sync = struct_sync (S.shape Hot.the_type) (Numbers.the_field_sync, (IdSet.the_sync, (Sets.the_field_sync, (search (BTreeMap-sync, Told-sync, sync, crosses, sendable) depth 40, tt))))

Hot-send : IsSend Hot.the_row
Hot-send = let T = Hot.the_type in recorded_send _ _ T.to T.to_one Hot-field-send

Hot-sync : IsSync Hot.the_row
Hot-sync = let T = Hot.the_type in recorded_sync _ _ T.to T.to_one Hot-field-sync

pub Shown-send : IsSend Shown.the_row
Shown-send = search (Config-send, KeptCommit-send, GroupIndex-send, Hot-send, VersionMap.the_send, BySubject.the_send, Node.the_send, crosses, sendable) depth 40

pub Shown-sync : IsSync Shown.the_row
Shown-sync = search (Config-sync, KeptCommit-sync, GroupIndex-sync, Hot-sync, VersionMap.the_sync, BySubject.the_sync, Node.the_sync, crosses, sendable) depth 40

pub Loaded-send : IsSend Loaded.the_row
Loaded-send = search (Config-send, KeptCommit-send, Tuple.the_send, crosses, sendable) depth 40

pub Loaded-sync : IsSync Loaded.the_row
Loaded-sync = search (Config-sync, KeptCommit-sync, Tuple.the_sync, crosses, sendable) depth 40

Loaded-field-send : IsSend (Struct (S.shape Loaded.the_type))
Loaded-field-send = search (Config-send, KeptCommit-send, Tuple.the_send, crosses, sendable) depth 40

Loaded-field-sync : IsSync (Struct (S.shape Loaded.the_type))
Loaded-field-sync = search (Config-sync, KeptCommit-sync, Tuple.the_sync, crosses, sendable) depth 40

Step-field-send : IsSend (Enum (E.shape Step.the_type))
Step-field-send = enum_send (E.shape Step.the_type) ((Loaded-field-send, tt), ((KeptCommit-send, tt), ((search sendable, (search sendable, tt)), ((search sendable, tt), ((Marking.the_field_send, tt), ((search sendable, tt), tt))))))

Step-field-sync : IsSync (Enum (E.shape Step.the_type))
Step-field-sync = enum_sync (E.shape Step.the_type) ((Loaded-field-sync, tt), ((KeptCommit-sync, tt), ((search sendable, (search sendable, tt)), ((search sendable, tt), ((Marking.the_field_sync, tt), ((search sendable, tt), tt))))))

pub Step-send : IsSend Step.the_row
Step-send = let T = Step.the_type in recorded_send _ _ T.to T.to_one Step-field-send

pub Step-sync : IsSync Step.the_row
Step-sync = let T = Step.the_type in recorded_sync _ _ T.to T.to_one Step-field-sync

ShownCopy-inside-send : (J : RattleType) (n : _) → IsSend J → IsSend (ShownCopy.TheInside.the_row J n)
ShownCopy-inside-send J n s =
    let C = ShownCopy.TheInside.the_type J n in
    recorded_send _ _ C.to C.to_one (struct_send (S.shape C) (Shown-send, (StepPrefix.the_send, ((search (s, crosses, sendable) depth 20), tt))))

ShownCopy-inside-sync : (J : RattleType) (n : _) → IsSync J → IsSync (ShownCopy.TheInside.the_row J n)
ShownCopy-inside-sync J n y =
    let C = ShownCopy.TheInside.the_type J n in
    recorded_sync _ _ C.to C.to_one (struct_sync (S.shape C) (Shown-sync, (StepPrefix.the_sync, ((search (y, crosses, sendable) depth 20), tt))))

pub ShownCopy-send : (J : RattleType) (n : _) → IsSend J → IsSend (ShownCopy.the_row J n)
ShownCopy-send J n s = search (ShownCopy-inside-send, sendable) depth 10

pub ShownCopy-sync : (J : RattleType) (n : _) → IsSync J → IsSync (ShownCopy.the_row J n)
ShownCopy-sync J n y = search (ShownCopy-inside-sync, sendable) depth 10

Session-inside-send : (J : RattleType) (n : _) → IsSend J → IsSync J → IsSend (Session.TheInside.the_row J n)
Session-inside-send J n s y = search (Reader.the_field_send, ShownCopy-send, ShownCopy-sync, Remembered.the_send, crosses, sendable) depth 40

pub Session-send : (J : RattleType) (n : _) → IsSend J → IsSync J → IsSend (Session.the_row J n)
Session-send J n s y = search (Session-inside-send, sendable) depth 10

MadeIndex-inside-send : (J : RattleType) (n : _) → IsSend J → IsSend (MadeIndex.TheInside.the_row J n)
MadeIndex-inside-send J n s =
    let M = MadeIndex.TheInside.the_type J n in
    recorded_send _ _ M.to M.to_one (struct_send (S.shape M) (StepPrefix.the_send, ((search sendable), (GroupIndex-field-send, ((search (s, crosses, sendable) depth 20), tt)))))

pub MadeIndex-send : (J : RattleType) (n : _) → IsSend J → IsSend (MadeIndex.the_row J n)
MadeIndex-send J n s = search (MadeIndex-inside-send, sendable) depth 10

pub MadeIndexes-send : (J : RattleType) (n : _) → IsSend J → IsSend (MadeIndexes.the_row J n)
MadeIndexes-send J n s = search (MadeIndex-send, sendable) depth 10

Post-inside-send : (J : RattleType) (n : _) → IsSend J → IsSend (Post.TheInside.the_row J n)
Post-inside-send J n s =
    let P = Post.TheInside.the_type J n in
    recorded_send _ _ P.to P.to_one (struct_send (S.shape P) (Step-field-send, (StepPrefix.the_send, ((search (MadeIndex-send, crosses, sendable) depth 20), ((search (MadeIndex-send, crosses, sendable) depth 20), tt)))))

pub Post-send : (J : RattleType) (n : _) → IsSend J → IsSend (Post.the_row J n)
Post-send J n s = search (Post-inside-send, sendable) depth 10

Publisher-inside-send : (C O P : RattleType) (a b p : _) → IsSend C → IsSync C → IsSend O → IsSend (Publisher.TheInside.the_row C O P a b p)
Publisher-inside-send C O P a b p s y o = search (Writer.the_field_send, StepPrefix.the_send, crosses, sendable) depth 40

pub Publisher-send : (C O P : RattleType) (a b p : _) → IsSend C → IsSync C → IsSend O → IsSend (Publisher.the_row C O P a b p)
Publisher-send C O P a b p s y o = search (Publisher-inside-send, sendable) depth 10

Publication-inside-send : (J R : RattleType) (n : _) → IsSend J → IsSync J → IsSend R → IsSend (Publication.TheInside.the_row J R n)
Publication-inside-send J R n s y r = search (Publisher-send, ShownCopy-send, ShownCopy-sync, Book.the_send, StepPrefix.the_send, Step-send, MadeIndexes-send, Post-send, Session-send, crosses, sendable) depth 40

pub Publication-send : (J R : RattleType) (n : _) → IsSend J → IsSync J → IsSend R → IsSend (Publication.the_row J R n)
Publication-send J R n s y r = search (Publication-inside-send, sendable) depth 10

-- for `search`, beside std's own set
pub ruleset crosses_published = (Config-send, Config-sync, KeptCommit-send, KeptCommit-sync, Loaded-send, Loaded-sync, Shown-send, Shown-sync, Step-send, Step-sync, Session-send, Publication-send)
