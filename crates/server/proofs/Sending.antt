-- What of a keeper and its fronts may be sent to another thread, or shared with one.
use denote.Param.Send.{IsSend, IsSync, sendable, recorded_send, recorded_sync, shr_send, struct_send, struct_sync, view_send}
use denote.RattleType.{RattleType}
use denote.Ref.{NamedLft}
use denote.Struct.Declared as S
use Rattle.std.proofs.Crossing.{crosses}
use Rattle.crossbeam_channel.proofs.channel.Sender.TheSendSync as Sender
use Rattle.crossbeam_channel.proofs.channel.Receiver.TheSendSync as Receiver
use Rattle.one_history.proofs.log.Log.TheSendSync as Log
use Rattle.one_history.proofs.opening.History.TheSendSync as History
use Rattle.keeper.proofs.Crossing.{crosses_published, Session-send}
use Rattle.keeper.proofs.deeds.Place.TheSendSync as Place
use Rattle.desk.specs.contracts.desk.Desk as Desk
use Rattle.keeper.specs.contracts.lock.KeptDesk as KeptDesk
use Rattle.keeper.specs.contracts.lock.Keeper as Keeper
use Rattle.keeper.specs.contracts.front.Front as Front
use Rattle.server.specs.contracts.locked.Locked as Locked
use Rattle.server.specs.contracts.counted.Counted as Counted
use Rattle.server.specs.contracts.waking.Waking as Waking
use Rattle.server.specs.contracts.indexer.Indexer as Indexer

Desk-inside-send : (T J H : RattleType) (g n : _) → IsSend T → IsSend J → IsSync J → IsSend H → IsSend (Desk.TheInside.the_row T J H g n)
Desk-inside-send T J H g n t s y h =
    let D = Desk.TheInside.the_type T J H g n in
    recorded_send _ _ D.to D.to_one (struct_send (S.shape D)
    ((search (crosses, sendable) depth 20), ((search (crosses, sendable) depth 40), ((search (crosses_published, crosses, sendable) depth 40), ((search (crosses_published, crosses, sendable) depth 40), tt)))))

Desk-send : (T J H : RattleType) (g n : _) → IsSend T → IsSend J → IsSync J → IsSend H → IsSend (Desk.the_row T J H g n)
Desk-send T J H g n t s y h = search (Desk-inside-send, sendable) depth 10

KeptDesk-inside-send : (T J H : RattleType) (g : _) (j k l : _) → IsSend T → IsSend J → IsSync J → IsSend H → IsSend (KeptDesk.TheInside.the_row T J H g j k l)
KeptDesk-inside-send T J H g j k l t s y h = search (Desk-send, Log.the_send, crosses, sendable) depth 40

pub KeptDesk-send : (T J H : RattleType) (g : _) (j k l : _) → IsSend T → IsSend J → IsSync J → IsSend H → IsSend (KeptDesk.the_row T J H g j k l)
KeptDesk-send T J H g j k l t s y h = search (KeptDesk-inside-send, sendable) depth 10

pub Keeper-sync : (T J H : RattleType) (g : _) (j k l : _) → IsSend T → IsSend J → IsSync J → IsSend H → IsSync (Keeper.the_row T J H g j k l)
Keeper-sync T J H g j k l t s y h =
    let K = Keeper.the_type T J H g j k l in
    recorded_sync _ _ K.to K.to_one (struct_sync (S.shape K)
    ((search (History.the_field_sync, crosses, sendable) depth 40), ((search (KeptDesk-send, crosses, sendable) depth 40), tt)))

Front-inside-send : (lives : NamedLft) (T J H : RattleType) (g : _) (j k l : _) → IsSend T → IsSend J → IsSync J → IsSend H → IsSend (Front.TheInside.the_row lives T J H g j k l)
Front-inside-send lives T J H g j k l t s y h = search (Keeper-sync, Place.the_send, crosses_published, crosses, sendable) depth 40

Front-send : (lives : NamedLft) (T J H : RattleType) (g : _) (j k l : _) → IsSend T → IsSend J → IsSync J → IsSend H → IsSend (Front.the_row lives T J H g j k l)
Front-send lives T J H g j k l t s y h = view_send _ _ _ _ _ (Front-inside-send lives T J H g j k l t s y h)

Locked-inside-send : (lives : NamedLft) (T J H R B : RattleType) (g : _) (j k l : _) → IsSend T → IsSend J → IsSync J → IsSend H → IsSync R → IsSync B → IsSend (Locked.TheInside.the_row lives T J H R B g j k l)
Locked-inside-send lives T J H R B g j k l t s y h r b =
    let L = Locked.TheInside.the_type lives T J H R B g j k l in
    recorded_send _ _ L.to L.to_one (struct_send (S.shape L) (shr_send _ _ _ r, (shr_send _ _ _ b, (Front-send _ T J H _ _ _ _ t s y h, tt))))

pub Locked-send : (lives : NamedLft) (T J H R B : RattleType) (g : _) (j k l : _) → IsSend T → IsSend J → IsSync J → IsSend H → IsSync R → IsSync B → IsSend (Locked.the_row lives T J H R B g j k l)
Locked-send lives T J H R B g j k l t s y h r b = view_send _ _ _ _ _ (Locked-inside-send lives T J H R B g j k l t s y h r b)

pub Counted-send : (lives : NamedLft) (A G : RattleType) → IsSend A → IsSync G → IsSend (Counted.the_row lives A G)
Counted-send lives A G a s = search (crosses, sendable) depth 40

pub Waking-send : (lives : NamedLft) (A R : RattleType) → IsSend A → IsSync R → IsSend (Waking.the_row lives A R)
Waking-send lives A R a s =
    let W = Waking.the_type lives A R in
    recorded_send _ _ W.to W.to_one (struct_send (S.shape W) (a, (shr_send _ _ _ s, ((search (Sender.the_send, crosses, sendable) depth 40 fits 30000), tt))))

Indexer-inside-send : (lives : NamedLft) (T J H B : RattleType) (g : _) (j k l : _) → IsSend T → IsSend J → IsSync J → IsSend H → IsSync B → IsSend (Indexer.TheInside.the_row lives T J H B g j k l)
Indexer-inside-send lives T J H B g j k l t s y h b =
    let I = Indexer.TheInside.the_type lives T J H B g j k l in
    recorded_send _ _ I.to I.to_one (struct_send (S.shape I)
    ((search (crosses, sendable) depth 20), (shr_send _ _ _ b, (shr_send _ _ _ (Keeper-sync T J H _ _ _ _ t s y h), ((Session-send J _ s y), ((search (Place.the_send, crosses, sendable) depth 40), ((search (Receiver.the_send, crosses, sendable) depth 40 fits 30000), tt)))))))

pub Indexer-send : (lives : NamedLft) (T J H B : RattleType) (g : _) (j k l : _) → IsSend T → IsSend J → IsSync J → IsSend H → IsSync B → IsSend (Indexer.the_row lives T J H B g j k l)
Indexer-send lives T J H B g j k l t s y h b = view_send _ _ _ _ _ (Indexer-inside-send lives T J H B g j k l t s y h b)
