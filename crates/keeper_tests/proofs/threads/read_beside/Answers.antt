use denote.Exit.{no}
use denote.Param.{param}
use denote.Param.Send.{IsSend, IsSync, arg_send, param_send, sendable, shr_send, view_send}
use denote.Param.SendFields.{declared_send}
use denote.RattleType.{RattleType}
use Rattle.std.specs.contracts.sync.Mutex as Mutex
use Rattle.std.specs.contracts.option.Option as Option
use Rattle.std.proofs.Crossing.{Vec-send, crosses}
use Rattle.published.proofs.receipt.Receipt.TheSendSync as Receipt
use Rattle.keeper.proofs.Crossing.{Session-send}
use Rattle.keeper_tests.specs.contracts.threads.Handed as Handed
use Rattle.keeper_tests.specs.contracts.threads.Reader as Reader
use Rattle.keeper_tests.proofs.Crossing.{Option-send, three_send}
use Rattle.keeper_tests.proofs.threads.read_beside.Goals as goal

Reader-send : (A : RattleType) (j : _) → IsSend A → IsSync A → IsSend (Reader.the_row A j)
Reader-send A j s y = view_send _ _ _ _ _ (declared_send (Reader.TheInside.the_type A j) (Session-send A _ s y, tt))

Handed-send : (A : RattleType) (j : _) → IsSend A → IsSend (Handed.the_row A j)
Handed-send A j s = declared_send (Handed.the_type A j) (Receipt.the_send, ((search (crosses, sendable) depth 10), tt))

Desktop-sync : (A : RattleType) (j : _) → IsSend A → IsSync (Mutex.the_row (Option.the_row (Handed.the_row A j)))
Desktop-sync A j s =
    let place : IsSend (Option.the_row (Handed.the_row A j)) = Option-send _ (Handed-send A j s) in
    search (place, crosses) depth 5

pub join-right-requires-send-F : goal.join-right-requires-send-F
join-right-requires-send-F g c κs within =
    let b = c.type_bounds in
    let readers = Vec-send _ (Reader-send (param 0 g.row.J) g.J.Naming b.send-J b.sync-J) in
    let desktop = Desktop-sync (param 0 g.row.J) g.J.Naming b.send-J in
    param_send 1 _ (arg_send _ no _ (three_send _ _ _ _ (shr_send _ _ _ b.sync-W) readers (shr_send _ _ _ desktop)))
