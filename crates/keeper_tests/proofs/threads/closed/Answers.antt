use denote.Exit.{no}
use denote.Param.{param}
use denote.Param.Send.{arg_send, mut_send, param_send}
use Rattle.keeper.proofs.Crossing.{Session-send}
use Rattle.keeper_tests.proofs.Crossing.{one_send}
use Rattle.keeper_tests.proofs.threads.closed.Goals as goal

pub join-stays-requires-send-F : goal.join-stays-requires-send-F
join-stays-requires-send-F g c κs within =
    let b = c.type_bounds in
    param_send 1 _ (arg_send _ no _ (one_send _ _ (mut_send _ _ _ (Session-send (param 0 g.row.J) _ b.send-J b.sync-J))))
