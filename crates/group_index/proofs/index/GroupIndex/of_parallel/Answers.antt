use denote.Exit.{no}
use denote.Param.Send.{arg_send, param_send, shr_send}
use Rattle.std.proofs.Crossing.{send}
use Rattle.std.proofs.lemmas.Result.{IfOk-at_ok}
use Rattle.group_index.proofs.Crossing.{Direct-send, Input-sync, Result-send, error_send, four_send, keys_send, u64-send}
use Rattle.group_index.proofs.index.GroupIndex.of_parallel.Goals as goal

pub join-direct-requires-send-F : goal.join-direct-requires-send-F
join-direct-requires-send-F g c κs within = param_send 1 _ (arg_send _ no _ (four_send _ _ _ _ _ send keys_send (shr_send _ _ _ Input-sync) u64-send))

pub join-direct-requires-send-A : goal.join-direct-requires-send-A
join-direct-requires-send-A g c κs within = param_send 3 _ (arg_send _ no _ (Result-send _ _ Direct-send error_send))

pub returns-clause-index : goal.returns-clause-index
returns-clause-index g c = λ snaps there. record {
  closures = IfOk-at_ok _ c.in_ok-layer.was c.join-direct.ensures.second.0 snaps there;
  direct = IfOk-at_ok _ c.in_ok-direct.was c.join-direct.ensures.first.0 snaps there;
}
