use denote.Exit.{no}
use denote.Param.Send.{arg_send, param_send}
use Rattle.server_tests.proofs.Crossing.{Listed-send}
use Rattle.server_tests.proofs.gate.a_call_may_wait_for_one_of_another_worker.Goals as goal

pub serve_both-both-requires-send-T : goal.serve_both-both-requires-send-T
serve_both-both-requires-send-T g c κs = param_send 0 _ (arg_send _ no _ Listed-send)
