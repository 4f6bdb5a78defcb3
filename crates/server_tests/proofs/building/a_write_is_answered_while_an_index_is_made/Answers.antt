use denote.Exit.{no}
use denote.Param.Send.{arg_send, param_send}
use Rattle.server_tests.proofs.Crossing.{Listed-send}
use Rattle.server_tests.proofs.building.a_write_is_answered_while_an_index_is_made.Goals as goal

pub configured_and_served-served-requires-send-T : goal.configured_and_served-served-requires-send-T
configured_and_served-served-requires-send-T g c κs = param_send 0 _ (arg_send _ no _ Listed-send)
