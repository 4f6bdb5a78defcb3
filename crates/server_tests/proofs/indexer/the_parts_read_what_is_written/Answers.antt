use denote.Exit.{no}
use denote.Param.Send.{arg_send, param_send}
use Rattle.server_tests.proofs.Crossing.{Listed-send}
use Rattle.server_tests.proofs.indexer.the_parts_read_what_is_written.Goals as goal

pub serve_and_write-caught_up-requires-send-T : goal.serve_and_write-caught_up-requires-send-T
serve_and_write-caught_up-requires-send-T g c κs = param_send 0 _ (arg_send _ no _ Listed-send)
