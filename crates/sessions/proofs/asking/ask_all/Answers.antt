use denote.Exit.{no}
use denote.Param.{param}
use denote.Param.Send.{arg_send, param_send}
use Rattle.sessions.proofs.Crossing.{Client-send}
use Rattle.sessions.proofs.asking.ask_all.Goals as goal

pub map_vec-counts-requires-send-J : goal.map_vec-counts-requires-send-J
map_vec-counts-requires-send-J g c κs within =
    param_send 1 _ (arg_send _ no _ (Client-send (param 0 g.row.J) _ c.type_bounds.send-J c.type_bounds.sync-J))
