use denote.Exit.{no}
use denote.Param.{param}
use denote.Param.Send.{arg_send, param_send, shr_send}
use Rattle.std.proofs.Crossing.{Vec-send}
use Rattle.sessions.proofs.Crossing.{AtomicBool-sync, Client-send, Str-send, five_send, u32-sync}
use Rattle.sessions.proofs.asking.ask_beside.Goals as goal

pub join-counts-requires-send-F : goal.join-counts-requires-send-F
join-counts-requires-send-F g c κs within =
    let b = c.type_bounds in
    let askers = Vec-send _ (Client-send (param 1 g.row.J) _ b.send-J b.sync-J) in
    param_send 1 _ (arg_send _ no _ (five_send _ _ _ _ _ _ (shr_send _ _ _ b.sync-W) askers (Str-send _ _) (shr_send _ _ _ u32-sync) (shr_send _ _ _ AtomicBool-sync)))
