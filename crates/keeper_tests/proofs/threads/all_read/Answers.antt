use denote.Exit.{no}
use denote.Param.{param}
use denote.Param.Send.{IsSend, IsSync, arg_send, param_send, view_send}
use denote.Param.SendFields.{declared_send}
use denote.RattleType.{RattleType}
use Rattle.keeper.proofs.Crossing.{Session-send}
use Rattle.keeper_tests.specs.contracts.threads.Reader as Reader
use Rattle.keeper_tests.proofs.threads.all_read.Goals as goal

Reader-send : (A : RattleType) (j : _) → IsSend A → IsSync A → IsSend (Reader.the_row A j)
Reader-send A j s y = view_send _ _ _ _ _ (declared_send (Reader.TheInside.the_type A j) (Session-send A _ s y, tt))

pub map_vec-requires-send-J : goal.map_vec-requires-send-J
map_vec-requires-send-J g c κs within = param_send 1 _ (arg_send _ no _ (Reader-send (param 0 g.row.J) g.J.Naming c.type_bounds.send-J c.type_bounds.sync-J))
