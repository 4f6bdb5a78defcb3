-- What may be shared with another thread, which Rattle does not find by itself for a router, whose tree is recursive.
use denote.Param.Send.{IsSend, IsSync, sendable, recorded_sync, struct_sync}
use denote.RattleType.{RattleType}
use denote.Ref.{NamedLft}
use denote.Struct.Declared as S
use Rattle.std.proofs.Crossing.{crosses}
use Rattle.matchit.proofs.tree.Node.TheLaws.TheKnot.{crosses as nodes_cross}
use Rattle.matchit.specs.contracts.tree.Node as Node
use Rattle.matchit.specs.contracts.router.Router as Router
use Rattle.names.specs.contracts.call.Call as Call
use Rattle.server.specs.contracts.worker.Worker as Worker

Node-sync : IsSync Node.the_row
Node-sync = search (nodes_cross, crosses, sendable) depth 40

Router-inside-sync : IsSync (Router.TheInside.the_row Call.the_row)
Router-inside-sync =
    let T = Router.TheInside.the_type Call.the_row in
    recorded_sync _ _ T.to T.to_one (struct_sync (S.shape T)
    ((search (crosses, sendable)), (Node-sync, ((search (crosses, sendable) depth 40), ((search (crosses, sendable) depth 40), ((search (crosses, sendable) depth 20), tt))))))

pub Router-sync : IsSync (Router.the_row Call.the_row)
Router-sync = search (Router-inside-sync, sendable) depth 10

pub Worker-send : (lives : NamedLft) (A : RattleType) → IsSend A → IsSend (Worker.the_row lives A)
Worker-send lives A s = search (Router-sync, crosses, sendable) depth 40
