use denote.Exit.{no}
use denote.Param.Send.{IsSend, arg_send, param_send, sendable}
use Rattle.std.proofs.Crossing.{crosses}
use Rattle.keeper.proofs.Crossing.{Config-send, KeptCommit-send}
use Rattle.versions.proofs.version_map.VersionMap.TheSendSync as VersionMap
use Rattle.tables.specs.contracts.listed.Listed as Listed
use Rattle.program.proofs.serving.serve_listed.Goals as goal

-- Tables in memory reach a rewrite, so Rattle does not find this by itself.
Listed-send : IsSend Listed.the_row
Listed-send = search (Config-send, KeptCommit-send, VersionMap.the_send, crosses, sendable) depth 40

pub share-requires-send-T : goal.share-requires-send-T
share-requires-send-T g c κs within = param_send 1 _ (arg_send _ no _ Listed-send)
