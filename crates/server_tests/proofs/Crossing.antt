-- That tables in memory may be sent to another thread.
use denote.Param.Send.{IsSend, sendable}
use Rattle.std.proofs.Crossing.{crosses}
use Rattle.keeper.proofs.Crossing.{Config-send, KeptCommit-send}
use Rattle.versions.proofs.version_map.VersionMap.TheSendSync as VersionMap
use Rattle.tables.specs.contracts.listed.Listed as Listed

pub Listed-send : IsSend Listed.the_row
Listed-send = search (Config-send, KeptCommit-send, VersionMap.the_send, crosses, sendable) depth 40
