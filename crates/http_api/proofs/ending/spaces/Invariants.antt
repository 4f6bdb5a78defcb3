-- So many spaces were seen.
use Rattle.std.proofs.Common.{◌≡◌, ◌≤◌, take}
use Rattle.http_api.specs.inside.Endings.{spaces}
use Rattle.http_api.proofs.ending.spaces.Given as goal

abbrev pub invariant-loop-b : goal.invariant-loop-b
invariant-loop-b l = (l.count ≡ spaces (take l.b-index l.bytes)) × (l.count ≤ l.b-index)
