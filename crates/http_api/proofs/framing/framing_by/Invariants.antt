-- The fields that are left decide what all of them do.
use Rattle.std.proofs.Common.{◌≡◌, All, length, codes}
use Rattle.httparse.specs.Spans.{IsHeaderWithin}
use Rattle.http_api.specs.Heads.{values}
use Rattle.http_api.specs.inside.Finding.{pairs_at}
use Rattle.http_api.proofs.framing.framing_by.Given as goal

abbrev pub invariant-loop-field : goal.invariant-loop-field
invariant-loop-field l = (values (codes "content-length") (pairs_at l.bytes l.rest) ≡ values (codes "content-length") (pairs_at l.bytes l.fields)) × All (IsHeaderWithin (length l.bytes)) l.rest

abbrev pub decreases-loop-field : goal.decreases-loop-field
decreases-loop-field l = length l.rest
