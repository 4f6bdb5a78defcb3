-- The fields that are left decide what all of them do.
use Rattle.std.proofs.Common.{◌≡◌, All, length, codes}
use Rattle.std.specs.List.{list_any}
use Rattle.httparse.specs.Spans.{IsHeaderWithin}
use Rattle.http_api.specs.Heads.{is_close, values}
use Rattle.http_api.specs.inside.Finding.{pairs_at}
use Rattle.http_api.proofs.framing.says_close.Given as goal

abbrev pub invariant-loop-field : goal.invariant-loop-field
invariant-loop-field l = (list_any is_close (values (codes "connection") (pairs_at l.bytes l.rest)) ≡ list_any is_close (values (codes "connection") (pairs_at l.bytes l.fields))) × All (IsHeaderWithin (length l.bytes)) l.rest

abbrev pub decreases-loop-field : goal.decreases-loop-field
decreases-loop-field l = length l.rest
