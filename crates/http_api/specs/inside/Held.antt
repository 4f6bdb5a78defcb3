-- The bytes that an inbox holds.
use Rattle.std.specs.Prelude.{ℕ, List, slice_range}
use Rattle.http_api.specs.declared.inbox.Inbox.{Inbox}

abbrev pub held : Inbox → List ℕ
held inbox = slice_range inbox.bytes.items inbox.start inbox.end
