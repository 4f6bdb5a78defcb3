use Rattle.std.proofs.Common.{rules}
use Rattle.sqlite_tables.proofs.TableReads.{span_added, span_removed}
use Rattle.sqlite_tables.proofs.loading.read_span.Goals as goal

pub returns-in_err-read_number-clause-unread : goal.returns-in_err-read_number-clause-unread
returns-in_err-read_number-clause-unread c = search (rules, span_added c.args.row.now)

pub returns-in_err-read_number-2-clause-unread : goal.returns-in_err-read_number-2-clause-unread
returns-in_err-read_number-2-clause-unread c = search (rules, span_removed c.args.row.now)
