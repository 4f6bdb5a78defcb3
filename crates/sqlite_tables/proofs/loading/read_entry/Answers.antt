use Rattle.std.proofs.Common.{rules}
use Rattle.sqlite_tables.proofs.TableReads.{entry_number}
use Rattle.sqlite_tables.proofs.loading.read_entry.Goals as goal

pub returns-in_err-read_number-clause-unread : goal.returns-in_err-read_number-clause-unread
returns-in_err-read_number-clause-unread c = search (rules, entry_number c.args.row.now)
