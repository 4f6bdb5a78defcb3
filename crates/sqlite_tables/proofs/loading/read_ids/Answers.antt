use Rattle.std.proofs.Common.{rules}
use Rattle.sqlite_tables.proofs.TableReads.{id_shown}
use Rattle.sqlite_tables.proofs.loading.read_ids.Goals as goal

pub returns-in_err-read_number-clause-unread : goal.returns-in_err-read_number-clause-unread
returns-in_err-read_number-clause-unread c = search (rules, id_shown c.args.rows.now c.loop-row.row-index)

pub returns-clause-fits : goal.returns-clause-fits
returns-clause-fits c = search rules
