use Rattle.std.proofs.Common.{rules}
use Rattle.sqlite_tables.proofs.TableReads.{config_number}
use Rattle.sqlite_tables.proofs.loading.read_config.Goals as goal

pub returns-in_err-read_number-clause-unread : goal.returns-in_err-read_number-clause-unread
returns-in_err-read_number-clause-unread c = search (rules, config_number c.args.row.now)
