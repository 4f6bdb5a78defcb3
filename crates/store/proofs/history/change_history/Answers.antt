use Rattle.std.proofs.Common.{◌∙◌, ap, sym, subst}
use Rattle.names.specs.declared.commit.Commit.{Commit}
use Rattle.meaning.specs.Config.{Configured}
use Rattle.tables.specs.Changing.{CanStore}
use Rattle.tables.specs.declared.change.TableChange.{TableChange}
use Rattle.tables.specs.declared.change.TableChange.TheVariants as changes
use Rattle.store.specs.History.{KeepsHistory, Changes, LeavesChanged}
use Rattle.store.proofs.history.change_history.Goals as goal

pub write_events-requires-clause-next : goal.write_events-requires-clause-next
write_events-requires-clause-next g c =
    let same = c.in-Commit.is ∙ ap (λ (m : Commit Configured). changes.Commit c.in-Commit.rev m c.in-Commit.puts) c.in-Some.ensures.some in
    subst (CanStore (KeepsHistory g.S.Store c.args.conn.now)) same c.requires.can

pub write_config-requires-clause-next : goal.write_config-requires-clause-next
write_config-requires-clause-next g c =
    let same = c.in-Commit.is ∙ ap (λ (m : Commit Configured). changes.Commit c.in-Commit.rev m c.in-Commit.puts) c.in-Some-config.ensures.some in
    subst (CanStore (KeepsHistory g.S.Store c.args.conn.now)) same c.requires.can

pub trim_tables-requires-clause-can : goal.trim_tables-requires-clause-can
trim_tables-requires-clause-can g c = subst (CanStore (KeepsHistory g.S.Store c.args.conn.now)) c.in-Trim.is c.requires.can

pub returns-in-Some-clause-done : goal.returns-in-Some-clause-done
returns-in-Some-clause-done g c =
    let same = c.in-Commit.is ∙ ap (λ (m : Commit Configured). changes.Commit c.in-Commit.rev m c.in-Commit.puts) c.in-Some.ensures.some in
    subst (λ (x : TableChange). Changes g.S.Store c.args.conn.now c.write_events.new.conn x c.write_events.result) (sym same) c.write_events.ensures.done

pub returns-in-Some-clause-crash : goal.returns-in-Some-clause-crash
returns-in-Some-clause-crash g c =
    let same = c.in-Commit.is ∙ ap (λ (m : Commit Configured). changes.Commit c.in-Commit.rev m c.in-Commit.puts) c.in-Some.ensures.some in
    subst (LeavesChanged g.S.Store c.args.conn.now c.write_events.new.conn) (sym same) c.write_events.ensures.crash

pub returns-in-Some-config-clause-done : goal.returns-in-Some-config-clause-done
returns-in-Some-config-clause-done g c =
    let same = c.in-Commit.is ∙ ap (λ (m : Commit Configured). changes.Commit c.in-Commit.rev m c.in-Commit.puts) c.in-Some-config.ensures.some in
    subst (λ (x : TableChange). Changes g.S.Store c.args.conn.now c.write_config.new.conn x c.write_config.result) (sym same) c.write_config.ensures.done

pub returns-in-Some-config-clause-crash : goal.returns-in-Some-config-clause-crash
returns-in-Some-config-clause-crash g c =
    let same = c.in-Commit.is ∙ ap (λ (m : Commit Configured). changes.Commit c.in-Commit.rev m c.in-Commit.puts) c.in-Some-config.ensures.some in
    subst (LeavesChanged g.S.Store c.args.conn.now c.write_config.new.conn) (sym same) c.write_config.ensures.crash
