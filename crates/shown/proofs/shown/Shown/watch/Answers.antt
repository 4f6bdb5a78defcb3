use Rattle.std.proofs.Common.{◌≡◌, subst, arith}
use Rattle.std.specs.Prelude.{IfOk}
use Rattle.shown.specs.Standing.{Standing}
use Rattle.shown.specs.Watching.{IsWatched}
use Rattle.shown.proofs.Watching.{told}
use Rattle.shown.proofs.shown.Shown.watch.Goals as goal

pub returns-clause-ok : goal.returns-clause-ok
returns-clause-ok c =
    let store : c.args.cursor.now.store ≡ c.self.inside.rows.number = grind (arith, c.number.ensures, c.if-cursor-number.false) in
    subst (λ (s : Standing). IfOk c.page.result (IsWatched s c.args.cursor.now c.args.namespaces.now c.args.commits)) c.self.view_is
    (told _ c.args.cursor.now c.args.namespaces.now c.args.commits c.page.result store c.page.ensures.retained c.page.ensures.ok)
