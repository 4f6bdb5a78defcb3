use Rattle.std.proofs.Common.{refl, sym, ap, subst, ◌≡◌, slice_set}
use Rattle.decide.specs.declared.search.Opened.{Opened}
use Rattle.decide.specs.inside.Searches.{Pushes}
use Rattle.decide.proofs.Elements.{holds_same}
use Rattle.decide.proofs.search.Search.stack.Goals as goal

-- src/search.rt:147:5
pub returns-clause-stacked : goal.returns-clause-stacked
returns-clause-stacked c e at =
    let same = holds_same c.args.self.now.opened.items c.args.number e c.index.result.now at (c.requires.number, sym c.index.ensures) in
    let level : e.level ≡ c.index.result.now.level = ap (λ (x : Opened). x.level) same in
    subst (λ l. Pushes c.args.self.now.stacks.items (slice_set c.args.self.now.stacks.items c.index.result.now.level c.push.new.self) l c.args.number) (sym level)
    (c.index_mut.result.now, c.push.new.self, sym c.index_mut.ensures.value, c.in_ok-push.ensures.items, refl)
