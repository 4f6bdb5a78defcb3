use Rattle.std.proofs.Common.{rules, refl, sym, false, None}
use Rattle.decide.proofs.search.Search.open.Goals as goal

-- src/search.rt:80:5
pub returns : goal.returns
returns c = (
  record { node = c.args.node; level = c.args.level; place = c.args.place; sure = false; waiting = record { items = c.none.result }; own = None; parents = None },
  c.in_ok-push.ensures.items,
  refl,
  refl,
  refl,
  refl,
  c.none.ensures,
  refl,
  refl,
  search rules,
  (c.index_mut.result.now, c.push-2.new.self, sym c.index_mut.ensures.value, c.in_ok-push-2.ensures.items, refl),
  refl,
)
