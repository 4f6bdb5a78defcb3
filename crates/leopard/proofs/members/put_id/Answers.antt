use Rattle.std.proofs.Common.{[], length-set, refl, ap, ◌∙◌}
use Rattle.std.specs.Prelude.{◌||◌, nat_eq}
use Rattle.std.proofs.lemmas.List.{get_or_default}
use Rattle.idsets.specs.Sets.{has}
use Rattle.leopard.proofs.DirectSets.{put_ascends}
use Rattle.leopard.proofs.members.put_id.Goals as goal

pub returns-clause-even : goal.returns-clause-even
returns-clause-even c = length-set c.args.sets.now.items c.args.at c.insert.new.self

pub returns-clause-ascending : goal.returns-clause-ascending
returns-clause-ascending c = put_ascends c.args.sets.now.items _ c.args.at c.insert.new.self c.requires.ascending c.requires.within refl c.insert.ensures.ascending

pub returns-clause-gains : goal.returns-clause-gains
returns-clause-gains c = (
  c.insert.new.self,
  refl,
  λ other. c.in_ok-insert.ensures.members other ∙ ap (λ l. nat_eq other c.args.id || has l other) (c.index_mut-set.ensures.value ∙ get_or_default c.args.sets.now.items c.args.at c.index_mut-set.result.now [] c.requires.within),
)
