use Rattle.std.proofs.Common.{ap, ◌∙◌, sym, subst}
use Rattle.std.specs.Prelude.{All}
use Rattle.meaning.specs.Config.{IsWhole}
use Rattle.meaning.specs.TupleSet as set
use Rattle.meaning.proofs.TupleSets.{from_items}
use Rattle.plain.specs.inside.Source.{config_of}
use Rattle.plain.proofs.Alike.{levels_alike}
use Rattle.plain.proofs.source.source_of.Goals as goal

pub returns : goal.returns
returns c = record {
  relations = c.relations.ensures.relations ∙ ap (λ s. s.relations) c.config-config.ensures;
  tuples = ap set.from_list c.tuples.ensures ∙ from_items c.args.snapshot.now.tuples;
  ready = record {
    levels_right = levels_alike c.config-config.result.now (config_of c.relations.result.now) c.levels.result.now (sym c.relations.ensures.relations) c.levels.ensures.levels;
    small = c.levels.ensures.small;
    whole = subst (All (λ d. IsWhole d.form)) (sym c.relations.ensures.relations) c.relations.ensures.whole;
  };
}
