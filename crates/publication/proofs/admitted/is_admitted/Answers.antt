use Rattle.std.proofs.Common.{ap, ◌∙◌}
use Rattle.std.specs.Prelude.{not}
use Rattle.std.specs.List.{find}
use Rattle.std.specs.Option.{is_none}
use Rattle.names.specs.declared.tuple.Tuple.{Tuple}
use Rattle.meaning.specs.Admits.{admits}
use Rattle.meaning.specs.Config.{Configured}
use Rattle.meaning.specs.TupleSet as set
use Rattle.publication.proofs.Finding.{none_by, none_mapped, none_found}
use Rattle.publication.proofs.admitted.is_admitted.Goals as goal

pub returns : goal.returns
returns c =
    let s = c.args.snapshot.now in
    let found = c.first_not_admitted.result in
    none_by found c.is_none.result c.is_none.ensures
    ∙ none_mapped (λ x. x.now) found
    ∙ ap is_none c.first_not_admitted.ensures
    ∙ ap (λ (config : Configured). is_none (find (λ (t : Tuple). not (admits config t)) (set.items s.tuples))) c.config.ensures
    ∙ none_found (admits s.config) (set.items s.tuples)
