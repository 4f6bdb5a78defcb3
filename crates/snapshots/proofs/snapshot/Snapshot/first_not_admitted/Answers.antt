use Rattle.std.proofs.Common.{◌≡◌, ap, ◌∙◌, sym, rules, tests}
use Rattle.std.specs.Prelude.{not}
use Rattle.std.specs.List.{find}
use Rattle.std.specs.Option.{option_copied}
use Rattle.std.proofs.lemmas.Iterator.Consumers.{YieldsList-from_rest}
use Rattle.std.proofs.lemmas.Iterator.Search.{find_from_yields_List}
use Rattle.meaning.specs.Admits.{admits}
use Rattle.meaning.specs.TupleSet as set
use Rattle.meaning.proofs.TupleSets.{items_from_list}
use Rattle.snapshots.proofs.snapshot.Snapshot.first_not_admitted.Goals as goal

pub returns : goal.returns
returns c =
    let keys = c.self.inside.tuples.keys in
    let first : option_copied c.find.result ≡ find (λ t. not (admits c.args.config.now t)) keys =
    find_from_yields_List (λ t. not (admits c.args.config.now t)) _ _ c.find.result c.find.ensures.ran (YieldsList-from_rest keys c.iter.ensures.rest) (λ x b q k. search (rules, tests)) in
    first ∙ ap (find (λ t. not (admits c.args.config.now t))) (sym (items_from_list keys c.self.invariant) ∙ ap (λ s. set.items s.tuples) c.self.view_is)
