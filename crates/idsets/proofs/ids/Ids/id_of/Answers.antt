use Rattle.std.proofs.Common.{◌∙◌, Some, sym, ap}
use Rattle.std.specs.List.{slice_get}
use Rattle.std.proofs.lemmas.Map.Views.{tells_apart}
use Rattle.idsets.proofs.Positions.{at_position, no_position}
use Rattle.idsets.proofs.ids.Ids.id_of.Goals as goal

pub returns-in-Some-clause-found : goal.returns-in-Some-clause-found
returns-in-Some-clause-found g c =
    let name = c.args.name.now in
    let f = at_position (g.N.PartialEq.eq name) c.self.inside.names.keys c.in-Some.id c.in-Some.ensures.index in
    (λ i. slice_get (sym c.self.view_is i) c.in-Some.id) ∙ (f.1 ∙ ap Some (sym (tells_apart g.met.N.Named.exact name f.0 (sym (g.met.N.Ord.matches_eq name f.0) ∙ f.2))))

pub returns-in-None-clause-missing : goal.returns-in-None-clause-missing
returns-in-None-clause-missing g c id at =
    let name = c.args.name.now in
    no_position (g.N.PartialEq.eq name) c.self.inside.names.keys id name c.in-None.ensures.index ((λ i. slice_get (c.self.view_is i) id) ∙ at) (g.met.N.Eq.laws.refl name)
