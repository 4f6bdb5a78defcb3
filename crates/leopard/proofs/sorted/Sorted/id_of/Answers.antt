use Rattle.std.proofs.Common.{◌≡◌, List, ap, sym, subst, ◌∙◌}
use Rattle.std.specs.Prelude.{Some}
use Rattle.std.specs.List.{slice_get}
use Rattle.std.specs.List.Sorted.{IsStrictlySortedBy}
use Rattle.std.proofs.lemmas.Option.{slice_get-get_or}
use Rattle.leopard.proofs.Ordered.{rises, not_found}
use Rattle.leopard.proofs.sorted.Sorted.id_of.Goals as goal

pub returns-in-Ok-clause-found : goal.returns-in-Ok-clause-found
returns-in-Ok-clause-found g c =
    let name = c.args.name.now in
    subst (λ (l : List g.row.N.Denot). slice_get l c.in-Ok.at ≡ Some name) (c.deref.ensures.value ∙ c.self.view_is)
    (slice_get-get_or c.deref.result.now c.in-Ok.at name c.in-Ok.ensures.bound ∙ ap (λ z. Some z) (g.met.N.Named.exact _ name (c.in-Ok.ensures.ok name)))

pub returns-in-Err-clause-missing : goal.returns-in-Err-clause-missing
returns-in-Err-clause-missing g c id there =
    let name = c.args.name.now in
    let xs = c.deref.result.now in
    let sorted = subst (λ (l : List g.row.N.Denot). IsStrictlySortedBy g.N.Ord.cmp l) (sym c.deref.ensures.value) c.self.invariant in
    not_found g.N.Ord.cmp g.met.N.Ord.total xs name c.in-Err.field-0 (c.in-Err.ensures.position (rises g.N.Ord.cmp g.met.N.Ord.total xs name sorted)) id
    (subst (λ (l : List g.row.N.Denot). slice_get l id ≡ Some name) (sym (c.deref.ensures.value ∙ c.self.view_is)) there)
