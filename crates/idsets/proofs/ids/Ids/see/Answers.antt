use Rattle.std.proofs.Common.{◌≡◌, ◌++◌, ◌∷◌, [], length, nat_lt, cond, subst, List}
use Rattle.idsets.proofs.Positions.{kept}
use Rattle.idsets.proofs.ids.Ids.see.Goals as goal

pub returns-clause-names : goal.returns-clause-names
returns-clause-names g c =
    let name = c.args.name in
    let h = kept (g.N.PartialEq.eq name) name c.self.inside.names.keys c.insert_full.new.self.keys c.in-Ok.id c.in-Ok.ensures.keys c.in-Ok.ensures.index in
    subst (λ (l : List _). c.insert_full.new.self.keys ≡ cond (nat_lt c.in-Ok.id (length l)) l (l ++ name ∷ [])) c.self.view_is h
