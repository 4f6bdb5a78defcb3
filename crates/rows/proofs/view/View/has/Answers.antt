use Rattle.std.proofs.Common.{◌≡◌, ap, sym, ◌∙◌}
use Rattle.meaning.specs.TupleSet as set
use Rattle.meaning.specs.Snap.{Snap}
use Rattle.meaning.proofs.TupleSets.{contains_iff}
use Rattle.tuple_keys.specs.Named.{user_tuple}
use Rattle.rows.proofs.view.View.has.Goals as goal

pub returns : goal.returns
returns c =
    let t = user_tuple c.args.node.now c.args.user.now in
    let held = contains_iff c.args.self.now.tuples t in
    let is : c.has_user.result ≡ set.contains c.args.self.now.tuples t = c.has_user.ensures ∙ ap (λ (s : Snap). set.contains s.tuples t) c.self.view_is in
    (λ has. held.0 (sym is ∙ has), λ named. is ∙ held.1 named)
