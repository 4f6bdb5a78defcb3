use Rattle.std.proofs.Common.{◌≡◌, ◌<◌, length, IfOk, ◌∙◌, subst}
use Rattle.std.specs.List.{AllZip}
use Rattle.rayon.specs.Numbers.{nat_range}
use Rattle.rayon.proofs.ToStd.{nat_range-All}
use Rattle.leopard.specs.inside.Closing.{IsWalkSet, AreWalkSets}
use Rattle.leopard.proofs.Pieces.{given, walks_in_pieces}
use Rattle.leopard.proofs.closing.closures_in_pieces.Goals as goal

pub collect-requires-clause-ready : goal.collect-requires-clause-ready
collect-requires-clause-ready g c κs within =
    let ends = c.into_par_iter.ensures in
    let inside = nat_range-All (λ i. i < length c.args.arcs.now) 0 (length c.args.arcs.now) (λ i low high. high) in
    rw (c.map.ensures.base, c.map.ensures.f, c.with_min_len.ensures.base, ends.0, ends.1) (λ k d lt. (inside k d lt, λ y p. tt))

pub returns : goal.returns
returns g c =
    let ends = c.into_par_iter.ensures in
    let n = length c.args.arcs.now in
    let h = c.in_ok-sets.ensures in
    let chain = rw (c.map.ensures.base, c.map.ensures.f) at h.1 in
    let places : chain.0 ≡ nat_range 0 n = chain.1 ∙ (λ i. nat_range (c.with_min_len.ensures.base i).start (c.with_min_len.ensures.base i).end) ∙ (λ i. nat_range (ends.0 i) (ends.1 i)) in
    given (λ at w. IsWalkSet c.args.arcs.now at w) (λ v. v.items) _ (λ v. AreWalkSets c.args.arcs.now v.items) (nat_range 0 n) h.0 c.in_ok-sets.sets
    (subst (λ l. AllZip (λ at r. IfOk r (λ w. IsWalkSet c.args.arcs.now at w)) l h.0) places chain.2) h.2
    (λ v zip. walks_in_pieces c.args.arcs.now v.items zip)
