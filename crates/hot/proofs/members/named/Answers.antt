use Rattle.std.proofs.Common.{take, refl, subst, arith}
use Rattle.std.proofs.lemmas.List.{get_or_default}
use Rattle.region.proofs.Listing.{place_same}
use Rattle.facts.proofs.Naming.{one_more, all_of}
use Rattle.hot.specs.inside.Named.{AreNamed}
use Rattle.hot.proofs.Lists.{not_before, named_none}
use Rattle.hot.proofs.members.named.Goals as goal

pub loop-id-init : goal.loop-id-init
loop-id-init c = named_none c.args.users.now c.new-found.result.items c.new-found.ensures.items

pub loop-id-preserved : goal.loop-id-preserved
loop-id-preserved c = subst (λ xs. AreNamed c.args.users.now xs c.push_named.new.found.items)
    (one_more c.args.ids.now c.loop-id.id-index _ c.loop-id-test.true (place_same c.args.ids.now c.args.ids.now c.loop-id.id-index _ refl c.loop-id-test.true))
    (c.in_ok-push_named.ensures (take c.loop-id.id-index c.args.ids.now)
    (not_before c.args.ids.now c.loop-id.id-index _ c.requires c.loop-id-test.true (get_or_default c.args.ids.now c.loop-id.id-index _ 0 c.loop-id-test.true)) c.loop-id.invariant)

pub returns : goal.returns
returns c = subst (λ xs. AreNamed c.args.users.now xs c.loop-id.found.items)
    (all_of c.args.ids.now c.loop-id.id-index (omega (arith, c.loop-id-test.false))) c.loop-id.invariant
