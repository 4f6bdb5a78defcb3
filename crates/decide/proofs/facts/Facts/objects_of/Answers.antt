use Rattle.std.proofs.Common.{subst}
use Rattle.std.specs.Prelude.{◌↔◌, Contains, IfOk}
use Rattle.names.specs.declared.object.Object.{Object}
use Rattle.meaning.specs.Membership.{HasOne}
use Rattle.meaning.specs.Snap.{Snap}
use Rattle.meaning.specs.TupleSet as set
use Rattle.decide.proofs.Few.{few_objects, ok_mapped}
use Rattle.decide.proofs.ReadTuples.{kept_at}
use Rattle.decide.proofs.facts.Facts.objects_of.Goals as goal

pub returns-in-Some : goal.returns-in-Some
returns-in-Some c =
    let S = c.args.self.now in
    let n = c.args.node.now in
    ok_mapped c.named_objects.result _ _ (λ v named p. few_objects S n c.in-Some.few.now (c.in-Some.ensures S n.object c.requires) v.items named p) c.named_objects.ensures

pub returns-in-None : goal.returns-in-None
returns-in-None c =
    subst (λ (S : Snap). IfOk c.objects_of.result (λ v. (p : Object) → Contains v.items p ↔ HasOne S c.args.node.now p)) c.self.view_is c.objects_of.ensures

pub named_objects-requires : goal.named_objects-requires
named_objects-requires c =
    let S = c.args.self.now in
    let o = c.args.node.now.object in
    kept_at o (set.items S.tuples) c.in-Some.few.now (c.in-Some.ensures S o c.requires)
