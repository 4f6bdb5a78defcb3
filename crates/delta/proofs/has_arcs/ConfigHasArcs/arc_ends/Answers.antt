use Rattle.std.proofs.Common.{List, ap, sym, subst}
use Rattle.names.specs.declared.node.Node.{Node}
use Rattle.meaning.specs.Config.{Defined, rel_of}
use Rattle.config.proofs.Searching.{read_there}
use Rattle.config_text.specs.Forms.{form_of}
use Rattle.config_text.specs.declared.relation.Relation.{Relation}
use Rattle.graphs.specs.Groups.{IsGroupArc}
use Rattle.leopard.specs.Index.{bare}
use Rattle.leopard.specs.inside.Asking.{AreAll, Gains, IsComputed}
use Rattle.leopard.proofs.Bare.{bare_with, bare_without}
use Rattle.delta.proofs.has_arcs.ConfigHasArcs.arc_ends.Goals as goal

pub returns-in_default : goal.returns-in_default
returns-in_default c = subst (λ (ns : List Node). AreAll (IsGroupArc (bare c.args.self.now) c.args.node.now) ns) (sym c.new-computed.ensures.items)
    (bare_without c.args.self.now c.args.node.now c.in_default.ensures.none)

pub returns : goal.returns
returns c =
    let n = c.args.node.now in
    let stands = c.in-Some.ensures.found in
    let config = c.args.self.now in
    let read = c.index-relations-place.result in
    let there = read_there config c.relations-relations.result.now (rel_of n) c.in-Some.place read c.relations-relations.ensures.relations stands c.index-relations-place.is in
    bare_with config n c.in-Some.place stands
    (form_of read.rewrite) (ap (λ (d : Defined). d.form) there) c.push_computed.new.nodes.items
    (subst (λ (ns : List Node). Gains (IsComputed n.object (form_of read.rewrite)) ns c.push_computed.new.nodes.items) c.new-computed.ensures.items
    (subst (λ (r : Relation). Gains (IsComputed n.object (form_of r.rewrite)) c.new-computed.result.items c.push_computed.new.nodes.items) (sym c.index-relations-place.is) c.in_ok-push_computed.ensures))
