use Rattle.std.proofs.Common.{ap, sym, subst}
use Rattle.meaning.specs.Config.{Configured, Defined, Has, rel_of}
use Rattle.config.specs.Valid as valid
use Rattle.config.proofs.Searching.{read_there}
use Rattle.config_text.specs.Forms.{form_of}
use Rattle.config_text.specs.declared.relation.Relation.{Relation}
use Rattle.leopard.specs.inside.Asking.{Gains, IsComputed}
use Rattle.leopard.proofs.Arcs.{set_known, arcs_with, arcs_without}
use Rattle.delta.proofs.has_arcs.InputHasArcs.arc_ends.Goals as goal

pub returns-in_default : goal.returns-in_default
returns-in_default c =
    let S = c.args.self.now in
    let n = c.args.node.now in
    let known = set_known S (subst valid.IsValid c.config-config.ensures.config c.relations-relations.ensures.valid) c.config-config.ensures.admitted n in
    arcs_without S n c.in_ok-ends.ends.items (λ m h. (c.in_ok-ends.ensures m).0 h) (λ m h _. (c.in_ok-ends.ensures m).1 h) known
    (subst (λ (k : Configured). Has k (rel_of n) → ⊥) c.config-config.ensures.config c.in_default.ensures.none)

pub returns : goal.returns
returns c =
    let S = c.args.self.now in
    let n = c.args.node.now in
    let known = set_known S (subst valid.IsValid c.config-config.ensures.config c.relations-relations.ensures.valid) c.config-config.ensures.admitted n in
    let stands = c.in-Some.ensures.found in
    let config = c.config-config.result.now in
    let read = c.index-relations-place.result in
    let there = read_there config c.relations-relations.result.now (rel_of n) c.in-Some.place read c.relations-relations.ensures.relations stands c.index-relations-place.is in
    arcs_with S n c.in_ok-ends.ends.items (λ m h. (c.in_ok-ends.ensures m).0 h) (λ m h _. (c.in_ok-ends.ensures m).1 h) known config c.config-config.ensures.config c.in-Some.place stands
    (form_of read.rewrite) (ap (λ (d : Defined). d.form) there) c.push_computed.new.nodes.items
    (subst (λ (r : Relation). Gains (IsComputed n.object (form_of r.rewrite)) c.in_ok-ends.ends.items c.push_computed.new.nodes.items) (sym c.index-relations-place.is) c.in_ok-push_computed.ensures)
