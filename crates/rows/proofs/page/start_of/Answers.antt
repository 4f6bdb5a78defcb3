use Rattle.std.proofs.Common.{refl}
use Rattle.rows.proofs.Paging.{start_objects, start_object, start_node}
use Rattle.rows.proofs.page.start_of.Goals as goal

pub returns-in_default : goal.returns-in_default
returns-in_default c = start_objects c.args.asked.now c.of_objects.result c.in_default.is c.of_objects.ensures.name c.of_objects.ensures.text

pub returns-in_default-relation : goal.returns-in_default-relation
returns-in_default-relation c =
    start_object c.args.asked.now c.of_object.result c.in-Some.id c.in-Some.is (record { namespace = c.in_ok-namespace.namespace; id = c.in_ok-id.id })
    c.in_ok-namespace.ensures.cases c.in_ok-id.ensures.cases c.in_default-relation.is c.of_object.ensures.is c.of_object.ensures.text

pub returns : goal.returns
returns c =
    start_node c.args.asked.now c.of_node.result c.in-Some.id c.in-Some.is (record { namespace = c.in_ok-namespace.namespace; id = c.in_ok-id.id })
    c.in_ok-namespace.ensures.cases c.in_ok-id.ensures.cases c.in-Some-relation.relation c.in-Some-relation.is
    (record { object = record { namespace = c.in_ok-namespace.namespace; id = c.in_ok-id.id }; relation = c.in_ok-relation.relation }) refl c.in_ok-relation.ensures.cases
    c.of_node.ensures.is c.of_node.ensures.text
