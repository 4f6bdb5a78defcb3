use Rattle.std.proofs.Common.{List, ap, sym, subst, ◌∙◌}
use Rattle.std.specs.Prelude.{Contains, filter}
use Rattle.std.proofs.lemmas.Result.{IfOk-weaker}
use Rattle.names.specs.declared.object.Object.{Object}
use Rattle.names.specs.declared.tuple.Tuple.{Tuple}
use Rattle.meaning.specs.TupleSet as set
use Rattle.meaning.specs.Snap.{Snap, one}
use Rattle.tuple_keys.specs.Named.{is_of}
use Rattle.versions.specs.Named.{objects_in}
use Rattle.rows.proofs.Naming.{of_node, is_of_itself, named_object, object_named}
use Rattle.rows.proofs.view.View.objects_of.Goals as goal

pub returns : goal.returns
returns c =
    let n = c.args.node.now in
    let ts : List Tuple = set.items c.args.self.now.tuples in
    let same = ap (λ (s : Snap). objects_in (filter (is_of n) (set.items s.tuples))) c.self.view_is in
    IfOk-weaker c.objects_of.result _ _
    (λ v is p. (
      λ in'. named_object n (is_of n) ts (of_node n) p (subst (λ (os : List Object). Contains os p) (is ∙ same) in'),
      λ named. subst (λ (os : List Object). Contains os p) (sym (is ∙ same)) (object_named n (is_of n) ts p (is_of_itself n (one p)) named),
    ))
    c.objects_of.ensures
