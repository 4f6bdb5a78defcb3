use Rattle.std.proofs.Common.{ap, sym, ◌∙◌}
use Rattle.std.specs.Prelude.{filter}
use Rattle.names.specs.declared.tuple.Tuple.{Tuple}
use Rattle.versions.specs.Ranges.{is_from}
use Rattle.rows.specs.inside.Reading.{is_wanted}
use Rattle.rows.proofs.Paging.{nothing_found, skipped}
use Rattle.rows.proofs.page.page_of.Goals.{in-Some, in_default}
use Rattle.rows.proofs.page.page_of.Goals as goal

pub texts-init : goal.texts-init
texts-init c =
    nothing_found c.args.asked.now c.args.tuples c.new-page.result.items c.match-after.tuples c.new-page.ensures.items
    (elim c.match-after.branch [
      | in-Some w ↦
          ap (filter (is_wanted c.args.asked.now)) (w.tuples-is ∙ w.skip_to.ensures ∙ ap (λ (a : Tuple). filter (is_from a) c.args.tuples) w.tuple_ref.ensures)
          ∙ skipped c.args.asked.now w.in-Some.after (sym c.text_of-after.ensures ∙ w.in-Some.is) c.args.tuples
      | in_default w ↦ ap (filter (is_wanted c.args.asked.now)) w.tuples-is
    ])
