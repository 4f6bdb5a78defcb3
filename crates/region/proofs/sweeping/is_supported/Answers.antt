use Rattle.std.proofs.Common.{ap, sym, ◌∙◌}
use Rattle.std.proofs.lemmas.Bool.{or_from}
use Rattle.least_sets.specs.World.{has}
use Rattle.region.proofs.Swept.{support_by}
use Rattle.region.proofs.sweeping.is_supported.Goals as goal

pub returns-in-Some : goal.returns-in-Some
returns-in-Some c = support_by c.args.old.now.rows c.args.touched.now c.args.named.now c.args.roots.now c.args.suspects.now c.as_slice.result.now c.args.node c.has_support.result
    (or_from (has c.args.roots.now c.args.node) (has c.args.named.now c.args.node) (sym c.contains.ensures ∙ c.if-contains.false) (sym c.contains-else-contains.ensures ∙ c.if-contains-2.false))
    (λ x h. ap (λ xs. has xs x) c.as_slice.ensures.ids ∙ c.in-Some.ensures x ∙ c.requires.backed x c.args.node h)
    c.has_support.ensures
