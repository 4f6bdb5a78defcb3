use Rattle.std.proofs.Common.{refl, sym, ◌∙◌}
use Rattle.std.proofs.lemmas.Bool.{eqb-true}
use Rattle.sqlite_tables.proofs.Whole.{schema_is}
use Rattle.sqlite_tables.proofs.Texts.{indexes_in}
use Rattle.sqlite_tables.proofs.Items.{no_items}
use Rattle.sqlite_tables.proofs.format.is_schema.Goals as goal

pub returns-clause-yes : goal.returns-clause-yes
returns-clause-yes c found =
    schema_is c.args.found.now (sym c.as_slice.ensures ∙ c.if-not-are_tables.ensures.yes refl) (sym c.as_slice-2.ensures ∙ c.if-not-are_indexes.ensures.yes refl)
    (no_items c.args.found.now.views (sym c.len.ensures ∙ eqb-true _ _ found))

pub returns-then-not-are_indexes-clause-no : goal.returns-then-not-are_indexes-clause-no
returns-then-not-are_indexes-clause-no c = λ _ same. c.if-not-are_indexes.ensures.no refl (c.as_slice-2.ensures ∙ indexes_in c.args.found.now same)
