use Rattle.std.proofs.Common.{◌∙◌, sym}
use Rattle.sqlite.specs.declared.types.Value.TheVariants.{Null}
use Rattle.sqlite_schema.specs.declared.code.Op.TheVariants.{Literal}
use Rattle.sqlite_tables.proofs.Items.{not_binary}
use Rattle.sqlite_tables.proofs.format.operands.Goals as goal

pub returns-else-is_operator-clause-none : goal.returns-else-is_operator-clause-none
returns-else-is_operator-clause-none c = λ _ a b same.
    not_binary c.args.nodes.now c.args.depth c.args.at c.in-Some-Binary.found c.args.how _ _ (sym (c.in-Some-Binary.ensures.lookup.3.1 (Literal Null)) ∙ c.in-Some-Binary.field-0-is) (c.is_operator.ensures.no c.if-is_operator.false) a b same
