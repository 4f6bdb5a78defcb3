use Rattle.std.proofs.Common.{◌∙◌, sym, subst}
use Rattle.std.specs.Cmp.Lexicographic.{same_text}
use Rattle.decide.specs.inside.Reading.{IsReadOf}
use Rattle.decide.proofs.Few.{read_named}
use Rattle.decide.proofs.reads.named_in.Goals as goal

pub returns-then-eq : goal.returns-then-eq
returns-then-eq c = λ S o its.
    let named = c.in_ok-named-in-Some.named.now in
    read_named S o c.in-Some.read.now named c.args.tupleset.now c.as_slice.result.now (subst (IsReadOf S o) c.in-Some.is its) (sym c.in_ok-named-in-Some.ensures.value)
    (same_text named.tupleset c.args.tupleset.now (sym (sym c.eq.ensures ∙ c.if-eq.true))) c.as_slice.ensures.value
