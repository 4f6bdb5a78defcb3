use Rattle.std.proofs.Common.{List, ℕ, rules, sym, ap, ◌∙◌}
use Rattle.std.specs.Prelude.{Some, codes}
use Rattle.serde_json.specs.View.{view}
use Rattle.config_text.specs.Objects.{text_at}
use Rattle.names.specs.Spelling.{SpellsTuple}
use Rattle.bodies.proofs.Asking.{kind_word, no_kind}
use Rattle.bodies.proofs.Options.{is_so}
use Rattle.bodies.proofs.ops.read_op.Goals as goal

pub returns-clause-ok : goal.returns-clause-ok
returns-clause-ok c =
    record {
      only = let e = c.has_only_members.ensures in let f = c.if-not-has_only_members.false in search rules;
      word_is = sym c.in-Some.ensures ∙ ap (λ (w : List ℕ). Some w) (kind_word c.in-Some.word.now _ c.in-Some-kind_of.ensures);
      tuple_is = is_so (λ s. SpellsTuple s c.in_ok-tuple.tuple) (text_at (codes "tuple") (view c.args.value.now)) c.in-Some-text_at.text.now c.in-Some-text_at.ensures c.in_ok-tuple.ensures.ok;
    }

pub returns-in_default-kind_of-clause-err : goal.returns-in_default-kind_of-clause-err
returns-in_default-kind_of-clause-err c = no_kind (view c.args.value.now) c.in-Some.word.now c.in-Some.ensures c.in_default-kind_of.ensures
