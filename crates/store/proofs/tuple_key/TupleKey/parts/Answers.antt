use Rattle.std.proofs.Common.{ap, sym, subst, ◌∙◌}
use Rattle.tuple_keys.specs.Spelled.{after_space, IsSubjectSpelling, IsSpelling}
use Rattle.tuple_keys.proofs.Spellings.{subject_spelling}
use Rattle.store.proofs.tuple_key.TupleKey.parts.Goals as goal

pub of-requires : goal.of-requires
of-requires c =
    let rest = c.cut-3.ensures.after ∙ ap after_space (c.cut-2.ensures.after ∙ ap after_space c.cut.ensures.after) in
    subst IsSubjectSpelling (sym rest) (subject_spelling c.as_str.result.now (subst IsSpelling (sym c.as_str.ensures.value) c.self.invariant))
