use Rattle.std.proofs.Common.{ap, sym, subst, ◌∙◌}
use Rattle.tuple_keys.specs.Spelled.{after_space, IsSubjectSpelling}
use Rattle.tuple_keys.proofs.Spellings.{subject_spelling}
use Rattle.tuple_keys.proofs.tuple_ref.TupleRef.subject.Goals as goal

pub of-requires : goal.of-requires
of-requires c =
    let rest = c.cut-3.ensures.after ∙ ap after_space (c.cut-2.ensures.after ∙ ap after_space c.cut.ensures.after) in
    subst IsSubjectSpelling (sym rest) (subject_spelling c.self.inside.text.now c.self.invariant)
