use Rattle.std.proofs.Common.{◌≡◌, ◌∙◌, sym, subst, arith, rules}
use Rattle.config_text.specs.declared.rewrite.Rewrite.{the_lemmas}
use Rattle.config_text.specs.Forms.{form_of, rewrite_forms}
use Rattle.meaning.specs.Form.{Union, Exclusion}
use Rattle.decide.specs.inside.Under.{Under}
use Rattle.decide.specs.inside.Asked.{Counts, IsLeft}
use Rattle.decide.specs.inside.Given.{Gave}
use Rattle.decide.proofs.SearchLemmas.{grew_refl, grew_trans}
use Rattle.decide.proofs.Parts.{some_at, each_at, each_left, each_none}
use Rattle.std.proofs.lemmas.Bool.{false≢true}
use Rattle.decide.proofs.Found.{goes_more, some_more, union_found, unfinished_grows, asking_subtracted, asking_back, without_gave}
use Rattle.decide.proofs.rewrites.+gives.Goals.{some_gives-in-No, some_gives-in-Later}
use Rattle.decide.proofs.rewrites.+gives.Goals as goal

pub each_gives-loop-part-init : goal.each_gives-loop-part-init
each_gives-loop-part-init t c = (c.requires.asking, grew_refl c.args.search.now, λ g. g)

pub each_gives-returns-in-No-clause-goes_on : goal.each_gives-returns-in-No-clause-goes_on
each_gives-returns-in-No-clause-goes_on t c = goes_more c.args.facts.now c.args.asking.now c.args.search.now c.loop-part.search c.gives.new.search c.loop-part.invariant.1 c.in_ok-gives.ensures.goes_on

pub each_gives-returns-in-No-clause-found : goal.each_gives-returns-in-No-clause-found
each_gives-returns-in-No-clause-found t c = λ all.
    subst (Gave c.args.facts.now c.gives.new.search c.args.asking.now (form_of c.part-item.result)) c.in-No.is c.in_ok-gives.ensures.found
    (each_at c.args.facts.now c.args.asking.now.user.now c.args.asking.now.node.now (IsLeft c.args.facts.now c.gives.new.search c.args.asking.now) (Under c.args.facts.now c.args.asking.now.user.now c.args.asking.now.level)
    c.args.parts.now c.loop-part.part-index c.part-item.result c.loop-part-test.true (sym c.part-item.is) all)

pub each_gives-returns-in-Later-clause-goes_on : goal.each_gives-returns-in-Later-clause-goes_on
each_gives-returns-in-Later-clause-goes_on t c = goes_more c.args.facts.now c.args.asking.now c.args.search.now c.loop-part.search c.gives.new.search c.loop-part.invariant.1 c.in_ok-gives.ensures.goes_on

pub each_gives-returns-in-Later-clause-found : goal.each_gives-returns-in-Later-clause-found
each_gives-returns-in-Later-clause-found t c = subst (Gave c.args.facts.now c.gives.new.search c.args.asking.now (form_of c.part-item.result)) c.in-Later.is c.in_ok-gives.ensures.found

pub each_gives-loop-part-preserved : goal.each_gives-loop-part-preserved
each_gives-loop-part-preserved t c = (
  c.in_ok-gives.ensures.goes_on.asking,
  grew_trans c.args.search.now c.loop-part.search c.gives.new.search c.loop-part.invariant.1 c.in_ok-gives.ensures.goes_on.grew,
  λ rest. c.loop-part.invariant.2
      (each_left c.args.facts.now c.args.asking.now.user.now c.args.asking.now.node.now (Counts c.args.facts.now c.args.asking.now) (Under c.args.facts.now c.args.asking.now.user.now c.args.asking.now.level)
      c.args.parts.now c.loop-part.part-index c.part-item.result c.loop-part-test.true (sym c.part-item.is)
      (subst (Gave c.args.facts.now c.gives.new.search c.args.asking.now (form_of c.part-item.result)) c.in-Yes.is c.in_ok-gives.ensures.found)
      rest),
)

pub each_gives-returns-clause-goes_on : goal.each_gives-returns-clause-goes_on
each_gives-returns-clause-goes_on t c = record { asking = c.loop-part.invariant.0; grew = c.loop-part.invariant.1 }

pub each_gives-returns-clause-found : goal.each_gives-returns-clause-found
each_gives-returns-clause-found t c = c.loop-part.invariant.2
    (each_none c.args.facts.now c.args.asking.now.user.now c.args.asking.now.node.now (Counts c.args.facts.now c.args.asking.now) (Under c.args.facts.now c.args.asking.now.user.now c.args.asking.now.level)
    c.args.parts.now c.loop-part.part-index (omega (arith, c.loop-part-test.false)))

pub some_gives-loop-part-init : goal.some_gives-loop-part-init
some_gives-loop-part-init t c = (c.requires.asking, grew_refl c.args.search.now, λ e w g h. h, λ e. absurd (false≢true e))

pub some_gives-returns-in-Yes-clause-goes_on : goal.some_gives-returns-in-Yes-clause-goes_on
some_gives-returns-in-Yes-clause-goes_on t c = goes_more c.args.facts.now c.args.asking.now c.args.search.now c.loop-part.search c.gives.new.search c.loop-part.invariant.1 c.in_ok-gives.ensures.goes_on

pub some_gives-returns-in-Yes-clause-found : goal.some_gives-returns-in-Yes-clause-found
some_gives-returns-in-Yes-clause-found t c =
    some_at c.args.facts.now c.args.asking.now.user.now c.args.asking.now.node.now (Counts c.args.facts.now c.args.asking.now) (Under c.args.facts.now c.args.asking.now.user.now c.args.asking.now.level)
    c.args.parts.now c.loop-part.part-index c.part-item.result c.loop-part-test.true (sym c.part-item.is)
    (subst (Gave c.args.facts.now c.gives.new.search c.args.asking.now (form_of c.part-item.result)) c.in-Yes.is c.in_ok-gives.ensures.found)

pub some_gives-loop-part-preserved : goal.some_gives-loop-part-preserved
some_gives-loop-part-preserved t c = (
  c.in_ok-gives.ensures.goes_on.asking,
  grew_trans c.args.search.now c.loop-part.search c.gives.new.search c.loop-part.invariant.1 c.in_ok-gives.ensures.goes_on.grew,
  elim c.match-branch-2.branch [
    | some_gives-in-No w ↦ λ e. some_more c.args.facts.now c.args.asking.now c.loop-part.search c.gives.new.search c.args.parts.now c.loop-part.part-index c.part-item.result
        c.in_ok-gives.ensures.goes_on.grew c.loop-part-test.true c.part-item.is (c.loop-part.invariant.2 (sym w.later-is ∙ e))
        (subst (Gave c.args.facts.now c.gives.new.search c.args.asking.now (form_of c.part-item.result)) w.in-No.is c.in_ok-gives.ensures.found)
    | some_gives-in-Later w ↦ λ e. cc
  ],
  elim c.match-branch-2.branch [
    | some_gives-in-No w ↦ λ e. unfinished_grows c.loop-part.search c.gives.new.search c.args.asking.now.level c.in_ok-gives.ensures.goes_on.grew (c.loop-part.invariant.3 (sym w.later-is ∙ e))
    | some_gives-in-Later w ↦ λ e. subst (Gave c.args.facts.now c.gives.new.search c.args.asking.now (form_of c.part-item.result)) w.in-Later.is c.in_ok-gives.ensures.found
  ],
)

pub some_gives-returns-clause-goes_on : goal.some_gives-returns-clause-goes_on
some_gives-returns-clause-goes_on t c = record { asking = c.loop-part.invariant.0; grew = c.loop-part.invariant.1 }

pub some_gives-returns-clause-found : goal.some_gives-returns-clause-found
some_gives-returns-clause-found t c =
    subst (Gave c.args.facts.now c.loop-part.search c.args.asking.now (Union (rewrite_forms c.args.parts.now))) (sym c.no_or_later.ensures)
    (union_found c.args.facts.now c.args.asking.now c.loop-part.search c.args.parts.now c.loop-part.later c.loop-part.part-index (omega (arith, c.loop-part-test.false)) c.loop-part.invariant.2 c.loop-part.invariant.3)

pub gives-returns-in_ok-found-in-Yes-clause-goes_on : goal.gives-returns-in_ok-found-in-Yes-clause-goes_on
gives-returns-in_ok-found-in-Yes-clause-goes_on t c = goes_more c.args.facts.now c.args.asking.now c.args.search.now c.gives.new.search c.without.new.search c.in_ok-gives-in-Exclusion.ensures.goes_on.grew c.in_ok-found-in-Yes.ensures.goes_on

pub without-gives-requires : goal.without-gives-requires
without-gives-requires t c = (
  search (rules, the_lemmas),
  asking_subtracted c.args.facts.now c.args.asking.now c.args.search.now c.subtracted-subtracted.result c.subtracted-subtracted.ensures c.requires.asking,
)

pub without-returns-in_ok-found-in-Exclusion-clause-goes_on : goal.without-returns-in_ok-found-in-Exclusion-clause-goes_on
without-returns-in_ok-found-in-Exclusion-clause-goes_on t c = record {
  asking = asking_back c.args.facts.now c.args.asking.now c.gives.new.search c.subtracted-subtracted.result c.subtracted-subtracted.ensures c.in_ok-found-in-Exclusion.ensures.goes_on.asking;
  grew = c.in_ok-found-in-Exclusion.ensures.goes_on.grew;
}

pub without-returns-in_ok-found-in-Exclusion-clause-found : goal.without-returns-in_ok-found-in-Exclusion-clause-found
without-returns-in_ok-found-in-Exclusion-clause-found t c =
    let form : form_of c.args.rewrite.now ≡ Exclusion (form_of c.in-Exclusion.field-0.value) (form_of c.deref.result.now) = search (rules, the_lemmas) in
    subst (Gave c.args.facts.now c.gives.new.search c.args.asking.now (form_of c.args.rewrite.now)) (sym c.opposite.ensures)
    (without_gave c.args.facts.now c.args.asking.now c.gives.new.search (form_of c.args.rewrite.now) (form_of c.in-Exclusion.field-0.value) (form_of c.deref.result.now) c.in_ok-found-in-Exclusion.found c.subtracted-subtracted.result
    form c.subtracted-subtracted.ensures c.requires.base c.in_ok-found-in-Exclusion.ensures.found)
