use Rattle.std.proofs.Common.{◌≡◌, ◌++◌, List, [], ap, sym, subst, ◌∙◌, append-nil}
use Rattle.std.specs.Prelude.{Bool}
use Rattle.names.specs.declared.tuple.Tuple.{Tuple}
use Rattle.versions.specs.declared.version.Version.{Version}
use Rattle.versions.specs.Versions.{stands}
use Rattle.versions.specs.Texts.{Texts, entries_of, AreSpelled}
use Rattle.versions.proofs.Decoding.{sorted_view}
use Rattle.versions.specs.Ranges.{AllRising}
use Rattle.versions.proofs.Rising.{all_rising}
use Rattle.versions.proofs.Picking.{pick, picked_is}
use Rattle.versions.proofs.version_map.VersionMap.tuples_at.Goals as goal

pub loop-text-init : goal.loop-text-init
loop-text-init c =
    let es : Texts = c.texts-texts.result.now in
    let f : Tuple × List Version → Bool = λ e. stands e.1 c.args.rev in
    let same : es ≡ c.into_iter-text-iterator.result = sym (c.into_iter-text-iterator.ensures.into_iter_gives ∙ c.iter-text-items.ensures.all) in
    record {
      spelled = subst AreSpelled same c.texts-texts.ensures.spelled;
      rising = subst AllRising same (all_rising es c.texts-texts.ensures.spelled c.iter-text-items.ensures.ordered c.args.self.now c.texts-texts.ensures.entries c.requires);
      all =
          ap (λ (ts : List Tuple). ts ++ pick f (entries_of c.into_iter-text-iterator.result)) c.new-found.ensures.items
          ∙ ap (λ (us : Texts). pick f (entries_of us)) (sym same)
          ∙ ap (pick f) c.texts-texts.ensures.entries;
    }

pub returns-in_err-push_tuple-clause-ordered : goal.returns-in_err-push_tuple-clause-ordered
returns-in_err-push_tuple-clause-ordered c = sorted_view c.texts-texts.result.now c.args.self.now c.texts-texts.ensures.entries c.texts-texts.ensures.spelled c.iter-text-items.ensures.ordered

pub returns-clause-ordered : goal.returns-clause-ordered
returns-clause-ordered c = sorted_view c.texts-texts.result.now c.args.self.now c.texts-texts.ensures.entries c.texts-texts.ensures.spelled c.iter-text-items.ensures.ordered

pub returns-clause-found : goal.returns-clause-found
returns-clause-found c =
    let f : Tuple × List Version → Bool = λ e. stands e.1 c.args.rev in
    let none : c.loop-text.text-iterator ≡ [] = c.in-None.ensures.steps.0 in
    sym (append-nil c.loop-text.found.items)
    ∙ ap (λ (es : Texts). c.loop-text.found.items ++ pick f (entries_of es)) (sym none)
    ∙ c.loop-text.invariant.all
    ∙ picked_is (λ ms. stands ms c.args.rev) c.args.self.now (sorted_view c.texts-texts.result.now c.args.self.now c.texts-texts.ensures.entries c.texts-texts.ensures.spelled c.iter-text-items.ensures.ordered)
