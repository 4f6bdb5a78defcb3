use Rattle.std.proofs.Common.{◌≡◌, ℕ, ◌∷◌, List, [], ap, sym, ◌∙◌}
use Rattle.std.specs.Prelude.{Bool, true, Some, not}
use Rattle.std.specs.List.{find}
use Rattle.names.specs.declared.tuple.Tuple.{Tuple}
use Rattle.meaning.specs.Admits.{admits}
use Rattle.versions.specs.declared.version.Version.{Version}
use Rattle.tuple_keys.specs.Spelled.{tuple_of}
use Rattle.versions.specs.Versions.{is_there}
use Rattle.versions.specs.Texts.{Texts, entry_of, entries_of}
use Rattle.versions.proofs.Decoding.{sorted_view}
use Rattle.versions.proofs.Picking.{pick, picked_is, find_here}
use Rattle.versions.proofs.version_map.VersionMap.first_refused.Goals as goal

pub returns-then-not-allows-clause-ordered : goal.returns-then-not-allows-clause-ordered
returns-then-not-allows-clause-ordered c = sorted_view c.texts-texts.result.now c.args.self.now c.texts-texts.ensures.entries c.texts-texts.ensures.spelled c.iter-text-items.ensures.ordered

pub returns-clause-ordered : goal.returns-clause-ordered
returns-clause-ordered c = sorted_view c.texts-texts.result.now c.args.self.now c.texts-texts.ensures.entries c.texts-texts.ensures.spelled c.iter-text-items.ensures.ordered

pub returns-then-not-allows-clause-found : goal.returns-then-not-allows-clause-found
returns-then-not-allows-clause-found c =
    let it : Texts = c.loop-text.text-iterator in
    let rest : Texts = c.next.new.self in
    let e : List ℕ × List Version = (c.in-Some.text.now, c.in-Some.versions.now) in
    let steps : entries_of it ≡ entry_of e ∷ entries_of rest = ap entries_of c.in-Some.ensures.steps in
    let f : Tuple × List Version → Bool = λ x. is_there x.1 in
    let g : Tuple → Bool = λ t. not (admits c.args.config.now t) in
    let refused : g (tuple_of e.0) ≡ true = ap g (sym (c.tuple-tuple.ensures ∙ c.of.ensures)) ∙ ap not (sym c.allows.ensures ∙ c.if-not-allows.true) in
    ap (λ (t : Tuple). Some t) (c.tuple-tuple.ensures ∙ c.of.ensures)
    ∙ find_here f (entries_of it) (entries_of rest) (entry_of e) steps g (sym c.is_there.ensures ∙ c.if-is_there.true) refused
    ∙ c.loop-text.invariant.decides
    ∙ ap (λ (ts : List Tuple). find g ts) (picked_is (λ ms. is_there ms) c.args.self.now (sorted_view c.texts-texts.result.now c.args.self.now c.texts-texts.ensures.entries c.texts-texts.ensures.spelled c.iter-text-items.ensures.ordered))

pub returns-clause-found : goal.returns-clause-found
returns-clause-found c =
    let f : Tuple × List Version → Bool = λ x. is_there x.1 in
    let g : Tuple → Bool = λ t. not (admits c.args.config.now t) in
    let none : c.loop-text.text-iterator ≡ [] = c.in-None.ensures.steps.0 in
    ap (λ (es : Texts). find g (pick f (entries_of es))) (sym none)
    ∙ c.loop-text.invariant.decides
    ∙ ap (λ (ts : List Tuple). find g ts) (picked_is (λ ms. is_there ms) c.args.self.now (sorted_view c.texts-texts.result.now c.args.self.now c.texts-texts.ensures.entries c.texts-texts.ensures.spelled c.iter-text-items.ensures.ordered))
