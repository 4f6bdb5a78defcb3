use Rattle.std.proofs.Common.{◌≡◌, ◌++◌, ◌∷◌, [], ap, refl, sym, ◌∙◌, subst}
use Rattle.std.proofs.lemmas.List.Elements.{Contains-append_left, Contains-push}
use Rattle.std.specs.Prelude.{Contains}
use Rattle.decide.specs.declared.search.Opened.{Opened}
use Rattle.decide.specs.inside.Searches.{IsMore}
use Rattle.decide.proofs.Elements.{Holds, holds_same, holds_stored}
use Rattle.decide.proofs.SearchLemmas.{grew_refl}
use Rattle.decide.proofs.Replacing.{replaced_grew, waiting_running}
use Rattle.decide.proofs.search.Search.wait.Goals as goal
use Rattle.decide.proofs.search.Search.wait.Goals.{In_ok-add}

abbrev before : In_ok-add → Opened
before c = c.index_mut.result.now

abbrev after : In_ok-add → Opened
after c = record { node = (before c).node; level = (before c).level; place = (before c).place; sure = (before c).sure; waiting = record { items = c.add.new.self }; own = (before c).own; parents = (before c).parents }

stood : (c : In_ok-add) → Holds c.args.self.now.opened.items c.args.number (before c)
stood c = (c.requires, sym c.index_mut.ensures.value)

pushed : (c : In_ok-add) → (after c).waiting.items ≡ (before c).waiting.items ++ c.args.asker ∷ []
pushed c = c.in_ok-add.ensures

more : (c : In_ok-add) → IsMore (before c) (after c)
more c = record {
  node = refl;
  level = refl;
  place = refl;
  sure = refl;
  waiting = λ i w. subst (λ xs. Contains xs i) (sym (pushed c)) (Contains-append_left (before c).waiting.items (c.args.asker ∷ []) i w);
}

pub returns-clause-grew : goal.returns-clause-grew
returns-clause-grew c = replaced_grew c.args.self.now _ c.args.number (before c) (after c) (stood c) (more c) refl refl refl

pub returns-clause-waits : goal.returns-clause-waits
returns-clause-waits c e at unsure =
    let same : e ≡ before c = holds_same c.args.self.now.opened.items c.args.number e (before c) at (stood c) in
    let here = holds_stored c.args.self.now.opened.items c.args.number (after c) c.requires in
    let last = Contains-push (before c).waiting.items c.args.asker in (
      c.args.number,
      after c,
      here,
      sym (ap (λ (x : Opened). x.node) same),
      sym (ap (λ (x : Opened). x.sure) same) ∙ unsure,
      subst (λ xs. Contains xs c.args.asker) (sym (pushed c)) last,
    )

pub returns-clause-running : goal.returns-clause-running
returns-clause-running c S u but there =
    waiting_running c.args.self.now _ c.args.number (before c) (after c) (stood c) (more c) refl refl refl refl refl c.args.asker (pushed c) there S u but

pub returns-then-contains-clause-grew : goal.returns-then-contains-clause-grew
returns-then-contains-clause-grew c = grew_refl c.args.self.now

pub returns-then-contains-clause-waits : goal.returns-then-contains-clause-waits
returns-then-contains-clause-waits c e at unsure =
    let same : c.index.result.now ≡ e = holds_same c.args.self.now.opened.items c.args.number c.index.result.now e (c.requires, sym c.index.ensures) at in
    (c.args.number, e, at, refl, unsure, subst (λ (x : Opened). Contains x.waiting.items c.args.asker) same (c.contains.ensures c.if-contains.true))
