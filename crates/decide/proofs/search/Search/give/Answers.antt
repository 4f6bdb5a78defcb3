use Rattle.std.proofs.Common.{◌≡◌, true, set, refl, ap, ◌∙◌, sym, subst, ⊎_elim, arith, inl, inr}
use Rattle.std.specs.Prelude.{Contains}
use Rattle.std.proofs.lemmas.List.{length-set, set-set}
use Rattle.decide.specs.declared.search.Opened.{Opened}
use Rattle.decide.specs.declared.search.Search.{Search}
use Rattle.decide.specs.inside.Searches.{IsStacked}
use Rattle.decide.proofs.Elements.{Holds, holds_same, holds_stored}
use Rattle.decide.proofs.Giving.{Gave, gave_numbers, gave_running, gave_sures, as_long, stored_before, stored_after}
use Rattle.decide.proofs.search.Search.give.Goals as goal
use Rattle.decide.proofs.search.Search.give.Goals.{After-drop-waiting-inside-2}

pub wake_all-requires : goal.wake_all-requires
wake_all-requires c w asked =
    let xs = c.args.self.now.opened.items in
    let number = c.args.number in
    let e = c.index_mut.result.now in
    let b : Opened = record { node = e.node; level = e.level; place = e.place; sure = e.sure; waiting = record { items = c.replace-waiting.new.dest }; own = e.own; parents = e.parents } in
    let stood : Holds xs number e = (c.requires.number, sym c.index_mut.ensures.value) in
    let waits : Contains e.waiting.items w = subst (λ xs. Contains xs w) c.replace-waiting.ensures.value asked in
    let there = c.requires.there w number e stood waits in
    let lt = there.0 in (
      omega (arith, lt, length-set xs number b),
      λ h standing.
          let (g, old, level) = stored_before xs number e b stood refl w h standing in
          let less = there.1 g old in
          omega (arith, less, level),
    )

abbrev before : After-drop-waiting-inside-2 → Opened
before c = c.index_mut.result.now

abbrev emptied : After-drop-waiting-inside-2 → Opened
emptied c = record { node = (before c).node; level = (before c).level; place = (before c).place; sure = (before c).sure; waiting = record { items = c.replace-waiting.new.dest }; own = (before c).own; parents = (before c).parents }

abbrev after : After-drop-waiting-inside-2 → Opened
after c = record { node = c.index_mut-2.result.now.node; level = c.index_mut-2.result.now.level; place = c.index_mut-2.result.now.place; sure = true; waiting = c.index_mut-2.result.now.waiting; own = c.index_mut-2.result.now.own; parents = c.index_mut-2.result.now.parents }

abbrev given : After-drop-waiting-inside-2 → Search
given c = record {
  alloc = c.wake_all.new.self.alloc;
  opened = Rattle.std.specs.Vec.with_item c.wake_all.new.self.opened c.args.number (after c);
  numbers = c.wake_all.new.self.numbers;
  likely = c.wake_all.new.self.likely;
  stacks = c.wake_all.new.self.stacks;
  frames = c.wake_all.new.self.frames;
}

stood : (c : After-drop-waiting-inside-2) → Holds c.args.self.now.opened.items c.args.number (before c)
stood c = (c.requires.number, sym c.index_mut.ensures.value)

same : (c : After-drop-waiting-inside-2) → c.index_mut-2.result.now ≡ emptied c
same c =
    let xs = c.args.self.now.opened.items in
    let stored = holds_stored xs c.args.number (emptied c) c.requires.number in
    let now : Holds c.wake_all.new.self.opened.items c.args.number (emptied c) = subst (λ ys. Holds ys c.args.number (emptied c)) (sym c.in_ok-wake_all.ensures.opened) stored in
    holds_same c.wake_all.new.self.opened.items c.args.number c.index_mut-2.result.now (emptied c) (now.0, sym c.index_mut-2.ensures.value) now

waited : (c : After-drop-waiting-inside-2) → c.replace-waiting.result ≡ (before c).waiting.items
waited c = c.replace-waiting.ensures.value

gave : (c : After-drop-waiting-inside-2) → Gave c.args.self.now (given c) c.args.number (before c) (after c)
gave c =
    let xs = c.args.self.now.opened.items in
    let wakes = c.in_ok-wake_all.ensures.wakes in
    record {
      at = stood c;
      opened = ap (λ ys. set ys c.args.number (after c)) c.in_ok-wake_all.ensures.opened ∙ set-set xs c.args.number (emptied c) (after c);
      node = ap (λ (x : Opened). x.node) (same c);
      level = ap (λ (x : Opened). x.level) (same c);
      place = ap (λ (x : Opened). x.place) (same c);
      sure = refl;
      alone = ap (λ (x : Opened). x.waiting.items) (same c) ∙ c.replace-waiting.ensures.after ∙ c.none.ensures;
      own = ap (λ (x : Opened). x.own) (same c);
      parents = ap (λ (x : Opened). x.parents) (same c);
      long = wakes.long;
      stays = wakes.stays;
      woken = λ w g waits standing.
          let (h, now, level) = stored_after xs c.args.number (before c) (emptied c) (stood c) refl w g standing in
          subst (λ k. IsStacked (given c) k w) level (wakes.woken w h (subst (λ ys. Contains ys w) (sym (waited c)) waits) now);
      only = λ l j on. ⊎_elim inl
          (λ (woken, level). inr (
            subst (λ ys. Contains ys j) (waited c) woken,
            λ g standing. let (h, now, same) = stored_after xs c.args.number (before c) (emptied c) (stood c) refl j g standing in sym same ∙ level h now,
          ))
          (wakes.only l j on);
      falling = wakes.falling;
    }

pub returns-clause-numbers : goal.returns-clause-numbers
returns-clause-numbers c i k n = gave_numbers c.args.self.now (given c) c.args.number (before c) (after c) (gave c) i k n

pub returns-clause-running : goal.returns-clause-running
returns-clause-running c S u has = gave_running c.args.self.now (given c) c.args.number (before c) (after c) (gave c) S u (has (before c) (stood c))

pub returns-clause-long : goal.returns-clause-long
returns-clause-long c = as_long c.args.self.now (given c) c.args.number (before c) (after c) (gave c)

pub returns-clause-sures : goal.returns-clause-sures
returns-clause-sures c e at unsure = gave_sures c.args.self.now (given c) c.args.number (before c) (after c) (gave c) e at unsure
