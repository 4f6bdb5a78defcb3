use Rattle.std.proofs.Common.{ℕ, ◌∙◌, sym, ap, subst}
use Rattle.std.specs.Prelude.{List, IfOk}
use Rattle.names.specs.declared.commit.Commit.TheVariants.{Tuples}
use Rattle.names.specs.declared.commit.Event.{Event}
use Rattle.meaning.specs.Snap.{Snap}
use Rattle.delta.specs.Layers.{IsNext}
use Rattle.group_index.specs.Indices.{IsGroupIndexOf, cursor_of}
use Rattle.comparisons.proofs.Moving.{after_config, after_events}
use Rattle.comparisons.proofs.groups.after.Goals as goal

pub returns-in_ok-events-in-Some : goal.returns-in_ok-events-in-Some
returns-in_ok-events-in-Some c =
    let are = c.in-Some.ensures.some ∙ ap (λ (events : List Event). Tuples events) (sym (c.deref.ensures.value ∙ c.in_ok-events-in-Some.ensures)) in
    let index = subst (λ (S : Snap). IfOk c.take.result (λ next. (snaps : ℕ → Snap) → IsGroupIndexOf c.args.index snaps → IsNext snaps (cursor_of c.args.index) c.deref.result.now S → IsGroupIndexOf next snaps))
    c.of-arcs.ensures.snap c.take.ensures.index in
    after_events c.args.index c.args.rev c.args.view.now c.args.commit.now c.take.result c.deref.result.now are c.requires index c.take.ensures.base c.take.ensures.cursor

pub returns-in-None : goal.returns-in-None
returns-in-None c =
    after_config c.args.index c.args.rev c.args.view.now c.args.commit.now c.restart.result c.requires c.restart.ensures.index c.restart.ensures.base c.restart.ensures.cursor
