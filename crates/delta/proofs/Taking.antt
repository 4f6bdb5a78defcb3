-- A layer that takes a commit.
use Rattle.std.proofs.Common.{ℕ, ◌+◌, ◌≡◌, ◌||◌, List, [], sym, subst, arith}
use Rattle.std.specs.Prelude.{Contains}
use Rattle.names.specs.declared.node.Node.{Node}
use Rattle.names.specs.declared.tuple.Tuple.{Tuple}
use Rattle.names.specs.declared.commit.Event.{Event}
use Rattle.meaning.specs.Config.{Configured}
use Rattle.meaning.specs.Snap.{Snap}
use Rattle.least_sets.specs.World.{has}
use Rattle.least_sets.specs.Groups.{GroupsAreWalks}
use Rattle.region.specs.Tables.{Rows}
use Rattle.region.specs.Refreshed.{IsRefreshed}
use Rattle.facts.specs.Numbers.{AreNumbersOf}
use Rattle.delta.specs.declared.layer.Layer.{Layer}
use Rattle.delta.specs.Telling.{IsMore, MayTell}
use Rattle.delta.specs.Noted.{IsNoted}
use Rattle.delta.specs.Layers.{IsAbove, IsLayerOf, IsNext}
use Rattle.delta.specs.Asked.{WereAskedFew}
use Rattle.delta.specs.inside.Changing.{AreOfEvents}
use Rattle.delta.specs.inside.Growing.{more_both}
use Rattle.delta.specs.inside.Handing.{WereOf}
use Rattle.delta.proofs.Taken.{now_kept, now_roots, taken, tuples_of}
use Rattle.delta.proofs.Asked.{asked_once, asked_few}
use Rattle.delta.proofs.Handed.{were_few}

above_in : (before : Layer) (snaps : ℕ → Snap) (nodes : List Node) (ids : List ℕ) (Is : Tuple → Type 0) → IsLayerOf before snaps → AreNumbersOf nodes ids (IsAbove before.config Is)
    → AreNumbersOf nodes ids (IsAbove (snaps before.cursor).config Is)
above_in before snaps nodes ids Is is above = subst (λ (c : Configured). AreNumbersOf nodes ids (IsAbove c Is)) (sym (is.tells before.cursor is.order (omega arith)).config) above

-- Numbers were given to the groups above the events, and then to those that were asked.
module _ (before layer : Layer) (snaps : ℕ → Snap) (events : List Event) (T : Snap) (nodes1 : List Node) (turned changed asked : List ℕ)
    (first : IsMore before.nodes nodes1) (then : IsMore nodes1 layer.nodes)
    (above : AreNumbersOf nodes1 turned (IsAbove before.config (Contains (tuples_of events))))
    (are : AreOfEvents nodes1 events changed)
    (all : (i : ℕ) → has layer.roots i ≡ (has before.roots i || has turned i))
    (r : IsRefreshed (MayTell T layer.nodes) before.sets.rows layer.sets.rows layer.roots turned changed [] asked)
    (is : IsLayerOf before snaps) (next : IsNext snaps before.cursor events T) where
  abbrev above_then : AreNumbersOf nodes1 turned (IsAbove (snaps before.cursor).config (Contains (tuples_of events)))
  above_then = above_in before snaps nodes1 turned (Contains (tuples_of events)) is above

  pub took : GroupsAreWalks → layer.config ≡ before.config → layer.base ≡ before.base → layer.cursor ≡ before.cursor + 1
      → IsNoted layer.cursor before.sets.rows layer.sets.rows before.earlier.items layer.earlier.items → IsLayerOf layer snaps
  took law config base cursor noted = taken law before layer snaps events T is next config base cursor (more_both before.nodes nodes1 layer.nodes first then)
      (now_kept (snaps before.cursor) T events next.after before.nodes nodes1 layer.nodes before.roots turned layer.roots changed asked before.sets.rows layer.sets.rows first then above_then are all is.kept is.roots r)
      (now_roots (snaps before.cursor) T events next.after before.nodes nodes1 layer.nodes before.roots turned layer.roots changed asked before.sets.rows layer.sets.rows first then above_then are all is.kept is.roots r)
      noted

-- The same of who was asked, with the numbers, the roots and the rows that are kept then.
pub asked_for : (before : Layer) (snaps : ℕ → Snap) (events : List Event) (T : Snap) (nodes1 nodes' : List Node) (turned roots' changed counted : List ℕ) (new : Rows)
    → IsMore before.nodes nodes1 → IsMore nodes1 nodes'
    → AreNumbersOf nodes1 turned (IsAbove before.config (Contains (tuples_of events)))
    → AreOfEvents nodes1 events changed
    → ((i : ℕ) → has roots' i ≡ (has before.roots i || has turned i))
    → IsRefreshed (MayTell T nodes') before.sets.rows new roots' turned changed [] counted
    → IsLayerOf before snaps → IsNext snaps before.cursor events T
    → (old_asked new_asked : List Node) → WereOf nodes' before.sets.rows changed [] counted old_asked new_asked → WereAskedFew (snaps before.cursor) T events old_asked new_asked
asked_for before snaps events T nodes1 nodes' turned roots' changed counted new first then above are all r is next old_asked new_asked were =
    let S = snaps before.cursor in
    let distinct = then.distinct (first.distinct is.distinct) in
    let above_then = above_in before snaps nodes1 turned (Contains (tuples_of events)) is above in
    were_few S T events nodes' before.sets.rows changed counted old_asked new_asked distinct
    (asked_once S T events next.after before.nodes nodes1 nodes' before.roots turned roots' changed counted before.sets.rows new first then distinct above_then are all is.kept is.roots r)
    (asked_few S T events next.after before.nodes nodes1 nodes' before.roots turned roots' changed counted before.sets.rows new first then distinct above_then are all is.kept is.roots r)
    were
