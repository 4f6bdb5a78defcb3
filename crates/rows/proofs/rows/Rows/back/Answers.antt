use Rattle.std.proofs.Common.{◌≡◌, ℕ, List, [], ◌∷◌, ◌++◌, ◌+◌, ◌-◌, ap, sym, subst, ◌∙◌, arith, refl}
use Rattle.names.specs.declared.tuple.Tuple.{Tuple}
use Rattle.names.specs.declared.commit.Event.{Event}
use Rattle.names.specs.declared.commit.Commit.{Commit}
use Rattle.names.specs.declared.commit.Commit.TheVariants as kinds
use Rattle.meaning.specs.TupleSet as set
use Rattle.meaning.specs.Config.{Configured}
use Rattle.meaning.specs.Snap.{Snap}
use Rattle.meaning.specs.History.{History, replay, after_commits, puts_in}
use Rattle.versions.specs.declared.version.Version.{Version}
use Rattle.versions.specs.Versions.{versions_after, base_versions, AreVersions, GoesOn, Changes}
use Rattle.versions.proofs.Settling.{after_push}
use Rattle.rows.specs.declared.config_at.ConfigAt.{ConfigAt}
use Rattle.rows.specs.declared.loaded.Counts.{Counts}
use Rattle.rows.specs.Retained.{Retained, newest, with_commit, without_newest}
use Rattle.rows.specs.Representation.{as_retained, IsConsistent}
use Rattle.rows.proofs.Committing.{consistent_back, consistent_back_config, consistent_as, as_retained_is, versions_before, before_these, tuples_within, rows_push, last_off}
use Rattle.rows.proofs.rows.Rows.back.Goals as goal
use Rattle.rows.proofs.rows.Rows.back.Goals.{After-undo-change}

-- what is left, the events that are taken off, and the versions without them
abbrev left : After-undo-change → Retained
left c = as_retained c.self.inside.number c.self.inside.floor c.self.inside.config c.self.inside.tuples c.pop.new.self.items

abbrev events : After-undo-change → List Event
events c = c.in-Some-events.events.now

abbrev before : After-undo-change → Tuple → List Version
before c q = base_versions (set.contains (left c).base.tuples q) ++ versions_after (left c).floor (left c).commits q

split : (c : After-undo-change) → c.self.inside.commits.items ≡ c.pop.new.self.items ++ kinds.Tuples (events c) ∷ []
split c = c.in-Some.ensures.items ∙ ap (λ (x : Commit Configured). c.pop.new.self.items ++ x ∷ []) c.in-Some-events.ensures.some

old : (c : After-undo-change) → IsConsistent (with_commit (left c) (kinds.Tuples (events c))) c.self.inside.tuples c.self.inside.configs.items c.self.inside.counts
old c =
    let s = c.self.inside in
    subst (λ (h : History). IsConsistent (as_retained s.number s.floor s.config s.tuples h) s.tuples s.configs.items s.counts) (split c) c.self.invariant

goes : (c : After-undo-change) → GoesOn (before c) c.self.inside.tuples (newest (left c) + 1) (events c)
goes c = versions_before (left c) c.self.inside.tuples (kinds.Tuples (events c)) (old c).versions

versions : (c : After-undo-change) → AreVersions c.undo-change.new.self (left c).base.tuples (left c).floor (left c).commits
versions c = c.undo-change.ensures.versions (before c) (newest (left c) + 1) (goes c)

changes : (c : After-undo-change) → Changes (before c) (events c) c.undo-change.result
changes c = c.undo-change.ensures.change (before c) (newest (left c) + 1) (goes c)

-- with the counts that are left
abbrev counts : After-undo-change → ℕ → Counts
counts c puts = record { rows = c.self.inside.counts.rows - puts; tuples = c.self.inside.counts.tuples + c.undo-change.result.gone - c.undo-change.result.come }

consistent : (c : After-undo-change) (puts : ℕ) → puts ≡ puts_in (events c) → IsConsistent (left c) c.undo-change.new.self c.self.inside.configs.items (counts c puts)
consistent c puts is =
    let s = c.self.inside in
    consistent_back (left c) s.tuples c.undo-change.new.self s.configs.items s.counts (counts c puts) (events c) c.undo-change.result
    (old c) (versions c) (changes c) (ap (λ (n : ℕ). s.counts.rows - n) is) refl

pub puts_in-requires : goal.puts_in-requires
puts_in-requires x =
    let c = (goal.at.puts_in-requires x).After-undo-change in
    let few = (old c).few in
    let more = rows_push c.pop.new.self.items (kinds.Tuples (events c)) in
    omega (arith, few, more)

pub overflow_sub-self : goal.overflow_sub-self
overflow_sub-self x =
    let c = (goal.at.overflow_sub-self x).After-undo-change in
    let rows = (old c).rows in
    let more = rows_push c.pop.new.self.items (kinds.Tuples (events c)) in
    let puts = x.puts_in.ensures.puts in
    omega (arith, rows, more, puts)

pub overflow_add-self : goal.overflow_add-self
overflow_add-self x =
    let c = (goal.at.overflow_add-self x).After-undo-change in
    let few = (old c).few in
    let tuples = (old c).tuples in
    let within = tuples_within (left c).base (c.pop.new.self.items ++ kinds.Tuples (events c) ∷ []) in
    let gone = x.undo-change.ensures.gone in
    let in_memory = x.puts_in.ensures.in_memory in
    omega (arith, within, tuples, few, gone, in_memory)

pub overflow_sub-self-in-Some-events : goal.overflow_sub-self-in-Some-events
overflow_sub-self-in-Some-events x =
    let c = (goal.at.overflow_sub-self-in-Some-events x).After-undo-change in
    let h : History = c.pop.new.self.items in
    let tuples : c.self.inside.counts.tuples ≡ set.len (replay (after_commits (left c).base h).tuples (events c)) = (old c).tuples ∙ ap (λ (s : Snap). set.len s.tuples) (after_push (left c).base h (kinds.Tuples (events c))) in
    let fewer = changes c (after_commits (left c).base h).tuples (before_these (left c)) in
    omega (arith, fewer, tuples)

pub invariant_of-self-in-Some-events : goal.invariant_of-self-in-Some-events
invariant_of-self-in-Some-events x =
    let c = (goal.at.invariant_of-self-in-Some-events x).After-undo-change in
    let s = c.self.inside in
    let puts = x.puts_in.result in
    consistent_as s.number s.floor s.config c.undo-change.new.self (left c).base.tuples (left c).commits s.configs.items (counts c puts) (consistent c puts x.puts_in.ensures.puts)

pub returns-in-Some-events : goal.returns-in-Some-events
returns-in-Some-events x =
    let c = (goal.at.returns-in-Some-events x).After-undo-change in
    let s = c.self.inside in
    as_retained_is s.number s.floor s.config c.undo-change.new.self (left c).base.tuples (left c).commits (versions c)
    ∙ ap (λ (h : History). record { number = s.number; floor = s.floor; base = (left c).base; commits = h }) (sym (last_off (left c).commits (kinds.Tuples (events c))))
    ∙ ap (λ (h : History). without_newest (as_retained s.number s.floor s.config s.tuples h)) (sym (split c))
    ∙ ap without_newest c.self.view_is

pub invariant_of-self-in-None : goal.invariant_of-self-in-None
invariant_of-self-in-None c =
    let s = c.self.inside in
    let h : History = c.pop.new.self.items in
    let r : Retained = as_retained s.number s.floor s.config s.tuples h in
    let config : Configured = c.in-None.ensures.none.0 in
    let whole : s.commits.items ≡ h ++ kinds.Config config ∷ [] = c.in-Some.ensures.items ∙ ap (λ (x : Commit Configured). h ++ x ∷ []) c.in-None.ensures.none.1 in
    subst (λ (ds : List ConfigAt). IsConsistent r s.tuples ds s.counts) (sym c.drop_config.ensures)
    (consistent_back_config r s.tuples s.configs.items s.counts config
    (subst (λ (x : History). IsConsistent (as_retained s.number s.floor s.config s.tuples x) s.tuples s.configs.items s.counts) whole c.self.invariant))
