use Rattle.std.proofs.Common.{◌≡◌, ℕ, List, [], ◌∷◌, ◌++◌, ◌+◌, ◌-◌, length, take, ap, ap₂, sym, subst, ◌∙◌, arith, refl}
use Rattle.names.specs.declared.commit.Event.{Event}
use Rattle.names.specs.declared.commit.Commit.{Commit}
use Rattle.names.specs.declared.commit.Commit.TheVariants as kinds
use Rattle.meaning.specs.TupleSet as set
use Rattle.meaning.specs.Config.{Configured}
use Rattle.meaning.specs.History.{History, replay, after_commits, puts_in}
use Rattle.versions.specs.declared.change.Change.{Change}
use Rattle.versions.specs.Versions.{versions_at, GoesOn, Changes, HasSame}
use Rattle.rows.specs.declared.loaded.Counts.{Counts}
use Rattle.rows.specs.Retained.{Retained, newest, with_commit, HasRoom}
use Rattle.rows.specs.Representation.{as_retained, IsConsistent}
use Rattle.rows.proofs.Committing.{consistent_events, consistent_same, consistent_as, as_retained_is, newest_these, tuples_within, last_off}
use Rattle.rows.proofs.rows.Rows.absorb_events.Goals as goal
use Rattle.rows.proofs.rows.Rows.absorb_events.Goals.{After-put_all}

-- what was retained, and the events that come
abbrev old : After-put_all → Retained
old c = as_retained c.self.inside.number c.self.inside.floor c.self.inside.config c.self.inside.tuples c.self.inside.commits.items

abbrev events : After-put_all → List Event
events c = c.args.events.now

commits : (c : After-put_all) → c.push_commit.new.commits.items ≡ c.self.inside.commits.items ++ kinds.Tuples (events c) ∷ []
commits c = c.in_ok-push_commit.ensures.ok ∙ ap (λ (x : Commit Configured). c.self.inside.commits.items ++ x ∷ []) (c.in_ok-again.ensures ∙ c.requires.are)

-- with the events
abbrev counts : After-put_all → Change → ℕ → Counts
counts c change puts = record { rows = c.self.inside.counts.rows + puts; tuples = c.self.inside.counts.tuples + change.come - change.gone }

goes : (c : After-put_all) → GoesOn (versions_at c.self.inside.tuples) c.put_all.new.self (c.newest-rev.result + 1) (events c)
    → GoesOn (versions_at c.self.inside.tuples) c.put_all.new.self (newest (old c) + 1) (events c)
goes c on =
    let rev : c.newest-rev.result + 1 ≡ newest (old c) + 1 = ap (λ (n : ℕ). n + 1) (c.newest-rev.ensures.newest ∙ ap newest (sym c.self.view_is)) in
    subst (λ (n : ℕ). GoesOn (versions_at c.self.inside.tuples) c.put_all.new.self n (events c)) rev on

room : (c : After-put_all) → HasRoom (old c) (kinds.Tuples (events c))
room c = subst (λ (x : Commit Configured). HasRoom (old c) x) c.requires.are (subst (λ (r : Retained). HasRoom r c.args.commit.now) (sym c.self.view_is) c.requires.room)

consistent : (c : After-put_all) (change : Change) (puts : ℕ)
    → GoesOn (versions_at c.self.inside.tuples) c.put_all.new.self (c.newest-rev.result + 1) (events c)
    → Changes (versions_at c.self.inside.tuples) (events c) change → puts ≡ puts_in (events c)
    → IsConsistent (with_commit (old c) (kinds.Tuples (events c))) c.put_all.new.self c.self.inside.configs.items (counts c change puts)
consistent c change puts on are is =
    let s = c.self.inside in
    consistent_events (old c) s.tuples c.put_all.new.self s.configs.items s.counts (counts c change puts) (events c) change c.self.invariant (room c) (goes c on) are
    (ap (λ (n : ℕ). s.counts.rows + n) is) refl

-- where there was no memory
unchanged : (c : After-put_all) → HasSame c.self.inside.tuples c.put_all.new.self → IsConsistent (old c) c.put_all.new.self c.self.inside.configs.items c.self.inside.counts
unchanged c stays = consistent_same (old c) c.self.inside.tuples c.put_all.new.self c.self.inside.configs.items c.self.inside.counts stays c.self.invariant

left : (c : After-put_all) (h : History) → h ≡ take (length c.push_commit.new.commits.items - 1) c.push_commit.new.commits.items → h ≡ c.self.inside.commits.items
left c h is = is ∙ ap (λ (x : History). take (length x - 1) x) (commits c) ∙ last_off c.self.inside.commits.items (kinds.Tuples (events c))

pub overflow_add-self-in-Ok : goal.overflow_add-self-in-Ok
overflow_add-self-in-Ok x =
    let c = (goal.at.overflow_add-self-in-Ok x).After-put_all in
    let within = tuples_within (old c).base (old c).commits in
    let tuples = c.self.invariant.tuples in
    let few = c.self.invariant.few in
    let come = x.in-Ok.ensures.come in
    omega (arith, within, tuples, few, come)

pub overflow_sub-self : goal.overflow_sub-self
overflow_sub-self x =
    let c = (goal.at.overflow_sub-self x).After-put_all in
    let s = c.self.inside in
    let more : set.len (replay (after_commits (old c).base (old c).commits).tuples (events c)) + x.in-Ok.change.gone ≡ s.counts.tuples + x.in-Ok.change.come =
    x.in-Ok.ensures.change (after_commits (old c).base (old c).commits).tuples (newest_these (old c) s.tuples c.self.invariant.versions)
    ∙ ap (λ (n : ℕ). n + x.in-Ok.change.come) (sym c.self.invariant.tuples) in
    omega (arith, more)

pub invariant_of-self-in-Ok : goal.invariant_of-self-in-Ok
invariant_of-self-in-Ok x =
    let c = (goal.at.invariant_of-self-in-Ok x).After-put_all in
    let s = c.self.inside in
    let sums = counts c x.in-Ok.change x.puts_in.result in
    consistent_as s.number s.floor s.config c.put_all.new.self (old c).base.tuples c.push_commit.new.commits.items s.configs.items sums
    (subst (λ (h : History). IsConsistent (record { number = s.number; floor = s.floor; base = (old c).base; commits = h }) c.put_all.new.self s.configs.items sums) (sym (commits c))
    (consistent c x.in-Ok.change x.puts_in.result x.in-Ok.ensures.ok x.in-Ok.ensures.change x.puts_in.ensures.puts))

pub returns-in-Ok-clause-ok : goal.returns-in-Ok-clause-ok
returns-in-Ok-clause-ok x =
    let c = (goal.at.returns-in-Ok-clause-ok x).After-put_all in
    let s = c.self.inside in
    ap (λ (h : History). as_retained s.number s.floor s.config c.put_all.new.self h) (commits c)
    ∙ as_retained_is s.number s.floor s.config c.put_all.new.self (old c).base.tuples (s.commits.items ++ kinds.Tuples (events c) ∷ [])
    (consistent c x.in-Ok.change x.puts_in.result x.in-Ok.ensures.ok x.in-Ok.ensures.change x.puts_in.ensures.puts).versions
    ∙ ap₂ (λ (r : Retained) (x : Commit Configured). with_commit r x) c.self.view_is (sym c.requires.are)

pub invariant_of-self-in-Err : goal.invariant_of-self-in-Err
invariant_of-self-in-Err x =
    let c = (goal.at.invariant_of-self-in-Err x).After-put_all in
    let s = c.self.inside in
    let h : History = x.drop_newest.new.commits.items in
    consistent_as s.number s.floor s.config c.put_all.new.self (old c).base.tuples h s.configs.items s.counts
    (subst (λ (xs : History). IsConsistent (record { number = s.number; floor = s.floor; base = (old c).base; commits = xs }) c.put_all.new.self s.configs.items s.counts) (sym (left c h x.drop_newest.ensures))
    (unchanged c x.in-Err.ensures.err))

pub returns-in-Err-clause-err : goal.returns-in-Err-clause-err
returns-in-Err-clause-err x =
    let c = (goal.at.returns-in-Err-clause-err x).After-put_all in
    let s = c.self.inside in
    ap (λ (h : History). as_retained s.number s.floor s.config c.put_all.new.self h) (left c x.drop_newest.new.commits.items x.drop_newest.ensures)
    ∙ as_retained_is s.number s.floor s.config c.put_all.new.self (old c).base.tuples (old c).commits (unchanged c x.in-Err.ensures.err).versions
    ∙ c.self.view_is
