use Rattle.std.proofs.Common.{◌≡◌, ◌<◌, ◌∷◌, ◌++◌, [], ℕ, ap, ◌∙◌, sym, subst, arith}
use Rattle.decide.specs.declared.search.Frame.{Frame}
use Rattle.decide.specs.inside.Searches.{Pushes, AreFalling, IsFrame}
use Rattle.decide.proofs.Elements.{Holds, holds_some}
use Rattle.decide.proofs.Replacing.{stacked_running}
use Rattle.decide.proofs.Counting.{falling_pushed, left_put}
use Rattle.decide.proofs.search.Search.put_back.Goals as goal
use Rattle.decide.proofs.search.Search.put_back.Goals.{In_ok-push}

pub returns-clause-numbers : goal.returns-clause-numbers
returns-clause-numbers c i k n (e, at, node, level) =
    (e, subst (λ xs. Holds xs i e) (sym c.in_ok-stack.ensures.opened) at, node, level)

abbrev put : In_ok-push → Frame
put c = record { level = c.args.level; asker = c.args.number }

framed : (c : In_ok-push) → c.push.new.self.items ≡ c.args.self.now.frames.items ++ put c ∷ []
framed c = c.in_ok-push.ensures.items ∙ ap (λ fs. fs ++ put c ∷ []) c.in_ok-stack.ensures.frames

lowest : (c : In_ok-push) (i : ℕ) (f : Frame) → IsFrame c.args.self.now.frames.items i f → c.args.level < f.level
lowest c i f frame =
    let (e, at) = holds_some c.args.self.now.opened.items c.args.number c.requires.number in
    let less = c.requires.lowest i e f at frame in
    omega (arith, less, c.requires.level e at)

pub returns-clause-running : goal.returns-clause-running
returns-clause-running c S u =
    let (e, at) = holds_some c.args.self.now.opened.items c.args.number c.requires.number in
    stacked_running c.args.self.now _ c.args.number e at c.in_ok-stack.ensures.opened (c.in_ok-stack.ensures.stacked e at) S u
    (λ falls. subst AreFalling (sym (framed c)) (falling_pushed c.args.self.now.frames.items (put c) falls (lowest c)))

pub returns-clause-ends : goal.returns-clause-ends
returns-clause-ends c =
    let s = c.args.self.now in
    let (e, at) = holds_some s.opened.items c.args.number c.requires.number in
    let level = c.requires.level e at in
    let there = c.requires.there e at in
    let (k, i, less, on) = c.requires.unfinished in
    left_put s.stacks.items c.stack.new.self.stacks.items s.frames.items c.push.new.self.items (put c) c.args.number
    (subst (λ l. Pushes s.stacks.items c.stack.new.self.stacks.items l c.args.number) level (c.in_ok-stack.ensures.stacked e at))
    (framed c) (omega (arith, there, level)) k i less on (lowest c)
