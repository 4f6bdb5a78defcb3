use Rattle.std.proofs.Common.{◌≡◌, List, length, refl, ap, ◌∙◌, arith}
use Rattle.std.specs.Prelude.{count_by}
use Rattle.decide.specs.declared.search.Search.{Search}
use Rattle.decide.specs.declared.search.Opened.{Opened}
use Rattle.decide.specs.inside.Searches.{sures}
use Rattle.decide.proofs.Turns.{root_answer, root_sure}
use Rattle.decide.proofs.Turning.{turned_on}
use Rattle.decide.proofs.deciding.round.Goals.{then-gave-via-then-gave, then-gave-via-else-gave+then-len-opened}
use Rattle.decide.proofs.deciding.round.Goals as goal

pub is_sure-requires : goal.is_sure-requires
is_sure-requires g c = omega (arith, c.requires.root, c.turns.invariant.long)

pub returns-then-is_sure-clause-answer : goal.returns-then-is_sure-clause-answer
returns-then-is_sure-clause-answer g c n k number = (
  λ t. root_sure c.args.facts.now c.args.user.now c.turns.search c.args.root k n c.is_sure.result c.if-is_sure.true c.turns.invariant.running (c.turns.invariant.numbers c.args.root k n number) c.is_sure.ensures,
  λ m. refl,
)

pub is_sure-requires-in-None : goal.is_sure-requires-in-None
is_sure-requires-in-None g c = omega (arith, c.requires.root, c.turns.invariant.long, ap length c.next.ensures.opened)

pub returns-in-None-clause-answer : goal.returns-in-None-clause-answer
returns-in-None-clause-answer g c n k number =
    root_answer c.args.facts.now c.args.user.now c.next.new.self c.args.root k n c.is_sure-in-None.result
    (c.in-None.ensures.same c.args.facts.now c.args.user.now c.turns.invariant.running)
    (c.in-None.ensures.numbers c.args.root k n (c.turns.invariant.numbers c.args.root k n number))
    c.in-None.ensures.none
    c.is_sure-in-None.ensures

pub returns-in-None-clause-numbers : goal.returns-in-None-clause-numbers
returns-in-None-clause-numbers g c i k n number = c.in-None.ensures.numbers i k n (c.turns.invariant.numbers i k n number)

pub look-requires-clause-number : goal.look-requires-clause-number
look-requires-clause-number g c = (c.in-Some.ensures.some c.args.facts.now c.args.user.now c.turns.invariant.running).0

pub look-requires-clause-running : goal.look-requires-clause-running
look-requires-clause-running g c = (c.in-Some.ensures.some c.args.facts.now c.args.user.now c.turns.invariant.running).1

pub look-requires-clause-lowest : goal.look-requires-clause-lowest
look-requires-clause-lowest g c = c.in-Some.ensures.lowest c.args.facts.now c.args.user.now c.turns.invariant.running

pub returns-then-gave-clause-numbers : goal.returns-then-gave-clause-numbers
returns-then-gave-clause-numbers g c i k n number = c.in_ok-gave-in-Some.ensures.numbers i k n (c.in-Some.ensures.numbers i k n (c.turns.invariant.numbers i k n number))

known_of : (s t : Search) → t.opened.items ≡ s.opened.items → sures t ≡ sures s
known_of s t same = ap (λ (xs : List Opened). count_by (λ e. e.sure) xs) same

pub turns-preserved : goal.turns-preserved
turns-preserved g c =
    let s = c.next.new.self in
    let t = c.look.new.search in
    let same = ap length c.in-Some.ensures.opened in
    let long = c.turns.invariant.long in
    let on = turned_on s t c.in_ok-gave-in-Some.gave c.in_ok-gave-in-Some.ensures.turned c.if-gave.false (omega (arith, c.if-len-opened.false, c.len.ensures, c.len-opened.ensures, same, long)) in
    record {
      running = c.in_ok-gave-in-Some.ensures.running;
      numbers = λ i k n number. c.in_ok-gave-in-Some.ensures.numbers i k n (c.in-Some.ensures.numbers i k n (c.turns.invariant.numbers i k n number));
      tells = c.in_ok-gave-in-Some.ensures.tells;
      read = c.in_ok-gave-in-Some.ensures.read;
      long = on.long ∙ same ∙ long;
      known = on.known ∙ known_of c.turns.search s c.in-Some.ensures.opened ∙ c.turns.invariant.known;
    }

pub returns-in-None-clause-running : goal.returns-in-None-clause-running
returns-in-None-clause-running g c = c.in-None.ensures.same c.args.facts.now c.args.user.now c.turns.invariant.running
