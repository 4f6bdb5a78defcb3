use Rattle.std.proofs.Common.{◌≡◌, ◌≤◌, ◌++◌, length, deque_len, deque_capacity}
use Rattle.published.specs.Invariant.{Leads}
use Rattle.published.specs.Judged.{AreJudged}
use Rattle.published.proofs.hand.hand_over.Given as goal

abbrev pub invariant-loop-entered : goal.invariant-loop-entered
invariant-loop-entered g l = record {
  leads : Leads l.book l.entered l.publisher l.stuck;
  judged : AreJudged (l.entered.steps ++ l.backlog.items);
  posted : l.entered.steps ++ l.backlog.items ≡ l.fn.entered.steps ++ l.fn.backlog.items;
  fewer : deque_len l.backlog ≤ deque_len l.fn.backlog;
  capacity : deque_capacity l.backlog ≡ deque_capacity l.fn.backlog;
  published : l.publisher.published ≡ l.fn.publisher.published;
}

abbrev pub decreases-loop-entered : goal.decreases-loop-entered
decreases-loop-entered g l = length l.backlog.items
