use Rattle.std.proofs.Common.{sym, subst}
use Rattle.std.proofs.lemmas.Option.{none-some}
use Rattle.idsets.specs.Naming.{AreDistinct}
use Rattle.hot.specs.Kept.{AreKept}
use Rattle.hot.proofs.Marks.{kept_none, nothing_of_world, told_none}
use Rattle.hot.proofs.hot.Hot.new.Goals as goal

pub returns-clause-hot : goal.returns-clause-hot
returns-clause-hot c = λ S valid. record {
  valid = valid;
  all = record {
    kept = subst (λ m. AreKept S c.new.result.nodes c.new.result.users m c.new-3.result.rows) (sym c.new-2.ensures)
        (kept_none S c.new.result.nodes c.new.result.users c.new-3.result.rows c.new-3.ensures.none);
    remembered = nothing_of_world _ c.new-3.result.rows c.new-4.result (told_none c.new-4.result c.new-4.ensures.empty);
  };
  distinct = subst (λ xs. AreDistinct xs) (sym c.new.ensures.nodes) (λ i j n h. absurd (none-some n h));
}
