use Rattle.keeper.proofs.lock.KeptDesk.close.Goals as goal

pub returns : goal.returns
returns g c =
    let seen = c.see.ensures in
    record {
      desk = c.self.inside.desk;
      kept = record { of_the_book = c.self.invariant.0; beginning = seen.beginning; judged = seen.judged; agrees = seen.agrees; settled = seen.settled };
      left = c.self.invariant.1;
      same = c.close.ensures.same;
      agrees = c.close.ensures.agrees;
    }
