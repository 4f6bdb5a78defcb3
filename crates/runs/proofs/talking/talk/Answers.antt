use Rattle.std.proofs.Common.{inl, inr}
use Rattle.runs.proofs.Requests.{serves_talked, serves_so_far, serves_cut, talked_on, so_far_on, cut_on, kept_alone, kept_to_each_end}
use Rattle.runs.proofs.talking.talk.Goals as goal

pub returns-clause-closed : goal.returns-clause-closed
returns-clause-closed g c = λ is. let h = c.serve_by.ensures.closed is in
    (h.0, h.1, serves_talked g.T.Tables g.met.T.Tables.weaker h.0 _ _ _ _ _ _ h.2 h.2)

pub returns-clause-broken : goal.returns-clause-broken
returns-clause-broken g c = λ is. let h = c.serve_by.ensures.broken is in
    (h.0, h.1, serves_talked g.T.Tables g.met.T.Tables.weaker h.0 _ _ _ _ _ _ h.2 h.2)

pub returns-clause-asked : goal.returns-clause-asked
returns-clause-asked g c = λ is. let h = c.serve_by.ensures.asked is in
    (h.0, h.1, serves_talked g.T.Tables g.met.T.Tables.weaker h.0 _ _ _ _ _ _ h.2 h.2)

pub returns-clause-memory : goal.returns-clause-memory
returns-clause-memory g c = λ is. elim (c.serve_by.ensures.memory is) [
  | inl same ↦ inl same
  | inr h ↦ inr (h.0, h.1, serves_talked g.T.Tables g.met.T.Tables.weaker h.0 _ _ _ _ _ _ h.2 h.2)
]

pub returns-clause-read_fault : goal.returns-clause-read_fault
returns-clause-read_fault g c = λ is. let h = c.serve_by.ensures.read_fault is in
    (h.0, h.1, serves_so_far g.T.Tables g.met.T.Tables.weaker h.0 _ _ _ _ _ h.2 h.2)

pub returns-clause-write_fault : goal.returns-clause-write_fault
returns-clause-write_fault g c = λ is. let h = c.serve_by.ensures.write_fault is in
    (h.0, h.1, serves_cut g.T.Tables g.met.T.Tables.weaker h.0 _ _ _ _ _ h.2 h.2)

pub returns-clause-each_read : goal.returns-clause-each_read
returns-clause-each_read g c = c.serve_by.ensures.each_read

pub returns-clause-goes_on : goal.returns-clause-goes_on
returns-clause-goes_on g c =
    let w = g.met.T.Tables.weaker in
    let e = c.serve_by.ensures in
    kept_to_each_end g.T.Tables _ _ c.serve_by.result
    (λ is. let h = e.closed is in talked_on g.T.Tables w h.0 _ _ _ _ _ h.2)
    (λ is. let h = e.asked is in talked_on g.T.Tables w h.0 _ _ _ _ _ h.2)
    (λ is. let h = e.broken is in talked_on g.T.Tables w h.0 _ _ _ _ _ h.2)
    (λ is. let h = e.read_fault is in so_far_on g.T.Tables w h.0 _ _ _ _ h.2)
    (λ is. let h = e.write_fault is in cut_on g.T.Tables w h.0 _ _ _ _ h.2)
    (λ is. elim (e.memory is) [ inl same ↦ kept_alone g.T.Tables _ _ same.2 | inr h ↦ talked_on g.T.Tables w h.0 _ _ _ _ _ h.2 ])
