use Rattle.std.proofs.Common.{[], refl, take}
use Rattle.lines.specs.Text.{lines_of}
use Rattle.runs.proofs.running.serve.Goals as goal

pub returns-in-Closed-clause-ok : goal.returns-in-Closed-clause-ok
returns-in-Closed-clause-ok g c =
    let h = c.lines.ensures.closed c.in-Closed.is in
    (h.0, h.1, record { served = h.2; each_read = c.lines.ensures.each_read })

pub returns-in-Closed-clause-answered : goal.returns-in-Closed-clause-answered
returns-in-Closed-clause-answered g c = let h = c.lines.ensures.closed c.in-Closed.is in (lines_of h.0, h.2.0, h.2.1)

pub returns-in-ReadFault-clause-cannot_read : goal.returns-in-ReadFault-clause-cannot_read
returns-in-ReadFault-clause-cannot_read g c e =
    let h = c.lines.ensures.read_fault c.in-ReadFault.is in
    (h.0, h.1, record { paused = h.2; each_read = c.lines.ensures.each_read })

pub returns-in-ReadFault-clause-answered : goal.returns-in-ReadFault-clause-answered
returns-in-ReadFault-clause-answered g c = let h = c.lines.ensures.read_fault c.in-ReadFault.is in (h.2.2.lines, h.2.1, h.2.2.run)

pub returns-in-WriteFault-clause-cannot_write : goal.returns-in-WriteFault-clause-cannot_write
returns-in-WriteFault-clause-cannot_write g c e =
    let h = c.lines.ensures.write_fault c.in-WriteFault.is in
    (h.0, h.1, record { cut = h.2; each_read = c.lines.ensures.each_read })

pub returns-in-WriteFault-clause-answered : goal.returns-in-WriteFault-clause-answered
returns-in-WriteFault-clause-answered g c =
    let h = c.lines.ensures.write_fault c.in-WriteFault.is in
    (take h.2.0 (lines_of h.0), h.2.1, h.2.2)

pub returns-in-Memory-clause-answered : goal.returns-in-Memory-clause-answered
returns-in-Memory-clause-answered g c = let h = c.lines.ensures.memory c.in-Memory.is in ([], [], (refl, h.2))
