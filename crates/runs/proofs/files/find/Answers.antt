use Rattle.std.proofs.Common.{true, false, refl, inl, arith}
use Rattle.sqlite_wal.specs.Files.{image_at}
use Rattle.sqlite_store.specs.Laws.{settled_at}
use Rattle.sqlite.specs.Files.{file_state}
use Rattle.runs.proofs.Results.{on_both, on_err, on_some}
use Rattle.runs.proofs.Found.{is_found, finds_it}
use Rattle.runs.proofs.Given.{image_is, seen_is, left_is, file_is_unfailed, start_for}
use Rattle.runs.proofs.files.find.Goals as goal

pub returns-clause-found : goal.returns-clause-found
returns-clause-found g c = on_both c.open_from.result (λ conn opened found r holds clean is_open. finds_it (image_at g.P.Start) (file_state conn) r
    (is_found (image_at g.P.Start) (file_state conn) (opened clean) (found clean) (λ trees whole may. settled_at conn.store (λ f. inl refl) trees whole may)) holds) c.open_from.ensures.opened c.open_from.ensures.found

pub returns-clause-sees : goal.returns-clause-sees
returns-clause-sees g c = on_both c.open_from.result (λ conn opened found clean.
    is_found (image_at g.P.Start) (file_state conn) (opened clean) (found clean) (λ trees is_open may. settled_at conn.store (λ f. inl refl) trees is_open may)) c.open_from.ensures.opened c.open_from.ensures.found

pub returns-clause-refused : goal.returns-clause-refused
returns-clause-refused g c =
    let start = g.P.Start in
    on_err c.open_from.result (λ e cause. on_some e.1 (λ left h. record {
      files = h.0;
      given = record {
        same = image_is (seen_is start.log start.db h.0.log.is_log true h.0.log.calls.log.events h.0.log.key h.1.0 h.1.1) (seen_is start.log start.db h.0.db.is_log false h.0.db.calls.log.events h.0.db.key h.2.0 h.2.1);
        settled = λ crash may. image_is
            (left_is start.is_mixing start.log start.db h.0.log.is_log true h.0.log.calls.log.events h.0.log.key crash.log h.1.0 h.1.1 may.0)
            (left_is start.is_mixing start.log start.db h.0.db.is_log false h.0.db.calls.log.events h.0.db.key crash.db h.2.0 h.2.1 may.1);
        unfailed = let a = file_is_unfailed (start_for start.log start.db h.0.log.is_log) h.0.log.calls.log.events h.0.log.key h.1.1 in let b = file_is_unfailed (start_for start.log start.db h.0.db.is_log) h.0.db.calls.log.events h.0.db.key h.2.1 in omega (arith, a, b);
      };
      cause = λ clean. (h.3 clean).0;
      leaves = λ clean. (h.3 clean).1;
    }) cause) c.open_from.ensures.cause
