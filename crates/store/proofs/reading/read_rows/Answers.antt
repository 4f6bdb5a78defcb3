use Rattle.std.proofs.Common.{List, map, ap, sym, subst, ◌∙◌, refl}
use Rattle.std.specs.Prelude.{All}
use Rattle.std.proofs.lemmas.Result.{err_from_is_err_and}
use Rattle.rows.specs.Loads.{retained_of}
use Rattle.store.specs.Written.{IsConfigAt, IsSound, config_row_of}
use Rattle.store.specs.inside.Reading.{as_config, as_written}
use Rattle.store.specs.Refused.{IsOfSpan, IsOfConfig, AreListed, IsOfHistory}
use Rattle.store.specs.declared.parts.ReadConfig.{ReadConfig}
use Rattle.store.proofs.Deserving.{deserved}
use Rattle.store.proofs.Transfer.{head_of, configs_of, rows_of, judged_of}
use Rattle.store.proofs.Sound.{history, one_history}
use Rattle.store.proofs.reading.read_rows.Goals as goal

pub returns-clause-is_history : goal.returns-clause-is_history
returns-clause-is_history c = λ h loads.
    history h c.args.stored c.in-Some.head c.in_ok-spans.spans.items c.deref.result.now c.as_slice.result.now c.as_slice-2.result.now c.args.stored.spans.items
    c.as_slice.ensures.value c.as_slice-2.ensures.value refl
    c.in-Some.ensures.entries
    (ap (λ (l : List ReadConfig). map config_row_of (map as_config l)) c.deref.ensures.value ∙ c.in_ok-configs.ensures.same)
    c.in_ok-spans.ensures.same
    c.in_ok-loaded.ensures.sound (retained_of c.in_ok-loaded.loaded) c.in_ok-loaded.ensures.same loads

pub returns-clause-same : goal.returns-clause-same
returns-clause-same c = λ h r loads is. one_history h (retained_of c.in_ok-loaded.loaded) r (returns-clause-is_history c h loads) is

pub returns-in_default-clause-fault : goal.returns-in_default-clause-fault
returns-in_default-clause-fault c = λ is. c.in_default.ensures.refuses refl (head_of c.args.stored c.as_slice.result.now c.as_slice.ensures.value is)

pub returns-in_err-configs-clause-fault : goal.returns-in_err-configs-clause-fault
returns-in_err-configs-clause-fault c =
    let p = err_from_is_err_and c.from_residual.result c.from_residual.ensures.1 in
    rw (p.1, p.2) (deserved (All (IsOfConfig c.in-Some.head.newest) c.as_slice-2.result.now) (IsOfHistory c.args.stored) _
    (configs_of c.args.stored c.as_slice.result.now c.as_slice.ensures.value c.in-Some.head c.in-Some.ensures.entries c.as_slice-2.result.now c.as_slice-2.ensures.value) c.in_err-configs.ensures.fault)

pub returns-in_err-spans-clause-fault : goal.returns-in_err-spans-clause-fault
returns-in_err-spans-clause-fault c =
    let p = err_from_is_err_and c.from_residual-in_err-spans.result c.from_residual-in_err-spans.ensures.1 in
    rw (p.1, p.2) (deserved (All (IsOfSpan c.in-Some.head.floor c.in-Some.head.newest) c.args.stored.spans.items) (IsOfHistory c.args.stored) _
    (rows_of c.args.stored c.as_slice.result.now c.as_slice.ensures.value c.in-Some.head c.in-Some.ensures.entries c.args.stored.spans.items refl) c.in_err-spans.ensures.fault)

pub returns-in_err-loaded-clause-fault : goal.returns-in_err-loaded-clause-fault
returns-in_err-loaded-clause-fault c =
    let p = err_from_is_err_and c.from_residual-in_err-loaded.result c.from_residual-in_err-loaded.ensures.1 in
    let head = c.in-Some.head in
    let C : List ReadConfig → Type 0 = All (λ r. IsConfigAt head.newest (as_config r)) in
    let configs_are = c.deref.ensures.value in
    rw (p.1, p.2) (deserved (AreListed c.deref.result.now c.in_ok-spans.spans.items × IsSound (as_written head c.in_ok-spans.spans.items c.deref.result.now)) (IsOfHistory c.args.stored) _
    (judged_of c.args.stored c.as_slice.result.now c.as_slice.ensures.value head c.in-Some.ensures.entries c.as_slice-2.result.now c.args.stored.spans.items c.as_slice-2.ensures.value refl
    c.in_ok-spans.spans.items c.deref.result.now
    (ap (λ (l : List ReadConfig). map config_row_of (map as_config l)) configs_are ∙ c.in_ok-configs.ensures.same)
    c.in_ok-spans.ensures.same c.in_ok-spans.ensures.are (subst C (sym configs_are) c.in_ok-configs.ensures.are) c.in_ok-spans.ensures.listed)
    c.in_err-loaded.ensures.fault)
