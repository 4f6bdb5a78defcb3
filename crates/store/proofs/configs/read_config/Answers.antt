use Rattle.std.proofs.Common.{ap, sym, subst, ◌∙◌, arith}
use Rattle.std.proofs.lemmas.Result.{err_from_is_err_and}
use Rattle.config.specs.Causes.{Accepts}
use Rattle.sqlite_tables.specs.Tables.{ConfigRow}
use Rattle.store.specs.Written.{canonical}
use Rattle.store.specs.Refused.{IsOfConfig}
use Rattle.store.proofs.Accepting.{config_deserved, same_config, other_text}
use Rattle.store.proofs.configs.read_config.Goals as goal
use Rattle.store.proofs.configs.read_config.Goals.{then-ne-via-then-ne, then-ne-via-else-ne+then-stored-eq0, then-ne-via-else-ne+else-stored-eq0+then-newest-stored}

pub returns-in_err-config-clause-fault : goal.returns-in_err-config-clause-fault
returns-in_err-config-clause-fault c =
    let p = err_from_is_err_and c.from_residual.result c.from_residual.ensures.1 in
    rw (p.1, p.2) (config_deserved (IsOfConfig c.args.newest c.args.stored.now) c.as_bytes.result.now _
    (λ (r, revised, same). (r.config, subst (λ t. Accepts t r.config) (ap (λ (d : ConfigRow). d.text) same ∙ sym c.as_bytes.ensures.value) revised.valid)) c.in_err-config.ensures.err)

pub returns-then-ne-clause-fault : goal.returns-then-ne-clause-fault
returns-then-ne-clause-fault c = λ (r, revised, same).
    let rev = ap (λ (d : ConfigRow). d.rev) same in
    let some = revised.begins in
    let most = revised.begun in
    elim c.then-ne.branch [
      | then-ne-via-then-ne w ↦ other_text c.as_str.result.now c.as_str-2.result.now
          (c.as_str.ensures.value ∙ c.in_ok-text.ensures.text ∙ ap canonical (same_config c.as_bytes.result.now c.in_ok-config.config r.config c.in_ok-config.ensures.ok
          (subst (λ t. Accepts t r.config) (ap (λ (d : ConfigRow). d.text) same ∙ sym c.as_bytes.ensures.value) revised.valid)) ∙ ap (λ (d : ConfigRow). d.text) same ∙ sym c.as_str-2.ensures.value) w.if-ne.ensures
      | then-ne-via-else-ne+then-stored-eq0 w ↦ omega (arith, rev, some, w.if-stored-eq0.true)
      | then-ne-via-else-ne+else-stored-eq0+then-newest-stored w ↦ omega (arith, rev, most, w.if-newest-stored.true)
    ]
