use Rattle.runs.proofs.Left.{leaves_one, was_clean}
use Rattle.runs.proofs.files.leave.Goals as goal

pub returns-clause-left : goal.returns-clause-left
returns-clause-left g c = λ clean rs leaves. leaves_one c.into_store.result rs (c.into_store.ensures.numbered clean) (c.into_store.ensures.sound clean)
    (λ trees may. leaves (was_clean _ _ c.into_store.ensures.quiet.clean clean) trees (c.into_store.ensures.quiet.outcomes trees may))

pub returns-clause-trees : goal.returns-clause-trees
returns-clause-trees g c = λ clean rs leaves trees may. leaves (was_clean _ _ c.into_store.ensures.quiet.clean clean) trees (c.into_store.ensures.quiet.outcomes trees may)
