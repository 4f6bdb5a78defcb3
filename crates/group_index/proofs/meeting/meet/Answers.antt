use Rattle.std.proofs.Common.{subst}
use Rattle.std.specs.Prelude.{◌↔◌, IsTrue}
use Rattle.group_index.proofs.Among.{Meet, meet_turned}
use Rattle.group_index.proofs.meeting.meet.Goals as goal

pub returns-then-len : goal.returns-then-len
returns-then-len c = subst (λ xs. IsTrue c.some_named.result ↔ Meet c.args.names.now xs c.args.other_names.now c.args.other_ids.now) c.as_slice.ensures.ids c.some_named.ensures

pub returns-else-len : goal.returns-else-len
returns-else-len c =
    let turned = meet_turned c.args.names.now c.args.ids.now c.args.other_names.now c.args.other_ids.now in
    let is = subst (λ xs. IsTrue c.some_named-else-len.result ↔ Meet c.args.other_names.now xs c.args.names.now c.args.ids.now) c.as_slice-else-len.ensures.ids c.some_named-else-len.ensures in
    (λ h. turned.0 (is.0 h), λ m. is.1 (turned.1 m))
