use Rattle.std.proofs.Common.{◌∙◌}
use Rattle.config_text.proofs.Naming.{all_named, only_object, texts}
use Rattle.config_text.proofs.members.has_only_members.Goals as goal

pub returns : goal.returns
returns c = c.all_are_named.ensures ∙ all_named c.args.names.now c.in-Some.members.now.entries ∙ only_object (texts c.args.names.now) _ _ c.in-Some.ensures
