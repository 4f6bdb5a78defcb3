use Rattle.std.proofs.Common.{subst}
use Rattle.std.specs.Prelude.{All, IsTrue}
use Rattle.config_text.specs.Order.{IsOrdered}
use Rattle.config_text.specs.Size.{has_parts}
use Rattle.config.specs.Valid.{IsValid}
use Rattle.config.proofs.Keeping.{all_are_whole}
use Rattle.config.proofs.config.Config.relations.Goals as goal

pub returns-clause-whole : goal.returns-clause-whole
returns-clause-whole c = all_are_whole c.args.self.now.relations (subst (λ x. All (λ d. IsTrue (has_parts d.form)) x.relations) c.self.view_is c.self.invariant.parts)

pub returns-clause-valid : goal.returns-clause-valid
returns-clause-valid c = subst IsValid c.self.view_is c.self.invariant.valid

pub returns-clause-ordered : goal.returns-clause-ordered
returns-clause-ordered c = subst IsOrdered c.self.view_is c.self.invariant.ordered
