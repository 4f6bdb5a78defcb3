use Rattle.std.proofs.Common.{subst, ap, ◌∙◌}
use Rattle.std.specs.Prelude.{IfOk, string_bytes}
use Rattle.config_text.specs.Parts.{configured}
use Rattle.config.specs.Causes.{Accepts}
use Rattle.config.proofs.Keeping.{text_read_back}
use Rattle.config.proofs.config.Config.to_json.Goals as goal

pub returns-clause-read_back : goal.returns-clause-read_back
returns-clause-read_back c =
    let kept = configured c.self.inside.namespaces.items c.self.inside.relations.items in
    let same = ap (λ ns. configured ns c.deref-2.result.now) c.deref.ensures.value ∙ ap (configured c.self.inside.namespaces.items) c.deref-2.ensures.value in
    subst (λ x. IfOk c.text_of.result (λ s. Accepts (string_bytes s) x)) c.self.view_is
    (text_read_back c.text_of.result kept (configured c.deref.result.now c.deref-2.result.now) c.self.inside.levels.items c.self.invariant same c.text_of.ensures.text c.text_of.ensures.read_back)
