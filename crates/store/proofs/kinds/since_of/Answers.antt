use Rattle.std.proofs.Common.{ap, sym, ◌∙◌, arith}
use Rattle.meaning.specs.Admits.{admits}
use Rattle.store.specs.declared.parts.ReadConfig.{ReadConfig}
use Rattle.store.proofs.Alike.{since_end, since_before}
use Rattle.store.proofs.kinds.since_of.Goals as goal

pub loop-since-init : goal.loop-since-init
loop-since-init c = since_end c.args.configs.now c.args.tuple.now

pub loop-since-preserved : goal.loop-since-preserved
loop-since-preserved c =
    since_before c.args.configs.now c.args.tuple.now c.loop-since.since c.index-configs-since.result c.loop-since.invariant (omega (arith, c.loop-since-test.true)) c.index-configs-since.is
    (ap (λ (x : ReadConfig). admits x.config c.args.tuple.now) c.index-configs-since.is ∙ sym c.if-not-allows.ensures)
