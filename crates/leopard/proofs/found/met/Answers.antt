use Rattle.leopard.proofs.Finding.{finds_both, unnamed_kept}
use Rattle.leopard.proofs.found.met.Goals as goal

pub returns-clause-both : goal.returns-clause-both
returns-clause-both c names n apart = finds_both names c.args.a.ids c.args.b.now.ids c.in_ok-ids.ids c.args.a.others.keys c.args.b.now.others.keys c.common-others.result.keys n apart c.in_ok-ids.ensures c.common-others.ensures

pub returns-clause-unnamed : goal.returns-clause-unnamed
returns-clause-unnamed c names = unnamed_kept names c.args.a.others.keys c.common-others.result.keys _ c.common-others.ensures
