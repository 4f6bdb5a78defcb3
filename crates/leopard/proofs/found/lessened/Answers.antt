use Rattle.leopard.proofs.Finding.{finds_less, unnamed_kept}
use Rattle.leopard.proofs.found.lessened.Goals as goal

pub returns-clause-less : goal.returns-clause-less
returns-clause-less c names n apart = finds_less names c.args.a.ids c.args.b.now.ids c.in_ok-ids.ids c.args.a.others.keys c.args.b.now.others.keys c.without-others.result.keys n apart c.in_ok-ids.ensures.members c.without-others.ensures

pub returns-clause-unnamed : goal.returns-clause-unnamed
returns-clause-unnamed c names = unnamed_kept names c.args.a.others.keys c.without-others.result.keys _ c.without-others.ensures
