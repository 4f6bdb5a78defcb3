use Rattle.leopard.proofs.Finding.{finds_either, unnamed_gains}
use Rattle.leopard.proofs.found.united.Goals as goal

pub returns-clause-either : goal.returns-clause-either
returns-clause-either c names n = finds_either names c.args.a.ids c.args.b.ids c.in_ok-ids.ids c.args.a.others.keys c.args.b.others.keys c.put_all.new.nodes.keys n c.in_ok-ids.ensures.members c.in_ok-put_all.ensures

pub returns-clause-unnamed : goal.returns-clause-unnamed
returns-clause-unnamed c names = unnamed_gains names c.args.a.others.keys c.args.b.others.keys c.put_all.new.nodes.keys c.in_ok-put_all.ensures
