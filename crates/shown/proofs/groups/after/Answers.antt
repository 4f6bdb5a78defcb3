use Rattle.shown.proofs.Indexing.{after_config}
use Rattle.shown.proofs.groups.after.Goals as goal

pub returns-in-None : goal.returns-in-None
returns-in-None c =
    after_config c.args.index c.args.rev c.args.view.now c.args.commit.now c.restart.result c.requires c.restart.ensures.index c.restart.ensures.base c.restart.ensures.cursor
