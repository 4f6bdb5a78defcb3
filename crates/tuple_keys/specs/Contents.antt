-- The commit that is kept.
use Rattle.names.specs.declared.commit.Commit.{Commit}
use Rattle.names.specs.declared.commit.Commit.TheVariants.{Tuples, Config}
use Rattle.meaning.specs.Config.{Configured}
use Rattle.tuple_keys.specs.declared.kept_commit.Content.{Content}
use Rattle.tuple_keys.specs.declared.kept_commit.Content.TheVariants as contents

abbrev pub commit_in : Content → Commit Configured
commit_in (contents.Events events) = Tuples events
commit_in (contents.Config config) = Config config
