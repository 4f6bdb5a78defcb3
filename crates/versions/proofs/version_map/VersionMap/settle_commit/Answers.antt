use Rattle.std.proofs.Common.{[], ◌∷◌, sym, subst}
use Rattle.names.specs.declared.commit.Commit.{Commit}
use Rattle.meaning.specs.Config.{Configured}
use Rattle.versions.specs.Versions.{SettlesCommits, EndsWithCommit}
use Rattle.versions.proofs.Settling.{settles_events, ends_with_events, settles_config, ends_with_config}
use Rattle.versions.proofs.version_map.VersionMap.settle_commit.Goals as goal

pub returns-in-Some-clause-versions : goal.returns-in-Some-clause-versions
returns-in-Some-clause-versions c =
    subst (λ (x : Commit Configured). SettlesCommits c.args.self.now (x ∷ []) c.settle_events.new.self) (sym c.in-Some.ensures.some)
    (settles_events c.args.self.now c.settle_events.new.self c.in-Some.events.now c.settle_events.ensures.versions)

pub returns-in-Some-clause-ended : goal.returns-in-Some-clause-ended
returns-in-Some-clause-ended c =
    subst (λ (x : Commit Configured). EndsWithCommit c.args.self.now x c.settle_events.result) (sym c.in-Some.ensures.some)
    (ends_with_events c.args.self.now c.in-Some.events.now c.settle_events.result c.settle_events.ensures.ended)

pub returns-in-None-clause-versions : goal.returns-in-None-clause-versions
returns-in-None-clause-versions c =
    subst (λ (x : Commit Configured). SettlesCommits c.args.self.now (x ∷ []) c.args.self.now) (sym c.in-None.ensures.none.1) (settles_config c.args.self.now c.in-None.ensures.none.0)

pub returns-in-None-clause-ended : goal.returns-in-None-clause-ended
returns-in-None-clause-ended c =
    subst (λ (x : Commit Configured). EndsWithCommit c.args.self.now x 0) (sym c.in-None.ensures.none.1) (ends_with_config c.args.self.now c.in-None.ensures.none.0)
