use Rattle.std.proofs.Common.{◌≡◌, List, [], ◌∷◌, ◌++◌, ◌+◌, ◌-◌, length, take, ap, sym, subst, ◌∙◌}
use Rattle.names.specs.declared.commit.Commit.{Commit}
use Rattle.names.specs.declared.commit.Commit.TheVariants as kinds
use Rattle.meaning.specs.Config.{Configured}
use Rattle.meaning.specs.History.{History}
use Rattle.rows.specs.declared.config_at.ConfigAt.{ConfigAt}
use Rattle.rows.specs.Retained.{Retained, newest, HasRoom}
use Rattle.rows.specs.Representation.{as_retained, IsConsistent}
use Rattle.rows.proofs.Committing.{consistent_config, last_off}
use Rattle.rows.proofs.rows.Rows.absorb_config.Goals as goal

pub invariant_of-self-in-Ok : goal.invariant_of-self-in-Ok
invariant_of-self-in-Ok c =
    let s = c.self.inside in
    let r : Retained = as_retained s.number s.floor s.config s.tuples s.commits.items in
    let room : HasRoom r (kinds.Config c.args.config.now) = subst (λ (x : Commit Configured). HasRoom r x) c.requires.is (subst (λ (x : Retained). HasRoom x c.args.commit.now) (sym c.self.view_is) c.requires.room) in
    let rev : c.newest-rev.result ≡ newest r = c.newest-rev.ensures.newest ∙ ap newest (sym c.self.view_is) in
    let config_at : record { rev = newest r + 1; config = c.args.config.now } ≡ record { rev = c.newest-rev.result + 1; config = c.in_ok-again.field-0 } =
    λ i. record { rev = sym rev i + 1; config = sym c.in_ok-again.ensures i } in
    let configs : s.configs.items ++ record { rev = newest r + 1; config = c.args.config.now } ∷ [] ≡ c.push_config.new.configs.items =
    ap (λ (d : ConfigAt). s.configs.items ++ d ∷ []) config_at ∙ sym c.in_ok-push_config.ensures.ok in
    let commits : s.commits.items ++ kinds.Config c.args.config.now ∷ [] ≡ c.push_commit.new.commits.items =
    ap (λ (x : Commit Configured). s.commits.items ++ x ∷ []) (sym (c.in_ok-kept.ensures ∙ c.requires.is)) ∙ sym c.in-Ok.ensures.ok in
    subst (λ (ds : List ConfigAt). IsConsistent (as_retained s.number s.floor s.config s.tuples c.push_commit.new.commits.items) s.tuples ds s.counts) configs
    (subst (λ (h : History). IsConsistent (as_retained s.number s.floor s.config s.tuples h) s.tuples (s.configs.items ++ record { rev = newest r + 1; config = c.args.config.now } ∷ []) s.counts) commits
    (consistent_config r s.tuples s.configs.items s.counts c.args.config.now c.self.invariant room))

pub invariant_of-self-in-Err : goal.invariant_of-self-in-Err
invariant_of-self-in-Err c =
    let s = c.self.inside in
    let config_at : ConfigAt = record { rev = c.newest-rev.result + 1; config = c.in_ok-again.field-0 } in
    let configs : c.drop_config.new.configs.items ≡ s.configs.items =
    c.drop_config.ensures ∙ ap (λ (ds : List ConfigAt). take (length ds - 1) ds) c.in_ok-push_config.ensures.ok ∙ last_off s.configs.items config_at in
    subst (λ (ds : List ConfigAt). IsConsistent (as_retained s.number s.floor s.config s.tuples c.push_commit.new.commits.items) s.tuples ds s.counts) (sym configs)
    (subst (λ (h : History). IsConsistent (as_retained s.number s.floor s.config s.tuples h) s.tuples s.configs.items s.counts) (sym c.in-Err.ensures.err) c.self.invariant)
