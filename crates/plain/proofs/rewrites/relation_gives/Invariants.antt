use Rattle.std.proofs.Common.{◌≡◌, ℕ, ◌<◌, true, get_or}
use Rattle.std.specs.Prelude.{Contains}
use Rattle.meaning.specs.Admits.{is_relation}
use Rattle.meaning.specs.Config.{rel_of}
use Rattle.meaning.specs.Membership.{Gives}
use Rattle.config_text.specs.declared.relation.Relation.{Relation}
use Rattle.config.specs.Forms.{defined_of, form_of}
use Rattle.plain.specs.inside.Source.{snap_of}
use Rattle.plain.proofs.rewrites.relation_gives.Given as goal

-- none before
abbrev pub invariant-loop-relation : goal.invariant-loop-relation
invariant-loop-relation l =
    (k : ℕ) (x : Relation) → k < l.relation-index → get_or l.source.relations.now k x ≡ x → is_relation (rel_of l.node) (defined_of x) ≡ true → Gives (snap_of l.source) l.user l.node (form_of x.rewrite) (Contains l.held) (Contains l.lower) → ⊥
