-- What the bodies of a `hot` and of a `rebuild` ask, by what `serde_json` reads from them.
use Rattle.std.specs.Prelude.{◌≡◌, true, List, [], ℕ, IsSomeAnd, codes}
use Rattle.serde_json.specs.Data.{Data}
use Rattle.config_text.specs.Objects.{has_only}
use Rattle.names.specs.Spelling.{SpellsNode}
use Rattle.names.specs.declared.node.Node.{Node}
use Rattle.names.specs.declared.marking.Marking.{Marking}
use Rattle.names.specs.declared.marking.Marking.TheVariants.{Mark, Unmark}
use Rattle.bodies.specs.Requests.{ReadsAs, only_text}

-- `{"mark": node}` or `{"unmark": node}`
abbrev pub MarkingOf : Data → Marking → Type 0
MarkingOf d (Mark node) = IsSomeAnd (only_text (codes "mark") d) (λ text. SpellsNode text node)
MarkingOf d (Unmark node) = IsSomeAnd (only_text (codes "unmark") d) (λ text. SpellsNode text node)

-- the body of a `hot` asks for the marking
abbrev pub AsksHot : List ℕ → Marking → Type 0
AsksHot body marking = ReadsAs body (λ d. MarkingOf d marking)

-- it asks for none
abbrev pub AsksNoHot : List ℕ → Type 0
AsksNoHot body = (marking : Marking) → ¬ (AsksHot body marking)

-- the body of a `rebuild` is the empty object
abbrev pub AsksRebuild : List ℕ → Type 0
AsksRebuild body = ReadsAs body (λ d. has_only [] d ≡ true)

-- it is something else
abbrev pub AsksNoRebuild : List ℕ → Type 0
AsksNoRebuild body = ¬ (AsksRebuild body)
