use Rattle.std.proofs.Common.{drop, map}
use Rattle.std.specs.Prelude.{◌↔◌, Contains}
use Rattle.meaning.specs.Membership.{SomeGives, EachGives}
use Rattle.config.specs.Forms.{form_of, forms_of}
use Rattle.plain.specs.inside.Source.{snap_of}
use Rattle.plain.proofs.rewrites.+gives.Given as goal

-- what is left of the parts decides
abbrev pub invariant-each_gives-loop-part : goal.invariant-each_gives-loop-part
invariant-each_gives-loop-part l =
    EachGives (snap_of l.source) l.user l.node (forms_of (map form_of (drop l.part-index l.parts))) (Contains l.held) (Contains l.lower)
    ↔ EachGives (snap_of l.source) l.user l.node (forms_of (map form_of l.parts)) (Contains l.held) (Contains l.lower)

abbrev pub invariant-some_gives-loop-part : goal.invariant-some_gives-loop-part
invariant-some_gives-loop-part l =
    SomeGives (snap_of l.source) l.user l.node (forms_of (map form_of (drop l.part-index l.parts))) (Contains l.held) (Contains l.lower)
    ↔ SomeGives (snap_of l.source) l.user l.node (forms_of (map form_of l.parts)) (Contains l.held) (Contains l.lower)
