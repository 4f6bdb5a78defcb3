use Rattle.std.proofs.Common.{◌≡◌, true, false, drop}
use Rattle.decide.specs.inside.Ending.{IsUnfinished}
use Rattle.meaning.specs.Membership.{SomeGives, EachGives}
use Rattle.config_text.specs.Forms.{rewrite_forms}
use Rattle.decide.specs.inside.Under.{Under}
use Rattle.decide.specs.declared.search.Search.{Search}
use Rattle.decide.specs.inside.Searches.{Grew}
use Rattle.decide.specs.inside.Asked.{IsAsking, Counts, IsLeft}
use Rattle.decide.proofs.rewrites.+gives.Given as goal

-- what is left of the parts decides
abbrev pub invariant-each_gives-loop-part : goal.invariant-each_gives-loop-part
invariant-each_gives-loop-part l =
    IsAsking l.facts l.search l.asking
    × Grew l.fn.search l.search
    × (EachGives l.facts l.asking.user.now l.asking.node.now (rewrite_forms (drop l.part-index l.parts)) (Counts l.facts l.asking) (Under l.facts l.asking.user.now l.asking.level)
    → EachGives l.facts l.asking.user.now l.asking.node.now (rewrite_forms l.parts) (Counts l.facts l.asking) (Under l.facts l.asking.user.now l.asking.level))

abbrev pub invariant-some_gives-loop-part : goal.invariant-some_gives-loop-part
invariant-some_gives-loop-part l =
    IsAsking l.facts l.search l.asking
    × Grew l.fn.search l.search
    × (l.later ≡ false → (w : Search) → Grew l.search w
    → SomeGives l.facts l.asking.user.now l.asking.node.now (rewrite_forms l.parts) (IsLeft l.facts w l.asking) (Under l.facts l.asking.user.now l.asking.level)
    → SomeGives l.facts l.asking.user.now l.asking.node.now (rewrite_forms (drop l.part-index l.parts)) (IsLeft l.facts w l.asking) (Under l.facts l.asking.user.now l.asking.level))
    × (l.later ≡ true → IsUnfinished l.search l.asking.level)
