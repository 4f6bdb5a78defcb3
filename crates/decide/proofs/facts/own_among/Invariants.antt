use Rattle.std.proofs.Common.{◌≡◌, ℕ, ◌<◌, take, get_or}
use Rattle.std.specs.Prelude.{filter}
use Rattle.versions.specs.Named.{nodes_in}
use Rattle.tuple_keys.specs.Named.{is_of, user_tuple}
use Rattle.decide.proofs.facts.own_among.Given as goal

-- none before is the user's, and the nodes of the tuples so far
abbrev pub invariant-loop-tuple : goal.invariant-loop-tuple
invariant-loop-tuple l =
    ((k : ℕ) → k < l.tuple-index → get_or l.tuples k (user_tuple l.node l.user) ≡ user_tuple l.node l.user → ⊥)
    × (l.nodes.items ≡ nodes_in (filter (is_of l.node) (take l.tuple-index l.tuples)))
