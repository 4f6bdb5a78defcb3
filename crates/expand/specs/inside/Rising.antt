-- A configuration's relations in order, by namespace and then by name.
use Rattle.std.specs.Prelude.{Bool, true, List, [], ◌∷◌, ◌&&◌}
use Rattle.std.specs.Ordering.{is_lt}
use Rattle.config_text.specs.declared.relation.Relation.{Relation}
use Rattle.config_text.specs.Forms.{defined_of}
use Rattle.config_text.specs.Order.{relation_cmp}

-- the relation is below the first of the others
abbrev pub is_below : Relation → List Relation → Bool
is_below r [] = true
is_below r (s ∷ ss) = is_lt (relation_cmp (defined_of r).rel (defined_of s).rel)

-- each relation is below the next
abbrev pub is_rising : List Relation → Bool
is_rising [] = true
is_rising (r ∷ rs) = is_below r rs && is_rising rs
