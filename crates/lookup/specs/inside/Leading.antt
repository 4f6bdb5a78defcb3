-- Where a rewrite looks outside subtracted parts, as tests.
use Rattle.std.specs.Prelude.{ℕ, ◌&&◌, ◌||◌, Bool, false, List, nat_eq}
use Rattle.std.specs.Cmp.Lexicographic.{pointwise}
use Rattle.meaning.specs.Form.{Form, Forms, This, Computed, TupleTo, Union, Intersection, Exclusion, none, more}

-- the form looks up the computed relation c
abbrev mutual
  pub computes : List ℕ → Form → Bool
  computes c This = false
  computes c (Computed d) = pointwise nat_eq c d
  computes c (TupleTo t d) = false
  computes c (Union ws) = some_computes c ws
  computes c (Intersection ws) = some_computes c ws
  computes c (Exclusion a b) = computes c a

  pub some_computes : List ℕ → Forms → Bool
  some_computes c none = false
  some_computes c (more w ws) = computes c w || some_computes c ws

-- the form goes along the tupleset t to the relation c
abbrev mutual
  pub follows : (t c : List ℕ) → Form → Bool
  follows t c This = false
  follows t c (Computed d) = false
  follows t c (TupleTo s d) = pointwise nat_eq t s && pointwise nat_eq c d
  follows t c (Union ws) = some_follows t c ws
  follows t c (Intersection ws) = some_follows t c ws
  follows t c (Exclusion a b) = follows t c a

  pub some_follows : (t c : List ℕ) → Forms → Bool
  some_follows t c none = false
  some_follows t c (more w ws) = follows t c w || some_follows t c ws
