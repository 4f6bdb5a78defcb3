-- The members of a JSON object.
use Rattle.std.specs.Prelude.{ℕ, ◌&&◌, ◌||◌, Bool, true, false, List, [], ◌∷◌, Option, option_and_then, nat_eq}
use Rattle.std.specs.Cmp.Lexicographic.{pointwise}
use Rattle.serde_json.specs.Data.{Data, null, boolean, number, string, array, object, Members, no_members, member}
use Rattle.serde_json.specs.Find.{get, as_str}

abbrev pub is_text : List ℕ → List ℕ → Bool
is_text s t = pointwise nat_eq s t

abbrev pub is_among : List ℕ → List (List ℕ) → Bool
is_among k [] = false
is_among k (n ∷ ns) = is_text k n || is_among k ns

abbrev pub members_only : List (List ℕ) → Members → Bool
members_only ns no_members = true
members_only ns (member k d ms) = is_among k ns && members_only ns ms

-- an object with no member but those named
abbrev pub has_only : List (List ℕ) → Data → Bool
has_only ns null = false
has_only ns (boolean b) = false
has_only ns (number n) = false
has_only ns (string s) = false
has_only ns (array ds) = false
has_only ns (object ms) = members_only ns ms

-- the text of the member
abbrev pub text_at : List ℕ → Data → Option (List ℕ)
text_at k d = option_and_then as_str (get k d)
