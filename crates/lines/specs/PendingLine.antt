-- What is pending of a line that has not ended: no more than decides its answer.
use Rattle.std.specs.Prelude.{ℕ, ◌+◌, ◌==◌, ◌||◌, ◌++◌, List, [], ◌∷◌, length, Bool, true, false, if◌then◌else◌, nat_lt, take}
use Rattle.names.specs.declared.limits.TheConstants.{MAX_BODY_LEN}
use Rattle.lines.specs.Text.{word_of, body_of}

-- the beginnings of its word and of its body, and whether there was a space
pub record PendingLine : Type 0 where
  pub word : List ℕ
  pub spaced : Bool
  pub body : List ℕ

abbrev pub word_room : ℕ
word_room = 16

abbrev pub body_room : ℕ
body_room = MAX_BODY_LEN + 1

abbrev pub has_space : List ℕ → Bool
has_space [] = false
has_space (b ∷ bs) = (b == 32) || has_space bs

abbrev pub pending_of : List ℕ → PendingLine
pending_of line = record { word = take word_room (word_of line); spaced = has_space line; body = take body_room (body_of line) }

-- the byte goes on at the end, unless there are as many already
abbrev pub push_below : ℕ → List ℕ → ℕ → List ℕ
push_below n xs b = if nat_lt (length xs) n then xs ++ b ∷ [] else xs

abbrev pub with_byte : PendingLine → ℕ → PendingLine
with_byte k b = if k.spaced then record k { body = push_below body_room k.body b } else (if b == 32 then record k { spaced = true } else record k { word = push_below word_room k.word b })
