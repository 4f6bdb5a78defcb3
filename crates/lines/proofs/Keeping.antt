-- What is kept of a line decides its answer.
use Rattle.std.proofs.Common.{◌≡◌, ℕ, zero, suc, ◌<◌, ◌≤◌, ◌++◌, ◌==◌, ◌&&◌, ◌||◌, Bool, true, false, not, List, [], ◌∷◌, length, take, refl, ap, ◌∙◌, arith, nat_le, nat_eq, if◌then◌else◌, codes}
use Rattle.std.proofs.lemmas.List.{length-take, take_all}
use Rattle.std.specs.Cmp.Lexicographic.{pointwise}
use Rattle.names.specs.Calls.{call_of}
use Rattle.lines.specs.Text.{word_of, body_of}
use Rattle.lines.specs.PendingLine.{pending_of, has_space, push_below, with_byte, word_room, body_room}

take_nil : (n : ℕ) → take {A = ℕ} n [] ≡ []
take_nil zero = refl
take_nil (suc n) = refl

take_push : (n : ℕ) (xs : List ℕ) (b : ℕ) → take n (xs ++ b ∷ []) ≡ push_below n (take n xs) b
take_push zero xs b = refl
take_push (suc n) [] b = let e = take_nil n in grind (arith, e)
take_push (suc n) (x ∷ xs) b = let e = take_push n xs b in grind (arith, e)

word_of_more : (line : List ℕ) (b : ℕ) → word_of (line ++ b ∷ []) ≡ (if has_space line || b == 32 then word_of line else word_of line ++ b ∷ [])
word_of_more [] b = grind arith
word_of_more (x ∷ line) b = let e = word_of_more line b in grind (arith, e)

body_of_none : (line : List ℕ) → has_space line ≡ false → body_of line ≡ []
body_of_none [] h = refl
body_of_none (x ∷ line) h = let e = body_of_none line in grind (arith, e)

body_of_more : (line : List ℕ) (b : ℕ) → body_of (line ++ b ∷ []) ≡ (if has_space line then body_of line ++ b ∷ [] else [])
body_of_more [] b = grind arith
body_of_more (x ∷ line) b = let e = body_of_more line b in grind (arith, e)

has_space_more : (line : List ℕ) (b : ℕ) → has_space (line ++ b ∷ []) ≡ (has_space line || b == 32)
has_space_more [] b = grind arith
has_space_more (x ∷ line) b = let e = has_space_more line b in grind (arith, e)

parts_kept : (spaced space : Bool) (word body : List ℕ) (b : ℕ) → (b == 32) ≡ space →
    with_byte (record { word = take word_room word; spaced = spaced; body = take body_room body }) b
    ≡ record { word = take word_room (if spaced || space then word else word ++ b ∷ []); spaced = spaced || space; body = take body_room (if spaced then body ++ b ∷ [] else body) }
parts_kept true space word body b e = grind (arith, take_push body_room body b)
parts_kept false true word body b e = grind arith
parts_kept false false word body b e = grind (arith, take_push word_room word b)

body_when : (c : Bool) (line : List ℕ) (b : ℕ) → has_space line ≡ c → (if c then body_of line ++ b ∷ [] else body_of line) ≡ (if c then body_of line ++ b ∷ [] else [])
body_when true line b e = refl
body_when false line b e = body_of_none line e

pub pending_more : (line : List ℕ) (b : ℕ) → with_byte (pending_of line) b ≡ pending_of (line ++ b ∷ [])
pending_more line b =
    parts_kept (has_space line) (b == 32) (word_of line) (body_of line) b refl
    ∙ rw (body_when (has_space line) line b refl, ← body_of_more line b, ← word_of_more line b, ← has_space_more line b) refl

-- a line of which nothing is kept is empty
pub empty_from_pending : (line : List ℕ) → (not (pending_of line).spaced && length (pending_of line).word == 0) ≡ true → line ≡ []
empty_from_pending [] h = refl
empty_from_pending (x ∷ line) h = grind arith

pub fits_pending : (n : ℕ) (xs : List ℕ) → nat_le (length (take (suc n) xs)) n ≡ nat_le (length xs) n
fits_pending n xs = grind (arith, length-take (suc n) xs)

pub whole_when_fits : (n : ℕ) (xs : List ℕ) → nat_le (length xs) n ≡ true → take (suc n) xs ≡ xs
whole_when_fits n xs h = let small : length xs ≤ n = grind arith in take_all (suc n) xs (omega arith)

same_short : (n : ℕ) (word name : List ℕ) → length name < n → pointwise nat_eq (take n word) name ≡ pointwise nat_eq word name
same_short zero word name h = absurd (omega arith)
same_short (suc n) [] name h = refl
same_short (suc n) (x ∷ word) [] h = refl
same_short (suc n) (x ∷ word) (y ∷ name) h = ap (λ t. nat_eq x y && t) (same_short n word name (omega arith))

pub call_pending : (word : List ℕ) → call_of (take word_room word) ≡ call_of word
call_pending word =
    rw (
      same_short word_room word (codes "write") (omega arith),
      same_short word_room word (codes "config") (omega arith),
      same_short word_room word (codes "check") (omega arith),
      same_short word_room word (codes "read") (omega arith),
      same_short word_room word (codes "expand") (omega arith),
      same_short word_room word (codes "lookup") (omega arith),
      same_short word_room word (codes "watch") (omega arith),
      same_short word_room word (codes "leopard") (omega arith),
      same_short word_room word (codes "hot") (omega arith),
      same_short word_room word (codes "trim") (omega arith),
      same_short word_room word (codes "catchup") (omega arith),
      same_short word_room word (codes "rebuild") (omega arith),
      same_short word_room word (codes "state") (omega arith),
    )
    refl
