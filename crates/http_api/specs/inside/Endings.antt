-- The short texts that end a head which is cut short: no other text that ends it is shorter.
use Rattle.std.specs.Prelude.{ℕ, ◌≡◌, ◌<◌, ◌==◌, ◌⊎◌, List, length, drop, Bool, codes}
use Rattle.std.specs.List.{count_by}
use Rattle.httparse.specs.Grammar.{RequestHead, ReadsRequest}
use Rattle.http_api.specs.Heads.{max_fields}

-- a line end that is half there, and then the shortest head
abbrev pub shortest : List ℕ
shortest = codes "\nA B HTTP/1.0\n\n"

-- what ends a field's name
abbrev pub after_name : List ℕ
after_name = codes ":\n\n"

abbrev pub IsEnding : List ℕ → Type 0
IsEnding end = ((at : ℕ) × (at < 15) × (end ≡ drop at shortest)) ⊎ (end ≡ after_name)

-- the text has a head at its front, of at most so many fields
abbrev pub HasHead : List ℕ → Type 0
HasHead text = (head : RequestHead) × (rest : List ℕ) × ReadsRequest text head rest

abbrev pub HasNoHead : List ℕ → Type 0
HasNoHead text = (head : RequestHead) (rest : List ℕ) → ReadsRequest text head rest → max_fields < length head.fields

abbrev pub is_space : ℕ → Bool
is_space b = b == 32

abbrev pub spaces : List ℕ → ℕ
spaces bytes = count_by is_space bytes
