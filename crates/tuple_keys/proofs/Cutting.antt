-- A text cut at the first byte that ends a part.
use Rattle.std.proofs.Common.{◌≡◌, ◌≢◌, ℕ, suc, ◌<◌, ◌==◌, false, List, [], ◌∷◌, ◌++◌, Some, None, Bor, length, get_or, refl, sym, ap, ◌∙◌, arith}
use Rattle.std.proofs.lemmas.Str.Pattern.{IsSplitOnceResult, split_parts}
use Rattle.tuple_keys.specs.Spelled.{before, after, has, last_part}
use Rattle.tuple_keys.proofs.Parts.{Lacks, before_joined, after_joined}
use Rattle.tuple_keys.proofs.Joining.{last_joined}

none_at : (end : ℕ) (xs : List ℕ) → ((i : ℕ) → i < length xs → get_or xs i 0 ≢ end) → has end xs ≡ false
none_at end [] others = refl
none_at end (x ∷ xs) others =
    let here : x ≢ end = others 0 (omega arith) in
    let other : (x == end) ≡ false = grind arith in
    rw other (none_at end xs (λ i h e. others (suc i) (omega arith) e))

-- what a split says
pub record CutAt (end : ℕ) (text first others : List ℕ) : Type 0 where
  pub lacks : Lacks end first
  pub joined : text ≡ first ++ end ∷ others

pub cut_at : (end : ℕ) → end < 128 → (text : List ℕ) (x : Bor (List ℕ) × Bor (List ℕ)) → IsSplitOnceResult end text (Some x) → CutAt end text x.0.now x.1.now
cut_at end ascii text x split =
    let parts = split_parts end text (Some x) split ascii in
    record { lacks = record { none = none_at end x.0.now parts.1 }; joined = parts.0 }

pub before_cut : (end : ℕ) (text first others : List ℕ) → CutAt end text first others → first ≡ before end text
before_cut end text first others c = sym (ap (before end) c.joined ∙ before_joined end first others c.lacks)

pub after_cut : (end : ℕ) (text first others : List ℕ) → CutAt end text first others → others ≡ after end text
after_cut end text first others c = sym (ap (after end) c.joined ∙ after_joined end first others c.lacks)

pub last_cut : (text first others : List ℕ) → CutAt 32 text first others → Some others ≡ last_part text
last_cut text first others c = sym (ap last_part c.joined ∙ last_joined first others c.lacks)

-- where there is none
pub uncut : (end : ℕ) → end < 128 → (text : List ℕ) → IsSplitOnceResult end text None → Lacks end text
uncut end ascii text split = record { none = none_at end text (split_parts end text None split ascii) }
