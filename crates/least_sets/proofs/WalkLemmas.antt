-- Walks turned round.
use Rattle.std.proofs.Common.{ℕ, ◌≡◌, Bool, true, List}
use Rattle.least_sets.specs.Walks.{Walk, here, on, IsReached, IsTouched}

pub walk_from : {arc : ℕ → ℕ → Bool} {n b c : ℕ} → arc n b ≡ true → Walk arc b c → Walk arc n c
walk_from e here = on here e
walk_from e (on w f) = on (walk_from e w) f

pub walk_turned : {arc back : ℕ → ℕ → Bool} {c n : ℕ} → ((a b : ℕ) → back a b ≡ true → arc b a ≡ true) → Walk back c n → Walk arc n c
walk_turned f here = here
walk_turned f (on {b = b} {c = c} w e) = walk_from (f b c e) (walk_turned f w)

pub touched_from_reached : {arc back : ℕ → ℕ → Bool} {starts : List ℕ} {n : ℕ} → ((a b : ℕ) → back a b ≡ true → arc b a ≡ true) → IsReached back starts n → IsTouched arc starts n
touched_from_reached f r = record { end = r.start; among = r.among; walk = walk_turned f r.walk }
