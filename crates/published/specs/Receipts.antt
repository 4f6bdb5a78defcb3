-- What a receipt says.
use Rattle.std.specs.Prelude.{ℕ, Bool}
use Rattle.published.specs.Known.{Known}

-- What a receipt says: the store's number, a revision, whether all posted steps are shown, and the list of
-- shown steps.
pub record ReceiptFacts : Type 0 where
  pub number : ℕ
  pub rev : ℕ
  pub shown : Bool
  pub published : Known
