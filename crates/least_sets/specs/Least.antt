-- Least sets, a user at a time.
use Rattle.std.specs.Prelude.{ℕ, ◌≡◌, ◌<◌, ◌≤◌, Bool, true, false, ◌||◌}
use Rattle.least_sets.specs.World.{Fact, gives, has, arcs_of, plain_of, taken_of}

-- a step goes to a level that is no higher, and where it takes members away to a lower one
pub record IsLevelled (world : ℕ → Fact) : Type 0 where
  pub plain : (n m : ℕ) → has (plain_of (world n).shape) m ≡ true → (world m).level ≤ (world n).level
  pub taken : (n m : ℕ) → has (taken_of (world n).shape) m ≡ true → (world m).level < (world n).level

-- A node of the part holds the user by finitely many steps of the rules: each step rests on nodes `from` that hold the user
-- by fewer steps. A node outside holds whom it holds in `set`, and so does each node that takes members away.
pub data Derived (world : ℕ → Fact) (part : ℕ → Bool) (user : ℕ) (set : ℕ → Bool) : ℕ → Type 0 where
  outside : {n : ℕ} → part n ≡ false → set n ≡ true → Derived world part user set n
  follows : {n : ℕ} → part n ≡ true → (from : ℕ → Bool)
      → ((m : ℕ) → from m ≡ true → has (plain_of (world n).shape) m ≡ true)
      → ((m : ℕ) → from m ≡ true → Derived world part user set m)
      → gives (has (world n).own user) from set (world n).shape ≡ true
      → Derived world part user set n

-- `set` is the least one: it is closed under the rules of the nodes `part`, and each of its nodes there is derived,
-- where the nodes outside are what they are in `set`
pub record IsLeastIn (world : ℕ → Fact) (part : ℕ → Bool) (user : ℕ) (set : ℕ → Bool) : Type 0 where
  pub closed : (n : ℕ) → part n ≡ true → gives (has (world n).own user) set set (world n).shape ≡ true → set n ≡ true
  pub derived : (n : ℕ) → part n ≡ true → set n ≡ true → Derived world part user set n

-- it is in every set that is closed where that one has what it has outside, and takes away what it has
abbrev pub LeastIsInAll : Type 0
LeastIsInAll =
    (world : ℕ → Fact) (part : ℕ → Bool) (user : ℕ) (set other : ℕ → Bool)
    → IsLeastIn world part user set
    → ((n : ℕ) → part n ≡ false → set n ≡ true → other n ≡ true)
    → ((n : ℕ) → part n ≡ true → gives (has (world n).own user) other set (world n).shape ≡ true → other n ≡ true)
    → (n : ℕ) → set n ≡ true → other n ≡ true

-- the nodes `stay` are nodes `part`, name only one another, and have kept their facts
pub record IsUntouched (old new : ℕ → Fact) (part stay : ℕ → Bool) : Type 0 where
  pub within : (n : ℕ) → stay n ≡ true → part n ≡ true
  pub inside : (n m : ℕ) → stay n ≡ true → has (arcs_of (old n).shape) m ≡ true → stay m ≡ true
  pub same : (n : ℕ) → stay n ≡ true → new n ≡ old n

-- the touched nodes, solved over what the untouched ones held before, and the untouched ones are the least sets of both
abbrev pub RefreshIsLeast : Type 0
RefreshIsLeast =
    (old new : ℕ → Fact) (part stay touched : ℕ → Bool) (user : ℕ) (before after : ℕ → Bool)
    → IsLeastIn old part user before
    → IsUntouched old new part stay
    → ((n : ℕ) → stay n ≡ true → after n ≡ before n)
    → IsLeastIn new touched user after
    → IsLeastIn new (λ n. stay n || touched n) user after

abbrev pub LeastIsOne : Type 0
LeastIsOne =
    (world : ℕ → Fact) (part : ℕ → Bool) (user : ℕ) (one other : ℕ → Bool)
    → IsLevelled world
    → ((n m : ℕ) → part n ≡ true → has (arcs_of (world n).shape) m ≡ true → part m ≡ true)
    → IsLeastIn world part user one
    → IsLeastIn world part user other
    → (n : ℕ) → part n ≡ true → one n ≡ other n

-- Level by level: it is in each set that has what it has at the lower levels, and that is closed at the level by what it takes away
abbrev pub LeastByLevels : Type 0
LeastByLevels =
    (world : ℕ → Fact) (part : ℕ → Bool) (user : ℕ) (set other : ℕ → Bool) (k : ℕ)
    → IsLevelled world
    → IsLeastIn world part user set
    → ((n : ℕ) → part n ≡ false → (world n).level ≤ k → set n ≡ true → other n ≡ true)
    → ((n : ℕ) → (world n).level < k → set n ≡ true → other n ≡ true)
    → ((n : ℕ) → part n ≡ true → (world n).level ≡ k → gives (has (world n).own user) other set (world n).shape ≡ true → other n ≡ true)
    → (n : ℕ) → (world n).level ≤ k → set n ≡ true → other n ≡ true

-- Two least sets that agree on the nodes outside that are named from inside agree inside. It is what an evaluator with an oracle rests on.
abbrev pub LeastIsOneOver : Type 0
LeastIsOneOver =
    (world : ℕ → Fact) (part : ℕ → Bool) (user : ℕ) (one other : ℕ → Bool)
    → IsLevelled world
    → ((n m : ℕ) → part n ≡ true → has (arcs_of (world n).shape) m ≡ true → part m ≡ false → one m ≡ other m)
    → IsLeastIn world part user one
    → IsLeastIn world part user other
    → (n : ℕ) → part n ≡ true → one n ≡ other n

-- a least set is the least one of each smaller part, over what it has elsewhere
abbrev pub LeastIsLeastWithin : Type 0
LeastIsLeastWithin =
    (world : ℕ → Fact) (part smaller : ℕ → Bool) (user : ℕ) (set : ℕ → Bool)
    → ((n : ℕ) → smaller n ≡ true → part n ≡ true)
    → IsLeastIn world part user set
    → IsLeastIn world smaller user set
