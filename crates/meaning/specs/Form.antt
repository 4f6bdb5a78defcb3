-- Rewrites, as data: the userset rewrite rules of Pang et al., "Zanzibar", USENIX ATC 2019, section 2.3.
use Rattle.std.specs.Prelude.{ℕ, List}

mutual
  pub data Form : Type 0 where
    This : Form
    Computed : (relation : List ℕ) → Form
    TupleTo : (tupleset relation : List ℕ) → Form
    Union : (parts : Forms) → Form
    Intersection : (parts : Forms) → Form
    Exclusion : (base less : Form) → Form

  pub data Forms : Type 0 where
    none : Forms
    more : (first : Form) (others : Forms) → Forms
