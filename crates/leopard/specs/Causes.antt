-- Why a question about groups is refused: each cause is looked for over the whole expression before the next.
use Rattle.std.specs.Prelude.{◌≡◌, ℕ, ◌||◌, Bool, true, false, not}
use Rattle.names.specs.declared.refusal.Refusal.{Refusal}
use Rattle.names.specs.declared.refusal.Refusal.TheVariants.{Malformed, UnknownRelation, NotIndexed, Memory}
use Rattle.meaning.specs.Config.{Configured, rel_of}
use Rattle.meaning.specs.Admits.{has_relation}
use Rattle.config.specs.Valid.{is_indexed}
use Rattle.leopard.specs.Query.{Query, Queries, Member2Group, Group2Group, Union, Intersection, Exclusion, none, more, is_allowed}

-- the closure of a group is asked for whose relation the configuration lacks
abbrev mutual
  pub names_unknown : Configured → Query → Bool
  names_unknown c (Member2Group u) = false
  names_unknown c (Group2Group g) = not (has_relation c (rel_of g))
  names_unknown c (Union qs) = some_name_unknown c qs
  names_unknown c (Intersection qs) = some_name_unknown c qs
  names_unknown c (Exclusion a b) = names_unknown c a || names_unknown c b

  pub some_name_unknown : Configured → Queries → Bool
  some_name_unknown c none = false
  some_name_unknown c (more q qs) = names_unknown c q || some_name_unknown c qs

-- one is asked for whose relation is not indexed
abbrev mutual
  pub names_unindexed : Configured → Query → Bool
  names_unindexed c (Member2Group u) = false
  names_unindexed c (Group2Group g) = not (is_indexed c (rel_of g))
  names_unindexed c (Union qs) = some_name_unindexed c qs
  names_unindexed c (Intersection qs) = some_name_unindexed c qs
  names_unindexed c (Exclusion a b) = names_unindexed c a || names_unindexed c b

  pub some_name_unindexed : Configured → Queries → Bool
  some_name_unindexed c none = false
  some_name_unindexed c (more q qs) = names_unindexed c q || some_name_unindexed c qs

-- the limits are kept, each relation is there and each is indexed
pub record IsAnswerable (c : Configured) (q : Query) (limit : ℕ) : Type 0 where
  pub allowed : is_allowed q limit ≡ true
  pub known : names_unknown c q ≡ false
  pub indexed : names_unindexed c q ≡ false

abbrev pub AskCause : Configured → Query → ℕ → Refusal → Type 0
AskCause c q limit Malformed = is_allowed q limit ≡ false
AskCause c q limit UnknownRelation = (is_allowed q limit ≡ true) × (names_unknown c q ≡ true)
AskCause c q limit NotIndexed = (is_allowed q limit ≡ true) × (names_unknown c q ≡ false) × (names_unindexed c q ≡ true)
AskCause c q limit Memory = Unit {0}
AskCause c q limit _ = ⊥
