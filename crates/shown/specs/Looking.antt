-- Which objects a lookup is answered, and why it is refused: ListObjects of OpenFGA, LookupResources of SpiceDB.
use Rattle.std.specs.Prelude.{◌≡◌, ℕ, true, false, Option, Some, None}
use Rattle.names.specs.declared.refusal.Refusal.{Refusal}
use Rattle.names.specs.declared.refusal.Refusal.TheVariants.{UnknownRelation, Memory}
use Rattle.meaning.specs.Admits.{has_relation}
use Rattle.rows.specs.Retained.{newest, snap_at}
use Rattle.zookie.specs.declared.consistency.Consistency.{Consistency}
use Rattle.zookie.specs.Fits.{IsFirstCause}
use Rattle.lookup.specs.declared.asked.Lookup.{Lookup}
use Rattle.lookup.specs.Found.{IsLookup}
use Rattle.shown.specs.declared.answer.Answer.{Answer}
use Rattle.shown.specs.declared.answer.Refused.{Refused}
use Rattle.shown.specs.declared.question.Objects.{Objects}
use Rattle.shown.specs.Standing.{Standing}
use Rattle.shown.specs.Answers.{IsAskedAt}

-- the answer is at a revision that fits, and has the objects that are asked for there
pub record IsLookedUp (s : Standing) (consistency : Consistency) (asked : Lookup) (rev : ℕ) (objects : Objects) : Type 0 where
  pub asked_at : IsAskedAt s consistency rev
  pub namespace : objects.namespace ≡ asked.relation.namespace
  pub objects_there : IsLookup (snap_at s.kept rev) asked objects.ids
  pub known : has_relation (snap_at s.kept rev).config asked.relation ≡ true

-- the namespace lacks the relation at the revision that was chosen
pub record IsLackingAt (s : Standing) (consistency : Consistency) (asked : Lookup) (at : Option ℕ) : Type 0 where
  pub rev : ℕ
  pub at_rev : at ≡ Some rev
  pub asked_at : IsAskedAt s consistency rev
  pub unknown : has_relation (snap_at s.kept rev).config asked.relation ≡ false

-- the first cause of the zookie, or else that the relation is not there; or there was no memory
abbrev pub LookupRefused : Standing → Consistency → Lookup → Refusal → Option ℕ → Type 0
LookupRefused s consistency asked UnknownRelation at = IsLackingAt s consistency asked at
LookupRefused s consistency asked Memory at = at ≡ None
LookupRefused s consistency asked why at =
    IsFirstCause consistency s.kept.number s.kept.floor (newest s.kept) why × (at ≡ None)

-- the answer has such objects, at the revision that it names
abbrev pub AreObjects : Standing → Consistency → Lookup → Answer Objects → Type 0
AreObjects s consistency asked answer = IsLookedUp s consistency asked answer.rev answer.value

-- the question is refused for this, at the revision that is named, if one is
abbrev pub IsLookupRefusal : Standing → Consistency → Lookup → Refused → Type 0
IsLookupRefusal s consistency asked refused = LookupRefused s consistency asked refused.why refused.at
