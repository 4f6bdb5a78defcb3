-- What was read of a view.
use Rattle.std.specs.Prelude.{◌≡◌, ◌<◌, ◌↔◌, ℕ, List, Contains, Option, IfSome, filter, length, slice_index_or}
use Rattle.std.specs.Borrow.{Bor}
use Rattle.names.specs.declared.object.Object.{Object}
use Rattle.meaning.specs.TupleSet as set
use Rattle.meaning.specs.Snap.{Snap}
use Rattle.meaning.specs.Membership.{HasOne}
use Rattle.tuple_keys.specs.Named.{is_at}
use Rattle.decide.specs.declared.reads.Read.{Read}
use Rattle.decide.specs.declared.reads.Reads.{Reads}
use Rattle.decide.specs.inside.Reads.{node_with}

-- the objects that the object's tuples of the tupleset name
abbrev pub AreNamed : Snap → Object → List ℕ → List Object → Type 0
AreNamed S o tupleset objects = (p : Object) → Contains objects p ↔ HasOne S (node_with tupleset o) p

-- where an object's tuples are few, those that were read are all
pub record IsRead (S : Snap) (r : Read) : Type 0 where
  pub few : IfSome r.few (λ v. v.items ≡ filter (is_at r.object) (set.items S.tuples))
  pub named : IfSome r.named (λ n. AreNamed S r.object n.tupleset n.objects.items)

abbrev pub AreRead : Snap → Reads → Type 0
AreRead S reads = (r : Read) → Contains reads.read.items r → IsRead S r

-- what was read of the object stands at the place
abbrev pub IsReadAt : Reads → Object → ℕ → Type 0
IsReadAt reads o i = (i < length reads.read.items) × ((r : Read) → (slice_index_or reads.read.items i r).object ≡ o)

-- what was read is of the object, if anything was read
abbrev pub IsReadOf : Snap → Object → Option (Bor Read) → Type 0
IsReadOf S o read = IfSome read (λ r. IsRead S r.now × (r.now.object ≡ o))
