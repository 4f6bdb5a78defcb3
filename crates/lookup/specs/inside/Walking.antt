-- What a walk up from a user finds.
use Rattle.std.specs.Prelude.{◌≡◌, ◌++◌, ℕ, List, true, false, Contains}
use Rattle.names.specs.declared.object.Object.{Object}
use Rattle.names.specs.declared.node.Node.{Node}
use Rattle.names.specs.declared.subject.Subject.{Subject}
use Rattle.meaning.specs.TupleSet as set
use Rattle.meaning.specs.TupleSet.{Tuples}
use Rattle.meaning.specs.Config.{Configured, Defined, Defines, rel_of}
use Rattle.meaning.specs.Snap.{Snap}
use Rattle.meaning.specs.Reads.{Reads}
use Rattle.by_subject.specs.Turned.{turned}
use Rattle.by_subject.specs.Complete.{Covers}
use Rattle.lookup.specs.declared.asked.Lookup.{Lookup}
use Rattle.lookup.specs.Found.{IsFound}
use Rattle.lookup.specs.inside.Leading.{follows}
use Rattle.lookup.specs.inside.Reach.{IsReach}
use Rattle.lookup.specs.inside.Underway.{IsRising}

-- nodes were added at the end
abbrev pub Grew : List Node → List Node → Type 0
Grew old new = (more : List Node) × (new ≡ old ++ more)

-- the node's tuple with the subject is found by its subject
abbrev pub IsNaming : Tuples → Subject → Node → Type 0
IsNaming subjects s n = set.contains subjects (turned (record { node = n; subject = s })) ≡ true

-- the nodes of q's object whose rewrites go along q's relation to one's are among these
abbrev pub HasFollowing : Configured → Node → List ℕ → List Node → Type 0
HasFollowing config q relation nodes = (n : Node) (d : Defined) → Defines config (rel_of n) d → n.object ≡ q.object → follows q.relation relation d.form ≡ true → Contains nodes n

-- the nodes whose rewrites look up m outside subtracted parts are among these, in each snapshot of the configuration whose tuples are found by their subjects
abbrev pub HasAbove : Configured → Tuples → Node → List Node → Type 0
HasAbove config subjects m nodes =
    (S : Snap) → S.config ≡ config → Covers subjects S.tuples → (n : Node) (d : Defined) → Defines S.config (rel_of n) d → Reads S n d.form false m → Contains nodes n

-- the nodes that a walk reaches from the user are among these, in each such snapshot
abbrev pub HasReached : Configured → Tuples → Object → List Node → Type 0
HasReached config subjects u nodes = (S : Snap) → S.config ≡ config → Covers subjects S.tuples → IsReach S u (Contains nodes)

-- they are in order, and the ids that are found in each such snapshot are among them
pub record AreCandidates (config : Configured) (subjects : Tuples) (asked : Lookup) (ids : List (List ℕ)) : Type 0 where
  pub rising : IsRising ids
  pub there : (S : Snap) → S.config ≡ config → Covers subjects S.tuples → (id : List ℕ) → IsFound S asked id → Contains ids id
