-- What is kept and told of the direct groups of users at the revisions from a base to a cursor (Zanzibar, section 3.2.4).
use Rattle.std.specs.Prelude.{ℕ, ◌+◌, ◌≡◌, ◌≤◌, ◌⊎◌, ◌↔◌, ◌++◌, List, Some, Contains, map, nat_eq}
use Rattle.std.specs.List.{slice_get, IsDistinct}
use Rattle.names.specs.declared.object.Object.{Object}
use Rattle.names.specs.declared.node.Node.{Node}
use Rattle.names.specs.declared.commit.Event.{Event}
use Rattle.names.specs.declared.commit.Commit.TheVariants.{Tuples}
use Rattle.meaning.specs.Snap.{Snap}
use Rattle.meaning.specs.History.{after_commit}
use Rattle.leopard.specs.Groups.{MemberToGroup}
use Rattle.direct.specs.Named.{IsDirect, Names, AreWithin}
use Rattle.direct.specs.Before.{set_in, set_at}
use Rattle.direct.specs.declared.direct.Direct.{Direct}
use Rattle.direct.specs.declared.noted.EarlierGroups.{EarlierGroups}

-- the groups that are kept of each user at the revision, by numbers
abbrev pub sets_at : Direct → ℕ → ℕ → List ℕ
sets_at direct rev user = set_at direct.earlier.items direct.kept.sets.items user rev

-- by what is kept the group names the user at the revision
abbrev pub NamesAt : Direct → ℕ → Object → Node → Type 0
NamesAt direct rev u n = Names direct.kept.users direct.kept.groups (sets_at direct rev) u n

-- what is told of a revision is what the snapshot holds
pub record Tells (direct : Direct) (rev : ℕ) (S : Snap) : Type 0 where
  pub config : S.config ≡ direct.config
  pub groups : (u : Object) (n : Node) → NamesAt direct rev u n ↔ MemberToGroup S u n
  pub within : AreWithin direct.kept.users direct.kept.groups (sets_at direct rev)

-- They are those of the snapshots from the base to the cursor.
pub record IsDirectOf (direct : Direct) (snaps : ℕ → Snap) : Type 0 where
  pub order : direct.base ≤ direct.cursor
  pub tells : (rev : ℕ) → direct.base ≤ rev → rev ≤ direct.cursor → Tells direct rev (snaps rev)

-- the snapshot of the next revision is that after a commit of events
abbrev pub IsNext : (ℕ → Snap) → ℕ → List Event → Type 0
IsNext snaps rev events = snaps (rev + 1) ≡ after_commit (snaps rev) (Tuples events)

-- an event is on a tuple by which a group names the user with this number
abbrev pub IsNamed : Direct → List Event → ℕ → Type 0
IsNamed direct events user = (e : Event) × Contains events e × IsDirect direct.config e.tuple × (slice_get direct.kept.users user ≡ Some e.tuple.subject.object)

-- What a commit notes stands at the end, with its revision: of each user whose groups it changes, once, those from before. An event names each of them.
pub record NotesChanged (old new : Direct) (events : List Event) : Type 0 where
  pub more : List EarlierGroups
  pub noted : new.earlier.items ≡ old.earlier.items ++ more
  pub once : IsDistinct nat_eq (map (λ (e : EarlierGroups). e.user) more)
  pub named : (e : EarlierGroups) → Contains more e → (e.rev ≡ new.cursor) × IsNamed new events e.user
  pub was : (e : EarlierGroups) → Contains more e → (e.groups ≡ set_in old.kept.sets.items e.user) × ¬ (set_in new.kept.sets.items e.user ≡ e.groups)
  pub others : (user : ℕ) → ((e : EarlierGroups) × Contains more e × (e.user ≡ user)) ⊎ (set_in new.kept.sets.items user ≡ set_in old.kept.sets.items user)
