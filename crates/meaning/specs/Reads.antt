-- Which nodes a rewrite looks up, and valid snapshots.
use Rattle.std.specs.Prelude.{◌≡◌, ℕ, Bool, true, false, ◌⊎◌, Contains}
use Rattle.meaning.specs.TupleSet as set
use Rattle.names.specs.declared.object.Object.{Object}
use Rattle.names.specs.declared.node.Node.{Node}
use Rattle.names.specs.declared.tuple.Tuple.{Tuple}
use Rattle.names.specs.declared.relation.RelationName.{RelationName}
use Rattle.meaning.specs.Snap.{Snap}
use Rattle.meaning.specs.Admits.{Admits}
use Rattle.meaning.specs.Form.{Form, Forms, This, Computed, TupleTo, Union, Intersection, Exclusion, none, more}
use Rattle.meaning.specs.Levels.{IsLevel}
use Rattle.meaning.specs.Config.{Defined, Defines, Has, Step}
use Rattle.meaning.specs.Membership.{HasOne, HasSet}

-- w at the node n looks up the node m, under a subtracted part where the sign is true
abbrev mutual
  pub Reads : Snap → Node → Form → Bool → Node → Type 0
  Reads S n This sign m = (sign ≡ false) × HasSet S n m
  Reads S n (Computed c) sign m = (sign ≡ false) × (m ≡ record { object = n.object; relation = c })
  Reads S n (TupleTo t c) sign m = (sign ≡ false) × ((p : Object) × HasOne S (record { object = n.object; relation = t }) p × Has S.config (record { namespace = p.namespace; relation = c }) × (m ≡ record { object = p; relation = c }))
  Reads S n (Union ws) sign m = SomeReads S n ws sign m
  Reads S n (Intersection ws) sign m = SomeReads S n ws sign m
  Reads S n (Exclusion a b) sign m = Reads S n a sign m ⊎ ((sign ≡ true) × ((s : Bool) × Reads S n b s m))

  pub SomeReads : Snap → Node → Forms → Bool → Node → Type 0
  SomeReads S n none sign m = ⊥
  SomeReads S n (more w ws) sign m = Reads S n w sign m ⊎ SomeReads S n ws sign m

-- each relation is defined once and has a level, and each tuple is admitted
pub record IsValid (S : Snap) : Type 0 where
  pub once : (r : RelationName) (d e : Defined) → Defines S.config r d → Defines S.config r e → d ≡ e
  pub levels : (r : RelationName) → Has S.config r → (k : ℕ) × IsLevel (Step S.config) r k
  pub admitted : (t : Tuple) → Contains (set.items S.tuples) t → Admits S.config t
