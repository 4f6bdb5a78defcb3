-- What the index tells of a revision.
use Rattle.std.proofs.Common.{ℕ, ◌≡◌, ◌≤◌, true, false, sym, ◌∙◌, ap, subst}
use Rattle.std.specs.Prelude.{◌↔◌, Bool, Result, Ok, Err, Option, Some, None, IsTrue, IfOk, IfNone}
use Rattle.std.specs.Result.{result_ok}
use Rattle.std.proofs.lemmas.Bool.{false≢true}
use Rattle.std.proofs.lemmas.Option.{none-some, same_Some}
use Rattle.names.specs.declared.object.Object.{Object}
use Rattle.names.specs.declared.node.Node.{Node}
use Rattle.meaning.specs.Config.{Configured, rel_of}
use Rattle.meaning.specs.Membership.{IsMember}
use Rattle.meaning.specs.Snap.{Snap}
use Rattle.meaning.specs.Reads as reads
use Rattle.config.specs.Valid as valid
use Rattle.config.specs.Valid.{is_indexed}
use Rattle.delta.specs.Layers.{IsLayerOf}
use Rattle.direct.specs.Revisions.{IsDirectOf}
use Rattle.leopard.specs.Groups.{IsGroup, GroupToGroup, MemberToGroup}
use Rattle.leopard.specs.Law.{MeetWhereMember}
use Rattle.group_index.specs.Indices.{TellsOf}
use Rattle.group_index.specs.declared.at.At.{At}

-- the revision's configuration is that of the index
pub told_config : (at : At) (S : Snap) → TellsOf at S → S.config ≡ at.index.now.layer.config
told_config at S told = ap (λ (T : Snap). T.config) (sym told.holds) ∙ (told.index_of.closures.tells at.rev told.from told.to).config

module _ (at : At) (S : Snap) (told : TellsOf at S) (P : Snap → Type 0) where
  -- what its closures tell of the revision, and what its direct groups do
  pub by_closures : ((snaps : ℕ → Snap) → IsLayerOf at.index.now.layer snaps → at.index.now.layer.base ≤ at.rev → at.rev ≤ at.index.now.layer.cursor → P (snaps at.rev)) → P S
  by_closures tell = subst P told.holds (tell told.snaps told.index_of.closures told.from told.to)

  pub by_direct : ((snaps : ℕ → Snap) → IsDirectOf at.index.now.direct snaps → at.index.now.direct.base ≤ at.rev → at.rev ≤ at.index.now.direct.cursor → P (snaps at.rev)) → P S
  by_direct tell = subst P told.holds (tell told.snaps told.index_of.direct
      (subst (λ b. b ≤ at.rev) (sym at.index.now.one_base) told.from) (subst (λ b. at.rev ≤ b) (sym at.index.now.one_cursor) told.to))

-- what both tell says who is a member
pub met_member : MeetWhereMember → (S : Snap) (u : Object) (g : Node) → valid.IsValid S.config → reads.IsValid S → IsGroup S.config g → (answer : Bool) (P Q : Node → Type 0)
    → ((n : Node) → P n ↔ GroupToGroup S g n) → ((n : Node) → Q n ↔ MemberToGroup S u n) → IsTrue answer ↔ ((n : Node) × P n × Q n) → IsTrue answer ↔ IsMember S u g
met_member law S u g v rv group answer P Q closure direct is = (
  λ h. let (n, p, q) = is.0 h in (law S u g v rv group).0 (n, (closure n).0 p, (direct n).0 q),
  λ m. let (n, leads, names) = (law S u g v rv group).1 m in is.1 (n, (closure n).1 leads, (direct n).1 names),
)

-- nobody whom no group names is a member of one
pub unnamed_member : MeetWhereMember → (S : Snap) (u : Object) (g : Node) → valid.IsValid S.config → reads.IsValid S → IsGroup S.config g → ((n : Node) → MemberToGroup S u n → ⊥) → IsTrue false ↔ IsMember S u g
unnamed_member law S u g v rv group nobody = (
  λ h. absurd (false≢true h),
  λ m. let (n, leads, names) = (law S u g v rv group).1 m in absurd (nobody n names),
)

-- the node is a group by the snapshot where it is one by the index
pub told_group : (at : At) (S : Snap) → TellsOf at S → (config : Configured) (g : Node) (answer : Bool) → config ≡ at.index.now.layer.config → answer ≡ is_indexed config (rel_of g) → answer ≡ true → IsGroup S.config g
told_group at S told config g answer same is indexed = subst (λ (k : Configured). IsGroup k g) (same ∙ sym (told_config at S told)) (sym is ∙ indexed)

-- what a call that gave this value ensures of it
pub ok_is : {T E : Type 0} (P : T → Type 0) (r : Result T E) (v : T) → Some v ≡ result_ok r → IfOk r P → P v
ok_is P (Ok x) v e p = subst P (sym (same_Some v x e)) p
ok_is P (Err f) v e p = absurd (none-some v (sym e))

-- and what holds in any case holds where it gave none
pub none_any : {T P : Type 0} (r : Option T) → P → IfNone r P
none_any (Some x) p = tt
none_any None p = p
