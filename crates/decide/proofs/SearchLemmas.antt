-- A search that grew: what held of it holds still.
use Rattle.std.proofs.Common.{◌≡◌, ◌≤◌, ℕ, length, refl, sym, ◌∙◌, subst, inl, inr, ⊎_elim, arith}
use Rattle.std.specs.Prelude.{Option, Vec, Some, None, IfSome}
use Rattle.std.specs.Global.{Global}
use Rattle.names.specs.declared.object.Object.{Object}
use Rattle.names.specs.declared.node.Node.{Node}
use Rattle.meaning.specs.Snap.{Snap}
use Rattle.meaning.specs.Membership.{RelationGives}
use Rattle.meaning.proofs.GivesLemmas.{relation_grows}
use Rattle.decide.specs.declared.search.Search.{Search}
use Rattle.decide.specs.declared.search.Opened.{Opened}
use Rattle.decide.specs.declared.search.Parents.{Parents}
use Rattle.decide.proofs.Elements.{holds_same}
use Rattle.decide.specs.inside.Under.{Under}
use Rattle.decide.specs.inside.Searches.{Stands, Waits, IsMore, Keeps, Grew, IsNumberOf}
use Rattle.decide.specs.inside.Reads.{AreOwn, AreParents, IsKept}
use Rattle.decide.specs.inside.Running.{IsHope, IsStuck}

pub more_refl : (e : Opened) → IsMore e e
more_refl e = record { node = refl; level = refl; place = refl; sure = refl; waiting = λ i c. c }

pub more_trans : (e f g : Opened) → IsMore e f → IsMore f g → IsMore e g
more_trans e f g a b = record {
  node = b.node ∙ a.node;
  level = b.level ∙ a.level;
  place = b.place ∙ a.place;
  sure = b.sure ∙ a.sure;
  waiting = λ i c. b.waiting i (a.waiting i c);
}

pub grew_refl : (s : Search) → Grew s s
grew_refl s = record { stands = λ i e at. (e, at, more_refl e); stacked = λ l i c. c; long = refl; frames = refl; sures = refl; rises = inr (refl, refl) }

pub grew_trans : (r s t : Search) → Grew r s → Grew s t → Grew r t
grew_trans r s t a b = record {
  stands = λ i e at.
      let f = a.stands i e at in
      let g = b.stands i f.0 f.1 in
      (g.0, g.1, more_trans e f.0 g.0 f.2 g.2);
  stacked = λ l i c. b.stacked l i (a.stacked l i c);
  long = b.long ∙ a.long;
  frames = b.frames ∙ a.frames;
  sures = b.sures ∙ a.sures;
  rises = ⊎_elim
      (λ first. inl (⊎_elim (λ then. omega (arith, first, then)) (λ same. let l = same.1 in omega (arith, first, l)) b.rises))
      (λ same. let l = same.1 in ⊎_elim (λ then. inl (omega (arith, then, l))) (λ again. inr (again.0 ∙ same.0, again.1 ∙ l)) b.rises)
      a.rises;
}

pub grew_keeps : (s t : Search) → Grew s t → Keeps s t
grew_keeps s t grew = record { stands = grew.stands; stacked = grew.stacked; long = grew.long }

pub grew_long : (s t : Search) → Grew s t → length s.opened.items ≤ length t.opened.items
grew_long s t grew = ⊎_elim (λ less. omega (arith, less)) (λ same. let l = same.1 in omega (arith, l)) grew.rises

pub keeps_waits : (s t : Search) (m : Node) (i : ℕ) → Keeps s t → Waits s m i → Waits t m i
keeps_waits s t m i keeps (j, e, at, node, sure, waits) =
    let f = keeps.stands j e at in
    (j, f.0, f.1, f.2.node ∙ node, f.2.sure ∙ sure, f.2.waiting i waits)

pub grew_waits : (s t : Search) (m : Node) (i : ℕ) → Grew s t → Waits s m i → Waits t m i
grew_waits s t m i grew = keeps_waits s t m i (grew_keeps s t grew)

pub grew_number : (s t : Search) (i : ℕ) (n : Node) (k : ℕ) → Grew s t → IsNumberOf s i n k → IsNumberOf t i n k
grew_number s t i n k grew (e, at, node, level) =
    let f = grew.stands i e at in
    (f.0, f.1, f.2.node ∙ node, f.2.level ∙ level)

-- where all that waited waits, fewer are hopes
pub waits_stuck : (S : Snap) (u : Object) (s t : Search) (i : ℕ) (e f : Opened)
    → ((m : Node) → Waits s m i → Waits t m i) → f.node ≡ e.node → f.level ≡ e.level
    → IsStuck S u s i e → IsStuck S u t i f
waits_stuck S u s t i e f waits node level stuck gives =
    let at_node : RelationGives S u e.node (IsHope S u t i f.level) (Under S u f.level) =
    subst (λ n. RelationGives S u n (IsHope S u t i f.level) (Under S u f.level)) node gives in
    let at_level : RelationGives S u e.node (IsHope S u t i e.level) (Under S u e.level) =
    subst (λ k. RelationGives S u e.node (IsHope S u t i k) (Under S u k)) level at_node in
    stuck (relation_grows S u e.node (IsHope S u t i e.level) (IsHope S u s i e.level)
    (Under S u e.level) (Under S u e.level)
    (λ m hope. (hope.0, λ w. hope.1 (waits m w))) (λ m. (λ a. a, λ a. a)) at_level)

pub grew_stuck : (S : Snap) (u : Object) (s t : Search) (i : ℕ) (e f : Opened) → Keeps s t
    → Stands s i e → Stands t i f → IsMore e f → IsStuck S u s i e → IsStuck S u t i f
grew_stuck S u s t i e f grew _ _ more stuck =
    waits_stuck S u s t i e f (λ m w. keeps_waits s t m i grew w) more.node more.level stuck

-- ---- what is kept of nodes

pub kept_none : (S : Snap) (u : Object) (e : Opened) → e.own ≡ None → e.parents ≡ None → IsKept S u e
kept_none S u e own parents = record {
  own = subst (λ o. IfSome o (λ v. AreOwn S u e.node v.items)) (sym own) tt;
  parents = subst (λ o. IfSome o (AreParents S e.node)) (sym parents) tt;
}

pub kept_same : (S : Snap) (u : Object) (e f : Opened) → f.node ≡ e.node → f.own ≡ e.own → f.parents ≡ e.parents → IsKept S u e → IsKept S u f
kept_same S u e f node own parents h = record {
  own = subst (λ o. IfSome o (λ v. AreOwn S u f.node v.items)) (sym own)
      (subst (λ n. IfSome e.own (λ v. AreOwn S u n v.items)) (sym node) h.own);
  parents = subst (λ o. IfSome o (AreParents S f.node)) (sym parents)
      (subst (λ n. IfSome e.parents (AreParents S n)) (sym node) h.parents);
}

-- what was kept of the node with the number
pub own_kept : (S : Snap) (u : Object) (s : Search) (i : ℕ) (e : Opened) (o : Option (Vec Node Global)) → Stands s i e → o ≡ e.own → IsKept S u e
    → IfSome o (λ v. (f : Opened) → Stands s i f → AreOwn S u f.node v.items)
own_kept S u s i e (Some v) at is kept = λ f there.
    let right : AreOwn S u e.node v.items = subst (λ o. IfSome o (λ w. AreOwn S u e.node w.items)) (sym is) kept.own in
    subst (λ (x : Opened). AreOwn S u x.node v.items) (holds_same s.opened.items i e f at there) right
own_kept S u s i e None at is kept = tt

pub parents_kept : (S : Snap) (u : Object) (s : Search) (i : ℕ) (e : Opened) (o : Option Parents) → Stands s i e → o ≡ e.parents → IsKept S u e
    → IfSome o (λ p. (f : Opened) → Stands s i f → AreParents S f.node p)
parents_kept S u s i e (Some p) at is kept = λ f there.
    let right : AreParents S e.node p = subst (λ o. IfSome o (AreParents S e.node)) (sym is) kept.parents in
    subst (λ (x : Opened). AreParents S x.node p) (holds_same s.opened.items i e f at there) right
parents_kept S u s i e None at is kept = tt
