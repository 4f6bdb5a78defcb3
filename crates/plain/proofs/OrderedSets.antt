-- Sets of objects as ordered lists, and the members that are gathered in them.
use Rattle.std.proofs.Common.{◌≡◌, ℕ, List, Bool, true, false, cond, refl, ap, ◌∙◌, sym, subst, inl, inr, ⊎_elim}
use Rattle.std.specs.Prelude.{◌↔◌, ◌⊎◌, Option, Some, None, is_some, Any, Contains}
use Rattle.std.specs.List.{list_any}
use Rattle.std.specs.Cmp.{eq_by_cmp_equiv}
use Rattle.std.specs.Ordering.{eq_by_cmp}
use Rattle.std.proofs.lemmas.Map.Views.{tells_apart, Contains-from_any, list_any-from_Contains}
use Rattle.names.specs.Order.{object_cmp}
use Rattle.names.specs.declared.object.Object.{Object}
use Rattle.names.specs.declared.node.Node.{Node}
use Rattle.names.specs.declared.tuple.Tuple.{Tuple}
use Rattle.meaning.specs.Snap.{Snap, one}
use Rattle.meaning.specs.Membership.{IsMember}
use Rattle.meaning.proofs.TupleSets.{objects_total, exact_objects}
use Rattle.meaning.proofs.KnownLemmas.{below_user}
use Rattle.plain.specs.declared.source.Source.{Source}
use Rattle.plain.specs.inside.Source.{snap_of, IsSourceOf, Names}
use Rattle.plain.proofs.Alike.{AreAlike, member_alike}
use Rattle.plain.proofs.LevelSteps.{all_whole}
use Rattle.plain.proofs.Looks.{named_user}

-- what the keys of a set of objects have
has_object : (keys : List Object) (o : Object) → list_any (eq_by_cmp object_cmp o) keys ≡ true → Contains keys o
has_object keys o e = Contains-from_any (tells_apart exact_objects) o keys e

finds_object : (keys : List Object) (o : Object) → Contains keys o → list_any (eq_by_cmp object_cmp o) keys ≡ true
finds_object keys o c = list_any-from_Contains (eq_by_cmp_equiv objects_total) o keys c

pub had_object : (keys : List Object) (o : Object) → true ≡ list_any (eq_by_cmp object_cmp o) keys → Contains keys o
had_object keys o e = has_object keys o (sym e)

-- a set of objects that has one more
pub put_object : (old new : List Object) (key object : Object) → key ≡ object → ((q : Object) → list_any (eq_by_cmp object_cmp q) new ≡ cond (eq_by_cmp object_cmp key q) true (list_any (eq_by_cmp object_cmp q) old)) → (o : Object) → Contains new o ↔ (Contains old o ⊎ (object ≡ o))
put_object old new key object is h o = (
  λ c.
      let found : cond (eq_by_cmp object_cmp key o) true (list_any (eq_by_cmp object_cmp o) old) ≡ true = sym (h o) ∙ finds_object new o c in
      elim (eq_by_cmp object_cmp key o) as (λ b. eq_by_cmp object_cmp key o ≡ b → cond b true (list_any (eq_by_cmp object_cmp o) old) ≡ true → Contains old o ⊎ (object ≡ o)) [
        | true ↦ λ same _. inr (sym is ∙ tells_apart exact_objects key o same)
        | false ↦ λ _ e. inl (has_object old o e)
      ] refl found,
  λ have. has_object new o (h o ∙ ⊎_elim
      (λ c. ap (λ b. cond (eq_by_cmp object_cmp key o) true b) (finds_object old o c) ∙ both (eq_by_cmp object_cmp key o))
      (λ e. ap (λ b. cond b true (list_any (eq_by_cmp object_cmp o) old)) (ap (λ q. eq_by_cmp object_cmp key q) (sym (is ∙ e)) ∙ (eq_by_cmp_equiv objects_total).refl key))
      have),
)
  where
    both : (b : Bool) → cond b true true ≡ true
    both true = refl
    both false = refl

-- a source has the members of its snapshot
pub source_alike : (S : Snap) (s : Source) → IsSourceOf S s → AreAlike (snap_of s) S
source_alike S s of = record { relations = of.relations; tuples = of.tuples }

pub members_all : (S : Snap) (s : Source) → IsSourceOf S s → (n : Node) (users members : List Object) → ((u : Object) → Contains users u ↔ Any (Names u) s.tuples.now.keys) → ((u : Object) → Contains members u ↔ (Contains users u × IsMember (snap_of s) u n)) → (u : Object) → Contains members u ↔ IsMember S u n
members_all S s of n users members named among u =
    let alike = member_alike (snap_of s) S (source_alike S s of) u n in (
      λ c. alike.0 ((among u).0 c).1,
      λ member.
          let m = alike.1 member in
          (among u).1 ((named u).1 ((named_user s u).1 (below_user (snap_of s) u (all_whole s of.ready) m.0 n m.1)), m),
    )

-- a tuple that names an object
pub names_one : (t : Tuple) (u : Object) → t.subject.relation ≡ None → t.subject.object ≡ u → t.subject ≡ one u
names_one t u none is = ap (λ o. record { object = o; relation = t.subject.relation }) is ∙ ap (λ r. record { object = u; relation = r }) none

pub none_from : (r : Option (List ℕ)) → is_some r ≡ false → r ≡ None
none_from None e = refl
none_from (Some n) e = cc

-- that x is the user, and a member of the node
abbrev pub Joins : Snap → Node → Object → Object → Type 0
Joins S n u x = (x ≡ u) × IsMember S u n

pub joins_any : (S : Snap) (n : Node) (users : List Object) (u : Object) → Any (Joins S n u) users ↔ (Contains users u × IsMember S u n)
joins_any S n users u = (
  λ (k, x, lt, e, (is, member)). (subst (Contains users) is (k, lt, e), member),
  λ ((k, lt, e), member). (k, u, lt, e, (refl, member)),
)
