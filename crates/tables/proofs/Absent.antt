-- An accepted write without touches puts tuples that are not there.
use Rattle.std.proofs.Common.{◌≡◌, ℕ, ◌+◌, ◌||◌, ◌&&◌, Bool, true, false, not, List, [], ◌∷◌, map, refl, sym, ◌∙◌, Option, Some, None, cond}
use Rattle.std.specs.List.{list_any}
use Rattle.std.proofs.lemmas.List.Sorted.{list_any-IsPermutation}
use Rattle.names.specs.declared.write.Op.{Op}
use Rattle.names.specs.declared.write.OpKind.{OpKind}
use Rattle.names.specs.declared.write.OpKind.TheVariants.{Insert, Touch, Delete}
use Rattle.names.specs.declared.commit.Commit.TheVariants.{Tuples}
use Rattle.names.specs.declared.commit.Event.{Event}
use Rattle.names.specs.declared.refusal.Refusal.{Refusal}
use Rattle.names.specs.declared.refusal.Refusal.TheVariants.{Malformed, UnknownRelation, TypeRefused, TwiceInOneWrite, AlreadyThere}
use Rattle.meaning.specs.TupleSet as set
use Rattle.meaning.specs.Verdict.{Newest, event_of, kind_of, is_insert, first_from, inserts_again, at_place, refused_if, is_in_range, is_unknown, is_untyped, is_twice}
use Rattle.rows.specs.Retained.{Retained, newest_of}
use Rattle.rows.specs.Follows.{AreEventsOf, IsAccepted}
use Rattle.rows.proofs.Admission.{later_none, first_none, left_false, right_false}
use Rattle.tables.specs.Storing.{is_put, is_touch, is_touch_kind, puts_again, PutsAbsent}

chosen_none : {A : Type 0} (b : Bool) (a : A) (o : Option A) → cond b (Some a) o ≡ None → b ≡ false
chosen_none true a o none = absurd cc
chosen_none false a o none = refl

other_none : {A : Type 0} (b : Bool) (a : A) (o : Option A) → cond b (Some a) o ≡ None → o ≡ None
other_none true a o none = absurd cc
other_none false a o none = none

-- without a touch only an insert puts
absent_alike : (k : OpKind) (there : Bool) → is_touch_kind k ≡ false → (is_insert k && there) ≡ false → (is_put (kind_of k) && there) ≡ false
absent_alike Insert there plain new = new
absent_alike Touch there plain new = absurd cc
absent_alike Delete there plain new = refl

none_again : (tuples : set.Tuples) (n : ℕ) (ops : List Op) → list_any is_touch ops ≡ false → first_from (inserts_again tuples) n ops ≡ None → list_any (puts_again tuples) (map event_of ops) ≡ false
none_again tuples n [] plain new = refl
none_again tuples n (o ∷ os) plain new =
    let here = absent_alike o.kind (set.contains tuples o.tuple) (left_false (is_touch o) (list_any is_touch os) plain) (chosen_none (inserts_again tuples o) n (first_from (inserts_again tuples) (n + 1) os) new) in
    let rest = none_again tuples (n + 1) os (right_false (is_touch o) (list_any is_touch os) plain) (other_none (inserts_again tuples o) n (first_from (inserts_again tuples) (n + 1) os) new) in
    λ i. here i || rest i

not_placed : (why : ℕ → Refusal) (o : Option ℕ) → at_place why o ≡ None → o ≡ None
not_placed why None none = refl
not_placed why (Some n) none = absurd cc

accepted_new : (n : Newest) (ops : List Op) → IsAccepted n ops → first_from (inserts_again n.held.tuples) 0 ops ≡ None
accepted_new n ops none =
    let a = later_none (refused_if Malformed (not (is_in_range ops))) _ none in
    let b = later_none (refused_if UnknownRelation (list_any (is_unknown n.held.config) ops)) _ a in
    let c = later_none (refused_if TypeRefused (list_any (is_untyped n.held.config) ops)) _ b in
    let d = later_none (refused_if TwiceInOneWrite (is_twice ops)) _ c in
    not_placed (λ i. AlreadyThere i) _ (first_none _ _ d)

pub puts_absent : (ops : List Op) (r : Retained) (events : List Event) → list_any is_touch ops ≡ false → IsAccepted (newest_of r) ops → AreEventsOf ops events → PutsAbsent r (Tuples events)
puts_absent ops r events plain accepted are =
    let there = puts_again (newest_of r).held.tuples in
    sym (list_any-IsPermutation there (map event_of ops) events are.same) ∙ none_again (newest_of r).held.tuples 0 ops plain (accepted_new (newest_of r) ops accepted)
