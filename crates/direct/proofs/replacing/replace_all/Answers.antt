use Rattle.std.proofs.Common.{ℕ, ◌≡◌, ◌≤◌, ◌<◌, ◌+◌, cond, List, [], ◌∷◌, ◌++◌, length, refl, sym, ap, subst, ◌∙◌, arith, length-set}
use Rattle.std.specs.Prelude.{slice_set, vec_len, vec_capacity, Some}
use Rattle.std.proofs.lemmas.Bool.{false≢true}
use Rattle.std.proofs.lemmas.List.{get_or_default}
use Rattle.std.specs.Ordering.{nat_cmp}
use Rattle.std.specs.BTreeMap.{get, btree_map_len}
use Rattle.direct.specs.declared.noted.EarlierGroups.{EarlierGroups}
use Rattle.direct.specs.Before.{set_in, set_at, AreUpTo}
use Rattle.direct.specs.inside.Renewing.{set_or}
use Rattle.direct.proofs.Past.{set_noted, up_to_push}
use Rattle.direct.proofs.Putting.{IsNotedYet, noted_begins, noted_ends, was_left, is_left, put_next, put_same, noted_same, noted_next, put_all, nothing_left}
use Rattle.direct.proofs.Tables.{set_put}
use Rattle.direct.proofs.replacing.replace_all.Goals as goal

pub loop-user-init : goal.loop-user-init
loop-user-init c = record {
  room = c.requires.room;
  length = refl;
  left = λ user h. h;
  sets = λ user. refl;
  up_to = c.requires.up_to;
  noted = noted_begins c.args.rev c.args.renewed c.args.sets.now.items c.args.earlier.now.items;
  before = λ user at lt. refl;
}

pub loop-user-preserved-then-not-are_same : goal.loop-user-preserved-then-not-are_same
loop-user-preserved-then-not-are_same c =
    let all = c.args.renewed in
    let left = c.loop-user.renewed in
    let left' = c.pop_first.new.self in
    let user = c.in-Some.user in
    let groups : List ℕ = c.in-Some.groups in
    let sets : List (List ℕ) = c.loop-user.sets.items in
    let es : List EarlierGroups = c.loop-user.earlier.items in
    let e : EarlierGroups = record { rev = c.args.rev; user = user; groups = set_in sets user } in
    let at : get nat_cmp left user ≡ Some groups = c.in-Some.ensures.value in
    let up = c.in-Some.ensures.updates.0 in
    let there = c.loop-user.invariant.left user (is_left all left left' user groups at up) in
    let within : user < length c.args.sets.now.items = c.requires.within user there in
    let same : length sets ≡ length c.args.sets.now.items = c.loop-user.invariant.length in
    let lt : user < length sets = omega (arith, within, same) in
    let put : c.replace_one.new.sets.items ≡ slice_set sets user groups = c.replace_one.ensures.sets in
    let noted : c.replace_one.new.earlier.items ≡ es ++ e ∷ [] = c.replace_one.ensures.earlier in
    let room : vec_len c.loop-user.earlier + btree_map_len left ≤ vec_capacity c.loop-user.earlier = c.loop-user.invariant.room in
    let fewer : btree_map_len left' + 1 ≡ btree_map_len left = c.in-Some.ensures.len in
    let longer : vec_len c.replace_one.new.earlier ≡ vec_len c.loop-user.earlier + 1 = c.replace_one.ensures.len in
    let differ : groups ≡ set_in sets user → ⊥ = λ is. false≢true (c.if-not-are_same.ensures.1 (is ∙ sym (c.index.ensures ∙ get_or_default sets user c.index.result.now [] lt))) in
    let capacity : vec_capacity c.loop-user.earlier ≤ vec_capacity c.replace_one.new.earlier = c.replace_one.ensures.capacity in
    record {
      room = omega (arith, room, fewer, longer, capacity);
      length = ap length put ∙ length-set sets user groups ∙ same;
      left = λ q h. c.loop-user.invariant.left q (was_left all left left' user groups at up q h);
      sets = λ q. ap (λ ss. set_or left' ss q) put ∙ put_next all left left' user groups at up sets lt q ∙ c.loop-user.invariant.sets q;
      up_to = subst (λ xs. AreUpTo c.args.rev xs) (sym noted) (up_to_push c.args.rev e es refl c.loop-user.invariant.up_to);
      noted = subst (λ ss. IsNotedYet c.args.rev all left' c.args.sets.now.items ss c.args.earlier.now.items c.replace_one.new.earlier.items) (sym put)
          (noted_next all left left' user groups at up c.args.rev c.args.sets.now.items sets c.args.earlier.now.items es c.replace_one.new.earlier.items e lt refl refl refl differ there noted c.loop-user.invariant.noted);
      before = λ q r before. ap (λ xs. set_at xs c.replace_one.new.sets.items q r) noted ∙ ap (λ ss. set_at (es ++ e ∷ []) ss q r) put
          ∙ set_noted c.args.rev sets (slice_set sets user groups) e q r before refl (λ f. set_put sets user groups lt q ∙ ap (λ b. cond b groups (set_in sets q)) f) es
          ∙ c.loop-user.invariant.before q r before;
    }

pub loop-user-preserved : goal.loop-user-preserved
loop-user-preserved c =
    let all = c.args.renewed in
    let left = c.loop-user.renewed in
    let left' = c.pop_first.new.self in
    let user = c.in-Some.user in
    let groups : List ℕ = c.in-Some.groups in
    let sets : List (List ℕ) = c.loop-user.sets.items in
    let es : List EarlierGroups = c.loop-user.earlier.items in
    let at : get nat_cmp left user ≡ Some groups = c.in-Some.ensures.value in
    let up = c.in-Some.ensures.updates.0 in
    let room : vec_len c.loop-user.earlier + btree_map_len left ≤ vec_capacity c.loop-user.earlier = c.loop-user.invariant.room in
    let fewer : btree_map_len left' + 1 ≡ btree_map_len left = c.in-Some.ensures.len in
    let within : user < length c.args.sets.now.items = c.requires.within user (c.loop-user.invariant.left user (is_left all left left' user groups at up)) in
    let even : length sets ≡ length c.args.sets.now.items = c.loop-user.invariant.length in
    let same : groups ≡ set_in sets user = c.if-not-are_same.ensures.0 refl ∙ c.index.ensures ∙ get_or_default sets user c.index.result.now [] (omega (arith, within, even)) in
    record {
      room = omega (arith, room, fewer);
      length = c.loop-user.invariant.length;
      left = λ q h. c.loop-user.invariant.left q (was_left all left left' user groups at up q h);
      sets = λ q. put_same all left left' user groups at up sets same q ∙ c.loop-user.invariant.sets q;
      up_to = c.loop-user.invariant.up_to;
      noted = noted_same all left left' user groups at up c.args.rev c.args.sets.now.items sets c.args.earlier.now.items es c.loop-user.invariant.noted;
      before = c.loop-user.invariant.before;
    }

pub replace_one-requires : goal.replace_one-requires
replace_one-requires c =
    let all = c.args.renewed in
    let left = c.loop-user.renewed in
    let left' = c.pop_first.new.self in
    let user = c.in-Some.user in
    let groups : List ℕ = c.in-Some.groups in
    let sets : List (List ℕ) = c.loop-user.sets.items in
    let at : get nat_cmp left user ≡ Some groups = c.in-Some.ensures.value in
    let up = c.in-Some.ensures.updates.0 in
    let within : user < length c.args.sets.now.items = c.requires.within user (c.loop-user.invariant.left user (is_left all left left' user groups at up)) in
    let same : length sets ≡ length c.args.sets.now.items = c.loop-user.invariant.length in
    let lt : user < length sets = omega (arith, within, same) in
    let room : vec_len c.loop-user.earlier + btree_map_len left ≤ vec_capacity c.loop-user.earlier = c.loop-user.invariant.room in
    let fewer : btree_map_len left' + 1 ≡ btree_map_len left = c.in-Some.ensures.len in
    record { room = omega (arith, room, fewer); within = lt }

pub returns : goal.returns
returns c = record {
  length = c.loop-user.invariant.length;
  sets = λ user. sym (put_all c.loop-user.renewed c.loop-user.sets.items user (nothing_left c.loop-user.renewed.entries (λ lt. false≢true (c.in_default.ensures.variant.1 lt)))) ∙ c.loop-user.invariant.sets user;
  up_to = c.loop-user.invariant.up_to;
  noted = noted_ends c.args.rev c.args.renewed c.loop-user.renewed c.args.sets.now.items c.loop-user.sets.items c.args.earlier.now.items c.loop-user.earlier.items c.loop-user.invariant.noted;
  before = c.loop-user.invariant.before;
}
