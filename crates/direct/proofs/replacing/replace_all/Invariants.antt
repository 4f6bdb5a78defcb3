use Rattle.std.proofs.Common.{ℕ, ◌≡◌, ◌<◌, ◌≤◌, ◌+◌, true, length}
use Rattle.std.specs.Prelude.{is_some, vec_len, vec_capacity}
use Rattle.std.specs.Ordering.{nat_cmp}
use Rattle.std.specs.BTreeMap.{get, btree_map_len}
use Rattle.direct.specs.Before.{set_at, AreUpTo}
use Rattle.direct.specs.inside.Renewing.{set_or}
use Rattle.direct.proofs.Putting.{IsNotedYet}
use Rattle.direct.proofs.replacing.replace_all.Given as goal

abbrev pub invariant-loop-user : goal.invariant-loop-user
invariant-loop-user l = record {
  room : vec_len l.earlier + btree_map_len l.renewed ≤ vec_capacity l.earlier;
  length : length l.sets.items ≡ length l.initial.sets.items;
  left : (user : ℕ) → is_some (get nat_cmp l.renewed user) ≡ true → is_some (get nat_cmp l.initial.renewed user) ≡ true;
  sets : (user : ℕ) → set_or l.renewed l.sets.items user ≡ set_or l.initial.renewed l.initial.sets.items user;
  up_to : AreUpTo l.rev l.earlier.items;
  noted : IsNotedYet l.rev l.initial.renewed l.renewed l.initial.sets.items l.sets.items l.initial.earlier.items l.earlier.items;
  before : (user at : ℕ) → at < l.rev → set_at l.earlier.items l.sets.items user at ≡ set_at l.initial.earlier.items l.initial.sets.items user at;
}

abbrev pub decreases-loop-user : goal.decreases-loop-user
decreases-loop-user l = btree_map_len l.renewed
