-- Sets that are renewed by one event after another.
use Rattle.std.proofs.Common.{ℕ, ◌≡◌, true, List, [], ◌∷◌, ◌++◌, sym, ◌∙◌, ap, subst, ⊎_elim, ◌⊎◌}
use Rattle.std.specs.Prelude.{Contains, is_some}
use Rattle.std.specs.Ordering.{nat_cmp}
use Rattle.std.specs.BTreeMap.{BTreeMap, get}
use Rattle.std.proofs.lemmas.Bool.{false≢true}
use Rattle.std.proofs.lemmas.List.Elements.{Contains-append_left, Contains-push}
use Rattle.names.specs.declared.commit.Event.{Event}
use Rattle.meaning.specs.TupleSet.{Tuples}
use Rattle.meaning.specs.Config.{Configured}
use Rattle.meaning.specs.History.{replay, after_event}
use Rattle.idsets.specs.Sets.{has}
use Rattle.direct.specs.Before.{set_in}
use Rattle.direct.specs.inside.Keeping.{AreRight}
use Rattle.direct.specs.inside.Renewing.{set_or, IsNumberOf}
use Rattle.direct.specs.declared.memberships.Memberships.{Memberships}
use Rattle.direct.proofs.Putting.{put_all, nowhere}
use Rattle.direct.proofs.Replaying.{replay_push}

pub users_begin : (config : Configured) (kept : Memberships) (renewed : BTreeMap ℕ (List ℕ)) → renewed.entries ≡ [] → (user : ℕ) → is_some (get nat_cmp renewed user) ≡ true
    → (e : Event) × Contains [] e × IsNumberOf config kept e user
users_begin config kept renewed none user h = absurd (false≢true (sym (ap is_some (nowhere renewed user none)) ∙ h))

-- the same sets
right_same : (config : Configured) (kept : Memberships) (f f' : ℕ → List ℕ) (tuples : Tuples) → ((user : ℕ) → f' user ≡ f user) → AreRight config kept f tuples → AreRight config kept f' tuples
right_same config kept f f' tuples same are = record {
  right = λ u n user group user_is group_is. ap (λ s. has s group) (same user) ∙ are.right u n user group user_is group_is;
  within = λ user group h. are.within user group (subst (λ s. has s group ≡ true) (same user) h);
}

pub right_begins : (config : Configured) (kept : Memberships) (renewed : BTreeMap ℕ (List ℕ)) → renewed.entries ≡ [] → (tuples : Tuples)
    → AreRight config kept (set_in kept.sets.items) tuples → AreRight config kept (set_or renewed kept.sets.items) tuples
right_begins config kept renewed none tuples are = right_same config kept (set_in kept.sets.items) (set_or renewed kept.sets.items) tuples (λ user. put_all renewed kept.sets.items user none) are

pub users_push : (config : Configured) (kept : Memberships) (old new : BTreeMap ℕ (List ℕ)) (es : List Event) (last : Event)
    → ((user : ℕ) → is_some (get nat_cmp new user) ≡ true → (is_some (get nat_cmp old user) ≡ true) ⊎ IsNumberOf config kept last user)
    → ((user : ℕ) → is_some (get nat_cmp old user) ≡ true → (e : Event) × Contains es e × IsNumberOf config kept e user)
    → (user : ℕ) → is_some (get nat_cmp new user) ≡ true → (e : Event) × Contains (es ++ last ∷ []) e × IsNumberOf config kept e user
users_push config kept old new es last more before user h = ⊎_elim
    (λ q. let (e, c, is) = before user q in (e, Contains-append_left es (last ∷ []) e c, is))
    (λ q. (last, Contains-push es last, q))
    (more user h)

pub right_push : (config : Configured) (kept : Memberships) (renewed : BTreeMap ℕ (List ℕ)) (tuples : Tuples) (es : List Event) (last : Event)
    → AreRight config kept (set_or renewed kept.sets.items) (after_event (replay tuples es) last) → AreRight config kept (set_or renewed kept.sets.items) (replay tuples (es ++ last ∷ []))
right_push config kept renewed tuples es last are = subst (AreRight config kept (set_or renewed kept.sets.items)) (sym (replay_push es last tuples)) are
