-- What no retained revision has may be forgotten.
use Rattle.std.proofs.Common.{◌≡◌, ℕ, ◌-◌, List, [], ◌∷◌, drop, refl, ap, sym, subst, ◌∙◌, ⊎_elim, inl, inr, Bool, true, false}
use Rattle.std.specs.Prelude.{cond, ◌&&◌, ◌⊎◌, Option, Some, None}
use Rattle.std.specs.Cmp.{eq_by_cmp_equiv}
use Rattle.std.specs.List.{list_any}
use Rattle.std.specs.Map.{remove_entry}
use Rattle.std.specs.Ordering.{is_eq}
use Rattle.std.specs.declared.cmp.Ordering.{Ordering}
use Rattle.std.specs.declared.cmp.Ordering.TheVariants.{Less, Equal, Greater}
use Rattle.std.proofs.lemmas.Map.Lookups.{exact_bytes}
use Rattle.std.proofs.lemmas.Map.Views.{tells_apart}
use mathlib.Core.Bool.{true≢false}
use Rattle.names.specs.Order.{is_same_tuple}
use Rattle.names.specs.declared.node.Node.{Node}
use Rattle.names.specs.declared.object.Object.{Object}
use Rattle.names.specs.declared.tuple.Tuple.{Tuple}
use Rattle.names.specs.declared.commit.Event.{Event}
use Rattle.names.specs.declared.commit.Commit.{Commit}
use Rattle.names.specs.declared.commit.Commit.TheVariants as commits
use Rattle.meaning.specs.Config.{Configured}
use Rattle.meaning.specs.History.{History}
use Rattle.meaning.specs.TupleSet as set
use Rattle.meaning.specs.TupleSet.{Tuples}
use Rattle.meaning.proofs.TupleSets.{contains_insert, exact_tuples, tuples_total}
use Rattle.shelf.specs.Texts.{text_cmp, is_text}
use Rattle.tuple_keys.specs.Spelled.{tuple_of}
use Rattle.rows.specs.Retained.{Retained, snap_at, after_trim, touches, is_touched_after}
use Rattle.by_subject.specs.Turned.{turned, turned_by}
use Rattle.by_subject.specs.Complete.{IsOf, is_put, puts_tuple, puts}
use Rattle.by_subject.specs.inside.Putting.{KeepsOf}
use Rattle.by_subject.specs.inside.Texts.{Texts, found_in, AreSpelled}
use Rattle.by_subject.proofs.Tests.{first_of, second_of, one_of}

-- ---- a text taken out

module _ (k : List ℕ) where
  pub spelled_out : (es : Texts) → AreSpelled es → AreSpelled (remove_entry (is_text k) es)
  spelled_out [] s = s
  spelled_out (e ∷ es) s = by_test (is_text k e.0) (spelled_out es s.1)
    where
      by_test : (b : Bool) → AreSpelled (remove_entry (is_text k) es) → AreSpelled (cond b es (e ∷ remove_entry (is_text k) es))
      by_test true rest = s.1
      by_test false rest = (s.0, rest)

  -- the tuples of the others stay
  pub others_stay : (es : Texts) (q : Tuple) → is_same_tuple q (tuple_of k) ≡ false → set.contains (found_in es) q ≡ true → set.contains (found_in (remove_entry (is_text k) es)) q ≡ true
  others_stay [] q other has = has
  others_stay (e ∷ es) q other has = by_order (text_cmp k e.0) refl (others_stay es q other) (one_of (is_same_tuple q (tuple_of e.0)) (set.contains (found_in es) q) (sym (contains_insert (found_in es) (tuple_of e.0) q) ∙ has))
    where
      with_it : (set.contains (found_in es) q ≡ true → set.contains (found_in (remove_entry (is_text k) es)) q ≡ true) → (is_same_tuple q (tuple_of e.0) ≡ true) ⊎ (set.contains (found_in es) q ≡ true) → set.contains (found_in (e ∷ remove_entry (is_text k) es)) q ≡ true
      with_it rest (inl here) = contains_insert (found_in (remove_entry (is_text k) es)) (tuple_of e.0) q ∙ first_of (is_same_tuple q (tuple_of e.0)) (set.contains (found_in (remove_entry (is_text k) es)) q) here
      with_it rest (inr later) =
          contains_insert (found_in (remove_entry (is_text k) es)) (tuple_of e.0) q
          ∙ second_of (is_same_tuple q (tuple_of e.0)) (set.contains (found_in (remove_entry (is_text k) es)) q) (rest later)

      by_order : (o : Ordering) → text_cmp k e.0 ≡ o → (set.contains (found_in es) q ≡ true → set.contains (found_in (remove_entry (is_text k) es)) q ≡ true) → (is_same_tuple q (tuple_of e.0) ≡ true) ⊎ (set.contains (found_in es) q ≡ true) → set.contains (found_in (cond (is_eq o) es (e ∷ remove_entry (is_text k) es))) q ≡ true
      by_order Less same rest one = with_it rest one
      by_order Equal same rest (inl here) = absurd (true≢false (sym here ∙ ap (λ (l : List ℕ). is_same_tuple q (tuple_of l)) (sym (exact_bytes k e.0 same)) ∙ other))
      by_order Equal same rest (inr later) = later
      by_order Greater same rest one = with_it rest one

-- ---- tuples turned round are told apart as they were

twice : (t : Tuple) → turned (turned t) ≡ t
twice t = by_relation t.node t.subject.object t.subject.relation
  where
    by_relation : (n : Node) (o : Object) (r : Option (List ℕ)) → turned (turned_by n o r) ≡ record { node = n; subject = record { object = o; relation = r } }
    by_relation n o None = refl
    by_relation n o (Some r) = refl

pub turned_apart : (t u : Tuple) → is_same_tuple t u ≡ false → is_same_tuple (turned t) (turned u) ≡ false
turned_apart t u apart = by_test (is_same_tuple (turned t) (turned u)) refl
  where
    by_test : (b : Bool) → is_same_tuple (turned t) (turned u) ≡ b → b ≡ false
    by_test false is = refl
    by_test true is =
        let same : t ≡ u = sym (twice t) ∙ ap turned (tells_apart exact_tuples (turned t) (turned u) is) ∙ twice u in
        sym ((eq_by_cmp_equiv tuples_total).refl t) ∙ ap (is_same_tuple t) same ∙ apart

-- ---- a tuple that is not of the history

right_of : (a b : Bool) → (a && b) ≡ true → b ≡ true
right_of true b h = h
right_of false b h = absurd (true≢false (sym h))

events_touch : (t : Tuple) (es : List Event) → list_any (puts_tuple t) es ≡ true → list_any (λ e. is_same_tuple t e.tuple) es ≡ true
events_touch t [] h = h
events_touch t (e ∷ es) h =
    ⊎_elim
    (λ here. first_of (is_same_tuple t e.tuple) (list_any (λ e. is_same_tuple t e.tuple) es) (right_of (is_put e.kind) (is_same_tuple t e.tuple) here))
    (λ later. second_of (is_same_tuple t e.tuple) (list_any (λ e. is_same_tuple t e.tuple) es) (events_touch t es later))
    (one_of (puts_tuple t e) (list_any (puts_tuple t) es) h)

commit_touches : (t : Tuple) (c : Commit Configured) → puts t c ≡ true → touches t c ≡ true
commit_touches t (commits.Tuples events) h = events_touch t events h
commit_touches t (commits.Config config) h = h

commits_touch : (t : Tuple) (cs : History) → list_any (puts t) cs ≡ true → list_any (touches t) cs ≡ true
commits_touch t [] h = h
commits_touch t (c ∷ cs) h =
    ⊎_elim
    (λ here. first_of (touches t c) (list_any (touches t) cs) (commit_touches t c here))
    (λ later. second_of (touches t c) (list_any (touches t) cs) (commits_touch t cs later))
    (one_of (puts t c) (list_any (puts t) cs) h)

module _ (r : Retained) (floor : ℕ) (t : Tuple) (untouched : is_touched_after r t floor ≡ false) (absent : set.contains (snap_at r floor).tuples t ≡ false) where
  not_of : IsOf (after_trim r floor) t → ⊥
  not_of (inl base) = true≢false (sym base ∙ absent)
  not_of (inr put) = true≢false (sym (commits_touch t (drop (floor - r.floor) r.commits) put) ∙ untouched)

  pub kept_without : (old new : Tuples) → ((u : Tuple) → is_same_tuple u t ≡ false → set.contains old (turned u) ≡ true → set.contains new (turned u) ≡ true) → KeepsOf (after_trim r floor) old new
  kept_without old new others = λ u of has. by_test (is_same_tuple u t) u refl of has
    where
      by_test : (b : Bool) (u : Tuple) → is_same_tuple u t ≡ b → IsOf (after_trim r floor) u → set.contains old (turned u) ≡ true → set.contains new (turned u) ≡ true
      by_test true u is of has = absurd (not_of (subst (IsOf (after_trim r floor)) (tells_apart exact_tuples u t is) of))
      by_test false u is of has = others u is has
