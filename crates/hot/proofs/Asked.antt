-- Who was asked.
use Rattle.std.proofs.Common.{ℕ, ◌≡◌, true, List, [], sym, ◌∙◌, ap, subst, ⊎_elim}
use Rattle.std.specs.Prelude.{◌↔◌, Option, Some, None, is_some, nat_eq}
use Rattle.std.specs.List.{slice_get, IsDistinct}
use Rattle.std.proofs.lemmas.Bool.{false≢true}
use Rattle.names.specs.declared.object.Object.{Object}
use Rattle.names.specs.declared.node.Node.{Node}
use Rattle.names.specs.declared.commit.Event.{Event}
use Rattle.meaning.specs.Snap.{Snap}
use Rattle.meaning.specs.Reads.{IsValid}
use Rattle.idsets.specs.Naming.{AreDistinct}
use Rattle.least_sets.specs.World.{has}
use Rattle.least_sets.specs.Walks.{IsTouched}
use Rattle.region.specs.declared.sets.Row.{Row}
use Rattle.region.specs.Tables.{Rows, row_of, kept, arc_in}
use Rattle.region.specs.Refreshed.{IsRefreshed}
use Rattle.region.proofs.Walked.{told_nodes}
use Rattle.facts.specs.Telling.{MayTell, IsLater}
use Rattle.facts.specs.inside.Tables.{grew_get, node_is}
use Rattle.hot.specs.Depending.{IsTouchedBy}
use Rattle.hot.specs.Kept.{AreKept}
use Rattle.hot.specs.inside.Events.{AreOfEvents}
use Rattle.hot.proofs.Marks.{kept_none, kept_anew}
use Rattle.hot.proofs.Walks.{touched_by, touched_in}

-- the node with the number is kept
abbrev Keeps : List Node → Rows → Node → Type 0
Keeps nodes rows n = (i : ℕ) × (kept rows i ≡ true) × (slice_get nodes i ≡ Some n)

-- a number that had a row stands for the node for which it stood
stood : (S : Snap) (nodes nodes' : List Node) (users users' : List Object) (marks : List ℕ) (rows : Rows) → AreKept S nodes users marks rows → IsLater nodes nodes' users users'
    → (i : ℕ) (n : Node) → slice_get nodes' i ≡ Some n → kept rows i ≡ true → slice_get nodes i ≡ Some n
stood S nodes nodes' users users' marks rows was later i n at h =
    let named = (was.told i h).named in
    let same = sym (node_is nodes' i named.0 (grew_get nodes nodes' i named.0 later.nodes_grew named.1)) ∙ node_is nodes' i n at in
    named.1 ∙ ap (λ x. Some x) same

module _ (S T : Snap) (nodes nodes' : List Node) (users users' : List Object) (marks marks' roots turned changed : List ℕ) (old new : Rows) (asked : List ℕ)
    (was : AreKept S nodes users marks old) (distinct : AreDistinct nodes') (later : IsLater nodes nodes' users users') (now : AreKept T nodes' users' marks' new)
    (r : IsRefreshed (MayTell T nodes' users') old new roots turned changed [] asked) where
  pub asked_once : IsDistinct nat_eq asked
  asked_once = subst (λ xs. IsDistinct nat_eq xs) (sym r.asked_is) r.once

  -- by their numbers
  asked_number : (i : ℕ) → has asked i ≡ true ↔ ((kept new i ≡ true) × ((kept old i ≡ true) → IsTouched (arc_in old) changed i))
  asked_number i =
      let same = ap (λ xs. has xs i) r.asked_is ∙ told_nodes r.told i in (
        λ h. r.few i (sym same ∙ h),
        λ q. ⊎_elim (λ told. same ∙ told) (λ left. absurd (left.1 (q.1 left.0))) (r.nodes i q.0),
      )

  kept_now : (i : ℕ) (n : Node) → slice_get nodes' i ≡ Some n → Keeps nodes' new n → kept new i ≡ true
  kept_now i n at q = subst (λ j. kept new j ≡ true) (distinct q.0 i n q.2 at) q.1

  kept_before : (i : ℕ) (n : Node) → slice_get nodes' i ≡ Some n → Keeps nodes old n → kept old i ≡ true
  kept_before i n at q = subst (λ j. kept old j ≡ true) (distinct q.0 i n (grew_get nodes nodes' q.0 n later.nodes_grew q.2) at) q.1

  stood_at : (i : ℕ) (n : Node) → slice_get nodes' i ≡ Some n → kept old i ≡ true → slice_get nodes i ≡ Some n
  stood_at = stood S nodes nodes' users users' marks old was later

  -- a node that is kept, and where it was kept before, one of those that may have changed
  pub asked_exactly : (Turned : Node → Type 0) → ((n : Node) (i : ℕ) → slice_get nodes i ≡ Some n → kept old i ≡ true → IsTouched (arc_in old) changed i ↔ Turned n)
      → (i : ℕ) → has asked i ≡ true ↔ ((n : Node) × (slice_get nodes' i ≡ Some n) × (Keeps nodes' new n × (Keeps nodes old n → Turned n)))
  asked_exactly Turned both i = (
    λ h.
        let q = (asked_number i).0 h in
        let named = (now.told i q.0).named in (
          named.0,
          named.1,
          (
            (i, q.0, named.1),
            λ before.
                let there = kept_before i named.0 named.1 before in
                (both named.0 i (stood_at i named.0 named.1 there) there).0 (q.1 there),
          ),
        ),
    λ q. (asked_number i).1 (
      kept_now i q.0 q.1 q.2.0,
      λ there.
          let stands = stood_at i q.0 q.1 there in
          (both q.0 i stands there).1 (q.2.1 (i, there, stands)),
    ),
  )

module _ (S : Snap) (events : List Event) (nodes : List Node) (users : List Object) (marks changed : List ℕ) (rows : Rows) (valid : IsValid S) (are : AreOfEvents nodes events changed)
    (was : AreKept S nodes users marks rows) where
  pub touched_exactly : (n : Node) (i : ℕ) → slice_get nodes i ≡ Some n → kept rows i ≡ true → IsTouched (arc_in rows) changed i ↔ IsTouchedBy S events n
  touched_exactly n i at there = (
    λ t. subst (λ x. IsTouchedBy S events x) (node_is nodes i n at) (touched_by S nodes users marks rows valid was events changed i are there t),
    λ t. touched_in S nodes users marks rows valid was events changed n i are at there t,
  )

-- nothing that is kept is new where the rows are what they were
pub none_new : (S : Snap) (nodes nodes' : List Node) (users users' : List Object) (marks : List ℕ) (rows : Rows) → AreKept S nodes users marks rows → IsLater nodes nodes' users users'
    → (asked : List ℕ) → asked ≡ [] → (i : ℕ) → has asked i ≡ true ↔ ((n : Node) × (slice_get nodes' i ≡ Some n) × (Keeps nodes' rows n × (Keeps nodes rows n → ⊥)))
none_new S nodes nodes' users users' marks rows was later asked e i = (
  λ h. absurd (false≢true (ap (λ xs. has xs i) (sym e) ∙ h)),
  λ q. let at = q.2.0 in absurd (q.2.1 (at.0, at.1, stood S nodes nodes' users users' marks rows was later at.0 q.0 at.2 at.1)),
)

-- where nothing has changed, no node is touched
pub none_touched : (rows : Rows) (i : ℕ) → IsTouched (arc_in rows) [] i ↔ ⊥
none_touched rows i = (λ t. absurd (false≢true t.among), λ e. absurd e)

-- where nothing was kept, all that is kept then was asked
module _ (T : Snap) (nodes nodes' : List Node) (users users' : List Object) (marks : List ℕ) (old new : Rows) (asked : List ℕ) (valid : IsValid T) (none : (i : ℕ) → row_of old i ≡ None)
    (later : IsLater nodes nodes' users users') (distinct : AreDistinct nodes') (r : IsRefreshed (MayTell T nodes' users') old new marks marks [] [] asked) where
  was_none : AreKept T nodes users [] old
  was_none = kept_none T nodes users old none

  now_all : AreKept T nodes' users' marks new
  now_all = kept_anew T nodes nodes' users users' marks old new [] asked valid none later r

  pub all_once : IsDistinct nat_eq asked
  all_once = asked_once T T nodes nodes' users users' [] marks marks marks [] old new asked was_none distinct later now_all r

  pub all_asked : (i : ℕ) → has asked i ≡ true ↔ ((n : Node) × (slice_get nodes' i ≡ Some n) × Keeps nodes' new n)
  all_asked i =
      let both = asked_exactly T T nodes nodes' users users' [] marks marks marks [] old new asked was_none distinct later now_all r (λ n. ⊥) (λ n j at there. none_touched old j) i in (
        λ h. (let q = both.0 h in (q.0, q.1, q.2.0)),
        λ q. both.1 (q.0, q.1, (q.2, λ before. false≢true (sym (ap (λ (row : Option Row). is_some row) (none before.0)) ∙ before.1))),
      )
