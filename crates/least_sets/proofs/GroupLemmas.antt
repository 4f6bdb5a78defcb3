-- Groups by arcs alone.
use Rattle.std.proofs.Common.{ℕ, ◌≡◌, Bool, true, false, nat_eq, List, [], ◌∷◌, sym, ◌∙◌, subst, ⊎_elim}
use Rattle.std.specs.List.{list_any}
use Rattle.std.proofs.lemmas.Bool.{or_cases, or_left, or_right, false≢true, eqb-true}
use Rattle.least_sets.specs.World.{has}
use Rattle.least_sets.specs.Least.{IsLeastIn, Derived, outside, follows}
use Rattle.least_sets.specs.Walks.{Walk, here, on}
use Rattle.least_sets.specs.Groups.{groups, GroupsAreWalks}
use Rattle.least_sets.proofs.Gives.{has_here, has_later}
use Rattle.least_sets.proofs.WalkLemmas.{walk_from}

-- one that passes
some_any : (test : ℕ → Bool) (xs : List ℕ) → list_any test xs ≡ true → (x : ℕ) × (has xs x ≡ true) × (test x ≡ true)
some_any test [] h = absurd (false≢true h)
some_any test (x ∷ xs) h = ⊎_elim
    (λ t. (x, has_here x xs, t))
    (λ r. let s = some_any test xs r in (s.0, has_later x xs s.0 s.1, s.2))
    (or_cases (test x) (list_any test xs) h)

any_some : (test : ℕ → Bool) (xs : List ℕ) (x : ℕ) → has xs x ≡ true → test x ≡ true → list_any test xs ≡ true
any_some test [] x h t = absurd (false≢true h)
any_some test (y ∷ ys) x h t = ⊎_elim
    (λ e. or_left (test y) (list_any test ys) (subst (λ i. test i ≡ true) (eqb-true x y e) t))
    (λ r. or_right (test y) (list_any test ys) (any_some test ys x r t))
    (or_cases (nat_eq x y) (has ys x) h)

walk_of : (arcs : ℕ → List ℕ) (part : ℕ → Bool) (end : ℕ) (set : ℕ → Bool)
    → ((n m : ℕ) → part n ≡ true → has (arcs n) m ≡ true → part m ≡ true)
    → (n : ℕ) → part n ≡ true → Derived (groups arcs) part end set n → Walk (λ a b. has (arcs a) b) n end
walk_of arcs part end set inside n pn (outside o h) = absurd (false≢true (sym o ∙ pn))
walk_of arcs part end set inside n pn (follows p from named below g) = ⊎_elim
    (λ own. ⊎_elim
    (λ e. subst (λ i. Walk (λ a b. has (arcs a) b) n i) (sym (eqb-true end n e)) here)
    (λ f. absurd (false≢true f))
    (or_cases (nat_eq end n) false own))
    (λ later. let s = some_any from (arcs n) later in
    walk_from s.1 (walk_of arcs part end set inside s.0 (inside n s.0 pn s.1) (below s.0 s.2)))
    (or_cases (has (n ∷ []) end) (list_any from (arcs n)) g)

held_of : (arcs : ℕ → List ℕ) (part : ℕ → Bool) (end : ℕ) (set : ℕ → Bool)
    → IsLeastIn (groups arcs) part end set
    → (a b : ℕ) → ((n m : ℕ) → part n ≡ true → has (arcs n) m ≡ true → part m ≡ true)
    → Walk (λ x y. has (arcs x) y) a b → part a ≡ true → (part b ≡ true) × (set b ≡ true → set a ≡ true)
held_of arcs part end set least a b inside here pa = (pa, λ h. h)
held_of arcs part end set least a b inside (on {b = m} w e) pa =
    let r = held_of arcs part end set least a m inside w pa in
    (inside m b r.0 e, λ h. r.1 (least.closed m r.0 (or_right (has (m ∷ []) end) (list_any set (arcs m)) (any_some set (arcs m) b e h))))

pub walks : GroupsAreWalks
walks arcs part end set inside least n pn = (
  λ h. walk_of arcs part end set inside n pn (least.derived n pn h),
  λ w. let r = held_of arcs part end set least n end inside w pn in
      r.1 (least.closed end r.0 (or_left (has (end ∷ []) end) (list_any set (arcs end)) (has_here end []))),
)
