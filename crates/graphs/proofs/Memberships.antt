-- The least sets of a snapshot's graph are its members.
use Rattle.std.proofs.Common.{ℕ, zero, suc, ◌≡◌, ◌≤◌, ◌<◌, Bool, true, false, not, nat_eq, List, [], ◌∷◌, ◌++◌, refl, sym, ◌∙◌, subst, arith, ⊎_elim, ◌⊎◌, inl, inr}
use Rattle.std.specs.Prelude.{◌↔◌}
use Rattle.std.specs.List.{list_any}
use Rattle.std.proofs.lemmas.Bool.{or_cases, cases_lt, or_left, or_right, and_parts, and_from, false≢true, eqb-true, not_from_true, not_from_false, false_from_ne_true}
use Rattle.names.specs.declared.object.Object.{Object}
use Rattle.names.specs.declared.node.Node.{Node}
use Rattle.meaning.specs.Snap.{Snap}
use Rattle.meaning.specs.Form.{Form, Forms, none, more}
use Rattle.meaning.specs.Form as form
use Rattle.meaning.specs.Config.{Defined, Defines, Has, IsAt, Step, rel_of}
use Rattle.meaning.specs.Membership.{Gives, SomeGives, EachGives, RelationGives, IsMember}
use Rattle.meaning.specs.Reads.{IsValid, SomeReads}
use Rattle.meaning.specs.Reads as reading
use Rattle.meaning.proofs.LevelLemmas.{one_level}
use Rattle.meaning.proofs.ReadsLemmas.{at_level, member_unfolds}
use Rattle.meaning.proofs.RegionLemmas.{IsKnownAround, region_complete}
use Rattle.least_sets.specs.World.{Fact, Shape, Either, Both, Except, has, gives, arcs_of, plain_of, taken_of}
use Rattle.least_sets.specs.Least.{IsLevelled, IsLeastIn, Derived, outside, follows}
use Rattle.least_sets.proofs.Gives.{has_here, has_left, has_right, plain_named, taken_named}
use Rattle.graphs.specs.Graph.{IsNone, IsShapeOf, IsAnyOf, IsEachOf, IsGraphOf, LeastIsMembership}

any_find : (p : ℕ → Bool) (xs : List ℕ) → list_any p xs ≡ true → (x : ℕ) × (has xs x ≡ true) × (p x ≡ true)
any_find p [] h = absurd (false≢true h)
any_find p (x ∷ xs) h = ⊎_elim
    (λ f. (x, has_here x xs, f))
    (λ f. let r = any_find p xs f in (r.0, or_right (nat_eq r.0 x) (has xs r.0) r.1, r.2))
    (or_cases (p x) (list_any p xs) h)

any_from : (p : ℕ → Bool) (xs : List ℕ) (x : ℕ) → has xs x ≡ true → p x ≡ true → list_any p xs ≡ true
any_from p [] x h f = absurd (false≢true h)
any_from p (y ∷ ys) x h f = ⊎_elim
    (λ q. or_left (p y) (list_any p ys) (subst (λ k. p k ≡ true) (eqb-true x y q) f))
    (λ q. or_right (p y) (list_any p ys) (any_from p ys x q f))
    (or_cases (nat_eq x y) (has ys x) h)

each_none : (S : Snap) (u : Object) (n : Node) (ws : Forms) (X L : Node → Type 0) → IsNone ws → EachGives S u n ws X L
each_none S u n none X L i = tt
each_none S u n (more w ws) X L i = absurd i

no_reads : (S : Snap) (n : Node) (ws : Forms) (sign : Bool) (m : Node) → IsNone ws → SomeReads S n ws sign m → ⊥
no_reads S n none sign m i r = r
no_reads S n (more w ws) sign m i r = i

-- the nodes of a shape that may give members, and those that may take them away
abbrev named_in : Bool → Shape → ℕ → Bool
named_in false shape m = has (plain_of shape) m
named_in true shape m = has (taken_of shape) m

module _ (S : Snap) (users : ℕ → Object) (nodes : ℕ → Node) (n : Node) (own : List ℕ) (user : ℕ) where
  -- what the shape gives is what the rewrite gives
  abbrev PlainTo : Shape → (ℕ → Bool) → (Node → Type 0) → Type 0
  PlainTo shape x X = (m : ℕ) → has (plain_of shape) m ≡ true → x m ≡ true → X (nodes m)

  abbrev PlainFrom : Shape → (ℕ → Bool) → (Node → Type 0) → Type 0
  PlainFrom shape x X = (m : ℕ) → has (plain_of shape) m ≡ true → X (nodes m) → x m ≡ true

  abbrev TakenAre : Shape → (ℕ → Bool) → (Node → Type 0) → Type 0
  TakenAre shape l L = (m : ℕ) → has (taken_of shape) m ≡ true → l m ≡ true ↔ L (nodes m)

  abbrev Given : Shape → (x l : ℕ → Bool) → Type 0
  Given shape x l = gives (has own user) x l shape ≡ true

  mutual
    pub to_form : (w : Form) (shape : Shape) → IsShapeOf S users nodes n own w shape → (x l : ℕ → Bool) (X L : Node → Type 0)
        → PlainTo shape x X → TakenAre shape l L → Given shape x l → Gives S (users user) n w X L
    to_form form.This shape s x l X L f e g = ⊎_elim
        (λ o. inl ((s.2 user).0 o))
        (λ o. let r = any_find x s.0 o in
        inr (nodes r.0, s.3.sound r.0 r.1, f r.0 (subst (λ k. has (plain_of k) r.0 ≡ true) (sym s.1) r.1) r.2))
        (or_cases (has own user) (list_any x s.0) (subst (λ k. Given k x l) s.1 g))
    to_form (form.Computed c) shape s x l X L f e g =
        let r = any_find x s.0 (subst (λ k. Given k x l) s.1 g) in
        subst X (s.2.sound r.0 r.1) (f r.0 (subst (λ k. has (plain_of k) r.0 ≡ true) (sym s.1) r.1) r.2)
    to_form (form.TupleTo t c) shape s x l X L f e g =
        let r = any_find x s.1 (subst (λ k. Given k x l) s.2 g) in
        let p = s.4.sound r.0 r.1 in
        (p.0, p.1, p.2, subst X p.3 (f r.0 (subst (λ k. has (plain_of k) r.0 ≡ true) (sym s.2) r.1) r.2))
    to_form (form.Union ws) shape s x l X L f e g = to_some ws shape s x l X L f e g
    to_form (form.Intersection ws) shape s x l X L f e g = to_each ws shape s x l X L f e g
    to_form (form.Exclusion a b) shape s x l X L f e g =
        let two = and_parts (gives (has own user) x l s.0) (not (gives (has own user) l l s.1)) (subst (λ k. Given k x l) s.2 g) in (
          to_form a s.0 s.3 x l X L
              (λ m h. f m (subst (λ k. has (plain_of k) m ≡ true) (sym s.2) h))
              (λ m h. e m (subst (λ k. has (taken_of k) m ≡ true) (sym s.2) (has_left (taken_of s.0) (plain_of s.1 ++ taken_of s.1) m h)))
              two.0,
          λ y. false≢true (sym (not_from_true (gives (has own user) l l s.1) (from_form b s.1 s.4 l l L L
              (λ m h. (e m (subst (λ k. has (taken_of k) m ≡ true) (sym s.2) (has_right (taken_of s.0) (plain_of s.1 ++ taken_of s.1) m (has_left (plain_of s.1) (taken_of s.1) m h)))).1)
              (λ m h. e m (subst (λ k. has (taken_of k) m ≡ true) (sym s.2) (has_right (taken_of s.0) (plain_of s.1 ++ taken_of s.1) m (has_right (plain_of s.1) (taken_of s.1) m h))))
              y)) ∙ two.1),
        )

    pub to_some : (ws : Forms) (shape : Shape) → IsAnyOf S users nodes n own ws shape → (x l : ℕ → Bool) (X L : Node → Type 0)
        → PlainTo shape x X → TakenAre shape l L → Given shape x l → SomeGives S (users user) n ws X L
    to_some none shape s x l X L f e g = absurd (false≢true (subst (λ k. Given k x l) s g))
    to_some (more w ws) shape s x l X L f e g = ⊎_elim
        (λ o. inl (to_form w s.0 s.3 x l X L
        (λ m h. f m (subst (λ k. has (plain_of k) m ≡ true) (sym s.2) (has_left (plain_of s.0) (plain_of s.1) m h)))
        (λ m h. e m (subst (λ k. has (taken_of k) m ≡ true) (sym s.2) (has_left (taken_of s.0) (taken_of s.1) m h))) o))
        (λ o. inr (to_some ws s.1 s.4 x l X L
        (λ m h. f m (subst (λ k. has (plain_of k) m ≡ true) (sym s.2) (has_right (plain_of s.0) (plain_of s.1) m h)))
        (λ m h. e m (subst (λ k. has (taken_of k) m ≡ true) (sym s.2) (has_right (taken_of s.0) (taken_of s.1) m h))) o))
        (or_cases (gives (has own user) x l s.0) (gives (has own user) x l s.1) (subst (λ k. Given k x l) s.2 g))

    pub to_each : (ws : Forms) (shape : Shape) → IsEachOf S users nodes n own ws shape → (x l : ℕ → Bool) (X L : Node → Type 0)
        → PlainTo shape x X → TakenAre shape l L → Given shape x l → EachGives S (users user) n ws X L
    to_each none shape s x l X L f e g = absurd s
    to_each (more w ws) shape (inl s) x l X L f e g = (to_form w shape s.1 x l X L f e g, each_none S (users user) n ws X L s.0)
    to_each (more w ws) shape (inr s) x l X L f e g =
        let two = and_parts (gives (has own user) x l s.0) (gives (has own user) x l s.1) (subst (λ k. Given k x l) s.2 g) in (
          to_form w s.0 s.3 x l X L
              (λ m h. f m (subst (λ k. has (plain_of k) m ≡ true) (sym s.2) (has_left (plain_of s.0) (plain_of s.1) m h)))
              (λ m h. e m (subst (λ k. has (taken_of k) m ≡ true) (sym s.2) (has_left (taken_of s.0) (taken_of s.1) m h))) two.0,
          to_each ws s.1 s.4 x l X L
              (λ m h. f m (subst (λ k. has (plain_of k) m ≡ true) (sym s.2) (has_right (plain_of s.0) (plain_of s.1) m h)))
              (λ m h. e m (subst (λ k. has (taken_of k) m ≡ true) (sym s.2) (has_right (taken_of s.0) (taken_of s.1) m h))) two.1,
        )

    pub from_form : (w : Form) (shape : Shape) → IsShapeOf S users nodes n own w shape → (x l : ℕ → Bool) (X L : Node → Type 0)
        → PlainFrom shape x X → TakenAre shape l L → Gives S (users user) n w X L → Given shape x l
    from_form form.This shape s x l X L f e (inl o) = subst (λ k. Given k x l) (sym s.1) (or_left (has own user) (list_any x s.0) ((s.2 user).1 o))
    from_form form.This shape s x l X L f e (inr o) =
        let r = s.3.complete o.0 o.1 in
        subst (λ k. Given k x l) (sym s.1) (or_right (has own user) (list_any x s.0)
        (any_from x s.0 r.0 r.1 (f r.0 (subst (λ k. has (plain_of k) r.0 ≡ true) (sym s.1) r.1) (subst X (sym r.2) o.2))))
    from_form (form.Computed c) shape s x l X L f e o =
        let r = s.2.complete (record { object = n.object; relation = c }) refl in
        subst (λ k. Given k x l) (sym s.1)
        (any_from x s.0 r.0 r.1 (f r.0 (subst (λ k. has (plain_of k) r.0 ≡ true) (sym s.1) r.1) (subst X (sym r.2) o)))
    from_form (form.TupleTo t c) shape s x l X L f e o =
        let r = s.4.complete (record { object = o.0; relation = c }) (o.0, o.1, o.2, refl) in
        subst (λ k. Given k x l) (sym s.2)
        (any_from x s.1 r.0 r.1 (f r.0 (subst (λ k. has (plain_of k) r.0 ≡ true) (sym s.2) r.1) (subst X (sym r.2) o.3)))
    from_form (form.Union ws) shape s x l X L f e o = from_some ws shape s x l X L f e o
    from_form (form.Intersection ws) shape s x l X L f e o = from_each ws shape s x l X L f e o
    from_form (form.Exclusion a b) shape s x l X L f e o = subst (λ k. Given k x l) (sym s.2)
        (and_from (gives (has own user) x l s.0) (not (gives (has own user) l l s.1))
        (from_form a s.0 s.3 x l X L
        (λ m h. f m (subst (λ k. has (plain_of k) m ≡ true) (sym s.2) h))
        (λ m h. e m (subst (λ k. has (taken_of k) m ≡ true) (sym s.2) (has_left (taken_of s.0) (plain_of s.1 ++ taken_of s.1) m h)))
        o.0)
        (not_from_false (gives (has own user) l l s.1) (false_from_ne_true (gives (has own user) l l s.1) (λ y. o.1 (to_form b s.1 s.4 l l L L
        (λ m h. (e m (subst (λ k. has (taken_of k) m ≡ true) (sym s.2) (has_right (taken_of s.0) (plain_of s.1 ++ taken_of s.1) m (has_left (plain_of s.1) (taken_of s.1) m h)))).0)
        (λ m h. e m (subst (λ k. has (taken_of k) m ≡ true) (sym s.2) (has_right (taken_of s.0) (plain_of s.1 ++ taken_of s.1) m (has_right (plain_of s.1) (taken_of s.1) m h))))
        y)))))

    pub from_some : (ws : Forms) (shape : Shape) → IsAnyOf S users nodes n own ws shape → (x l : ℕ → Bool) (X L : Node → Type 0)
        → PlainFrom shape x X → TakenAre shape l L → SomeGives S (users user) n ws X L → Given shape x l
    from_some none shape s x l X L f e o = absurd o
    from_some (more w ws) shape s x l X L f e (inl o) = subst (λ k. Given k x l) (sym s.2) (or_left (gives (has own user) x l s.0) (gives (has own user) x l s.1)
        (from_form w s.0 s.3 x l X L
        (λ m h. f m (subst (λ k. has (plain_of k) m ≡ true) (sym s.2) (has_left (plain_of s.0) (plain_of s.1) m h)))
        (λ m h. e m (subst (λ k. has (taken_of k) m ≡ true) (sym s.2) (has_left (taken_of s.0) (taken_of s.1) m h))) o))
    from_some (more w ws) shape s x l X L f e (inr o) = subst (λ k. Given k x l) (sym s.2) (or_right (gives (has own user) x l s.0) (gives (has own user) x l s.1)
        (from_some ws s.1 s.4 x l X L
        (λ m h. f m (subst (λ k. has (plain_of k) m ≡ true) (sym s.2) (has_right (plain_of s.0) (plain_of s.1) m h)))
        (λ m h. e m (subst (λ k. has (taken_of k) m ≡ true) (sym s.2) (has_right (taken_of s.0) (taken_of s.1) m h))) o))

    pub from_each : (ws : Forms) (shape : Shape) → IsEachOf S users nodes n own ws shape → (x l : ℕ → Bool) (X L : Node → Type 0)
        → PlainFrom shape x X → TakenAre shape l L → EachGives S (users user) n ws X L → Given shape x l
    from_each none shape s x l X L f e o = absurd s
    from_each (more w ws) shape (inl s) x l X L f e o = from_form w shape s.1 x l X L f e o.0
    from_each (more w ws) shape (inr s) x l X L f e o = subst (λ k. Given k x l) (sym s.2) (and_from (gives (has own user) x l s.0) (gives (has own user) x l s.1)
        (from_form w s.0 s.3 x l X L
        (λ m h. f m (subst (λ k. has (plain_of k) m ≡ true) (sym s.2) (has_left (plain_of s.0) (plain_of s.1) m h)))
        (λ m h. e m (subst (λ k. has (taken_of k) m ≡ true) (sym s.2) (has_left (taken_of s.0) (taken_of s.1) m h))) o.0)
        (from_each ws s.1 s.4 x l X L
        (λ m h. f m (subst (λ k. has (plain_of k) m ≡ true) (sym s.2) (has_right (plain_of s.0) (plain_of s.1) m h)))
        (λ m h. e m (subst (λ k. has (taken_of k) m ≡ true) (sym s.2) (has_right (taken_of s.0) (taken_of s.1) m h))) o.1))

  -- each node that the rewrite looks up is named by the shape
  abbrev IsNamed : Bool → Shape → Node → Type 0
  IsNamed sign shape m = (j : ℕ) × (named_in sign shape j ≡ true) × (nodes j ≡ m)

  plain_sign : (sign : Bool) (shape : Shape) (j : ℕ) (m : Node) → sign ≡ false → has (plain_of shape) j ≡ true → nodes j ≡ m → IsNamed sign shape m
  plain_sign sign shape j m e h q = (j, subst (λ b. named_in b shape j ≡ true) (sym e) h, q)

  two_left : (sign : Bool) (x y : Shape) (j : ℕ) → named_in sign x j ≡ true → (named_in sign (Either x y) j ≡ true) × (named_in sign (Both x y) j ≡ true)
  two_left false x y j h = (has_left (plain_of x) (plain_of y) j h, has_left (plain_of x) (plain_of y) j h)
  two_left true x y j h = (has_left (taken_of x) (taken_of y) j h, has_left (taken_of x) (taken_of y) j h)

  two_right : (sign : Bool) (x y : Shape) (j : ℕ) → named_in sign y j ≡ true → (named_in sign (Either x y) j ≡ true) × (named_in sign (Both x y) j ≡ true)
  two_right false x y j h = (has_right (plain_of x) (plain_of y) j h, has_right (plain_of x) (plain_of y) j h)
  two_right true x y j h = (has_right (taken_of x) (taken_of y) j h, has_right (taken_of x) (taken_of y) j h)

  less_left : (sign : Bool) (x y : Shape) (j : ℕ) → named_in sign x j ≡ true → named_in sign (Except x y) j ≡ true
  less_left false x y j h = h
  less_left true x y j h = has_left (taken_of x) (plain_of y ++ taken_of y) j h

  less_right : (sign : Bool) (x y : Shape) (j : ℕ) → named_in sign y j ≡ true → has (taken_of (Except x y)) j ≡ true
  less_right false x y j h = has_right (taken_of x) (plain_of y ++ taken_of y) j (has_left (plain_of y) (taken_of y) j h)
  less_right true x y j h = has_right (taken_of x) (plain_of y ++ taken_of y) j (has_right (plain_of y) (taken_of y) j h)

  mutual
    pub reads_named : (w : Form) (shape : Shape) → IsShapeOf S users nodes n own w shape → (sign : Bool) (m : Node) → reading.Reads S n w sign m → IsNamed sign shape m
    reads_named form.This shape s sign m r =
        let q = s.3.complete m r.1 in
        plain_sign sign shape q.0 m r.0 (subst (λ k. has (plain_of k) q.0 ≡ true) (sym s.1) q.1) q.2
    reads_named (form.Computed c) shape s sign m r =
        let q = s.2.complete m r.1 in
        plain_sign sign shape q.0 m r.0 (subst (λ k. has (plain_of k) q.0 ≡ true) (sym s.1) q.1) q.2
    reads_named (form.TupleTo t c) shape s sign m r =
        let q = s.4.complete m r.1 in
        plain_sign sign shape q.0 m r.0 (subst (λ k. has (plain_of k) q.0 ≡ true) (sym s.2) q.1) q.2
    reads_named (form.Union ws) shape s sign m r = some_named ws shape s sign m r
    reads_named (form.Intersection ws) shape s sign m r = each_named ws shape s sign m r
    reads_named (form.Exclusion a b) shape s sign m (inl r) =
        let q = reads_named a s.0 s.3 sign m r in
        (q.0, subst (λ k. named_in sign k q.0 ≡ true) (sym s.2) (less_left sign s.0 s.1 q.0 q.1), q.2)
    reads_named (form.Exclusion a b) shape s sign m (inr r) =
        let q = reads_named b s.1 s.4 r.1.0 m r.1.1 in
        (q.0, subst (λ c. named_in c shape q.0 ≡ true) (sym r.0) (subst (λ k. has (taken_of k) q.0 ≡ true) (sym s.2) (less_right r.1.0 s.0 s.1 q.0 q.1)), q.2)

    pub some_named : (ws : Forms) (shape : Shape) → IsAnyOf S users nodes n own ws shape → (sign : Bool) (m : Node) → SomeReads S n ws sign m → IsNamed sign shape m
    some_named none shape s sign m r = absurd r
    some_named (more w ws) shape s sign m (inl r) =
        let q = reads_named w s.0 s.3 sign m r in
        (q.0, subst (λ k. named_in sign k q.0 ≡ true) (sym s.2) (two_left sign s.0 s.1 q.0 q.1).0, q.2)
    some_named (more w ws) shape s sign m (inr r) =
        let q = some_named ws s.1 s.4 sign m r in
        (q.0, subst (λ k. named_in sign k q.0 ≡ true) (sym s.2) (two_right sign s.0 s.1 q.0 q.1).0, q.2)

    pub each_named : (ws : Forms) (shape : Shape) → IsEachOf S users nodes n own ws shape → (sign : Bool) (m : Node) → SomeReads S n ws sign m → IsNamed sign shape m
    each_named none shape s sign m r = absurd r
    each_named (more w ws) shape (inl s) sign m (inl r) = reads_named w shape s.1 sign m r
    each_named (more w ws) shape (inl s) sign m (inr r) = absurd (no_reads S n ws sign m s.0 r)
    each_named (more w ws) shape (inr s) sign m (inl r) =
        let q = reads_named w s.0 s.3 sign m r in
        (q.0, subst (λ k. named_in sign k q.0 ≡ true) (sym s.2) (two_left sign s.0 s.1 q.0 q.1).1, q.2)
    each_named (more w ws) shape (inr s) sign m (inr r) =
        let q = each_named ws s.1 s.4 sign m r in
        (q.0, subst (λ k. named_in sign k q.0 ≡ true) (sym s.2) (two_right sign s.0 s.1 q.0 q.1).1, q.2)

module _ (S : Snap) (users : ℕ → Object) (nodes : ℕ → Node) (part : ℕ → Bool) (world : ℕ → Fact) (user : ℕ) (set : ℕ → Bool)
    (valid : IsValid S) (graph : IsGraphOf S users nodes part world) (levels : IsLevelled world)
    (closed : (n m : ℕ) → part n ≡ true → has (arcs_of (world n).shape) m ≡ true → part m ≡ true)
    (least : IsLeastIn world part user set) where
  Member : Node → Type 0
  Member = IsMember S (users user)

  abbrev IsExact : ℕ → Type 0
  IsExact k = (n : ℕ) → part n ≡ true → (world n).level < k → set n ≡ true ↔ IsMember S (users user) (nodes n)

  sound : (k : ℕ) → IsExact k → (n : ℕ) → part n ≡ true → (world n).level ≤ k → Derived world part user set n → IsMember S (users user) (nodes n)
  sound k low n pn le (outside off h) = absurd (false≢true (sym off ∙ pn))
  sound k low n pn le (follows in_part from named below g) = ⊎_elim
      (λ d. (member_unfolds S valid (users user) (nodes n)).1 (
        d.0,
        d.1,
        to_form S users nodes (nodes n) (world n).own user d.0.form (world n).shape d.3 from set (IsMember S (users user)) (IsMember S (users user))
            (λ m h x. sound k low m (closed n m pn (plain_named (world n).shape m h)) (let l : (world m).level ≤ (world n).level = levels.plain n m h in omega arith) (below m x))
            (λ m h. low m (closed n m pn (taken_named (world n).shape m h)) (let l : (world m).level < (world n).level = levels.taken n m h in omega arith))
            g,
      ))
      (λ d. absurd (false≢true (subst (λ k. gives (has (world n).own user) from set k ≡ true) d.1 g)))
      (graph n pn)

  -- the level of a defined node is its relation's
  level_at : (n : ℕ) → part n ≡ true → Has S.config (rel_of (nodes n)) → IsAt S.config (nodes n) (world n).level
  level_at n pn has_it = ⊎_elim (λ d. d.2) (λ d. absurd (d.0 has_it)) (graph n pn)

  member_has : (n : Node) → IsMember S (users user) n → Has S.config (rel_of n)
  member_has n member = (at_level S (users user) member.0 n member.1).1.0

  same_level : (i j : ℕ) → part i ≡ true → part j ≡ true → nodes i ≡ nodes j → Has S.config (rel_of (nodes j)) → (world i).level ≡ (world j).level
  same_level i j pi pj e has_it = one_level (Step S.config) (rel_of (nodes j)) (world i).level (world j).level
      (subst (λ q. IsAt S.config q (world i).level) e (level_at i pi (subst (λ q. Has S.config (rel_of q)) (sym e) has_it))).1
      (level_at j pj has_it).1

  abbrev region : ℕ → Node → Type 0
  region k q = (i : ℕ) × (part i ≡ true) × ((world i).level ≡ k) × (nodes i ≡ q) × Has S.config (rel_of q)

  abbrev known : ℕ → Node → Type 0
  known k q = IsMember S (users user) q × ((j : ℕ) × (part j ≡ true) × ((world j).level < k) × (nodes j ≡ q))

  abbrev held : ℕ → Node → Type 0
  held k q = (i : ℕ) → part i ≡ true → (world i).level ≡ k → nodes i ≡ q → set i ≡ true

  -- what the rewrite of a node of the region looks up
  looked_up : (k : ℕ) (n m : Node) (d : Defined) → region k n → Defines S.config (rel_of n) d → (sign : Bool) → reading.Reads S n d.form sign m
      → (i : ℕ) × (part i ≡ true) × ((world i).level ≡ k) × (j : ℕ) × (named_in sign (world i).shape j ≡ true) × (nodes j ≡ m)
  looked_up k n m d r defines sign reads = ⊎_elim
      (λ f.
      let q = reads_named S users nodes (nodes r.0) (world r.0).own user d.form (world r.0).shape
      (subst (λ (y : Defined). IsShapeOf S users nodes (nodes r.0) (world r.0).own y.form (world r.0).shape)
      (valid.once (rel_of (nodes r.0)) f.0 d f.1 (subst (λ q. Defines S.config (rel_of q) d) (sym r.3) defines)) f.3)
      sign m (subst (λ q. reading.Reads S q d.form sign m) (sym r.3) reads) in
      (r.0, r.1, r.2, q.0, q.1, q.2))
      (λ f. absurd (f.0 (subst (λ q. Has S.config (rel_of q)) (sym r.3) r.4)))
      (graph r.0 r.1)

  around : (k : ℕ) → IsKnownAround S (users user) (region k) (known k)
  around k = record {
    sound = λ m t. t.0;
    plain_known = λ n m d r defines reads.
        let p = looked_up k n m d r defines false reads in
        let pj : part p.3 ≡ true = closed p.0 p.3 p.1 (plain_named (world p.0).shape p.3 p.4) in
        let le : (world p.3).level ≤ (world p.0).level = levels.plain p.0 p.3 p.4 in
        ⊎_elim
        (λ lt. inr (λ member. (member, (p.3, pj, lt, p.5))))
        (λ ge. ⊎_elim
        (λ f. inl (p.3, pj, (let e : (world p.3).level ≡ k = omega (arith, p.2, le, ge) in e), p.5, subst (λ y. Has S.config (rel_of y)) p.5 (f.0, f.1)))
        (λ f. inr (λ member. absurd (f.0 (subst (λ y. Has S.config (rel_of y)) (sym p.5) (member_has m member)))))
        (graph p.3 pj))
        (cases_lt (world p.3).level k);
    subtracted_known = λ n m d r defines reads member.
        let p = looked_up k n m d r defines true reads in
        let lt : (world p.3).level < (world p.0).level = levels.taken p.0 p.3 p.4 in
        (member, (p.3, closed p.0 p.3 p.1 (taken_named (world p.0).shape p.3 p.4), (let l : (world p.3).level < k = omega (arith, p.2, lt) in l), p.5));
  }

  at : (k : ℕ) (m : Node) → region k m → IsAt S.config m k
  at k m r = subst (λ y. IsAt S.config m y) r.2 (subst (λ y. IsAt S.config y (world r.0).level) r.3 (level_at r.0 r.1 (subst (λ q. Has S.config (rel_of q)) (sym r.3) r.4)))

  region_closed : (k : ℕ) → IsExact k → (n : Node) → region k n → RelationGives S (users user) n (λ m. (region k m × held k m) ⊎ known k m) (known k) → held k n
  region_closed k low n r given i pi li e =
      let g = subst (λ q. RelationGives S (users user) q (λ m. (region k m × held k m) ⊎ known k m) (known k)) (sym e) given in
      ⊎_elim
      (λ f. least.closed i pi (from_form S users nodes (nodes i) (world i).own user g.0.form (world i).shape
      (subst (λ (y : Defined). IsShapeOf S users nodes (nodes i) (world i).own y.form (world i).shape) (valid.once (rel_of (nodes i)) f.0 g.0 f.1 g.1) f.3)
      set set (λ m. (region k m × held k m) ⊎ known k m) (known k)
      (λ m h x.
      let pm : part m ≡ true = closed i m pi (plain_named (world i).shape m h) in
      let le : (world m).level ≤ (world i).level = levels.plain i m h in
      ⊎_elim
      (λ lt. ⊎_elim
      (λ y. let same : (world y.0.0).level ≡ (world m).level = same_level y.0.0 m y.0.1 pm y.0.3 y.0.4 in
      absurd (omega (arith, same, y.0.2, lt)))
      (λ y. (low m pm lt).1 y.0) x)
      (λ ge. let here : (world m).level ≡ k = omega (arith, li, le, ge) in
      ⊎_elim
      (λ y. y.1 m pm here refl)
      (λ y. let same : (world y.1.0).level ≡ (world m).level = same_level y.1.0 m y.1.1 pm y.1.3 (member_has (nodes m) y.0) in
      absurd (let l : (world y.1.0).level < k = y.1.2 in omega (arith, same, l, here))) x)
      (cases_lt (world m).level k))
      (λ m h.
      let pm : part m ≡ true = closed i m pi (taken_named (world i).shape m h) in
      let lt : (world m).level < (world i).level = levels.taken i m h in
      let l : (world m).level < k = omega (arith, li, lt) in
      (λ x. ((low m pm l).0 x, (m, pm, l, refl)), λ x. (low m pm l).1 x.0))
      g.2))
      (λ f. absurd (f.0 (g.0, g.1)))
      (graph i pi)

  complete : (k : ℕ) → IsExact k → (n : ℕ) → part n ≡ true → (world n).level ≡ k → IsMember S (users user) (nodes n) → set n ≡ true
  complete k low n pn ln member =
      region_complete S valid (users user) k (region k) (known k) (around k) (held k) (at k) (region_closed k low)
      (nodes n) (n, pn, ln, refl, member_has (nodes n) member) member n pn ln refl

  exact : (k : ℕ) → IsExact k
  exact zero n pn lt = absurd (omega arith)
  exact (suc k) n pn lt = (
    λ h. sound k (exact k) n pn (omega arith) (least.derived n pn h),
    λ member. ⊎_elim
        (λ l. (exact k n pn l).1 member)
        (λ ge. complete k (exact k) n pn (let e : (world n).level ≡ k = omega (arith, lt, ge) in e) member)
        (cases_lt (world n).level k),
  )

pub membership : LeastIsMembership
membership S users nodes part world user set valid graph levels closed least n pn =
    exact S users nodes part world user set valid graph levels closed least (suc (world n).level) n pn (omega arith)
