-- The rule of rewrites grows.
use Rattle.std.proofs.Common.{subst, inl, inr}
use Rattle.std.specs.Prelude.{◌↔◌}
use Rattle.names.specs.declared.object.Object.{Object}
use Rattle.names.specs.declared.node.Node.{Node}
use Rattle.meaning.specs.Form.{Form, Forms, This, Computed, TupleTo, Union, Intersection, Exclusion, none, more}
use Rattle.meaning.specs.Snap.{Snap}
use Rattle.meaning.specs.Membership.{Gives, SomeGives, EachGives, RelationGives}
use Rattle.meaning.proofs.LeastLemmas.{Grows, IsFinitary}
use Rattle.meaning.proofs.Lists.{contains_here, contains_cases, contains_none}
use Rattle.std.proofs.Common.{List, [], ◌∷◌, ◌++◌, ⊎_elim}
use Rattle.std.specs.Prelude.{Contains}
use Rattle.std.proofs.lemmas.List.Elements.{Contains-append_left, Contains-append_right, Contains-append_cases}

mutual
  pub gives_grows : (S : Snap) (u : Object) (n : Node) (w : Form) (X Y L K : Node → Type 0) → ((m : Node) → X m → Y m) → ((m : Node) → L m ↔ K m) → Gives S u n w X L → Gives S u n w Y K
  gives_grows S u n This X Y L K f e (inl h) = inl h
  gives_grows S u n This X Y L K f e (inr h) = inr (h.0, h.1, f h.0 h.2)
  gives_grows S u n (Computed c) X Y L K f e h = f _ h
  gives_grows S u n (TupleTo t c) X Y L K f e h = (h.0, h.1, h.2, f _ h.3)
  gives_grows S u n (Union ws) X Y L K f e h = some_grows S u n ws X Y L K f e h
  gives_grows S u n (Intersection ws) X Y L K f e h = each_grows S u n ws X Y L K f e h
  gives_grows S u n (Exclusion a b) X Y L K f e h = (
    gives_grows S u n a X Y L K f e h.0,
    λ g. h.1 (gives_grows S u n b K L K L (λ m. (e m).1) (λ m. ((e m).1, (e m).0)) g),
  )

  pub some_grows : (S : Snap) (u : Object) (n : Node) (ws : Forms) (X Y L K : Node → Type 0) → ((m : Node) → X m → Y m) → ((m : Node) → L m ↔ K m) → SomeGives S u n ws X L → SomeGives S u n ws Y K
  some_grows S u n none X Y L K f e h = h
  some_grows S u n (more w ws) X Y L K f e (inl h) = inl (gives_grows S u n w X Y L K f e h)
  some_grows S u n (more w ws) X Y L K f e (inr h) = inr (some_grows S u n ws X Y L K f e h)

  pub each_grows : (S : Snap) (u : Object) (n : Node) (ws : Forms) (X Y L K : Node → Type 0) → ((m : Node) → X m → Y m) → ((m : Node) → L m ↔ K m) → EachGives S u n ws X L → EachGives S u n ws Y K
  each_grows S u n none X Y L K f e h = h
  each_grows S u n (more w ws) X Y L K f e h = (gives_grows S u n w X Y L K f e h.0, each_grows S u n ws X Y L K f e h.1)

pub relation_grows : (S : Snap) (u : Object) → Grows (RelationGives S u)
relation_grows S u n X Y L K f e h = (h.0, h.1, gives_grows S u n h.0.form X Y L K f e h.2)

-- the same lower levels
same : (L : Node → Type 0) (m : Node) → L m ↔ L m
same L m = (λ a. a, λ a. a)

only_one : (X : Node → Type 0) (x : Node) → X x → (m : Node) → Contains (x ∷ []) m → X m
only_one X x h m c = ⊎_elim (λ e. subst X e h) (λ d. absurd (contains_none m d)) (contains_cases x m [] c)

mutual
  pub gives_finitary : (S : Snap) (u : Object) (n : Node) (w : Form) (X L : Node → Type 0) → Gives S u n w X L → (ms : List Node) × ((m : Node) → Contains ms m → X m) × Gives S u n w (Contains ms) L
  gives_finitary S u n This X L (inl h) = ([], λ m c. absurd (contains_none m c), inl h)
  gives_finitary S u n This X L (inr h) = (h.0 ∷ [], only_one X h.0 h.2, inr (h.0, h.1, contains_here h.0 []))
  gives_finitary S u n (Computed c) X L h = (record { object = n.object; relation = c } ∷ [], only_one X _ h, contains_here _ [])
  gives_finitary S u n (TupleTo t c) X L h = (record { object = h.0; relation = c } ∷ [], only_one X _ h.3, (h.0, h.1, h.2, contains_here _ []))
  gives_finitary S u n (Union ws) X L h = some_finitary S u n ws X L h
  gives_finitary S u n (Intersection ws) X L h = each_finitary S u n ws X L h
  gives_finitary S u n (Exclusion a b) X L h = let f = gives_finitary S u n a X L h.0 in (f.0, f.1, (f.2, h.1))

  some_finitary : (S : Snap) (u : Object) (n : Node) (ws : Forms) (X L : Node → Type 0) → SomeGives S u n ws X L → (ms : List Node) × ((m : Node) → Contains ms m → X m) × SomeGives S u n ws (Contains ms) L
  some_finitary S u n none X L h = absurd h
  some_finitary S u n (more w ws) X L (inl h) = let f = gives_finitary S u n w X L h in (f.0, f.1, inl f.2)
  some_finitary S u n (more w ws) X L (inr h) = let f = some_finitary S u n ws X L h in (f.0, f.1, inr f.2)

  each_finitary : (S : Snap) (u : Object) (n : Node) (ws : Forms) (X L : Node → Type 0) → EachGives S u n ws X L → (ms : List Node) × ((m : Node) → Contains ms m → X m) × EachGives S u n ws (Contains ms) L
  each_finitary S u n none X L h = ([], λ m c. absurd (contains_none m c), h)
  each_finitary S u n (more w ws) X L h =
      let f = gives_finitary S u n w X L h.0 in
      let g = each_finitary S u n ws X L h.1 in (
        f.0 ++ g.0,
        λ m c. ⊎_elim (f.1 m) (g.1 m) (Contains-append_cases f.0 g.0 m c),
        (
          gives_grows S u n w (Contains f.0) (Contains (f.0 ++ g.0)) L L (Contains-append_left f.0 g.0) (same L) f.2,
          each_grows S u n ws (Contains g.0) (Contains (f.0 ++ g.0)) L L (Contains-append_right f.0 g.0) (same L) g.2,
        ),
      )

pub relation_finitary : (S : Snap) (u : Object) → IsFinitary (RelationGives S u)
relation_finitary S u n X L h = let f = gives_finitary S u n h.0.form X L h.2 in (f.0, f.1, (h.0, h.1, f.2))
