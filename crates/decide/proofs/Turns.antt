-- What each turn keeps, and what is known at the end.
use Rattle.std.proofs.Common.{◌≡◌, ℕ, suc, ◌<◌, Bool, true, false, length, cond, ap, ◌∙◌, sym, subst, refl, inr, ⊎_elim, arith, [], List, rules}
use Rattle.std.specs.Prelude.{◌↔◌, Option, Some, None, IsTrue, Contains}
use Rattle.std.proofs.lemmas.Bool.{cases_eq, false≢true}
use Rattle.names.specs.declared.object.Object.{Object}
use Rattle.names.specs.declared.node.Node.{Node}
use Rattle.meaning.specs.Snap.{Snap}
use Rattle.meaning.specs.Config.{IsAt}
use Rattle.meaning.specs.Membership.{RelationGives, IsMember}
use Rattle.meaning.proofs.GivesLemmas.{relation_grows}
use Rattle.decide.specs.declared.search.Search.{Search}
use Rattle.decide.specs.declared.search.Opened.{Opened}
use Rattle.decide.specs.declared.asking.Asking.{Asking}
use Rattle.decide.specs.inside.Under.{Under}
use Rattle.decide.specs.inside.Searches.{Stands, IsStacked, IsThere, IsNumberOf}
use Rattle.decide.specs.inside.Running.{IsRunning, IsHope, IsStuck}
use Rattle.decide.specs.inside.Asked.{high, Counts, IsLeft, IsAsking}
use Rattle.decide.proofs.Relations.{element}
use Rattle.decide.proofs.Settling.{under_own, under_given, same_opened, settled}

module _ (S : Snap) (u : Object) where
  same : (L : Node → Type 0) (m : Node) → L m ↔ L m
  same L m = (λ a. a, λ a. a)

  -- a member, by its own level
  pub member_under : (n : Node) (k : ℕ) → IsAt S.config n k → IsMember S u n → Under S u (suc k) n
  member_under n k at (j, b) = (under_own S u j k n at b).0

  pub under_member : (n : Node) (k : ℕ) → Under S u k n → IsMember S u n
  under_member n k b = (k, b)

  pub waiting_all_there : (s : Search) (but : Option ℕ) → IsRunning S u s but → (w i : ℕ) (e : Opened) → Stands s i e → Contains e.waiting.items w → (w < length s.opened.items) × IsThere s w
  waiting_all_there s but run w i e st c = (run.waiting_there i w e st c, λ f there. run.stack_there w f there)

  -- the one number that was excepted is covered too
  pub covered_too : (s : Search) (number : ℕ) → IsRunning S u s (Some number) → ((e : Opened) → Stands s number e → e.sure ≡ false → IsStuck S u s number e) → IsRunning S u s None
  covered_too s number run stuck = record {
    at = run.at;
    placed = run.placed;
    stack_there = run.stack_there;
    waiting_there = run.waiting_there;
    stacked_there = run.stacked_there;
    leveled = run.leveled;
    falling = run.falling;
    right = run.right;
    kept = run.kept;
    covered = λ i e st unsure _. ⊎_elim
        (λ here. inr (stuck_here i e here st unsure))
        (λ other. run.covered i e st unsure (λ is. other (number_is i is)))
        (cases_eq i number);
  }
    where
      number_is : (i : ℕ) → Some number ≡ Some i → i ≡ number
      number_is i is = cc

      stuck_here : (i : ℕ) (e : Opened) → i ≡ number → Stands s i e → e.sure ≡ false → IsStuck S u s i e
      stuck_here i e here st unsure = subst (λ j. IsStuck S u s j e) (sym here) (stuck e (subst (λ j. Stands s j e) here st) unsure)

  pub covered_sure : (s : Search) (number : ℕ) → IsRunning S u s (Some number) → ((e : Opened) → Stands s number e → e.sure ≡ true) → IsRunning S u s None
  covered_sure s number run sure = covered_too s number run (λ e st unsure. absurd (false≢true (sym unsure ∙ sure e st)))

  -- a node that is no member can not be given the user
  pub no_member_stuck : (s : Search) (number : ℕ) (n : Node) → IsRunning S u s (Some number) → ((e : Opened) → Stands s number e → e.node ≡ n) → (IsMember S u n → ⊥) → IsRunning S u s None
  no_member_stuck s number n run node none = covered_too s number run
      (λ e st unsure g. none
      (subst (IsMember S u) (node e st)
      (under_member e.node (suc e.level)
      (under_given S u e.level e.node (run.at number e st)
      (relation_grows S u e.node (IsHope S u s number e.level) (Under S u (suc e.level)) (Under S u e.level) (Under S u e.level) (λ m x. x.0) (same (Under S u e.level)) g)))))

  pub member_given : (s : Search) (number : ℕ) (n : Node) → IsRunning S u s (Some number) → ((e : Opened) → Stands s number e → e.node ≡ n) → IsMember S u n → (e : Opened) → Stands s number e → Under S u (suc e.level) e.node
  member_given s number n run node member e st = member_under e.node e.level (run.at number e st) (subst (IsMember S u) (sym (node e st)) member)

  pub number_here : (s : Search) (number k : ℕ) (n : Node) → number < length s.opened.items → ((e : Opened) → Stands s number e → e.node ≡ n) → ((e : Opened) → Stands s number e → e.level ≡ k) → IsNumberOf s number n k
  number_here s number k n lt node level =
      let e = element s.opened.items number lt in
      (e.0, (lt, e.1), node e.0 (lt, e.1), level e.0 (lt, e.1))

  -- before the first turn
  pub running_new : (s : Search) → s.opened.items ≡ [] → ((l i : ℕ) → IsStacked s l i → ⊥) → s.frames.items ≡ [] → IsRunning S u s None
  running_new s none empty unframed = record {
    at = λ i e st. absurd (nothing i e st);
    placed = λ i e st. absurd (nothing i e st);
    stack_there = λ i e st. absurd (nothing i e st);
    waiting_there = λ i w e st. absurd (nothing i e st);
    stacked_there = λ l i x. absurd (empty l i x);
    leveled = λ l i e x. absurd (empty l i x);
    falling = λ i j f g less at. absurd (let lt = at.0 in let none = ap length unframed in omega (arith, lt, none));
    right = λ i e st. absurd (nothing i e st);
    kept = λ i e st. absurd (nothing i e st);
    covered = λ i e st. absurd (nothing i e st);
  }
    where
      nothing : (i : ℕ) (e : Opened) → Stands s i e → ⊥
      nothing i e st = let l = ap (λ (xs : List Opened). length xs) none in omega (arith, l, st.0)

  -- after the last
  pub root_answer : (s : Search) (root k : ℕ) (n : Node) (b : Bool) → IsRunning S u s None → IsNumberOf s root n k → ((l i : ℕ) → IsStacked s l i → ⊥) → ((e : Opened) → Stands s root e → e.sure ≡ b) → IsTrue b ↔ IsMember S u n
  root_answer s root k n true run (e, st, node, level) empty sure = (
    λ t. subst (IsMember S u) node (under_member e.node (suc e.level) (run.right root e st (sure e st))),
    λ m. search rules,
  )
  root_answer s root k n false run (e, st, node, level) empty sure = (
    λ t. absurd (false≢true t),
    λ m.
        let own = member_under e.node e.level (run.at root e st) (subst (IsMember S u) (sym node) m) in
        absurd (settled S u s None run e.level (λ j f there low is. absurd (none_some j is)) (λ l i low x. empty l i x) (suc e.level) (omega arith) e.node own root e st refl (sure e st)),
  )
    where
      none_some : (j : ℕ) → None ≡ Some j → ⊥
      none_some j is = cc

  pub root_sure : (s : Search) (root k : ℕ) (n : Node) (b : Bool) → b ≡ true → IsRunning S u s None → IsNumberOf s root n k → ((e : Opened) → Stands s root e → e.sure ≡ b) → IsMember S u n
  root_sure s root k n b is run (e, st, node, level) sure = subst (IsMember S u) node (under_member e.node (suc e.level) (run.right root e st (sure e st ∙ is)))

-- a node that has a number keeps it
pub still_there : (s t : Search) (i : ℕ) → ((k : ℕ) (n : Node) → IsNumberOf s i n k → IsNumberOf t i n k) → i < length s.opened.items → i < length t.opened.items
still_there s t i keeps lt =
    let (e, at) = element s.opened.items i lt in
    (keeps e.level e.node (e, (lt, at), refl, refl)).1.0

-- what is found of the asker's relation
module _ (S : Snap) (s : Search) (a : Asking) (asking : IsAsking S s a) (plain : a.plain ≡ true) where
  asked_high : high a ≡ suc a.level
  asked_high = ap (λ b. cond b (suc a.level) a.level) plain

  its : (e : Opened) → Stands s a.number e → (e.node ≡ a.node.now) × (e.level ≡ a.level)
  its e st =
      let is : e ≡ asking.number.0 = same_opened s a.number e asking.number.0 st asking.number.1 in
      (ap (λ (x : Opened). x.node) is ∙ asking.number.2, ap (λ (x : Opened). x.level) is ∙ asking.number.3)

  pub relation_given : RelationGives S a.user.now a.node.now (Counts S a) (Under S a.user.now a.level) → (e : Opened) → Stands s a.number e → Under S a.user.now (suc e.level) e.node
  relation_given g e st =
      let i = its e st in
      let at : IsAt S.config e.node e.level = asking.running.at a.number e st in
      under_given S a.user.now e.level e.node at
      (subst (λ x. RelationGives S a.user.now x (Under S a.user.now (suc e.level)) (Under S a.user.now e.level)) (sym i.0)
      (subst (λ k. RelationGives S a.user.now a.node.now (Under S a.user.now (suc k)) (Under S a.user.now k)) (sym i.1)
      (subst (λ h. RelationGives S a.user.now a.node.now (Under S a.user.now h) (Under S a.user.now a.level)) asked_high g)))

  pub relation_stuck : (RelationGives S a.user.now a.node.now (IsLeft S s a) (Under S a.user.now a.level) → ⊥) → IsRunning S a.user.now s None
  relation_stuck none = covered_too S a.user.now s a.number asking.running
      (λ e st unsure g.
      let i = its e st in
      none
      (relation_grows S a.user.now a.node.now (IsHope S a.user.now s a.number a.level) (IsLeft S s a) (Under S a.user.now a.level) (Under S a.user.now a.level)
      (λ m x. (subst (λ h. Under S a.user.now h m) (sym asked_high) x.0, λ p w. x.1 w))
      (same S a.user.now (Under S a.user.now a.level))
      (subst (λ k. RelationGives S a.user.now a.node.now (IsHope S a.user.now s a.number k) (Under S a.user.now k)) i.1
      (subst (λ x. RelationGives S a.user.now x (IsHope S a.user.now s a.number e.level) (Under S a.user.now e.level)) i.0 g))))
