-- What is found of nodes and of parts.
use Rattle.std.proofs.Common.{◌≡◌, ℕ, suc, ◌<◌, ◌≤◌, ◌+◌, List, Bool, true, false, length, get_or, drop, cond, ap, ◌∙◌, sym, subst, refl, inr, ⊎_elim, arith}
use Rattle.std.specs.Prelude.{Option, Some, Contains}
use Rattle.names.specs.declared.node.Node.{Node}
use Rattle.meaning.specs.Snap.{Snap}
use Rattle.meaning.specs.Config.{IsAt, Has, rel_of}
use Rattle.meaning.specs.Form.{Form, This, Computed, TupleTo, Union, Exclusion}
use Rattle.config_text.specs.declared.rewrite.Rewrite.{Rewrite}
use Rattle.config_text.specs.declared.relation.Relation.{Relation}
use Rattle.config_text.specs.Forms.{form_of, rewrite_forms, defined_of}
use Rattle.decide.proofs.Parts.{some_left, some_none}
use Rattle.meaning.specs.Membership.{Gives, SomeGives}
use Rattle.meaning.proofs.GivesLemmas.{gives_grows}
use Rattle.meaning.proofs.ReadsLemmas.{below_level}
use Rattle.decide.specs.declared.search.Search.{Search}
use Rattle.decide.specs.declared.search.Opened.{Opened}
use Rattle.decide.specs.declared.asking.Asking.{Asking}
use Rattle.decide.specs.inside.Under.{Under}
use Rattle.decide.specs.inside.Searches.{Stands, IsStacked, Waits, Grew, IsNodeAt, IsNumberOf}
use Rattle.decide.specs.inside.Running.{IsRunning}
use Rattle.std.proofs.lemmas.Bool.{cases_lt, false≢true}
use Rattle.std.proofs.lemmas.List.{get_or_default}
use Rattle.decide.specs.declared.asking.Found.{Found}
use Rattle.decide.specs.declared.asking.Found.TheVariants as found
use Rattle.config.specs.Places.{StandsAt}
use Rattle.decide.proofs.Relations.{there_gives, gives_there}
use Rattle.decide.specs.inside.Given.{RelationGave, Gave, HasNode, HasSome, no_or_later, opposite, BaseGives}
use Rattle.decide.specs.inside.Ending.{IsUnfinished}
use Rattle.decide.specs.inside.Asked.{high, Counts, IsCounted, IsLeft, IsAsking, GoesOn}
use Rattle.decide.specs.inside.Reads.{AreNodesOf, AreOwn}
use Rattle.decide.proofs.SearchLemmas.{grew_refl, grew_trans, grew_waits, grew_number}
use Rattle.decide.proofs.Settling.{under_up, under_own, same_opened, settled}

-- what is not finished is not where nodes were opened, or others wait
pub unfinished_grows : (s t : Search) (level : ℕ) → Grew s t → IsUnfinished s level → IsUnfinished t level
unfinished_grows s t level g (l, i, less, on) = (l, i, less, g.stacked l i on)

-- a node of a lower level is not settled
pub counted_unfinished : (S : Snap) (s t : Search) (a : Asking) (m : Node) (i level : ℕ) → a.plain ≡ false → IsCounted S s a m i → ((e : Opened) → Stands s i e → e.level ≡ level) → IsUnfinished s (suc level) → Grew s t → IsUnfinished t a.level
counted_unfinished S s t a m i level subtracted (k, (e, at, node, is), _, low) its (l, j, less, on) grew =
    let own : e.level ≡ level = its e at in
    let below : high a ≡ a.level = ap (λ b. cond b (suc a.level) a.level) subtracted in
    (l, j, omega (arith, less, own, is, low, below), grew.stacked l j on)

module _ (S : Snap) (a : Asking) where
  pub goes_refl : (s : Search) → IsAsking S s a → GoesOn S s s a
  goes_refl s h = record { asking = h; grew = grew_refl s }

  pub goes_trans : (s t v : Search) → GoesOn S s t a → GoesOn S t v a → GoesOn S s v a
  goes_trans s t v g h = record { asking = h.asking; grew = grew_trans s t v g.grew h.grew }

  pub goes_on : (s t : Search) → IsAsking S s a → Grew s t → IsRunning S a.user.now t (Some a.number) → GoesOn S s t a
  goes_on s t h g run = record { asking = record { running = run; number = grew_number s t a.number a.node.now a.level g h.number; read = h.read }; grew = g }

  -- more was kept of the asker, or less
  pub goes_read : (s t : Search) → IsAsking S s a → Grew s t → (IsRunning S a.user.now s (Some a.number) → IsRunning S a.user.now t (Some a.number)) → GoesOn S s t a
  goes_read s t h g run = goes_on s t h g (run h.running)

  pub asker_is : (s : Search) → IsAsking S s a → (P : Node → Type 0) → P a.node.now → (e : Opened) → Stands s a.number e → P e.node
  asker_is s h P own e there =
      let same : e ≡ h.number.0 = same_opened s a.number e h.number.0 there h.number.1 in
      subst P (sym (ap (λ (x : Opened). x.node) same ∙ h.number.2)) own

  pub left_before : (s t : Search) (m : Node) → Grew s t → IsLeft S t a m → IsLeft S s a m
  left_before s t m g (under, h) = (under, λ p w. h p (grew_waits s t m a.number g w))

  pub asker_there : (s : Search) → IsAsking S s a → (a.level < length s.stacks.items) × (a.number < length s.opened.items)
  asker_there s h =
      let e = h.number in
      (subst (λ k. k < length s.stacks.items) e.3 (h.running.stack_there a.number e.0 e.1), e.1.0)

  -- nodes that do not count
  pub no_relation : (s : Search) (m : Node) → (Has S.config (rel_of m) → ⊥) → IsLeft S s a m → ⊥
  no_relation s m none x = none (below_level S a.user.now (high a) m x.0).1.0

  pub too_high : (s : Search) (m : Node) (l : ℕ) → IsAt S.config m l → high a ≤ l → IsLeft S s a m → ⊥
  too_high s m l at h x = let own = under_own S a.user.now (high a) l m at x.0 in omega (arith, own.1, h)

  -- a node that is known to have the user
  pub sure_counts : (s : Search) (but : Option ℕ) (i l : ℕ) (m : Node) → IsRunning S a.user.now s but → IsNumberOf s i m l → ((e : Opened) → Stands s i e → e.sure ≡ true) → l < high a → Counts S a m
  sure_counts s but i l m run (e, st, node, level) sure h =
      under_up S a.user.now (suc l) (high a) m (omega (arith, h))
      (subst (λ k. Under S a.user.now (suc k) m) level (subst (λ x. Under S a.user.now (suc e.level) x) node (run.right i e st (sure e st))))

  -- a node that the asker waits for
  pub not_left : (s : Search) (i l : ℕ) (m : Node) (t : Search) → a.plain ≡ true → IsNumberOf s i m l → ((e : Opened) → Stands s i e → e.sure ≡ false) → ((e : Opened) → Stands s i e → e.sure ≡ false → Waits t e.node a.number) → IsLeft S t a m → ⊥
  not_left s i l m t plain (e, st, node, level) unsure waits x = x.1 plain (subst (λ y. Waits t y a.number) node (waits e st (unsure e st)))

  -- a node of a lower level, where nothing of its level is left to look at
  pub settled_no : (s : Search) (i l : ℕ) (m : Node) → IsAsking S s a → a.plain ≡ false → IsAt S.config m l → l < high a → IsNumberOf s i m l → ((e : Opened) → Stands s i e → e.sure ≡ false) → ((k j : ℕ) → k ≤ l → IsStacked s k j → ⊥) → IsLeft S s a m → ⊥
  settled_no s i l m h subtracted at low (e, st, node, level) unsure empty x =
      let below : high a ≡ a.level = ap (λ b. cond b (suc a.level) a.level) subtracted in
      settled S a.user.now s (Some a.number) h.running l
      (λ j f there in_reach is.
      let same : f ≡ h.number.0 = same_opened s j f h.number.0 there (subst (λ y. Stands s y h.number.0) (number_is j is) h.number.1) in
      let its : f.level ≡ a.level = ap (λ (y : Opened). y.level) same ∙ h.number.3 in
      omega (arith, its, in_reach, low, below))
      empty (suc l) (omega arith) m (under_own S a.user.now (high a) l m at x.0).0 i e st node (unsure e st)
    where
      number_is : (j : ℕ) → Some a.number ≡ Some j → a.number ≡ j
      number_is j is = cc

cond_low : (b : Bool) (l : ℕ) → cond b (suc l) l ≤ suc l
cond_low true l = omega arith
cond_low false l = omega arith

pub high_low : (a : Asking) → high a ≤ suc a.level
high_low a = cond_low a.plain a.level

-- nodes with their numbers
module _ (S : Snap) (a : Asking) (s : Search) (m : Node) (i : ℕ) where
  pub opened_at : (but : Option ℕ) (k : ℕ) → IsRunning S a.user.now s but → IsNodeAt s m i → ((e : Opened) → Stands s i e → e.level ≡ k) → IsAt S.config m k
  opened_at but k run (e, at, node) level = subst (IsAt S.config m) (level e at) (subst (λ x. IsAt S.config x e.level) node (run.at i e at))

  pub opened_counts : (but : Option ℕ) (k : ℕ) → IsRunning S a.user.now s but → IsNodeAt s m i → ((e : Opened) → Stands s i e → e.level ≡ k) → k < high a → IsCounted S s a m i
  opened_counts but k run (e, at, node) level low = (k, (e, at, node, level e at), opened_at but k run (e, at, node) level, low)

  pub counted_there : IsCounted S s a m i → i < length s.opened.items
  counted_there (k, number, at, low) = number.1.0

  pub counted_sure : (but : Option ℕ) → IsRunning S a.user.now s but → IsCounted S s a m i → ((e : Opened) → Stands s i e → e.sure ≡ true) → Counts S a m
  counted_sure but run (k, number, at, low) sure = sure_counts S a s but i k m run number sure low

  pub counted_waits : (t : Search) → a.plain ≡ true → IsCounted S s a m i → ((e : Opened) → Stands s i e → e.sure ≡ false)
      → ((e : Opened) → Stands s i e → e.sure ≡ false → Waits t e.node a.number) → IsLeft S t a m → ⊥
  counted_waits t plain (k, number, at, low) = not_left S a s i k m t plain number

  pub counted_stack : (but : Option ℕ) (l : ℕ) → IsRunning S a.user.now s but → IsCounted S s a m i → ((e : Opened) → Stands s i e → e.level ≡ l) → l < length s.stacks.items
  counted_stack but l run (k, (e, at, node, is), there, low) level = subst (λ x. x < length s.stacks.items) (level e at) (run.stack_there i e at)

  pub counted_settled : (l : ℕ) → IsAsking S s a → a.plain ≡ false → IsCounted S s a m i → ((e : Opened) → Stands s i e → e.level ≡ l)
      → ((e : Opened) → Stands s i e → e.sure ≡ false) → ((j n : ℕ) → j ≤ l → IsStacked s j n → ⊥) → IsLeft S s a m → ⊥
  counted_settled l h subtracted (k, (e, at, node, is), there, low) level unsure empty =
      let same : k ≡ l = sym is ∙ level e at in
      settled_no S a s i k m h subtracted there low (e, at, node, is) unsure (λ j n below. empty j n (omega (arith, below, same)))

-- the place of the asker's relation
pub asker_place : (S : Snap) (a : Asking) (s : Search) (p : ℕ) → IsAsking S s a → ((e : Opened) → Stands s a.number e → e.place ≡ p) → StandsAt S.config (rel_of a.node.now) p
asker_place S a s p h is =
    let (e, at, node, _) = h.number in
    subst (StandsAt S.config (rel_of a.node.now)) (is e at) (subst (λ m. StandsAt S.config (rel_of m) e.place) node (h.running.placed a.number e at))

module _ (S : Snap) (a : Asking) where
  -- no node before a place is left
  abbrev pub IsNoneBefore : Search → List Node → ℕ → Type 0
  IsNoneBefore s nodes k = (j : ℕ) (m : Node) → j < k → get_or nodes j m ≡ m → IsLeft S s a m → ⊥

  pub none_more : (s t : Search) (nodes : List Node) (k : ℕ) (m : Node) → Grew s t → IsNoneBefore s nodes k → k < length nodes → m ≡ get_or nodes k m → (IsLeft S t a m → ⊥) → IsNoneBefore t nodes (k + 1)
  none_more s t nodes k m g before lt at none j x low is left = ⊎_elim
      (λ less. before j x less is (left_before S a s t x g left))
      (λ above.
      let here : j ≡ k = omega (arith, above, low) in
      let same : x ≡ m = sym is ∙ ap (λ i. get_or nodes i x) here ∙ get_or_default nodes k x m lt ∙ sym at in
      none (subst (IsLeft S t a) same left))
      (cases_lt j k)

  pub none_of : (s : Search) (nodes : List Node) → IsNoneBefore s nodes (length nodes) → (m : Node) → Contains nodes m → IsLeft S s a m → ⊥
  none_of s nodes none m (j, lt, at) left = none j m lt at left

  pub some_found : (s : Search) (nodes : List Node) (later : Bool) (k : ℕ) → length nodes ≤ k → (later ≡ false → IsNoneBefore s nodes k) → (later ≡ true → IsUnfinished s a.level) → HasSome S s a nodes (no_or_later later)
  some_found s nodes true k end none unfinished = unfinished refl
  some_found s nodes false k end none unfinished = none_of s nodes (λ j m lt at left. none refl j m (omega (arith, lt, end)) at left)

  pub computed_gave : (s : Search) (c : List ℕ) (m : Node) (f : Found) → m ≡ record { object = a.node.now.object; relation = c } → HasNode S s a m f → Gave S s a (Computed c) f
  computed_gave s c m found.Yes e h = subst (Counts S a) e h
  computed_gave s c m found.No e h = λ g. h (subst (IsLeft S s a) (sym e) g)
  computed_gave s c m found.Later e h = h

  pub some_grows : (s t : Search) (nodes : List Node) (f : Found) → Grew s t → HasSome S s a nodes f → HasSome S t a nodes f
  some_grows s t nodes found.Yes g h = h
  some_grows s t nodes found.No g h = λ m c left. h m c (left_before S a s t m g left)
  some_grows s t nodes found.Later g h = unfinished_grows s t a.level g h

  counts_has : (m : Node) → Under S a.user.now (high a) m → Has S.config (rel_of m)
  counts_has m x = (below_level S a.user.now (high a) m x).1.0

  pub this_gave : (s : Search) (sets : List Node) (f : Found) → AreOwn S a.user.now a.node.now sets → HasSome S s a sets f → Gave S s a This f
  this_gave s sets found.Yes own (m, c, counts) = inr (m, own.only m c, counts)
  this_gave s sets found.No own none = λ g. ⊎_elim own.direct (λ (m, set, left). none m (own.all m set (counts_has m left.0)) left) g
  this_gave s sets found.Later own h = h

  pub through_gave : (s : Search) (t c : List ℕ) (nodes : List Node) (f : Found) → AreNodesOf S a.node.now t c nodes → HasSome S s a nodes f → Gave S s a (TupleTo t c) f
  through_gave s t c nodes found.Yes are (m, x, counts) =
      let p = (are m).0 x in
      let here : Under S a.user.now (high a) (record { object = p.0; relation = c }) = subst (Counts S a) (sym p.2) counts in
      (p.0, p.1, counts_has (record { object = p.0; relation = c }) here, here)
  through_gave s t c nodes found.No are none = λ (p, one, has, left). none (record { object = p; relation = c }) ((are (record { object = p; relation = c })).1 (p, one, refl)) left
  through_gave s t c nodes found.Later are h = h

  pub goes_more : (s t v : Search) → Grew s t → GoesOn S t v a → GoesOn S s v a
  goes_more s t v g h = record { asking = h.asking; grew = grew_trans s t v g h.grew }

  pub left_grows : (s t : Search) (w : Form) → Grew s t → Gives S a.user.now a.node.now w (IsLeft S t a) (Under S a.user.now a.level) → Gives S a.user.now a.node.now w (IsLeft S s a) (Under S a.user.now a.level)
  left_grows s t w g h = gives_grows S a.user.now a.node.now w (IsLeft S t a) (IsLeft S s a) (Under S a.user.now a.level) (Under S a.user.now a.level) (λ m x. left_before S a s t m g x) (λ m. (λ x. x, λ x. x)) h

  -- one part more was asked: none is left before the next
  pub some_more : (s t : Search) (parts : List Rewrite) (k : ℕ) (p : Rewrite) → Grew s t → k < length parts → p ≡ get_or parts k p
      → ((w : Search) → Grew s w → SomeGives S a.user.now a.node.now (rewrite_forms parts) (IsLeft S w a) (Under S a.user.now a.level) → SomeGives S a.user.now a.node.now (rewrite_forms (drop k parts)) (IsLeft S w a) (Under S a.user.now a.level))
      → (Gives S a.user.now a.node.now (form_of p) (IsLeft S t a) (Under S a.user.now a.level) → ⊥)
      → (w : Search) → Grew t w → SomeGives S a.user.now a.node.now (rewrite_forms parts) (IsLeft S w a) (Under S a.user.now a.level) → SomeGives S a.user.now a.node.now (rewrite_forms (drop (k + 1) parts)) (IsLeft S w a) (Under S a.user.now a.level)
  some_more s t parts k p g lt at before none w h all = ⊎_elim
      (λ here. absurd (none (left_grows t w (form_of p) h here)))
      (λ rest. rest)
      (some_left S a.user.now a.node.now (IsLeft S w a) (Under S a.user.now a.level) parts k p lt (sym at) (before w (grew_trans s t w g h) all))

  pub union_found : (s : Search) (parts : List Rewrite) (later : Bool) (k : ℕ) → length parts ≤ k
      → (later ≡ false → (w : Search) → Grew s w → SomeGives S a.user.now a.node.now (rewrite_forms parts) (IsLeft S w a) (Under S a.user.now a.level) → SomeGives S a.user.now a.node.now (rewrite_forms (drop k parts)) (IsLeft S w a) (Under S a.user.now a.level))
      → (later ≡ true → IsUnfinished s a.level) → Gave S s a (Union (rewrite_forms parts)) (no_or_later later)
  union_found s parts true k end left unfinished = unfinished refl
  union_found s parts false k end left unfinished = λ g. some_none S a.user.now a.node.now (IsLeft S s a) (Under S a.user.now a.level) parts k end (left refl s (grew_refl s) g)

  pub asking_subtracted : (s : Search) (b : Asking) → b ≡ record a { plain = false } → IsAsking S s a → IsAsking S s b
  asking_subtracted s b e h = subst (IsAsking S s) (sym e) (record { running = h.running; number = h.number; read = h.read })

  pub asking_back : (s : Search) (b : Asking) → b ≡ record a { plain = false } → IsAsking S s b → IsAsking S s a
  asking_back s b e h = let d : IsAsking S s (record a { plain = false }) = subst (IsAsking S s) e h in record { running = d.running; number = d.number; read = d.read }

  exclusion_of : (s : Search) (v w : Form) (f : Found) → Gives S a.user.now a.node.now v (Counts S a) (Under S a.user.now a.level) → Gave S s (record a { plain = false }) w f → Gave S s a (Exclusion v w) (opposite f)
  exclusion_of s v w found.Yes base less = λ g. g.1 less
  exclusion_of s v w found.No base less = (
    base,
    λ g. less (gives_grows S a.user.now a.node.now w (Under S a.user.now a.level) (IsLeft S s (record a { plain = false })) (Under S a.user.now a.level) (Under S a.user.now a.level) (λ m x. (x, λ p. absurd (false≢true p))) (λ m. (λ x. x, λ x. x)) g),
  )
  exclusion_of s v w found.Later base less = less

  pub exclusion_gave : (s : Search) (v w : Form) (f : Found) (b : Asking) → b ≡ record a { plain = false } → Gives S a.user.now a.node.now v (Counts S a) (Under S a.user.now a.level) → Gave S s b w f → Gave S s a (Exclusion v w) (opposite f)
  exclusion_gave s v w f b e base less = exclusion_of s v w f base (subst (λ x. Gave S s x w f) e less)

  pub without_gave : (s : Search) (r v w : Form) (f : Found) (b : Asking) → r ≡ Exclusion v w → b ≡ record a { plain = false } → BaseGives S a r → Gave S s b w f → Gave S s a r (opposite f)
  without_gave s r v w f b is e base less = subst (λ x. Gave S s a x (opposite f)) (sym is) (exclusion_gave s v w f b e (subst (BaseGives S a) is base) less)

  -- what is found of the rewrite of the asker's relation
  pub relation_gave : (s : Search) (f : Found) (i : ℕ) (stands : StandsAt S.config (rel_of a.node.now) i) (d : Relation) → stands.defined ≡ defined_of d → Gave S s a (form_of d.rewrite) f → RelationGave S s a f
  relation_gave s found.Yes i stands d is g = there_gives S a.user.now a.node.now (Counts S a) (Under S a.user.now a.level) i stands d is g
  relation_gave s found.No i stands d is g = λ h. g (gives_there S a.user.now a.node.now (IsLeft S s a) (Under S a.user.now a.level) i stands d is h)
  relation_gave s found.Later i stands d is g = g
