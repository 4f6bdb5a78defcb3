-- The laws of least sets.
use Rattle.std.proofs.Common.{ℕ, zero, suc, ◌≡◌, ◌<◌, ◌≤◌, Bool, true, false, ◌||◌, refl, sym, ◌∙◌, ap, subst, arith, ⊎_elim}
use Rattle.std.proofs.lemmas.Bool.{cases_Bool, cases_lt, or_cases, or_left, or_right, or_from, false≢true, false_from_ne_true}
use Rattle.least_sets.specs.World.{Fact, gives, has, arcs_of, plain_of}
use Rattle.least_sets.specs.Least.{IsLevelled, IsLeastIn, IsUntouched, Derived, outside, follows, RefreshIsLeast, LeastIsOne, LeastIsInAll, LeastByLevels, LeastIsOneOver, LeastIsLeastWithin}
use Rattle.least_sets.proofs.Gives.{gives_agree, gives_more, plain_named, taken_named}

-- a fact at an untouched node, of the new world and of the old
section_same : (old new : ℕ → Fact) (part stay : ℕ → Bool) → IsUntouched old new part stay → (n : ℕ) → stay n ≡ true
    → (own_user : ℕ) (p q r s : ℕ → Bool)
    → ((m : ℕ) → stay m ≡ true → p m ≡ q m) → ((m : ℕ) → stay m ≡ true → r m ≡ s m)
    → gives (has (new n).own own_user) p r (new n).shape ≡ gives (has (old n).own own_user) q s (old n).shape
section_same old new part stay un n sn user p q r s e d =
    let moved : gives (has (new n).own user) p r (new n).shape ≡ gives (has (old n).own user) p r (old n).shape = ap (λ (f : Fact). gives (has f.own user) p r f.shape) (un.same n sn) in
    moved ∙ gives_agree (has (old n).own user) p q r s (old n).shape
    (λ m h. e m (un.inside n m sn (plain_named (old n).shape m h)))
    (λ m h. d m (un.inside n m sn (taken_named (old n).shape m h)))

level_same : (old new : ℕ → Fact) (part stay : ℕ → Bool) → IsUntouched old new part stay → (n : ℕ) → stay n ≡ true → (new n).level ≡ (old n).level
level_same old new part stay un n sn = ap (λ (f : Fact). f.level) (un.same n sn)

-- an untouched node is derived in the new world as it was in the old one
stay_derived : (old new : ℕ → Fact) (part stay touched : ℕ → Bool) (user : ℕ) (before after : ℕ → Bool)
    → IsUntouched old new part stay
    → ((n : ℕ) → stay n ≡ true → after n ≡ before n)
    → (n : ℕ) → stay n ≡ true → Derived old part user before n → Derived new (λ i. stay i || touched i) user after n
stay_derived old new part stay touched user before after un agree n sn (outside off h) = absurd (false≢true (sym off ∙ un.within n sn))
stay_derived old new part stay touched user before after un agree n sn (follows pn from named below g) =
    follows (or_left (stay n) (touched n) sn) from
    (λ m h. subst (λ (f : Fact). has (plain_of f.shape) m ≡ true) (sym (un.same n sn)) (named m h))
    (λ m h. stay_derived old new part stay touched user before after un agree m (un.inside n m sn (plain_named (old n).shape m (named m h))) (below m h))
    (section_same old new part stay un n sn user from from after before (λ m h. refl) agree ∙ g)

-- a touched node is derived over the untouched ones
touched_derived : (old new : ℕ → Fact) (part stay touched : ℕ → Bool) (user : ℕ) (before after : ℕ → Bool)
    → IsLeastIn old part user before → IsUntouched old new part stay
    → ((n : ℕ) → stay n ≡ true → after n ≡ before n)
    → (n : ℕ) → Derived new touched user after n → Derived new (λ i. stay i || touched i) user after n
touched_derived old new part stay touched user before after was un agree n (outside off h) = ⊎_elim
    (λ sn. stay_derived old new part stay touched user before after un agree n sn (was.derived n (un.within n sn) (sym (agree n sn) ∙ h)))
    (λ sn. outside (or_from (stay n) (touched n) sn off) h)
    (cases_Bool (stay n))
touched_derived old new part stay touched user before after was un agree n (follows tn from named below g) =
    follows (or_right (stay n) (touched n) tn) from named
    (λ m h. touched_derived old new part stay touched user before after was un agree m (below m h)) g

pub refresh : RefreshIsLeast
refresh old new part stay touched user before after was un agree now = record {
  closed = λ n in_part given. ⊎_elim
      (λ sn. agree n sn ∙ was.closed n (un.within n sn) (sym (section_same old new part stay un n sn user after before after before agree agree) ∙ given))
      (λ tn. now.closed n tn given)
      (or_cases (stay n) (touched n) in_part);
  derived = λ n in_part held. ⊎_elim
      (λ sn. stay_derived old new part stay touched user before after un agree n sn (was.derived n (un.within n sn) (sym (agree n sn) ∙ held)))
      (λ tn. touched_derived old new part stay touched user before after was un agree n (now.derived n tn held))
      (or_cases (stay n) (touched n) in_part);
}

-- what is derived is in each closed set
derived_in : (world : ℕ → Fact) (part : ℕ → Bool) (user : ℕ) (set other : ℕ → Bool)
    → ((n : ℕ) → part n ≡ false → set n ≡ true → other n ≡ true)
    → ((n : ℕ) → part n ≡ true → gives (has (world n).own user) other set (world n).shape ≡ true → other n ≡ true)
    → (n : ℕ) → Derived world part user set n → other n ≡ true
derived_in world part user set other off closed n (outside o h) = off n o h
derived_in world part user set other off closed n (follows pn from named below g) =
    closed n pn (gives_more (has (world n).own user) from other set (world n).shape
    (λ m h f. derived_in world part user set other off closed m (below m f)) g)

pub in_all : LeastIsInAll
in_all world part user set other least off closed n h = ⊎_elim
    (λ pn. derived_in world part user set other off closed n (least.derived n pn h))
    (λ pn. off n pn h)
    (cases_Bool (part n))

-- up to a level, one least set holds what another holds
half : (world : ℕ → Fact) (part : ℕ → Bool) (user : ℕ) (a b : ℕ → Bool)
    → IsLevelled world
    → ((n m : ℕ) → part n ≡ true → has (arcs_of (world n).shape) m ≡ true → part m ≡ true)
    → IsLeastIn world part user b
    → (k : ℕ) → ((m : ℕ) → part m ≡ true → (world m).level < k → a m ≡ b m)
    → (n : ℕ) → part n ≡ true → (world n).level ≤ k → Derived world part user a n → b n ≡ true
half world part user a b levels inside lb k same n in_part at (outside off h) = absurd (false≢true (sym off ∙ in_part))
half world part user a b levels inside lb k same n in_part at (follows pn from named below g) =
    lb.closed n in_part (gives_more (has (world n).own user) from b b (world n).shape
    (λ m h f. half world part user a b levels inside lb k same m (inside n m in_part (plain_named (world n).shape m h))
    (let le : (world m).level ≤ (world n).level = levels.plain n m h in omega arith) (below m f))
    (sym (gives_agree (has (world n).own user) from from a b (world n).shape (λ m h. refl)
    (λ m h. same m (inside n m in_part (taken_named (world n).shape m h)) (let lt : (world m).level < (world n).level = levels.taken n m h in omega arith))) ∙ g))

bool_same : (x y : Bool) → (x ≡ true → y ≡ true) → (y ≡ true → x ≡ true) → x ≡ y
bool_same true y f g = sym (f refl)
bool_same false true f g = g refl
bool_same false false f g = refl

one_below : (world : ℕ → Fact) (part : ℕ → Bool) (user : ℕ) (a b : ℕ → Bool)
    → IsLevelled world
    → ((n m : ℕ) → part n ≡ true → has (arcs_of (world n).shape) m ≡ true → part m ≡ true)
    → IsLeastIn world part user a → IsLeastIn world part user b
    → (k m : ℕ) → part m ≡ true → (world m).level < k → a m ≡ b m
one_below world part user a b levels inside la lb zero m pm lt = absurd (omega arith)
one_below world part user a b levels inside la lb (suc k) m pm lt =
    let same : (i : ℕ) → part i ≡ true → (world i).level < k → a i ≡ b i = one_below world part user a b levels inside la lb k in
    let le : (world m).level ≤ k = omega arith in
    bool_same (a m) (b m)
    (λ h. half world part user a b levels inside lb k same m pm le (la.derived m pm h))
    (λ h. half world part user b a levels inside la k (λ i pi li. sym (same i pi li)) m pm le (lb.derived m pm h))

pub one : LeastIsOne
one world part user a b levels inside least_a least_b n in_part =
    one_below world part user a b levels inside least_a least_b (suc (world n).level) n in_part (omega arith)

up_to : (world : ℕ → Fact) (part : ℕ → Bool) (user : ℕ) (set other : ℕ → Bool) (k : ℕ) → IsLevelled world
    → ((n : ℕ) → Derived world part user set n → set n ≡ true)
    → ((n : ℕ) → part n ≡ false → (world n).level ≤ k → set n ≡ true → other n ≡ true)
    → ((n : ℕ) → (world n).level < k → set n ≡ true → other n ≡ true)
    → ((n : ℕ) → part n ≡ true → (world n).level ≡ k → gives (has (world n).own user) other set (world n).shape ≡ true → other n ≡ true)
    → (n : ℕ) → (world n).level ≤ k → Derived world part user set n → other n ≡ true
up_to world part user set other k levels held off low closed n le (outside o h) = off n o le h
up_to world part user set other k levels held off low closed n le (follows pn from named below g) = ⊎_elim
    (λ lt. low n lt (held n (follows pn from named below g)))
    (λ ge. closed n pn (let at : (world n).level ≡ k = omega arith in at)
    (gives_more (has (world n).own user) from other set (world n).shape
    (λ m h f. up_to world part user set other k levels held off low closed m
    (let l : (world m).level ≤ (world n).level = levels.plain n m h in omega arith) (below m f)) g))
    (cases_lt ((world n).level) k)

-- what is derived is held
derived_held : (world : ℕ → Fact) (part : ℕ → Bool) (user : ℕ) (set : ℕ → Bool) → IsLeastIn world part user set → (n : ℕ) → Derived world part user set n → set n ≡ true
derived_held world part user set least n d = derived_in world part user set set (λ m o h. h) least.closed n d

pub by_levels : LeastByLevels
by_levels world part user set other k levels least off low closed n le h = ⊎_elim
    (λ pn. up_to world part user set other k levels (derived_held world part user set least) off low closed n le (least.derived n pn h))
    (λ pn. off n pn le h)
    (cases_Bool (part n))

-- a node outside is derived only as it stands
outside_held : (world : ℕ → Fact) (part : ℕ → Bool) (user : ℕ) (set : ℕ → Bool) (n : ℕ) → part n ≡ false → Derived world part user set n → set n ≡ true
outside_held world part user set n off (outside o h) = h
outside_held world part user set n off (follows pn from named below g) = absurd (false≢true (sym off ∙ pn))

half_over : (world : ℕ → Fact) (part : ℕ → Bool) (user : ℕ) (a b : ℕ → Bool)
    → IsLevelled world
    → ((n m : ℕ) → part n ≡ true → has (arcs_of (world n).shape) m ≡ true → part m ≡ false → a m ≡ b m)
    → IsLeastIn world part user b
    → (k : ℕ) → ((m : ℕ) → part m ≡ true → (world m).level < k → a m ≡ b m)
    → (n : ℕ) → part n ≡ true → (world n).level ≤ k → Derived world part user a n → b n ≡ true
half_over world part user a b levels edge lb k same n in_part at (outside off h) = absurd (false≢true (sym off ∙ in_part))
half_over world part user a b levels edge lb k same n in_part at (follows pn from named below g) =
    lb.closed n in_part (gives_more (has (world n).own user) from b b (world n).shape
    (λ m h f. ⊎_elim
    (λ pm. half_over world part user a b levels edge lb k same m pm (let le : (world m).level ≤ (world n).level = levels.plain n m h in omega arith) (below m f))
    (λ om. sym (edge n m in_part (plain_named (world n).shape m h) om) ∙ outside_held world part user a m om (below m f))
    (cases_Bool (part m)))
    (sym (gives_agree (has (world n).own user) from from a b (world n).shape (λ m h. refl)
    (λ m h. ⊎_elim
    (λ pm. same m pm (let lt : (world m).level < (world n).level = levels.taken n m h in omega arith))
    (λ om. edge n m in_part (taken_named (world n).shape m h) om)
    (cases_Bool (part m)))) ∙ g))

one_over_below : (world : ℕ → Fact) (part : ℕ → Bool) (user : ℕ) (a b : ℕ → Bool)
    → IsLevelled world
    → ((n m : ℕ) → part n ≡ true → has (arcs_of (world n).shape) m ≡ true → part m ≡ false → a m ≡ b m)
    → IsLeastIn world part user a → IsLeastIn world part user b
    → (k m : ℕ) → part m ≡ true → (world m).level < k → a m ≡ b m
one_over_below world part user a b levels edge la lb zero m pm lt = absurd (omega arith)
one_over_below world part user a b levels edge la lb (suc k) m pm lt =
    let same : (i : ℕ) → part i ≡ true → (world i).level < k → a i ≡ b i = one_over_below world part user a b levels edge la lb k in
    let le : (world m).level ≤ k = omega arith in
    bool_same (a m) (b m)
    (λ h. half_over world part user a b levels edge lb k same m pm le (la.derived m pm h))
    (λ h. half_over world part user b a levels (λ n i pn x o. sym (edge n i pn x o)) la k (λ i pi li. sym (same i pi li)) m pm le (lb.derived m pm h))

pub one_over : LeastIsOneOver
one_over world part user a b levels edge la lb n pn = one_over_below world part user a b levels edge la lb (suc (world n).level) n pn (omega arith)

within_derived : (world : ℕ → Fact) (part smaller : ℕ → Bool) (user : ℕ) (set : ℕ → Bool)
    → ((n : ℕ) → smaller n ≡ true → part n ≡ true) → IsLeastIn world part user set
    → (n : ℕ) → Derived world part user set n → Derived world smaller user set n
within_derived world part smaller user set sub least n (outside o h) =
    outside (false_from_ne_true (smaller n) (λ t. false≢true (sym o ∙ sub n t))) h
within_derived world part smaller user set sub least n (follows pn from named below g) = ⊎_elim
    (λ sn. follows sn from named (λ m h. within_derived world part smaller user set sub least m (below m h)) g)
    (λ o. outside o (derived_held world part user set least n (follows pn from named below g)))
    (cases_Bool (smaller n))

pub within : LeastIsLeastWithin
within world part smaller user set sub least = record {
  closed = λ n sn g. least.closed n (sub n sn) g;
  derived = λ n sn h. within_derived world part smaller user set sub least n (least.derived n (sub n sn) h);
}
