-- How many tuples come and go with the events.
use Rattle.std.proofs.Common.{◌≡◌, ℕ, ◌+◌, ◌-◌, ◌<◌, ◌≤◌, List, [], ◌∷◌, ◌++◌, length, take, suc, refl, ap, sym, ◌∙◌, arith, get_or}
use Rattle.std.specs.Prelude.{Bool, true, false, cond, not, ◌&&◌, Contains}
use Rattle.std.proofs.Math.Seq.{take-length}
use Rattle.std.proofs.lemmas.List.{append-nil}
use Rattle.names.specs.declared.tuple.Tuple.{Tuple}
use Rattle.names.specs.declared.commit.Event.{Event}
use Rattle.names.specs.declared.commit.EventKind.{EventKind}
use Rattle.names.specs.declared.commit.EventKind.TheVariants.{Put, Del}
use Rattle.meaning.specs.TupleSet as set
use Rattle.meaning.specs.TupleSet.{Tuples}
use Rattle.meaning.specs.History.{after_kind, replay}
use Rattle.meaning.proofs.TupleSets.{len_insert, len_remove, contains_iff, len_items}
use Rattle.meaning.proofs.Lists.{contains_none}
use Rattle.versions.specs.declared.version.Version.{Version}
use Rattle.versions.specs.declared.change.Change.{Change}
use Rattle.versions.specs.Versions.{is_put, versions_in, last_from, is_there, HasThese, Changes}
use Rattle.versions.proofs.VersionRuns.{last_in, last_two, take_none}
use Rattle.versions.proofs.Steps.{replay_more}

abbrev pub one : Bool → ℕ
one b = cond b 1 0

pub one_most : (b : Bool) → one b ≤ 1
one_most true = omega arith
one_most false = omega arith

-- a set with a tuple has some
some_len : (xs : List Tuple) (t : Tuple) → Contains xs t → 0 < length xs
some_len [] t c = absurd (contains_none t c)
some_len (x ∷ xs) t c = omega arith

pub held_some : (s : Tuples) (t : Tuple) → set.contains s t ≡ true → 0 < set.len s
held_some s t h = let some = some_len (set.items s) t ((contains_iff s t).0 h) in let is = len_items s in omega (arith, some, is)

put_len : (b : Bool) (n m : ℕ) → m ≡ cond b n (n + 1) → m + 0 ≡ n + one (not b)
put_len true n m h = omega (arith, h)
put_len false n m h = omega (arith, h)

del_len : (b : Bool) (n m : ℕ) → (b ≡ true → 0 < n) → m ≡ cond b (n - 1) n → m + one b ≡ n + 0
del_len true n m some h = let some_n = some refl in omega (arith, h, some_n)
del_len false n m some h = omega (arith, h)

pub after_len : (s : Tuples) (k : EventKind) (t : Tuple) → set.len (after_kind k t s) + one (not (is_put k) && set.contains s t) ≡ set.len s + one (is_put k && not (set.contains s t))
after_len s Put t = put_len (set.contains s t) (set.len s) _ (len_insert s t)
after_len s Del t = del_len (set.contains s t) (set.len s) _ (held_some s t) (len_remove s t)

-- what the versions say after some events
pub there_after : (s : Tuples) (before : List Version) (rev : ℕ) (es : List Event) (q : Tuple) → set.contains s q ≡ is_there before → is_there (before ++ versions_in rev es q) ≡ set.contains (replay s es) q
there_after s before rev es q h =
    last_two false before (versions_in rev es q)
    ∙ ap (λ b. last_from b (versions_in rev es q)) (sym h)
    ∙ ap (last_from (set.contains s q)) (sym (append-nil (versions_in rev es q)))
    ∙ last_in s rev es q []

sums : (a b c d e f g x y : ℕ) → a + b ≡ c + d → e + x ≡ a + y → f ≡ b + x → g ≡ d + y → e + f ≡ c + g
sums a b c d e f g x y p q r s = omega (arith, p, q, r, s)

-- one event more
pub changes_more : (before : Tuple → List Version) (rev : ℕ) (es : List Event) (k : ℕ) (e : Event) (old new : Change) (there : Bool)
    → k < length es → e ≡ get_or es k e → there ≡ is_there (before e.tuple ++ versions_in rev (take k es) e.tuple)
    → new.come ≡ old.come + one (is_put e.kind && not there) → new.gone ≡ old.gone + one (not (is_put e.kind) && there)
    → Changes before (take k es) old → Changes before (take (suc k) es) new
changes_more before rev es k e old new there small is at come gone changes = λ s has.
    let t : Tuples = replay s (take k es) in
    let there_is : there ≡ set.contains t e.tuple = at ∙ there_after s (before e.tuple) rev (take k es) e.tuple (has e.tuple) in
    sums (set.len t) old.gone (set.len s) old.come (set.len (replay s (take (suc k) es))) new.gone new.come
    (one (not (is_put e.kind) && set.contains t e.tuple)) (one (is_put e.kind && not (set.contains t e.tuple)))
    (changes s has)
    (ap (λ u. set.len u + one (not (is_put e.kind) && set.contains t e.tuple)) (replay_more s es k e small is) ∙ after_len t e.kind e.tuple)
    (gone ∙ ap (λ b. old.gone + one (not (is_put e.kind) && b)) there_is)
    (come ∙ ap (λ b. old.come + one (is_put e.kind && not b)) there_is)

pub changes_none : (before : Tuple → List Version) (es : List Event) (change : Change) → change.come ≡ 0 → change.gone ≡ 0 → Changes before (take 0 es) change
changes_none before es change come gone = λ s has.
    ap (λ xs. set.len (replay s xs) + change.gone) (take_none es) ∙ ap (λ n. set.len s + n) (gone ∙ sym come)

pub changes_all : (before : Tuple → List Version) (es : List Event) (change : Change) (k : ℕ) → k ≡ length es → Changes before (take k es) change → Changes before es change
changes_all before es change k is changes = λ s has. ap (λ xs. set.len (replay s xs) + change.gone) (sym (ap (λ n. take n es) is ∙ take-length es)) ∙ changes s has

-- The same from the end: what the last events have changed.
abbrev pub ChangedFrom : (Tuple → List Version) → List Event → ℕ → Change → Type 0
ChangedFrom before es k change = (s : Tuples) → HasThese s before → set.len (replay s es) + change.gone ≡ set.len (replay s (take k es)) + change.come

sums_back : (a b c d e f g x y : ℕ) → a + b ≡ c + d → c + x ≡ e + y → f ≡ b + x → g ≡ d + y → a + f ≡ e + g
sums_back a b c d e f g x y p q r s = omega (arith, p, q, r, s)

pub changed_more : (before : Tuple → List Version) (rev : ℕ) (es : List Event) (k : ℕ) (e : Event) (old new : Change) (there : Bool)
    → k < length es → e ≡ get_or es k e → there ≡ is_there (before e.tuple ++ versions_in rev (take k es) e.tuple)
    → new.come ≡ old.come + one (is_put e.kind && not there) → new.gone ≡ old.gone + one (not (is_put e.kind) && there)
    → ChangedFrom before es (suc k) old → ChangedFrom before es k new
changed_more before rev es k e old new there small is at come gone changed = λ s has.
    let t : Tuples = replay s (take k es) in
    let there_is : there ≡ set.contains t e.tuple = at ∙ there_after s (before e.tuple) rev (take k es) e.tuple (has e.tuple) in
    sums_back (set.len (replay s es)) old.gone (set.len (replay s (take (suc k) es))) old.come (set.len t) new.gone new.come
    (one (not (is_put e.kind) && set.contains t e.tuple)) (one (is_put e.kind && not (set.contains t e.tuple)))
    (changed s has)
    (ap (λ u. set.len u + one (not (is_put e.kind) && set.contains t e.tuple)) (replay_more s es k e small is) ∙ after_len t e.kind e.tuple)
    (gone ∙ ap (λ b. old.gone + one (not (is_put e.kind) && b)) there_is)
    (come ∙ ap (λ b. old.come + one (is_put e.kind && not b)) there_is)

pub changed_none : (before : Tuple → List Version) (es : List Event) (change : Change) (k : ℕ) → k ≡ length es → change.come ≡ 0 → change.gone ≡ 0 → ChangedFrom before es k change
changed_none before es change k is come gone = λ s has.
    ap (λ n. set.len (replay s es) + n) (gone ∙ sym come) ∙ ap (λ xs. set.len (replay s xs) + change.come) (sym (ap (λ n. take n es) is ∙ take-length es))

pub changed_all : (before : Tuple → List Version) (es : List Event) (change : Change) → ChangedFrom before es 0 change → Changes before es change
changed_all before es change changed = λ s has. changed s has ∙ ap (λ xs. set.len (replay s xs) + change.come) (take_none es)
