-- What a shape names is what its rewrite looks up, and its levels go down.
use Rattle.std.proofs.Common.{ℕ, suc, ◌≡◌, ◌≤◌, ◌<◌, Bool, true, false, List, [], ◌++◌, refl, subst, arith, ⊎_elim, ◌⊎◌, inl, inr}
use Rattle.std.proofs.lemmas.Bool.{false≢true}
use Rattle.names.specs.declared.object.Object.{Object}
use Rattle.names.specs.declared.node.Node.{Node}
use Rattle.meaning.specs.Snap.{Snap}
use Rattle.meaning.specs.Form.{Form, Forms, none, more}
use Rattle.meaning.specs.Form as form
use Rattle.meaning.specs.Levels.{plain, subtracted, stop}
use Rattle.meaning.specs.Config.{Configured, Defined, Defines, Has, IsAt, rel_of}
use Rattle.meaning.specs.Reads.{IsValid, SomeReads}
use Rattle.meaning.specs.Reads as reading
use Rattle.meaning.proofs.ReadsLemmas.{reads_steps}
use Rattle.least_sets.specs.World.{Fact, Shape, AnyOf, Either, Both, Except, has, plain_of, taken_of}
use Rattle.least_sets.proofs.Gives.{has_cases}
use Rattle.graphs.specs.Graph.{IsShapeOf, IsAnyOf, IsEachOf}
use Rattle.facts.specs.Numbers.{node_at}
use Rattle.facts.specs.Telling.{MayTell}

abbrev pub named_in : Bool → Shape → ℕ → Bool
named_in false shape m = has (plain_of shape) m
named_in true shape m = has (taken_of shape) m

either_cases : (sign : Bool) (x y : Shape) (j : ℕ) → named_in sign (Either x y) j ≡ true → (named_in sign x j ≡ true) ⊎ (named_in sign y j ≡ true)
either_cases false x y j h = has_cases (plain_of x) (plain_of y) j h
either_cases true x y j h = has_cases (taken_of x) (taken_of y) j h

both_cases : (sign : Bool) (x y : Shape) (j : ℕ) → named_in sign (Both x y) j ≡ true → (named_in sign x j ≡ true) ⊎ (named_in sign y j ≡ true)
both_cases false x y j h = has_cases (plain_of x) (plain_of y) j h
both_cases true x y j h = has_cases (taken_of x) (taken_of y) j h

except_cases : (x y : Shape) (j : ℕ) → has (taken_of (Except x y)) j ≡ true → (named_in true x j ≡ true) ⊎ ((s : Bool) × (named_in s y j ≡ true))
except_cases x y j h = ⊎_elim
    (λ f. inl f)
    (λ f. ⊎_elim (λ g. inr (false, g)) (λ g. inr (true, g)) (has_cases (plain_of y) (taken_of y) j f))
    (has_cases (taken_of x) (plain_of y ++ taken_of y) j h)

none_named : (sign : Bool) (j : ℕ) → named_in sign (AnyOf []) j ≡ true → ⊥
none_named false j h = absurd (false≢true h)
none_named true j h = absurd (false≢true h)

module _ (S : Snap) (users : ℕ → Object) (f : ℕ → Node) (n : Node) (own : List ℕ) where
  mutual
    pub named_reads : (w : Form) (shape : Shape) → IsShapeOf S users f n own w shape → (sign : Bool) (j : ℕ) → named_in sign shape j ≡ true → reading.Reads S n w sign (f j)
    named_reads form.This shape s false j h = (refl, s.3.sound j (subst (λ (k : Shape). has (plain_of k) j ≡ true) s.1 h))
    named_reads form.This shape s true j h = absurd (false≢true (subst (λ (k : Shape). has (taken_of k) j ≡ true) s.1 h))
    named_reads (form.Computed c) shape s false j h = (refl, s.2.sound j (subst (λ (k : Shape). has (plain_of k) j ≡ true) s.1 h))
    named_reads (form.Computed c) shape s true j h = absurd (false≢true (subst (λ (k : Shape). has (taken_of k) j ≡ true) s.1 h))
    named_reads (form.TupleTo t c) shape s false j h = (refl, s.4.sound j (subst (λ (k : Shape). has (plain_of k) j ≡ true) s.2 h))
    named_reads (form.TupleTo t c) shape s true j h = absurd (false≢true (subst (λ (k : Shape). has (taken_of k) j ≡ true) s.2 h))
    named_reads (form.Union ws) shape s sign j h = some_reads ws shape s sign j h
    named_reads (form.Intersection ws) shape s sign j h = each_reads ws shape s sign j h
    named_reads (form.Exclusion a b) shape s false j h = inl (named_reads a s.0 s.3 false j (subst (λ (k : Shape). has (plain_of k) j ≡ true) s.2 h))
    named_reads (form.Exclusion a b) shape s true j h = ⊎_elim
        (λ g. inl (named_reads a s.0 s.3 true j g))
        (λ g. inr (refl, (g.0, named_reads b s.1 s.4 g.0 j g.1)))
        (except_cases s.0 s.1 j (subst (λ (k : Shape). has (taken_of k) j ≡ true) s.2 h))

    some_reads : (ws : Forms) (shape : Shape) → IsAnyOf S users f n own ws shape → (sign : Bool) (j : ℕ) → named_in sign shape j ≡ true → SomeReads S n ws sign (f j)
    some_reads none shape s sign j h = none_named sign j (subst (λ (k : Shape). named_in sign k j ≡ true) s h)
    some_reads (more w ws) shape s sign j h = ⊎_elim
        (λ g. inl (named_reads w s.0 s.3 sign j g))
        (λ g. inr (some_reads ws s.1 s.4 sign j g))
        (either_cases sign s.0 s.1 j (subst (λ (k : Shape). named_in sign k j ≡ true) s.2 h))

    each_reads : (ws : Forms) (shape : Shape) → IsEachOf S users f n own ws shape → (sign : Bool) (j : ℕ) → named_in sign shape j ≡ true → SomeReads S n ws sign (f j)
    each_reads none shape s sign j h = absurd s
    each_reads (more w ws) shape (inl s) sign j h = inl (named_reads w shape s.1 sign j h)
    each_reads (more w ws) shape (inr s) sign j h = ⊎_elim
        (λ g. inl (named_reads w s.0 s.3 sign j g))
        (λ g. inr (each_reads ws s.1 s.4 sign j g))
        (both_cases sign s.0 s.1 j (subst (λ (k : Shape). named_in sign k j ≡ true) s.2 h))

-- the level of the node's relation, or the lowest where it is not there
abbrev pub HasLevel : Configured → Node → ℕ → Type 0
HasLevel config n k = IsAt config n k ⊎ ((Has config (rel_of n) → ⊥) × (k ≡ 0))

pub told_level : (S : Snap) (nodes : List Node) (users : List Object) (i : ℕ) (fact : Fact) → MayTell S nodes users i fact → HasLevel S.config (node_at nodes i) fact.level
told_level S nodes users i fact may = ⊎_elim (λ d. inl d.2) (λ d. inr (d.0, may.low d.0)) may.fact_is

below_plain : (S : Snap) → IsValid S → (n m : Node) (d : Defined) (k l : ℕ) → Defines S.config (rel_of n) d → IsAt S.config n k → HasLevel S.config m l
    → reading.Reads S n d.form false m → l ≤ k
below_plain S valid n m d k l defines at (inl is) reads = at.1.greatest l (plain (d, defines, reads_steps S valid n d defines d.form false m reads) is.1.path)
below_plain S valid n m d k l defines at (inr is) reads = let e = is.1 in omega (arith, e)

below_taken : (S : Snap) → IsValid S → (n m : Node) (d : Defined) (k l : ℕ) → Defines S.config (rel_of n) d → IsAt S.config n k → HasLevel S.config m l
    → reading.Reads S n d.form true m → l < k
below_taken S valid n m d k l defines at (inl is) reads =
    let le : suc l ≤ k = at.1.greatest (suc l) (subtracted (d, defines, reads_steps S valid n d defines d.form true m reads) is.1.path) in
    omega (arith, le)
below_taken S valid n m d k l defines at (inr is) reads =
    let le : suc 0 ≤ k = at.1.greatest (suc 0) (subtracted (d, defines, reads_steps S valid n d defines d.form true m reads) stop) in
    let e = is.1 in
    omega (arith, le, e)

-- a step goes to no higher level, and one that takes members away to a lower one
pub told_plain : (S : Snap) → IsValid S → (nodes : List Node) (users : List Object) (i j l : ℕ) (fact : Fact) → MayTell S nodes users i fact → HasLevel S.config (node_at nodes j) l
    → has (plain_of fact.shape) j ≡ true → l ≤ fact.level
told_plain S valid nodes users i j l fact may level h = ⊎_elim
    (λ d. below_plain S valid (node_at nodes i) (node_at nodes j) d.0 fact.level l d.1 d.2 level
    (named_reads S _ (node_at nodes) (node_at nodes i) fact.own d.0.form fact.shape d.3 false j h))
    (λ d. absurd (none_named false j (subst (λ (k : Shape). has (plain_of k) j ≡ true) d.1 h)))
    may.fact_is

pub told_taken : (S : Snap) → IsValid S → (nodes : List Node) (users : List Object) (i j l : ℕ) (fact : Fact) → MayTell S nodes users i fact → HasLevel S.config (node_at nodes j) l
    → has (taken_of fact.shape) j ≡ true → l < fact.level
told_taken S valid nodes users i j l fact may level h = ⊎_elim
    (λ d. below_taken S valid (node_at nodes i) (node_at nodes j) d.0 fact.level l d.1 d.2 level
    (named_reads S _ (node_at nodes) (node_at nodes i) fact.own d.0.form fact.shape d.3 true j h))
    (λ d. absurd (none_named true j (subst (λ (k : Shape). has (taken_of k) j ≡ true) d.1 h)))
    may.fact_is
