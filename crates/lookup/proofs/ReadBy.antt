-- Where a rewrite looks, by the tests.
use Rattle.std.proofs.Common.{◌≡◌, ℕ, List, Bool, true, false, ◌⊎◌, inl, inr, refl, ap, sym, subst, ◌∙◌}
use Rattle.std.specs.Prelude.{◌&&◌, nat_eq}
use Rattle.std.specs.Cmp.Lexicographic.{pointwise, bytes_decides}
use Rattle.std.proofs.lemmas.Bool.{or_left, or_right, false≢true}
use Rattle.names.specs.declared.object.Object.{Object}
use Rattle.names.specs.declared.node.Node.{Node}
use Rattle.meaning.specs.Form.{Form, Forms, This, Computed, TupleTo, Union, Intersection, Exclusion, none, more}
use Rattle.meaning.specs.Snap.{Snap}
use Rattle.meaning.specs.Membership.{HasOne, HasSet}
use Rattle.meaning.specs.Reads.{Reads, SomeReads}
use Rattle.lookup.specs.inside.Leading.{computes, some_computes, follows, some_follows}

-- the node's tuples name the members of m; or m is of the node's object, and passes one test; or some tupleset of the node's object names m's, and passes the other
abbrev IsReadBy : Snap → Node → Node → Bool → (List ℕ → Bool) → Type 0
IsReadBy S n m computed along =
    HasSet S n m ⊎ ((n.object ≡ m.object) × (computed ≡ true)) ⊎ ((t : List ℕ) × HasOne S (record { object = n.object; relation = t }) m.object × (along t ≡ true))

read_more : (S : Snap) (n m : Node) (computed computes_more : Bool) (along more_along : List ℕ → Bool) → (computed ≡ true → computes_more ≡ true) → ((t : List ℕ) → along t ≡ true → more_along t ≡ true)
    → IsReadBy S n m computed along → IsReadBy S n m computes_more more_along
read_more S n m computed computes_more along more_along f g (inl h) = inl h
read_more S n m computed computes_more along more_along f g (inr (inl h)) = inr (inl (h.0, f h.1))
read_more S n m computed computes_more along more_along f g (inr (inr h)) = inr (inr (h.0, h.1, g h.0 h.2))

same_name : (a b : List ℕ) → a ≡ b → pointwise nat_eq a b ≡ true
same_name a b e = (bytes_decides a b).1 e

module _ (S : Snap) (n m : Node) where
  mutual
    form_read : (w : Form) → Reads S n w false m → IsReadBy S n m (computes m.relation w) (λ t. follows t m.relation w)
    form_read This r = inl r.1
    form_read (Computed c) r = inr (inl (sym (ap (λ (x : Node). x.object) r.1), same_name m.relation c (ap (λ (x : Node). x.relation) r.1)))
    form_read (TupleTo t c) r =
        let named = subst (λ (p : Object). HasOne S (record { object = n.object; relation = t }) p) (sym (ap (λ (x : Node). x.object) r.1.3)) r.1.1 in
        inr (inr (t, named, ap (λ b. b && pointwise nat_eq m.relation c) (same_name t t refl) ∙ same_name m.relation c (ap (λ (x : Node). x.relation) r.1.3)))
    form_read (Union ws) r = some_read ws r
    form_read (Intersection ws) r = some_read ws r
    form_read (Exclusion a b) (inl r) = form_read a r
    form_read (Exclusion a b) (inr r) = absurd (false≢true r.0)

    some_read : (ws : Forms) → SomeReads S n ws false m → IsReadBy S n m (some_computes m.relation ws) (λ t. some_follows t m.relation ws)
    some_read none r = absurd r
    some_read (more w ws) (inl r) =
        read_more S n m (computes m.relation w) (some_computes m.relation (more w ws)) (λ t. follows t m.relation w) (λ t. some_follows t m.relation (more w ws))
        (or_left (computes m.relation w) (some_computes m.relation ws))
        (λ t. or_left (follows t m.relation w) (some_follows t m.relation ws))
        (form_read w r)
    some_read (more w ws) (inr r) =
        read_more S n m (some_computes m.relation ws) (some_computes m.relation (more w ws)) (λ t. some_follows t m.relation ws) (λ t. some_follows t m.relation (more w ws))
        (or_right (computes m.relation w) (some_computes m.relation ws))
        (λ t. or_right (follows t m.relation w) (some_follows t m.relation ws))
        (some_read ws r)

pub read_by : (S : Snap) (n m : Node) (w : Form) → Reads S n w false m
    → HasSet S n m ⊎ ((n.object ≡ m.object) × (computes m.relation w ≡ true)) ⊎ ((t : List ℕ) × HasOne S (record { object = n.object; relation = t }) m.object × (follows t m.relation w ≡ true))
read_by S n m w r = form_read S n m w r
