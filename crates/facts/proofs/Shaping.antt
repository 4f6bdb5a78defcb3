-- The shapes of rewrites at a node.
use Rattle.std.proofs.Common.{ℕ, zero, suc, ◌≡◌, ◌<◌, ◌+◌, true, List, [], ◌∷◌, ◌++◌, take, length, get_or, map, refl, sym, ◌∙◌, ap, subst, arith, ⊎_elim, inl, inr}
use Rattle.std.specs.Prelude.{Option, Some, Result, Ok, Err, IfOk}
use Rattle.std.specs.Option.{option_to_list}
use Rattle.std.proofs.lemmas.Bool.{false≢true}
use Rattle.std.proofs.lemmas.List.{take_more, map-append}
use Rattle.names.specs.declared.object.Object.{Object}
use Rattle.names.specs.declared.node.Node.{Node}
use Rattle.meaning.specs.Snap.{Snap}
use Rattle.meaning.specs.Config.{IsWhole, AreWhole, IsSome}
use Rattle.meaning.specs.Form.{Form, Forms, This, Computed, TupleTo, Union, Intersection, Exclusion, none, more}
use Rattle.meaning.specs.Membership.{HasSet}
use Rattle.config_text.specs.declared.rewrite.Rewrite.{Rewrite}
use Rattle.config_text.specs.Forms.{form_of, forms_of, rewrite_forms}
use Rattle.region.specs.declared.rule.Rule.{Rule}
use Rattle.region.specs.Rules.{shape_of}
use Rattle.least_sets.specs.World.{Shape, Own, AnyOf, Reads, Either, Both, Except, has, arcs_of}
use Rattle.least_sets.proofs.Gives.{has_cases}
use Rattle.graphs.specs.Graph.{IsTupleTo, IsAnyOf, IsEachOf}
use Rattle.facts.specs.Numbers.{AreNumbersOf, Grew, node_at}
use Rattle.facts.specs.Telling.{AreOwn, IsShapeIn, AreShapesIn, any_before, each_before, each_shape}
use Rattle.facts.specs.inside.Tables.{ids_of, numbers_within}
use Rattle.facts.specs.inside.Growing.{shape_more, shapes_more}

if_ok : {V E : Type 0} (P Q : V → Type 0) (r : Result V E) → ((v : V) → P v → Q v) → IfOk r P → IfOk r Q
if_ok P Q (Ok v) f p = f v p
if_ok P Q (Err e) f p = tt

module _ (S : Snap) (nodes : List Node) (n : Node) where
  pub this_in : (sets : List ℕ) (shape : Shape) → shape ≡ Either Own (AnyOf sets) → AreNumbersOf nodes sets (HasSet S n) → IsShapeIn S nodes n This shape
  this_in sets shape e are = record {
    is = λ users own own_are. (sets, e, own_are, ids_of nodes sets (HasSet S n) are);
    within = λ m h. numbers_within nodes sets (HasSet S n) are m (subst (λ (s : Shape). has (arcs_of s) m ≡ true) e h);
  }

  pub computed_in : (c ids : List ℕ) (shape : Shape) → shape ≡ AnyOf ids → AreNumbersOf nodes ids (λ m. m ≡ record { object = n.object; relation = c }) → IsShapeIn S nodes n (Computed c) shape
  computed_in c ids shape e are = record {
    is = λ users own own_are. (ids, e, ids_of nodes ids (λ m. m ≡ record { object = n.object; relation = c }) are);
    within = λ m h. numbers_within nodes ids (λ m. m ≡ record { object = n.object; relation = c }) are m (subst (λ (s : Shape). has (arcs_of s) m ≡ true) e h);
  }

  pub through_in : (t c read any : List ℕ) (shape : Shape) → shape ≡ Either (Reads read) (AnyOf any) → AreNumbersOf nodes read (λ m. m ≡ record { object = n.object; relation = t })
      → AreNumbersOf nodes any (IsTupleTo S n t c) → IsShapeIn S nodes n (TupleTo t c) shape
  through_in t c read any shape e reads are = record {
    is = λ users own own_are. (read, any, e, ids_of nodes read (λ m. m ≡ record { object = n.object; relation = t }) reads, ids_of nodes any (IsTupleTo S n t c) are);
    within = λ m h. ⊎_elim
        (λ q. numbers_within nodes read (λ m. m ≡ record { object = n.object; relation = t }) reads m q)
        (λ q. numbers_within nodes any (IsTupleTo S n t c) are m q)
        (has_cases read any m (subst (λ (s : Shape). has (arcs_of s) m ≡ true) e h));
  }

  pub without_in : (a b : Form) (x y shape : Shape) → shape ≡ Except x y → IsShapeIn S nodes n a x → IsShapeIn S nodes n b y → IsShapeIn S nodes n (Exclusion a b) shape
  without_in a b x y shape e is_x is_y = record {
    is = λ users own own_are. (x, y, e, is_x.is users own own_are, is_y.is users own own_are);
    within = λ m h. ⊎_elim (λ q. is_x.within m q) (λ q. is_y.within m q) (has_cases (arcs_of x) (arcs_of y) m (subst (λ (s : Shape). has (arcs_of s) m ≡ true) e h));
  }

  any_is : (ws : Forms) (xs : List Shape) → AreShapesIn S nodes n ws xs → (users : ℕ → Object) (own : List ℕ) → AreOwn S users n own → IsAnyOf S users (node_at nodes) n own ws (any_before xs (AnyOf []))
  any_is none [] are users own own_are = refl
  any_is none (x ∷ xs) are users own own_are = absurd are
  any_is (more w ws) [] are users own own_are = absurd are
  any_is (more w ws) (x ∷ xs) are users own own_are = (x, any_before xs (AnyOf []), refl, are.0.is users own own_are, any_is ws xs are.1 users own own_are)

  any_within : (ws : Forms) (xs : List Shape) → AreShapesIn S nodes n ws xs → (m : ℕ) → has (arcs_of (any_before xs (AnyOf []))) m ≡ true → m < length nodes
  any_within none [] are m h = absurd (false≢true h)
  any_within none (x ∷ xs) are m h = absurd are
  any_within (more w ws) [] are m h = absurd are
  any_within (more w ws) (x ∷ xs) are m h = ⊎_elim (λ q. are.0.within m q) (λ q. any_within ws xs are.1 m q) (has_cases (arcs_of x) (arcs_of (any_before xs (AnyOf []))) m h)

  pub union_in : (ws : Forms) (xs : List Shape) (shape : Shape) → shape ≡ any_before xs (AnyOf []) → AreShapesIn S nodes n ws xs → IsShapeIn S nodes n (Union ws) shape
  union_in ws xs shape e are = record {
    is = λ users own own_are. subst (λ s. IsAnyOf S users (node_at nodes) n own ws s) (sym e) (any_is ws xs are users own own_are);
    within = λ m h. any_within ws xs are m (subst (λ (s : Shape). has (arcs_of s) m ≡ true) e h);
  }

  each_is : (ws : Forms) (xs : List Shape) → IsSome ws → AreShapesIn S nodes n ws xs → (users : ℕ → Object) (own : List ℕ) → AreOwn S users n own → IsEachOf S users (node_at nodes) n own ws (each_shape xs)
  each_is none xs some are users own own_are = absurd some
  each_is (more w ws) [] some are users own own_are = absurd are
  each_is (more w none) (x ∷ []) some are users own own_are = inl (tt, are.0.is users own own_are)
  each_is (more w none) (x ∷ y ∷ ys) some are users own own_are = absurd are.1
  each_is (more w (more v vs)) (x ∷ []) some are users own own_are = absurd are.1
  each_is (more w (more v vs)) (x ∷ y ∷ ys) some are users own own_are = inr (x, each_shape (y ∷ ys), refl, are.0.is users own own_are, each_is (more v vs) (y ∷ ys) tt are.1 users own own_are)

  each_within : (ws : Forms) (xs : List Shape) → AreShapesIn S nodes n ws xs → (m : ℕ) → has (arcs_of (each_shape xs)) m ≡ true → m < length nodes
  each_within none [] are m h = absurd (false≢true h)
  each_within none (x ∷ xs) are m h = absurd are
  each_within (more w ws) [] are m h = absurd are
  each_within (more w ws) (x ∷ []) are m h = are.0.within m h
  each_within (more w ws) (x ∷ y ∷ ys) are m h = ⊎_elim (λ q. are.0.within m q) (λ q. each_within ws (y ∷ ys) are.1 m q) (has_cases (arcs_of x) (arcs_of (each_shape (y ∷ ys))) m h)

  pub intersection_in : (ws : Forms) (xs : List Shape) (shape : Shape) → shape ≡ each_shape xs → IsSome ws → AreShapesIn S nodes n ws xs → IsShapeIn S nodes n (Intersection ws) shape
  intersection_in ws xs shape e some are = record {
    is = λ users own own_are. subst (λ s. IsEachOf S users (node_at nodes) n own ws s) (sym e) (each_is ws xs some are users own own_are);
    within = λ m h. each_within ws xs are m (subst (λ (s : Shape). has (arcs_of s) m ≡ true) e h);
  }

  shapes_push : (fs : List Form) (xs : List Shape) (f : Form) (x : Shape) → AreShapesIn S nodes n (forms_of fs) xs → IsShapeIn S nodes n f x → AreShapesIn S nodes n (forms_of (fs ++ f ∷ [])) (xs ++ x ∷ [])
  shapes_push [] [] f x are is = (is, tt)
  shapes_push [] (y ∷ ys) f x are is = absurd are
  shapes_push (g ∷ gs) [] f x are is = absurd are
  shapes_push (g ∷ gs) (y ∷ ys) f x are is = (are.0, shapes_push gs ys f x are.1 is)

-- one rewrite more
pub rules_more : (S : Snap) (a b : List Node) (n : Node) (parts : List Rewrite) (i : ℕ) (part : Rewrite) (rules rules' : List Rule) (rule : Rule) → i < length parts → part ≡ get_or parts i part → rules' ≡ rules ++ rule ∷ []
    → Grew a b → AreShapesIn S a n (rewrite_forms (take i parts)) (map shape_of rules) → IsShapeIn S b n (form_of part) (shape_of rule)
    → AreShapesIn S b n (rewrite_forms (take (i + 1) parts)) (map shape_of rules')
rules_more S a b n parts i part rules rules' rule lt e pushed g are is =
    let next : take (i + 1) parts ≡ take i parts ++ part ∷ [] = take_more parts i part lt ∙ ap (λ y. take i parts ++ y ∷ []) (sym e) in
    let forms : map form_of (take (i + 1) parts) ≡ map form_of (take i parts) ++ form_of part ∷ [] = ap (λ (xs : List Rewrite). map form_of xs) next ∙ map-append form_of (take i parts) (part ∷ []) in
    let shapes : map shape_of rules' ≡ map shape_of rules ++ shape_of rule ∷ [] = ap (λ (xs : List Rule). map shape_of xs) pushed ∙ map-append shape_of rules (rule ∷ []) in
    subst (λ xs. AreShapesIn S b n (rewrite_forms (take (i + 1) parts)) xs) (sym shapes)
    (subst (λ fs. AreShapesIn S b n (forms_of fs) (map shape_of rules ++ shape_of rule ∷ [])) (sym forms)
    (shapes_push S b n (map form_of (take i parts)) (map shape_of rules) (form_of part) (shape_of rule) (shapes_more S a b n (rewrite_forms (take i parts)) (map shape_of rules) g are) is))

pub whole_at : (parts : List Rewrite) (i : ℕ) (p : Rewrite) → i < length parts → p ≡ get_or parts i p → AreWhole (rewrite_forms parts) → IsWhole (form_of p)
whole_at [] i p lt e w = absurd (omega (arith, lt))
whole_at (q ∷ qs) zero p lt e w = subst (λ r. IsWhole (form_of r)) (sym e) w.0
whole_at (q ∷ qs) (suc i) p lt e w = whole_at qs i p (omega (arith, lt)) e w.1

pub any_onto : (xs : List Shape) (x y : Shape) → any_before (xs ++ x ∷ []) y ≡ any_before xs (Either x y)
any_onto [] x y = refl
any_onto (z ∷ xs) x y = ap (λ s. Either z s) (any_onto xs x y)

pub each_onto : (xs : List Shape) (x y : Shape) → each_before (xs ++ x ∷ []) y ≡ each_before xs (Both x y)
each_onto [] x y = refl
each_onto (z ∷ xs) x y = ap (λ s. Both z s) (each_onto xs x y)

pub each_last : (xs : List Shape) (x : Shape) → each_before xs x ≡ each_shape (xs ++ x ∷ [])
each_last [] x = refl
each_last (z ∷ []) x = refl
each_last (z ∷ v ∷ vs) x = ap (λ s. Both z s) (each_last (v ∷ vs) x)

-- the last rule is taken off
pub any_popped : (old new : List Rule) (r : Option Rule) (rule : Rule) (y z : Shape) → old ≡ new ++ option_to_list r → r ≡ Some rule → z ≡ Either (shape_of rule) y
    → any_before (map shape_of new) z ≡ any_before (map shape_of old) y
any_popped old new r rule y z is some e =
    ap (any_before (map shape_of new)) e ∙ sym (any_onto (map shape_of new) (shape_of rule) y)
    ∙ ap (λ xs. any_before xs y) (sym (ap (λ (xs : List Rule). map shape_of xs) (is ∙ ap (λ (o : Option Rule). new ++ option_to_list o) some) ∙ map-append shape_of new (rule ∷ [])))

pub each_popped : (old new : List Rule) (r : Option Rule) (rule : Rule) (y z : Shape) → old ≡ new ++ option_to_list r → r ≡ Some rule → z ≡ Both (shape_of rule) y
    → each_before (map shape_of new) z ≡ each_before (map shape_of old) y
each_popped old new r rule y z is some e =
    ap (each_before (map shape_of new)) e ∙ sym (each_onto (map shape_of new) (shape_of rule) y)
    ∙ ap (λ xs. each_before xs y) (sym (ap (λ (xs : List Rule). map shape_of xs) (is ∙ ap (λ (o : Option Rule). new ++ option_to_list o) some) ∙ map-append shape_of new (rule ∷ [])))

pub last_popped : (old new : List Rule) (r : Option Rule) (rule : Rule) → old ≡ new ++ option_to_list r → r ≡ Some rule → each_before (map shape_of new) (shape_of rule) ≡ each_shape (map shape_of old)
last_popped old new r rule is some =
    each_last (map shape_of new) (shape_of rule)
    ∙ ap each_shape (sym (ap (λ (xs : List Rule). map shape_of xs) (is ∙ ap (λ (o : Option Rule). new ++ option_to_list o) some) ∙ map-append shape_of new (rule ∷ [])))

-- the rule of each form, where the rule of it is made
module _ {E : Type 0} (S : Snap) (nodes : List Node) (n : Node) (w : Form) (r : Result Rule E) where
  pub this_told : (sets any : List ℕ) → w ≡ This → any ≡ sets → AreNumbersOf nodes sets (HasSet S n) → IfOk r (λ rule. shape_of rule ≡ Either Own (AnyOf any)) → IfOk r (λ rule. IsShapeIn S nodes n w (shape_of rule))
  this_told sets any form same are = if_ok _ _ r
      (λ rule e. subst (λ f. IsShapeIn S nodes n f (shape_of rule)) (sym form) (this_in S nodes n any (shape_of rule) e (subst (λ xs. AreNumbersOf nodes xs (HasSet S n)) (sym same) are)))

  pub through_told : (t c read any : List ℕ) → w ≡ TupleTo t c → AreNumbersOf nodes read (λ m. m ≡ record { object = n.object; relation = t })
      → AreNumbersOf nodes any (IsTupleTo S n t c) → IfOk r (λ rule. shape_of rule ≡ Either (Reads read) (AnyOf any)) → IfOk r (λ rule. IsShapeIn S nodes n w (shape_of rule))
  through_told t c read any form reads are = if_ok _ _ r
      (λ rule e. subst (λ f. IsShapeIn S nodes n f (shape_of rule)) (sym form) (through_in S nodes n t c read any (shape_of rule) e reads are))

  pub union_told : (ws : Forms) (xs : List Shape) → w ≡ Union ws → AreShapesIn S nodes n ws xs → IfOk r (λ rule. shape_of rule ≡ any_before xs (AnyOf [])) → IfOk r (λ rule. IsShapeIn S nodes n w (shape_of rule))
  union_told ws xs form are = if_ok _ _ r
      (λ rule e. subst (λ f. IsShapeIn S nodes n f (shape_of rule)) (sym form) (union_in S nodes n ws xs (shape_of rule) e are))

  pub intersection_told : (ws : Forms) (xs : List Shape) → w ≡ Intersection ws → IsWhole w → AreShapesIn S nodes n ws xs → IfOk r (λ rule. shape_of rule ≡ each_shape xs) → IfOk r (λ rule. IsShapeIn S nodes n w (shape_of rule))
  intersection_told ws xs form whole are = if_ok _ _ r
      (λ rule e. subst (λ f. IsShapeIn S nodes n f (shape_of rule)) (sym form) (intersection_in S nodes n ws xs (shape_of rule) e (subst IsWhole form whole).0 are))

  -- the second part of an exclusion is read after more names had got numbers
  pub exclusion_told : (before : List Node) (x y : Form) (base less : Shape) → w ≡ Exclusion x y → Grew before nodes → IsShapeIn S before n x base → IsShapeIn S nodes n y less
      → IfOk r (λ rule. shape_of rule ≡ Except base less) → IfOk r (λ rule. IsShapeIn S nodes n w (shape_of rule))
  exclusion_told before x y base less form g is_x is_y = if_ok _ _ r
      (λ rule e. subst (λ f. IsShapeIn S nodes n f (shape_of rule)) (sym form) (without_in S nodes n x y base less (shape_of rule) e (shape_more S before nodes n x base g is_x) is_y))
