-- The relations that usersets are of.
use Rattle.std.proofs.Common.{◌≡◌, ℕ, zero, suc, ◌+◌, length, get_or, drop, map, ◌-◌, ◌<◌, ◌≤◌, List, [], ◌∷◌, ◌++◌, Bool, true, false, Option, Some, None, arith, refl, sym, ap, subst, ◌∙◌, ⊎_elim, true≢false}
use Rattle.std.specs.Prelude.{Contains, cond}
use Rattle.std.specs.List.{find, filter_map, cons_option}
use Rattle.std.proofs.lemmas.List.{append_assoc}
use Rattle.names.specs.declared.tuple.Tuple.{Tuple}
use Rattle.config_text.proofs.ByItem.{drop_here}
use Rattle.names.specs.declared.node.Node.{Node}
use Rattle.names.specs.declared.subject.Subject.{Subject}
use Rattle.meaning.specs.Snap.{Snap}
use Rattle.meaning.specs.Config.{Configured, Defined, Has, rel_of}
use Rattle.meaning.specs.Admits.{is_relation, has_relation}
use Rattle.meaning.proofs.Lists.{contains_cases, contains_none}
use Rattle.meaning.proofs.KnownRelations.{is_itself, has_known, not_known}
use Rattle.config_text.specs.declared.relation.Relation.{Relation}
use Rattle.config_text.specs.Forms.{form_of, defined_of}
use Rattle.config_text.specs.Size.{form_nodes}
use Rattle.config.specs.Places.{StandsAt}
use Rattle.expand.specs.UsersetTree.{Opened, Closed}
use Rattle.expand.specs.Tree.{node_with, parent, parent_of, filled, opened, definition_of, is_among, userset}
use Rattle.expand.proofs.Meanings.{found_defines}
use Rattle.expand.specs.inside.Walking.{all_nodes}
use Rattle.expand.proofs.Measures.{within_all}

pub stands_has : (config : Configured) (n : Node) (i : ℕ) → StandsAt config (rel_of n) i → Has config (rel_of n)
stands_has config n i stands = (stands.defined, ((i, stands.within, stands.there), stands.rel))

pub stands_known : (config : Configured) (n : Node) (i : ℕ) → StandsAt config (rel_of n) i → has_relation config (rel_of n) ≡ true
stands_known config n i stands = has_known config (rel_of n) (stands_has config n i stands)

-- where nothing is found nothing passes
none_first : {A : Type 0} (p : A → Bool) (y : A) (ys : List A) (x : A) (b : Bool) → p y ≡ b → cond b (Some y) (find p ys) ≡ None → Contains (y ∷ ys) x → p x ≡ true → (find p ys ≡ None → Contains ys x → ⊥) → ⊥
none_first p y ys x true is e c passes rest = absurd (cc)
none_first p y ys x false is e c passes rest =
    ⊎_elim (λ same. true≢false (sym passes ∙ ap p (sym same) ∙ is)) (λ later. rest e later) (contains_cases y x ys c)

passes_none : {A : Type 0} (p : A → Bool) (xs : List A) (x : A) → find p xs ≡ None → Contains xs x → p x ≡ true → ⊥
passes_none p [] x e c passes = contains_none x c
passes_none p (y ∷ ys) x e c passes = none_first p y ys x (p y) refl e c passes (λ none later. passes_none p ys x none later passes)

pub stands_defined : (config : Configured) (n : Node) (i : ℕ) (stands : StandsAt config (rel_of n) i) → definition_of config n ≡ Some stands.defined
stands_defined config n i stands =
    elim (definition_of config n) as (λ o. definition_of config n ≡ o → o ≡ Some stands.defined) [
      | Some d ↦ λ e. ap Some (stands.only d (found_defines config n d e))
      | None ↦ λ e. absurd (passes_none (is_relation (rel_of n)) config.relations stands.defined e (i, stands.within, stands.there) (is_itself (rel_of n) stands.defined stands.rel))
    ] refl

pub lacks_definition : (config : Configured) (n : Node) → (Has config (rel_of n) → ⊥) → definition_of config n ≡ None
lacks_definition config n none =
    elim (definition_of config n) as (λ o. definition_of config n ≡ o → o ≡ None) [
      | Some d ↦ λ e. absurd (none (d, found_defines config n d e))
      | None ↦ λ e. refl
    ] refl

-- its rewrite is no larger than all are
pub stands_small : (config : Configured) (n : Node) (i : ℕ) (d : Relation) (stands : StandsAt config (rel_of n) i) → stands.defined ≡ defined_of d → form_nodes (form_of d.rewrite) ≤ all_nodes config.relations
stands_small config n i d stands is =
    subst (λ (x : Defined). form_nodes x.form ≤ all_nodes config.relations) is (within_all config.relations stands.defined (i, stands.within, stands.there))

-- ---- the tree of a userset

module _ (S : Snap) (path : List Node) (n : Node) where
  pub closed_unknown : (left : ℕ) → definition_of S.config n ≡ None → userset S left path n ≡ Closed n
  closed_unknown zero e = refl
  closed_unknown (suc k) e = ap (λ o. cond (is_among path n) (Closed n) (opened S (userset S k (path ++ n ∷ [])) n o)) e ∙ both (is_among path n)
    where
      both : (b : Bool) → cond b (Closed n) (Closed n) ≡ Closed n
      both true = refl
      both false = refl

  pub opened_known : (left : ℕ) (d : Defined) → 0 < left → is_among path n ≡ false → definition_of S.config n ≡ Some d → userset S left path n ≡ Opened n (filled S (userset S (left - 1) (path ++ n ∷ [])) n d.form)
  opened_known zero d more off e = absurd (omega (arith, more))
  opened_known (suc k) d more off e =
      let one_less : suc k - 1 ≡ k = omega arith in
      ap (λ b. cond b (Closed n) (opened S (userset S k (path ++ n ∷ [])) n (definition_of S.config n))) off
      ∙ ap (opened S (userset S k (path ++ n ∷ [])) n) e
      ∙ ap (λ j. Opened n (filled S (userset S j (path ++ n ∷ [])) n d.form)) (sym one_less)

-- ---- parents

pub parent_known : (config : Configured) (c : List ℕ) (s : Subject) (b : Bool) → s.relation ≡ None → has_relation config (rel_of (node_with c s.object)) ≡ b → parent config c s ≡ cond b (Some (node_with c s.object)) None
parent_known config c s b e known = ap (parent_of config c s.object) e ∙ ap (λ b'. cond b' (Some (node_with c s.object)) None) known

pub parent_there : (config view : Configured) (c : List ℕ) (s : Subject) (node : Node) (i : ℕ) → config ≡ view → s.relation ≡ None → node ≡ node_with c s.object → StandsAt config (rel_of node) i → Some node ≡ parent view c s
parent_there config view c s node i same none is stands =
    let known : has_relation view (rel_of (node_with c s.object)) ≡ true = subst (λ (k : Configured). has_relation k (rel_of (node_with c s.object)) ≡ true) same (subst (λ (n : Node). has_relation config (rel_of n) ≡ true) is (stands_known config node i stands)) in
    ap Some is ∙ sym (parent_known view c s true none known)

pub parent_lacks : (config view : Configured) (c : List ℕ) (s : Subject) (node : Node) → config ≡ view → s.relation ≡ None → node ≡ node_with c s.object → (Has config (rel_of node) → ⊥) → None ≡ parent view c s
parent_lacks config view c s node same none is lacks =
    let known : has_relation view (rel_of (node_with c s.object)) ≡ false = subst (λ (k : Configured). has_relation k (rel_of (node_with c s.object)) ≡ false) same (subst (λ (n : Node). has_relation config (rel_of n) ≡ false) is (not_known config (rel_of node) lacks)) in
    sym (parent_known view c s false none known)

-- ---- the parents so far

module _ (h : Subject → Option Node) (ts : List Tuple) (i : ℕ) (t : Tuple) (lt : i < length ts) (is : t ≡ get_or ts i t) where
  parents_at : filter_map h (map (λ t. t.subject) (drop i ts)) ≡ cons_option (h t.subject) (filter_map h (map (λ t. t.subject) (drop (i + 1) ts)))
  parents_at = ap (λ (us : List Tuple). filter_map h (map (λ t. t.subject) us)) (drop_here ts i t lt is)

  pub parent_more : (old now all : List Node) (m : Node) → h t.subject ≡ Some m → now ≡ old ++ m ∷ [] → old ++ filter_map h (map (λ t. t.subject) (drop i ts)) ≡ all → now ++ filter_map h (map (λ t. t.subject) (drop (i + 1) ts)) ≡ all
  parent_more old now all m gives grown so_far =
      let rest = filter_map h (map (λ (t : Tuple). t.subject) (drop (i + 1) ts)) in
      ap (λ (ns : List Node). ns ++ rest) grown ∙ append_assoc old (m ∷ []) rest
      ∙ sym (ap (λ (ns : List Node). old ++ ns) (parents_at ∙ ap (λ (o : Option Node). cons_option o rest) gives)) ∙ so_far

  pub parent_less : (old now all : List Node) → h t.subject ≡ None → now ≡ old → old ++ filter_map h (map (λ t. t.subject) (drop i ts)) ≡ all → now ++ filter_map h (map (λ t. t.subject) (drop (i + 1) ts)) ≡ all
  parent_less old now all gives same so_far =
      let rest = filter_map h (map (λ (t : Tuple). t.subject) (drop (i + 1) ts)) in
      ap (λ (ns : List Node). ns ++ rest) same
      ∙ sym (ap (λ (ns : List Node). old ++ ns) (parents_at ∙ ap (λ (o : Option Node). cons_option o rest) gives)) ∙ so_far
