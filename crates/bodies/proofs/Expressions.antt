-- What the values of expressions over groups are, one after another.
use Rattle.std.proofs.Common.{◌≡◌, ℕ, ◌<◌, ◌+◌, false, List, [], ◌∷◌, ◌++◌, length, take, drop, get_or, None, Vec, Global, refl, sym, ap, ◌∙◌, subst, arith, drop-cons, add-one, true≢false}
use Rattle.std.specs.Prelude.{codes}
use Rattle.std.specs.Cmp.Lexicographic.{bytes_decides}
use Rattle.std.proofs.lemmas.List.{take-append-drop}
use Rattle.std.proofs.lemmas.Option.{none-some}
use Rattle.std.proofs.Math.Seq.{take-suc}
use Rattle.serde_json.specs.Data.{Data, null, boolean, number, string, array, object, Items, no_items, item, no_members, member}
use Rattle.serde_json.specs.Events.{members_len}
use Rattle.serde_json.specs.Find.{as_str, as_array}
use Rattle.serde_json.specs.View.{view, items_view, members_view}
use Rattle.serde_json.specs.declared.value.Value.{Value, Array}
use Rattle.serde_json.proofs.Views.{Entry, members_len-members_view, view-Array}
use Rattle.config_text.specs.Objects.{is_text}
use Rattle.leopard.specs.Query.{Query, Queries, Member2Group, Group2Group, Union, Intersection, Exclusion, none, more}
use Rattle.leopard.specs.Exprs.{query_of, part_queries}
use Rattle.leopard.specs.declared.expr.Expr.{Expr}
use Rattle.bodies.specs.Grouping.{only_member, IsExpr, AreExprs, IsNoExpr, AreNoExprs}

-- how many members an object has
abbrev sole : Data → ℕ
sole null = 0
sole (boolean b) = 0
sole (number n) = 0
sole (string s) = 0
sole (array ds) = 0
sole (object ms) = members_len ms

-- the name of its first
abbrev pub key_in : Data → List ℕ
key_in null = []
key_in (boolean b) = []
key_in (number n) = []
key_in (string s) = []
key_in (array ds) = []
key_in (object no_members) = []
key_in (object (member k d ms)) = k

-- the name of the one member of an expression
abbrev pub kind : Query → List ℕ
kind (Member2Group u) = codes "m2g"
kind (Group2Group g) = codes "g2g"
kind (Union qs) = codes "union"
kind (Intersection qs) = codes "intersection"
kind (Exclusion a b) = codes "exclusion"

pub kind_is : (d : Data) (q : Query) → IsExpr d q → key_in d ≡ kind q
kind_is d (Member2Group u) e = ap key_in e.1
kind_is d (Group2Group g) e = ap key_in e.1
kind_is d (Union qs) e = ap key_in e.1
kind_is d (Intersection qs) e = ap key_in e.1
kind_is d (Exclusion a b) e = ap key_in e.2

-- an expression is an object of one member
sole_is : (d : Data) (q : Query) → IsExpr d q → sole d ≡ 1
sole_is d (Member2Group u) e = ap sole e.1
sole_is d (Group2Group g) e = ap sole e.1
sole_is d (Union qs) e = ap sole e.1
sole_is d (Intersection qs) e = ap sole e.1
sole_is d (Exclusion a b) e = ap sole e.2

no_object : (d : Data) → (sole d ≡ 1 → ⊥) → IsNoExpr d
no_object d not q e = not (sole_is d q e)

pub several : (es : List Entry) → (length es ≡ 1 → ⊥) → IsNoExpr (object (members_view es))
several es not = no_object (object (members_view es)) (λ one. not (sym (members_len-members_view es) ∙ one))

-- a text is one word alone
pub apart : (k l : List ℕ) → is_text k l ≡ false → k ≡ l → ⊥
apart k l not is = true≢false (sym ((bytes_decides k l).1 is) ∙ not)

-- the value of the first member
abbrev value_in : Data → Data
value_in null = null
value_in (boolean b) = null
value_in (number n) = null
value_in (string s) = null
value_in (array ds) = null
value_in (object no_members) = null
value_in (object (member k d ms)) = d

-- a member that is no text and no list
pub other_value : (key : List ℕ) (d : Data) → None ≡ as_str d → None ≡ as_array d → IsNoExpr (only_member key d)
other_value key d text list (Member2Group u) e = none-some e.0 (text ∙ ap as_str (ap value_in e.1))
other_value key d text list (Group2Group g) e = none-some e.0 (text ∙ ap as_str (ap value_in e.1))
other_value key d text list (Union qs) e = none-some e.0 (list ∙ ap as_array (ap value_in e.1))
other_value key d text list (Intersection qs) e = none-some e.0 (list ∙ ap as_array (ap value_in e.1))
other_value key d text list (Exclusion a b) e = none-some (item e.0 (item e.1 no_items)) (list ∙ ap as_array (ap value_in e.2))

-- a list of parts
module _ (key : List ℕ) (ds : Items) where
  no_text : (k t : List ℕ) → only_member key (array ds) ≡ only_member k (string t) → ⊥
  no_text k t e = absurd (cc)

  listed : (k : List ℕ) (es : Items) → only_member key (array ds) ≡ only_member k (array es) → es ≡ ds
  listed k es e = cc

  -- its parts are expressions
  parts_of : (q : Query) → IsExpr (only_member key (array ds)) q → (qs : Queries) × AreExprs ds qs
  parts_of (Member2Group u) e = absurd (no_text (codes "m2g") e.0 e.1)
  parts_of (Group2Group g) e = absurd (no_text (codes "g2g") e.0 e.1)
  parts_of (Union qs) e = (qs, subst (λ (xs : Items). AreExprs xs qs) (listed (codes "union") e.0 e.1) e.2)
  parts_of (Intersection qs) e = (qs, subst (λ (xs : Items). AreExprs xs qs) (listed (codes "intersection") e.0 e.1) e.2)
  parts_of (Exclusion a b) e =
      (more a (more b none), subst (λ (xs : Items). AreExprs xs (more a (more b none))) (listed (codes "exclusion") (item e.0 (item e.1 no_items)) e.2) (e.3, (e.4, tt)))

  pub no_parts : AreNoExprs ds → IsNoExpr (only_member key (array ds))
  no_parts not q e = let parts = parts_of q e in not parts.0 parts.1

-- a value that is a list
pub list_refused : (key : List ℕ) (v : Value) (xs : Vec Value Global) → v ≡ Array xs → AreNoExprs (items_view xs.items) → IsNoExpr (only_member key (view v))
list_refused key v xs is not = subst (λ (d : Data). IsNoExpr (only_member key d)) (sym (ap view is ∙ view-Array xs)) (no_parts key (items_view xs.items) not)

-- two parts
two_of : (x y : Data) (es : List Expr) → AreExprs (item x (item y no_items)) (part_queries es) → length es ≡ 2
two_of x y [] each = absurd each
two_of x y (e ∷ []) each = absurd each.1
two_of x y (e ∷ f ∷ []) each = refl
two_of x y (e ∷ f ∷ g ∷ es) each = absurd each.1.1

pub no_exclusion : (es : List Expr) → (length es ≡ 2 → ⊥) → (ds : Items) → AreExprs ds (part_queries es) → IsNoExpr (only_member (codes "exclusion") (array ds))
no_exclusion es not ds each (Member2Group u) e = no_text (codes "exclusion") ds (codes "m2g") e.0 e.1
no_exclusion es not ds each (Group2Group g) e = no_text (codes "exclusion") ds (codes "g2g") e.0 e.1
no_exclusion es not ds each (Union qs) e = apart (codes "exclusion") (codes "union") refl (kind_is (only_member (codes "exclusion") (array ds)) (Union qs) e)
no_exclusion es not ds each (Intersection qs) e =
    apart (codes "exclusion") (codes "intersection") refl (kind_is (only_member (codes "exclusion") (array ds)) (Intersection qs) e)
no_exclusion es not ds each (Exclusion a b) e =
    not (two_of e.0 e.1 es (subst (λ (xs : Items). AreExprs xs (part_queries es)) (sym (listed (codes "exclusion") ds (codes "exclusion") (item e.0 (item e.1 no_items)) e.2)) each))

-- one more at the end
expr_last : (vs : List Value) (v : Value) (es : List Expr) (e : Expr) → AreExprs (items_view vs) (part_queries es) → IsExpr (view v) (query_of e)
    → AreExprs (items_view (vs ++ v ∷ [])) (part_queries (es ++ e ∷ []))
expr_last [] v [] e each last = (last, tt)
expr_last [] v (f ∷ es) e each last = absurd each
expr_last (w ∷ vs) v [] e each last = absurd each
expr_last (w ∷ vs) v (f ∷ es) e each last = (each.0, expr_last vs v es e each.1 last)

pub expr_more : (vs : List Value) (i : ℕ) (v : Value) (es all : List Expr) (e : Expr) → i < length vs → v ≡ get_or vs i v → all ≡ es ++ e ∷ []
    → AreExprs (items_view (take i vs)) (part_queries es) → IsExpr (view v) (query_of e) → AreExprs (items_view (take (i + 1) vs)) (part_queries all)
expr_more vs i v es all e in_range at is each last =
    let t : take (i + 1) vs ≡ take i vs ++ v ∷ [] = rw (add-one, take-suc vs i v in_range, ← at) refl in
    rw (t, is) (expr_last (take i vs) v es e each last)

dropped : (vs : List Value) (i : ℕ) (v : Value) → i < length vs → v ≡ get_or vs i v → drop i vs ≡ v ∷ drop (i + 1) vs
dropped vs i v in_range at = grind (arith, drop-cons, in_range, at)

expr_part : (us : List Value) (v : Value) (ws : List Value) → IsNoExpr (view v) → AreNoExprs (items_view (us ++ v ∷ ws))
expr_part [] v ws refused none each = each
expr_part [] v ws refused (more q qs) each = refused q each.0
expr_part (u ∷ us) v ws refused none each = each
expr_part (u ∷ us) v ws refused (more q qs) each = expr_part us v ws refused qs each.1

pub expr_refused : (vs : List Value) (i : ℕ) (v : Value) → i < length vs → v ≡ get_or vs i v → IsNoExpr (view v) → AreNoExprs (items_view vs)
expr_refused vs i v in_range at refused qs each =
    let d : drop i vs ≡ v ∷ drop (i + 1) vs = dropped vs i v in_range at in
    let t : vs ≡ take i vs ++ v ∷ drop (i + 1) vs = sym (take-append-drop i vs) ∙ ap (λ xs. take i vs ++ xs) d in
    expr_part (take i vs) v (drop (i + 1) vs) refused qs (subst (λ (xs : List Value). AreExprs (items_view xs) qs) t each)
