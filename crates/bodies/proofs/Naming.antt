-- What the values of names ask for.
use Rattle.std.proofs.Common.{◌≡◌, ℕ, ◌<◌, ◌≤◌, List, length, map, sym, ap, ◌∙◌, subst, arith, IsTrue, true, false, true≢false}
use Rattle.std.specs.Prelude.{Option, Some, None}
use Rattle.std.specs.List.{AllZip}
use Rattle.serde_json.specs.Data.{Data}
use Rattle.serde_json.specs.Find.{as_array}
use Rattle.serde_json.specs.View.{view, items_view}
use Rattle.serde_json.specs.declared.value.Value.{Value}
use Rattle.names.specs.Names.{is_name}
use Rattle.watch.specs.declared.watched.Namespaces.{Namespaces}
use Rattle.watch.specs.declared.watched.Namespaces.TheVariants.{All, These}
use Rattle.bodies.specs.Watching.{AsksName, AsksNamespaces}
use Rattle.bodies.specs.inside.Forms.{IsNameList}
use Rattle.bodies.proofs.Values.{as_many, listed, is_list, no_list}

-- the list that a value is
module _ (d : Data) (vs : List Value) (at : Some (items_view vs) ≡ as_array d) where
  name_count : (ns : List (List ℕ)) → IsNameList ns d → length ns ≡ length vs
  name_count ns is = as_many AsksName vs ns (listed AsksName d vs at ns is.0)

  pub named_none : length vs ≡ 0 → (ns : List (List ℕ)) → IsNameList ns d → ⊥
  named_none count ns is = let e = name_count ns is in let r = is.1 in omega (arith, e, r, count)

  pub named_many : 64 < length vs → (ns : List (List ℕ)) → IsNameList ns d → ⊥
  named_many count ns is = let e = name_count ns is in let r = is.2 in omega (arith, e, r, count)

  pub named_badly : ((ns : List (List ℕ)) → AllZip AsksName (map view vs) ns → ⊥) → (ns : List (List ℕ)) → IsNameList ns d → ⊥
  named_badly not ns is = not ns (listed AsksName d vs at ns is.0)

  pub named : (ns : List (List ℕ)) → 0 < length vs → length vs ≤ 64 → AllZip AsksName (map view vs) ns → IsNameList ns d
  named ns low high each = let e = as_many AsksName vs ns each in (is_list AsksName d vs at ns each, omega (arith, e, low), omega (arith, e, high))

pub unnamed : (d : Data) → as_array d ≡ None → (ns : List (List ℕ)) → IsNameList ns d → ⊥
unnamed d none ns is = no_list AsksName d none ns is.0

-- the namespaces of a member that is there
pub these_at : (at : Option Data) (d : Data) (ns : List (List ℕ)) → Some d ≡ at → IsNameList ns d → AsksNamespaces at (These ns)
these_at at d ns there is = subst (λ (o : Option Data). AsksNamespaces o (These ns)) there is

pub no_namespaces : (at : Option Data) (d : Data) → Some d ≡ at → ((ns : List (List ℕ)) → IsNameList ns d → ⊥) → (n : Namespaces) → AsksNamespaces at n → ⊥
no_namespaces at d there not All asks = subst (λ (o : Option Data). AsksNamespaces o All) (sym there) asks
no_namespaces at d there not (These ns) asks = not ns (subst (λ (o : Option Data). AsksNamespaces o (These ns)) (sym there) asks)

-- a text that is no name
pub no_name : (at : Option (List ℕ)) (text : List ℕ) → Some text ≡ at → is_name text ≡ false → (n : List ℕ) → (at ≡ Some n) × IsTrue (is_name n) → ⊥
no_name at text there refused n is =
    let both : Some text ≡ Some n = there ∙ is.0 in
    let same : text ≡ n = cc in
    let good : is_name n ≡ true = is.1 in
    true≢false (sym good ∙ ap is_name (sym same) ∙ refused)
