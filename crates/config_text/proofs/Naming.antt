-- The members of an object, by their names.
use Rattle.std.proofs.Common.{◌≡◌, ℕ, List, [], ◌∷◌, ◌||◌, refl, ap, map, nat_eq, Bor, string_bytes, String, Global}
use Rattle.std.specs.Prelude.{Some}
use Rattle.std.specs.List.{list_any, list_all}
use Rattle.std.specs.Map.{keys_of}
use Rattle.std.specs.Cmp.Lexicographic.{pointwise}
use Rattle.serde_json.specs.Data.{Data, null, boolean, number, string, array, object, Members}
use Rattle.serde_json.specs.Find.{as_object}
use Rattle.serde_json.specs.View.{members_view}
use Rattle.serde_json.specs.declared.value.Value.{Value}
use Rattle.config_text.specs.Objects.{has_only, members_only, is_among}

abbrev pub texts : List (Bor (List ℕ)) → List (List ℕ)
texts ns = map (λ n. n.now) ns

among : (k : List ℕ) (ns : List (Bor (List ℕ))) → list_any (λ n. pointwise nat_eq k n.now) ns ≡ is_among k (texts ns)
among k [] = refl
among k (n ∷ ns) = ap (λ b. pointwise nat_eq k n.now || b) (among k ns)

pub all_named : (ns : List (Bor (List ℕ))) (es : List (String Global × Value))
    → list_all (λ k. list_any (λ n. pointwise nat_eq (string_bytes k) n.now) ns) (keys_of es) ≡ members_only (texts ns) (members_view es)
all_named ns [] = refl
all_named ns (e ∷ es) = rw (among (string_bytes e.0) ns, all_named ns es) refl

pub only_object : (ns : List (List ℕ)) (d : Data) (ms : Members) → Some ms ≡ as_object d → members_only ns ms ≡ has_only ns d
only_object ns null ms e = cc
only_object ns (boolean b) ms e = cc
only_object ns (number n) ms e = cc
only_object ns (string s) ms e = cc
only_object ns (array ds) ms e = cc
only_object ns (object ns2) ms e = let same : ms ≡ ns2 = cc in ap (members_only ns) same
