-- The canonical text of a configuration is read back as the configuration.
use Rattle.std.proofs.Common.{◌≡◌, ℕ, zero, suc, ◌<◌, ◌≤◌, List, [], ◌∷◌, Some, Bool, true, false, cond, IsTrue, Contains, length, get_or, map, arith, refl, sym, ap, ◌∙◌, inl, inr, string_bytes, String, Global, Result, Ok, Err, IfOk}
use Rattle.std.specs.Prelude.{nat_eq}
use Rattle.std.specs.List.{AllByRecursion}
use Rattle.std.specs.List.Sorted.{IsStrictlySortedBy}
use Rattle.std.specs.Cmp.Lexicographic.{pointwise}
use Rattle.std.specs.declared.alloc.AllocError.{AllocError}
use Rattle.std.proofs.lemmas.List.{map-append}
use Rattle.std.proofs.lemmas.List.Elements.{recursion_from_All}
use Rattle.std.proofs.lemmas.Str.{IsUtf8-string_bytes}
use Rattle.serde_json.specs.Data.{Data, object, Members, no_members, put, depth}
use Rattle.serde_json.specs.Read.{read}
use Rattle.meaning.specs.Config.{Configured, Defined}
use Rattle.config_text.specs.Size.{has_parts, form_depth}
use Rattle.config_text.specs.Order.{name_cmp}
use Rattle.config_text.specs.Spelling.{defined_texts, configured_texts}
use Rattle.config_text.specs.Shape.{both, relation_read, relations_read, with_namespace, namespaces_read, config_read}
use Rattle.config_text.specs.Canonical.{relation_data, relations_into, namespaces_into, config_data}
use Rattle.config_text.specs.Reading.{Describes, IsWritable}
use Rattle.config_text.proofs.Returned.{relation_back, row, row_into, row_is}
use Rattle.config_text.proofs.Runs.{mine, runs, Among, runs_all, relation_of, mine_sorted, mine_all}
use Rattle.config_text.proofs.Ascending.{all_weaker}
use Rattle.config_text.proofs.Shallow.{config_low}

relations_row_at : (b : Bool) (n : List ℕ) (ms : Members) (d : Defined) (ds xs : List Defined)
    → ((os : Members) → relations_into n os ds ≡ row_into relation_of relation_data os xs)
    → relations_into n (cond b (put d.rel.relation (relation_data d) ms) ms) ds ≡ row_into relation_of relation_data ms (cond b (d ∷ xs) xs)
relations_row_at true n ms d ds xs h = h (put d.rel.relation (relation_data d) ms)
relations_row_at false n ms d ds xs h = h ms

relations_row : (n : List ℕ) (ms : Members) (ds : List Defined) → relations_into n ms ds ≡ row_into relation_of relation_data ms (mine n ds)
relations_row n ms [] = refl
relations_row n ms (d ∷ ds) = relations_row_at (pointwise nat_eq d.rel.namespace n) n ms d ds (mine n ds) (λ os. relations_row n os ds)

abbrev pub space_data : List Defined → List ℕ → Data
space_data ds n = object (row relation_of relation_data (mine n ds))

-- a namespace's relations stand in a row
space_is : (n : List ℕ) (ds : List Defined) → IsStrictlySortedBy name_cmp (map relation_of (mine n ds)) → relations_into n no_members ds ≡ row relation_of relation_data (mine n ds)
space_is n ds h = relations_row n no_members ds ∙ row_is relation_of relation_data (mine n ds) h

spaces_row : (ds : List Defined) (ms : Members) (ns : List (List ℕ)) → ((n : List ℕ) → IsStrictlySortedBy name_cmp (map relation_of (mine n ds))) → namespaces_into ds ms ns ≡ row_into (λ n. n) (space_data ds) ms ns
spaces_row ds ms [] h = refl
spaces_row ds ms (n ∷ ns) h =
    ap (λ os. namespaces_into ds (put n (object os) ms) ns) (space_is n ds (h n)) ∙ spaces_row ds (put n (space_data ds n) ms) ns h

run_back : (n : List ℕ) (ds : List Defined) → AllByRecursion (λ d. (d.rel.namespace ≡ n) × IsTrue (has_parts d.form)) ds → relations_read n (row relation_of relation_data ds) ≡ Some (map defined_texts ds)
run_back n [] h = refl
run_back n (d ∷ ds) h =
    let here : relation_read n d.rel.relation (relation_data d) ≡ Some (defined_texts d) = ap (λ k. relation_read k d.rel.relation (relation_data d)) (sym h.0.0) ∙ relation_back d h.0.1 in
    ap (λ o. both o (relations_read n (row relation_of relation_data ds))) here ∙ ap (both (Some (defined_texts d))) (run_back n ds h.1)

spaces_back : (ds : List Defined) (ns : List (List ℕ)) → AllByRecursion (λ d. IsTrue (has_parts d.form)) ds
    → namespaces_read (row (λ n. n) (space_data ds) ns) ≡ Some (record { namespaces = ns; relations = map defined_texts (runs ns ds) })
spaces_back ds [] whole = refl
spaces_back ds (n ∷ ns) whole =
    let here : relations_read n (row relation_of relation_data (mine n ds)) ≡ Some (map defined_texts (mine n ds)) = run_back n (mine n ds) (mine_all (λ d. IsTrue (has_parts d.form)) n ds whole) in
    ap (λ o. with_namespace n o (namespaces_read (row (λ k. k) (space_data ds) ns))) here
    ∙ ap (with_namespace n (Some (map defined_texts (mine n ds)))) (spaces_back ds ns whole)
    ∙ ap (λ rs. Some (record { namespaces = n ∷ ns; relations = rs })) (sym (map-append defined_texts (mine n ds) (runs ns ds)))

among : (xs : List (List ℕ)) (k : ℕ) (x : List ℕ) → k < length xs → get_or xs k x ≡ x → Among x xs
among [] k x lt e = absurd (omega arith)
among (y ∷ xs) zero x lt e = inl (sym e)
among (y ∷ xs) (suc k) x lt e = inr (among xs k x (omega arith) e)

same_names : (xs : List (List ℕ)) → map (λ n. n) xs ≡ xs
same_names [] = refl
same_names (x ∷ xs) = ap (λ ys. x ∷ ys) (same_names xs)

config_back : (c : Configured) → IsWritable c → config_read (config_data c) ≡ Some (configured_texts c)
config_back c is =
    let whole = recursion_from_All (λ d. IsTrue (has_parts d.form)) c.relations is.parts in
    let homes = all_weaker (λ d. Contains c.namespaces d.rel.namespace) (λ d. Among d.rel.namespace c.namespaces) (λ d at. among c.namespaces at.0 d.rel.namespace at.1 at.2) c.relations
    (recursion_from_All (λ d. Contains c.namespaces d.rel.namespace) c.relations is.ordered.homes) in
    let rising : IsStrictlySortedBy name_cmp (map (λ n. n) c.namespaces) = rw (same_names c.namespaces) is.ordered.namespaces in
    ap namespaces_read (spaces_row c.relations no_members c.namespaces (λ n. mine_sorted n c.relations is.ordered.relations) ∙ row_is (λ n. n) (space_data c.relations) c.namespaces rising)
    ∙ spaces_back c.relations c.namespaces whole
    ∙ ap (λ ds. Some (record { namespaces = c.namespaces; relations = map defined_texts ds })) (runs_all c.namespaces c.relations is.ordered.namespaces is.ordered.relations homes)

written_described : (s : String Global) (c : Configured) (d : Data) → d ≡ config_data c → (depth d ≤ 127 → read (string_bytes s) ≡ Some d) → IsWritable c → Describes (string_bytes s) c
written_described s c d same back is =
    let low : depth d ≤ 127 = rw same (config_low c (recursion_from_All (λ x. form_depth x.form ≤ 16) c.relations is.shallow)) in
    record {
      texts = configured_texts c;
      says = record { data_read = d; reads = record { text = IsUtf8-string_bytes s; reads = back low }; shape = ap config_read same ∙ config_back c is };
      spells = record { named = is.named; spelling = refl };
    }

pub ok_described : (r : Result (String Global) AllocError) (c : Configured) (d : Data) → d ≡ config_data c
    → IfOk r (λ s. depth d ≤ 127 → read (string_bytes s) ≡ Some d) → IfOk r (λ s. IsWritable c → Describes (string_bytes s) c)
ok_described (Ok s) c d same h = written_described s c d same h
ok_described (Err x) c d same h = h
