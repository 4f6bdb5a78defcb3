-- What the queries of whole tables show.
use Rattle.std.proofs.Common.{◌≡◌, ℕ, pos, negsuc, List, [], ◌∷◌, inl, inr, map, Ok, Err, Result, OnOk, IfOk, refl, sym, ap, ◌∙◌, subst}
use Rattle.std.specs.List.Sorted.{IsPermutation}
use Rattle.std.proofs.lemmas.List.Sorted.{IsPermutation-trans, IsPermutation-sym, IsPermutation-map}
use Rattle.sqlite.specs.declared.types.Value.{Value}
use Rattle.sqlite.specs.declared.types.Value.TheVariants.{Null, Int, Text, Real, Blob}
use Rattle.sqlite.specs.Order.{Row, column, bytes}
use Rattle.sqlite.specs.Effect.{Database}
use Rattle.sqlite.specs.State.{State, Shown, ShowsRows, IsUnchanged, QueriesRow, CommitsShowing, Survives}
use Rattle.sqlite.specs.Clock.{timed}
use Rattle.sqlite.proofs.StateLemmas.{survives_weaker}
use Rattle.sqlite.specs.Listing.{understood}
use Rattle.sqlite.specs.Given.{IsPlain}
use Rattle.sqlite.proofs.Callers.{never_commits}
use Rattle.sqlite_tables.specs.Format.{schema}
use Rattle.sqlite_tables.specs.Tables.{Span, ConfigRow, Entry, Contents, Holds, span_cells, config_with_rowid, config_cells, entry_cells}
use Rattle.sqlite_tables.specs.Stored.{Loads}
use Rattle.sqlite_tables.specs.declared.stored.Stored.{Stored}
use Rattle.sqlite_tables.proofs.Texts.{one_text, one_plain}

-- ---- back from the cells

natural : Value → ℕ
natural (Int (pos n)) = n
natural (Int (negsuc n)) = 0
natural Null = 0
natural (Real x) = 0
natural (Text t) = 0
natural (Blob b) = 0

abbrev span_from : Row → Span
span_from row =
    record { namespace = bytes (column row 0); object = bytes (column row 1); relation = bytes (column row 2); subject = bytes (column row 3); added = natural (column row 4); removed = natural (column row 5) }

abbrev config_from : Row → ConfigRow
config_from row = record { rev = natural (column row 0); text = bytes (column row 1) }

abbrev entry_from : Row → Entry
entry_from row = record { key = bytes (column row 0); value = natural (column row 1) }

span_back : (s : Span) → span_from (span_cells s) ≡ s
unfolding natural
span_back s = refl

config_back : (c : ConfigRow) → config_from (config_cells c) ≡ c
unfolding natural
config_back c = refl

entry_back : (e : Entry) → entry_from (entry_cells e) ≡ e
unfolding natural
entry_back e = refl

module _ {X : Type 0} (from : Row → X) (cells : X → Row) (back : (x : X) → from (cells x) ≡ x) where
  all_back : (xs : List X) → map from (map cells xs) ≡ xs
  all_back [] = refl
  all_back (x ∷ xs) = ap (λ (y : X). y ∷ map from (map cells xs)) (back x) ∙ ap (λ (ys : List X). x ∷ ys) (all_back xs)

  same_values : (xs ys : List X) → IsPermutation (map cells xs) (map cells ys) → IsPermutation xs ys
  same_values xs ys h = subst (λ a. IsPermutation a ys) (all_back xs) (subst (IsPermutation (map from (map cells xs))) (all_back ys) (IsPermutation-map from _ _ h))

pub same_spans : (xs ys : List Span) → IsPermutation (map span_cells xs) (map span_cells ys) → IsPermutation xs ys
same_spans = same_values span_from span_cells span_back

pub same_configs : (xs ys : List ConfigRow) → IsPermutation (map config_cells xs) (map config_cells ys) → IsPermutation xs ys
same_configs = same_values config_from config_cells config_back

abbrev config_of_row : Row → ConfigRow
config_of_row row = record { rev = natural (column row 0); text = bytes (column row 2) }

row_back : (c : ConfigRow) → config_of_row (config_with_rowid c) ≡ c
unfolding natural
row_back c = refl

same_rows : (xs ys : List ConfigRow) → IsPermutation (map config_with_rowid xs) (map config_with_rowid ys) → IsPermutation xs ys
same_rows = same_values config_of_row config_with_rowid row_back

pub same_entries : (xs ys : List Entry) → IsPermutation (map entry_cells xs) (map entry_cells ys) → IsPermutation xs ys
same_entries = same_values entry_from entry_cells entry_back

-- ---- two contents of one database are of the same rows

loads_some : {X : Type 0} (cells : X → Row) (xs ys zs : List X) (rows : List Row) → ((a b : List X) → IsPermutation (map cells a) (map cells b) → IsPermutation a b) → IsPermutation (map cells xs) rows → IsPermutation (map cells ys) rows
    → IsPermutation ys zs → IsPermutation xs zs
loads_some cells xs ys zs rows same held other loads = IsPermutation-trans _ _ _ (same xs ys (IsPermutation-trans _ _ _ held (IsPermutation-sym _ _ other))) loads

pub loads_same : (db : Database) (h k : Contents) (s : Stored) → Holds db h → Holds db k → Loads k s → Loads h s
loads_same db h k s held other loads = record {
  spans = loads_some span_cells h.spans k.spans _ _ same_spans held.spans other.spans loads.spans;
  configs = loads_some config_with_rowid h.configs k.configs _ _ same_rows held.configs other.configs loads.configs;
  entries = loads_some entry_cells h.entries k.entries _ _ same_entries held.entries other.entries loads.entries;
}

-- ---- a query leaves all as it was

module _ (sql : List ℕ) (old new : State) (plain : IsPlain (understood old.now.schema sql)) where
  plain_same : (rows : List Row) → Shown sql [] old new rows → IsUnchanged old new
  unfolding Shown
  plain_same rows h =
      let none = (subst IsPlain h.1.is plain).0 in
      let full = timed [] h.0.formats h.1.now in
      let it = subst (ShowsRows old new sql h.0 full rows) none h.2 in
      it.3

module _ (sql : List ℕ) (plain : IsPlain (understood schema sql)) (old new : State) where
  plain_at : old.now.schema ≡ schema → IsPlain (understood old.now.schema sql)
  plain_at has = subst (λ s. IsPlain (understood s sql)) (sym has) plain

  pub read_survives : Survives old new (CommitsShowing sql [] old) → Survives old new (λ _. ¬ (old.now.schema ≡ schema))
  read_survives h = survives_weaker old new _ _ (λ clean db did has. never_commits sql [] old db (plain_at has) did) h

  pub read_same : (rows : List Row) → old.now.schema ≡ schema → Shown sql [] old new rows → IsUnchanged old new
  read_same rows has h = plain_same sql old new (plain_at has) rows h

pub probe_same : (old new : State) (row : Row) → QueriesRow one_text [] old new (Ok row) → IsUnchanged old new
unfolding QueriesRow
probe_same old new row (inl h) = h.1
probe_same old new row (inr h) = plain_same one_text old new (one_plain old.now.schema) h.0 h.1

pub probe_survives : (old new : State) → Survives old new (CommitsShowing one_text [] old) → Survives old new (λ _. ⊥)
probe_survives old new h = survives_weaker old new _ _ (λ clean db did. absurd (never_commits one_text [] old db (one_plain old.now.schema) did)) h

pub on_ok : {A E : Type 0} (r : Result A E) (P : Type 0) → P → OnOk r P
on_ok (Ok a) P h = h
on_ok (Err e) P h = tt

pub if_ok : {A E : Type 0} (r : Result A E) (P Q : A → Type 0) → ((a : A) → P a → Q a) → IfOk r P → IfOk r Q
if_ok (Ok a) P Q f h = f a h
if_ok (Err e) P Q f h = tt
