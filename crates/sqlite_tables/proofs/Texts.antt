-- What the fixed texts mean.
use Rattle.std.proofs.Common.{◌≡◌, ℕ, pos, negsuc, List, [], ◌∷◌, codes, false, None, Ok, inl, inr, refl, sym, ap, ◌∙◌, subst₂}
use Rattle.sqlite.specs.declared.types.Value.TheVariants.{Null, Int, Text}
use Rattle.sqlite.specs.Term.{Term, lit, col, op2}
use Rattle.sqlite.specs.Query.{Query, inner, end}
use Rattle.sqlite.specs.Source.TheVariants.{Values}
use Rattle.sqlite.specs.Command.TheVariants.{Insert, Update, Delete, Select, CreateTable}
use Rattle.sqlite.specs.Compile.{table_defined_by}
use Rattle.sqlite_schema.specs.declared.program.Program.{Program}
use Rattle.sqlite_value.specs.Keys.{ascending}
use Rattle.sqlite.specs.Collation.TheVariants.{Binary}
use Rattle.sqlite_sql.specs.declared.ops.BinaryOp.TheVariants.{Compare}
use Rattle.sqlite_sql.specs.declared.ops.CompareOp.TheVariants.{Eq, Lt, Gt, Le}
use Rattle.sqlite_tied.specs.Compute.{everything}
use Rattle.sqlite.specs.Listing.{understood, reads_listing}
use Rattle.sqlite.proofs.Callers.{IsPlain, command_of, statement_of}
use Rattle.sqlite.specs.Schema.{Schema}
use Rattle.sqlite_tables.specs.Tables.{AsksRowids}
use Rattle.sqlite_tables.specs.Format.{row_text, config_text, state_text, row_table, config_table, state_table, no_schema, one_schema, two_schema, schema, row_index, state_index}

pub row_is : table_defined_by row_text ≡ Ok row_table
unfolding everything
row_is = refl

pub indexes_are : schema.indexes ≡ row_index ∷ state_index ∷ []
unfolding everything
indexes_are = refl

pub indexes_in : (s : Schema) → s ≡ schema → s.indexes ≡ row_index ∷ state_index ∷ []
indexes_in s is = ap (λ (t : Schema). t.indexes) is ∙ indexes_are

pub config_is : table_defined_by config_text ≡ Ok config_table
unfolding everything
config_is = refl

pub state_is : table_defined_by state_text ≡ Ok state_table
unfolding everything
state_is = refl

abbrev pub insert_text : List ℕ
insert_text = codes "INSERT INTO row (rowid, namespace, object, relation, subject, added, removed) VALUES (?1, ?2, ?3, ?4, ?5, ?6, 0)"

abbrev pub set_text : List ℕ
set_text = codes "UPDATE state SET value = ?2 WHERE key = ?1"

abbrev pub insert_terms : List Term
insert_terms = col 0 0 ∷ col 0 1 ∷ col 0 2 ∷ col 0 3 ∷ col 0 4 ∷ col 0 5 ∷ lit (Int (pos 0)) ∷ []

pub insert_is : command_of (understood schema insert_text) ≡ Insert 0 (Values insert_terms 7)
unfolding understood everything
insert_is = refl

pub insert_plain : IsPlain (understood schema insert_text)
unfolding understood everything
insert_plain = (refl, refl)

abbrev pub eight_text : List ℕ
eight_text = codes "INSERT INTO row (rowid, namespace, object, relation, subject, added, removed) VALUES (?2, ?3, ?4, ?5, ?6, ?1, 0), (?7, ?8, ?9, ?10, ?11, ?1, 0), (?12, ?13, ?14, ?15, ?16, ?1, 0), (?17, ?18, ?19, ?20, ?21, ?1, 0), (?22, ?23, ?24, ?25, ?26, ?1, 0), (?27, ?28, ?29, ?30, ?31, ?1, 0), (?32, ?33, ?34, ?35, ?36, ?1, 0), (?37, ?38, ?39, ?40, ?41, ?1, 0)"

abbrev pub close_text : List ℕ
close_text = codes "UPDATE row SET removed = ?5 WHERE namespace = ?1 AND object = ?2 AND relation = ?3 AND subject = ?4 AND removed = 0"

abbrev pub rows_text : List ℕ
rows_text = codes "SELECT namespace, object, relation, subject, added, removed FROM row ORDER BY namespace, object, relation, subject, added"

abbrev pub config_insert_text : List ℕ
config_insert_text = codes "INSERT INTO config VALUES (?1, ?2)"

abbrev pub drop_configs_text : List ℕ
drop_configs_text = codes "DELETE FROM config WHERE rev < ?1"

abbrev pub drop_text : List ℕ
drop_text = codes "DELETE FROM row WHERE removed > 0 AND removed <= ?1"

abbrev pub init_text : List ℕ
init_text = codes "INSERT INTO state VALUES ('floor', 0), ('format', 1), ('newest', 0), ('store', ?1)"

abbrev pub configs_text : List ℕ
configs_text = codes "SELECT rev, text FROM config ORDER BY rev"

abbrev pub read_text : List ℕ
read_text = codes "SELECT key, value FROM state ORDER BY key"

-- WHERE and SELECT over one table, with no limit
abbrev pub scan : ℕ → List Term → List Term → List (Term × Rattle.sqlite_value.specs.declared.keys.Key.Key) → Query
scan t filter project order = record {
  from = inner t end;
  filter = filter;
  group = None;
  project = project;
  distinct = false;
  collations = [];
  order = order;
  limit = lit (Int (negsuc 0));
  offset = lit (Int (pos 0));
}

abbrev pub alone : Query → Program
alone q = record { lets = []; body = q }

abbrev pub is : Term → Term → Term
is a b = op2 (Compare Eq Binary) a b

abbrev pub set_query : Query
set_query = scan 3 (is (col 1 1) (col 0 0) ∷ []) (col 1 0 ∷ col 1 0 ∷ col 1 1 ∷ col 0 1 ∷ []) []

abbrev pub close_query : Query
close_query =
    scan 0 (is (col 1 1) (col 0 0) ∷ is (col 1 2) (col 0 1) ∷ is (col 1 3) (col 0 2) ∷ is (col 1 4) (col 0 3) ∷ is (col 1 6) (lit (Int (pos 0))) ∷ [])
    (col 1 0 ∷ col 1 0 ∷ col 1 1 ∷ col 1 2 ∷ col 1 3 ∷ col 1 4 ∷ col 1 5 ∷ col 0 4 ∷ []) []

abbrev pub drop_query : Query
drop_query = scan 0 (op2 (Compare Gt Binary) (col 1 6) (lit (Int (pos 0))) ∷ op2 (Compare Le Binary) (col 1 6) (col 0 0) ∷ []) (col 1 0 ∷ []) []

abbrev pub rows_query : Query
rows_query =
    scan 0 [] (col 1 1 ∷ col 1 2 ∷ col 1 3 ∷ col 1 4 ∷ col 1 5 ∷ col 1 6 ∷ [])
    ((col 1 1, ascending Binary) ∷ (col 1 2, ascending Binary) ∷ (col 1 3, ascending Binary) ∷ (col 1 4, ascending Binary) ∷ (col 1 5, ascending Binary) ∷ [])

abbrev pub drop_configs_query : Query
drop_configs_query = scan 2 (op2 (Compare Lt Binary) (col 1 0) (col 0 0) ∷ []) (col 1 0 ∷ []) []

abbrev pub configs_query : Query
configs_query = scan 2 [] (col 1 0 ∷ col 1 2 ∷ []) ((col 1 0, ascending Binary) ∷ [])

abbrev pub entries_query : Query
entries_query = scan 3 [] (col 1 1 ∷ col 1 2 ∷ []) ((col 1 1, ascending Binary) ∷ [])

abbrev pub config_terms : List Term
config_terms = col 0 0 ∷ lit Null ∷ col 0 1 ∷ []

pub config_insert_is : command_of (understood schema config_insert_text) ≡ Insert 1 (Values config_terms 3)
unfolding understood everything
config_insert_is = refl

pub config_insert_plain : IsPlain (understood schema config_insert_text)
unfolding understood everything
config_insert_plain = (refl, refl)

pub drop_configs_is : command_of (understood schema drop_configs_text) ≡ Delete 1 (alone drop_configs_query)
unfolding understood everything
drop_configs_is = refl

pub drop_configs_plain : IsPlain (understood schema drop_configs_text)
unfolding understood everything
drop_configs_plain = (refl, refl)

pub drop_plain : IsPlain (understood schema drop_text)
unfolding understood everything
drop_plain = (refl, refl)

pub configs_is : command_of (understood schema configs_text) ≡ Select (alone configs_query) (codes "rev" ∷ codes "text" ∷ [])
unfolding understood everything
configs_is = refl

pub configs_plain : IsPlain (understood schema configs_text)
unfolding understood everything
configs_plain = (refl, refl)

pub configs_unlisted : reads_listing schema configs_text ≡ false
unfolding understood everything
configs_unlisted = refl

pub entries_is : command_of (understood schema read_text) ≡ Select (alone entries_query) (codes "key" ∷ codes "value" ∷ [])
unfolding understood everything
entries_is = refl

pub entries_plain : IsPlain (understood schema read_text)
unfolding understood everything
entries_plain = (refl, refl)

pub entries_unlisted : reads_listing schema read_text ≡ false
unfolding understood everything
entries_unlisted = refl

pub set_is : command_of (understood schema set_text) ≡ Update 2 (alone set_query)
unfolding understood everything
set_is = refl

pub set_plain : IsPlain (understood schema set_text)
unfolding understood everything
set_plain = (refl, refl)

pub close_is : command_of (understood schema close_text) ≡ Update 0 (alone close_query)
unfolding understood everything
close_is = refl

pub close_plain : IsPlain (understood schema close_text)
unfolding understood everything
close_plain = (refl, refl)

pub drop_is : command_of (understood schema drop_text) ≡ Delete 0 (alone drop_query)
unfolding understood everything
drop_is = refl

pub rows_is : command_of (understood schema rows_text) ≡ Select (alone rows_query) (codes "namespace" ∷ codes "object" ∷ codes "relation" ∷ codes "subject" ∷ codes "added" ∷ codes "removed" ∷ [])
unfolding understood everything
rows_is = refl

pub rows_unlisted : reads_listing schema rows_text ≡ false
unfolding understood everything
rows_unlisted = refl

pub rows_plain : IsPlain (understood schema rows_text)
unfolding understood everything
rows_plain = (refl, refl)

-- the rowids of a table, the lowest first
abbrev pub ids_query : ℕ → Query
ids_query t = scan t [] (col 1 0 ∷ []) ((col 1 0, ascending Binary) ∷ [])

pub record ReadsIds (sql : List ℕ) (tree : ℕ) : Type 0 where
  pub names : List (List ℕ)
  pub is : command_of (understood schema sql) ≡ Select (alone (ids_query tree)) names
  pub plain : IsPlain (understood schema sql)
  pub unlisted : reads_listing schema sql ≡ false

row_ids : ReadsIds (codes "SELECT rowid FROM row ORDER BY rowid") 0
unfolding understood everything
row_ids = record { names = codes "rowid" ∷ []; is = refl; plain = (refl, refl); unlisted = refl }

config_ids : ReadsIds (codes "SELECT rowid FROM config ORDER BY rowid") 2
unfolding understood everything
config_ids = record { names = codes "rev" ∷ []; is = refl; plain = (refl, refl); unlisted = refl }

state_ids : ReadsIds (codes "SELECT rowid FROM state ORDER BY rowid") 3
unfolding understood everything
state_ids = record { names = codes "rowid" ∷ []; is = refl; plain = (refl, refl); unlisted = refl }

pub reads_ids : (sql : List ℕ) (tree : ℕ) → AsksRowids sql tree → ReadsIds sql tree
reads_ids sql tree (inl h) = subst₂ ReadsIds (sym h.0) (sym h.1) row_ids
reads_ids sql tree (inr (inl h)) = subst₂ ReadsIds (sym h.0) (sym h.1) config_ids
reads_ids sql tree (inr (inr h)) = subst₂ ReadsIds (sym h.0) (sym h.1) state_ids

abbrev pub one_text : List ℕ
one_text = codes "SELECT 1"

-- whatever the schema is
pub one_plain : (s : Schema) → IsPlain (understood s one_text)
unfolding understood everything
one_plain s = (refl, refl)

-- ---- creation

pub make_row_is : (command_of (understood no_schema row_text) ≡ CreateTable) × (statement_of row_text (understood no_schema row_text) ≡ row_text)
unfolding understood everything
make_row_is = (refl, refl)

pub make_row_plain : IsPlain (understood no_schema row_text)
unfolding understood everything
make_row_plain = (refl, refl)

pub make_config_is : (command_of (understood one_schema config_text) ≡ CreateTable) × (statement_of config_text (understood one_schema config_text) ≡ config_text)
unfolding understood everything
make_config_is = (refl, refl)

pub make_config_plain : IsPlain (understood one_schema config_text)
unfolding understood everything
make_config_plain = (refl, refl)

pub make_state_is : (command_of (understood two_schema state_text) ≡ CreateTable) × (statement_of state_text (understood two_schema state_text) ≡ state_text)
unfolding understood everything
make_state_is = (refl, refl)

pub make_state_plain : IsPlain (understood two_schema state_text)
unfolding understood everything
make_state_plain = (refl, refl)

abbrev pub init_terms : List Term
init_terms =
    lit Null ∷ lit (Text (codes "floor")) ∷ lit (Int (pos 0)) ∷ lit Null ∷ lit (Text (codes "format")) ∷ lit (Int (pos 1)) ∷ lit Null ∷ lit (Text (codes "newest")) ∷ lit (Int (pos 0)) ∷ lit Null
    ∷ lit (Text (codes "store")) ∷ col 0 0 ∷ []

pub init_is : command_of (understood schema init_text) ≡ Insert 2 (Values init_terms 3)
unfolding understood everything
init_is = refl

pub init_plain : IsPlain (understood schema init_text)
unfolding understood everything
init_plain = (refl, refl)
