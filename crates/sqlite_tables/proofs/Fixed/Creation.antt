-- Why a statement of the creation answers an error.
use Rattle.std.proofs.Common.{◌≡◌, ◌≢◌, ◌⊎◌, ◌<◌, ◌≤◌, ◌+◌, ◌*◌, ◌^◌, inl, inr, ℕ, true, false, List, [], codes, length, Ok, Err, None, Some, Option, IsUtf8, IsTrue, refl, sym, ap, subst, ◌∙◌, arith, true≢false}
use Rattle.std.specs.List.{AllByRecursion}
use Rattle.sqlite_disk.specs.Disk.{MoreFaults}
use Rattle.sqlite_value.specs.declared.value.Value.TheVariants.{Text}
use Rattle.sqlite_value.specs.Order.{value_cmp}
use Rattle.sqlite_trees.specs.Sound as sound
use Rattle.sqlite_schema.specs.Rules.{table_reals, index_reals}
use Rattle.sqlite_schema.specs.declared.schema.Index.{Index}
use Rattle.sqlite_rules.specs.Lists.{Has}
use Rattle.sqlite_rules.proofs.ListLemmas.{all_has}
use Rattle.sqlite.specs.Table.{Table}
use Rattle.sqlite.specs.Schema.{Schema}
use Rattle.sqlite.specs.Compile.{table_defined_by}
use Rattle.sqlite.specs.Change.{created, next_tree, is_used, is_reserved, automatics}
use Rattle.sqlite.specs.Command.TheVariants.{CreateTable}
use Rattle.sqlite.specs.declared.run.Mode.{Mode}
use Rattle.sqlite_catalog.specs.Listing.{is_fit, is_formed}
use Rattle.sqlite_catalog.specs.declared.error.Refusal.{Refusal}
use Rattle.sqlite_catalog.specs.declared.error.Refusal.TheVariants.{Invalid, NameTaken, BadName, TooBig, BadKey, BadText, Violates}
use Rattle.sqlite_catalog.specs.Calls.{CreatesTable, RefusesTable}
use Rattle.sqlite.specs.Effect.{Database}
use Rattle.sqlite.specs.Does.{Does, MakesTable, lacks_sequence}
use Rattle.sqlite.specs.State.{State, Executes, mode_of}
use Rattle.sqlite.specs.Listing.{understood}
use Rattle.sqlite.specs.declared.error.Error.{Error}
use Rattle.sqlite.specs.declared.error.Error.TheVariants.{SqliteFailure}
use Rattle.sqlite.specs.declared.error.ErrorCode.TheVariants as code
use Rattle.sqlite_tied.specs.Compute.{everything}
use Rattle.sqlite.proofs.Callers.{IsPlain, command_of, statement_of}
use Rattle.sqlite_tables.specs.Format.{no_schema, one_schema, two_schema, row_text, config_text, state_text, row_table, config_table, state_table}
use Rattle.sqlite_tables.specs.Steps.{HasNone, HasRow, HasConfig}
use Rattle.sqlite_tables.proofs.Texts.{row_is, config_is, state_is, make_row_is, make_row_plain, make_config_is, make_config_plain, make_state_is, make_state_plain}
use Rattle.sqlite_tables.proofs.Insert.{same_value}
use Rattle.sqlite_tables.proofs.Fixed.Causes.{Fits}
use Rattle.sqlite_tables.proofs.Fixed.Failing.{fails_as}

-- nothing stands against a table of this text over the schema
pub record CanMake (before : Schema) (text : List ℕ) (table : Table) : Type 0 where
  pub defined : table_defined_by text ≡ Ok table
  pub utf8 : IsUtf8 text
  pub name : IsUtf8 table.name
  pub own : is_reserved table.name ≡ false
  pub free : is_used before table.name ≡ false
  pub keys_free : AllByRecursion (λ i. is_used before i.name ≡ false) (automatics table 0 0 table.uniques)
  pub few : next_tree before + length table.uniques < 65536
  pub narrow : table_reals table < 2 ^ 64
  pub keys_narrow : AllByRecursion (λ key. index_reals (table_reals table) key < 2 ^ 64) table.uniques
  pub formed : is_formed table ≡ true
  pub fit : is_fit (Text (codes "table")) (Text table.name) (Text table.name) (Text text) ≡ true
  pub short : 2 * length table.name + length text + 200 < 10 ^ 9
  pub uncounted : lacks_sequence (created before table) ≡ false

module _ (before : Schema) (text : List ℕ) (table : Table) (can : CanMake before text table) where
  same_table : (t : Table) → table_defined_by text ≡ Ok t → t ≡ table
  same_table t is = let both : Ok t ≡ Ok table = sym is ∙ can.defined in same_value both

  allowed : (why : Refusal) → ¬ RefusesTable before text why
  allowed (Invalid e) h = let both : Ok table ≡ Err e = sym can.defined ∙ h in absurd cc
  allowed NameTaken h = elim (subst (λ t. (is_used before t.name ≡ true) ⊎ ((index : Index) × Has (automatics t 0 0 t.uniques) index × (is_used before index.name ≡ true))) (same_table h.0 h.1) h.2) [
    | inl used ↦ true≢false (sym used ∙ can.free)
    | inr key ↦ true≢false (sym key.2 ∙ all_has (λ i. is_used before i.name ≡ false) _ key.0 can.keys_free key.1)
  ]
  allowed BadName h = elim (subst (λ t. (¬ IsUtf8 t.name) ⊎ ((is_reserved t.name ≡ true) × (Rattle.std.specs.Prelude.nat_eq (length t.uniques) 0 ≡ false))) (same_table h.0 h.1) h.2) [
    | inl no_text ↦ no_text can.name
    | inr reserved ↦ true≢false (sym reserved.0 ∙ can.own)
  ]
  allowed TooBig h =
      elim (subst (λ t. (65536 ≤ next_tree before + length t.uniques) ⊎ ((2 ^ 64 ≤ table_reals t) ⊎ ((key : List ℕ) × Has t.uniques key × (2 ^ 64 ≤ index_reals (table_reals t) key)))) (same_table h.0 h.1) h.2) [
        | inl many ↦ absurd (omega (arith, many, can.few))
        | inr (inl wide) ↦ absurd (omega (arith, wide, can.narrow))
        | inr (inr key) ↦ absurd (let low = all_has (λ k. index_reals (table_reals table) k < 2 ^ 64) _ key.0 can.keys_narrow key.1 in omega (arith, key.2, low))
      ]
  allowed BadKey h = true≢false (sym can.formed ∙ subst (λ t. is_formed t ≡ false) (same_table h.0 h.1) h.2)
  allowed BadText h = true≢false (sym can.fit ∙ subst (λ t. is_fit (Text (codes "table")) (Text t.name) (Text t.name) (Text text) ≡ false) (same_table h.0 h.1) h.2)
  allowed (Violates rule) h = h

  never_makes : (db : Database) → db.schema ≡ before → (stop : Option Error) → ¬ MakesTable text db (Err stop)
  never_makes db has None h = absurd (let low = subst (λ t. 10 ^ 9 ≤ 2 * length t.name + length text + 200) (same_table h.0 h.1) h.2 in omega (arith, low, can.short))
  never_makes db has (Some e) (inl h) = h.0 can.utf8
  never_makes db has (Some e) (inr h) = allowed h.0 (subst (λ s. RefusesTable s text h.0) has h.1)

  uncounted_after : (db after : Database) → db.schema ≡ before → CreatesTable db.schema text db.trees after.schema after.trees → lacks_sequence after.schema ≡ false
  uncounted_after db after has made =
      ap lacks_sequence (made.is ∙ (ap (λ s. created s made.table) has ∙ ap (created before) (same_table made.table made.defined))) ∙ can.uncounted

  -- so it is not refused
  pub never_refused : (limit : Option ℕ) (mode : Mode) (db : Database) → db.schema ≡ before → (stop : Option Error) → ¬ Does limit mode [] db text None CreateTable (Err stop)
  never_refused limit mode db has stop (inr went) = absurd (let e = went.2 in cc)
  never_refused limit mode db has stop (inl (first, inl made, same)) = never_makes db has made.0 made.1
  never_refused limit mode db has stop (inl (first, inr made, same)) =
      let plain = uncounted_after db made.0 has made.1 in
      absurd (let e : Err first ≡ Ok made.0 = rw plain at made.2 in cc)

  module _ (old new : State) (has : old.now.schema ≡ before) (is : (command_of (understood before text) ≡ CreateTable) × (statement_of text (understood before text) ≡ text))
      (plain : IsPlain (understood before text)) (fits : Fits 0 text (understood before text)) where
    pub make_fails : (e : Error) → e ≢ SqliteFailure code.OutOfMemory → IsTrue old.is_open → Executes text [] old new (Err e) → MoreFaults old.faults new.faults
    make_fails e other open_now ran = elim (fails_as text [] old new before has CreateTable is.0 plain fits tt e other open_now ran) [
      | inl more ↦ more
      | inr refused ↦ absurd (never_refused old.step_limit (mode_of old) old.now has refused.0 (subst (λ t. Does old.step_limit (mode_of old) [] old.now t None CreateTable (Err refused.0)) is.1 refused.1))
    ]

-- ---- the three tables

row_can : CanMake no_schema row_text row_table
unfolding understood everything sound.same_name sound.begins sound.is_free_name sound.fits_kind value_cmp lib.Ieee.is_nan lib.Ieee.lt lib.Utf8.encode
row_can = record {
  defined = row_is;
  utf8 = (row_text, (refl, refl));
  name = (row_table.name, (refl, refl));
  own = refl;
  free = refl;
  keys_free = (refl, tt);
  few = omega arith;
  narrow = omega arith;
  keys_narrow = (omega arith, tt);
  formed = refl;
  fit = refl;
  short = omega arith;
  uncounted = refl;
}

config_can : CanMake one_schema config_text config_table
unfolding understood everything sound.same_name sound.begins sound.is_free_name sound.fits_kind value_cmp lib.Ieee.is_nan lib.Ieee.lt lib.Utf8.encode
config_can = record {
  defined = config_is;
  utf8 = (config_text, (refl, refl));
  name = (config_table.name, (refl, refl));
  own = refl;
  free = refl;
  keys_free = tt;
  few = omega arith;
  narrow = omega arith;
  keys_narrow = tt;
  formed = refl;
  fit = refl;
  short = omega arith;
  uncounted = refl;
}

state_can : CanMake two_schema state_text state_table
unfolding understood everything sound.same_name sound.begins sound.is_free_name sound.fits_kind value_cmp lib.Ieee.is_nan lib.Ieee.lt lib.Utf8.encode
state_can = record {
  defined = state_is;
  utf8 = (state_text, (refl, refl));
  name = (state_table.name, (refl, refl));
  own = refl;
  free = refl;
  keys_free = (refl, tt);
  few = omega arith;
  narrow = omega arith;
  keys_narrow = (omega arith, tt);
  formed = refl;
  fit = refl;
  short = omega arith;
  uncounted = refl;
}

row_fits : Fits 0 row_text (understood no_schema row_text)
unfolding understood everything
row_fits = (omega arith, refl, refl)

config_fits : Fits 0 config_text (understood one_schema config_text)
unfolding understood everything
config_fits = (omega arith, refl, refl)

state_fits : Fits 0 state_text (understood two_schema state_text)
unfolding understood everything
state_fits = (omega arith, refl, refl)

module _ (old new : State) (e : Error) (other : e ≢ SqliteFailure code.OutOfMemory) (open_now : IsTrue old.is_open) where
  pub make_row_fails : HasNone old.now → Executes row_text [] old new (Err e) → MoreFaults old.faults new.faults
  make_row_fails has = make_fails no_schema row_text row_table row_can old new has make_row_is make_row_plain row_fits e other open_now

  pub make_config_fails : HasRow old.now → Executes config_text [] old new (Err e) → MoreFaults old.faults new.faults
  make_config_fails has = make_fails one_schema config_text config_table config_can old new has.schema_is make_config_is make_config_plain config_fits e other open_now

  pub make_state_fails : HasConfig old.now → Executes state_text [] old new (Err e) → MoreFaults old.faults new.faults
  make_state_fails has = make_fails two_schema state_text state_table state_can old new has.schema_is make_state_is make_state_plain state_fits e other open_now
