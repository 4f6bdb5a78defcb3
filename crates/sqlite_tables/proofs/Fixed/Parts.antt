-- A statement each of whose parts gives a value is not refused.
use Rattle.std.proofs.Common.{◌≡◌, inl, inr, ℕ, zero, suc, Bool, true, false, List, [], ◌∷◌, length, length-append, Option, None, Ok, Err, refl, sym, ap, ◌∙◌, arith, true≢false}
use Rattle.std.specs.List.{AllByRecursion, list_all}
use Rattle.sqlite_value.specs.Order.{Row}
use Rattle.sqlite.specs.Tree.{Trees}
use Rattle.sqlite_schema.specs.declared.schema.Keys.TheVariants.{Enforced}
use Rattle.sqlite_schema.specs.declared.schema.Constraint.TheVariants.{Datatype, NotNull, Check, PrimaryKey, Unique, ForeignKey}
use Rattle.sqlite_schema.specs.declared.schema.Schema.{Schema}
use Rattle.sqlite_schema.specs.Rules.{passes, Keeps}
use Rattle.sqlite_sql.specs.Ops.{fits_i64}
use Rattle.sqlite.specs.Tree.{rowid, with_tree}
use Rattle.sqlite_rules.specs.Lists.{Has}
use Rattle.sqlite_rules.specs.declared.error.Refusal.{Refusal}
use Rattle.sqlite_rules.specs.declared.error.Refusal.TheVariants.{Violates, Mismatch, NoRowid, BadReference, TooDeep}
use Rattle.sqlite_rules.specs.Edit.{Edit, id_in, left_by, edited, taken_by, are_fresh, have_rowids, is_referred, IsRefused, IsOversized}
use Rattle.sqlite_rules.specs.Action.{works, Leads}
use Rattle.sqlite.specs.declared.error.Error.{Error}
use Rattle.sqlite.specs.declared.run.Mode.{Mode}
use Rattle.sqlite.specs.Does.{Concludes}
use Rattle.sqlite.specs.Rows.{Part, Then, Gives, Edited, Task, Written}
use Rattle.sqlite_tables.specs.Format.{schema}

-- ---- parts

abbrev pub NeverStops : {A : Type 0} → Part A → Type 0
NeverStops P = (stop : Option Error) → ¬ P (Err stop)

pub then_goes : {A B : Type 0} (First : Part A) (Next : A → Part B) → NeverStops First → ((a : A) → First (Ok a) → NeverStops (Next a)) → NeverStops (Then First Next)
then_goes First Next first next stop (inl h) = first h.0 h.1
then_goes First Next first next stop (inr h) = next h.0 h.1 stop h.2

pub gives_goes : {A : Type 0} (a : A) → NeverStops (Gives a)
gives_goes a stop h = absurd (cc)

-- ---- one edit

-- each rule lets it through
pub record Passes (schema : Schema) (db : Trees) (edit : Edit) : Type 0 where
  pub typed : list_all (passes Datatype schema db edit.table) edit.news ≡ true
  pub present : list_all (passes NotNull schema db edit.table) edit.news ≡ true
  pub checked : list_all (passes Check schema db edit.table) edit.news ≡ true
  pub fresh : are_fresh (left_by db edit) edit.news ≡ true
  pub unique : Keeps Unique schema (with_tree db edit.table.tree (edited db edit))
  pub keyed : have_rowids edit.news ≡ true
  pub fit : list_all (λ r. fits_i64 (id_in (rowid r))) edit.news ≡ true
  pub referred : is_referred schema Enforced edit ≡ true
  pub small : (row : Row) → Has edit.news row → ¬ IsOversized schema edit.table row

module _ (schema : Schema) (db : Trees) (edit : Edit) (passing : Passes schema db edit) where
  never : {b : Bool} → b ≡ true → ¬ (b ≡ false)
  never is other = true≢false (sym is ∙ other)

  not_refused : (why : Refusal) → ¬ IsRefused schema Enforced db edit why
  not_refused (Violates Datatype) h = never passing.typed h
  not_refused (Violates NotNull) h = never passing.present h
  not_refused (Violates Check) h = never passing.checked h
  not_refused (Violates PrimaryKey) h = never passing.fresh h
  not_refused (Violates Unique) h = h passing.unique
  not_refused (Violates ForeignKey) h = h
  not_refused Mismatch h = never passing.keyed h
  not_refused NoRowid h = never passing.fit h
  not_refused BadReference h = never passing.referred h
  not_refused TooDeep h = h

  -- where no foreign key acts
  settled : (next : Trees) (why : Option Refusal) (n : ℕ) → ¬ Leads schema Enforced n next [] (Err why)
  settled next why zero h = absurd (let e = h.1 in cc)
  settled next why (suc n) h = absurd (omega (arith, ap length h.2, length-append h.0 (h.1 ∷ [])))

  pub edit_goes : works schema Enforced 0 edit.table.tree (taken_by db edit) edit.news ≡ [] → NeverStops (Edited schema Enforced db edit)
  edit_goes none stop (why, inl refused, is) = not_refused refused.0 refused.1
  edit_goes none stop (why, inr (inl big), is) = passing.small big.0 big.1 big.2
  edit_goes none stop (why, inr (inr went), is) = settled went.0 why went.2.0 (rw none at went.2.1)

-- ---- the end of a statement, where no table refers to another

no_references : (rows : List Row) → AllByRecursion (λ row. true ≡ true) rows
no_references [] = tt
no_references (row ∷ rows) = (refl, no_references rows)

pub concludes_goes : (task : Task) → task.schema ≡ schema → (mode : Mode) (w : Written) → NeverStops (Concludes task mode None w)
concludes_goes task is mode w stop (inl h) = absurd (h.1.0 (rw is (no_references (w.trees 0), (no_references (w.trees 2), (no_references (w.trees 3), tt)))))
concludes_goes task is mode w stop (inr (in_doubt, tested, inl returned)) = absurd (let e = returned.1 in cc)
concludes_goes task is mode w stop (inr (in_doubt, tested, inr concluded)) = absurd (let e = concluded.2 in cc)
