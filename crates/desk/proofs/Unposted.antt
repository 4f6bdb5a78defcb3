-- A change that was not posted: there was no room for its step, or it could not be stored.
use Rattle.std.proofs.Common.{◌≡◌, false, List, [], ◌∷◌, refl, ap, sym, ◌∙◌, subst, ◌⊎◌, inl, inr}
use Rattle.std.specs.Prelude.{Result, IfErr, IsErrAnd}
use mathlib.Core.List.{IsPrefix}
use Rattle.names.specs.declared.refusal.Refusal.{Refusal}
use Rattle.names.specs.declared.refusal.Refusal.TheVariants.{Memory, StoreFault}
use Rattle.rows.specs.Retained.{Retained}
use Rattle.shown.specs.declared.step.Step.{Step}
use Rattle.shown.specs.Standing.{Standing, standing}
use Rattle.tables.specs.Device.{IsOpen, Lasts}
use Rattle.tables.specs.declared.tables.Tables.{Ghosts}
use Rattle.published.specs.Judged.{WereJudged}
use Rattle.published.specs.Publishing.{Publishing}
use Rattle.published.proofs.Prefixes.{prefix_self}
use Rattle.desk.specs.declared.latched_tables.LatchedTables.{LatchedTables}
use Rattle.desk.specs.TableChanges.{TableChange, changed, CanChange}
use Rattle.desk.specs.Posts.{Posts, IsSettled, ShowsMore}
use Rattle.desk.specs.Changes.{Touches, leaves_alone, adds_one, Refuses, IsRefused, IsUnopposed}
use Rattle.desk.specs.inside.Latching.{IsLatched, IsUnstored, AgreeWith}
use Rattle.desk.specs.inside.Posting.{NoCause}
use Rattle.desk.proofs.Accepting.{refused_exit, lasts_same}

nothing_speaks : IsUnopposed NoCause
nothing_speaks why cause = absurd cause

module _ {T : Type 0} (g : Ghosts T) where
  -- a desk over these tables, with this publication
  abbrev pub seen : LatchedTables T → Publishing → Posts T
  seen t p = record { tables = t.tables; book = p.book; posted = p.posted; shown = p.shown; failed = t.failed; faults = g.count t.tables; seats = p.seats }

  latched_cause : (was is : LatchedTables T) (p q : Publishing) (why : Refusal) → was.failed ≡ false → IsLatched g was why is → Refuses g (seen was p) NoCause why (seen is q)
  latched_cause was is p q Memory works latched = (works, latched.0, latched.1, nothing_speaks)
  latched_cause was is p q StoreFault works latched = (works, latched.0, latched.1, latched.2, nothing_speaks)
  latched_cause was is p q _ works latched = absurd latched

  -- room for a step changes nothing that is seen
  module _ (d : Posts T) (was : LatchedTables T) (own : Standing) (p q : Publishing) (view : seen was p ≡ d) (works : d.failed ≡ false) (stands : own ≡ standing p.posted) (within : IsPrefix p.shown p.posted) (judged : WereJudged p.posted p.shown)
      (law : (t : T) (r : Retained) → g.holds t r → IsOpen (g.device t) → g.leaves t (r ∷ [])) (agrees : AgreeWith g was (standing p.posted).kept)
      (book : q.book ≡ p.book) (posted : q.posted ≡ p.posted) (shown : q.shown ≡ p.shown) where
    here : was.failed ≡ false
    here = ap (λ (s : Posts T). s.failed) view ∙ works

    shows : (is : LatchedTables T) → ShowsMore (seen was p) (seen is q)
    shows is = record {
      posted = posted;
      book = book;
      later = subst (IsPrefix p.shown) (sym shown) (prefix_self p.shown);
      beginning = subst (IsPrefix q.shown) (sym posted) (subst (λ (xs : List Step). IsPrefix xs p.posted) (sym shown) within);
      judged = subst (λ (xs : List Step). WereJudged xs q.shown) (sym posted) (subst (WereJudged p.posted) (sym shown) judged);
    }

    settled : (is : LatchedTables T) → AgreeWith g is (standing p.posted).kept → IsSettled g (seen is q)
    settled is whole works_on opened =
        subst (λ (xs : List Step). g.leaves is.tables ((standing xs).kept ∷ [])) (sym posted) (law is.tables (standing p.posted).kept (whole.holds works_on) opened)

    -- there was no room
    pub no_room : {A : Type 0} (r : Result A Refusal) (made : TableChange → Type 0) → IsErrAnd r (λ e. e ≡ Memory) → IfErr r (λ e. IsRefused g d made NoCause e (seen was q))
    no_room r made exit =
        refused_exit (λ e. IsRefused g d made NoCause e (seen was q)) r Memory exit
        (subst (λ (s : Posts T). IsRefused g s made NoCause Memory (seen was q)) view
        (record { shows = shows was; cause = (here, here, refl, nothing_speaks); touches = leaves_alone refl; settled = settled was agrees; lasts = lasts_same g was.tables was.tables refl }))

    touches : (is : LatchedTables T) (change kept : TableChange) → kept ≡ change → CanChange own.kept kept
        → (is.tables ≡ was.tables) ⊎ ((rs : List Retained) → g.leaves was.tables rs → g.leaves is.tables (changed own.kept kept ∷ rs))
        → AgreeWith g is own.kept → Touches g (seen was p) (λ made. made ≡ change) (seen is q)
    touches is change kept copied can (inl same) held = leaves_alone same
    touches is change kept copied can (inr adds) held = adds_one kept copied (record {
      follows = subst (λ (s : Standing). CanChange s.kept kept) stands can;
      adds = subst (λ (s : Standing). (rs : List Retained) → g.leaves was.tables rs → g.leaves is.tables (changed s.kept kept ∷ rs)) stands adds;
      holds = λ sound. subst (λ (s : Standing). g.holds is.tables s.kept) stands (held.holds sound);
    })

    -- it could not be stored
    pub not_stored : {A : Type 0} (r : Result A Refusal) (why : Refusal) (is : LatchedTables T) (change kept : TableChange) → IsErrAnd r (λ e. e ≡ why)
        → kept ≡ change → CanChange own.kept kept → IsUnstored g own.kept kept was why is → Lasts (g.device was.tables) (g.device is.tables) → AgreeWith g is own.kept
        → IfErr r (λ e. IsRefused g d (λ made. made ≡ change) NoCause e (seen is q))
    not_stored r why is change kept exit copied can unstored lasts kept_agrees =
        refused_exit (λ e. IsRefused g d (λ made. made ≡ change) NoCause e (seen is q)) r why exit
        (subst (λ (s : Posts T). IsRefused g s (λ made. made ≡ change) NoCause why (seen is q)) view
        (record { shows = shows is; cause = latched_cause was is p q why here unstored.latched; touches = touches is change kept copied can unstored.touched kept_agrees; settled = settled is (subst (λ (s : Standing). AgreeWith g is s.kept) stands kept_agrees); lasts = lasts }))
