-- Spans that are read one row at a time.
use Rattle.std.proofs.Common.{◌≡◌, List, [], ◌∷◌, ◌++◌, map, Some, None, refl, sym, ap, ◌∙◌, subst}
use Rattle.std.proofs.lemmas.List.{map-append}
use Rattle.sqlite.specs.Store.{Ghosts}
use Rattle.sqlite.specs.Order.{Row}
use Rattle.sqlite.specs.Effect.{Database}
use Rattle.sqlite.specs.State.{State, IsLive, IsUnchanged, Survives}
use Rattle.sqlite.specs.Held.{Held, state}
use Rattle.sqlite.specs.Given.{HasBegun, HasGiven, Advances}
use Rattle.sqlite.specs.Listing.{understood}
use Rattle.sqlite.proofs.Callers.{IsPlain, begun_plain}
use Rattle.sqlite.proofs.StateLemmas.{survives_then}
use Rattle.sqlite_tables.specs.Format.{schema}
use Rattle.sqlite_tables.specs.Tables.{Span, span_cells, six}
use Rattle.sqlite_tables.specs.Stored.{AreSpans}
use Rattle.sqlite_tables.specs.Reading.{HasFormat, IsSame}
use Rattle.sqlite_tables.proofs.Texts.{rows_text, rows_plain}
use Rattle.sqlite_tables.proofs.Found.{found_spans, live_after}

-- the rows so far are these spans, and all is as it was
pub record HasRead {S : Type 0} (g : Ghosts S) (old new : Held S) (xs : List Span) : Type 0 where
  pub rows : List Row
  pub given : HasGiven g rows_text [] new rows
  pub same : IsSame g old new
  pub are : map six rows ≡ map span_cells xs

same_then : (a b c : State) → IsUnchanged a b → IsUnchanged b c → IsUnchanged a c
same_then a b c one two = (
  record { was_open = one.0.was_open; is_open = two.0.is_open; now_is = two.0.now_is ∙ one.0.now_is; committed_is = two.0.committed_is ∙ one.0.committed_is; mode = two.0.mode ∙ one.0.mode },
  record { changes = two.1.changes ∙ one.1.changes; last_rowid = two.1.last_rowid ∙ one.1.last_rowid },
  two.2 ∙ one.2,
)

-- a step more leaves nothing more
pub survives_step : (old mid new last : State) → Survives old mid (λ _. ¬ (old.now.schema ≡ schema)) → Survives mid new (λ _. ⊥) → new ≡ last → Survives old last (λ _. ¬ (old.now.schema ≡ schema))
survives_step old mid new last before step is =
    subst (λ s. Survives old s (λ _. ¬ (old.now.schema ≡ schema))) is (survives_then old mid new _ _ _ (λ _ db none. none) (λ _ db none. absurd none) before step)

pub map_pushed : {A B : Type 0} (f : A → B) (xs ys : List A) (x : A) → ys ≡ xs ++ x ∷ [] → map f ys ≡ map f xs ++ f x ∷ []
map_pushed f xs ys x pushed = ap (map f) pushed ∙ map-append f xs (x ∷ [])

module _ {S : Type 0} (g : Ghosts S) (old : Held S) (has : HasFormat g old) where
  plain : IsPlain (understood old.schema rows_text)
  plain = subst (λ s. IsPlain (understood s rows_text)) (sym has) rows_plain

  pub reads_none : (new : Held S) → HasBegun g rows_text [] old new → HasRead g old new []
  reads_none new begun = let is = begun_plain g rows_text [] old new plain begun in record { rows = []; given = is.0; same = is.1; are = refl }

  pub reads_more : (mid new : Held S) (xs : List Span) (row : Row) (x : Span) → HasRead g old mid xs → Advances g mid new (Some row) → IsSame g mid new → six row ≡ span_cells x → HasRead g old new (xs ++ x ∷ [])
  reads_more mid new xs row x read on same is = record {
    rows = read.rows ++ row ∷ [];
    given = on rows_text [] read.rows read.given;
    same = same_then _ _ _ read.same same;
    are = map-append six read.rows (row ∷ []) ∙ ap (λ l. l ++ six row ∷ []) read.are ∙ ap (λ (c : Row). map span_cells xs ++ c ∷ []) is ∙ sym (map-append span_cells xs (x ∷ []));
  }

  -- none is left
  module _ (mid new : Held S) (xs : List Span) (read : HasRead g old mid xs) (on : Advances g mid new None) where
    pub reads_all : IsLive (state g old) → AreSpans (state g old).now.trees xs
    reads_all live =
        let now = read.same.0.now_is in
        let still = ap (λ (d : Database). d.schema) now ∙ has in
        let live_mid = live_after (state g old) (state g mid) live read.same in
        subst (λ (d : Database). AreSpans d.trees xs) now (found_spans (state g mid) (state g new) read.rows xs still (live_mid read.same.0.is_open).0 (on rows_text [] read.rows read.given) read.are)

    pub reads_same : IsSame g mid new → IsSame g old new
    reads_same same = same_then _ _ _ read.same same
