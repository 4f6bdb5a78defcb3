-- Entries that are put behind others.
use Rattle.std.proofs.Common.{◌≡◌, ℕ, List, [], ◌∷◌, ◌++◌, refl, sym, ap, ◌∙◌, subst}
use mathlib.Core.List.{IsPrefix}
use Rattle.one_history.specs.declared.entry.Entry.{Entry}
use Rattle.one_history.specs.History.{Hand, signed, entries_by}
use Rattle.one_history.specs.Runs.{Ran, RanFrom, IsDone}

module _ {S E : Type 0} (does : S → E → S → Type 0) where
  pub ran_on : (es fs : List (Entry E)) (s t u : S) → Ran does s es t → Ran does t fs u → Ran does s (es ++ fs) u
  ran_on [] fs s t u same more = subst (λ (x : S). Ran does x fs u) (sym same) more
  ran_on (e ∷ es) fs s t u ran more = (ran.0, ran.1, ran_on es fs ran.0 t u ran.2 more)

  module _ (starts : S → Type 0) where
    pub ran_from_on : (es fs : List (Entry E)) (t u : S) → RanFrom does starts es t → Ran does t fs u → RanFrom does starts (es ++ fs) u
    ran_from_on es fs t u ran more = (ran.0, ran.1, ran_on es fs ran.0 t u ran.2 more)

    -- one entry more
    pub ran_from_next : (by : ℕ) (es : List (Entry E)) (what : E) (t u : S) → RanFrom does starts es t → does t what u → RanFrom does starts (es ++ signed by (what ∷ [])) u
    ran_from_next by es what t u ran next = ran_from_on es (signed by (what ∷ [])) t u ran (u, next, refl)

    -- what a note says of what was done
    pub done_by : (old new : Hand E) (all now : List (Entry E)) (before : S) (what : E) (after : S)
        → IsPrefix old.seen all → RanFrom does starts all before → does before what after → now ≡ all ++ signed old.by (what ∷ [])
        → new.by ≡ old.by → new.seen ≡ now → new.mine ≡ old.mine ++ signed old.by (what ∷ []) → entries_by new.by now ≡ new.mine
        → IsDone does starts old before what after new
    done_by old new all now before what after begins ran done noted by seen mine own =
        record {
          by = by;
          between = begins.0;
          ran = subst (λ (es : List (Entry E)). RanFrom does starts es before) (sym begins.1) ran;
          done = done;
          seen = seen ∙ noted ∙ ap (λ (es : List (Entry E)). es ++ signed old.by (what ∷ [])) (sym begins.1);
          mine = mine;
          own = ap (entries_by new.by) seen ∙ own;
        }
