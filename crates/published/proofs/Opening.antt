-- What a publication is opened with.
use Rattle.std.proofs.Common.{◌≡◌, ℕ, zero, suc, List, [], ◌∷◌, ◌++◌, Option, None, ap, sym, ◌∙◌, subst}
use mathlib.Core.Option.{some}
use lib.ListN.{get_elem?}
use Rattle.logbook.specs.Pages.{Book}
use Rattle.shown.specs.declared.step.Step.{Step}
use Rattle.shown.specs.Standing.{nothing, after_step, HasRoom}
use Rattle.published.specs.Known.{Known, start_of, next_of}
use Rattle.published.specs.Judged.{AreJudged}
use Rattle.published.specs.Copies.{Copy, Stands, Chain, KnowsNoMore, Keeps}

-- the writer knows nothing yet
abbrev fresh : List (Option Known)
fresh = None ∷ []

fresh_knows : (l : Known) (seat : ℕ) (v : Option Known) → get_elem? fresh seat ≡ some v → KnowsNoMore v l
fresh_knows l zero v is = let none : None ≡ v = cc is in subst (λ (w : Option Known). KnowsNoMore w l) none tt
fresh_knows l (suc seat) v is = absurd (cc is)

pub keeps_first : (x : Copy) → Stands x → Keeps x (None ∷ [])
keeps_first x stands = (stands, fresh_knows x.prefix)

module _ (b : Book) (start k : Known) (first : Step) (empty : start ≡ start_of b) (one : k ≡ next_of start first) where
  pub first_alone : k.steps ≡ first ∷ []
  first_alone = ap (λ (m : Known). m.steps) one ∙ ap (λ (m : Known). m.steps ++ first ∷ []) empty

  pub first_book : k.book ≡ b
  first_book = ap (λ (m : Known). m.book) one ∙ ap (λ (m : Known). m.book) empty

  pub first_judged : HasRoom nothing first → AreJudged k.steps
  first_judged room = subst AreJudged (sym first_alone) (room, tt)
