-- What stays true of a keeper's desks, and of those who were told of them.
use Rattle.std.proofs.Common.{◌≡◌, List, [], ◌∷◌, sym, ◌∙◌, subst, inl, inr}
use Rattle.std.specs.Prelude.{◌⊎◌}
use mathlib.Core.List.{IsPrefix}
use Rattle.logbook.specs.Pages.{Book}
use Rattle.shown.specs.declared.step.Step.{Step}
use Rattle.shown.specs.declared.step.Step.TheVariants.{Open}
use Rattle.published.specs.Known.{Known, Begins}
use Rattle.published.proofs.Prefixes.{prefix_trans}
use Rattle.published.proofs.Rules.{begins_self, begins_trans}
use Rattle.keeper.specs.Kept.{IsOpened, IsKnownIn, KnowsMore}

opened_on : (xs ys : List Step) → IsOpened xs → IsPrefix xs ys → IsOpened ys
opened_on xs ys opened on = record { loaded = opened.loaded; begins = prefix_trans (Open opened.loaded ∷ []) xs ys opened.begins on }

-- ---- a session

-- it knows what it knew, or more
abbrev pub Keeps : Known → Known → Type 0
Keeps old new = (new ≡ old) ⊎ KnowsMore old new

pub knows_more_trans : (k l m : Known) → KnowsMore k l → KnowsMore l m → KnowsMore k m
knows_more_trans k l m one other = (begins_trans k l m one.0 other.0, other.1)

pub keeps_begins : (k l : Known) → Keeps k l → Begins k l
keeps_begins k l (inl same) = subst (Begins k) (sym same) (begins_self k)
keeps_begins k l (inr on) = on.0

pub known_on : (b : Book) (k l : Known) → IsKnownIn b k → Keeps k l → IsKnownIn b l
known_on b k l known (inl same) = subst (IsKnownIn b) (sym same) known
known_on b k l known (inr on) = record { of_book = sym on.0.0 ∙ known.of_book; opened = opened_on k.steps l.steps known.opened on.0.1; judged = on.1 }
