-- No session goes back on what it knew.
use Rattle.logbook.specs.Pages.{Book}
use Rattle.shown.specs.Standing.{standing}
use Rattle.published.specs.Known.{Known}
use Rattle.published.proofs.Rising.{same_rises, rises_on, rise}
use Rattle.published.proofs.Rules.{begins_self, begins_trans}
use Rattle.keeper.specs.Kept.{IsKnownIn, NeverGoesBack}
use Rattle.keeper.proofs.Kept.{Keeps, keeps_begins, known_on}

pub never_back_self : (k : Known) → NeverGoesBack k k
never_back_self k = record { begins = begins_self k; rises = same_rises (standing k.steps).kept }

pub never_back_on : (k l m : Known) → NeverGoesBack k l → NeverGoesBack l m → NeverGoesBack k m
never_back_on k l m one other =
    record {
      begins = begins_trans k l m one.begins other.begins;
      rises = rises_on (standing k.steps).kept (standing l.steps).kept (standing m.steps).kept one.rises other.rises;
    }

-- what it knew was judged, and so is what it knows
pub never_back : (b : Book) (k l : Known) → IsKnownIn b k → Keeps k l → NeverGoesBack k l
never_back b k l known keeps =
    let on = keeps_begins k l keeps in
    let now = known_on b k l known keeps in
    record { begins = on; rises = rise k.steps l.steps known.judged now.judged on.1 }
