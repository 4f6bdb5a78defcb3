-- What was done over tables was done over their connection.
use Rattle.std.proofs.Common.{◌≡◌, ℕ, List, [], ◌∷◌, map, sym, ap, subst, ◌∙◌}
use Rattle.std.specs.Prelude.{None}
use Rattle.std.proofs.Math.Logic.{∥∥₁_map}
use Rattle.sqlite_wal.specs.Recovery.{Image}
use Rattle.sqlite.specs.Store.{Ghosts}
use Rattle.sqlite.specs.State.{HasCleanDisk}
use Rattle.sqlite.specs.Held.{Held, state}
use Rattle.rows.specs.Retained.{Retained}
use Rattle.rows.specs.Loads.{retained_of}
use Rattle.rows.specs.declared.loaded.Loaded.{Loaded}
use Rattle.shown.specs.declared.step.Step.{Step}
use Rattle.shown.specs.declared.step.Step.TheVariants.{Open}
use Rattle.shown.specs.Standing.{standing, after_opening}
use Rattle.desk.specs.TableChanges.{changed}
use Rattle.desk.specs.Posts.{Posts}
use Rattle.store.specs.History.{KeepsHistory, LeavesHistory}
use Rattle.store.specs.StoreParts.{connection}
use Rattle.store.specs.declared.store.Store.{Store}
use Rattle.runs.specs.Files.{HoldsOneOf}
use Rattle.calls.specs.Beginning.{Began, kept_by}
use Rattle.runs.specs.Runs.{Ended}
use Rattle.runs.specs.Over.{over, BeginsIn, EndedOver, OpenedOver, GoesOn}
use Rattle.runs.proofs.Requests.{ready}

pub ended_over : {S : Type 0} (g : Ghosts S) (tables back : Store S g) (From : Retained → Type 0) (left : Held S) (input : List ℕ) (Did : Posts (Store S g) → Posts (Store S g) → Type 0)
    → left ≡ connection back → ((loaded : Loaded) → KeepsHistory g (connection tables) (retained_of loaded) → ((r : Retained) → KeepsHistory g (connection tables) r → retained_of loaded ≡ r) → From (retained_of loaded))
    → Ended (over g) tables input Did back → EndedOver g From input Did left
ended_over {S} g tables back From left input Did same begins e = record {
  loaded = e.loaded;
  first = e.first;
  last = e.last;
  opened = e.opened;
  begins = λ clean. let still = subst (λ (c : Held S). HasCleanDisk (state g c)) same clean in begins e.loaded (e.found still) (λ r held. e.same r held still);
  did = e.did;
  keeps = λ works. subst (λ (c : Held S). KeepsHistory g c (kept_by e.last)) (sym same) (e.agrees.holds works);
  more = e.agrees.more;
  follow = e.agrees.follow;
  asked = e.asked;
  leaves = subst (λ (c : Held S). LeavesHistory g c (kept_by e.last ∷ map (changed (kept_by e.last)) e.agrees.more)) (sym same) e.agrees.leaves;
}

-- a desk over tables was opened over their connection
pub opened_over : {S : Type 0} (g : Ghosts S) (tables : Store S g) (desk : Posts (Store S g)) (From : Retained → Type 0)
    → ((loaded : Loaded) → KeepsHistory g (connection tables) (retained_of loaded) → ((r : Retained) → KeepsHistory g (connection tables) r → retained_of loaded ≡ r) → From (retained_of loaded))
    → Began (over g) tables desk → OpenedOver g From desk
opened_over g tables desk From begins began = record {
  loaded = began.posted.0;
  opened = record { posted = began.posted.1; shown = began.shown; works = began.works };
  begins = λ clean. begins began.posted.0 (began.posted.3 clean) (λ r held. began.posted.4 r held clean);
  ready = ready (over g) tables desk began;
}

pub goes_on : (image : Image) (rs : List Retained) (loaded : Loaded) (posted : List Step) → HoldsOneOf image rs → BeginsIn image None (retained_of loaded) → posted ≡ Open loaded ∷ [] → GoesOn rs posted
goes_on image rs loaded posted holds begins opened =
    ∥∥₁_map holds (λ one. (one.0, one.1, ap standing opened ∙ ap after_opening (begins.1 one.0 one.2)))
