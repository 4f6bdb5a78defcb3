use Rattle.std.proofs.Common.{◌≡◌, Bool, false, List, [], ◌∷◌, ap, sym, ◌∙◌, subst}
use Rattle.rows.specs.Loads.{retained_of}
use Rattle.rows.specs.declared.loaded.Loaded.{Loaded}
use Rattle.tables.specs.declared.tables.Tables.{Ghosts}
use Rattle.shown.specs.declared.step.Step.{Step}
use Rattle.shown.specs.declared.step.Step.TheVariants.{Open}
use Rattle.shown.specs.Standing.{Standing, standing}
use Rattle.published.specs.Judged.{WereJudged}
use Rattle.published.specs.Publishing.{Publishing}
use Rattle.desk.specs.Posts.{Agrees}
use Rattle.desk.specs.Invariant.{IsSound}
use Rattle.desk.proofs.Sound.{sound_first}
use Rattle.desk.proofs.desk.Desk.open.Goals as goal

-- tables that were loaded, and a step that was posted and is shown
loaded_sound : {T : Type 0} (g : Ghosts T) (failed : Bool) (given tables : T) (own : Standing) (loaded : Loaded) (p : Publishing)
    → own ≡ standing (Open loaded ∷ []) → p.posted ≡ Open loaded ∷ [] → p.shown ≡ Open loaded ∷ [] → WereJudged p.posted p.shown
    → Agrees g false given (retained_of loaded) → tables ≡ given → failed ≡ false → IsSound g failed tables own p
loaded_sound {T} g failed given tables own loaded p is posted shown judged agrees same off =
    let there : Agrees g false tables (retained_of loaded) = subst (λ (t : T). Agrees g false t (retained_of loaded)) (sym same) agrees in
    let works : Agrees g failed tables (retained_of loaded) = subst (λ (b : Bool). Agrees g b tables (retained_of loaded)) (sym off) there in
    sound_first g failed tables own p (is ∙ ap standing (sym posted)) (shown ∙ sym posted) judged
    (subst (λ (steps : List Step). Agrees g failed tables (standing steps).kept) (sym posted) works)

pub invariant_of-result : goal.invariant_of-result
invariant_of-result g c =
    let first = c.in-Ok-publish_first.ensures in
    loaded_sound g.T.Tables c.new.result.failed c.load.new.tables c.new.result.tables c.in-Ok-publish_first.own c.in-Ok.loaded c.in-Ok-publish_first.publication
    first.own first.posted first.shown first.judged c.in-Ok.ensures.agrees c.new.ensures.tables c.new.ensures.failed
