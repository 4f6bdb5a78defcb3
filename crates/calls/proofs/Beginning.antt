-- A desk that was opened, once its first session was given out.
use Rattle.std.proofs.Common.{◌≡◌, ◌≤◌, false, List, [], ◌∷◌, length, sym, ◌∙◌, subst}
use Rattle.rows.specs.Loads.{retained_of}
use Rattle.shown.specs.declared.step.Step.{Step}
use Rattle.shown.specs.Standing.{standing}
use Rattle.tables.specs.Device.{IsClean}
use Rattle.tables.specs.declared.tables.Tables.{Ghosts}
use Rattle.published.proofs.Prefixes.{prefix_whole, prefix_length}
use Rattle.desk.specs.Posts.{Posts, OpensWith, ComesBack, ShowsMore, SameTables}
use Rattle.calls.specs.Beginning.{Began, kept_by}

pub began_on : {T : Type 0} (g : Ghosts T) (tables : T) (d e : Posts T) → OpensWith g tables d → d.shown ≡ d.posted → d.failed ≡ false → g.leaves d.tables (kept_by d ∷ []) → ComesBack g tables d.tables
    → ShowsMore d e → SameTables d e → Began g tables e
began_on {T} g tables d e opens whole works settled back more same =
    let all : d.shown ≡ e.posted = whole ∙ sym more.posted in
    record {
      posted = (opens.0, more.posted ∙ opens.1, subst (λ (t : T). g.holds t (retained_of opens.0)) (sym same.0) opens.2, λ clean. opens.3 (subst (λ (t : T). IsClean (g.device t)) same.0 clean), λ r held clean. opens.4 r held (subst (λ (t : T). IsClean (g.device t)) same.0 clean));
      shown = prefix_whole e.shown e.posted more.beginning (subst (λ (xs : List Step). length xs ≤ length e.shown) all (prefix_length d.shown e.shown more.later));
      judged = more.judged;
      works = same.1 ∙ works;
      settled = subst (λ (xs : List Step). g.leaves e.tables ((standing xs).kept ∷ [])) (sym more.posted) (subst (λ (t : T). g.leaves t (kept_by d ∷ [])) (sym same.0) settled);
      back = subst (λ (t : T). ComesBack g tables t) (sym same.0) back;
    }
