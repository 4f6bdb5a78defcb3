-- A change, from the readiness for it on.
use Rattle.std.proofs.Common.{◌≡◌, Bool, true, false, List, [], ◌∷◌, ◌++◌, length, ◌<◌, ◌≤◌, ℕ, refl, ap, sym, ◌∙◌, subst, arith, true≢false}
use Rattle.std.specs.Prelude.{Result, Ok, Err, IfOk, IfErr, IsErrAnd, OnOk, Option, Some, None}
use Rattle.names.specs.declared.limits.TheConstants.{MAX_CATCH_UP}
use Rattle.names.specs.declared.tuple.Tuple.{Tuple}
use Rattle.names.specs.declared.write.Write.{Write}
use Rattle.names.specs.declared.commit.Event.{Event}
use Rattle.names.specs.declared.commit.Commit.TheVariants.{Tuples, Config}
use Rattle.names.specs.declared.refusal.Refusal.{Refusal}
use Rattle.names.specs.declared.refusal.Refusal.TheVariants.{Malformed, Memory, StoreFault, Reopen, Full, TupleInTheWay}
use Rattle.meaning.specs.Config.{Configured}
use Rattle.meaning.specs.Verdict.{Newest, config_cause, or_else, in_the_way, refused_if}
use Rattle.zookie.specs.declared.Zookie.{Zookie}
use Rattle.rows.specs.Retained.{Retained, newest, newest_of}
use Rattle.rows.specs.Follows.{AreEventsOf}
use Rattle.rows.specs.Judging.{ConfigRefused}
use Rattle.verdict.specs.Verdict.{AcceptsWrite, RefusesWrite}
use Rattle.shown.specs.declared.step.Step.{Step}
use Rattle.names.specs.declared.marking.Marking.{Marking}
use Rattle.names.specs.declared.part.Part.{Part}
use Rattle.shown.specs.declared.step.Step.TheVariants.{Commit, Take, Trim, Marking as MarkingStep, Rebase}
use Rattle.shown.specs.Marks.{marking_cause}
use Rattle.shown.specs.Standing.{standing, base_cause, cursor_of}
use Rattle.shown.specs.Raising.{floor_cause, RefusesFloor, RefusesMarking, RefusesBase}
use Rattle.tables.specs.Device.{IsOpen, HasFailed, Lasts}
use Rattle.tables.specs.Storing.{one_more}
use Rattle.tables.specs.declared.tables.Tables.{Ghosts}
use Rattle.tables.proofs.Lasting.{lasts_self}
use Rattle.desk.specs.TableChanges.{TableChange, Adds, Raises, changed, CanChange}
use Rattle.desk.specs.Posts.{Posts, IsSettled, ShowsMore, SameTables, PostsStep, newest_posted}
use Rattle.published.specs.Receipts.{ReceiptFacts}
use Rattle.desk.specs.Changes.{Tells, TellsShown, IsStored, WriteAccepted, ConfigAccepted, CatchUpAccepted, TrimAccepted, MarkingAccepted, RebuildAccepted, trim_raises, CatchUpJudged, IsCommitOfWrite, IsRaiseTo, IsNoChange, MayLeave, Touches, leaves_alone, adds_one, Refuses, IsRefused, IsUnopposed}
use Rattle.desk.specs.Installing.{InstallAccepted}
use Rattle.desk.specs.inside.Posting.{NoCause}
use Rattle.published.proofs.Prefixes.{prefix_trans}
use Rattle.desk.proofs.Judged.{write_reopens, write_faults, write_wants, floor_reopens, floor_faults, floor_wants, marking_reopens, marking_faults, marking_wants, base_reopens, base_faults, base_wants}

-- a cause is none
pub unlike : {o : Option Refusal} → o ≡ None → IsUnopposed (λ why. o ≡ Some why)
unlike none why is = absurd (cc (sym none ∙ is))

pub few_unopposed : (commits : ℕ) → commits ≤ MAX_CATCH_UP → IsUnopposed (CatchUpJudged commits)
few_unopposed commits few Malformed many = absurd (omega (arith, few, many))
few_unopposed commits few _ judged = absurd judged

tuple_or_limit : (o : Option Tuple) (b : Bool) (why : Refusal) → or_else (in_the_way o) (refused_if Full b) ≡ Some why → ((t : Tuple) → ¬ (TupleInTheWay t ≡ why)) → ¬ (Full ≡ why) → ⊥
tuple_or_limit (Some t) b why is way full = way t (cc is)
tuple_or_limit None true why is way full = full (cc is)
tuple_or_limit None false why is way full = absurd (cc is)

config_reopens : (n : Newest) (config : Configured) → ¬ (ConfigRefused n config Reopen)
config_reopens n config is = tuple_or_limit _ _ Reopen is (λ t same. absurd (cc same)) (λ same. absurd (cc same))

config_wants : (n : Newest) (config : Configured) → ¬ (ConfigRefused n config Memory)
config_wants n config is = tuple_or_limit _ _ Memory is (λ t same. absurd (cc same)) (λ same. absurd (cc same))

config_faults : (n : Newest) (config : Configured) → ¬ (ConfigRefused n config StoreFault)
config_faults n config is = tuple_or_limit _ _ StoreFault is (λ t same. absurd (cc same)) (λ same. absurd (cc same))

-- what the exit of a `?` returns
pub refused_exit : {A : Type 0} (P : Refusal → Type 0) (r : Result A Refusal) (e : Refusal) → IsErrAnd r (λ why. why ≡ e) → P e → IfErr r P
refused_exit P (Ok a) e was is = tt
refused_exit P (Err why) e was is = subst P (sym was) is

-- where the tables are the same, so is the device
pub lasts_same : {T : Type 0} (g : Ghosts T) (old new : T) → new ≡ old → Lasts (g.device old) (g.device new)
lasts_same {T} g old new same = subst (λ (t : T). Lasts (g.device old) (g.device t)) (sym same) (lasts_self (g.device old))

module _ {T : Type 0} (g : Ghosts T) (old mid : Posts T) (more : ShowsMore old mid) (same : SameTables old mid) (settled : IsSettled g mid) where
  -- nothing was stored yet
  pub refused_early : (made : TableChange → Type 0) (judged : Refusal → Type 0) (why : Refusal) → Refuses g old judged why mid → IsRefused g old made judged why mid
  refused_early made judged why cause = record { shows = more; cause = cause; touches = leaves_alone same.0; settled = settled; lasts = lasts_same g old.tables mid.tables same.0 }

  -- the tables failed before
  pub not_ready : {A : Type 0} (made : TableChange → Type 0) (judged : Refusal → Type 0) (r : Result A Refusal) (why : Refusal) → IsErrAnd r (λ e. e ≡ why)
      → (why ≡ Reopen) × (old.failed ≡ true) → IfErr r (λ e. IsRefused g old made judged e mid)
  not_ready made judged r why was is =
      refused_exit (λ e. IsRefused g old made judged e mid) r why was
      (subst (λ (e : Refusal). IsRefused g old made judged e mid) (sym is.0) (refused_early made judged Reopen (is.1, same)))

  module _ (works : old.failed ≡ false) where
    judged_cause : (judged : Refusal → Type 0) (why : Refusal) → ¬ (judged Reopen) → ¬ (judged StoreFault) → ¬ (judged Memory) → judged why → Refuses g old judged why mid
    judged_cause judged Reopen asks fails wants is = absurd (asks is)
    judged_cause judged StoreFault asks fails wants is = absurd (fails is)
    judged_cause judged Memory asks fails wants is = absurd (wants is)
    judged_cause judged _ asks fails wants is = (works, same, is)

    -- it was judged, and refused
    pub refused_judged : (made : TableChange → Type 0) (judged : Refusal → Type 0) (why : Refusal) → ¬ (judged Reopen) → ¬ (judged StoreFault) → ¬ (judged Memory) → judged why → IsRefused g old made judged why mid
    refused_judged made judged why asks fails wants is = refused_early made judged why (judged_cause judged why asks fails wants is)

    -- there was no memory, and nothing speaks against it
    pub early_memory : {A : Type 0} (made : TableChange → Type 0) (judged : Refusal → Type 0) (r : Result A Refusal) (why : Refusal) → IsErrAnd r (λ e. e ≡ why) → why ≡ Memory → IsUnopposed judged
        → IfErr r (λ e. IsRefused g old made judged e mid)
    early_memory made judged r why was is unopposed =
        refused_exit (λ e. IsRefused g old made judged e mid) r why was
        (subst (λ (e : Refusal). IsRefused g old made judged e mid) (sym is) (refused_early made judged Memory (works, same.1 ∙ works, same.2, unopposed)))

    -- a configuration is refused for a tuple in the way, or for a limit
    pub config_refused : {A : Type 0} (r : Result A Refusal) (config : Configured) (why : Refusal) → IsErrAnd r (λ e. e ≡ why)
        → ConfigRefused (newest_posted mid) config why
        → IfErr r (λ e. IsRefused g old (λ change. change ≡ Adds (Config config)) (ConfigRefused (newest_posted old) config) e mid)
    config_refused r config why was is =
        refused_exit (λ e. IsRefused g old (λ change. change ≡ Adds (Config config)) (ConfigRefused (newest_posted old) config) e mid) r why was
        (refused_judged (λ change. change ≡ Adds (Config config)) (ConfigRefused (newest_posted old) config) why (config_reopens (newest_posted old) config) (config_faults (newest_posted old) config) (config_wants (newest_posted old) config)
        (subst (λ (steps : List Step). ConfigRefused (newest_of (standing steps).kept) config why) more.posted is))

    -- no more was posted since
    pub still_accepted : (write : Write Zookie) → AcceptsWrite (standing mid.posted).kept write → AcceptsWrite (standing old.posted).kept write
    still_accepted write accepted = subst (λ (steps : List Step). AcceptsWrite (standing steps).kept write) more.posted accepted

    pub config_still : (config : Configured) → config_cause (newest_posted mid) config ≡ Option.None → config_cause (newest_posted old) config ≡ Option.None
    config_still config accepted = subst (λ (steps : List Step). config_cause (newest_of (standing steps).kept) config ≡ Option.None) more.posted accepted

    -- a write is refused for its operations or its conditions
    pub write_refused : {A : Type 0} (r : Result A Refusal) (write : Write Zookie) (why : Refusal) → IsErrAnd r (λ e. e ≡ why)
        → RefusesWrite (standing mid.posted).kept write why
        → IfErr r (λ e. IsRefused g old (IsCommitOfWrite (standing old.posted).kept write) (RefusesWrite (standing old.posted).kept write) e mid)
    write_refused r write why was is =
        let made = IsCommitOfWrite (standing old.posted).kept write in
        let judged = RefusesWrite (standing old.posted).kept write in
        refused_exit (λ e. IsRefused g old made judged e mid) r why was
        (refused_judged made judged why (write_reopens (standing old.posted).kept write) (write_faults (standing old.posted).kept write) (write_wants (standing old.posted).kept write)
        (subst (λ (steps : List Step). RefusesWrite (standing steps).kept write why) more.posted is))

    -- a floor is refused for its zookie, or a cursor
    pub floor_refused : {A : Type 0} (r : Result A Refusal) (zookie : Zookie) (why : Refusal) → IsErrAnd r (λ e. e ≡ why) → floor_cause (standing mid.posted) zookie ≡ Some why
        → IfErr r (λ e. IsRefused g old (IsRaiseTo (standing old.posted) zookie) (RefusesFloor (standing old.posted) zookie) e mid)
    floor_refused r zookie why was is =
        let stood = standing old.posted in
        refused_exit (λ e. IsRefused g old (IsRaiseTo stood zookie) (RefusesFloor stood zookie) e mid) r why was
        (refused_judged (IsRaiseTo stood zookie) (RefusesFloor stood zookie) why (floor_reopens stood zookie) (floor_faults stood zookie) (floor_wants stood zookie)
        (subst (λ (steps : List Step). floor_cause (standing steps) zookie ≡ Some why) more.posted is))

    -- a marking is refused for the relation, or for a limit
    pub marking_refused : {A : Type 0} (r : Result A Refusal) (marking : Marking) (why : Refusal) → IsErrAnd r (λ e. e ≡ why) → RefusesMarking (standing mid.posted) marking why
        → IfErr r (λ e. IsRefused g old IsNoChange (RefusesMarking (standing old.posted) marking) e mid)
    marking_refused r marking why was is =
        let stood = standing old.posted in
        refused_exit (λ e. IsRefused g old IsNoChange (RefusesMarking stood marking) e mid) r why was
        (refused_judged IsNoChange (RefusesMarking stood marking) why (marking_reopens stood marking) (marking_faults stood marking) (marking_wants stood marking)
        (subst (λ (steps : List Step). RefusesMarking (standing steps) marking why) more.posted is))

    -- a base is refused for its revision
    pub base_refused : {A : Type 0} (r : Result A Refusal) (rev : ℕ) (why : Refusal) → IsErrAnd r (λ e. e ≡ why) → RefusesBase (standing mid.posted) rev why
        → IfErr r (λ e. IsRefused g old IsNoChange (RefusesBase (standing old.posted) rev) e mid)
    base_refused r rev why was is =
        let stood = standing old.posted in
        refused_exit (λ e. IsRefused g old IsNoChange (RefusesBase stood rev) e mid) r why was
        (refused_judged IsNoChange (RefusesBase stood rev) why (base_reopens stood rev) (base_faults stood rev) (base_wants stood rev)
        (subst (λ (steps : List Step). RefusesBase (standing steps) rev why) more.posted is))

    newest_still : (rev : ℕ) → rev ≡ newest (standing mid.posted).kept → rev ≡ newest (standing old.posted).kept
    newest_still rev is = is ∙ ap (λ (steps : List Step). newest (standing steps).kept) more.posted

    -- too many commits at once
    pub too_many : (commits : ℕ) → MAX_CATCH_UP < commits → IsRefused g old IsNoChange (CatchUpJudged commits) Malformed mid
    too_many commits many = refused_early IsNoChange (CatchUpJudged commits) Malformed (works, same, many)

    module _ (new : Posts T) where
      posts_on : (step : Step) → PostsStep mid step new → PostsStep old step new
      posts_on step posts =
          let is = posts.shows in
          record {
            shows = record {
              posted = is.posted ∙ ap (λ (steps : List Step). steps ++ step ∷ []) more.posted;
              book = is.book ∙ more.book;
              later = prefix_trans old.shown mid.shown new.shown more.later is.later;
              beginning = is.beginning;
              judged = is.judged;
            };
            faults = posts.faults ∙ same.2;
          }

      shows_on : ShowsMore mid new → ShowsMore old new
      shows_on shows =
          record {
            posted = shows.posted ∙ more.posted;
            book = shows.book ∙ more.book;
            later = prefix_trans old.shown mid.shown new.shown more.later shows.later;
            beginning = shows.beginning;
            judged = shows.judged;
          }

      stored_on : IsStored g mid new → IsStored g old new
      stored_on stored =
          record {
            works = stored.works;
            holds = stored.holds;
            settled = stored.settled;
            is_open = stored.is_open;
            lasts = subst (λ (t : T). Lasts (g.device t) (g.device new.tables)) same.0 stored.lasts;
          }

      pub write_accepted : (write : Write Zookie) (events : List Event) (r : Result ReceiptFacts Refusal)
          → AcceptsWrite (standing mid.posted).kept write → AreEventsOf write.ops events
          → OnOk r (PostsStep mid (Commit (Tuples events)) new) → IfOk r (λ receipt. Tells receipt new) → OnOk r (IsStored g mid new)
          → IfOk r (λ receipt. WriteAccepted g old write receipt new)
      write_accepted write events (Ok receipt) accepted are posts tells stored =
          record {
            works = works;
            accepted = still_accepted write accepted;
            events = events;
            events_of = are;
            posts = posts_on (Commit (Tuples events)) posts;
            stored = stored_on stored;
            tells = tells;
          }
      write_accepted write events (Err why) accepted are posts tells stored = tt

      pub config_accepted : (config : Configured) (r : Result ReceiptFacts Refusal) → config_cause (newest_posted mid) config ≡ Option.None
          → OnOk r (PostsStep mid (Commit (Config config)) new) → IfOk r (λ receipt. Tells receipt new) → OnOk r (IsStored g mid new)
          → IfOk r (λ receipt. ConfigAccepted g old config receipt new)
      config_accepted config (Ok receipt) accepted posts tells stored =
          record {
            works = works;
            accepted = config_still config accepted;
            posts = posts_on (Commit (Config config)) posts;
            stored = stored_on stored;
            tells = tells;
          }
      config_accepted config (Err why) accepted posts tells stored = tt

      -- the part has taken the commits
      pub caught_up : {A : Type 0} (value : A → ℕ) (receipt : A → ReceiptFacts) (part : Part) (commits : ℕ) (r : Result A Refusal) → commits ≤ MAX_CATCH_UP
          → OnOk r (PostsStep mid (Take part commits) new) → new.tables ≡ mid.tables → new.failed ≡ false → IfOk r (λ p. value p ≡ cursor_of part (standing new.posted)) → IfOk r (λ p. TellsShown (receipt p) new)
          → IfOk r (λ p. CatchUpAccepted old part commits (value p) (receipt p) new)
      caught_up value receipt part commits (Ok p) few posts tables sound moved tells =
          record { works = works; few = few; posts = posts_on (Take part commits) posts; tables = tables ∙ same.0; stored = sound; moved = moved; tells = tells }
      caught_up value receipt part commits (Err why) few posts tables sound moved tells = tt

      module _ (marking : Marking) (accepted : marking_cause (newest_posted mid).held.config (standing mid.posted).marks marking ≡ Option.None) where
        pub marking_still : marking_cause (newest_posted old).held.config (standing old.posted).marks marking ≡ Option.None
        marking_still = subst (λ (steps : List Step). marking_cause (newest_of (standing steps).kept).held.config (standing steps).marks marking ≡ Option.None) more.posted accepted

        -- the node is marked, or is so no longer
        pub marking_accepted : {A : Type 0} (value : A → ℕ) (receipt : A → ReceiptFacts) (r : Result A Refusal)
            → OnOk r (PostsStep mid (MarkingStep marking) new) → new.tables ≡ mid.tables → new.failed ≡ false → IfOk r (λ p. value p ≡ length (standing new.posted).marks) → IfOk r (λ p. TellsShown (receipt p) new)
            → IfOk r (λ p. MarkingAccepted old marking (value p) (receipt p) new)
        marking_accepted value receipt (Ok p) posts tables sound told tells =
            record { works = works; accepted = marking_still; posts = posts_on (MarkingStep marking) posts; tables = tables ∙ same.0; stored = sound; told = told; tells = tells }
        marking_accepted value receipt (Err why) posts tables sound told tells = tt

      module _ (rev : ℕ) (accepted : base_cause (standing mid.posted) rev ≡ Option.None) where
        pub base_still : base_cause (standing old.posted) rev ≡ Option.None
        base_still = subst (λ (steps : List Step). base_cause (standing steps) rev ≡ Option.None) more.posted accepted

        -- the base is made of a revision
        pub install_accepted : {A : Type 0} (value : A → ℕ) (receipt : A → ReceiptFacts) (r : Result A Refusal)
            → OnOk r (PostsStep mid (Rebase rev) new) → new.tables ≡ mid.tables → new.failed ≡ false → IfOk r (λ p. value p ≡ (standing new.posted).base) → IfOk r (λ p. TellsShown (receipt p) new)
            → IfOk r (λ p. InstallAccepted old rev (value p) (receipt p) new)
        install_accepted value receipt (Ok p) posts tables sound told tells =
            record { works = works; accepted = base_still; posts = posts_on (Rebase rev) posts; tables = tables ∙ same.0; stored = sound; told = told; tells = tells }
        install_accepted value receipt (Err why) posts tables sound told tells = tt

      module _ (rev : ℕ) (of_newest : rev ≡ newest (standing mid.posted).kept) (accepted : base_cause (standing mid.posted) rev ≡ Option.None) where
        -- it is made of the newest one
        pub rebuild_accepted : {A : Type 0} (value : A → ℕ) (receipt : A → ReceiptFacts) (r : Result A Refusal)
            → OnOk r (PostsStep mid (Rebase rev) new) → new.tables ≡ mid.tables → new.failed ≡ false → IfOk r (λ p. value p ≡ (standing new.posted).base) → IfOk r (λ p. TellsShown (receipt p) new)
            → IfOk r (λ p. RebuildAccepted old (value p) (receipt p) new)
        rebuild_accepted value receipt (Ok p) posts tables sound told tells =
            record {
              works = works;
              accepted = subst (λ (n : ℕ). base_cause (standing old.posted) n ≡ Option.None) (newest_still rev of_newest) (base_still rev accepted);
              posts = subst (λ (n : ℕ). PostsStep old (Rebase n) new) (newest_still rev of_newest) (posts_on (Rebase rev) posts);
              tables = tables ∙ same.0;
              stored = sound;
              told = told;
              tells = tells;
            }
        rebuild_accepted value receipt (Err why) posts tables sound told tells = tt

      -- there was no room for its step
      pub not_posted : {A : Type 0} (judged : Refusal → Type 0) (r : Result A Refusal) → IsUnopposed judged → IfErr r (λ why. (why ≡ Memory) × (new ≡ mid)) → IfErr r (λ why. IsRefused g old IsNoChange judged why new)
      not_posted judged (Ok p) unopposed is = tt
      not_posted judged (Err why) unopposed is =
          subst (λ (d : Posts T). IsRefused g old IsNoChange judged why d) (sym is.1)
          (subst (λ (e : Refusal). IsRefused g old IsNoChange judged e mid) (sym is.0) (refused_early IsNoChange judged Memory (works, same.1 ∙ works, same.2, unopposed)))

      cause_on : (judged : Refusal → Type 0) (why : Refusal) → IsUnopposed judged → Refuses g mid NoCause why new → Refuses g old judged why new
      cause_on judged Reopen memory cause = absurd (true≢false (sym cause.0 ∙ same.1 ∙ works))
      cause_on judged StoreFault memory cause =
          (works, cause.1, cause.2 ∙ ap one_more same.2, subst (λ (t : T). IsOpen (g.device t) → HasFailed (g.device t) (g.device new.tables)) same.0 cause.3, memory)
      cause_on judged Memory memory cause = (works, cause.1, cause.2 ∙ same.2, memory)
      cause_on judged _ memory cause = absurd cause.2

      leaves_on : (change : TableChange) → MayLeave g mid change new → MayLeave g old change new
      leaves_on change may =
          let adds = subst (λ (t : T). (rs : List Retained) → g.leaves t rs → g.leaves new.tables (changed (standing mid.posted).kept change ∷ rs)) same.0 may.adds in
          record {
            follows = subst (λ (steps : List Step). CanChange (standing steps).kept change) more.posted may.follows;
            adds = subst (λ (steps : List Step). (rs : List Retained) → g.leaves old.tables rs → g.leaves new.tables (changed (standing steps).kept change ∷ rs)) more.posted adds;
            holds = λ sound. subst (λ (steps : List Step). g.holds new.tables (standing steps).kept) more.posted (may.holds sound);
          }

      touches_on : (made : TableChange → Type 0) (change : TableChange) → made change → Touches g mid (λ c. c ≡ change) new → Touches g old made new
      touches_on made change asked (leaves_alone alone) = leaves_alone (alone ∙ same.0)
      touches_on made change asked (adds_one c is may) = adds_one c (subst made (sym is) asked) (leaves_on c may)

      refused_on : (made : TableChange → Type 0) (change : TableChange) (judged : Refusal → Type 0) (why : Refusal) → made change → IsUnopposed judged
          → IsRefused g mid (λ c. c ≡ change) NoCause why new → IsRefused g old made judged why new
      refused_on made change judged why asked memory refused =
          record {
            shows = shows_on refused.shows;
            cause = cause_on judged why memory refused.cause;
            touches = touches_on made change asked refused.touches;
            settled = refused.settled;
            lasts = subst (λ (t : T). Lasts (g.device t) (g.device new.tables)) same.0 refused.lasts;
          }

      -- it could not be stored
      pub refuses_on : {A : Type 0} (made : TableChange → Type 0) (change : TableChange) (judged : Refusal → Type 0) (r : Result A Refusal) → made change → IsUnopposed judged
          → IfErr r (λ why. IsRefused g mid (λ c. c ≡ change) NoCause why new) → IfErr r (λ why. IsRefused g old made judged why new)
      refuses_on made change judged (Ok a) asked memory refused = tt
      refuses_on made change judged (Err why) asked memory refused = refused_on made change judged why asked memory refused

      module _ (zookie : Zookie) (accepted : floor_cause (standing mid.posted) zookie ≡ Option.None) where
        still_fits : floor_cause (standing old.posted) zookie ≡ Option.None
        still_fits = subst (λ (steps : List Step). floor_cause (standing steps) zookie ≡ Option.None) more.posted accepted

        -- the floor was raised
        pub trim_accepted : {A : Type 0} (value : A → ℕ) (receipt : A → ReceiptFacts) (r : Result A Refusal) → (standing mid.posted).kept.floor < zookie.rev
            → OnOk r (PostsStep mid (Trim zookie.rev) new) → OnOk r (IsStored g mid new) → IfOk r (λ p. value p ≡ (standing new.posted).kept.floor) → IfOk r (λ p. TellsShown (receipt p) new)
            → IfOk r (λ p. TrimAccepted g old zookie (value p) (receipt p) new)
        trim_accepted value receipt (Ok p) above posts stored told tells =
            record {
              works = works;
              accepted = still_fits;
              done = trim_raises (subst (λ (steps : List Step). (standing steps).kept.floor < zookie.rev) more.posted above) (posts_on (Trim zookie.rev) posts) (stored_on stored);
              told = told;
              tells = tells;
            }
        trim_accepted value receipt (Err why) above posts stored told tells = tt

        -- it could not be stored
        pub trim_refused : {A : Type 0} (r : Result A Refusal) → IfErr r (λ why. IsRefused g mid (λ c. c ≡ Raises zookie.rev) NoCause why new)
            → IfErr r (λ why. IsRefused g old (IsRaiseTo (standing old.posted) zookie) (RefusesFloor (standing old.posted) zookie) why new)
        trim_refused r refused = refuses_on (IsRaiseTo (standing old.posted) zookie) (Raises zookie.rev) (RefusesFloor (standing old.posted) zookie) r (still_fits, refl) (unlike still_fits) refused
