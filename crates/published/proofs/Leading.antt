-- What a publication leaves of the way from the published list to the front.
use Rattle.std.proofs.lemmas.List.{append-nil}
use Rattle.std.proofs.lemmas.List.Elements.{All-tail}
use Rattle.std.proofs.Common.{◌≡◌, ◌↔◌, ◌<◌, ◌≤◌, ◌+◌, ◌-◌, All, ℕ, Bool, false, IsTrue, length, length-append, arith, List, [], ◌∷◌, ◌++◌, fold, refl, ap, sym, ◌∙◌, subst, Option, Some, None, option_to_list}
use Rattle.logbook.specs.Pages.{Book}
use Rattle.shown.specs.declared.step.Step.{Step}
use Rattle.published.specs.Known.{Known, next_of, Begins}
use Rattle.published.specs.Judged.{AreJudged}
use Rattle.published.specs.Copies.{Copy, Posted, absorbed, Stands, Chain}
use Rattle.published.specs.Writing.{Writing}
use Rattle.published.specs.Invariant.{Leads}
use Rattle.published.specs.Publishing.{ShowsMoreOf}
use Rattle.published.proofs.Prefixes.{prefix_trans}
use Rattle.published.proofs.Judging.{judged_between}
use Rattle.published.proofs.Chains.{chain_stands, chain_done, chain_goes_on, chain_begins, chain_moves, chain_length}

module _ (b : Book) (front : Known) (p q : Writing Copy Posted) (stuck : Option Posted) (leads : Leads b front p stuck) where
  -- all that waited at the writer was published
  pub ok_leads : AreJudged front.steps → q.published ≡ fold absorbed p.published p.waiting → q.waiting ≡ [] → q.told ≡ Some q.published.prefix → Leads b front q stuck
  ok_leads judged is none told =
      let rest : Chain (fold absorbed p.published p.waiting).prefix (option_to_list stuck) front = chain_done (option_to_list stuck) front p.published p.waiting leads.chain in
      let here : Chain q.published.prefix (option_to_list stuck) front = subst (λ (c : Copy). Chain c.prefix (option_to_list stuck) front) (sym is) rest in
      record {
        of_book = leads.of_book;
        chain = subst (λ (w : List Posted). Chain q.published.prefix (w ++ option_to_list stuck) front) (sym none) here;
        told = told;
        stands = subst Stands (sym is) (chain_stands (option_to_list stuck) front p.published p.waiting leads.chain judged leads.stands);
      }

  pub ok_later : q.published ≡ fold absorbed p.published p.waiting → Begins p.published.prefix q.published.prefix
  ok_later is = subst (λ (c : Copy). Begins p.published.prefix c.prefix) (sym is) (chain_goes_on (option_to_list stuck) front p.published p.waiting leads.chain)

  -- where nothing waits, the published list is the front
  pub all_shown : p.waiting ≡ [] → stuck ≡ None → p.published.prefix ≡ front
  all_shown none free =
      let a : Chain p.published.prefix ([] ++ option_to_list stuck) front = subst (λ (w : List Posted). Chain p.published.prefix (w ++ option_to_list stuck) front) none leads.chain in
      subst (λ (s : Option Posted). Chain p.published.prefix ([] ++ option_to_list s) front) free a

  -- the published list begins the front
  pub shown_begins : Begins p.published.prefix front
  shown_begins = chain_begins p.published.prefix (p.waiting ++ option_to_list stuck) front leads.chain

  -- it is of the book
  pub shown_book : p.published.prefix.book ≡ b
  shown_book = shown_begins.0 ∙ leads.of_book

-- the next post is made
pub made : (b : Book) (front front' : Known) (p q : Writing Copy Posted) (stuck stuck' : Option Posted) (post : Posted) → Leads b front p stuck
    → q.waiting ++ option_to_list stuck' ≡ p.waiting ++ option_to_list stuck → (q.published ≡ p.published) × (q.told ≡ p.told) → stuck' ≡ None
    → (post.after ≡ front') × (front' ≡ next_of front post.step) → Leads b front' q (Some post)
made b front front' p q stuck stuck' post leads order same none some =
    record {
      of_book = ap (λ (k : Known). k.book) some.1 ∙ leads.of_book;
      chain = subst (λ (k : Known). Chain q.published.prefix (q.waiting ++ post ∷ []) k) some.0
          (chain_moves p.published.prefix q.published.prefix p.waiting q.waiting stuck stuck' front post leads.chain (ap (λ (c : Copy). c.prefix) same.0) order none (some.0 ∙ some.1));
      told = same.1 ∙ leads.told ∙ ap (λ (c : Copy). Some c.prefix) (sym same.0);
      stands = subst Stands (sym same.0) leads.stands;
    }

-- the posts at the front lead somewhere on the way
chain_part : (k : Known) (posts more : List Posted) (end : Known) → Chain k (posts ++ more) end → (m : Known) × Chain k posts m × Chain m more end
chain_part k [] more end chain = (k, refl, chain)
chain_part k (p ∷ posts) more end chain = let rest = chain_part p.after posts more end chain.1 in (rest.0, (chain.0, rest.1), rest.2)

module _ (b : Book) (entered : Known) (p : Writing Copy Posted) (stuck : Option Posted) (leads : Leads b entered p stuck) where
  -- what was entered was judged, as all that was posted
  pub entered_judged : (backlog : List Step) → AreJudged (entered.steps ++ backlog) → AreJudged entered.steps
  entered_judged backlog judged =
      judged_between p.published.prefix.steps entered.steps (entered.steps ++ backlog) leads.stands.1 (shown_begins b entered p p stuck leads).1 (backlog, refl) judged

  -- so was what the writer publishes next
  pub waiting_judged : (backlog : List Step) → AreJudged (entered.steps ++ backlog) → (m : Known) × Chain p.published.prefix p.waiting m × AreJudged m.steps
  waiting_judged backlog judged =
      let part = chain_part p.published.prefix p.waiting (option_to_list stuck) entered leads.chain in
      let from = chain_begins p.published.prefix p.waiting part.0 part.1 in
      let to = chain_begins part.0 (option_to_list stuck) entered part.2 in (
        part.0,
        part.1,
        judged_between p.published.prefix.steps part.0.steps entered.steps leads.stands.1 from.1 to.1 (entered_judged backlog judged),
      )

-- a publication as its callers see it
pub shows_more : (b : Book) (n room room' : ℕ) (front front' : Known) (backlog backlog' : List Step) (p q : Writing Copy Posted) (stuck' : Option Posted)
    → Leads b front' q stuck' → AreJudged (front.steps ++ backlog) → front'.steps ++ backlog' ≡ front.steps ++ backlog → Begins p.published.prefix q.published.prefix → room ≤ room'
    → ShowsMoreOf (record { book = b; posted = front.steps ++ backlog; shown = p.published.prefix.steps; seats = n; room = room })
    (record { book = b; posted = front'.steps ++ backlog'; shown = q.published.prefix.steps; seats = n; room = room' })
shows_more b n room room' front front' backlog backlog' p q stuck' leads judged posted later more =
    record {
      posted = posted;
      book = refl;
      later = later.1;
      beginning = prefix_trans q.published.prefix.steps front'.steps (front'.steps ++ backlog') (shown_begins b front' q q stuck' leads).1 (backlog', refl);
      judged = record { posted_were = subst AreJudged (sym posted) judged; shown_were = leads.stands.1 };
      seats = refl;
      room = more;
    }

module _ (b : Book) (entered : Known) (p : Writing Copy Posted) (stuck : Option Posted) (backlog : List Step) (leads : Leads b entered p stuck) where
  -- where all is shown, nothing waits
  pub none_waits : p.published.prefix.steps ≡ entered.steps ++ backlog → (length p.waiting ≡ 0) × (length (option_to_list stuck) ≡ 0) × (length backlog ≡ 0)
  none_waits all =
      let long : length entered.steps ≡ length p.published.prefix.steps + length (p.waiting ++ option_to_list stuck) = chain_length p.published.prefix (p.waiting ++ option_to_list stuck) entered leads.chain in
      let same : length p.published.prefix.steps ≡ length entered.steps + length backlog = ap length all ∙ length-append entered.steps backlog in
      let parts : length (p.waiting ++ option_to_list stuck) ≡ length p.waiting + length (option_to_list stuck) = length-append p.waiting (option_to_list stuck) in
      (omega (arith, long, same, parts), omega (arith, long, same, parts), omega (arith, long, same, parts))

  is_none : (s : Option Posted) → length (option_to_list s) ≡ 0 → s ≡ None
  is_none None e = refl
  is_none (Some post) e = absurd (omega (arith, e))

  is_empty : {A : Type 0} (xs : List A) → length xs ≡ 0 → xs ≡ []
  is_empty [] e = refl
  is_empty (x ∷ xs) e = absurd (omega (arith, e))

  -- where the writer has nothing left, all is shown exactly where nothing waits before it
  pub shown_where_done : (done : Bool) → p.waiting ≡ [] → (IsTrue done ↔ ((stuck ≡ None) × (backlog ≡ []))) → IsTrue done ↔ (p.published.prefix.steps ≡ entered.steps ++ backlog)
  shown_where_done done none is = (
    λ yes. let free = is.0 yes in
        ap (λ (k : Known). k.steps) (all_shown b entered p p stuck leads none free.0) ∙ (sym (append-nil entered.steps) ∙ ap (λ (xs : List Step). entered.steps ++ xs) (sym free.1)),
    λ all. let w = none_waits all in is.1 (is_none stuck w.1, is_empty backlog w.2),
  )

  -- where the writer has something left, not all is shown
  pub not_all_shown : 0 < length p.waiting → ¬ (p.published.prefix.steps ≡ entered.steps ++ backlog)
  not_all_shown some all = omega (arith, some, (none_waits all).0)

  -- so it is where the publication stayed as it was
  pub not_shown_where_left : (q : Writing Copy Posted) (w : Bool) → q ≡ p → IsTrue w → (IsTrue w ↔ (0 < length p.waiting)) → IsTrue false ↔ (q.published.prefix.steps ≡ entered.steps ++ backlog)
  not_shown_where_left q w same waits is = (
    λ yes. absurd (cc yes),
    λ all. absurd (not_all_shown (is.0 waits) (subst (λ (x : Writing Copy Posted). x.published.prefix.steps ≡ entered.steps ++ backlog) same all)),
  )

-- nothing is left where the test says so
pub none_left : {A : Type 0} (w : Bool) (xs : List A) → w ≡ false → (IsTrue w ↔ (0 < length xs)) → xs ≡ []
none_left w [] off is = refl
none_left w (x ∷ xs) off is = absurd (cc (off, is.1 (omega arith)))

-- as many places are left, where no more steps wait in as much room
pub room_left : (c c' n n' : ℕ) → c' ≡ c → n' ≤ n → c - n ≤ c' - n'
room_left c c' n n' same fewer = omega (arith, same, fewer)

-- what holds of all holds of all after the first
pub all_after_first : {A : Type 0} (P : A → Type 0) (o : Option A) (xs ys : List A) → xs ≡ option_to_list o ++ ys → All P xs → All P ys
all_after_first P None xs ys is all = subst (λ l. All P l) is all
all_after_first P (Some x) xs ys is all = All-tail P x ys (subst (λ l. All P l) is all)
