-- How far a turn brings a search, and that each brings it further.
use Rattle.std.proofs.Common.{◌≡◌, ℕ, ◌<◌, ◌≤◌, ◌^◌, List, Bool, true, false, length, refl, ap, ◌∙◌, sym, subst, inl, inr, ⊎_elim, arith, true≢false}
use Rattle.std.specs.Prelude.{◌⊎◌, count_by}
use Rattle.names.specs.declared.node.Node.{Node}
use Rattle.decide.specs.declared.search.Search.{Search}
use Rattle.decide.specs.declared.search.Opened.{Opened}
use Rattle.decide.specs.inside.Searches.{Stands, IsNumberOf, Grew, IsFrame, IsLowest, sures}
use Rattle.decide.specs.inside.Ending.{left, left_on, progress, Turned}
use Rattle.decide.proofs.SearchLemmas.{grew_long}
use Rattle.decide.proofs.Settling.{same_opened}
use Rattle.decide.proofs.Counting.{sures_few}

pub turned_none : (s : Search) → Turned s s false
turned_none s = (refl, inr (refl, omega arith))

module _ (s m : Search) (grew : Grew s m) where
  left_same : m.stacks.items ≡ s.stacks.items → left m ≡ left s
  left_same stacks = ap (λ xs. left_on xs m.frames.items) stacks ∙ ap (λ fs. left_on s.stacks.items fs) grew.frames

  pub turned_no : Turned s m false
  turned_no = (
    grew.sures,
    ⊎_elim inl (λ (stacks, long). let is = left_same stacks in inr (long, omega (arith, is))) grew.rises,
  )

  pub turned_put : (t : Search) → t.opened.items ≡ m.opened.items → left t ≤ left m → Turned s t false
  turned_put t opened less =
      let long : length t.opened.items ≡ length m.opened.items = ap length opened in (
        ap (λ (xs : List Opened). count_by (λ e. e.sure) xs) opened ∙ grew.sures,
        ⊎_elim
            (λ more. inl (omega (arith, more, long)))
            (λ (stacks, same). let is = left_same stacks in inr (long ∙ same, omega (arith, is, less)))
            grew.rises,
      )

  module _ (n : ℕ) (e : Opened) (at : Stands s n e) where
    pub still_unsure : e.sure ≡ false → (f : Opened) → Stands m n f → f.sure ≡ false
    still_unsure unsure f here =
        let (g, stands, more) = grew.stands n e at in
        ap (λ (x : Opened). x.sure) (same_opened m n f g here stands) ∙ more.sure ∙ unsure

    pub still_lowest : IsLowest s n → IsLowest m n
    still_lowest low i f frame here stands =
        let (g, now, more) = grew.stands n e at in
        let level : f.level ≡ e.level = ap (λ (x : Opened). x.level) (same_opened m n f g here now) ∙ more.level in
        let less = low i e frame at (subst (λ fs. IsFrame fs i frame) grew.frames stands) in
        omega (arith, level, less)

  pub turned_given : (n : ℕ) (e : Opened) (t : Search) → Stands s n e → e.sure ≡ false → length t.opened.items ≡ length m.opened.items
      → ((f : Opened) → Stands m n f → f.sure ≡ false → sures m < sures t) → Turned s t true
  turned_given n e t at unsure long more =
      let (g, now, kept) = grew.stands n e at in
      let less = more g now (kept.sure ∙ unsure) in
      let same = grew.sures in
      let grown = grew_long s m grew in
      (omega (arith, grown, long), omega (arith, less, same))

pub its_level : (s : Search) (n k : ℕ) (m : Node) → IsNumberOf s n m k → (e : Opened) → Stands s n e → e.level ≡ k
its_level s n k m (f, at, node, level) e here = ap (λ (x : Opened). x.level) (same_opened s n e f here at) ∙ level

-- a turn that gave, or opened
pub turned_more : (s t : Search) (b : Bool) → Turned s t b → (b ≡ true) ⊎ (length s.opened.items < length t.opened.items) → progress s < progress t
turned_more s t true (long, more) why = omega (arith, long, more)
turned_more s t false (same, either) why = ⊎_elim (λ is. absurd (true≢false (sym is))) (λ more. omega (arith, same, more)) why

-- one that did neither
pub record WentOn (s t : Search) : Type 0 where
  pub known : sures t ≡ sures s
  pub long : length t.opened.items ≡ length s.opened.items
  pub ends : left t ≤ left s

pub turned_on : (s t : Search) (b : Bool) → Turned s t b → b ≡ false → length t.opened.items ≤ length s.opened.items → WentOn s t
turned_on s t true turned is few = absurd (true≢false is)
turned_on s t false (same, either) is few = ⊎_elim
    (λ more. absurd (omega (arith, more, few)))
    (λ (long, less). record { known = same; long = long; ends = less })
    either

pub progress_small : (s : Search) → length s.opened.items < 2 ^ 64 → progress s < 2 ^ 65
progress_small s few = let less = sures_few s in omega (arith, few, less)
