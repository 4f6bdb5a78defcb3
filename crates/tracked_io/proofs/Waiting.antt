-- Reads, one after another.
use Rattle.std.proofs.Common.{◌≡◌, ℕ, ◌++◌, List, [], ◌∷◌, refl, sym, ap, ◌∙◌, subst, append_assoc, append-nil}
use Rattle.std.specs.Prelude.{Option}
use Rattle.std.proofs.KnownBytes.{Consumes-nil, Consumes-trans}
use Rattle.tracked_io.specs.Tracking.{TrackedReading, Reads, AtEachRead}
use Rattle.tracked_io.specs.Wrote.{Taken}
use Rattle.tracked_io.specs.Waiting.{OneRead, with_read, given, Gave, HoldsAtEach, Waited}

given_both : (xs ys : List OneRead) → given (xs ++ ys) ≡ given xs ++ given ys
given_both [] ys = refl
given_both (x ∷ xs) ys = ap (λ bytes. x.gave ++ bytes) (given_both xs ys) ∙ sym (append_assoc x.gave (given xs) (given ys))

pub gave_none : (reads : List OneRead) → Gave reads reads []
gave_none reads = ([], sym (append-nil reads), refl)

pub gave_both : (a b c : List OneRead) (xs ys : List ℕ) → Gave a b xs → Gave b c ys → Gave a c (xs ++ ys)
gave_both a b c xs ys g h = (
  g.0 ++ h.0,
  h.1 ∙ ap (λ rs. rs ++ h.0) g.1 ∙ append_assoc a g.0 h.0,
  given_both g.0 h.0 ∙ ap (λ bytes. bytes ++ given h.0) g.2 ∙ ap (λ bytes. xs ++ bytes) h.2,
)

module _ (P : List ℕ → Taken → Type 0) where
  holds_both : (input : List ℕ) (xs ys : List OneRead) → HoldsAtEach P input xs → HoldsAtEach P (input ++ given xs) ys → HoldsAtEach P input (xs ++ ys)
  holds_both input [] ys h k = subst (λ (i : List ℕ). HoldsAtEach P i ys) (append-nil input) k
  holds_both input (x ∷ xs) ys h k = (h.0, holds_both (input ++ x.gave) xs ys h.1 (subst (λ (i : List ℕ). HoldsAtEach P i ys) (sym (append_assoc input x.gave (given xs))) k))

  -- what follows some bytes, from behind them
  holds_behind : (before input : List ℕ) (xs : List OneRead) → HoldsAtEach (λ i h. P (before ++ i) h) input xs → HoldsAtEach P (before ++ input) xs
  holds_behind before input [] h = tt
  holds_behind before input (x ∷ xs) h = (h.0, subst (λ (i : List ℕ). HoldsAtEach P i xs) (sym (append_assoc before input x.gave)) (holds_behind before (input ++ x.gave) xs h.1))

  pub waited_none : (reads : List OneRead) → Waited P reads reads []
  waited_none reads = record { more = []; grown = sym (append-nil reads); gives = refl; held = tt }

  pub waited_both : (a b c : List OneRead) (xs ys : List ℕ) → Waited P a b xs → Waited (λ i h. P (xs ++ i) h) b c ys → Waited P a c (xs ++ ys)
  waited_both a b c xs ys v w = record {
    more = v.more ++ w.more;
    grown = w.grown ∙ ap (λ rs. rs ++ w.more) v.grown ∙ append_assoc a v.more w.more;
    gives = given_both v.more w.more ∙ ap (λ bytes. bytes ++ given w.more) v.gives ∙ ap (λ bytes. xs ++ bytes) w.gives;
    held = holds_both [] v.more w.more v.held (subst (λ (i : List ℕ). HoldsAtEach P i w.more) (append-nil xs ∙ sym v.gives) (holds_behind xs [] w.more w.held));
  }

  -- one read more
  pub waited_more : (a b c : List OneRead) (input : List ℕ) (held : Taken) (gave : List ℕ) → Waited P a b input → c ≡ with_read b held gave → P input held → Waited P a c (input ++ gave)
  waited_more a b c input held gave w e here =
      waited_both a b c input gave w (record { more = (record { held = held; gave = gave }) ∷ []; grown = e; gives = append-nil gave; held = (subst (λ (i : List ℕ). P i held) (sym (append-nil input)) here, tt) })

  -- one read more, which gave nothing
  pub waited_still : (a b c : List OneRead) (input : List ℕ) (held : Taken) (gave : List ℕ) → Waited P a b input → c ≡ with_read b held gave → gave ≡ [] → P input held → Waited P a c input
  waited_still a b c input held gave w e none here =
      subst (λ (i : List ℕ). Waited P a c i) (ap (λ bytes. input ++ bytes) none ∙ append-nil input) (waited_more a b c input held gave w e here)

  pub gave_waited : (a b : List OneRead) (input : List ℕ) → Waited P a b input → Gave a b input
  gave_waited a b input w = (w.more, w.grown, w.gives)

  pub at_each_waited : {R : Type 0} (old new : TrackedReading R) (input : List ℕ) → Waited P old.reads new.reads input → AtEachRead P old new
  at_each_waited old new input w = (w.more, w.grown, w.held)

-- the same of what follows from it
holds_as : (P Q : List ℕ → Taken → Type 0) → ((i : List ℕ) (h : Taken) → P i h → Q i h) → (input : List ℕ) (xs : List OneRead) → HoldsAtEach P input xs → HoldsAtEach Q input xs
holds_as P Q f input [] h = tt
holds_as P Q f input (x ∷ xs) h = (f input x.held h.0, holds_as P Q f (input ++ x.gave) xs h.1)

pub waited_as : (P Q : List ℕ → Taken → Type 0) → ((i : List ℕ) (h : Taken) → P i h → Q i h) → (a b : List OneRead) (input : List ℕ) → Waited P a b input → Waited Q a b input
waited_as P Q f a b input w = record { more = w.more; grown = w.grown; gives = w.gives; held = holds_as P Q f [] w.more w.held }

module _ {R : Type 0} (remaining : R → Option (List ℕ)) where
  pub reads_none : (at : TrackedReading R) → Reads remaining at at []
  reads_none at = (Consumes-nil _, gave_none at.reads)

  pub reads_both : (a b c : TrackedReading R) (xs ys : List ℕ) → Reads remaining a b xs → Reads remaining b c ys → Reads remaining a c (xs ++ ys)
  reads_both a b c xs ys g h = (Consumes-trans _ _ _ xs ys g.0 h.0, gave_both a.reads b.reads c.reads xs ys g.1 h.1)
