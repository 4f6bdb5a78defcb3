-- What connections do to the machine that answers their calls.
use Rattle.std.specs.Prelude.{ℕ, ◌≡◌, ◌⊎◌, List, [], ◌∷◌, length, Option, ⊤}
use Rattle.std.specs.Iterator.{Drains}
use Rattle.answers.specs.declared.end.End.{End}
use Rattle.answers.specs.declared.end.End.TheVariants.{Closed, Broken, ReadFault, WriteFault, Memory}
use Rattle.answers.specs.Machine.{Step}
use Rattle.http_api.specs.Connection.{Next, stop, Text}

-- some input has a text, whose calls take the machine from s to t; this then becomes of the connection
pub record HasText {S : Type 0} (step : Step S) (s : S) (next : Next) (t : S) : Type 0 where
  pub input : List ℕ
  pub text : List ℕ
  pub is_text : Text step s input text t next

-- A connection that ended so took the machine from s to t. Where a read failed, each whole request was answered, as if the
-- input had ended there; where a write failed, some first requests were. Where there was no memory for its buffers none was.
abbrev pub Attended : {S : Type 0} → Step S → S → End → S → Type 0
Attended step s ReadFault t = HasText step s (stop Closed) t ⊎ HasText step s (stop Broken) t
Attended step s WriteFault t = (next : Next) × HasText step s next t
Attended step s Memory t = (t ≡ s) ⊎ HasText step s (stop Memory) t
Attended step s end t = HasText step s (stop end) t

-- connections that ended so, the last one first, took it from s to t, each from where the one before left it
abbrev pub OneByOne : {S : Type 0} → (S → End → S → Type 0) → S → List End → S → Type 0
OneByOne took s [] t = t ≡ s
OneByOne {S} took s (end ∷ ends) t = (mid : S) × OneByOne took s ends mid × took mid end t

-- each connection that the queue gave, until it gave no more, was served, one after another
abbrev pub ServesEach : {Q X S : Type 0} → (Q → Option X → Q → Type 0) → (S → End → S → Type 0) → Q → S → S → Type 0
ServesEach {Q} {X} gives took queue s t =
    (streams : List X) × (ends : List End) × Drains gives queue streams × (length ends ≡ length streams) × OneByOne took s ends t

-- connections took it from s on, one after another, and then it left this
abbrev pub ServedUntil : {S L : Type 0} → (S → End → S → Type 0) → (S → L → Type 0) → S → L → Type 0
ServedUntil {S} took left s l = (ends : List End) × (t : S) × OneByOne took s ends t × left t l

-- so it is of each pair, in order, and there are as many of both
abbrev pub Pairs : {A B : Type 0} → (A → B → Type 0) → List A → List B → Type 0
Pairs is [] [] = ⊤
Pairs is (a ∷ more) (b ∷ others) = is a b × Pairs is more others
Pairs is _ _ = ⊥
