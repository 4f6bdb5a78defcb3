-- Each step keeps the rule over the published copy.
use Rattle.std.proofs.Common.{◌≡◌, ◌≢◌, ℕ, List, [], ◌∷◌, ◌++◌, set, Option, Some, None, refl, ◌∙◌, subst, ⊎_elim}
use mathlib.Core.Option.{some}
use lib.ListN.{get_elem?}
use Rattle.left_right.specs.Register.{Admits, TurnsAt, Turns, Forks, Merges}
use Rattle.atomic_table.proofs.Lists.{at_set, at_snoc}
use Rattle.published.specs.Known.{Known, Begins}
use Rattle.published.specs.Copies.{Copy, Stands, KnowsNoMore, Keeps, Sees}
use Rattle.published.specs.Writing.{KeepsRule}
use Rattle.published.proofs.Prefixes.{prefix_self, prefix_trans}

pub begins_self : (k : Known) → Begins k k
begins_self k = (refl, prefix_self k.steps)

pub begins_trans : (k l m : Known) → Begins k l → Begins l m → Begins k m
begins_trans k l m p q = (p.0 ∙ q.0, prefix_trans k.steps l.steps m.steps p.1 q.1)

pub knows_on : (v : Option Known) (l m : Known) → KnowsNoMore v l → Begins l m → KnowsNoMore v m
knows_on None l m p q = tt
knows_on (Some k) l m p q = begins_trans k l m p q

-- what the rule says of each view
abbrev All : List (Option Known) → Known → Type 0
All views l = (seat : ℕ) (v : Option Known) → get_elem? views seat ≡ some v → KnowsNoMore v l

all_set : (views : List (Option Known)) (l : Known) (seat : ℕ) (w : Option Known) → All views l → KnowsNoMore w l → All (set views seat w) l
all_set views l seat w h mine j u e =
    ⊎_elim (λ (t : (j ≡ seat) × (w ≡ u)). subst (λ (z : Option Known). KnowsNoMore z l) t.1 mine) (λ (t : (j ≢ seat) × (get_elem? views j ≡ some u)). h j u t.1) (at_set views seat j w u e)

all_snoc : (views : List (Option Known)) (l : Known) (w : Option Known) → All views l → KnowsNoMore w l → All (views ++ w ∷ []) l
all_snoc views l w h mine j u e = ⊎_elim (λ was. h j u was) (λ (same : w ≡ u). subst (λ (z : Option Known). KnowsNoMore z l) same mine) (at_snoc views w u j e)

-- a new reader knows nothing
pub admits : Admits Keeps None
admits x views h = (h.0, all_snoc views x.prefix None h.1 tt)

-- the list of the copy goes on, or stays
pub turns : (seat : ℕ) (v : Option Known) (x y : Copy) → (Stands x → Stands y) → Begins x.prefix y.prefix → TurnsAt Keeps seat v x y Sees
turns seat v x y stands on views h at =
    let later : All views y.prefix = λ j u e. knows_on u x.prefix y.prefix (h.1 j u e) on in
    let now : Stands y = stands h.0 in
    (Some y.prefix, (now, all_set views y.prefix seat (Some y.prefix) later (begins_self y.prefix)), (now, later seat v at, refl))

-- an entry finds the copy as it is
pub enters : (seat : ℕ) (v : Option Known) → Turns Keeps seat v (λ x. x) Sees
enters seat v x = turns seat v x x (λ s. s) (begins_self x.prefix)

pub forks : (seat : ℕ) (v : Option Known) → Forks Keeps seat v v v
forks seat v x views h at = (h.0, all_snoc (set views seat v) x.prefix v (all_set views x.prefix seat v h.1 (h.1 seat v at)) (h.1 seat v at))

pub merges : (seat : ℕ) (v : Option Known) (other : ℕ) (w : Option Known) → Merges Keeps seat v other w w None
merges seat v other w x views h at apart there =
    let theirs : KnowsNoMore w x.prefix =
    ⊎_elim (λ (t : (other ≡ seat) × (w ≡ w)). absurd (apart t.0)) (λ (t : (other ≢ seat) × (get_elem? views other ≡ some w)). h.1 other w t.1) (at_set views seat other w w there) in
    (h.0, all_set (set views seat w) x.prefix other None (all_set views x.prefix seat w h.1 theirs) tt)

pub keeps_rule : (told : Option Known) → KeepsRule Keeps None told
keeps_rule told = record { admits = admits; forks = λ seat. forks seat told; merges = λ seat other. merges seat None other told }
