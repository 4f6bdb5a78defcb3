-- A number that falls while a tree is made.
use Rattle.std.proofs.Common.{◌≡◌, ℕ, zero, suc, ◌+◌, ◌*◌, ◌<◌, ◌≤◌, List, [], ◌∷◌, length, get_or, arith, ap}
use Rattle.std.specs.Prelude.{Contains}
use Rattle.expand.specs.inside.Walking.{all_nodes}
use Rattle.std.proofs.Common.{⊎_elim}
use Rattle.meaning.specs.Config.{Defined}
use Rattle.meaning.proofs.Lists.{contains_cases, contains_none}
use Rattle.config_text.specs.declared.rewrite.Rewrite.{Rewrite}
use Rattle.config_text.specs.Forms.{form_of, rewrite_forms}
use Rattle.config_text.specs.Size.{form_nodes, forms_nodes}

-- more than three times the nodes of each rewrite
abbrev pub step_of : List Defined → ℕ
step_of ds = 3 * all_nodes ds + 1

-- a step for each node that may be opened
abbrev pub steps : ℕ → ℕ → ℕ
steps step zero = 0
steps step (suc left) = steps step left + step

pub part_smaller : (parts : List Rewrite) (i : ℕ) (x : Rewrite) → i < length parts → x ≡ get_or parts i x → form_nodes (form_of x) ≤ forms_nodes (rewrite_forms parts)
part_smaller [] i x lt is = absurd (omega (arith, lt))
part_smaller (w ∷ ws) zero x lt is = let same : form_nodes (form_of x) ≡ form_nodes (form_of w) = ap (λ r. form_nodes (form_of r)) is in omega (arith, same)
part_smaller (w ∷ ws) (suc i) x lt is = let rest = part_smaller ws i x (omega (arith, lt)) is in omega (arith, rest)

pub within_all : (ds : List Defined) (d : Defined) → Contains ds d → form_nodes d.form ≤ all_nodes ds
within_all [] d c = absurd (contains_none d c)
within_all (e ∷ es) d c =
    ⊎_elim (λ same. let nodes : form_nodes e.form ≡ form_nodes d.form = ap (λ (x : Defined). form_nodes x.form) same in omega (arith, nodes))
    (λ later. let rest = within_all es d later in omega (arith, rest)) (contains_cases e d es c)
