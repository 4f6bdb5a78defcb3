-- The names of a configuration's relations are distinct.
use Rattle.std.proofs.Common.{◌≡◌, ℕ, ◌<◌, List, length, get_or, ap, ◌∙◌, sym, subst, refl, arith, ⊎_elim}
use Rattle.std.specs.Prelude.{map}
use Rattle.std.specs.Ordering.{ordering_then, ordering_reverse}
use Rattle.std.specs.declared.cmp.Ordering.{Ordering}
use Rattle.std.specs.declared.cmp.Ordering.TheVariants.{Less, Equal, Greater}
use Rattle.std.specs.Cmp.Lexicographic.{nat_list_cmp_total}
use Rattle.std.proofs.lemmas.Bool.{cases_lt}
use Rattle.std.proofs.lemmas.List.{get_or-map, length-map}
use Rattle.std.proofs.lemmas.Map.Keys.{Less-from_sorted}
use Rattle.names.specs.declared.relation.RelationName.{RelationName}
use Rattle.meaning.specs.Config.{Configured, Defined}
use Rattle.config_text.specs.Order.{name_cmp, relation_cmp, IsOrdered}
use Rattle.config.specs.inside.Graph.{nowhere, name_at}

turned : (o : Ordering) → o ≡ ordering_reverse o → o ≡ Equal
turned Less e = cc
turned Equal e = refl
turned Greater e = cc

same_name : (n : List ℕ) → name_cmp n n ≡ Equal
same_name n = turned (name_cmp n n) (nat_list_cmp_total.antisymm n n)

pub same_relation : (r : RelationName) → relation_cmp r r ≡ Equal
same_relation r = ap (λ o. ordering_then o (name_cmp r.relation r.relation)) (same_name r.namespace) ∙ same_name r.relation

not_before : (c : Configured) → IsOrdered c → (i j : ℕ) → i < j → j < length c.relations → name_at c i ≡ name_at c j → ⊥
not_before c ordered i j less lt same =
    let names = map (λ (d : Defined). d.rel) c.relations in
    let long : length names ≡ length c.relations = length-map c.relations (λ (d : Defined). d.rel) in
    let sorted : relation_cmp (get_or names i nowhere.rel) (get_or names j nowhere.rel) ≡ Less = Less-from_sorted relation_cmp names i j nowhere.rel ordered.relations less (omega (arith, long, lt)) in
    let at_i : get_or names i nowhere.rel ≡ name_at c i = get_or-map (λ (d : Defined). d.rel) c.relations i nowhere nowhere.rel (omega (arith, less, lt)) in
    let at_j : get_or names j nowhere.rel ≡ name_at c j = get_or-map (λ (d : Defined). d.rel) c.relations j nowhere nowhere.rel lt in
    let twice : relation_cmp (name_at c j) (name_at c j) ≡ Less = subst (λ r. relation_cmp r (name_at c j) ≡ Less) same (subst (λ r. relation_cmp r (name_at c j) ≡ Less) at_i (subst (λ r. relation_cmp (get_or names i nowhere.rel) r ≡ Less) at_j sorted)) in
    no (sym twice ∙ same_relation (name_at c j))
  where
    no : Less ≡ Equal → ⊥
    no e = cc

pub names_apart : (c : Configured) → IsOrdered c → (i j : ℕ) → i < length c.relations → j < length c.relations → name_at c i ≡ name_at c j → i ≡ j
names_apart c ordered i j lt_i lt_j same = ⊎_elim
    (λ less. absurd (not_before c ordered i j less lt_j same))
    (λ le. ⊎_elim (λ less. absurd (not_before c ordered j i less lt_i (sym same))) (λ ge. omega (arith, le, ge)) (cases_lt j i))
    (cases_lt i j)
