-- Views are valid snapshots.
use Rattle.std.proofs.Common.{◌≡◌, ℕ, List, [], ◌∷◌, true, false, true≢false, map, refl, sym, ap, subst, ◌∙◌, ⊎_elim}
use Rattle.std.specs.Prelude.{Contains, slice_index}
use Rattle.std.specs.Ordering.{is_lt}
use Rattle.std.specs.Cmp.{IsTotalOrder}
use Rattle.std.specs.Cmp.Lexicographic.{nat_list_cmp_total}
use Rattle.std.specs.declared.cmp.Ordering.{Ordering}
use Rattle.std.specs.declared.cmp.Ordering.TheVariants.{Less, Equal, Greater}
use Rattle.std.proofs.lemmas.Bool.{and_parts}
use Rattle.std.proofs.lemmas.Cmp.{then_total, on_total}
use Rattle.names.specs.declared.relation.RelationName.{RelationName}
use Rattle.meaning.specs.Snap.{Snap}
use Rattle.meaning.specs.Config.{Configured, Defined, Step}
use Rattle.meaning.specs.Levels.{IsLevel}
use Rattle.meaning.specs.Reads.{IsValid}
use Rattle.meaning.proofs.AdmitsLemmas.{told_admitted}
use Rattle.meaning.proofs.Lists.{contains_cases, contains_none}
use Rattle.meaning.proofs.TupleSets.{contains_iff}
use Rattle.config_text.specs.declared.relation.Relation.{Relation}
use Rattle.config_text.specs.Forms.{defined_of}
use Rattle.config_text.specs.Order.{relation_cmp}
use Rattle.config.specs.Levels.{AreLevels}
use Rattle.config.proofs.Distinct.{same_relation}
use Rattle.rows.specs.Retained.{AreAdmitted}
use Rattle.expand.specs.inside.Rising.{is_below, is_rising}

total : IsTotalOrder relation_cmp
total = then_total (on_total (λ (r : RelationName). r.namespace) nat_list_cmp_total) (on_total (λ (r : RelationName). r.relation) nat_list_cmp_total)

is_less : (o : Ordering) → is_lt o ≡ true → o ≡ Less
is_less Less h = refl
is_less Equal h = absurd (true≢false (sym h))
is_less Greater h = absurd (true≢false (sym h))

unlike : Less ≡ Equal → ⊥
unlike e = absurd (true≢false (ap is_lt e))

-- a relation below the first of those that rise is below each
below_each : (r : RelationName) (first : Relation) (rs : List Relation) → relation_cmp r (defined_of first).rel ≡ Less → is_rising (first ∷ rs) ≡ true → (e : Defined) → Contains (map defined_of (first ∷ rs)) e → relation_cmp r e.rel ≡ Less
below_each r first [] less rising e c =
    ⊎_elim (λ here. subst (λ (x : Defined). relation_cmp r x.rel ≡ Less) here less) (λ later. absurd (contains_none e later)) (contains_cases (defined_of first) e [] c)
below_each r first (s ∷ ss) less rising e c =
    let parts = and_parts (is_below first (s ∷ ss)) (is_rising (s ∷ ss)) rising in
    ⊎_elim
    (λ here. subst (λ (x : Defined). relation_cmp r x.rel ≡ Less) here less)
    (λ later. below_each r s ss (total.trans r (defined_of first).rel (defined_of s).rel less (is_less (relation_cmp (defined_of first).rel (defined_of s).rel) parts.0)) parts.1 e later)
    (contains_cases (defined_of first) e (map defined_of (s ∷ ss)) c)

-- no relation of those that stand after it has its name
apart : (r : Relation) (rs : List Relation) → (is_below r rs ≡ true) × (is_rising rs ≡ true) → (e : Defined) → Contains (map defined_of rs) e → (defined_of r).rel ≡ e.rel → ⊥
apart r [] h e c same = contains_none e c
apart r (s ∷ ss) h e c same =
    let less = below_each (defined_of r).rel s ss (is_less (relation_cmp (defined_of r).rel (defined_of s).rel) h.0) h.1 e c in
    unlike (sym less ∙ ap (λ x. relation_cmp x e.rel) same ∙ same_relation e.rel)

rising_once : (rs : List Relation) → is_rising rs ≡ true → (d e : Defined) → Contains (map defined_of rs) d → Contains (map defined_of rs) e → d.rel ≡ e.rel → d ≡ e
rising_once [] h d e cd ce same = absurd (contains_none d cd)
rising_once (r ∷ rs) h d e cd ce same =
    let parts = and_parts (is_below r rs) (is_rising rs) h in
    ⊎_elim
    (λ d_here. ⊎_elim (λ e_here. sym d_here ∙ e_here) (λ e_later. absurd (apart r rs parts e e_later (ap (λ (x : Defined). x.rel) d_here ∙ same))) (contains_cases (defined_of r) e (map defined_of rs) ce))
    (λ d_later. ⊎_elim (λ e_here. absurd (apart r rs parts d d_later (ap (λ (x : Defined). x.rel) e_here ∙ sym same))) (λ e_later. rising_once rs parts.1 d e d_later e_later same) (contains_cases (defined_of r) e (map defined_of rs) ce))
    (contains_cases (defined_of r) d (map defined_of rs) cd)

pub valid_view : (S : Snap) (config : Configured) (rs : List Relation) (levels : List ℕ) → config ≡ S.config → map defined_of rs ≡ config.relations → is_rising rs ≡ true → AreLevels config levels → AreAdmitted S → IsValid S
valid_view S config rs levels view is rising are admitted =
    let same : map defined_of rs ≡ S.config.relations = is ∙ ap (λ (c : Configured). c.relations) view in
    let own : AreLevels S.config levels = subst (λ (c : Configured). AreLevels c levels) view are in
    record {
      once = λ r d e one other. rising_once rs rising d e (subst (λ (ds : List Defined). Contains ds d) (sym same) one.0) (subst (λ (ds : List Defined). Contains ds e) (sym same) other.0) (one.1 ∙ sym other.1);
      levels = λ r has. let c = has.1.0 in (slice_index levels c.0, subst (λ (q : RelationName). IsLevel (Step S.config) q (slice_index levels c.0)) has.1.1 (own.each c.0 has.0 c.1 c.2));
      admitted = λ t c. told_admitted S.config t (admitted t ((contains_iff S.tuples t).1 c));
    }
