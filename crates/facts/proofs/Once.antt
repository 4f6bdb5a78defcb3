-- Views are valid snapshots.
use Rattle.std.proofs.Common.{◌≡◌, List, [], ◌∷◌, map, true≢false, sym, ap, subst, ◌∙◌, ⊎_elim, Less, Equal}
use Rattle.std.specs.Prelude.{Contains}
use Rattle.std.specs.List.{AllByRecursion}
use Rattle.std.specs.List.Sorted.{IsStrictlySortedBy}
use Rattle.std.specs.Ordering.{is_lt}
use Rattle.names.specs.declared.relation.RelationName.{RelationName}
use Rattle.meaning.specs.Snap.{Snap}
use Rattle.meaning.specs.Config.{Configured, Defined, Step}
use Rattle.meaning.specs.Levels.{IsLevel}
use Rattle.meaning.specs.Reads.{IsValid}
use Rattle.meaning.proofs.AdmitsLemmas.{told_admitted}
use Rattle.meaning.proofs.Lists.{contains_cases, contains_none}
use Rattle.meaning.proofs.TupleSets.{contains_iff}
use Rattle.config_text.specs.Order.{relation_cmp, IsOrdered}
use Rattle.config.specs.Valid as config
use Rattle.config.proofs.Distinct.{same_relation}
use Rattle.rows.specs.Retained.{AreAdmitted}

abbrev rels : List Defined → List RelationName
rels ds = map (λ d. d.rel) ds

unlike : Less ≡ Equal → ⊥
unlike e = absurd (true≢false (ap is_lt e))

-- a name below each of some relations is that of none of them
apart : (r : RelationName) (ds : List Defined) → AllByRecursion (λ y. relation_cmp r y ≡ Less) (rels ds) → (d : Defined) → Contains ds d → r ≡ d.rel → ⊥
apart r [] below d c e = contains_none d c
apart r (x ∷ ds) below d c e = ⊎_elim
    (λ here. unlike (sym below.0 ∙ ap (relation_cmp r) (ap (λ (z : Defined). z.rel) here ∙ sym e) ∙ same_relation r))
    (λ later. apart r ds below.1 d later e)
    (contains_cases x d ds c)

rising_once : (ds : List Defined) → IsStrictlySortedBy relation_cmp (rels ds) → (d e : Defined) → Contains ds d → Contains ds e → d.rel ≡ e.rel → d ≡ e
unfolding IsStrictlySortedBy
rising_once [] up d e cd ce same = absurd (contains_none d cd)
rising_once (x ∷ ds) up d e cd ce same = ⊎_elim
    (λ d_here. ⊎_elim (λ e_here. sym d_here ∙ e_here) (λ e_later. absurd (apart x.rel ds up.0 e e_later (ap (λ (z : Defined). z.rel) d_here ∙ same))) (contains_cases x e ds ce))
    (λ d_later. ⊎_elim (λ e_here. absurd (apart x.rel ds up.0 d d_later (ap (λ (z : Defined). z.rel) e_here ∙ sym same))) (λ e_later. rising_once ds up.1 d e d_later e_later same) (contains_cases x e ds ce))
    (contains_cases x d ds cd)

pub valid_view : (S : Snap) (c : Configured) → c ≡ S.config → config.IsValid c → IsOrdered c → AreAdmitted S → IsValid S
valid_view S c view valid ordered admitted =
    let up : IsOrdered S.config = subst IsOrdered view ordered in
    let good : config.IsValid S.config = subst config.IsValid view valid in
    record {
      once = λ r d e one other. rising_once S.config.relations up.relations d e one.0 other.0 (one.1 ∙ sym other.1);
      levels = λ r has. let level = good.levels has.0 has.1.0 in (level.0, subst (λ (q : RelationName). IsLevel (Step S.config) q level.0) has.1.1 level.1);
      admitted = λ t c. told_admitted S.config t (admitted t ((contains_iff S.tuples t).1 c));
    }
