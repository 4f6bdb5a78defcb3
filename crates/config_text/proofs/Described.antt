-- What bytes describe is in order, and its rewrites have parts.
use Rattle.std.proofs.Common.{◌≡◌, ℕ, List, [], ◌∷◌, All, map, IsTrue, refl, sym, ap, subst, ◌∙◌, Contains}
use Rattle.meaning.specs.Config.{Configured, Defined}
use Rattle.config_text.specs.Size.{has_parts}
use Rattle.config_text.specs.Order.{IsOrdered}
use Rattle.config_text.specs.Keyed.{name_of, AreOrdered}
use Rattle.config_text.specs.Texts.{ConfigTexts}
use Rattle.config_text.specs.Spelling.{defined_texts, Spells}
use Rattle.config_text.specs.Reading.{Describes}
use Rattle.config_text.proofs.Whole.{IsWhole, config_whole, all_before}

pub described_parts : (bytes : List ℕ) (c : Configured) → Describes bytes c → All (λ d. IsTrue (has_parts d.form)) c.relations
described_parts bytes c is =
    let whole : All IsWhole is.texts.relations = config_whole is.says.data_read is.texts is.says.shape in
    all_before IsWhole defined_texts c.relations (subst (λ t. All IsWhole t.relations) (sym is.spells.spelling) whole)

names_same : (ds : List Defined) → map name_of (map defined_texts ds) ≡ map (λ d. d.rel) ds
names_same [] = refl
names_same (d ∷ ds) = ap (λ xs. d.rel ∷ xs) (names_same ds)

pub spelled_ordered : (t : ConfigTexts) (c : Configured) → AreOrdered t → Spells t c → IsOrdered c
spelled_ordered t c o spells =
    let names : map name_of t.relations ≡ map (λ d. d.rel) c.relations = ap (λ x. map name_of x.relations) (sym spells.spelling) ∙ names_same c.relations in
    let spaces : t.namespaces ≡ c.namespaces = ap (λ x. x.namespaces) (sym spells.spelling) in
    record {
      namespaces = rw (sym spaces) o.namespaces;
      relations = rw (sym names) o.relations;
      homes = all_before (λ r. Contains c.namespaces r.namespace) (λ d. d.rel) c.relations (rw (sym spaces, sym names) o.homes);
    }
