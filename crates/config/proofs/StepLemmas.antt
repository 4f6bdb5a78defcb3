-- Where the tupleset of a relation's namespace leads.
use Rattle.std.proofs.Common.{◌≡◌, ℕ, ◌<◌, List, length, get_or, ap, ◌∙◌, sym, subst}
use Rattle.std.specs.Prelude.{Contains, None}
use Rattle.config_text.specs.declared.relation.Relation.{Relation}
use Rattle.meaning.specs.Config.{Defined, Leads}
use Rattle.meaning.proofs.Lists.{contains_map, contains_map_back}
use Rattle.config_text.specs.Forms.{defined_of}
use Rattle.config_text.specs.Parts.{configured}

pub leads_found : (namespaces : List (List ℕ)) (rs : List Relation) (d : Defined) (t ns : List ℕ) (k : ℕ) (e : Relation) → k < length rs → get_or rs k e ≡ e → (defined_of e).rel ≡ record { namespace = d.rel.namespace; relation = t } → Contains e.types.items (record { namespace = ns; relation = None }) → Leads (configured namespaces rs) d t ns
leads_found namespaces rs d t ns k e h is named c = (defined_of e, (contains_map defined_of rs e (k, h, is), named), c)

pub leads_none : (namespaces : List (List ℕ)) (rs : List Relation) (d : Defined) (t ns : List ℕ) → ((k : ℕ) (e : Relation) → k < length rs → get_or rs k e ≡ e → (defined_of e).rel ≡ record { namespace = d.rel.namespace; relation = t } → Contains e.types.items (record { namespace = ns; relation = None }) → ⊥) → Leads (configured namespaces rs) d t ns → ⊥
leads_none namespaces rs d t ns none (x, (c, named), declared) =
    let b = contains_map_back defined_of rs x c in
    none b.1.0 b.0 b.1.1 b.1.2 (ap (λ y. y.rel) b.2 ∙ named) (subst (λ y. Contains y.types (record { namespace = ns; relation = None })) (sym b.2) declared)
