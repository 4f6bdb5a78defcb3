-- A configuration's text that is accepted is not refused, and one text is of one configuration.
use Rattle.std.proofs.Common.{◌≡◌, ℕ, ◌≤◌, List, [], ◌∷◌, suc, ap, sym, subst, ◌∙◌, arith}
use Rattle.std.specs.Prelude.{Bool, true, false, not, bytes_eq, Some, None, Contains}
use Rattle.std.specs.List.{list_all}
use Rattle.std.proofs.lemmas.Bool.{true≢false}
use Rattle.std.proofs.lemmas.Slice.Eq.{bytes_eq-Decides}
use Rattle.names.specs.Refusals.{ReadCause}
use Rattle.names.specs.declared.cause.Cause.{Cause}
use Rattle.names.specs.declared.cause.Cause.TheVariants as causes
use Rattle.names.specs.declared.cause.CycleStep.{CycleStep}
use Rattle.names.specs.declared.relation.RelationName.{RelationName}
use Rattle.names.specs.declared.refusal.Refusal.{Refusal}
use Rattle.names.specs.declared.refusal.Refusal.TheVariants as refusals
use Rattle.meaning.specs.Config.{Configured, Defined, Step}
use Rattle.meaning.specs.Levels.{Path, plain, subtracted, IsLevel}
use Rattle.config_text.specs.Reading.{Describes}
use Rattle.config_text.specs.Shape.{config_read}
use Rattle.config_text.specs.Spelling.{Spells}
use Rattle.config_text.specs.Texts.{ConfigTexts}
use Rattle.config.specs.Causes.{Accepts, IsCause, ConfigCause}
use Rattle.config.specs.Cycles.{IsChain, IsCertificate}
use Rattle.config.specs.Valid.{IsValid, cause_of, unless, types_stand, types_used, computes, has_tuplesets, is_indexable}
use Rattle.store.specs.Refused.{DeservedBy, unread_of}
use Rattle.store.proofs.Once.{one_described, one_some}

-- ---- a cycle leaves no level

at_least : (config : Configured) (a b : RelationName) (steps : List CycleStep) (k : ℕ) → IsChain config a steps b → Path (Step config) b k → (n : ℕ) × Path (Step config) a n × (k ≤ n)
at_least config a b [] k same path = (k, subst (λ r. Path (Step config) r k) (sym same) path, omega arith)
at_least config a b (s ∷ ss) k chain path = by_sign s.subtracted chain.0 (at_least config s.to b ss k chain.1 path)
  where
    by_sign : (sign : Bool) → Step config a sign s.to → (n : ℕ) × Path (Step config) s.to n × (k ≤ n) → (n : ℕ) × Path (Step config) a n × (k ≤ n)
    by_sign true step rest = let l = rest.2 in (suc rest.0, subtracted step rest.1, omega (arith, l))
    by_sign false step rest = (rest.0, plain step rest.1, rest.2)

no_certificate : (config : Configured) → ((d : Defined) → Contains config.relations d → (k : ℕ) × IsLevel (Step config) d.rel k) → (steps : List CycleStep) → IsCertificate config steps → ⊥
no_certificate config levels [] cycle = cycle
no_certificate config levels (s ∷ ss) cycle = by_step cycle.chain.0
  where
    by_step : Step config cycle.start s.subtracted s.to → ⊥
    by_step step =
        let level = levels (step.0) step.1.0 in
        let from : IsLevel (Step config) cycle.start level.0 = subst (λ r. IsLevel (Step config) r level.0) step.1.1 level.1 in
        let rest = at_least config s.to cycle.start ss level.0 cycle.chain.1 from.path in
        let first : Step config cycle.start true s.to = subst (λ sign. Step config cycle.start sign s.to) cycle.subtracted step in
        let most = from.greatest (suc rest.0) (subtracted first rest.1) in
        let least = rest.2 in
        omega (arith, most, least)

-- ---- a valid configuration has no cause

no_cause : (config : Configured) → IsValid config → cause_of config ≡ None
no_cause config valid =
    ap (λ b. unless b causes.Limit (unless (list_all (types_stand config) config.relations) causes.DeclaredType (unless (list_all types_used config.relations) causes.This (unless (list_all (computes config) config.relations) causes.Computed
    (unless (list_all (has_tuplesets config) config.relations) causes.Tupleset (unless (list_all (is_indexable config) config.relations) causes.Indexed None)))))) valid.limit
    ∙ ap (λ b. unless b causes.DeclaredType (unless (list_all types_used config.relations) causes.This (unless (list_all (computes config) config.relations) causes.Computed
    (unless (list_all (has_tuplesets config) config.relations) causes.Tupleset (unless (list_all (is_indexable config) config.relations) causes.Indexed None))))) valid.declared_type
    ∙ ap (λ b. unless b causes.This (unless (list_all (computes config) config.relations) causes.Computed (unless (list_all (has_tuplesets config) config.relations) causes.Tupleset (unless (list_all (is_indexable config) config.relations) causes.Indexed None)))) valid.this
    ∙ ap (λ b. unless b causes.Computed (unless (list_all (has_tuplesets config) config.relations) causes.Tupleset (unless (list_all (is_indexable config) config.relations) causes.Indexed None))) valid.computed
    ∙ ap (λ b. unless b causes.Tupleset (unless (list_all (is_indexable config) config.relations) causes.Indexed None)) valid.tupleset
    ∙ ap (λ b. unless b causes.Indexed None) valid.indexed

other_cause : (bytes : List ℕ) (config : Configured) (cause : Cause) → Accepts bytes config → (c : Configured) × Describes bytes c × (cause_of c ≡ Some cause) → ⊥
other_cause bytes config cause accepts (c, describes, is) = never (sym (no_cause config accepts.valid) ∙ ap cause_of (one_described bytes config c accepts.describes describes) ∙ is)
  where
    never : None ≡ Some cause → ⊥
    never e = cc

never_refused : (bytes : List ℕ) (config : Configured) (cause : Cause) → Accepts bytes config → IsCause bytes cause → ⊥
never_refused bytes config causes.Size accepts h = let s = accepts.size in omega (arith, s, h)
never_refused bytes config causes.Json accepts h = h.1 accepts.describes.says.data_read accepts.describes.says.reads
never_refused bytes config causes.Shape accepts (_, (d, reads, none)) =
    never (sym none ∙ ap config_read (one_some _ d accepts.describes.says.data_read reads.reads accepts.describes.says.reads.reads) ∙ accepts.describes.says.shape)
  where
    never : None ≡ Some accepts.describes.texts → ⊥
    never e = cc
never_refused bytes config causes.Name accepts (_, (texts, says, none)) =
    none config (subst (λ (t : ConfigTexts). Spells t config) same accepts.describes.spells)
  where
    data_is : accepts.describes.says.data_read ≡ says.data_read
    data_is = one_some _ _ _ accepts.describes.says.reads.reads says.reads.reads

    same : accepts.describes.texts ≡ texts
    same = one_some _ accepts.describes.texts texts accepts.describes.says.shape (ap config_read data_is ∙ says.shape)
never_refused bytes config (causes.Cycle steps) accepts (_, (c, describes, none, certificate)) =
    no_certificate config accepts.valid.levels steps (subst (λ (x : Configured). IsCertificate x steps) (sym (one_described bytes config c accepts.describes describes)) certificate)
never_refused bytes config causes.Limit accepts h = other_cause bytes config causes.Limit accepts h.1
never_refused bytes config causes.DeclaredType accepts h = other_cause bytes config causes.DeclaredType accepts h.1
never_refused bytes config causes.This accepts h = other_cause bytes config causes.This accepts h.1
never_refused bytes config causes.Computed accepts h = other_cause bytes config causes.Computed accepts h.1
never_refused bytes config causes.Tupleset accepts h = other_cause bytes config causes.Tupleset accepts h.1
never_refused bytes config causes.Indexed accepts h = other_cause bytes config causes.Indexed accepts h.1

pub config_deserved : (P : Type 0) (bytes : List ℕ) (e : Refusal) → (P → (c : Configured) × Accepts bytes c) → ConfigCause bytes e → DeservedBy P (unread_of e)
config_deserved P bytes (refusals.ConfigRefused cause) is h = λ p. let c = is p in never_refused bytes c.0 cause c.1 h
config_deserved P bytes refusals.Memory is h = tt
config_deserved P bytes _ is h = absurd h

pub read_deserved : (P M : Type 0) (e : Refusal) → (M → P → ⊥) → ReadCause M e → DeservedBy P (unread_of e)
read_deserved P M refusals.Malformed is h = is h
read_deserved P M refusals.Memory is h = tt
read_deserved P M _ is h = absurd h

-- ---- one text, one configuration

pub same_config : (bytes : List ℕ) (c d : Configured) → Accepts bytes c → Accepts bytes d → c ≡ d
same_config bytes c d p q = one_described bytes c d p.describes q.describes

pub other_text : (a b : List ℕ) → a ≡ b → true ≡ not (bytes_eq a b) → ⊥
other_text a b same e = true≢false (e ∙ ap not ((bytes_eq-Decides a b).1 same))
