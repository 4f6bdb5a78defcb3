-- Configurations, tuples, events, commits and snapshots as numbers, by which their values are told apart.
use Rattle.std.specs.Prelude.{◌≡◌, ℕ, Bool, true, false, List, [], ◌∷◌, Option, Some, None, refl}
use Rattle.std.proofs.Common.{zero, suc, ◌∙◌, ap}
use Rattle.std.specs.Coded.{Coded, code_by, coded×, coded_ℕ, coded_list, coded_option, coded_bool}
use base.Stored.{coded_unit}
use Rattle.std.specs.FinMap as map
use Rattle.names.specs.declared.relation.SubjectType.{SubjectType}
use Rattle.names.specs.declared.tuple.Tuple.{Tuple}
use Rattle.names.specs.declared.commit.Event.{Event}
use Rattle.names.specs.declared.commit.EventKind.{EventKind}
use Rattle.names.specs.declared.commit.EventKind.TheVariants.{Put, Del}
use Rattle.names.specs.declared.commit.Commit.{Commit}
use Rattle.names.specs.declared.commit.Commit.TheVariants as commits
use Rattle.meaning.specs.Form.{Form, Forms, This, Computed, TupleTo, Union, Intersection, Exclusion, none, more}
use Rattle.meaning.specs.Config.{Defined, Configured}
use Rattle.meaning.specs.Snap.{Snap, Tuples}

-- a form or a list of forms
pub data Item : Type 0 where
  One : Form → Item
  Many : Forms → Item

abbrev pub Token : Type 0
Token = ℕ × (List ℕ × List ℕ)

-- the tokens of a form, each part before the whole, and then the others
abbrev mutual
  pub tokens : Form → List Token → List Token
  tokens This r = (0, ([], [])) ∷ r
  tokens (Computed c) r = (1, (c, [])) ∷ r
  tokens (TupleTo t c) r = (2, (t, c)) ∷ r
  tokens (Union ws) r = all_tokens ws ((3, ([], [])) ∷ r)
  tokens (Intersection ws) r = all_tokens ws ((4, ([], [])) ∷ r)
  tokens (Exclusion a b) r = tokens a (tokens b ((5, ([], [])) ∷ r))

  pub all_tokens : Forms → List Token → List Token
  all_tokens none r = (6, ([], [])) ∷ r
  all_tokens (more w ws) r = tokens w (all_tokens ws ((7, ([], [])) ∷ r))

-- what a token does to what was read before it
abbrev pub act : ℕ → List ℕ → List ℕ → List Item → List Item
act zero c d st = One This ∷ st
act (suc zero) c d st = One (Computed c) ∷ st
act (suc (suc zero)) c d st = One (TupleTo c d) ∷ st
act (suc (suc (suc zero))) c d (Many ws ∷ st) = One (Union ws) ∷ st
act (suc (suc (suc (suc zero)))) c d (Many ws ∷ st) = One (Intersection ws) ∷ st
act (suc (suc (suc (suc (suc zero))))) c d (One b ∷ One a ∷ st) = One (Exclusion a b) ∷ st
act (suc (suc (suc (suc (suc (suc zero)))))) c d st = Many none ∷ st
act (suc (suc (suc (suc (suc (suc (suc n))))))) c d (Many ws ∷ One w ∷ st) = Many (more w ws) ∷ st
act _ c d st = st

abbrev pub read : List Token → List Item → List Item
read [] st = st
read ((n, (c, d)) ∷ r) st = read r (act n c d st)

abbrev pub first_form : List Item → Form
first_form (One w ∷ st) = w
first_form _ = This

mutual
  pub read_tokens : (w : Form) (r : List Token) (st : List Item) → read (tokens w r) st ≡ read r (One w ∷ st)
  read_tokens This r st = refl
  read_tokens (Computed c) r st = refl
  read_tokens (TupleTo t c) r st = refl
  read_tokens (Union ws) r st = read_all ws ((3, ([], [])) ∷ r) st
  read_tokens (Intersection ws) r st = read_all ws ((4, ([], [])) ∷ r) st
  read_tokens (Exclusion a b) r st = read_tokens a (tokens b ((5, ([], [])) ∷ r)) st ∙ read_tokens b ((5, ([], [])) ∷ r) (One a ∷ st)

  pub read_all : (ws : Forms) (r : List Token) (st : List Item) → read (all_tokens ws r) st ≡ read r (Many ws ∷ st)
  read_all none r st = refl
  read_all (more w ws) r st = read_tokens w (all_tokens ws ((7, ([], [])) ∷ r)) st ∙ read_all ws ((7, ([], [])) ∷ r) (One w ∷ st)

abbrev pub coded_form : Coded Form
coded_form = code_by (List Token) (coded_list (coded× coded_ℕ (coded× (coded_list coded_ℕ) (coded_list coded_ℕ)))) (λ w. tokens w []) (λ ts. first_form (read ts [])) (λ w. ap first_form (read_tokens w [] []))

abbrev pub coded_type : Coded SubjectType
coded_type = code_by (List ℕ × Option (List ℕ)) (coded× (coded_list coded_ℕ) (coded_option (coded_list coded_ℕ))) (λ t. (t.namespace, t.relation)) (λ p. record { namespace = p.0; relation = p.1 }) (λ _. refl)

abbrev pub coded_names : Coded (List ℕ × List ℕ)
coded_names = coded× (coded_list coded_ℕ) (coded_list coded_ℕ)

abbrev pub coded_defined : Coded Defined
coded_defined = code_by ((List ℕ × List ℕ) × (List SubjectType × (Form × Bool))) (coded× coded_names (coded× (coded_list coded_type) (coded× coded_form coded_bool)))
    (λ d. ((d.rel.namespace, d.rel.relation), (d.types, (d.form, d.indexed))))
    (λ p. record { rel = record { namespace = p.0.0; relation = p.0.1 }; types = p.1.0; form = p.1.1.0; indexed = p.1.1.1 }) (λ _. refl)

abbrev pub coded_config : Coded Configured
coded_config = code_by (List (List ℕ) × List Defined) (coded× (coded_list (coded_list coded_ℕ)) (coded_list coded_defined)) (λ c. (c.namespaces, c.relations)) (λ p. record { namespaces = p.0; relations = p.1 }) (λ _. refl)

abbrev coded_text : Coded (List ℕ)
coded_text = coded_list coded_ℕ

abbrev pub coded_tuple : Coded Tuple
coded_tuple = code_by ((List ℕ × (List ℕ × List ℕ)) × (List ℕ × (List ℕ × Option (List ℕ)))) (coded× (coded× coded_text (coded× coded_text coded_text)) (coded× coded_text (coded× coded_text (coded_option coded_text))))
    (λ t. ((t.node.object.namespace, (t.node.object.id, t.node.relation)), (t.subject.object.namespace, (t.subject.object.id, t.subject.relation))))
    (λ p. record { node = record { object = record { namespace = p.0.0; id = p.0.1.0 }; relation = p.0.1.1 }; subject = record { object = record { namespace = p.1.0; id = p.1.1.0 }; relation = p.1.1.1 } }) (λ _. refl)

abbrev puts : EventKind → Bool
puts Put = true
puts Del = false

abbrev kind : Bool → EventKind
kind true = Put
kind false = Del

pub kind_back : (k : EventKind) → kind (puts k) ≡ k
kind_back Put = refl
kind_back Del = refl

abbrev pub coded_kind : Coded EventKind
coded_kind = code_by Bool coded_bool puts kind kind_back

abbrev pub coded_event : Coded Event
coded_event = code_by (Tuple × EventKind) (coded× coded_tuple coded_kind) (λ e. (e.tuple, e.kind)) (λ p. record { tuple = p.0; kind = p.1 }) (λ _. refl)

-- a commit is a configuration, or none and events
abbrev parts : Commit Configured → Option Configured × List Event
parts (commits.Tuples events) = (None, events)
parts (commits.Config config) = (Some config, [])

abbrev whole : Option Configured × List Event → Commit Configured
whole (None, events) = commits.Tuples events
whole (Some config, events) = commits.Config config

pub parts_whole : (c : Commit Configured) → whole (parts c) ≡ c
parts_whole (commits.Tuples events) = refl
parts_whole (commits.Config config) = refl

abbrev pub coded_commit : Coded (Commit Configured)
coded_commit = code_by (Option Configured × List Event) (coded× (coded_option coded_config) (coded_list coded_event)) parts whole parts_whole

abbrev pub coded_snap : Coded Snap
coded_snap = code_by (Configured × Tuples) (coded× coded_config (map.code coded_tuple coded_unit)) (λ s. (s.config, s.tuples)) (λ p. record { config = p.0; tuples = p.1 }) (λ _. refl)
