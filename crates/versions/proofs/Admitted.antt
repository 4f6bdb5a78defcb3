-- What is admitted has a relation.
use Rattle.std.proofs.Common.{◌≡◌, List, [], ◌∷◌, Bool, true, false, refl}
use Rattle.std.specs.Prelude.{◌&&◌, ◌||◌}
use Rattle.std.specs.List.{list_any}
use Rattle.names.specs.declared.tuple.Tuple.{Tuple}
use Rattle.names.specs.declared.relation.RelationName.{RelationName}
use Rattle.names.specs.declared.subject.Subject.{Subject}
use Rattle.meaning.specs.Config.{Configured, Defined, rel_of}
use Rattle.meaning.specs.Admits.{is_relation, declares, has_relation, admits}

known_step : (a b x y : Bool) → (x ≡ true → y ≡ true) → ((a && b) || x) ≡ true → (a || y) ≡ true
known_step true b x y rest h = refl
known_step false b x y rest h = rest h

known_in : (r : RelationName) (s : Subject) (ds : List Defined) → list_any (λ d. is_relation r d && declares s d) ds ≡ true → list_any (is_relation r) ds ≡ true
known_in r s [] h = h
known_in r s (d ∷ ds) h = known_step (is_relation r d) (declares s d) (list_any (λ d. is_relation r d && declares s d) ds) (list_any (is_relation r) ds) (known_in r s ds) h

-- what is admitted has a relation
pub admits_known : (config : Configured) (t : Tuple) → admits config t ≡ true → has_relation config (rel_of t.node) ≡ true
admits_known config t h = known_in (rel_of t.node) t.subject config.relations h
