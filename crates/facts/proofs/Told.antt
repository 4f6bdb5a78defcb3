-- What is told of a node.
use Rattle.std.proofs.Common.{ℕ, ◌≡◌, ◌<◌, true, List, [], length, get_or, map, refl, sym, ◌∙◌, ap, subst, inl, inr}
use Rattle.std.specs.Prelude.{Contains, Some, filter, slice_index}
use Rattle.std.specs.List.{slice_get}
use Rattle.std.proofs.lemmas.Bool.{false≢true}
use Rattle.names.specs.declared.object.Object.{Object}
use Rattle.names.specs.declared.node.Node.{Node}
use Rattle.names.specs.declared.tuple.Tuple.{Tuple}
use Rattle.meaning.specs.Snap.{Snap}
use Rattle.meaning.specs.TupleSet as set
use Rattle.meaning.specs.Config.{Configured, Defined, Defines, Has, IsAt, Step, rel_of}
use Rattle.meaning.specs.Levels.{IsLevel}
use Rattle.meaning.specs.Membership.{HasOne, HasSet}
use Rattle.tuple_keys.specs.Named.{is_of}
use Rattle.versions.specs.Named.{objects_in, nodes_in}
use Rattle.config_text.specs.declared.relation.Relation.{Relation}
use Rattle.config_text.specs.Forms.{form_of, defined_of}
use Rattle.config.specs.Levels.{AreLevels}
use Rattle.config.specs.Places.{StandsAt}
use Rattle.config.proofs.Searching.{read_there}
use Rattle.idsets.specs.Naming.{AreDistinct}
use Rattle.least_sets.specs.World.{Shape, AnyOf, has}
use Rattle.facts.specs.Numbers.{Grew, AreNumbersOf, user_at, node_at}
use Rattle.graphs.specs.Graph.{IsShapeOf}
use Rattle.facts.specs.Telling.{AreOwn, IsShapeIn, MayTell}
use Rattle.facts.specs.inside.Tables.{grew_none, grew_get, node_is, user_is, user_got, number_below, numbers_keep}
use Rattle.facts.proofs.Naming.{own_objects, own_sets}

-- the numbers of the users that the node's own tuples name
pub own_numbers : (S : Snap) (n : Node) (ts : List Tuple) (users : List Object) (ids : List ℕ) → ts ≡ filter (is_of n) (set.items S.tuples)
    → AreNumbersOf users ids (Contains (objects_in ts)) → AreNumbersOf users ids (HasOne S n)
own_numbers S n ts users ids is are = numbers_keep users users ids (Contains (objects_in ts)) (HasOne S n) (grew_none users) (own_objects S n ts is) are

-- the numbers of the nodes whose members the node's own tuples name
pub set_numbers : (S : Snap) (n : Node) (ts : List Tuple) (nodes : List Node) (ids : List ℕ) → ts ≡ filter (is_of n) (set.items S.tuples)
    → AreNumbersOf nodes ids (Contains (nodes_in ts)) → AreNumbersOf nodes ids (HasSet S n)
set_numbers S n ts nodes ids is are = numbers_keep nodes nodes ids (Contains (nodes_in ts)) (HasSet S n) (grew_none nodes) (own_sets S n ts is) are

-- no user has two numbers, so they tell the users apart
are_own : (S : Snap) (n : Node) (users : List Object) (ids own : List ℕ) → AreDistinct users → ((u : ℕ) → has own u ≡ has ids u) → AreNumbersOf users ids (HasOne S n) → AreOwn S (user_at users) n own
are_own S n users ids own distinct same are u = (
  λ h. (let s = are.sound u (sym (same u) ∙ h) in subst (HasOne S n) (sym (user_is users u s.0 s.2)) s.1),
  λ h. (let s = are.complete (user_at users u) h in
      let below : u < length users = number_below users users u s.0 distinct (grew_none users) s.2 in
      let e : u ≡ s.0 = distinct u s.0 (user_at users u) (user_got users u below) s.2 in
      same u ∙ subst (λ i. has ids i ≡ true) (sym e) s.1),
)

module _ (S : Snap) (before nodes : List Node) (users : List Object) (i : ℕ) (n : Node) (ids own : List ℕ) (at : slice_get before i ≡ Some n) (grew : Grew before nodes)
    (distinct : AreDistinct users) (same : (u : ℕ) → has own u ≡ has ids u) (are : AreNumbersOf users ids (HasOne S n)) where
  here : node_at nodes i ≡ n
  here = node_is nodes i n (grew_get before nodes i n grew at)

  owned : AreOwn S (user_at users) (node_at nodes i) own
  owned = subst (λ m. AreOwn S (user_at users) m own) (sym here) (are_own S n users ids own distinct same are)

  seen_own : (u : Object) → HasOne S (node_at nodes i) u → (j : ℕ) × (slice_get users j ≡ Some u)
  seen_own u h = let s = are.complete u (subst (λ m. HasOne S m u) here h) in (s.0, s.2)

  -- the node's relation is not there
  pub unknown_told : (Has S.config (rel_of n) → ⊥) → MayTell S nodes users i (record { level = 0; shape = AnyOf []; own = own })
  unknown_told off = record {
    named = (n, grew_get before nodes i n grew at);
    fact_is = inr ((λ h. off (subst (λ m. Has S.config (rel_of m)) here h)), refl);
    own = owned;
    low = λ none. refl;
    within = λ m h. absurd (false≢true h);
    distinct = distinct;
    seen = seen_own;
  }

  -- the node's relation is there, with this level and this definition
  pub known_told : (d : Defined) (level : ℕ) (shape : Shape) → Defines S.config (rel_of n) d → IsLevel (Step S.config) (rel_of n) level → IsShapeIn S nodes n d.form shape
      → MayTell S nodes users i (record { level = level; shape = shape; own = own })
  known_told d level shape defines leveled is = record {
    named = (n, grew_get before nodes i n grew at);
    fact_is = inl (
      d,
      subst (λ m. Defines S.config (rel_of m) d) (sym here) defines,
      subst (λ m. IsAt S.config m level) (sym here) ((d, defines), leveled),
      subst (λ m. IsShapeOf S (user_at users) (node_at nodes) m own d.form shape) (sym here) (is.is (user_at users) own (are_own S n users ids own distinct same are)),
    );
    own = owned;
    low = λ none. absurd (none (subst (λ m. Has S.config (rel_of m)) (sym here) (d, defines)));
    within = is.within;
    distinct = distinct;
    seen = seen_own;
  }

  -- so it is where the relation stands at a place
  pub placed_told : (config : Configured) (ds : List Relation) (levels : List ℕ) (place : ℕ) (relation : Relation) (shape : Shape) → config ≡ S.config → StandsAt config (rel_of n) place
      → map defined_of ds ≡ config.relations → relation ≡ get_or ds place relation → AreLevels config levels
      → IsShapeIn S nodes n (form_of (get_or ds place relation).rewrite) shape
      → MayTell S nodes users i (record { level = slice_index levels place; shape = shape; own = own })
  placed_told config ds levels place relation shape view at_place are_ds there are_levels is =
      let stands : StandsAt S.config (rel_of n) place = subst (λ (c : Configured). StandsAt c (rel_of n) place) view at_place in
      let leveled : AreLevels S.config levels = subst (λ (c : Configured). AreLevels c levels) view are_levels in
      let same : stands.defined ≡ defined_of relation = read_there S.config ds (rel_of n) place relation (are_ds ∙ ap (λ (c : Configured). c.relations) view) stands there in
      known_told stands.defined (slice_index levels place) shape ((place, stands.within, stands.there), stands.rel)
      (subst (λ r. IsLevel (Step S.config) r (slice_index levels place)) stands.rel (leveled.each place stands.defined stands.within stands.there))
      (subst (λ w. IsShapeIn S nodes n w shape) (ap (λ (r : Relation). form_of r.rewrite) (sym there) ∙ ap (λ (d : Defined). d.form) (sym same)) is)
