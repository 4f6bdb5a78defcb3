-- From one level to the next.
use Rattle.std.proofs.Common.{◌≡◌, ℕ, suc, ◌<◌, List, [], length, get_or, refl, ap, ◌∙◌, subst, inl, inr, ⊎_elim, arith}
use Rattle.std.specs.Prelude.{Any, Contains, ◌⊎◌, ◌↔◌}
use Rattle.std.proofs.lemmas.List.{get_or-map, length-map}
use Rattle.std.proofs.lemmas.List.Elements.{All-contains}
use Rattle.names.specs.declared.object.Object.{Object}
use Rattle.names.specs.declared.node.Node.{Node}
use Rattle.meaning.specs.Config.{Defined, IsAt, Step, IsWhole, rel_of}
use Rattle.meaning.specs.Levels.{IsLevel}
use Rattle.meaning.specs.Least.{Below}
use Rattle.meaning.specs.Snap.{Snap}
use Rattle.meaning.specs.Membership.{RelationGives, IsKnown, IsMember}
use Rattle.meaning.proofs.GivesLemmas.{relation_grows, relation_finitary}
use Rattle.meaning.proofs.KnownLemmas.{relation_known}
use Rattle.meaning.proofs.LeastLemmas.{all_below, least_of, same_level, unfolds}
use Rattle.meaning.proofs.LevelLemmas.{one_level}
use Rattle.meaning.proofs.Lists.{contains_map, contains_map_back, contains_none}
use Rattle.meaning.proofs.TupleSets.{items_contain}
use Rattle.config.specs.Forms.{defined_of}
use Rattle.config_text.specs.declared.relation.Relation.{Relation}
use Rattle.plain.specs.declared.source.Source.{Source}
use Rattle.plain.specs.inside.Source.{snap_of, IsReady, IsOf}
use Rattle.plain.specs.inside.Candidates.{IsPlaced, HasNodes}
use Rattle.plain.specs.inside.Rounds.{IsLeastOver}

-- held are the nodes that the user is a member of, by the levels below k
pub record IsDone (S : Snap) (u : Object) (k : ℕ) (held : List Node) : Type 0 where
  pub exact : (m : Node) → Contains held m ↔ Below (IsAt S.config) (RelationGives S u) k m
  pub known : (m : Node) → Contains held m → IsKnown S m

pub done_none : (S : Snap) (u : Object) → IsDone S u 0 []
done_none S u = record {
  exact = λ m. (λ c. contains_none m c, λ b. absurd b);
  known = λ m c. absurd (contains_none m c);
}

module _ (s : Source) (ready : IsReady s) where
  -- a relation's level stands at its place
  placed_level : (j : ℕ) (r : Relation) → j < length s.relations.now → get_or s.relations.now j r ≡ r → IsLevel (Step (snap_of s).config) r.name (get_or s.levels.now j 0)
  placed_level j r lt e = ready.levels_right.each j (defined_of r) (omega (arith, lt, length-map s.relations.now defined_of)) (get_or-map defined_of s.relations.now j r (defined_of r) lt ∙ ap defined_of e)

  placed_at : (k : ℕ) (m : Node) → IsPlaced s (length s.relations.now) k m → IsAt (snap_of s).config m k
  placed_at k m (j, r, lt, e, p, l) = (
    (defined_of r, (contains_map defined_of s.relations.now r (j, lt, e), p)),
    subst (λ x. IsLevel (Step (snap_of s).config) (rel_of m) x) l (subst (λ x. IsLevel (Step (snap_of s).config) x (get_or s.levels.now j 0)) p (placed_level j r lt e)),
  )

  at_placed : (k : ℕ) (m : Node) → IsAt (snap_of s).config m k → IsPlaced s (length s.relations.now) k m
  at_placed k m ((d, (c, e)), level) =
      let b = contains_map_back defined_of s.relations.now d c in
      let same : b.0.name ≡ rel_of m = ap (λ d'. d'.rel) b.2 ∙ e in
      let here = subst (λ x. IsLevel (Step (snap_of s).config) x (get_or s.levels.now b.1.0 0)) same (placed_level b.1.0 b.0 b.1.1 b.1.2) in
      (b.1.0, b.0, b.1.1, b.1.2, same, one_level (Step (snap_of s).config) (rel_of m) (get_or s.levels.now b.1.0 0) k here level)

  pub all_whole : (d : Defined) → Contains (snap_of s).config.relations d → IsWhole d.form
  all_whole d c = All-contains (λ x. IsWhole x.form) (snap_of s).config.relations d ready.whole c

  module _ (u : Object) (objects : List Object) (are : (o : Object) → Contains objects o ↔ Any (IsOf o) s.tuples.now.keys) where
    abbrev at : Node → ℕ → Type 0
    at = IsAt (snap_of s).config

    abbrev rule : Node → (Node → Type 0) → (Node → Type 0) → Type 0
    rule = RelationGives (snap_of s) u

    -- the listed objects are those of tuples
    listed : (m : Node) → Contains objects m.object ↔ IsKnown (snap_of s) m
    listed m = (
      λ c. let (k, t, lt, e, is) = (are m.object).0 c in (t, (items_contain s.tuples.now.keys t).1 (k, lt, e), is),
      λ (t, c, is). let at = (items_contain s.tuples.now.keys t).0 c in (are m.object).1 (at.0, t, at.1, at.2, is),
    )

    pub done_more : (k : ℕ) (nodes lower held : List Node) → HasNodes s objects (length objects) k nodes → IsDone (snap_of s) u k lower → IsLeastOver (RelationGives (snap_of s) u) nodes lower held → IsDone (snap_of s) u (suc k) held
    done_more k nodes lower held candidates done least =
        let S = snap_of s in
        let known : (m : Node) → Contains held m → IsKnown S m =
        λ m c. ⊎_elim (done.known m) (λ n. (listed m).0 (candidates.only m n).0) (only m c) in
        record {
          exact = λ m. (λ c. sound m c, λ b. complete known m b);
          known = known;
        }
      where
        only : (m : Node) → Contains held m → Contains lower m ⊎ Contains nodes m
        only m c = ⊎_elim inl (λ q. inr q.0) (unfolds rule (relation_grows (snap_of s) u) (relation_finitary (snap_of s) u) (Contains nodes) (Contains lower) m (least.gained m c))

        sound : (m : Node) → Contains held m → Below at rule (suc k) m
        sound m c = same_level rule (relation_grows (snap_of s) u) (relation_finitary (snap_of s) u) (Contains nodes) (λ p. at p k) (Contains lower) (Below at rule k) (λ p n. placed_at k p (candidates.only p n).1) done.exact m (least.gained m c)

        candidate : (m : Node) → at m k → IsKnown (snap_of s) m → Contains nodes m
        candidate m here known = let c = (listed m).1 known in candidates.all m.object c.0 m c.1 c.2 refl (at_placed k m here)

        complete : ((m : Node) → Contains held m → IsKnown (snap_of s) m) → (m : Node) → Below at rule (suc k) m → Contains held m
        complete known = least_of rule (relation_grows (snap_of s) u) (relation_finitary (snap_of s) u) (λ p. at p k) (Below at rule k) (Contains held)
            (λ m b. least.remains m ((done.exact m).1 b))
            (λ m here g. least.closed m
            (candidate m here (relation_known (snap_of s) u m (Contains held) (Below at rule k) all_whole known g))
            (relation_grows (snap_of s) u m (Contains held) (Contains held) (Below at rule k) (Contains lower) (λ p x. x) (λ p. ((done.exact p).1, (done.exact p).0)) g))

  -- all levels are done
  pub done_all : (u : Object) (count : ℕ) (held : List Node) → ((i : ℕ) → i < length s.levels.now → get_or s.levels.now i 0 < count) → IsDone (snap_of s) u count held → (m : Node) → Contains held m ↔ IsMember (snap_of s) u m
  done_all u count held top done m = (
    λ c. (count, (done.exact m).0 c),
    λ (k, b). (done.exact m).1 (all_below (RelationGives (snap_of s) u) (relation_grows (snap_of s) u) (relation_finitary (snap_of s) u) (IsAt (snap_of s).config) count above k m b),
  )
    where
      above : (p : Node) (j : ℕ) → IsAt (snap_of s).config p j → j < count
      above p j at =
          let placed = at_placed j p at in
          let here : placed.0 < length s.levels.now = omega (arith, placed.2, ready.levels_right.long, length-map s.relations.now defined_of) in
          let less : get_or s.levels.now placed.0 0 < count = top placed.0 here in
          omega (arith, less, placed.5)
