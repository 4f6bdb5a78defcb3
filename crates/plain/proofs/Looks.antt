-- What the loops look up, and what it means.
use Rattle.std.proofs.Common.{◌≡◌, ℕ, ◌<◌, List, true, length, get_or, refl, ap, ◌∙◌, sym, subst, inl, inr}
use Rattle.std.specs.Prelude.{◌↔◌, Option, Some, None, Any, Contains}
use Rattle.names.specs.declared.object.Object.{Object}
use Rattle.names.specs.declared.node.Node.{Node}
use Rattle.meaning.specs.Config.{rel_of}
use Rattle.meaning.specs.Admits.{is_relation}
use Rattle.meaning.specs.Form.{This, TupleTo}
use Rattle.meaning.specs.Snap.{one}
use Rattle.meaning.specs.Membership.{Gives, RelationGives, IsUser}
use Rattle.meaning.proofs.KnownRelations.{relation_is, is_itself}
use Rattle.meaning.proofs.Lists.{contains_map, contains_map_back}
use Rattle.meaning.proofs.TupleSets.{items_contain}
use Rattle.config_text.specs.declared.relation.Relation.{Relation}
use Rattle.config.specs.Forms.{defined_of, form_of}
use Rattle.plain.specs.declared.source.Source.{Source}
use Rattle.plain.specs.inside.Source.{snap_of, config_of, GrantsBy, Grants, LeadsBy, LeadsOn, Names}

module _ (s : Source) (u : Object) (n : Node) (held : List Node) where
  -- a tuple of the node gives it the user
  by_subject : (o : Object) (r : Option (List ℕ)) → Contains s.tuples.now.keys (record { node = n; subject = record { object = o; relation = r } }) → GrantsBy u held o r → Gives (snap_of s) u n This (Contains held) (Contains held)
  by_subject o None c g = inl ((items_contain s.tuples.now.keys (record { node = n; subject = one u })).1 (subst (λ x. Contains s.tuples.now.keys (record { node = n; subject = one x })) g c))
  by_subject o (Some r) c g = inr (record { object = o; relation = r }, (items_contain s.tuples.now.keys _).1 c, g)

  pub direct_given : Any (Grants n u held) s.tuples.now.keys → Gives (snap_of s) u n This (Contains held) (Contains held)
  direct_given (k, t, lt, e, g) =
      by_subject t.subject.object t.subject.relation (subst (λ m. Contains s.tuples.now.keys (record { node = m; subject = t.subject })) g.0 (k, lt, e)) g.1

  pub given_direct : Gives (snap_of s) u n This (Contains held) (Contains held) → Any (Grants n u held) s.tuples.now.keys
  given_direct (inl h) = let c = (items_contain s.tuples.now.keys _).0 h in (c.0, record { node = n; subject = one u }, c.1, c.2, (refl, refl))
  given_direct (inr (m, h, x)) = let c = (items_contain s.tuples.now.keys _).0 h in (c.0, record { node = n; subject = record { object = m.object; relation = Some m.relation } }, c.1, c.2, (refl, x))

  module _ (tupleset name : List ℕ) where
    -- a tuple of the tupleset's node leads to an object whose relation is held
    by_parent : (o : Object) (r : Option (List ℕ)) → Contains s.tuples.now.keys (record { node = record { object = n.object; relation = tupleset }; subject = record { object = o; relation = r } }) → LeadsBy (config_of s.relations.now) name held o r → Gives (snap_of s) u n (TupleTo tupleset name) (Contains held) (Contains held)
    by_parent o None c g = (o, (items_contain s.tuples.now.keys _).1 c, g.0, g.1)
    by_parent o (Some r) c g = absurd g

    pub through_given : Any (LeadsOn s.relations.now n.object tupleset name held) s.tuples.now.keys → Gives (snap_of s) u n (TupleTo tupleset name) (Contains held) (Contains held)
    through_given (k, t, lt, e, g) =
        by_parent t.subject.object t.subject.relation (subst (λ m. Contains s.tuples.now.keys (record { node = m; subject = t.subject })) g.0 (k, lt, e)) g.1

    pub given_through : Gives (snap_of s) u n (TupleTo tupleset name) (Contains held) (Contains held) → Any (LeadsOn s.relations.now n.object tupleset name held) s.tuples.now.keys
    given_through (p, h, has, x) = let c = (items_contain s.tuples.now.keys _).0 h in (c.0, record { node = record { object = n.object; relation = tupleset }; subject = one p }, c.1, c.2, (refl, (has, x)))

module _ (s : Source) (u : Object) (n : Node) (X L : Node → Type 0) where
  pub relation_found : (k : ℕ) (x : Relation) → k < length s.relations.now → get_or s.relations.now k x ≡ x → is_relation (rel_of n) (defined_of x) ≡ true → Gives (snap_of s) u n (form_of x.rewrite) X L → RelationGives (snap_of s) u n X L
  relation_found k x h e p g = (defined_of x, (contains_map defined_of s.relations.now x (k, h, e), relation_is (rel_of n) (defined_of x) p), g)

  pub relation_none : ((k : ℕ) (x : Relation) → k < length s.relations.now → get_or s.relations.now k x ≡ x → is_relation (rel_of n) (defined_of x) ≡ true → Gives (snap_of s) u n (form_of x.rewrite) X L → ⊥) → RelationGives (snap_of s) u n X L → ⊥
  relation_none none (d, (c, e), g) =
      let r = contains_map_back defined_of s.relations.now d c in
      none r.1.0 r.0 r.1.1 r.1.2 (is_itself (rel_of n) (defined_of r.0) (ap (λ d'. d'.rel) r.2 ∙ e)) (subst (λ w. Gives (snap_of s) u n w X L) (sym (ap (λ d'. d'.form) r.2)) g)

-- who is named by a tuple
pub named_user : (s : Source) (u : Object) → Any (Names u) s.tuples.now.keys ↔ IsUser (snap_of s) u
named_user s u = (
  λ (k, t, lt, e, is). (t, (items_contain s.tuples.now.keys t).1 (k, lt, e), is),
  λ (t, c, is). let at = (items_contain s.tuples.now.keys t).0 c in (at.0, t, at.1, at.2, is),
)
