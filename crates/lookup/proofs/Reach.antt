-- Each node of which the user is a member is reached.
use Rattle.std.proofs.Common.{ℕ, zero, suc, false, refl, ◌⊎◌, inl, inr, ⊎_elim}
use Rattle.std.specs.Prelude.{Contains}
use Rattle.names.specs.declared.object.Object.{Object}
use Rattle.names.specs.declared.node.Node.{Node}
use Rattle.meaning.specs.Form.{Form, Forms, This, Computed, TupleTo, Union, Intersection, Exclusion, none, more}
use Rattle.meaning.specs.Config.{Defined, IsWhole, AreWhole, IsAt}
use Rattle.meaning.specs.Least.{Below}
use Rattle.meaning.specs.Snap.{Snap}
use Rattle.meaning.specs.Membership.{Gives, SomeGives, HasOne, RelationGives, IsMember}
use Rattle.meaning.specs.Reads.{Reads, SomeReads}
use Rattle.meaning.proofs.GivesLemmas.{relation_grows, relation_finitary}
use Rattle.meaning.proofs.LeastLemmas.{least_of}
use Rattle.lookup.specs.inside.Reach.{IsReach}

-- the node's tuples name the user, or a node that is read has it
abbrev Leads : Snap → Object → Node → (Node → Type 0) → (Node → Type 0) → Type 0
Leads S u n IsRead X = HasOne S n u ⊎ ((m : Node) × IsRead m × X m)

leads_more : (S : Snap) (u : Object) (n : Node) (Few Many X : Node → Type 0) → ((m : Node) → Few m → Many m) → Leads S u n Few X → Leads S u n Many X
leads_more S u n Few Many X f (inl h) = inl h
leads_more S u n Few Many X f (inr h) = inr (h.0, f h.0 h.1, h.2)

mutual
  gives_leads : (S : Snap) (u : Object) (n : Node) (w : Form) (X L : Node → Type 0) → IsWhole w → Gives S u n w X L → Leads S u n (Reads S n w false) X
  gives_leads S u n This X L whole (inl h) = inl h
  gives_leads S u n This X L whole (inr h) = inr (h.0, (refl, h.1), h.2)
  gives_leads S u n (Computed c) X L whole h = inr (record { object = n.object; relation = c }, (refl, refl), h)
  gives_leads S u n (TupleTo t c) X L whole h = inr (record { object = h.0; relation = c }, (refl, (h.0, h.1, h.2, refl)), h.3)
  gives_leads S u n (Union ws) X L whole h = some_leads S u n ws X L whole h
  gives_leads S u n (Intersection none) X L whole h = absurd whole.0
  gives_leads S u n (Intersection (more w ws)) X L whole h =
      leads_more S u n (Reads S n w false) (SomeReads S n (more w ws) false) X (λ m r. inl r) (gives_leads S u n w X L whole.1.0 h.0)
  gives_leads S u n (Exclusion a b) X L whole h =
      leads_more S u n (Reads S n a false) (Reads S n (Exclusion a b) false) X (λ m r. inl r) (gives_leads S u n a X L whole.0 h.0)

  some_leads : (S : Snap) (u : Object) (n : Node) (ws : Forms) (X L : Node → Type 0) → AreWhole ws → SomeGives S u n ws X L → Leads S u n (SomeReads S n ws false) X
  some_leads S u n none X L whole h = absurd h
  some_leads S u n (more w ws) X L whole (inl h) =
      leads_more S u n (Reads S n w false) (SomeReads S n (more w ws) false) X (λ m r. inl r) (gives_leads S u n w X L whole.0 h)
  some_leads S u n (more w ws) X L whole (inr h) =
      leads_more S u n (SomeReads S n ws false) (SomeReads S n (more w ws) false) X (λ m r. inr r) (some_leads S u n ws X L whole.1 h)

module _ (S : Snap) (u : Object) (X : Node → Type 0) (whole : (d : Defined) → Contains S.config.relations d → IsWhole d.form) (reach : IsReach S u X) where
  relation_reached : (n : Node) (L : Node → Type 0) → RelationGives S u n X L → X n
  relation_reached n L (d, defines, g) = ⊎_elim (reach.begins n) (λ r. reach.goes_on n r.0 d defines r.1 r.2) (gives_leads S u n d.form X L (whole d defines.0) g)

  below_reached : (k : ℕ) (n : Node) → Below (IsAt S.config) (RelationGives S u) k n → X n
  below_reached zero n b = absurd b
  below_reached (suc k) n b =
      least_of (RelationGives S u) (relation_grows S u) (relation_finitary S u) (λ m. IsAt S.config m k) (Below (IsAt S.config) (RelationGives S u) k) X
      (below_reached k)
      (λ m at g. relation_reached m (Below (IsAt S.config) (RelationGives S u) k) g)
      n b

pub members_are_reached : (S : Snap) (u : Object) (X : Node → Type 0) → ((d : Defined) → Contains S.config.relations d → IsWhole d.form) → IsReach S u X → (n : Node) → IsMember S u n → X n
members_are_reached S u X whole reach n (k, b) = below_reached S u X whole reach k n b
