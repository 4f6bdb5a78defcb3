-- Only nodes of objects that have tuples are given users.
use Rattle.std.proofs.Common.{ℕ, zero, suc, refl, inl, inr}
use Rattle.std.specs.Prelude.{Contains}
use Rattle.names.specs.declared.object.Object.{Object}
use Rattle.names.specs.declared.node.Node.{Node}
use Rattle.meaning.specs.Snap.{one, set_of}
use Rattle.meaning.specs.Form.{Form, Forms, This, Computed, TupleTo, Union, Intersection, Exclusion, none, more}
use Rattle.meaning.specs.Config.{Defined, IsWhole, AreWhole, IsAt}
use Rattle.meaning.specs.Least.{Below}
use Rattle.meaning.proofs.LeastLemmas.{least_of}
use Rattle.meaning.proofs.GivesLemmas.{relation_grows, relation_finitary}
use Rattle.meaning.specs.Snap.{Snap}
use Rattle.meaning.specs.Membership.{Gives, SomeGives, RelationGives, IsKnown, IsUser}

mutual
  pub gives_known : (S : Snap) (u : Object) (n : Node) (w : Form) (X L : Node → Type 0) → IsWhole w → ((m : Node) → X m → IsKnown S m) → Gives S u n w X L → IsKnown S n
  gives_known S u n This X L whole known (inl h) = (record { node = n; subject = one u }, h, refl)
  gives_known S u n This X L whole known (inr h) = (record { node = n; subject = set_of h.0 }, h.1, refl)
  gives_known S u n (Computed c) X L whole known h = known (record { object = n.object; relation = c }) h
  gives_known S u n (TupleTo t c) X L whole known h = (record { node = record { object = n.object; relation = t }; subject = one h.0 }, h.1, refl)
  gives_known S u n (Union ws) X L whole known h = some_known S u n ws X L whole known h
  gives_known S u n (Intersection none) X L whole known h = absurd whole.0
  gives_known S u n (Intersection (more w ws)) X L whole known h = gives_known S u n w X L whole.1.0 known h.0
  gives_known S u n (Exclusion a b) X L whole known h = gives_known S u n a X L whole.0 known h.0

  pub some_known : (S : Snap) (u : Object) (n : Node) (ws : Forms) (X L : Node → Type 0) → AreWhole ws → ((m : Node) → X m → IsKnown S m) → SomeGives S u n ws X L → IsKnown S n
  some_known S u n none X L whole known h = absurd h
  some_known S u n (more w ws) X L whole known (inl h) = gives_known S u n w X L whole.0 known h
  some_known S u n (more w ws) X L whole known (inr h) = some_known S u n ws X L whole.1 known h

pub relation_known : (S : Snap) (u : Object) (n : Node) (X L : Node → Type 0) → ((d : Defined) → Contains S.config.relations d → IsWhole d.form) → ((m : Node) → X m → IsKnown S m) → RelationGives S u n X L → IsKnown S n
relation_known S u n X L whole known (d, (c, e), g) = gives_known S u n d.form X L (whole d c) known g

mutual
  pub gives_user : (S : Snap) (u : Object) (n : Node) (w : Form) (X L : Node → Type 0) → IsWhole w → ((m : Node) → X m → IsUser S u) → Gives S u n w X L → IsUser S u
  gives_user S u n This X L whole user (inl h) = (record { node = n; subject = one u }, h, refl)
  gives_user S u n This X L whole user (inr h) = user h.0 h.2
  gives_user S u n (Computed c) X L whole user h = user _ h
  gives_user S u n (TupleTo t c) X L whole user h = user _ h.3
  gives_user S u n (Union ws) X L whole user h = some_user S u n ws X L whole user h
  gives_user S u n (Intersection none) X L whole user h = absurd whole.0
  gives_user S u n (Intersection (more w ws)) X L whole user h = gives_user S u n w X L whole.1.0 user h.0
  gives_user S u n (Exclusion a b) X L whole user h = gives_user S u n a X L whole.0 user h.0

  pub some_user : (S : Snap) (u : Object) (n : Node) (ws : Forms) (X L : Node → Type 0) → AreWhole ws → ((m : Node) → X m → IsUser S u) → SomeGives S u n ws X L → IsUser S u
  some_user S u n none X L whole user h = absurd h
  some_user S u n (more w ws) X L whole user (inl h) = gives_user S u n w X L whole.0 user h
  some_user S u n (more w ws) X L whole user (inr h) = some_user S u n ws X L whole.1 user h

-- only users that have tuples are members
pub below_user : (S : Snap) (u : Object) → ((d : Defined) → Contains S.config.relations d → IsWhole d.form) → (k : ℕ) (n : Node) → Below (IsAt S.config) (RelationGives S u) k n → IsUser S u
below_user S u whole zero n b = absurd b
below_user S u whole (suc k) n b =
    least_of (RelationGives S u) (relation_grows S u) (relation_finitary S u) (λ m. IsAt S.config m k) (Below (IsAt S.config) (RelationGives S u) k) (λ m. IsUser S u)
    (below_user S u whole k)
    (λ m at g. gives_user S u m g.0.form (λ p. IsUser S u) (Below (IsAt S.config) (RelationGives S u) k) (whole g.0 g.1.0) (λ p h. h) g.2)
    n b
