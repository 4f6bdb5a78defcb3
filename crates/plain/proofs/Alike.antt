-- Two snapshots of the same relations and tuples have the same members: the namespaces do not matter.
use Rattle.std.proofs.Common.{◌≡◌, ℕ, zero, suc, ◌<◌, Bool, List, length, get_or, refl, ap, ◌∙◌, sym, subst, inl, inr}
use Rattle.std.specs.Prelude.{◌↔◌, Contains}
use Rattle.names.specs.declared.object.Object.{Object}
use Rattle.names.specs.declared.node.Node.{Node}
use Rattle.names.specs.declared.relation.RelationName.{RelationName}
use Rattle.meaning.specs.TupleSet as set
use Rattle.meaning.specs.Form.{Form, Forms, This, Computed, TupleTo, Union, Intersection, Exclusion, none, more}
use Rattle.meaning.specs.Levels.{IsLevel}
use Rattle.meaning.specs.Config.{Configured, Defined, Has, Leads, Step, StepsTo, SomeStepsTo, IsAt, rel_of}
use Rattle.meaning.specs.Snap.{Snap, one, set_of}
use Rattle.meaning.specs.Least.{Below}
use Rattle.meaning.specs.Membership.{Gives, SomeGives, EachGives, RelationGives, IsMember}
use Rattle.meaning.proofs.LevelLemmas.{level_map}
use Rattle.meaning.proofs.LeastLemmas.{least_of, from_lower, from_given}
use Rattle.meaning.proofs.GivesLemmas.{relation_grows, relation_finitary}
use Rattle.config.specs.Levels.{AreLevels}

-- the relations and the tuples are the same
pub record AreAlike (S T : Snap) : Type 0 where
  pub relations : S.config.relations ≡ T.config.relations
  pub tuples : S.tuples ≡ T.tuples

pub alike_back : (S T : Snap) → AreAlike S T → AreAlike T S
alike_back S T a = record { relations = sym a.relations; tuples = sym a.tuples }

has_alike : (c e : Configured) → c.relations ≡ e.relations → (r : RelationName) → Has c r → Has e r
has_alike c e same r = subst (λ ds. (d : Defined) × (Contains ds d × (d.rel ≡ r))) same

mutual
  gives_alike : (S T : Snap) → AreAlike S T → (u : Object) (n : Node) (w : Form) (X L : Node → Type 0) → Gives S u n w X L → Gives T u n w X L
  gives_alike S T a u n This X L (inl h) = inl (subst (λ ts. Contains (set.items ts) (record { node = n; subject = one u })) a.tuples h)
  gives_alike S T a u n This X L (inr (m, h, x)) = inr (m, subst (λ ts. Contains (set.items ts) (record { node = n; subject = set_of m })) a.tuples h, x)
  gives_alike S T a u n (Computed c) X L h = h
  gives_alike S T a u n (TupleTo t c) X L (p, h, has, x) = (p, subst (λ ts. Contains (set.items ts) (record { node = record { object = n.object; relation = t }; subject = one p })) a.tuples h, has_alike S.config T.config a.relations _ has, x)
  gives_alike S T a u n (Union ws) X L h = some_alike S T a u n ws X L h
  gives_alike S T a u n (Intersection ws) X L h = each_alike S T a u n ws X L h
  gives_alike S T a u n (Exclusion v w) X L h = (gives_alike S T a u n v X L h.0, λ g. h.1 (gives_alike T S (alike_back S T a) u n w L L g))

  some_alike : (S T : Snap) → AreAlike S T → (u : Object) (n : Node) (ws : Forms) (X L : Node → Type 0) → SomeGives S u n ws X L → SomeGives T u n ws X L
  some_alike S T a u n none X L h = h
  some_alike S T a u n (more w ws) X L (inl h) = inl (gives_alike S T a u n w X L h)
  some_alike S T a u n (more w ws) X L (inr h) = inr (some_alike S T a u n ws X L h)

  each_alike : (S T : Snap) → AreAlike S T → (u : Object) (n : Node) (ws : Forms) (X L : Node → Type 0) → EachGives S u n ws X L → EachGives T u n ws X L
  each_alike S T a u n none X L h = h
  each_alike S T a u n (more w ws) X L h = (gives_alike S T a u n w X L h.0, each_alike S T a u n ws X L h.1)

relation_alike : (S T : Snap) → AreAlike S T → (u : Object) (n : Node) (X L : Node → Type 0) → RelationGives S u n X L → RelationGives T u n X L
relation_alike S T a u n X L (d, (c, e), g) = (d, (subst (λ ds. Contains ds d) a.relations c, e), gives_alike S T a u n d.form X L g)

module _ (c e : Configured) (same : c.relations ≡ e.relations) where
  leads_alike : (d : Defined) (t space : List ℕ) → Leads c d t space → Leads e d t space
  leads_alike d t space (b, (h, is), declares) = (b, (subst (λ ds. Contains ds b) same h, is), declares)

  mutual
    steps_alike : (d : Defined) (w : Form) (sign : Bool) (r : RelationName) → StepsTo c d w sign r → StepsTo e d w sign r
    steps_alike d This sign r h = h
    steps_alike d (Computed name) sign r h = h
    steps_alike d (TupleTo t name) sign r h = (h.0, h.1, has_alike c e same r h.2, leads_alike d t r.namespace h.3)
    steps_alike d (Union ws) sign r h = some_steps_alike d ws sign r h
    steps_alike d (Intersection ws) sign r h = some_steps_alike d ws sign r h
    steps_alike d (Exclusion v w) sign r (inl h) = inl (steps_alike d v sign r h)
    steps_alike d (Exclusion v w) sign r (inr (is, (s, h))) = inr (is, (s, steps_alike d w s r h))

    some_steps_alike : (d : Defined) (ws : Forms) (sign : Bool) (r : RelationName) → SomeStepsTo c d ws sign r → SomeStepsTo e d ws sign r
    some_steps_alike d none sign r h = h
    some_steps_alike d (more w ws) sign r (inl h) = inl (steps_alike d w sign r h)
    some_steps_alike d (more w ws) sign r (inr h) = inr (some_steps_alike d ws sign r h)

  step_alike : (from to : RelationName) (sign : Bool) → Step c from sign to → Step e from sign to
  step_alike from to sign (d, (h, is), step) = (d, (subst (λ ds. Contains ds d) same h, is), steps_alike d d.form sign to step)

level_alike : (c e : Configured) → c.relations ≡ e.relations → (r : RelationName) (k : ℕ) → IsLevel (Step c) r k → IsLevel (Step e) r k
level_alike c e same = level_map (Step c) (Step e) (λ r. r) (λ from to sign. step_alike c e same from to sign) (λ from sign to step. (to, step_alike e c (sym same) from to sign step, refl))

pub levels_alike : (c e : Configured) (levels : List ℕ) → c.relations ≡ e.relations → AreLevels c levels → AreLevels e levels
levels_alike c e levels same right = record {
  long = sym (ap length same) ∙ right.long;
  each = λ i d lt is. level_alike c e same d.rel _ (subst (λ ds. (j : ℕ) (d : Defined) → j < length ds → get_or ds j d ≡ d → IsLevel (Step c) d.rel (get_or levels j 0)) same right.each i d lt is);
}

below_alike : (S T : Snap) → AreAlike S T → (u : Object) (k : ℕ) (n : Node) → Below (IsAt S.config) (RelationGives S u) k n → Below (IsAt T.config) (RelationGives T u) k n
below_alike S T a u zero n b = b
below_alike S T a u (suc k) n b =
    least_of (RelationGives S u) (relation_grows S u) (relation_finitary S u) (λ m. IsAt S.config m k) (Below (IsAt S.config) (RelationGives S u) k) (Below (IsAt T.config) (RelationGives T u) (suc k))
    (λ m l. from_lower (RelationGives T u) (relation_grows T u) (relation_finitary T u) (λ p. IsAt T.config p k) (Below (IsAt T.config) (RelationGives T u) k) m (below_alike S T a u k m l))
    (λ m at g. from_given (RelationGives T u) (relation_grows T u) (relation_finitary T u) (λ p. IsAt T.config p k) (Below (IsAt T.config) (RelationGives T u) k) m
    (has_alike S.config T.config a.relations (rel_of m) at.0, level_alike S.config T.config a.relations (rel_of m) k at.1)
    (relation_alike S T a u m (Below (IsAt T.config) (RelationGives T u) (suc k)) (Below (IsAt T.config) (RelationGives T u) k)
    (relation_grows S u m (Below (IsAt T.config) (RelationGives T u) (suc k)) (Below (IsAt T.config) (RelationGives T u) (suc k)) (Below (IsAt S.config) (RelationGives S u) k) (Below (IsAt T.config) (RelationGives T u) k)
    (λ p x. x) (λ p. (below_alike S T a u k p, below_alike T S (alike_back S T a) u k p)) g)))
    n b

pub member_alike : (S T : Snap) → AreAlike S T → (u : Object) (n : Node) → IsMember S u n ↔ IsMember T u n
member_alike S T a u n = (λ (k, b). (k, below_alike S T a u k n b), λ (k, b). (k, below_alike T S (alike_back S T a) u k n b))
