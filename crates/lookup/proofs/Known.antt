-- Only objects that tuples are of have users.
use Rattle.std.proofs.Common.{ℕ, zero, suc}
use Rattle.std.specs.Prelude.{Contains}
use Rattle.names.specs.declared.object.Object.{Object}
use Rattle.names.specs.declared.node.Node.{Node}
use Rattle.meaning.specs.Config.{Defined, IsWhole, IsAt}
use Rattle.meaning.specs.Least.{Below}
use Rattle.meaning.specs.Snap.{Snap}
use Rattle.meaning.specs.Membership.{RelationGives, IsKnown}
use Rattle.meaning.proofs.GivesLemmas.{relation_grows, relation_finitary}
use Rattle.meaning.proofs.KnownLemmas.{relation_known}
use Rattle.meaning.proofs.LeastLemmas.{least_of}
use Rattle.lookup.specs.Law.{OnlyKnownHaveUsers}

below_known : (S : Snap) (u : Object) → ((d : Defined) → Contains S.config.relations d → IsWhole d.form) → (k : ℕ) (n : Node) → Below (IsAt S.config) (RelationGives S u) k n → IsKnown S n
below_known S u whole zero n b = absurd b
below_known S u whole (suc k) n b =
    least_of (RelationGives S u) (relation_grows S u) (relation_finitary S u) (λ m. IsAt S.config m k) (Below (IsAt S.config) (RelationGives S u) k) (λ m. IsKnown S m)
    (below_known S u whole k)
    (λ m at g. relation_known S u m (λ p. IsKnown S p) (Below (IsAt S.config) (RelationGives S u) k) whole (λ p h. h) g)
    n b

pub only_known : OnlyKnownHaveUsers
only_known S u n whole (k, b) = below_known S u whole k n b
