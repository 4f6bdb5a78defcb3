-- The arcs of a configuration by itself.
use Rattle.std.proofs.Common.{◌≡◌, ℕ, List, [], refl, sym, ◌∙◌}
use Rattle.std.specs.Prelude.{Contains}
use Rattle.std.proofs.lemmas.Bool.{false≢true}
use Rattle.names.specs.declared.node.Node.{Node}
use Rattle.names.specs.declared.tuple.Tuple.{Tuple}
use Rattle.meaning.specs.TupleSet as set
use Rattle.meaning.specs.Snap.{set_of}
use Rattle.meaning.proofs.TupleSets.{contains_empty, contains_iff}
use Rattle.meaning.specs.Form.{Form}
use Rattle.meaning.specs.Config.{Configured, Has, rel_of}
use Rattle.meaning.specs.Membership.{HasSet}
use Rattle.meaning.proofs.Lists.{contains_none}
use Rattle.config.specs.Places.{StandsAt}
use Rattle.graphs.specs.Groups.{IsGroupArc}
use Rattle.leopard.specs.Index.{bare}
use Rattle.leopard.specs.inside.Asking.{AreAll, Gains, IsComputed}
use Rattle.leopard.proofs.Arcs.{arcs_with, arcs_without}

-- there is no tuple
pub no_set : (c : Configured) (n m : Node) → HasSet (bare c) n m → ⊥
no_set c n m h =
    let t : Tuple = record { node = n; subject = set_of m } in
    false≢true (sym (contains_empty t) ∙ (contains_iff set.empty t).1 h)

module _ (c : Configured) (n : Node) where
  only : (m : Node) → Contains [] m → HasSet (bare c) n m
  only m h = absurd (contains_none m h)

  all : (m : Node) → HasSet (bare c) n m → Has c (rel_of m) → Contains [] m
  all m h k = absurd (no_set c n m h)

  known : (m : Node) → HasSet (bare c) n m → Has c (rel_of m)
  known m h = absurd (no_set c n m h)

  pub bare_with : (i : ℕ) (s : StandsAt c (rel_of n) i) (w : Form) → s.defined.form ≡ w → (ends : List Node) → Gains (IsComputed n.object w) [] ends → AreAll (IsGroupArc (bare c) n) ends
  bare_with i s w form ends gains = arcs_with (bare c) n [] only all known c refl i s w form ends gains

  pub bare_without : (Has c (rel_of n) → ⊥) → AreAll (IsGroupArc (bare c) n) []
  bare_without lacks = arcs_without (bare c) n [] only all known lacks
