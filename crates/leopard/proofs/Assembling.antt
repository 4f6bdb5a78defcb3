-- An index is put together.
use Rattle.std.proofs.Common.{◌≡◌, ℕ, List, refl, subst}
use Rattle.names.specs.Order.{node_cmp}
use Rattle.names.specs.declared.object.Object.{Object}
use Rattle.names.specs.declared.node.Node.{Node}
use Rattle.meaning.specs.Config.{Configured}
use Rattle.meaning.specs.Snap.{Snap}
use Rattle.meaning.proofs.TupleSets.{nodes_total}
use Rattle.config_text.specs.Order.{IsOrdered}
use Rattle.config.specs.Valid as valid
use Rattle.rows.specs.Retained.{AreAdmitted}
use Rattle.leopard.specs.Index.{Index, IsIndexOf}
use Rattle.leopard.specs.Build.{IsBuiltOf}
use Rattle.leopard.specs.inside.Closing.{AreWalkSets}
use Rattle.leopard.specs.inside.Parts.{AreParts}
use Rattle.leopard.proofs.Closures.{walks_are_closures}
use Rattle.leopard.proofs.Indices.{is_index, valid_snap}
use Rattle.leopard.proofs.Making.{listed_closed}
use Rattle.leopard.proofs.Ordered.{ordered_distinct}

module _ (S : Snap) (rev : ℕ) (groups : List Node) (arcs : List (List ℕ)) (users : List Object) (direct closures : List (List ℕ))
    (parts : AreParts S groups arcs users direct) (walks : AreWalkSets arcs closures) where
  abbrev pub built : Index
  built = record { config = S.config; rev = rev; groups = groups; closures = closures; users = users; direct = direct }

  pub is_built : IsBuiltOf S rev built
  is_built = record {
    config = refl;
    rev = refl;
    groups_ascend = parts.groups_ascend;
    groups = parts.listed;
    closures = walks_are_closures S groups arcs (ordered_distinct node_cmp nodes_total groups parts.groups_ascend) parts.arcs_of (listed_closed S groups parts.listed) closures walks;
    users_ascend = parts.users_ascend;
    users = parts.named;
    direct = parts.direct_of;
  }

  pub is_indexed : (c : Configured) → c ≡ S.config → valid.IsValid c → IsOrdered c → AreAdmitted S → IsIndexOf S built
  is_indexed c same v ordered admitted = is_index S rev built is_built (subst valid.IsValid same v) (valid_snap S c same v ordered admitted)
