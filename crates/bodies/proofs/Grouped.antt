-- What bodies ask about groups, and do not ask.
use Rattle.std.proofs.Common.{◌≡◌, ℕ, false, List, refl, sym, ap, ◌∙◌, true≢false}
use Rattle.std.specs.Prelude.{Some, None, codes}
use Rattle.serde_json.specs.Data.{Data}
use Rattle.serde_json.specs.Find.{get}
use Rattle.serde_json.specs.Written.{has_float}
use Rattle.names.specs.Spelling.{node_text}
use Rattle.names.specs.declared.node.Node.{Node}
use Rattle.leopard.specs.Query.{Query, is_allowed}
use Rattle.bodies.specs.Requests.{number_at}
use Rattle.bodies.specs.Grouping.{IsExpr, IsNoExpr, GroupsOf, groups_data}
use Rattle.bodies.specs.inside.Forms.{IsOfNoGroups}
use Rattle.bodies.proofs.Alike.{same_allowed}
use Rattle.bodies.proofs.Listing.{texts_plain}
use Rattle.bodies.proofs.Options.{so_of, not_so}

pub no_expr_there : (d : Data) → get (codes "expr") d ≡ None → IsOfNoGroups d
no_expr_there d none asked limit f = not_so (λ v. IsExpr v asked) (get (codes "expr") d) none f.expr

-- the member, which is there
module _ (d there : Data) (at : Some there ≡ get (codes "expr") d) where
  asked_of : (asked : Query) (limit : ℕ) → GroupsOf d asked limit → IsExpr there asked
  asked_of asked limit f = so_of (λ v. IsExpr v asked) (get (codes "expr") d) there at f.expr

  pub no_expr : IsNoExpr there → IsOfNoGroups d
  no_expr not asked limit f = not asked (asked_of asked limit f)

  pub not_allowed : (q : Query) (n : ℕ) → IsExpr there q → number_at (codes "limit") d ≡ Some n → is_allowed q n ≡ false → IsOfNoGroups d
  not_allowed q n is many refused asked limit f =
      let both : Some limit ≡ Some n = sym f.limit_at ∙ many in
      let same : limit ≡ n = cc in
      true≢false (sym f.allowed ∙ ap (is_allowed asked) same ∙ same_allowed there asked q n (asked_of asked limit f) is ∙ refused)

pub groups_plain : (ns : List Node) (zookie : List ℕ) → has_float (groups_data ns zookie) ≡ false
groups_plain ns zookie = rw (texts_plain node_text ns) refl
