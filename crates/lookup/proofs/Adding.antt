-- What a loop over a configuration's relations adds to the nodes that were reached.
use Rattle.std.proofs.Common.{◌≡◌, ℕ, ◌+◌, ◌<◌, ◌≤◌, List, length, get_or, map, take, Bool, true, ap, sym, ◌∙◌, subst}
use Rattle.std.specs.Prelude.{Contains, All}
use Rattle.std.proofs.lemmas.List.{take_all}
use Rattle.std.proofs.lemmas.List.Elements.{All-more, All-weaker, All-contains}
use Rattle.names.specs.declared.object.Object.{Object}
use Rattle.names.specs.declared.node.Node.{Node}
use Rattle.meaning.specs.Form.{Form}
use Rattle.meaning.specs.Config.{Configured, Defined, Defines, rel_of}
use Rattle.meaning.proofs.Lists.{contains_map_back}
use Rattle.config_text.specs.declared.relation.Relation.{Relation}
use Rattle.config_text.specs.Forms.{defined_of}
use Rattle.lookup.specs.inside.Walking.{Grew}
use Rattle.lookup.proofs.Growing.{grew_has}

-- the object's node of the relation was reached, where the relation's form passes the test
abbrev pub IsAdded : (Form → Bool) → Object → List Node → Relation → Type 0
IsAdded test o reached r = (n : Node) → (defined_of r).rel ≡ rel_of n → n.object ≡ o → test (defined_of r).form ≡ true → Contains reached n

module _ (test : Form → Bool) (o : Object) (rs : List Relation) (i : ℕ) where
  pub one_more_added : (old new : List Node) (r : Relation) → i < length rs → r ≡ get_or rs i r → Grew old new
      → All (IsAdded test o old) (take i rs) → IsAdded test o new r → All (IsAdded test o new) (take (i + 1) rs)
  one_more_added old new r within there grew added this =
      All-more (IsAdded test o new) rs i r within
      (All-weaker (IsAdded test o old) (IsAdded test o new) (λ x is n named at passes. grew_has old new n grew (is n named at passes)) (take i rs) added)
      (subst (IsAdded test o new) there this)

  pub all_added : (reached : List Node) (config : Configured) → length rs ≤ i → map defined_of rs ≡ config.relations → All (IsAdded test o reached) (take i rs)
      → (n : Node) (d : Defined) → Defines config (rel_of n) d → n.object ≡ o → test d.form ≡ true → Contains reached n
  all_added reached config past are added n d defines at passes =
      let each : All (IsAdded test o reached) rs = subst (All (IsAdded test o reached)) (take_all i rs past) added in
      let (r, has, is) = contains_map_back defined_of rs d (subst (λ ds. Contains ds d) (sym are) defines.0) in
      All-contains (IsAdded test o reached) rs r each has n (ap (λ (x : Defined). x.rel) is ∙ defines.1) at (ap (λ (x : Defined). test x.form) is ∙ passes)
