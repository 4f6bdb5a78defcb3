-- Which users a userset tree means (Zanzibar, section 2.4).
use Rattle.std.specs.Prelude.{◌≡◌, ◌⊎◌}
use Rattle.names.specs.declared.object.Object.{Object}
use Rattle.meaning.specs.Snap.{Snap}
use Rattle.meaning.specs.Membership.{IsMember}
use Rattle.expand.specs.UsersetTree.{UsersetTree, UsersetTrees, Opened, One, Closed, Union, Intersection, Exclusion, none, more}

-- an object means itself, a closed userset its members, an opened one what its tree means; the others are union, intersection and difference
abbrev mutual
  pub Means : Snap → Object → UsersetTree → Type 0
  Means S u (Opened n t) = Means S u t
  Means S u (One o) = o ≡ u
  Means S u (Closed n) = IsMember S u n
  Means S u (Union ts) = SomeMeans S u ts
  Means S u (Intersection ts) = EachMeans S u ts
  Means S u (Exclusion a b) = Means S u a × ¬ (Means S u b)

  pub SomeMeans : Snap → Object → UsersetTrees → Type 0
  SomeMeans S u none = ⊥
  SomeMeans S u (more t ts) = Means S u t ⊎ SomeMeans S u ts

  pub EachMeans : Snap → Object → UsersetTrees → Type 0
  EachMeans S u none = Unit {0}
  EachMeans S u (more t ts) = Means S u t × EachMeans S u ts
