-- Groups, and the two sets of them that the index keeps (Zanzibar, section 3.2.4).
use Rattle.std.specs.Prelude.{◌≡◌, true, ◌⊎◌}
use Rattle.names.specs.declared.object.Object.{Object}
use Rattle.names.specs.declared.node.Node.{Node}
use Rattle.meaning.specs.Config.{Configured, rel_of}
use Rattle.meaning.specs.Snap.{Snap}
use Rattle.meaning.specs.Membership.{HasOne}
use Rattle.config.specs.Valid.{is_indexed}
use Rattle.graphs.specs.Groups.{GroupWalk}
use Rattle.leopard.specs.Query.{Query, Queries, Member2Group, Group2Group, Union, Intersection, Exclusion, none, more}

-- a node of an indexed relation
abbrev pub IsGroup : Configured → Node → Type 0
IsGroup config n = is_indexed config (rel_of n) ≡ true

-- GROUP2GROUP: the groups to which walks of arcs lead from the group, itself among them
abbrev pub GroupToGroup : Snap → Node → Node → Type 0
GroupToGroup S g n = GroupWalk S g n

-- MEMBER2GROUP: the groups that name the user by a tuple of their own
abbrev pub MemberToGroup : Snap → Object → Node → Type 0
MemberToGroup S u n = IsGroup S.config n × HasOne S n u

-- the groups that the expression means
abbrev mutual
  pub Means : Snap → Query → Node → Type 0
  Means S (Member2Group u) n = MemberToGroup S u n
  Means S (Group2Group g) n = GroupToGroup S g n
  Means S (Union qs) n = SomeMeans S qs n
  Means S (Intersection qs) n = EachMeans S qs n
  Means S (Exclusion a b) n = Means S a n × ¬ (Means S b n)

  pub SomeMeans : Snap → Queries → Node → Type 0
  SomeMeans S none n = ⊥
  SomeMeans S (more q qs) n = Means S q n ⊎ SomeMeans S qs n

  pub EachMeans : Snap → Queries → Node → Type 0
  EachMeans S none n = Unit {0}
  EachMeans S (more q qs) n = Means S q n × EachMeans S qs n
