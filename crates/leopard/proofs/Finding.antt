-- Groups that are found: by their ids, and others that have none.
use Rattle.std.proofs.Common.{◌≡◌, ℕ, List, [], ◌∷◌, Bool, true, false, refl, ap, sym, subst, ◌∙◌, inl, inr, ⊎_elim, Result, Ok, Err, IfOk}
use Rattle.std.specs.Prelude.{◌↔◌, ◌⊎◌, ◌&&◌, ◌||◌, not, Any, Contains, Some, nat_eq, slice_index_or}
use Rattle.std.specs.List.{slice_get}
use Rattle.std.proofs.lemmas.Bool.{and_parts, or_cases, false≢true, eqb-true, eq-eqb}
use Rattle.std.proofs.lemmas.Option.{none-some, same_Some}
use Rattle.names.specs.declared.object.Object.{Object}
use Rattle.names.specs.declared.node.Node.{Node}
use Rattle.meaning.specs.Config.{rel_of}
use Rattle.meaning.specs.Snap.{Snap}
use Rattle.meaning.proofs.Lists.{contains_none}
use Rattle.config.specs.Valid.{is_indexed}
use Rattle.idsets.specs.Naming.{AreDistinct}
use Rattle.idsets.specs.Sets.{has}
use Rattle.leopard.specs.declared.expr.Expr.{Expr}
use Rattle.leopard.specs.declared.found.Found.{Found}
use Rattle.leopard.specs.Exprs.{query_of, part_queries}
use Rattle.graphs.specs.Groups.{GroupWalk}
use Rattle.leopard.specs.Groups.{IsGroup, GroupToGroup, Means, EachMeans}
use Rattle.leopard.specs.Index.{Index, bare, IsKeptOf, LeadsTo, NamesUser}
use Rattle.leopard.specs.inside.Asking.{AreAll, Gains}
use Rattle.leopard.specs.Finding.{Finds, AreUnnamed, AreApart, AreFound}
use Rattle.leopard.proofs.Gather.{any_contains}
use Rattle.leopard.proofs.Indices.{or_false, indexed_is}

pub finds_nothing : (names : List Node) (ids : List ℕ) (others : List Node) (n : Node) → ids ≡ [] → others ≡ [] → Finds names ids others n → ⊥
finds_nothing names ids others n none nothing (inl (id, at, is)) = false≢true (ap (λ l. has l id) (sym none) ∙ is)
finds_nothing names ids others n none nothing (inr c) = contains_none n (subst (λ (ns : List Node). Contains ns n) nothing c)

or_left : (a b : Bool) → a ≡ true → (a || b) ≡ true
or_left a b e = ap (λ t. t || b) e

or_right : (a b : Bool) → b ≡ true → (a || b) ≡ true
or_right true b e = refl
or_right false b e = e

both_true : (a b : Bool) → a ≡ true → b ≡ true → (a && b) ≡ true
both_true a b e f = ap (λ t. t && b) e ∙ f

module _ (names : List Node) (a b ids : List ℕ) (ao bo others : List Node) (n : Node) where
  pub finds_either : ((id : ℕ) → has ids id ≡ (has a id || has b id)) → Gains (Contains bo) ao others → Finds names ids others n ↔ (Finds names a ao n ⊎ Finds names b bo n)
  finds_either are gains = (
    λ f. ⊎_elim
        (λ (id, at, is). ⊎_elim (λ e. inl (inl (id, at, e))) (λ e. inr (inl (id, at, e))) (or_cases (has a id) (has b id) (sym (are id) ∙ is)))
        (λ c. ⊎_elim (λ e. inl (inr e)) (λ e. inr (inr e)) ((gains n).0 c))
        f,
    λ f. ⊎_elim
        (λ g. ⊎_elim
        (λ (id, at, is). inl (id, at, are id ∙ or_left (has a id) (has b id) is))
        (λ c. inr ((gains n).1 (inl c)))
        g)
        (λ g. ⊎_elim
        (λ (id, at, is). inl (id, at, are id ∙ or_right (has a id) (has b id) is))
        (λ c. inr ((gains n).1 (inr c)))
        g)
        f,
  )

  pub finds_both : AreApart names ao bo → ((id : ℕ) → has ids id ≡ (has a id && has b id)) → AreAll (λ m. Contains ao m × Contains bo m) others → Finds names ids others n ↔ (Finds names a ao n × Finds names b bo n)
  finds_both apart are all = (
    λ f. ⊎_elim
        (λ (id, at, is). let e = and_parts (has a id) (has b id) (sym (are id) ∙ is) in (inl (id, at, e.0), inl (id, at, e.1)))
        (λ c. let e = (all n).0 c in (inr e.0, inr e.1))
        f,
    λ (f, g). ⊎_elim
        (λ (id, at, is). ⊎_elim
        (λ (jd, there, has_it).
        let same : jd ≡ id = apart.distinct jd id n there at in
        inl (id, at, are id ∙ both_true (has a id) (has b id) is (subst (λ k. has b k ≡ true) same has_it)))
        (λ c. absurd (apart.second n id c at))
        g)
        (λ c. ⊎_elim
        (λ (jd, there, has_it). absurd (apart.first n jd c there))
        (λ d. inr ((all n).1 (c, d)))
        g)
        f,
  )

  pub finds_less : AreApart names ao bo → ((id : ℕ) → has ids id ≡ (has a id && not (has b id))) → AreAll (λ m. Contains ao m × ¬ (Contains bo m)) others
      → Finds names ids others n ↔ (Finds names a ao n × ¬ (Finds names b bo n))
  finds_less apart are all = (
    λ f. ⊎_elim
        (λ (id, at, is).
        let e = and_parts (has a id) (not (has b id)) (sym (are id) ∙ is) in (
          inl (id, at, e.0),
          λ g. ⊎_elim
              (λ (jd, there, has_it). false≢true (sym (ap not (subst (λ k. has b k ≡ true) (apart.distinct jd id n there at) has_it)) ∙ e.1))
              (λ c. apart.second n id c at)
              g,
        ))
        (λ c.
        let e = (all n).0 c in (
          inr e.0,
          λ g. ⊎_elim
              (λ (jd, there, has_it). apart.first n jd e.0 there)
              (λ d. e.1 d)
              g,
        ))
        f,
    λ (f, lacks). ⊎_elim
        (λ (id, at, is). inl (id, at, are id ∙ both_true (has a id) (not (has b id)) is (lacking lacks id at)))
        (λ c. inr ((all n).1 (c, λ d. lacks (inr d))))
        f,
  )
    where
      lacking : (Finds names b bo n → ⊥) → (id : ℕ) → slice_get names id ≡ Some n → not (has b id) ≡ true
      lacking lacks id at = elim (has b id) as (λ t. has b id ≡ t → not t ≡ true) [
        | true ↦ λ e. absurd (lacks (inl (id, at, e)))
        | false ↦ λ e. refl
      ] refl

-- none of those that are gained has an id
pub unnamed_gains : (names ao bo others : List Node) → Gains (Contains bo) ao others → AreUnnamed names ao → AreUnnamed names bo → AreUnnamed names others
unnamed_gains names ao bo others gains first second n id c at = ⊎_elim (λ h. first n id h at) (λ h. second n id h at) ((gains n).0 c)

pub unnamed_kept : (names ao others : List Node) (Q : Node → Type 0) → AreAll (λ m. Contains ao m × Q m) others → AreUnnamed names ao → AreUnnamed names others
unnamed_kept names ao others Q all first n id c at = first n id ((all n).0 c).0 at

-- what the base has and the other lacks
pub found_less : (names : List Node) (P Q : Node → Type 0) (a b ids : List ℕ) (ao bo others : List Node) → AreDistinct names → AreFound names P a ao → AreFound names Q b bo
    → ((n : Node) → AreApart names ao bo → Finds names ids others n ↔ (Finds names a ao n × ¬ (Finds names b bo n))) → (AreUnnamed names ao → AreUnnamed names others)
    → AreFound names (λ n. P n × ¬ (Q n)) ids others
found_less names P Q a b ids ao bo others distinct has lacked are stay = record {
  unnamed = stay has.unnamed;
  all = λ n.
      let is = are n (record { distinct = distinct; first = has.unnamed; second = lacked.unnamed }) in (
        λ f. let (h, lacks) = is.0 f in ((has.all n).0 h, λ q. lacks ((lacked.all n).1 q)),
        λ (p, lacks). is.1 ((has.all n).1 p, λ h. lacks ((lacked.all n).0 h)),
      );
}

-- ---- what an index keeps of one group or one user

module _ (x : Index) (distinct : AreDistinct x.groups) (node : Node) where
  -- a group that has no id
  pub other_more : (ids : List ℕ) (ao others : List Node) → ((id : ℕ) → slice_get x.groups id ≡ Some node → ⊥) → Gains (λ m. m ≡ node) ao others → (n : Node)
      → Finds x.groups ids others n ↔ (Finds x.groups ids ao n ⊎ IsKeptOf x node n)
  other_more ids ao others missing gains n = (
    λ f. ⊎_elim
        (λ h. inl (inl h))
        (λ c. ⊎_elim (λ o. inl (inr o)) (λ e. inr (inl (sym e))) ((gains n).0 c))
        f,
    λ f. ⊎_elim
        (λ g. ⊎_elim (λ h. inl h) (λ o. inr ((gains n).1 (inl o))) g)
        (λ g. ⊎_elim (λ e. inr ((gains n).1 (inr (sym e)))) (λ (at, there, kept). absurd (missing at there)) g)
        f,
  )

  pub other_unnamed : (ao others : List Node) → ((id : ℕ) → slice_get x.groups id ≡ Some node → ⊥) → Gains (λ m. m ≡ node) ao others → AreUnnamed x.groups ao → AreUnnamed x.groups others
  other_unnamed ao others missing gains first n id c at = ⊎_elim (λ o. first n id o at) (λ e. missing id (at ∙ ap (λ z. Some z) e)) ((gains n).0 c)

  -- a group that has one
  pub kept_more : (a kept b ids : List ℕ) (others : List Node) (at : ℕ) → slice_get x.groups at ≡ Some node → kept ≡ slice_index_or x.closures at []
      → ((id : ℕ) → has b id ≡ (has a id || has kept id)) → ((id : ℕ) → has ids id ≡ (nat_eq id at || has b id)) → (n : Node)
      → Finds x.groups ids others n ↔ (Finds x.groups a others n ⊎ IsKeptOf x node n)
  kept_more a kept b ids others at there set joins adds n = (
    λ f. ⊎_elim
        (λ (id, is, h). ⊎_elim
        (λ e. inr (inl (same_Some node n (sym there ∙ sym (ap (slice_get x.groups) (eqb-true id at e)) ∙ is))))
        (λ h2. ⊎_elim
        (λ h3. inl (inl (id, is, h3)))
        (λ h3. inr (inr (at, there, (id, is, subst (λ l. has l id ≡ true) set h3))))
        (or_cases (has a id) (has kept id) (sym (joins id) ∙ h2)))
        (or_cases (nat_eq id at) (has b id) (sym (adds id) ∙ h)))
        (λ c. inl (inr c))
        f,
    λ f. ⊎_elim
        (λ g. ⊎_elim
        (λ (id, is, h). inl (id, is, adds id ∙ or_right (nat_eq id at) (has b id) (joins id ∙ or_left (has a id) (has kept id) h)))
        (λ c. inr c)
        g)
        (λ g. ⊎_elim
        (λ e. inl (at, there ∙ ap (λ z. Some z) e, adds at ∙ or_left (nat_eq at at) (has b at) (eq-eqb at at refl)))
        (λ (k, here, (id, is, h)).
        let one : k ≡ at = distinct k at node here there in
        inl (id, is, adds id ∙ or_right (nat_eq id at) (has b id) (joins id ∙ or_right (has a id) (has kept id) (subst (λ l. has l id ≡ true) (ap (λ j. slice_index_or x.closures j []) one ∙ sym set) h))))
        g)
        f,
  )

-- what is kept of all groups to which computed usersets alone lead
pub leads_all : (x : Index) (g : Node) (nodes : List Node) → AreAll (GroupWalk (bare x.config) g) nodes → (n : Node) → Any (λ h. IsKeptOf x h n) nodes ↔ LeadsTo x g n
leads_all x g nodes all n = (
  λ (k, h, lt, e, kept). (h, (all h).0 (k, lt, e), kept),
  λ (h, walk, kept). any_contains (λ m. IsKeptOf x m n) nodes h ((all h).1 walk) kept,
)

-- the groups that name a user whose set is this
pub direct_found : (x : Index) (user : Object) (at : ℕ) (ids : List ℕ) (others : List Node) → AreDistinct x.users → slice_get x.users at ≡ Some user → ids ≡ slice_index_or x.direct at [] → others ≡ []
    → AreFound x.groups (NamesUser x user) ids others
direct_found x user at ids others distinct there set nothing = record {
  unnamed = λ n id c is. contains_none n (subst (λ (ns : List Node). Contains ns n) nothing c);
  all = λ n. (
    λ f. ⊎_elim
        (λ (id, is, h). (at, there, (id, is, subst (λ l. has l id ≡ true) set h)))
        (λ c. absurd (contains_none n (subst (λ (ns : List Node). Contains ns n) nothing c)))
        f,
    λ (k, here, (id, is, h)). inl (id, is, subst (λ l. has l id ≡ true) (ap (λ j. slice_index_or x.direct j []) (distinct k at user here there) ∙ sym set) h),
  );
}

-- nobody is named
pub direct_none : (x : Index) (user : Object) (ids : List ℕ) (others : List Node) → ((at : ℕ) → slice_get x.users at ≡ Some user → ⊥) → ((n : Node) → Finds x.groups ids others n → ⊥) → AreUnnamed x.groups others
    → AreFound x.groups (NamesUser x user) ids others
direct_none x user ids others missing none unnamed = record {
  unnamed = unnamed;
  all = λ n. (λ f. absurd (none n f), λ (at, there, kept). absurd (missing at there));
}

-- the same, of a call's result, under what is asked of the snapshot
pub less_of : {E : Type 0} (names : List Node) (tells : Snap → Type 0) (P Q : Snap → Node → Type 0) (one other : Snap → Bool) (a b : Found) (r : Result Found E)
    → ((S : Snap) → tells S → AreDistinct names)
    → ((S : Snap) → tells S → one S ≡ false → AreFound names (P S) a.ids a.others.keys)
    → ((S : Snap) → tells S → other S ≡ false → AreFound names (Q S) b.ids b.others.keys)
    → IfOk r (λ f. (ns : List Node) (n : Node) → AreApart ns a.others.keys b.others.keys → Finds ns f.ids f.others.keys n ↔ (Finds ns a.ids a.others.keys n × ¬ (Finds ns b.ids b.others.keys n)))
    → IfOk r (λ f. (ns : List Node) → AreUnnamed ns a.others.keys → AreUnnamed ns f.others.keys)
    → IfOk r (λ f. (S : Snap) → tells S → (one S || other S) ≡ false → AreFound names (λ n. P S n × ¬ (Q S n)) f.ids f.others.keys)
less_of names tells P Q one other a b (Ok f) distinct has lacked less unnamed = λ S told neither.
    let both = or_false (one S) (other S) neither in
    found_less names (P S) (Q S) a.ids b.ids f.ids a.others.keys b.others.keys f.others.keys (distinct S told) (has S told both.0) (lacked S told both.1) (λ n. less names n) (unnamed names)
less_of names tells P Q one other a b (Err e) distinct has lacked less unnamed = tt

-- what is found of each part, where none is left
pub each_all : (S : Snap) (parts others rest : List Expr) (first : Expr) (n : Node) (Have Initial : Type 0) → parts ≡ first ∷ others → rest ≡ [] → (Initial ↔ Means S (query_of first) n)
    → ((Have × EachMeans S (part_queries rest) n) ↔ (Initial × EachMeans S (part_queries others) n)) → Have ↔ EachMeans S (part_queries parts) n
each_all S parts others rest first n Have Initial is none begins whole = (
  λ h. let (i, e) = whole.0 (h, subst (λ es. EachMeans S (part_queries es) n) (sym none) tt) in subst (λ es. EachMeans S (part_queries es) n) (sym is) (begins.0 i, e),
  λ e. let (m, es) = subst (λ ps. EachMeans S (part_queries ps) n) is e in (whole.1 (begins.1 m, es)).0,
)

-- what is found, in other words
pub found_as : (names : List Node) (P Q : Node → Type 0) (ids : List ℕ) (others : List Node) → ((n : Node) → P n ↔ Q n) → AreFound names P ids others → AreFound names Q ids others
found_as names P Q ids others same are = record {
  unnamed = are.unnamed;
  all = λ n. (λ f. (same n).0 ((are.all n).0 f), λ q. (are.all n).1 ((same n).1 q));
}

-- a closure is asked for of a group
pub closure_as : (S : Snap) (g : Node) (names : List Node) (ids : List ℕ) (others : List Node) → not (is_indexed S.config (rel_of g)) ≡ false
    → (IsGroup S.config g → AreFound names (GroupToGroup S g) ids others) → AreFound names (GroupToGroup S g) ids others
closure_as S g names ids others indexed are = are (indexed_is (is_indexed S.config (rel_of g)) indexed)

-- where no group has an id
pub all_unnamed : (P : Node → Type 0) (ids : List ℕ) (others : List Node) → AreAll P others → AreFound [] P ids others
all_unnamed P ids others all = record {
  unnamed = λ n id c at. none-some n at;
  all = λ n. (λ f. ⊎_elim (λ (id, at, is). absurd (none-some n at)) (λ c. (all n).0 c) f, λ p. inr ((all n).1 p));
}

pub unnamed_all : (P : Node → Type 0) (ids : List ℕ) (others : List Node) → AreFound [] P ids others → AreAll P others
unnamed_all P ids others are n = (
  λ c. (are.all n).0 (inr c),
  λ p. ⊎_elim (λ (id, at, is). absurd (none-some n at)) (λ c. c) ((are.all n).1 p),
)

pub if_ok : {T E : Type 0} (P Q : T → Type 0) (r : Result T E) → ((x : T) → P x → Q x) → IfOk r P → IfOk r Q
if_ok P Q (Ok x) f p = f x p
if_ok P Q (Err e) f p = tt

-- at first nothing is found, and all parts are left
pub none_yet : (names : List Node) (ids : List ℕ) (others : List Node) (n : Node) (Rest : Type 0) → (Finds names ids others n → ⊥) → (Finds names ids others n ⊎ Rest) ↔ Rest
none_yet names ids others n Rest none = (λ h. ⊎_elim (λ f. absurd (none f)) (λ r. r) h, λ r. inr r)

-- the same, in other words
pub all_yet : (Found Rest Whole : Type 0) → (Found → ⊥) → (Rest ↔ Whole) → (Found ⊎ Rest) ↔ Whole
all_yet Found Rest Whole none same = (λ h. ⊎_elim (λ f. absurd (none f)) (λ r. same.0 r) h, λ w. inr (same.1 w))
