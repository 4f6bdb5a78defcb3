-- A walk that looks at each node once.
use Rattle.std.proofs.Common.{◌≡◌, List, [], ◌∷◌, ◌++◌, length, refl, arith, sym, subst, inl, inr, ⊎_elim}
use Rattle.std.specs.Prelude.{Contains}
use Rattle.std.proofs.lemmas.List.Elements.{Contains-append_left, Contains-append_right, Contains-append_cases, Contains-push, Contains-push_cases}
use Rattle.names.specs.declared.node.Node.{Node}
use Rattle.meaning.specs.Snap.{Snap}
use Rattle.meaning.proofs.Lists.{contains_here, contains_cases, contains_none}
use Rattle.graphs.specs.Groups.{IsGroupArc, GroupWalk, here, on}
use Rattle.leopard.specs.inside.Asking.{AreAll, Gains, Sees, IsUnderWay}

pub see_none : (seen left : List Node) → Sees [] seen left seen left
see_none seen left = record {
  seen = λ n. (inl, λ h. ⊎_elim (λ c. c) (λ c. absurd (contains_none n c)) h);
  kept = λ n c. c;
  only = λ n c. inl c;
  fresh = λ n c. inl c;
}

-- more ends
pub see_more : (a b os ol s l s' l' : List Node) → Sees a os ol s l → Sees b s l s' l' → Sees (a ++ b) os ol s' l'
see_more a b os ol s l s' l' first second = record {
  seen = λ n. (
    λ c. ⊎_elim
        (λ old. ⊎_elim inl (λ f. inr (Contains-append_left a b n f)) ((first.seen n).0 old))
        (λ f. inr (Contains-append_right a b n f))
        ((second.seen n).0 c),
    λ h. (second.seen n).1 (⊎_elim
        (λ o. inl ((first.seen n).1 (inl o)))
        (λ c. ⊎_elim (λ f. inl ((first.seen n).1 (inr f))) inr (Contains-append_cases a b n c))
        h),
  );
  kept = λ n c. second.kept n (first.kept n c);
  only = λ n c. ⊎_elim
      (λ f. ⊎_elim inl (λ g. inr (Contains-append_left a b n g)) (first.only n f))
      (λ f. inr (Contains-append_right a b n f))
      (second.only n c);
  fresh = λ n c. ⊎_elim
      (λ old. ⊎_elim inl (λ f. inr (second.kept n f)) (first.fresh n old))
      inr
      (second.fresh n c);
}

module _ (s l s' : List Node) (e : Node) (puts : Gains (λ n. n ≡ e) s s') where
  one_of : (n : Node) → Contains (e ∷ []) n → n ≡ e
  one_of n c = ⊎_elim (λ is. sym is) (λ f. absurd (contains_none n f)) (contains_cases e n [] c)

  see_gains : Gains (Contains (e ∷ [])) s s'
  see_gains n = (
    λ c. ⊎_elim inl (λ is. inr (subst (Contains (e ∷ [])) (sym is) (contains_here e []))) ((puts n).0 c),
    λ h. (puts n).1 (⊎_elim inl (λ c. inr (one_of n c)) h),
  )

  -- an end that is new
  pub see_new : Sees (e ∷ []) s l s' (l ++ e ∷ [])
  see_new = record {
    seen = see_gains;
    kept = λ n c. Contains-append_left l (e ∷ []) n c;
    only = λ n c. Contains-append_cases l (e ∷ []) n c;
    fresh = λ n c. ⊎_elim inl (λ f. inr (Contains-append_right l (e ∷ []) n f)) ((see_gains n).0 c);
  }

  -- one that was seen before
  pub see_again : Contains s e → Sees (e ∷ []) s l s' l
  see_again there = record {
    seen = see_gains;
    kept = λ n c. c;
    only = λ n c. inl c;
    fresh = λ n c. inl (⊎_elim (λ o. o) (λ is. subst (Contains s) (sym is) there) ((puts n).0 c));
  }

module _ (S : Snap) (g : Node) where
  pub began : (seen left : List Node) → Sees (g ∷ []) [] [] seen left → IsUnderWay S g seen left
  began seen left sees = record {
    start = (sees.seen g).1 (inr (contains_here g []));
    walked = λ n c. ⊎_elim
        (λ f. absurd (contains_none n f))
        (λ f. ⊎_elim (λ is. subst (GroupWalk S g) is here) (λ k. absurd (contains_none n k)) (contains_cases g n [] f))
        ((sees.seen n).0 c);
    noted = λ n c. (sees.seen n).1 (sees.only n c);
    closed = λ n m c a. ⊎_elim (λ f. absurd (contains_none n f)) inr (sees.fresh n c);
  }

  -- the same, after a copy of the group was noted where nothing was
  pub begun : (copy : Node) (s l seen left : List Node) → copy ≡ g → s ≡ [] → l ≡ [] → Sees (copy ∷ []) s l seen left → IsUnderWay S g seen left
  begun copy s l seen left is none nothing sees = began seen left
      (subst (λ (ns : List Node). Sees (g ∷ []) ns [] seen left) none (subst (λ (ns : List Node). Sees (g ∷ []) s ns seen left) nothing (subst (λ (k : Node). Sees (k ∷ []) s l seen left) is sees)))

  pub further : (seen left0 left1 seen2 left2 ends : List Node) (node : Node) → IsUnderWay S g seen left0 → left0 ≡ left1 ++ node ∷ [] → AreAll (IsGroupArc S node) ends
      → Sees ends seen left1 seen2 left2 → IsUnderWay S g seen2 left2
  further seen left0 left1 seen2 left2 ends node way is arcs sees = record {
    start = (sees.seen g).1 (inl way.start);
    walked = λ n c. ⊎_elim
        (λ old. way.walked n old)
        (λ e. on (way.walked node (way.noted node (subst (λ (ns : List Node). Contains ns node) (sym is) (Contains-push left1 node)))) ((arcs n).0 e))
        ((sees.seen n).0 c);
    noted = λ n c. (sees.seen n).1 (⊎_elim
        (λ f. inl (way.noted n (subst (λ (ns : List Node). Contains ns n) (sym is) (Contains-append_left left1 (node ∷ []) n f))))
        inr
        (sees.only n c));
    closed = λ n m c a. ⊎_elim
        (λ old. ⊎_elim
        (λ f. inl ((sees.seen m).1 (inl f)))
        (λ f. ⊎_elim
        (λ k. inr (sees.kept n k))
        (λ same. inl ((sees.seen m).1 (inr ((arcs m).1 (subst (λ (k : Node). IsGroupArc S k m) (sym same) a)))))
        (Contains-push_cases left1 node n (subst (λ (ns : List Node). Contains ns n) is f)))
        (way.closed n m old a))
        inr
        (sees.fresh n c);
  }

  pub arrived : (seen left : List Node) → left ≡ [] → IsUnderWay S g seen left → AreAll (GroupWalk S g) seen
  arrived seen left none way n = (λ c. way.walked n c, reach n)
    where
      reach : (n : Node) → GroupWalk S g n → Contains seen n
      reach n here = way.start
      reach n (on {g = m} w a) = ⊎_elim (λ c. c) (λ c. absurd (contains_none m (subst (λ (ns : List Node). Contains ns m) none c))) (way.closed m n (reach m w) a)

-- nothing is left where nothing was popped
pub none_left : (left : List Node) → length left ≡ 0 → left ≡ []
none_left [] e = refl
none_left (n ∷ ns) e = absurd (omega (arith, e))
