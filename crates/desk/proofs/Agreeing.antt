-- What tables agree with, after a call.
use Rattle.std.proofs.Common.{◌≡◌, Bool, false, List, [], ◌∷◌, map, inl, inr, subst}
use Rattle.std.proofs.lemmas.List.Elements.{All-nil, All-cons}
use Rattle.rows.specs.Retained.{Retained}
use Rattle.tables.specs.Leaving.{AreAmong}
use Rattle.tables.specs.Changing.{with_change}
use Rattle.tables.specs.declared.change.TableChange.{TableChange}
use Rattle.tables.specs.declared.tables.Tables.{Ghosts}
use Rattle.desk.specs.TableChanges.{changed, CanChange}
use Rattle.desk.specs.Posts.{Agrees}
use Rattle.desk.specs.inside.Changing.{plain}
use Rattle.desk.proofs.Changing.{changed_alike}

swap : (a b : Retained) (rs : List Retained) → AreAmong (a ∷ b ∷ rs) (b ∷ a ∷ rs)
swap a b rs x (inl is) = inr (inl is)
swap a b rs x (inr (inl is)) = inl is
swap a b rs x (inr (inr more)) = inr (inr more)

module _ {T : Type 0} (g : Ghosts T) where
  -- what is left holds this history alone
  pub agrees_anew : (failed : Bool) (tables : T) (r : Retained) → g.holds tables r → g.leaves tables (r ∷ []) → Agrees g failed tables r
  agrees_anew failed tables r held settled = record { holds = λ works. held; more = []; follow = All-nil (CanChange r); leaves = settled }

  -- the call may have added a change to what they leave
  pub agrees_on : ((t : T) (rs ss : List Retained) → AreAmong rs ss → g.leaves t rs → g.leaves t ss)
      → (was failed : Bool) (old new : T) (r : Retained) (change : TableChange) → Agrees g was old r → CanChange r (plain change) → (failed ≡ false → g.holds new r)
      → ((rs : List Retained) → g.leaves old rs → g.leaves new (with_change r change ∷ rs)) → Agrees g failed new r
  agrees_on weaker was failed old new r change agrees can held adds =
      let one = changed r (plain change) in
      let others = map (changed r) agrees.more in
      record {
        holds = held;
        more = plain change ∷ agrees.more;
        follow = All-cons (CanChange r) (plain change) agrees.more can agrees.follow;
        leaves = weaker new (one ∷ r ∷ others) (r ∷ one ∷ others) (swap one r others)
            (subst (λ (q : Retained). g.leaves new (q ∷ r ∷ others)) (changed_alike r change) (adds (r ∷ others) agrees.leaves));
      }
