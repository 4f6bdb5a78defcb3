-- What a refusal says of a part says as much of the whole.
use Rattle.std.proofs.Common.{◌≡◌, ℕ, ◌<◌, List, [], ◌∷◌, length, get_or, zero, suc, sym, ap, subst, inl, inr, arith}
use Rattle.std.specs.Prelude.{Result, Ok, Err, IfOk, IfErr, OnOk, map, All}
use Rattle.std.proofs.lemmas.Result.{MatchResult-weaker}
use Rattle.store.specs.Refused.{DeservedBy}
use Rattle.store.specs.declared.unread.Unread.{Unread}
use Rattle.store.specs.declared.unread.Unread.TheVariants.{Memory, Fault}
use Rattle.store.proofs.Picking.{In}

pub deserved : (P Q : Type 0) (e : Unread) → (Q → P) → DeservedBy P e → DeservedBy Q e
deserved P Q Memory f h = tt
deserved P Q Fault f h = λ q. h (f q)

pub err_deserved : {T : Type 0} (r : Result T Unread) (P Q : Type 0) → (Q → P) → IfErr r (DeservedBy P) → IfErr r (DeservedBy Q)
err_deserved r P Q f h = MatchResult-weaker r h (λ _ x. x) (λ e. deserved P Q e f)

-- what is so of all is so of one
pub one_of : {A : Type 0} (P : A → Type 0) (xs : List A) (i : ℕ) (x : A) → i < length xs → x ≡ get_or xs i x → All P xs → P x
one_of P xs i x lt is all = subst P (sym is) (all i x lt)

pub in_at : {A B : Type 0} (f : A → B) (xs : List A) (i : ℕ) (x : A) → i < length xs → x ≡ get_or xs i x → In (f x) (map f xs)
in_at f [] i x lt is = absurd (omega (arith, lt))
in_at f (y ∷ ys) zero x lt is = inl (ap f is)
in_at f (y ∷ ys) (suc i) x lt is = inr (in_at f ys i x (omega (arith, lt)) is)

pub if_both : {A E : Type 0} (r : Result A E) (P Q R : A → Type 0) → ((a : A) → P a → Q a → R a) → IfOk r P → IfOk r Q → IfOk r R
if_both (Ok a) P Q R f p q = f a p q
if_both (Err e) P Q R f p q = tt

pub on_ok : {A E : Type 0} (r : Result A E) (P : Type 0) → P → OnOk r P
on_ok (Ok a) P h = h
on_ok (Err e) P h = tt
