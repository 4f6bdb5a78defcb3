-- What follows from an outcome.
use Rattle.std.specs.Prelude.{◌≡◌, Option, Some, IfSome, Result, Ok, Err, IfOk, IfErr, OnOk}
use Rattle.std.proofs.Common.{subst}

pub some_is : {A : Type 0} (o : Option A) (x : A) (P : A → Type 0) → o ≡ Some x → IfSome o P → P x
some_is {A = A} o x P is p = subst (λ (q : Option A). IfSome q P) is p

pub if_ok : {T E : Type 0} (P Q : T → Type 0) (r : Result T E) → ((x : T) → P x → Q x) → IfOk r P → IfOk r Q
if_ok P Q (Ok x) f p = f x p
if_ok P Q (Err e) f p = tt

pub ok_then : {T E Q : Type 0} (P : T → Type 0) (r : Result T E) → ((x : T) → P x → Q) → IfOk r P → OnOk r Q
ok_then P (Ok x) f p = f x p
ok_then P (Err e) f p = tt

pub if_err : {T E : Type 0} (P Q : E → Type 0) (r : Result T E) → ((e : E) → P e → Q e) → IfErr r P → IfErr r Q
if_err P Q (Ok x) f p = tt
if_err P Q (Err e) f p = f e p

pub ok_all : {T E P Q R S : Type 0} (r : Result T E) → (P → Q → R → S) → OnOk r P → OnOk r Q → OnOk r R → OnOk r S
ok_all (Ok x) f p q s = f p q s
ok_all (Err e) f p q s = tt
