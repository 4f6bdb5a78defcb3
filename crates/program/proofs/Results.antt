-- What follows from what a result says.
use Rattle.std.proofs.Common.{◌≡◌, refl, subst}
use Rattle.std.specs.Prelude.{Result, Ok, Err, OnOk, IfOk, IfErr}

pub ok_at : {A E : Type 0} (P : Type 0) (r : Result A E) (a : A) → r ≡ Ok a → OnOk r P → P
ok_at P r a is h = subst (λ (s : Result _ _). OnOk s P) is h

pub ok_value : {A E : Type 0} (P : A → Type 0) (r : Result A E) (a : A) → r ≡ Ok a → IfOk r P → P a
ok_value P r a is h = subst (λ (s : Result _ _). IfOk s P) is h

pub err_at : {A E : Type 0} (P : E → Type 0) (r : Result A E) (e : E) → r ≡ Err e → IfErr r P → P e
err_at P r e is h = subst (λ (s : Result _ _). IfErr s P) is h

pub ok_of : {A E P Q : Type 0} (r : Result A E) → ((a : A) → r ≡ Ok a → P → Q) → OnOk r P → OnOk r Q
ok_of (Ok a) f h = f a refl h
ok_of (Err e) f h = h

pub err_of : {A E : Type 0} {P Q : E → Type 0} (r : Result A E) → ((e : E) → r ≡ Err e → P e → Q e) → IfErr r P → IfErr r Q
err_of (Ok a) f h = h
err_of (Err e) f h = f e refl h

pub err_both : {A E : Type 0} {P Q S : E → Type 0} (r : Result A E) → ((e : E) → r ≡ Err e → P e → Q e → S e) → IfErr r P → IfErr r Q → IfErr r S
err_both (Ok a) f p q = p
err_both (Err e) f p q = f e refl p q
