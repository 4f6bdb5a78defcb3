-- What follows from what a result says.
use Rattle.std.specs.Prelude.{Result, Ok, Err, Option, Some, None, OnOk, IfOk, IfErr, IfSome}

pub on_ok : {A E P Q : Type 0} (r : Result A E) → (P → Q) → OnOk r P → OnOk r Q
on_ok (Ok a) f h = f h
on_ok (Err e) f h = h

pub on_err : {A E : Type 0} {P Q : E → Type 0} (r : Result A E) → ((e : E) → P e → Q e) → IfErr r P → IfErr r Q
on_err (Ok a) f h = h
on_err (Err e) f h = f e h

pub on_both : {A E : Type 0} {P Q S : A → Type 0} (r : Result A E) → ((a : A) → P a → Q a → S a) → IfOk r P → IfOk r Q → IfOk r S
on_both (Ok a) f p q = f a p q
on_both (Err e) f p q = p

pub on_some : {A : Type 0} {P Q : A → Type 0} (o : Option A) → ((a : A) → P a → Q a) → IfSome o P → IfSome o Q
on_some None f h = h
on_some (Some a) f h = f a h

pub on_ok_both : {A E P Q S : Type 0} (r : Result A E) → (P → Q → S) → OnOk r P → OnOk r Q → OnOk r S
on_ok_both (Ok a) f p q = f p q
on_ok_both (Err e) f p q = p

pub on_err_both : {A E : Type 0} {P Q S : E → Type 0} (r : Result A E) → ((e : E) → P e → Q e → S e) → IfErr r P → IfErr r Q → IfErr r S
on_err_both (Ok a) f p q = p
on_err_both (Err e) f p q = f e p q
