-- What follows from an outcome.
use Rattle.std.specs.Prelude.{◌≡◌, Option, Some, None, Result, Ok, Err, IfOk, OnOk, OnErr, IfSome, IfNone}
use Rattle.std.specs.Option.{option_map}

pub ok_then : {T E Q : Type 0} (P : T → Type 0) (r : Result T E) → ((x : T) → P x → Q) → IfOk r P → OnOk r Q
ok_then P (Ok x) f p = f x p
ok_then P (Err e) f p = tt

pub if_ok : {T E : Type 0} (P Q : T → Type 0) (r : Result T E) → ((x : T) → P x → Q x) → IfOk r P → IfOk r Q
if_ok P Q (Ok x) f p = f x p
if_ok P Q (Err e) f p = tt

pub err_then : {T E P Q : Type 0} (r : Result T E) → (P → Q) → OnErr r P → OnErr r Q
err_then (Ok x) f p = tt
err_then (Err e) f p = f p

pub none_any : {T P : Type 0} (r : Option T) → P → IfNone r P
none_any None p = p
none_any (Some x) p = tt

-- an option that is this one in other words
pub if_some_as : {A B : Type 0} (f : A → B) (r : Option A) (same : Option B) (P : A → Type 0) → option_map f r ≡ same → ((x : A) → Some (f x) ≡ same → P x) → IfSome r P
if_some_as f None same P is k = tt
if_some_as f (Some x) same P is k = k x is

pub if_none_as : {A B Q : Type 0} (f : A → B) (r : Option A) (same : Option B) → option_map f r ≡ same → (None ≡ same → Q) → IfNone r Q
if_none_as f None same is k = k is
if_none_as f (Some x) same is k = tt

pub ok_any : {T E P : Type 0} (r : Result T E) → P → OnOk r P
ok_any (Ok x) p = p
ok_any (Err e) p = tt
