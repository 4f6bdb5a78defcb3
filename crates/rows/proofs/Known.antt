-- Where a configuration admits the tuples, it has their relations.
use Rattle.std.proofs.Common.{◌≡◌, List, [], ◌∷◌, Bool, true, false, ap, refl}
use Rattle.std.specs.Prelude.{not, ◌||◌}
use Rattle.std.specs.List.{list_any}
use mathlib.Core.Bool.{true≢false}
use Rattle.names.specs.declared.write.Op.{Op}
use Rattle.meaning.specs.Admits.{admits}
use Rattle.meaning.specs.Config.{Configured}
use Rattle.meaning.specs.Verdict.{is_unknown, is_untyped}
use Rattle.versions.proofs.Admitted.{admits_known}

admitted : (b : Bool) → not b ≡ false → b ≡ true
admitted true h = refl
admitted false h = absurd (true≢false h)

first_no : (a b : Bool) → (a || b) ≡ false → a ≡ false
first_no true b h = absurd (true≢false h)
first_no false b h = refl

second_no : (a b : Bool) → (a || b) ≡ false → b ≡ false
second_no true b h = absurd (true≢false h)
second_no false b h = h

neither : (a b : Bool) → a ≡ false → b ≡ false → (a || b) ≡ false
neither true b h k = absurd (true≢false h)
neither false b h k = k

pub all_known : (config : Configured) (ops : List Op) → list_any (is_untyped config) ops ≡ false → list_any (is_unknown config) ops ≡ false
all_known config [] h = refl
all_known config (o ∷ os) h =
    neither (is_unknown config o) (list_any (is_unknown config) os)
    (ap not (admits_known config o.tuple (admitted (admits config o.tuple) (first_no (is_untyped config o) (list_any (is_untyped config) os) h))))
    (all_known config os (second_no (is_untyped config o) (list_any (is_untyped config) os) h))
