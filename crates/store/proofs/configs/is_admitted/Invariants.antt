use Rattle.std.proofs.Common.{◌≡◌, ℕ, ◌<◌, get_or, true}
use Rattle.meaning.specs.Admits.{admits}
use Rattle.store.specs.declared.parts.ReadConfig.{ReadConfig}
use Rattle.store.specs.inside.Following.{is_between}
use Rattle.store.proofs.configs.is_admitted.Given as goal

abbrev pub invariant-loop-place : goal.invariant-loop-place
invariant-loop-place l = (k : ℕ) (d : ReadConfig) → k < l.place → is_between l.from l.span.removed (get_or l.configs k d).rev ≡ true → admits (get_or l.configs k d).config l.span.tuple ≡ true
