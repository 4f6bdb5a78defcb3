use Rattle.std.proofs.Common.{Bor, ◌≡◌, ℕ, List, false, ap, sym, ◌∙◌}
use Rattle.std.specs.Prelude.{Option, Some, None, MatchOption, IfNone}
use Rattle.std.specs.Str.Pattern.{FindsTextPrefix}
use Rattle.std.proofs.lemmas.Str.Pattern.{starts_text}
use Rattle.tuple_keys.specs.Texts.{begins}
use Rattle.tuple_keys.proofs.start.Start.rest_of.Goals as goal

none_begins : (p start s : List ℕ) (Q : Bor (List ℕ) → Type 0) (r : Option (Bor (List ℕ))) → p ≡ start → MatchOption r (FindsTextPrefix p s None) Q → IfNone r (begins start s ≡ false)
none_begins p start s Q None is h = ap (λ (l : List ℕ). begins l s) (sym is) ∙ sym (starts_text false p s h)
none_begins p start s Q (Some x) is h = tt

pub returns-clause-none : goal.returns-clause-none
returns-clause-none c = none_begins c.as_str.result.now _ c.args.text.now _ c.strip_prefix.result c.as_str.ensures c.strip_prefix.ensures.cases
