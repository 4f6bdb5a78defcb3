-- What a head that was found asks for, said of the input.
use Rattle.std.proofs.Common.{◌≡◌, ℕ, List, length, drop, refl, sym, ap, subst, arith}
use Rattle.std.proofs.lemmas.List.{length-append}
use Rattle.httparse.specs.Grammar.{RequestHead, print_request}
use Rattle.answers.specs.declared.end.End.TheVariants.{Asked}
use Rattle.http_api.specs.declared.looking.Refused.TheVariants.{Malformed, NoLength, TooLarge}
use Rattle.http_api.specs.declared.looking.Looked.{Looked}
use Rattle.http_api.specs.declared.looking.Looked.TheVariants.{Request, Refused as RefusedFor, Partial}
use Rattle.http_api.specs.Heads.{Begins}
use Rattle.http_api.specs.Connection.{NoRequest, unclear_length, no_length, too_large}
use Rattle.http_api.specs.inside.Looking.{AsksFor, IfHeading, IfRefused, HasHeading, refusal_text}

pub request_found : (input : List ℕ) (h : RequestHead) (len : ℕ) (looked : Looked) → Begins input h (drop len input) → len ≡ length (print_request h)
    → AsksFor h len looked → IfHeading looked (λ heading. (x : RequestHead) × HasHeading input x heading)
request_found input h len (Request heading) b e a = (
  h,
  record {
    begins = subst (λ n. Begins input h (drop n input)) (sym a.0) b;
    within = omega (arith, a.0, e, ap length b.reads.1, length-append (print_request h) (drop len input));
    short = omega (arith, a.0, e, b.short);
    heads = a.1;
  },
)
request_found input h len (RefusedFor why) b e a = tt
request_found input h len Partial b e a = tt

pub refused_found : (input : List ℕ) (h : RequestHead) (len : ℕ) (looked : Looked) → Begins input h (drop len input)
    → AsksFor h len looked → IfRefused looked (λ why. NoRequest input (refusal_text why) Asked)
refused_found input h len (Request heading) b a = tt
refused_found input h len (RefusedFor Malformed) b a = unclear_length h _ b a refl refl
refused_found input h len (RefusedFor NoLength) b a = no_length h _ b a refl refl
refused_found input h len (RefusedFor TooLarge) b a = too_large h _ a.0 b a.1 a.2 refl refl
refused_found input h len Partial b a = tt
