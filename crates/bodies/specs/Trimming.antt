-- What the body of a `trim` asks, by what `serde_json` reads from it.
use Rattle.std.specs.Prelude.{List, ℕ, IsSomeAnd, codes}
use Rattle.names.specs.declared.refusal.Refusal.{Refusal}
use Rattle.zookie.specs.declared.Zookie.{Zookie}
use Rattle.bodies.specs.Requests.{ReadsAs, only_text, IsZookieOf, BodyCause}

-- the body asks that the floor be the zookie's revision: `{"floor": text}`
abbrev pub TrimsTo : (List ℕ → Zookie → Type 0) → List ℕ → Zookie → Type 0
TrimsTo IsOf body floor = ReadsAs body (λ d. IsSomeAnd (only_text (codes "floor") d) (λ text. IsOf text floor))

-- the body of a `trim` asks for this
abbrev pub AsksTrim : List ℕ → Zookie → Type 0
AsksTrim body floor = TrimsTo IsZookieOf body floor

-- why the body of a `trim` is refused
abbrev pub TrimBodyCause : List ℕ → Refusal → Type 0
TrimBodyCause body = BodyCause (λ IsOf. (floor : Zookie) × TrimsTo IsOf body floor)
