-- The numbers of the tuples of events.
use Rattle.std.proofs.Common.{List, [], ◌∷◌, ◌++◌, sym, subst, ⊎_elim}
use Rattle.std.specs.Prelude.{Option, Some, None, Contains}
use Rattle.std.proofs.lemmas.List.Elements.{Contains-push_cases}
use Rattle.names.specs.declared.commit.Event.{Event}
use Rattle.meaning.specs.Config.{Configured}
use Rattle.meaning.proofs.Lists.{contains_none}
use Rattle.direct.specs.Named.{IsDirect}
use Rattle.direct.specs.inside.Keeping.{IsMore, HasNumbers, AreNumbers}
use Rattle.direct.specs.declared.memberships.Memberships.{Memberships}
use Rattle.direct.specs.declared.memberships.Membership.{Membership}
use Rattle.direct.proofs.Tables.{numbers_more}

pub numbers_begin : (config : Configured) (kept : Memberships) (e : Event) → Contains [] e → IsDirect config e.tuple → (m : Membership) × HasNumbers kept e.tuple m
numbers_begin config kept e c direct = absurd (contains_none e c)

pub numbers_push : (config : Configured) (old new : Memberships) (es : List Event) (last : Event) (found : Option Membership) → IsMore old new → AreNumbers config new last.tuple found
    → ((e : Event) → Contains es e → IsDirect config e.tuple → (m : Membership) × HasNumbers old e.tuple m)
    → (e : Event) → Contains (es ++ last ∷ []) e → IsDirect config e.tuple → (m : Membership) × HasNumbers new e.tuple m
numbers_push config old new es last found more numbers before e c direct = ⊎_elim
    (λ d. let m = before e d direct in (m.0, numbers_more old new e.tuple m.0 more m.1))
    (λ d. subst (λ (x : Event). (m : Membership) × HasNumbers new x.tuple m) d (here found numbers (subst (λ (x : Event). IsDirect config x.tuple) (sym d) direct)))
    (Contains-push_cases es last e c)
  where
    here : (found : Option Membership) → AreNumbers config new last.tuple found → IsDirect config last.tuple → (m : Membership) × HasNumbers new last.tuple m
    here None not direct = absurd (not direct)
    here (Some m) is direct = (m, is.1)
