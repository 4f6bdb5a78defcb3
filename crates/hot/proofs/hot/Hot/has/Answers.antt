use Rattle.std.proofs.Common.{◌≡◌, Bool, refl, sym, ap, ◌∙◌}
use Rattle.std.specs.Prelude.{Option, is_some}
use Rattle.std.proofs.lemmas.Bool.{false≢true}
use Rattle.least_sets.specs.World.{has}
use Rattle.region.specs.Tables.{row_of, holds}
use Rattle.hot.proofs.Answering.{kept_exactly, none_under, member_at, stranger_at, row_there, row_gone}
use Rattle.hot.proofs.hot.Hot.has.Goals as goal

pub returns-in_err-id-clause-exactly : goal.returns-in_err-id-clause-exactly
returns-in_err-id-clause-exactly c = λ S is. (
  λ t. absurd (false≢true (sym (ap (λ (o : Option Bool). is_some o) c.from_residual.ensures) ∙ t)),
  λ u. absurd (none_under c.args.self.now S is c.args.node.now c.in_err-id.ensures.missing u),
)

pub returns-in_err-ids-clause-exactly : goal.returns-in_err-ids-clause-exactly
returns-in_err-ids-clause-exactly c = λ S is.
    let hot = c.args.self.now in
    let gone = row_gone (row_of hot.sets.rows c.in_ok-id.id) c.in_err-ids.ensures in (
      λ t. absurd (false≢true (sym (ap (λ (o : Option Bool). is_some o) c.from_residual-in_err-ids.ensures) ∙ t)),
      λ u. absurd (false≢true (sym gone ∙ (kept_exactly hot S is c.in_ok-id.id c.args.node.now c.in_ok-id.ensures.found).1 u)),
    )

pub returns-in-Some-clause-exactly : goal.returns-in-Some-clause-exactly
returns-in-Some-clause-exactly c = λ S is.
    let hot = c.args.self.now in
    let row = row_there (row_of hot.sets.rows c.in_ok-id.id) c.in_ok-ids.ids.now c.in_ok-ids.ensures in
    (λ _. (kept_exactly hot S is c.in_ok-id.id c.args.node.now c.in_ok-id.ensures.found).0 row.0, λ _. refl)

pub returns-in-Some-clause-has : goal.returns-in-Some-clause-has
returns-in-Some-clause-has c = λ S is.
    let hot = c.args.self.now in
    let row = row_there (row_of hot.sets.rows c.in_ok-id.id) c.in_ok-ids.ids.now c.in_ok-ids.ensures in
    let both = member_at hot S is c.in_ok-id.id c.in-Some.number c.args.node.now c.args.user.now c.in_ok-id.ensures.found c.in-Some.ensures.found row.0 in
    let same : c.contains.result ≡ holds hot.sets.rows c.in-Some.number c.in_ok-id.id = c.contains.ensures ∙ ap (λ xs. has xs c.in-Some.number) (sym row.1) in
    (λ t. both.0 (sym same ∙ t), λ m. same ∙ both.1 m)

pub returns-in-None-clause-exactly : goal.returns-in-None-clause-exactly
returns-in-None-clause-exactly c = λ S is.
    let hot = c.args.self.now in
    let row = row_there (row_of hot.sets.rows c.in_ok-id.id) c.in_ok-ids.ids.now c.in_ok-ids.ensures in
    (λ _. (kept_exactly hot S is c.in_ok-id.id c.args.node.now c.in_ok-id.ensures.found).0 row.0, λ _. refl)

pub returns-in-None-clause-has : goal.returns-in-None-clause-has
returns-in-None-clause-has c = λ S is.
    let hot = c.args.self.now in
    let row = row_there (row_of hot.sets.rows c.in_ok-id.id) c.in_ok-ids.ids.now c.in_ok-ids.ensures in (
      λ t. absurd (false≢true t),
      λ m. absurd (stranger_at hot S is c.in_ok-id.id c.args.node.now c.args.user.now c.in_ok-id.ensures.found c.in-None.ensures.missing row.0 m),
    )
