use Rattle.std.proofs.Common.{◌<◌, length, ap, refl, ◌∙◌, arith}
use Rattle.std.specs.Prelude.{Some}
use Rattle.std.proofs.lemmas.Option.{slice_get_within}
use Rattle.leopard.proofs.DirectSets.{names_one, names_nobody, names_this, tells_one, tells_unnumbered, put_id}
use Rattle.leopard.proofs.Leftover.{none_added, added_as}
use Rattle.leopard.proofs.Ordered.{contains_get}
use Rattle.leopard.proofs.members.note.Goals as goal

pub returns-then-not-names_user-clause-gains : goal.returns-then-not-names_user-clause-gains
returns-then-not-names_user-clause-gains c u id =
    none_added _ _ (λ tells. names_nobody c.args.config.now c.args.tuple.now c.names_user.result c.names_user.ensures c.if-not-names_user.true u (tells.0, tells.1))

pub returns-in_default-clause-gains : goal.returns-in_default-clause-gains
returns-in_default-clause-gains c u id = none_added _ _ (tells_unnumbered c.args.config.now c.args.groups.now c.args.tuple.now u id c.in_default.ensures.missing)

pub returns-in_default-id_of-clause-gains : goal.returns-in_default-id_of-clause-gains
returns-in_default-id_of-clause-gains c u id = none_added _ _ (λ tells.
    let this = names_this c.args.config.now c.args.tuple.now c.names_user.result c.names_user.ensures c.if-not-names_user.false u in
    let (k, at) = contains_get c.args.users.now u (c.requires.listed u (tells.0, tells.1)) in
    c.in_default-id_of.ensures.missing k (at ∙ ap (λ o. Some o) (this.0 (tells.0, tells.1))))

pub put_id-requires-clause-within : goal.put_id-requires-clause-within
put_id-requires-clause-within c = omega (arith, slice_get_within c.args.users.now c.in-Some-id_of.at c.args.tuple.now.subject.object c.in-Some-id_of.ensures.found, c.requires.even)

pub put_id-requires-clause-ascending : goal.put_id-requires-clause-ascending
put_id-requires-clause-ascending c = c.requires.ascending

pub returns-clause-even : goal.returns-clause-even
returns-clause-even c = c.in_ok-put_id.ensures.even ∙ c.requires.even

pub returns-clause-gains : goal.returns-clause-gains
returns-clause-gains c u id =
    let t = c.args.tuple.now in
    let user = t.subject.object in
    let named = names_one c.args.config.now t c.names_user.result c.names_user.ensures c.if-not-names_user.false in
    let within : c.in-Some-id_of.at < length c.args.sets.now.items = omega (arith, slice_get_within c.args.users.now c.in-Some-id_of.at user c.in-Some-id_of.ensures.found, c.requires.even) in
    let (set, is, members) = c.in_ok-put_id.ensures.gains in
    added_as _ _ _ _
    (put_id c.args.users.now c.args.sets.now.items c.put_id.new.sets.items c.in-Some-id_of.at user c.in-Some.group set c.in-Some-id_of.ensures.found within is members u id)
    (tells_one c.args.config.now c.args.groups.now t u id c.requires.distinct named.1 named.0 c.in-Some.group c.in-Some.ensures.found user refl)
