use Rattle.std.proofs.Common.{List, subst}
use Rattle.std.specs.Prelude.{Contains}
use Rattle.store.specs.declared.kinds.Kind.{Kind}
use Rattle.store.proofs.Alike.{since_alike, since_kept}
use Rattle.store.proofs.kinds.since_in.Goals as goal

pub returns-in-Some-clause-within : goal.returns-in-Some-clause-within
returns-in-Some-clause-within c =
    let (kind, has, same, relation, type) = c.in-Some.ensures in
    (since_alike c.args.configs.now c.args.kinds.now.items kind c.args.tuple.now c.in-Some.since c.requires (subst (λ (ks : List Kind). Contains ks kind) c.as_slice.ensures.value has) same relation type).0

pub returns-in-Some-clause-admitted : goal.returns-in-Some-clause-admitted
returns-in-Some-clause-admitted c =
    let (kind, has, same, relation, type) = c.in-Some.ensures in
    (since_alike c.args.configs.now c.args.kinds.now.items kind c.args.tuple.now c.in-Some.since c.requires (subst (λ (ks : List Kind). Contains ks kind) c.as_slice.ensures.value has) same relation type).1

pub returns-clause-kinds : goal.returns-clause-kinds
returns-clause-kinds c = since_kept c.args.configs.now _ _ _ c.requires (c.since_of-since.ensures.within, c.since_of-since.ensures.admitted) c.keep.ensures
