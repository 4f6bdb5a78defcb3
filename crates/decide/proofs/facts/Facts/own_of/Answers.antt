use Rattle.std.proofs.Common.{refl}
use Rattle.meaning.specs.TupleSet as set
use Rattle.tuple_keys.specs.Named.{user_tuple}
use Rattle.decide.proofs.Few.{few_own, held, none_mapped, ok_mapped, some_mapped}
use Rattle.decide.proofs.ReadTuples.{kept_at}
use Rattle.decide.proofs.facts.Facts.own_of.Goals as goal

pub own_among-requires : goal.own_among-requires
own_among-requires c =
    let S = c.args.self.now in
    let o = c.args.node.now.object in
    kept_at o (set.items S.tuples) c.in-Some.few.now (c.in-Some.ensures S o c.requires)

pub returns-in-Some-clause-some : goal.returns-in-Some-clause-some
returns-in-Some-clause-some c =
    let S = c.args.self.now in
    let n = c.args.node.now in
    let u = c.args.user.now in
    let few = c.in-Some.few.now in
    let all = c.in-Some.ensures S n.object c.requires in
    ok_mapped c.own_among.result _ _ (λ o. some_mapped o _ _ (λ v found. few_own S n few all u v.items found)) c.own_among.ensures.some

pub returns-in-Some-clause-none : goal.returns-in-Some-clause-none
returns-in-Some-clause-none c =
    let S = c.args.self.now in
    let n = c.args.node.now in
    let u = c.args.user.now in
    let all = held S n.object c.in-Some.few.now (c.in-Some.ensures S n.object c.requires) (user_tuple n u) refl in
    ok_mapped c.own_among.result _ _ (λ o. none_mapped o _ _ all.0) c.own_among.ensures.none
