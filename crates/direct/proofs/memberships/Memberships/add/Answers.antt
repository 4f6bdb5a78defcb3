use Rattle.std.proofs.Common.{◌≤◌, ◌<◌, length, subst, arith}
use Rattle.std.specs.Prelude.{Some}
use Rattle.std.proofs.lemmas.Option.{slice_get_within}
use Rattle.std.proofs.lemmas.Result.{on_ok_weaker}
use Rattle.direct.specs.inside.Keeping.{AreNumbers}
use Rattle.direct.proofs.Tables.{kept_passed, kept_put}
use Rattle.direct.proofs.memberships.Memberships.add.Goals as goal

pub put-requires : goal.put-requires
put-requires c =
    let found : AreNumbers c.args.config.now c.number.new.self c.args.tuple.now (Some c.in-Some.found) = subst (AreNumbers c.args.config.now c.number.new.self c.args.tuple.now) c.in-Some.is c.in_ok-found.ensures.numbers in
    let lt : c.in-Some.found.user < length c.number.new.self.users = slice_get_within c.number.new.self.users c.in-Some.found.user c.args.tuple.now.subject.object found.1.user in
    let room : length c.number.new.self.users ≤ length c.number.new.self.sets.items = c.number.new.self.room in
    omega (arith, lt, room)

pub returns-in-Some : goal.returns-in-Some
returns-in-Some c =
    let found : AreNumbers c.args.config.now c.number.new.self c.args.tuple.now (Some c.in-Some.found) = subst (AreNumbers c.args.config.now c.number.new.self c.args.tuple.now) c.in-Some.is c.in_ok-found.ensures.numbers in
    let lt : c.in-Some.found.user < length c.number.new.self.users = slice_get_within c.number.new.self.users c.in-Some.found.user c.args.tuple.now.subject.object found.1.user in
    let room : length c.number.new.self.users ≤ length c.number.new.self.sets.items = c.number.new.self.room in
    on_ok_weaker c.put.result
    (λ (set, put, puts) ts are. kept_put c.args.config.now c.args.self.now c.number.new.self c.args.tuple.now c.in_ok-found.ensures.more ts are c.put.new.self c.in-Some.found set
    found.0 found.1 (omega (arith, lt, room)) puts c.put.ensures.users c.put.ensures.groups put)
    c.put.ensures.sets

pub returns-in-None : goal.returns-in-None
returns-in-None c = λ ts are. kept_passed c.args.config.now c.args.self.now c.number.new.self c.args.tuple.now c.in_ok-found.ensures.more ts are
    (subst (AreNumbers c.args.config.now c.number.new.self c.args.tuple.now) c.in-None.is c.in_ok-found.ensures.numbers)
