use Rattle.std.proofs.Common.{◌<◌, ℕ, length, None, refl, subst}
use Rattle.std.specs.Prelude.{Result, Ok, Err, IfOk, OnOk}
use Rattle.std.proofs.lemmas.Result.{IfOk-weaker}
use Rattle.names.specs.declared.object.Object.{Object}
use Rattle.names.specs.declared.node.Node.{Node}
use Rattle.meaning.specs.Snap.{Snap}
use Rattle.meaning.specs.Config.{IsAt, rel_of}
use Rattle.config.specs.Places.{StandsAt}
use Rattle.decide.specs.declared.search.Search.{Search}
use Rattle.decide.specs.inside.Searches.{Opens, IsNumberOf}
use Rattle.decide.specs.inside.Running.{IsRunning}
use Rattle.decide.proofs.Opening.{opens_number, opens_running}
use Rattle.decide.proofs.search.Search.reach.Goals as goal

runs_on : {E : Type 0} (s t : Search) (n : Node) (level place : ℕ) (r : Result ℕ E) → level < length s.stacks.items → IfOk r (Opens s t n level place)
    → OnOk r ((S : Snap) (u : Object) → IsAt S.config n level → StandsAt S.config (rel_of n) place → IsRunning S u s None → IsRunning S u t None)
runs_on s t n level place (Ok i) there opens = λ S u at stands running. opens_running s t n level place i opens S u None there at stands running
runs_on s t n level place (Err e) there opens = tt

pub returns-in-Ok-clause-number : goal.returns-in-Ok-clause-number
returns-in-Ok-clause-number c =
    let (e, at, node) = c.in-Ok.ensures in
    (e.level, (e, at, node, refl))

pub returns-in-Err-clause-number : goal.returns-in-Err-clause-number
returns-in-Err-clause-number c =
    let t = c.open.new.self in
    IfOk-weaker c.open.result _ _ (λ i opens. (
      c.args.level,
      subst (λ (n : Node). IsNumberOf t i n c.args.level) c.again.ensures (opens_number c.args.self.now t c.again.result c.args.level c.args.place i opens),
    )) c.open.ensures

pub returns-in-Err-clause-running : goal.returns-in-Err-clause-running
returns-in-Err-clause-running c =
    let s = c.args.self.now in
    let t = c.open.new.self in
    subst (λ (n : Node). OnOk c.open.result ((S : Snap) (u : Object) → IsAt S.config n c.args.level → StandsAt S.config (rel_of n) c.args.place → IsRunning S u s None → IsRunning S u t None))
    c.again.ensures
    (runs_on s t c.again.result c.args.level c.args.place c.open.result c.requires c.open.ensures)
