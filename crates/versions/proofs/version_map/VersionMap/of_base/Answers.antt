use Rattle.std.proofs.Common.{◌≡◌, ℕ, ◌+◌, take, ap, ◌∙◌, suc, arith}
use Rattle.meaning.specs.TupleSet as set
use Rattle.versions.specs.Versions.{Entries, versions_at, base_versions}
use Rattle.versions.proofs.Basing.{base_none, base_more}
use Rattle.versions.proofs.version_map.VersionMap.of_base.Goals as goal

pub loop-i-init : goal.loop-i-init
loop-i-init c = λ q. ap (λ (es : Entries). versions_at es q) c.new-map.ensures ∙ base_none c.args.tuples.now q

pub loop-i-preserved : goal.loop-i-preserved
loop-i-preserved c = λ q.
    let next : suc c.loop-i.i ≡ c.loop-i.i + 1 = omega arith in
    base_more c.args.tuples.now c.loop-i.i c.index-tuples-i.result q (versions_at c.loop-i.map q) (versions_at c.put_base.new.self q) c.loop-i-test.true c.index-tuples-i.is
    (c.loop-i.invariant q) (c.in_ok-put_base.ensures q)
    ∙ ap (λ (k : ℕ). base_versions (set.contains (set.from_list (take k c.args.tuples.now)) q)) next
