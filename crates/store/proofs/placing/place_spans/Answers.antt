use Rattle.std.proofs.Common.{ℕ, ◌<◌, ◌+◌, ◌∷◌, ap, map, subst, ◌∙◌, length, arith}
use Rattle.std.specs.Prelude.{◌≡◌}
use Rattle.store.specs.inside.Reading.{as_span}
use Rattle.store.proofs.Slots.{alive_more, goes_ahead, step_over}
use Rattle.store.proofs.placing.place_spans.Goals as goal

pub loop-span-preserved : goal.loop-span-preserved
loop-span-preserved c =
    let x = c.in-Some.span in
    let rest = c.pop_front.new.self.items in
    let first : c.loop-span.rest.items ≡ x ∷ rest = c.in-Some.ensures.items in
    let on = c.goes_on-on.ensures ∙ goes_ahead (as_span x) rest c.front.result c.front.ensures.item in
    record {
      count = let n = ap length first in omega (arith, n, c.in-Some.ensures.len, c.loop-span.invariant.count);
      alive = alive_more c.args.head.floor (as_span x) (map as_span rest) _ _ _ c.in_ok-place_span.ensures.alive (rw first at c.loop-span.invariant.alive);
      len = c.in_ok-place_span.ensures.len ∙ c.loop-span.invariant.len;
      placed = λ k lt.
          let P : ℕ → Type 0 = λ n. k < n in
          let less = subst P c.in_ok-place_span.ensures.len lt in
          step_over (c.args.head.floor + (k + 1)) x rest _ _ _ _ on (c.in_ok-place_span.ensures.placed k less) (rw first at c.loop-span.invariant.placed k less);
    }
