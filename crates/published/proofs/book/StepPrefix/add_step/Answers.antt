use Rattle.std.proofs.Common.{◌≡◌, sym, ◌∙◌, ap, ◌<◌, ◌^◌, length, arith}
use Rattle.published.proofs.Adding.{adds_moves}
use Rattle.published.proofs.book.StepPrefix.add_step.Goals as goal

pub compare_exchange-found-requires : goal.compare_exchange-found-requires
compare_exchange-found-requires c =
    let h = c.book.invariant in
    let offer = c.plain-offer.ensures in
    let pen = c.no_pen-pen.ensures in
    let room : c.self.inside.count < 2 ^ 62 = omega arith in
    let one : c.self.inside.seen.book ≡ c.book.inside.head.book = rw (← c.self.view_is, ← c.book.view_is) at c.requires in
    let mine : c.again-seen.result.book ≡ c.book.inside.head.book = ap (λ s. s.book) c.again-seen.ensures ∙ one in
    let len : length c.again-seen.result.log ≡ c.self.inside.count = ap (λ s. length s.log) c.again-seen.ensures ∙ sym c.self.invariant.0 in (
      ap (λ w. w.tracked) h,
      mine,
      pen.0 ∙ mine,
      offer.0,
      rw (ap (λ w. w.key) h, pen.1, offer.1, offer.3) (adds_moves c.again-seen.result.log c.args.step.now c.self.inside.count len room),
    )
