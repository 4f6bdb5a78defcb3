use Rattle.std.proofs.Common.{◌≡◌, ◌≤◌, ◌+◌, ◌-◌, ◌++◌, length, take, sym, ap, ◌∙◌, arith, slice_range}
use Rattle.std.proofs.lemmas.List.{with_items_is}
use Rattle.std.proofs.lemmas.Result.{err_from_is_err_and}
use borrow.Rule.Slice.PartMut.{put_mid, mid_of, same_len_mid}
use Rattle.http_api.specs.inside.Held.{held}
use Rattle.http_api.proofs.Holding.{grown, kept}
use Rattle.http_api.proofs.inbox.Inbox.read_to.Goals as goal
use Rattle.http_api.proofs.inbox.Inbox.read_to.Goals.{then-self-most, else-self-most}

pub returns-in_err-count-clause-err : goal.returns-in_err-count-clause-err
returns-in_err-count-clause-err g c =
    let b = c.if-self-most.self in
    let xs = c.deref_mut.result.now in
    let k = b.start + c.args.most - b.end in
    let items : xs ≡ b.bytes.items = c.deref_mut.ensures.value in
    let packed : held b ≡ held c.args.self.now = elim c.if-self-most.branch [ then-self-most w ↦ ap held w.self-is ∙ w.pack.ensures.bytes | else-self-most w ↦ ap held w.self-is ] in
    let within : b.end ≤ length xs = omega (arith, ap length items, b.within, b.room) in
    let sized : length c.read.new.buf ≡ length (mid_of b.end k xs) = c.read.auto.buf in
    let whole = with_items_is b.bytes (put_mid b.end k xs c.read.new.buf) (same_len_mid b.end k xs c.read.new.buf sized ∙ c.deref_mut.ensures.len) in
    let p = err_from_is_err_and c.from_residual.result c.from_residual.ensures.1 in
    rw p.1 (ap (λ ys. slice_range ys b.start b.end) whole ∙ kept xs c.read.new.buf b.start b.end k b.ordered within ∙ ap (λ ys. slice_range ys b.start b.end) items ∙ packed, c.in_err-count.ensures.bytes, c.in_err-count.ensures.reads)

pub returns-clause-ok : goal.returns-clause-ok
returns-clause-ok g c =
    let b = c.if-self-most.self in
    let xs = c.deref_mut.result.now in
    let k = b.start + c.args.most - b.end in
    let n = c.in_ok-count.count in
    let bound = c.in_ok-count.ensures.bound in
    let items : xs ≡ b.bytes.items = c.deref_mut.ensures.value in
    let packed : held b ≡ held c.args.self.now = elim c.if-self-most.branch [ then-self-most w ↦ ap held w.self-is ∙ w.pack.ensures.bytes | else-self-most w ↦ ap held w.self-is ] in
    let within : b.end ≤ length xs = omega (arith, ap length items, b.within, b.room) in
    let sized : length c.read.new.buf ≡ length (mid_of b.end k xs) = c.read.auto.buf in
    let whole = with_items_is b.bytes (put_mid b.end k xs c.read.new.buf) (same_len_mid b.end k xs c.read.new.buf sized ∙ c.deref_mut.ensures.len) in
    let grew = grown xs c.read.new.buf b.start b.end k n b.ordered within bound.0 in
    (take n c.read.new.buf, sym bound.1, ap (λ ys. slice_range ys b.start (b.end + n)) whole ∙ grew ∙ ap (λ ys. ys ++ take n c.read.new.buf) (ap (λ ys. slice_range ys b.start b.end) items ∙ packed), c.in_ok-count.ensures.bytes.0, c.in_ok-count.ensures.reads)
