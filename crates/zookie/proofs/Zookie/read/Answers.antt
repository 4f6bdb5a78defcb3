use Rattle.std.proofs.Common.{◌≡◌, sym, subst, ◌∙◌}
use Rattle.zookie.specs.Text.{IsTextOf}
use Rattle.zookie.specs.Zookies.{zookie_of}
use Rattle.zookie.specs.declared.Zookie.{Zookie}
use Rattle.zookie.proofs.Zookie.read.Goals.{in_default-via-in-Some+else-has_text, in_default-via-in_default}
use Rattle.zookie.proofs.Zookie.read.Goals as goal

pub returns-in_default-clause-round_trip : goal.returns-in_default-clause-round_trip
returns-in_default-clause-round_trip c store rev s r same =
    let back = c.decoded.ensures store rev s r same in
    elim c.in_default.branch [
      | in_default-via-in-Some+else-has_text w ↦
          let is : w.in-Some.zookie ≡ zookie_of store rev = cc (sym w.in-Some.is ∙ back) in
          cc (w.if-has_text.ensures.1 (subst (λ (z : Zookie). IsTextOf c.args.text.now z.store z.rev) (sym is) same))
      | in_default-via-in_default w ↦ absurd (w.in_default.not-Some _ back)
    ]
