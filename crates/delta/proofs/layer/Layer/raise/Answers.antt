use Rattle.std.proofs.Common.{◌≡◌, refl, rules, nat_lt}
use Rattle.std.specs.Prelude.{filter}
use Rattle.std.proofs.lemmas.Fn.{filter_same}
use Rattle.delta.specs.declared.earlier.Earlier.{Earlier}
use Rattle.delta.proofs.Layered.{rebased}
use Rattle.delta.proofs.Rows.{up_to_filtered}
use Rattle.delta.proofs.layer.Layer.raise.Goals as goal

pub invariant_of-self : goal.invariant_of-self
invariant_of-self c =
    let left : c.retain.new.self.items ≡ filter (λ (e : Earlier). nat_lt c.args.rev e.rev) c.args.self.now.earlier.items = filter_same _ (λ (e : Earlier). nat_lt c.args.rev e.rev) _ (λ x b f' k. search rules) _ _ c.retain.ensures.filtered in
    record {
      whole = c.args.self.now.whole;
      noted = up_to_filtered c.args.rev c.args.self.now.cursor c.args.self.now.earlier.items c.retain.new.self.items left c.args.self.now.noted;
    }

pub returns-clause-layer : goal.returns-clause-layer
returns-clause-layer c = λ snaps is up.
    let left : c.retain.new.self.items ≡ filter (λ (e : Earlier). nat_lt c.args.rev e.rev) c.args.self.now.earlier.items = filter_same _ (λ (e : Earlier). nat_lt c.args.rev e.rev) _ (λ x b f' k. search rules) _ _ c.retain.ensures.filtered in
    rebased c.args.self.now _ snaps c.args.rev is up c.requires refl refl refl refl refl refl left
