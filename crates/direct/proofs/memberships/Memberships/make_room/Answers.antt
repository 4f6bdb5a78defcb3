use Rattle.std.proofs.Common.{ℕ, ◌≡◌, ◌≤◌, List, [], ◌∷◌, ◌++◌, length, refl, ap, ◌∙◌, arith, length-append}
use Rattle.direct.specs.Before.{set_in}
use Rattle.direct.proofs.Tables.{set_push}
use Rattle.direct.proofs.memberships.Memberships.make_room.Goals as goal

pub returns : goal.returns
returns c =
    let sets : List (List ℕ) = c.args.self.now.sets.items in
    let is : c.push.new.self.items ≡ sets ++ [] ∷ [] = c.in_ok-push.ensures.items ∙ ap (λ (l : List ℕ). sets ++ l ∷ []) c.new.ensures in
    let room : length c.args.self.now.users ≤ length sets = c.args.self.now.room in
    let longer : length c.push.new.self.items ≡ length (sets ++ [] ∷ []) = ap length is in
    record {
      users = refl;
      groups = refl;
      sets = λ user. ap (λ ss. set_in ss user) is ∙ set_push sets user;
      room = omega (arith, room, longer, length-append sets ([] ∷ []));
    }
