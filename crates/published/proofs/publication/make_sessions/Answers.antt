use Rattle.std.proofs.Common.{◌≡◌, ◌∷◌, ◌++◌, [], List, All, rules, subst, sym}
use Rattle.std.proofs.lemmas.List.Elements.{All-push}
use Rattle.published.specs.Known.{Known}
use Rattle.published.proofs.Rules.{keeps_rule}
use Rattle.published.proofs.publication.make_sessions.Goals as goal

pub loop-preserved : goal.loop-preserved
loop-preserved g c =
    let book : c.new-in-loop.result.book ≡ c.args.entered.now.book = search rules in
    let items : c.push.new.self.items ≡ c.loop.sessions.items ++ c.new-in-loop.result ∷ [] = search rules in
    let seated = All-push (λ (s : Known). s.book ≡ c.args.entered.now.book) c.loop.sessions.items c.new-in-loop.result c.loop.invariant.seated book in
    record { same = search rules; count = search rules; seated = subst (λ (l : List Known). All (λ s. s.book ≡ c.args.entered.now.book) l) (sym items) seated }

pub reader-requires : goal.reader-requires
reader-requires g c = keeps_rule c.loop.publisher.told
