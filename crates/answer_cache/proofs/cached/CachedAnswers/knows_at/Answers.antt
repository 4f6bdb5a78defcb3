use Rattle.std.proofs.Common.{◌≡◌, Bool, ap, ◌∙◌, subst}
use Rattle.std.specs.List.{IsDistinct}
use Rattle.std.specs.Map.{keys_of}
use Rattle.lru.specs.LruCache.{LruCache, promoted}
use Rattle.answer_cache.specs.declared.question.Question.{Question}
use Rattle.answer_cache.specs.Questions.{question, is_same}
use Rattle.answer_cache.specs.inside.Fits.{Fits}
use Rattle.answer_cache.proofs.Entries.{one_answer_each}
use Rattle.answer_cache.proofs.Looking.{answer_of, list_of, is_found, is_none, is_used, is_unused, is_same_set, is_right, still_fits}
use Rattle.answer_cache.proofs.cached.CachedAnswers.knows_at.Goals as goal

pub invariant_of-self : goal.invariant_of-self
invariant_of-self c = still_fits c.of-question.result c.self.inside.answers c.get.follows.lender-at-none c.copied.result c.self.invariant
    (c.copied.ensures ∙ c.get.ensures.value)
    (ap (λ (d : LruCache Question Bool). d.entries) c.get.follows.holds-at-none)
    (ap (λ (d : LruCache Question Bool). d.cap) c.get.follows.holds-at-none)

pub returns : goal.returns
returns c =
    let q = question c.args.revision c.args.node.now c.args.user.now in
    let es = c.args.self.now in
    let new = c.get.follows.lender-at-none.entries in
    let listed : new ≡ promoted (is_same c.of-question.result) c.self.inside.answers.entries = ap (λ (d : LruCache Question Bool). d.entries) c.get.follows.holds-at-none in
    let answer = answer_of c.of-question.result q c.self.inside.answers.entries es c.copied.result c.of-question.ensures c.self.view_is (c.copied.ensures ∙ c.get.ensures.value) in
    let list = list_of c.of-question.result q c.self.inside.answers.entries es new c.of-question.ensures c.self.view_is listed in
    let fits : Fits c.get.follows.lender-at-none = invariant_of-self c in
    record {
      found = is_found q es c.copied.result answer;
      none = is_none q es c.copied.result answer;
      right = is_right c.args.revision c.args.node.now c.args.user.now es c.copied.result answer;
      same = is_same_set q es new c.copied.result answer list (subst (λ l. IsDistinct is_same (keys_of l)) c.self.view_is c.self.invariant.distinct);
      used = is_used q es new c.copied.result answer list;
      unused = is_unused q es new c.copied.result answer list;
      few = fits.few;
      one_answer_each = one_answer_each new fits.distinct;
    }
