use Rattle.std.proofs.lemmas.Bool.{false≢true}
use Rattle.std.proofs.Common.{◌≡◌, Bool, inr, refl, sym, ap, ◌∙◌, subst}
use Rattle.std.specs.Prelude.{◌≤◌, Contains, length}
use Rattle.std.specs.List.{IsDistinct}
use Rattle.std.specs.Map.{keys_of}
use Rattle.lru.specs.LruCache.{LruCache, put_entries}
use Rattle.answer_cache.specs.declared.question.Question.{Question}
use Rattle.answer_cache.specs.declared.cached.TheConstants.{CAPACITY}
use Rattle.answer_cache.specs.Questions.{question, is_same}
use Rattle.answer_cache.specs.Kept.{AreAnswers}
use Rattle.answer_cache.specs.inside.Fits.{Fits}
use Rattle.answer_cache.proofs.Entries.{has_this, one_answer_each}
use Rattle.answer_cache.proofs.Keeping.{list_after, fits_after, no_other, stays_right, is_there}
use Rattle.answer_cache.proofs.cached.CachedAnswers.keep.Goals as goal

pub invariant_of-self-2 : goal.invariant_of-self-2
invariant_of-self-2 c = fits_after c.of-question.result c.args.answer c.self.inside.answers c.put.new.self c.self.invariant
    (ap (λ (d : LruCache Question Bool). d.entries) c.in_ok-put.ensures.entries)
    (ap (λ (d : LruCache Question Bool). d.cap) c.in_ok-put.ensures.entries)

pub returns : goal.returns
returns c =
    let q = question c.args.revision c.args.node.now c.args.user.now in
    let es = c.args.self.now in
    let new = c.put.new.self.entries in
    let listed : new ≡ put_entries is_same c.self.inside.answers c.of-question.result c.args.answer = ap (λ (d : LruCache Question Bool). d.entries) c.in_ok-put.ensures.entries in
    let is = list_after c.of-question.result q c.args.answer c.self.inside.answers c.put.new.self es c.self.invariant c.of-question.ensures c.self.view_is listed in
    let fits : Fits c.put.new.self = invariant_of-self-2 c in
    record {
      ok = is;
      err = tt;
      replaces = λ _ _. refl;
      kept = subst (λ l. Contains l (q, c.args.answer)) (sym is) (has_this q es c.args.answer);
      no_other = no_other q c.args.answer es new is;
      right = stays_right c.args.revision c.args.node.now c.args.user.now c.args.answer es new is;
      few = fits.few;
      one_answer_each = one_answer_each new fits.distinct;
    }

pub returns-in_err-put-clause-replaces : goal.returns-in_err-put-clause-replaces
returns-in_err-put-clause-replaces c b held =
    let there = subst (λ q. Contains c.self.inside.answers.entries (q, b)) (sym c.of-question.ensures) (subst (λ l. Contains l (question c.args.revision c.args.node.now c.args.user.now, b)) (sym c.self.view_is) held) in
    absurd (false≢true (c.in_err-put.ensures.succeeds (is_there c.of-question.result c.self.inside.answers.entries b there)))

pub returns-in_err-put-clause-no_other : goal.returns-in_err-put-clause-no_other
returns-in_err-put-clause-no_other c p a held =
    inr (subst (λ l. Contains l (p, a)) (ap (λ (d : LruCache Question Bool). d.entries) c.in_err-put.ensures.err ∙ c.self.view_is) held)

pub returns-in_err-put-clause-right : goal.returns-in_err-put-clause-right
returns-in_err-put-clause-right c snaps are this =
    subst (λ l. AreAnswers l snaps) (sym (ap (λ (d : LruCache Question Bool). d.entries) c.in_err-put.ensures.err ∙ c.self.view_is)) are

pub returns-in_err-put-clause-few : goal.returns-in_err-put-clause-few
returns-in_err-put-clause-few c = subst (λ (d : LruCache Question Bool). length d.entries ≤ CAPACITY) (sym c.in_err-put.ensures.err) c.self.invariant.few

pub returns-in_err-put-clause-one_answer_each : goal.returns-in_err-put-clause-one_answer_each
returns-in_err-put-clause-one_answer_each c = one_answer_each c.put.new.self.entries
    (subst (λ (d : LruCache Question Bool). IsDistinct is_same (keys_of d.entries)) (sym c.in_err-put.ensures.err) c.self.invariant.distinct)
