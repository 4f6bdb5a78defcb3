-- What a contract sees of an answer cache: the answers that it keeps, the one used last first.
use Rattle.std.specs.Prelude.{◌≡◌, ℕ, Bool, List, ◌∷◌, take, Contains}
use Rattle.std.specs.Map.{remove_entry}
use Rattle.names.specs.declared.object.Object.{Object}
use Rattle.names.specs.declared.node.Node.{Node}
use Rattle.meaning.specs.Snap.{Snap}
use Rattle.decide.specs.Answers.{IsAnswer}
use Rattle.answer_cache.specs.declared.question.Question.{Question}
use Rattle.answer_cache.specs.declared.cached.TheConstants.{CAPACITY}
use Rattle.answer_cache.specs.Questions.{question, is_same}

-- this answer first, and then those of other questions
abbrev pub answer_first : Question → Bool → List (Question × Bool) → List (Question × Bool)
answer_first q b kept = (q, b) ∷ remove_entry (is_same q) kept

-- the same, of which those used last stay where there is no room for all
abbrev pub answers_with : Question → Bool → List (Question × Bool) → List (Question × Bool)
answers_with q b kept = take CAPACITY (answer_first q b kept)

-- no question has two answers
abbrev pub HasOneAnswerEach : List (Question × Bool) → Type 0
HasOneAnswerEach kept = (q : Question) (a b : Bool) → Contains kept (q, a) → Contains kept (q, b) → a ≡ b

-- what is kept of the revision are the memberships of its snapshot
abbrev pub AreAnswersAt : List (Question × Bool) → ℕ → Snap → Type 0
AreAnswersAt kept revision S = (n : Node) (u : Object) (b : Bool) → Contains kept (question revision n u, b) → IsAnswer S u n b

-- what is kept are the memberships of the snapshots
abbrev pub AreAnswers : List (Question × Bool) → (ℕ → Snap) → Type 0
AreAnswers kept snaps = (revision : ℕ) → AreAnswersAt kept revision (snaps revision)

-- the two are one at each revision of which an answer is kept
abbrev pub AgreeOn : List (Question × Bool) → (ℕ → Snap) → (ℕ → Snap) → Type 0
AgreeOn kept snaps others = (q : Question) (b : Bool) → Contains kept (q, b) → snaps q.revision ≡ others q.revision
