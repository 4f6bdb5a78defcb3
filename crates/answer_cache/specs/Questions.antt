-- Questions of checks.
use Rattle.std.specs.Prelude.{ℕ, ◌==◌, ◌++◌, ◌&&◌, Bool, List}
use Rattle.std.specs.Hash as fed
use Rattle.names.specs.declared.object.Object.{Object}
use Rattle.names.specs.declared.node.Node.{Node}
use Rattle.answer_cache.specs.declared.question.Question.{Question}
use Rattle.answer_cache.specs.Parts.{is_same_object, is_same_node, object_bytes}

-- whether the user is a member of the node at the revision
abbrev pub question : ℕ → Node → Object → Question
question revision node user = record { revision = revision; node = node; user = user }

-- the two are one question
abbrev pub is_same : Question → Question → Bool
is_same a b = a.revision == b.revision && (is_same_node a.node b.node && is_same_object a.user b.user)

-- what a question is hashed by: its revision, its node and its user
abbrev pub question_bytes : Question → List (List ℕ)
question_bytes q = fed.u64 q.revision ++ object_bytes q.node.object ++ fed.str q.node.relation ++ object_bytes q.user
