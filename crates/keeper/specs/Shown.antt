-- Which revisions a question is of, and what is known of one that was shown.
use Rattle.std.specs.Prelude.{ℕ, ◌≤◌, false, ◌≡◌, ⊤}
use Rattle.zookie.specs.declared.consistency.Consistency.{Consistency}
use Rattle.zookie.specs.declared.consistency.Consistency.TheVariants.{Latest, AtLeast, Exactly}
use Rattle.tables.specs.declared.tables.Tables.{Ghosts}
use Rattle.shown.specs.declared.question.Question.{Question}
use Rattle.shown.specs.declared.question.Question.TheVariants.{Check, Expand, Read, Lookup, Groups, Watch, State}
use Rattle.shown.specs.Standing.{standing}
use Rattle.published.specs.Rising.{Rises}
use Rattle.desk.specs.Posts.{Posts}

-- a watch asks for the revision of its cursor, and who asks for the state for none
abbrev pub consistency_of : Question → Consistency
consistency_of (Check consistency node user) = consistency
consistency_of (Expand consistency node depth) = consistency
consistency_of (Read consistency asked) = consistency
consistency_of (Lookup consistency asked) = consistency
consistency_of (Groups consistency expr limit) = consistency
consistency_of (Watch cursor namespaces commits) = Exactly cursor
consistency_of State = Latest

-- it asks for no revision above this one
abbrev pub AsksAtMost : Consistency → ℕ → Type 0
AsksAtMost Latest rev = ⊤
AsksAtMost (AtLeast zookie) rev = zookie.rev ≤ rev
AsksAtMost (Exactly zookie) rev = zookie.rev ≤ rev

-- What the desk shows is of the history that is posted: no revision of it is above the newest of that, and what both retain is
-- the same. The tables hold that history, as long as they have not failed.
pub record ShowsWhatIsStored {T : Type 0} (g : Ghosts T) (desk : Posts T) : Type 0 where
  pub rises : Rises (standing desk.shown).kept (standing desk.posted).kept
  pub holds : desk.failed ≡ false → g.holds desk.tables (standing desk.posted).kept
