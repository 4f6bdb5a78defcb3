-- What the body of a call changes, and what a change is answered.
use Rattle.std.specs.Prelude.{ℕ, ◌≡◌, Bool, true, false, List, Option}
use Rattle.names.specs.Refusals.{ReadCause}
use Rattle.names.specs.declared.call.Call.{Call}
use Rattle.names.specs.declared.call.Call.TheVariants.{Write as WriteCall, Config as ConfigCall, Trim as TrimCall, CatchUp as CatchUpCall, Hot, Rebuild as RebuildCall}
use Rattle.names.specs.declared.part.Part.{Part}
use Rattle.names.specs.declared.refusal.Refusal.{Refusal}
use Rattle.names.specs.declared.refusal.Refusal.TheVariants.{Malformed}
use Rattle.zookie.specs.Text.{zookie_text}
use Rattle.config.specs.Causes.{Accepts, ConfigCause}
use Rattle.bodies.specs.Writing.{AsksWrite, WriteBodyCause}
use Rattle.bodies.specs.Trimming.{AsksTrim, TrimBodyCause}
use Rattle.bodies.specs.Requests.{AsksCatchUp, AsksNoCatchUp}
use Rattle.bodies.specs.Marking.{AsksHot, AsksNoHot, AsksRebuild, AsksNoRebuild}
use Rattle.bodies.specs.Replies.{Says, receipt_data, floor_data, cursor_data, marked_data, base_data}
use Rattle.published.specs.Receipts.{ReceiptFacts}
use Rattle.desk.specs.declared.change.Change.{Change}
use Rattle.desk.specs.declared.change.Change.TheVariants.{Write, Config, Trim, CatchUp, Mark, Rebuild}
use Rattle.desk.specs.declared.change.Made.{Made}
use Rattle.desk.specs.declared.change.Made.TheVariants.{Commit, Floor, Cursor, Marked, Base}

-- the calls that change something; every other asks
abbrev pub is_change : Call → Bool
is_change WriteCall = true
is_change ConfigCall = true
is_change TrimCall = true
is_change CatchUpCall = true
is_change Hot = true
is_change RebuildCall = true
is_change call = false

-- the body of the call asks for this
abbrev pub AsksChange : Call → List ℕ → Change → Type 0
AsksChange WriteCall body (Write write) = AsksWrite body write
AsksChange ConfigCall body (Config config) = Accepts body config
AsksChange TrimCall body (Trim floor) = AsksTrim body floor
AsksChange CatchUpCall body (CatchUp part commits) = AsksCatchUp body part commits
AsksChange Hot body (Mark marking) = AsksHot body marking
AsksChange RebuildCall body Rebuild = AsksRebuild body
AsksChange call body change = ⊥

-- why it asks for nothing: it is of another form, its zookie is none, it is no valid configuration, or there was no memory to
-- read it; a question asks for nothing
abbrev pub AsksNoChange : Call → List ℕ → Refusal → Type 0
AsksNoChange WriteCall body why = WriteBodyCause body why
AsksNoChange ConfigCall body why = ConfigCause body why
AsksNoChange TrimCall body why = TrimBodyCause body why
AsksNoChange CatchUpCall body why = ReadCause (AsksNoCatchUp body) why
AsksNoChange Hot body why = ReadCause (AsksNoHot body) why
AsksNoChange RebuildCall body why = ReadCause (AsksNoRebuild body) why
AsksNoChange call body why = why ≡ Malformed

-- the reply says what was made, and whether it is shown, with zookies of the receipt's store
abbrev pub SaysMade : Made → ReceiptFacts → Option (ℕ × List ℕ) → Type 0
SaysMade Commit receipt told = Says told 200 (receipt_data receipt.shown (zookie_text receipt.number receipt.rev))
SaysMade (Floor rev) receipt told = Says told 200 (floor_data (zookie_text receipt.number rev) receipt.shown)
SaysMade (Cursor rev) receipt told = Says told 200 (cursor_data (zookie_text receipt.number rev) receipt.shown)
SaysMade (Marked count) receipt told = Says told 200 (marked_data count receipt.shown)
SaysMade (Base rev) receipt told = Says told 200 (base_data (zookie_text receipt.number rev) receipt.shown)
