-- The words of the calls, and what a reply says.
use Rattle.std.specs.Prelude.{ℕ, List, Bool, Option, Some, None, if◌then◌else◌, codes, nat_eq}
use Rattle.std.specs.Cmp.Lexicographic.{pointwise}
use Rattle.names.specs.declared.call.Call.{Call}
use Rattle.names.specs.declared.call.Call.TheVariants.{Write, Config, Check, Read, Expand, Lookup, Watch, Leopard, Hot, Trim, CatchUp, Rebuild, State}
use Rattle.names.specs.declared.call.Reply.{Reply}
use Rattle.names.specs.declared.call.Reply.TheVariants.{Said, NoMemory}

abbrev pub is_word : List ℕ → List ℕ → Bool
is_word word name = pointwise nat_eq word name

-- the call that a word names
abbrev pub call_of : List ℕ → Option Call
call_of word =
    if is_word word (codes "write") then Some Write else (
    if is_word word (codes "config") then Some Config else (
    if is_word word (codes "check") then Some Check else (
    if is_word word (codes "read") then Some Read else (
    if is_word word (codes "expand") then Some Expand else (
    if is_word word (codes "lookup") then Some Lookup else (
    if is_word word (codes "watch") then Some Watch else (
    if is_word word (codes "leopard") then Some Leopard else (
    if is_word word (codes "hot") then Some Hot else (
    if is_word word (codes "trim") then Some Trim else (
    if is_word word (codes "catchup") then Some CatchUp else (
    if is_word word (codes "rebuild") then Some Rebuild else (
    if is_word word (codes "state") then Some State else None))))))))))))

-- what a reply says: a status and a body, or nothing where there was no memory for one
abbrev pub told : Reply → Option (ℕ × List ℕ)
told (Said status body) = Some (status, body.items)
told NoMemory = None
