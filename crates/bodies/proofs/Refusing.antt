-- The replies that are made of values.
use Rattle.std.proofs.Common.{◌≡◌, ℕ, false, List, [], ◌∷◌, Option, Result, Ok, Err, IfOk, None, MatchResult, map, refl, ap, ◌∙◌}
use Rattle.std.specs.declared.alloc.AllocError.{AllocError}
use Rattle.names.specs.Refusals.{status_of}
use Rattle.names.specs.declared.refusal.Refusal.{Refusal}
use Rattle.names.specs.declared.refusal.Refusal.TheVariants.{ConditionFailed, AlreadyThere, NotThere, ConfigRefused}
use Rattle.names.specs.declared.cause.Cause.TheVariants.{Cycle}
use Rattle.names.specs.declared.cause.CycleStep.{CycleStep}
use Rattle.serde_json.specs.Data.{Data, string}
use Rattle.serde_json.specs.View.{view, items_of}
use Rattle.serde_json.specs.Written.{has_float, items_have_float}
use Rattle.serde_json.specs.declared.value.Value.{Value}
use Rattle.bodies.proofs.Listing.{texts_plain}
use Rattle.bodies.specs.Replies.{Says, SaysRefusal, indexed_data, refusal_data, signed_text}

pub said : (r : Result Value AllocError) (told : Option (ℕ × List ℕ)) (status : ℕ) (d : Data) → MatchResult r (λ v. Says told status (view v)) (λ _. told ≡ None) → IfOk r (λ v. view v ≡ d) → Says told status d
said (Ok v) told status d says is = rw is at says
said (Err e) told status d none is = rw none tt

pub failed_condition : (told : Option (ℕ × List ℕ)) (why : Refusal) (index : ℕ) → why ≡ ConditionFailed index → Says told (status_of why) (indexed_data why index) → SaysRefusal told why
failed_condition told why index is says = let s = rw is at says in rw is s

pub already_there : (told : Option (ℕ × List ℕ)) (why : Refusal) (index : ℕ) → why ≡ AlreadyThere index → Says told (status_of why) (indexed_data why index) → SaysRefusal told why
already_there told why index is says = let s = rw is at says in rw is s

pub not_there : (told : Option (ℕ × List ℕ)) (why : Refusal) (index : ℕ) → why ≡ NotThere index → Says told (status_of why) (indexed_data why index) → SaysRefusal told why
not_there told why index is says = let s = rw is at says in rw is s

cycle_plain : (steps : List CycleStep) → has_float (refusal_data (ConfigRefused (Cycle steps))) ≡ false
cycle_plain steps = rw (texts_plain signed_text steps) refl

pub value_plain : (steps : List CycleStep) (r : Result Value AllocError) → IfOk r (λ v. view v ≡ refusal_data (ConfigRefused (Cycle steps))) → IfOk r (λ v. has_float (view v) ≡ false)
value_plain steps (Ok v) is = ap has_float is ∙ cycle_plain steps
value_plain steps (Err e) is = is
