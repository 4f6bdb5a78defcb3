-- What a commit makes of tables that hold a history, and what is known of these before.
use Rattle.std.proofs.lemmas.List.{length-drop}
use Rattle.std.proofs.Common.{◌≡◌, ℕ, ◌+◌, ◌-◌, ◌*◌, ◌^◌, ◌<◌, ◌≤◌, List, length, sym, ap, subst, ◌∙◌, arith}
use Rattle.std.specs.Prelude.{map}
use Rattle.sqlite.specs.State.{State}
use Rattle.names.specs.Spelling.{IsTuple}
use Rattle.names.specs.declared.commit.Commit.{Commit}
use Rattle.names.specs.declared.commit.Commit.TheVariants as kinds
use Rattle.names.specs.declared.commit.Event.{Event}
use Rattle.meaning.specs.Config.{Configured}
use Rattle.config.specs.Causes.{Accepts}
use Rattle.rows.specs.Retained.{Retained, newest, newest_of, with_commit, after_trim}
use Rattle.rows.proofs.Committing.{length_push}
use Rattle.tables.specs.Changing.{CanStore}
use Rattle.tables.specs.Storing.{IsNextAt, IsTrimTo}
use Rattle.tables.specs.declared.change.TableChange.TheVariants.{Trim}
use Rattle.tables.specs.declared.puts.Puts.{Puts}
use Rattle.sqlite_tables.specs.declared.stored.StoredEvent as stored
use Rattle.sqlite_tables.specs.Caused.{CanConfigure, CanDrop, CanTake, IsBefore}
use Rattle.sqlite_tables.specs.Reading.{CanLoad}
use Rattle.sqlite_tables.specs.Numbered.{AreNumbered, IsUpTo}
use Rattle.sqlite_tables.specs.Tables.{Contents}
use Rattle.sqlite_tables.specs.Steps.{after_write, after_configure}
use Rattle.sqlite_tables.specs.Steps as steps
use Rattle.store.specs.Written.{IsHistory, canonical}
use Rattle.store.specs.inside.EventTexts.{event_texts, event_texts_in}
use Rattle.store.specs.History.{HasCommitted}
use Rattle.store.proofs.Picking.{In}
use Rattle.store.proofs.Causes.{accepted}
use Rattle.store.proofs.Following.{newest_is}
use Rattle.store.proofs.Fitting.{up_to, readable, are_distinct, are_short}
use Rattle.store.proofs.Storing.{events_next, config_next}
use Rattle.store.proofs.Trimming.{trim_next, first_below}
use Rattle.store.proofs.Leaving.{LeadsTo, holds_now, sound_now}

newest_with : (r : Retained) (c : Commit Configured) → newest (with_commit r c) ≡ newest r + 1
newest_with r c = let one = length_push r.commits c in omega (arith, one)

-- ---- the histories

pub events_lead : (r : Retained) (rev : ℕ) (puts : Puts) (xs : List stored.StoredEvent) (es : List Event) → IsNextAt r rev (kinds.Tuples es) puts → map event_texts_in xs ≡ map (event_texts puts) es
    → ((e : Event) → In e es → IsTuple e.tuple) → LeadsTo (after_write rev xs) (256 * rev) r (with_commit r (kinds.Tuples es))
events_lead r rev puts xs es next texts_is spelled =
    let one = newest_with r (kinds.Tuples es) in
    let at = next.1 in
    record { follows = λ h is. events_next h r rev puts xs es is next texts_is spelled; more = omega (arith, one); within = omega (arith, one, at) }

pub config_lead : (r : Retained) (rev : ℕ) (puts : Puts) (text : List ℕ) (config : Configured) → IsNextAt r rev (kinds.Config config) puts → text ≡ canonical config → Accepts text config
    → LeadsTo (after_configure rev text) 0 r (with_commit r (kinds.Config config))
config_lead r rev puts text config next text_is accepts =
    let one = newest_with r (kinds.Config config) in
    record { follows = λ h is. config_next h r rev text config is next.0 next.1 text_is accepts; more = omega (arith, one); within = omega arith }

pub trim_lead : (r : Retained) (floor first : ℕ) → IsTrimTo r floor first → LeadsTo (steps.after_trim floor first) 0 r (after_trim r floor)
trim_lead r floor first to =
    let left = length-drop (floor - r.floor) r.commits in
    let above = to.above in
    let below = to.below in
    record { follows = λ h is. trim_next h r floor first is to; more = omega (arith, left, above, below); within = omega arith }

pub small_trim : (Holds : Retained → Type 0) (floor first : ℕ) → CanStore Holds (Trim floor first) → (floor < 2 ^ 63) × (first < 2 ^ 63)
small_trim Holds floor first can =
    let small = can.2.small in
    let low = first_below can.0 floor first can.2 in
    (omega (arith, small), omega (arith, small, low))

-- ---- the tables before

history_up_to : (h : Contents) (r : Retained) → IsHistory h r → IsUpTo (newest r) h
history_up_to h r (w, is, sound, same) = subst (λ (n : ℕ). IsUpTo n h) (sym (newest_is w sound) ∙ ap newest same) (up_to h w is sound)

is_before : (s : State) (r : Retained) (rev : ℕ) → HasCommitted s r → rev ≡ newest r + 1 → IsBefore rev s.now
is_before s r rev k at =
    let below : newest r ≡ rev - 1 = omega (arith, at) in
    record {
      sound = sound_now s r k;
      contents = k.held.contents;
      holds = holds_now s r k;
      up_to = subst (λ (n : ℕ). IsUpTo n k.held.contents) below (history_up_to k.held.contents r k.held.history);
      numbered = subst (λ (n : ℕ). AreNumbered n s.now.trees) below k.held.numbered;
    }

pub can_take : (s : State) (r : Retained) (rev : ℕ) (puts : Puts) (xs : List stored.StoredEvent) (es : List Event) → HasCommitted s r → IsNextAt r rev (kinds.Tuples es) puts → map event_texts_in xs ≡ map (event_texts puts) es
    → ((e : Event) → In e es → IsTuple e.tuple) → CanTake xs rev s.now
can_take s r rev puts xs es k next texts_is spelled = record {
  before = is_before s r rev k next.1;
  distinct = are_distinct rev puts xs es texts_is spelled (accepted (newest_of r) es next.0).once;
  short = are_short rev puts xs es texts_is spelled;
}

pub can_configure : (s : State) (r : Retained) (rev : ℕ) (text : List ℕ) → HasCommitted s r → rev ≡ newest r + 1 → length text ≤ 65536 → CanConfigure text rev s.now
can_configure s r rev text k at few = record { before = is_before s r rev k at; short = few }

pub can_load : (s : State) (r : Retained) → HasCommitted s r → CanLoad s.now
can_load s r k =
    let from = k.held.history in
    record { contents = k.held.contents; holds = holds_now s r k; readable = readable k.held.contents from.0 from.1 from.2; top = 256 * newest r; numbered = k.held.numbered }

pub can_drop : (s : State) (r : Retained) → HasCommitted s r → CanDrop s.now
can_drop s r k = record { contents = k.held.contents; top = 256 * newest r; store = record { sound = sound_now s r k; holds = holds_now s r k; numbered = k.held.numbered } }
