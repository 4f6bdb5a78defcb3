-- Why the body of a `watch` is refused.
use Rattle.std.proofs.Common.{◌≡◌, ℕ, List, subst}
use Rattle.std.specs.Prelude.{Option, Some, None, IsSomeAnd, codes}
use Rattle.names.specs.Refusals.{ReadCause}
use Rattle.names.specs.declared.refusal.Refusal.{Refusal}
use Rattle.zookie.specs.declared.Zookie.{Zookie}
use Rattle.serde_json.specs.Data.{Data}
use Rattle.serde_json.specs.Find.{get}
use Rattle.config_text.specs.Objects.{text_at}
use Rattle.config_text.specs.Reading.{Reads}
use Rattle.watch.specs.declared.watched.Namespaces.{Namespaces}
use Rattle.bodies.specs.Requests.{ReadsAs, IsZookieOf, IsAnyText}
use Rattle.bodies.specs.Watching.{AsksNamespaces, WatchOf, AsksWatch, WatchBodyCause}
use Rattle.bodies.specs.inside.Parts.{TextCause}
use Rattle.bodies.specs.inside.Forms.{IsOfNoWatch}
use Rattle.bodies.proofs.Bytes.{same_read}
use Rattle.bodies.proofs.Options.{is_so, not_so}
use Rattle.bodies.proofs.Causes.{nought, part_cause, read_cause}

-- the body is of a watch, where these texts are zookies'
abbrev Watches : List ℕ → (List ℕ → Zookie → Type 0) → Type 0
Watches body IsOf = (cursor : Zookie) × (namespaces : Namespaces) × (commits : ℕ) × ReadsAs body (λ d. WatchOf IsOf d cursor namespaces commits)

pub no_cursor : (d : Data) → text_at (codes "cursor") d ≡ None → IsOfNoWatch d
no_cursor d none cursor namespaces commits w = not_so (λ s. IsAnyText s cursor) (text_at (codes "cursor") d) none w.cursor_is

pub no_such_namespaces : (d : Data) → ((n : Namespaces) → AsksNamespaces (get (codes "namespaces") d) n → ⊥) → IsOfNoWatch d
no_such_namespaces d not cursor namespaces commits w = not namespaces w.named

module _ (body : List ℕ) where
  pub watch_unread : (e : Refusal) → ReadCause ((d : Data) → Reads body d → ⊥) e → WatchBodyCause body e
  watch_unread e cause = read_cause (Watches body) (λ not w. not w.3.0 w.3.1) e cause

  module _ (d : Data) (reads : Reads body d) where
    there : (IsOf : List ℕ → Zookie → Type 0) (w : Watches body IsOf) → WatchOf IsOf d w.0 w.1 w.2
    there IsOf w = subst (λ (x : Data). WatchOf IsOf x w.0 w.1 w.2) (same_read body w.3.0 d w.3.1 reads) w.3.2

    pub watch_unasked : (e : Refusal) → ReadCause (IsOfNoWatch d) e → WatchBodyCause body e
    watch_unasked e cause = read_cause (Watches body) (λ not w. not w.0 w.1 w.2 (there IsAnyText w)) e cause

    module _ (namespaces : Namespaces) (commits : ℕ) (watch : (cursor : Zookie) → WatchOf IsAnyText d cursor namespaces commits) where
      pub cursor_unasked : (e : Refusal) → TextCause (text_at (codes "cursor") d) e → WatchBodyCause body e
      cursor_unasked e cause =
          part_cause (λ IsOf. (cursor : Zookie) × IsSomeAnd (text_at (codes "cursor") d) (λ text. IsOf text cursor)) (Watches body)
          (λ IsOf w. (w.0, (there IsOf w).cursor_is))
          (λ w. (w.0, namespaces, commits, (d, reads, watch w.0))) e cause

      pub watch_asked : (cursor : Zookie) → IsSomeAnd (text_at (codes "cursor") d) (λ text. IsZookieOf text cursor) → AsksWatch body cursor namespaces commits
      watch_asked cursor is =
          let w = watch cursor in
          (d, reads, record { only = w.only; cursor_is = is; commits_at = w.commits_at; some = w.some; bounded = w.bounded; named = w.named })
