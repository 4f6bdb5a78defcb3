-- What the body of a `watch` asks, by what `serde_json` reads from it.
use Rattle.std.specs.Prelude.{ℕ, ◌≡◌, ◌≤◌, true, IsTrue, List, [], ◌∷◌, Option, Some, None, IsSomeAnd, length, codes}
use Rattle.serde_json.specs.Data.{Data}
use Rattle.serde_json.specs.Find.{get, as_str}
use Rattle.config_text.specs.Objects.{has_only, text_at}
use Rattle.names.specs.Names.{is_name}
use Rattle.names.specs.declared.refusal.Refusal.{Refusal}
use Rattle.zookie.specs.declared.Zookie.{Zookie}
use Rattle.watch.specs.declared.limits.TheConstants.{MAX_COMMITS, MAX_NAMES}
use Rattle.watch.specs.declared.watched.Namespaces.{Namespaces}
use Rattle.watch.specs.declared.watched.Namespaces.TheVariants.{All, These}
use Rattle.bodies.specs.Requests.{ReadsAs, number_at, IsZookieOf, BodyCause}
use Rattle.bodies.specs.Writing.{IsListOf}

-- the value is a text that is the name
abbrev pub AsksName : Data → List ℕ → Type 0
AsksName d name = (as_str d ≡ Some name) × IsTrue (is_name name)

-- all where there is no such member, and else `[name, ..]`, with 1 to 64 names; one that stands twice counts twice
abbrev pub AsksNamespaces : Option Data → Namespaces → Type 0
AsksNamespaces None All = Unit {0}
AsksNamespaces None (These names) = ⊥
AsksNamespaces (Some d) All = ⊥
AsksNamespaces (Some d) (These names) = IsListOf AsksName names d × (1 ≤ length names) × (length names ≤ MAX_NAMES)

-- `{"commits": number, "cursor": text, "namespaces": ..}`, with 1 to 256 commits
pub record WatchOf (IsOf : List ℕ → Zookie → Type 0) (d : Data) (cursor : Zookie) (namespaces : Namespaces) (commits : ℕ) : Type 0 where
  pub only : has_only (codes "commits" ∷ codes "cursor" ∷ codes "namespaces" ∷ []) d ≡ true
  pub cursor_is : IsSomeAnd (text_at (codes "cursor") d) (λ text. IsOf text cursor)
  pub commits_at : number_at (codes "commits") d ≡ Some commits
  pub some : 1 ≤ commits
  pub bounded : commits ≤ MAX_COMMITS
  pub named : AsksNamespaces (get (codes "namespaces") d) namespaces

-- the body of a `watch` asks for so many commits above the cursor, and for the events of the namespaces
abbrev pub AsksWatch : List ℕ → Zookie → Namespaces → ℕ → Type 0
AsksWatch body cursor namespaces commits = ReadsAs body (λ d. WatchOf IsZookieOf d cursor namespaces commits)

-- why the body of a `watch` is refused
abbrev pub WatchBodyCause : List ℕ → Refusal → Type 0
WatchBodyCause body = BodyCause (λ IsOf.
    (cursor : Zookie) × (namespaces : Namespaces) × (commits : ℕ) × ReadsAs body (λ d. WatchOf IsOf d cursor namespaces commits))
