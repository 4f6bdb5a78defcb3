-- The configurations with their revisions, and what the revisions hold.
use Rattle.std.proofs.Common.{◌≡◌, ℕ, ◌+◌, ◌<◌, ◌≤◌, List, [], ◌∷◌, ◌++◌, length, take, drop, zero, suc, get_or, refl, ap, sym, ◌∙◌, arith}
use Rattle.std.specs.Prelude.{cond, nat_le}
use Rattle.std.proofs.Math.Seq.{take-suc, drop-cons}
use Rattle.std.proofs.lemmas.Bool.{le-leb, lt-leb}
use Rattle.names.specs.declared.commit.Event.{Event}
use Rattle.names.specs.declared.commit.Commit.TheVariants as kinds
use Rattle.meaning.specs.Config.{Configured}
use Rattle.meaning.specs.Snap.{Snap}
use Rattle.meaning.specs.History.{History, after_commit, after_commits}
use Rattle.versions.proofs.VersionRuns.{take_none}
use Rattle.versions.proofs.Settling.{drop_none}
use Rattle.rows.specs.declared.config_at.ConfigAt.{ConfigAt}
use Rattle.rows.specs.Representation.{configs_after, config_from, config_after_settle, last_or, configs_above}

-- the configuration of a revision
late_config : (config : Configured) (n rev : ℕ) (h : History) → rev ≤ n → config_from config (configs_after n h) rev ≡ config
late_config config n rev [] small = refl
late_config config n rev (kinds.Tuples es ∷ h) small = late_config config (n + 1) rev h (omega (arith, small))
late_config config n rev (kinds.Config c ∷ h) small =
    ap (λ b. config_from (cond b c config) (configs_after (n + 1) h) rev) (lt-leb (n + 1) rev (omega (arith, small))) ∙ late_config config (n + 1) rev h (omega (arith, small))

pub config_of : (s : Snap) (n k : ℕ) (h : History) → (after_commits s (take k h)).config ≡ config_from s.config (configs_after n h) (n + k)
config_of s n zero h = ap (λ (cs : History). (after_commits s cs).config) (take_none h) ∙ sym (late_config s.config n (n + 0) h (omega arith))
config_of s n (suc k) [] = refl
config_of s n (suc k) (kinds.Tuples es ∷ h) =
    config_of (after_commit s (kinds.Tuples es)) (n + 1) k h
    ∙ ap (λ r. config_from s.config (configs_after (n + 1) h) r) (omega arith)
config_of s n (suc k) (kinds.Config c ∷ h) =
    config_of (after_commit s (kinds.Config c)) (n + 1) k h
    ∙ ap (λ r. config_from c (configs_after (n + 1) h) r) (omega arith)
    ∙ ap (λ b. config_from (cond b c s.config) (configs_after (n + 1) h) (n + suc k)) (sym (le-leb (n + 1) (n + suc k) (omega arith)))

pub configs_push : (n : ℕ) (h : History) (c : Configured) → configs_after n (h ++ kinds.Config c ∷ []) ≡ configs_after n h ++ record { rev = n + length h + 1; config = c } ∷ []
configs_push n [] c = ap (λ r. record { rev = r; config = c } ∷ []) (omega arith)
configs_push n (kinds.Tuples es ∷ h) c = configs_push (n + 1) h c ∙ ap (λ r. configs_after (n + 1) h ++ record { rev = r; config = c } ∷ []) (omega arith)
configs_push n (kinds.Config b ∷ h) c = ap (λ ds. record { rev = n + 1; config = b } ∷ ds) (configs_push (n + 1) h c ∙ ap (λ r. configs_after (n + 1) h ++ record { rev = r; config = c } ∷ []) (omega arith))

pub configs_same : (n : ℕ) (h : History) (es : List Event) → configs_after n (h ++ kinds.Tuples es ∷ []) ≡ configs_after n h
configs_same n [] es = refl
configs_same n (kinds.Tuples fs ∷ h) es = configs_same (n + 1) h es
configs_same n (kinds.Config b ∷ h) es = ap (λ ds. record { rev = n + 1; config = b } ∷ ds) (configs_same (n + 1) h es)

-- the last configuration that counts
config_more : (config : Configured) (ds : List ConfigAt) (d : ConfigAt) (rev : ℕ) → config_from config (ds ++ d ∷ []) rev ≡ cond (nat_le d.rev rev) d.config (config_from config ds rev)
config_more config [] d rev = refl
config_more config (x ∷ ds) d rev = config_more (cond (nat_le x.rev rev) x.config config) ds d rev

-- where the one at k counts, it decides; else those before it do
module _ (config : Configured) (ds : List ConfigAt) (k : ℕ) (d : ConfigAt) (rev : ℕ) (small : k < length ds) (is : d ≡ get_or ds k d) where
  config_at : config_from config (take (suc k) ds) rev ≡ cond (nat_le d.rev rev) d.config (config_from config (take k ds) rev)
  config_at = ap (λ xs. config_from config xs rev) (take-suc ds k d small ∙ ap (λ x. take k ds ++ x ∷ []) (sym is)) ∙ config_more config (take k ds) d rev

  pub config_counts : d.rev ≤ rev → config_from config (take (suc k) ds) rev ≡ d.config
  config_counts h = config_at ∙ ap (λ b. cond b d.config (config_from config (take k ds) rev)) (le-leb d.rev rev h)

  pub config_late : rev < d.rev → config_from config (take (suc k) ds) rev ≡ config_from config (take k ds) rev
  config_late h = config_at ∙ ap (λ b. cond b d.config (config_from config (take k ds) rev)) (lt-leb d.rev rev h)

-- the last configuration of those taken
last_more : (config : Configured) (ds : List ConfigAt) (d : ConfigAt) → last_or config (ds ++ d ∷ []) ≡ d.config
last_more config [] d = refl
last_more config (x ∷ ds) d = last_more x.config ds d

pub last_at : (config : Configured) (ds : List ConfigAt) (k : ℕ) (d : ConfigAt) → k < length ds → d ≡ get_or ds k d → last_or config (take (suc k) ds) ≡ d.config
last_at config ds k d small is = ap (last_or config) (take-suc ds k d small ∙ ap (λ x. take k ds ++ x ∷ []) (sym is)) ∙ last_more config (take k ds) d

-- where the next one counts, it is taken
module _ (rev : ℕ) (ds : List ConfigAt) (k : ℕ) (d : ConfigAt) (small : k < length ds) (is : d ≡ get_or ds k d) where
  next_is : drop k ds ≡ d ∷ drop (suc k) ds
  next_is = drop-cons ds k d small ∙ ap (λ x. x ∷ drop (suc k) ds) (sym is)

  pub settle_more : (config : Configured) → d.rev ≤ rev → config_after_settle (last_or config (take k ds)) (drop k ds) rev ≡ config_after_settle (last_or config (take (suc k) ds)) (drop (suc k) ds) rev
  settle_more config h =
      ap (λ xs. config_after_settle (last_or config (take k ds)) xs rev) next_is
      ∙ ap (λ b. cond b (config_after_settle d.config (drop (suc k) ds) rev) (last_or config (take k ds))) (le-leb d.rev rev h)
      ∙ ap (λ c. config_after_settle c (drop (suc k) ds) rev) (sym (last_at config ds k d small is))

  pub above_more : d.rev ≤ rev → configs_above rev (drop k ds) ≡ configs_above rev (drop (suc k) ds)
  above_more h = ap (configs_above rev) next_is ∙ ap (λ b. cond b (configs_above rev (drop (suc k) ds)) (d ∷ drop (suc k) ds)) (le-leb d.rev rev h)

-- those up to a revision taken into what the floor holds
none_settles : (config : Configured) (n rev : ℕ) (h : History) → rev ≤ n → config_after_settle config (configs_after n h) rev ≡ config
none_settles config n rev [] small = refl
none_settles config n rev (kinds.Tuples es ∷ h) small = none_settles config (n + 1) rev h (omega (arith, small))
none_settles config n rev (kinds.Config c ∷ h) small = ap (λ b. cond b (config_after_settle c (configs_after (n + 1) h) rev) config) (lt-leb (n + 1) rev (omega (arith, small)))

all_above : (n rev : ℕ) (h : History) → rev ≤ n → configs_above rev (configs_after n h) ≡ configs_after n h
all_above n rev [] small = refl
all_above n rev (kinds.Tuples es ∷ h) small = all_above (n + 1) rev h (omega (arith, small))
all_above n rev (kinds.Config c ∷ h) small =
    ap (λ b. cond b (configs_above rev (configs_after (n + 1) h)) (record { rev = n + 1; config = c } ∷ configs_after (n + 1) h)) (lt-leb (n + 1) rev (omega (arith, small)))

pub config_settles : (s : Snap) (n k : ℕ) (h : History) → config_after_settle s.config (configs_after n h) (n + k) ≡ (after_commits s (take k h)).config
config_settles s n zero h = none_settles s.config n (n + 0) h (omega arith) ∙ ap (λ (x : History). (after_commits s x).config) (sym (take_none h))
config_settles s n (suc k) [] = refl
config_settles s n (suc k) (kinds.Tuples es ∷ h) =
    ap (λ r. config_after_settle s.config (configs_after (n + 1) h) r) (omega arith) ∙ config_settles (after_commit s (kinds.Tuples es)) (n + 1) k h
config_settles s n (suc k) (kinds.Config c ∷ h) =
    ap (λ b. cond b (config_after_settle c (configs_after (n + 1) h) (n + suc k)) s.config) (le-leb (n + 1) (n + suc k) (omega arith))
    ∙ ap (λ r. config_after_settle c (configs_after (n + 1) h) r) (omega arith) ∙ config_settles (after_commit s (kinds.Config c)) (n + 1) k h

pub configs_settle : (n k : ℕ) (h : History) → configs_above (n + k) (configs_after n h) ≡ configs_after (n + k) (drop k h)
configs_settle n zero h = all_above n (n + 0) h (omega arith) ∙ ap (λ r. configs_after r h) (omega arith) ∙ ap (configs_after (n + 0)) (sym (drop_none h))
configs_settle n (suc k) [] = refl
configs_settle n (suc k) (kinds.Tuples es ∷ h) =
    ap (λ r. configs_above r (configs_after (n + 1) h)) (omega arith) ∙ configs_settle (n + 1) k h ∙ ap (λ r. configs_after r (drop k h)) (omega arith)
configs_settle n (suc k) (kinds.Config c ∷ h) =
    ap (λ b. cond b (configs_above (n + suc k) (configs_after (n + 1) h)) (record { rev = n + 1; config = c } ∷ configs_after (n + 1) h)) (le-leb (n + 1) (n + suc k) (omega arith))
    ∙ ap (λ r. configs_above r (configs_after (n + 1) h)) (omega arith) ∙ configs_settle (n + 1) k h ∙ ap (λ r. configs_after r (drop k h)) (omega arith)
