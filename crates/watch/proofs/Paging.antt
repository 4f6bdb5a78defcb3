-- A page that grows by an event, and by a commit.
use Rattle.std.proofs.Common.{◌≡◌, ℕ, ◌<◌, ◌+◌, List, [], ◌∷◌, ◌++◌, length, get_or, take, suc, ap, sym, ◌∙◌, append_assoc, arith}
use Rattle.std.specs.Prelude.{map, filter}
use Rattle.std.proofs.Math.Seq.{take-suc}
use Rattle.std.proofs.lemmas.List.{map-append, length-take-le, append-nil}
use Rattle.std.proofs.lemmas.List.Elements.{filter-append}
use Rattle.names.specs.declared.commit.Event.{Event}
use Rattle.names.specs.declared.commit.Commit.{Commit}
use Rattle.meaning.specs.Config.{Configured}
use Rattle.meaning.specs.History.{History}
use Rattle.watch.specs.declared.watched.Namespaces.{Namespaces}
use Rattle.watch.specs.declared.watched.WatchedEvent.{WatchedEvent}
use Rattle.watch.specs.Watched.{is_watched, watched_of, watched_in, watched}

module _ (n : Namespaces) where
  of_append : (rev : ℕ) (xs ys : List Event) → watched_of n rev (xs ++ ys) ≡ watched_of n rev xs ++ watched_of n rev ys
  of_append rev xs ys =
      let at : Event → WatchedEvent = λ e. record { rev = rev; event = e } in
      let test = λ (e : Event). is_watched n e.tuple in
      ap (map at) (filter-append test xs ys) ∙ map-append at (filter test xs) (filter test ys)

  pub one_event_more : (rev : ℕ) (es : List Event) (i : ℕ) (e : Event) → i < length es → e ≡ get_or es i e
      → watched_of n rev (take (suc i) es) ≡ watched_of n rev (take i es) ++ watched_of n rev (e ∷ [])
  one_event_more rev es i e within is =
      ap (watched_of n rev) (take-suc es i e within ∙ ap (λ x. take i es ++ x ∷ []) (sym is)) ∙ of_append rev (take i es) (e ∷ [])

  watched_append : (above : ℕ) (cs ds : History) → watched n above (cs ++ ds) ≡ watched n above cs ++ watched n (above + length cs) ds
  watched_append above [] ds = ap (λ k. watched n k ds) (omega arith)
  watched_append above (c ∷ cs) ds =
      ap (λ ws. watched_in n (above + 1) c ++ ws) (watched_append (above + 1) cs ds)
      ∙ sym (append_assoc (watched_in n (above + 1) c) (watched n (above + 1) cs) (watched n (above + 1 + length cs) ds))
      ∙ ap (λ k. (watched_in n (above + 1) c ++ watched n (above + 1) cs) ++ watched n k ds) (omega arith)

  pub one_commit_more : (above : ℕ) (cs : History) (i : ℕ) (c : Commit Configured) → i < length cs → c ≡ get_or cs i c
      → watched n above (take (suc i) cs) ≡ watched n above (take i cs) ++ watched_in n (above + i + 1) c
  one_commit_more above cs i c within is =
      ap (watched n above) (take-suc cs i c within ∙ ap (λ x. take i cs ++ x ∷ []) (sym is))
      ∙ watched_append above (take i cs) (c ∷ [])
      ∙ ap (λ ws. watched n above (take i cs) ++ ws) (append-nil (watched_in n (above + length (take i cs) + 1) c))
      ∙ ap (λ k. watched n above (take i cs) ++ watched_in n (above + k + 1) c) (length-take-le i cs (omega (arith, within)))
