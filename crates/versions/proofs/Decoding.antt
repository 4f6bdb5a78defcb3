-- The map as it stands in memory, and the tuples that its texts spell.
use Rattle.std.proofs.Common.{◌≡◌, ℕ, List, [], ◌∷◌, refl, ap, ap₂, sym, subst, ◌∙◌}
use Rattle.std.specs.Prelude.{Bool, true, false, cond, Option, None, Some, IsSome}
use Rattle.std.specs.Option.{unwrap_or}
use Rattle.std.specs.List.{AllByRecursion}
use Rattle.std.specs.List.Sorted.{IsStrictlySortedBy}
use Rattle.std.specs.Map.{lookup, set_value, remove_entry, keys_of}
use Rattle.std.specs.BTreeMap.{insert_entry}
use Rattle.std.specs.Ordering.{match_ordering, is_eq, nat_cmp}
use Rattle.std.specs.Cmp.Lexicographic.{slice_cmp}
use Rattle.std.specs.declared.cmp.Ordering.{Ordering}
use Rattle.std.specs.declared.cmp.Ordering.TheVariants.{Less, Equal, Greater}
use Rattle.std.specs.Cmp.{eq_by_cmp_equiv}
use Rattle.shelf.specs.Texts.{text_cmp, is_text}
use Rattle.names.specs.Order.{tuple_cmp, is_same_tuple}
use Rattle.names.specs.declared.tuple.Tuple.{Tuple}
use Rattle.meaning.proofs.TupleSets.{tuples_total}
use Rattle.versions.specs.declared.version.Version.{Version}
use Rattle.tuple_keys.specs.Spelled.{tuple_of, IsSpelling}
use Rattle.versions.specs.Versions.{Entries, versions_at, items_or, keys}
use Rattle.versions.specs.Texts.{Texts, entry_of, entries_of, AreSpelled}
use Rattle.tuple_keys.proofs.Spellings.{texts_order}
use Rattle.versions.proofs.Bases.{same_is}
use Rattle.versions.proofs.Placing.{placed, set_at, inserted_at, nothing_changed}

same_text : (a b : List ℕ) → IsSpelling a → IsSpelling b → is_eq (slice_cmp nat_cmp a b) ≡ is_same_tuple (tuple_of a) (tuple_of b)
same_text a b x y = ap is_eq (texts_order a b x y)

-- a text looked up
module _ (text : List ℕ) (is : IsSpelling text) where
  looked_up : (es : Texts) → AreSpelled es → lookup (is_text text) es ≡ lookup (is_same_tuple (tuple_of text)) (entries_of es)
  looked_up [] s = refl
  looked_up (e ∷ es) s = ap₂ (λ b (o : Option (List Version)). cond b (Some e.1) o) (same_text text e.0 is s.0) (looked_up es s.1)

  decoded_set : (es : Texts) (w : List Version) → AreSpelled es → entries_of (set_value (is_text text) es w) ≡ set_value (is_same_tuple (tuple_of text)) (entries_of es) w
  decoded_set [] w s = refl
  decoded_set (e ∷ es) w s =
      ap (λ b. entries_of (cond b ((e.0, w) ∷ es) (e ∷ set_value (is_text text) es w))) (same_text text e.0 is s.0)
      ∙ by_same (is_same_tuple (tuple_of text) (tuple_of e.0)) (decoded_set es w s.1)
    where
      by_same : (b : Bool) → entries_of (set_value (is_text text) es w) ≡ set_value (is_same_tuple (tuple_of text)) (entries_of es) w
          → entries_of (cond b ((e.0, w) ∷ es) (e ∷ set_value (is_text text) es w)) ≡ cond b ((tuple_of e.0, w) ∷ entries_of es) (entry_of e ∷ set_value (is_same_tuple (tuple_of text)) (entries_of es) w)
      by_same true rest = refl
      by_same false rest = ap (λ (fs : Entries). entry_of e ∷ fs) rest

  spelled_out : (es : Texts) → AreSpelled es → AreSpelled (remove_entry (is_text text) es)
  spelled_out [] s = s
  spelled_out (e ∷ es) s = by_same (is_text text e.0) (spelled_out es s.1)
    where
      by_same : (b : Bool) → AreSpelled (remove_entry (is_text text) es) → AreSpelled (cond b es (e ∷ remove_entry (is_text text) es))
      by_same true rest = s.1
      by_same false rest = (s.0, rest)

  -- a tuple that another one was taken out beside
  others_stay : (es : Texts) → AreSpelled es → (q : Tuple) → is_same_tuple q (tuple_of text) ≡ false → lookup (is_same_tuple q) (entries_of (remove_entry (is_text text) es)) ≡ lookup (is_same_tuple q) (entries_of es)
  others_stay [] s q other = refl
  others_stay (e ∷ es) s q other = by_same (is_text text e.0) refl (others_stay es s.1 q other)
    where
      by_same : (b : Bool) → is_text text e.0 ≡ b → lookup (is_same_tuple q) (entries_of (remove_entry (is_text text) es)) ≡ lookup (is_same_tuple q) (entries_of es)
          → lookup (is_same_tuple q) (entries_of (cond b es (e ∷ remove_entry (is_text text) es))) ≡ cond (is_same_tuple q (tuple_of e.0)) (Some e.1) (lookup (is_same_tuple q) (entries_of es))
      by_same true is_e rest = sym (ap (λ b. cond b (Some e.1) (lookup (is_same_tuple q) (entries_of es))) (ap (is_same_tuple q) (sym (same_is (tuple_of text) (tuple_of e.0) (sym (same_text text e.0 is s.0) ∙ is_e))) ∙ other))
      by_same false is_e rest = ap (λ o. cond (is_same_tuple q (tuple_of e.0)) (Some e.1) o) rest

  spelled_set : (es : Texts) (w : List Version) → AreSpelled es → AreSpelled (set_value (is_text text) es w)
  spelled_set [] w s = s
  spelled_set (e ∷ es) w s = by_same (is_text text e.0) (spelled_set es w s.1)
    where
      by_same : (b : Bool) → AreSpelled (set_value (is_text text) es w) → AreSpelled (cond b ((e.0, w) ∷ es) (e ∷ set_value (is_text text) es w))
      by_same true rest = s
      by_same false rest = (s.0, rest)

-- a text put in
module _ (k : List ℕ) (v : List Version) (is : IsSpelling k) where
  decoded_insert : (es : Texts) → AreSpelled es → entries_of (insert_entry text_cmp es k v) ≡ insert_entry tuple_cmp (entries_of es) (tuple_of k) v
  decoded_insert [] s = refl
  decoded_insert (e ∷ es) s =
      ap (λ r. entries_of (match_ordering r ((k, v) ∷ e ∷ es) ((e.0, v) ∷ es) (e ∷ insert_entry text_cmp es k v))) (texts_order k e.0 is s.0)
      ∙ by_order (tuple_cmp (tuple_of k) (tuple_of e.0)) (decoded_insert es s.1)
    where
      by_order : (r : Ordering) → entries_of (insert_entry text_cmp es k v) ≡ insert_entry tuple_cmp (entries_of es) (tuple_of k) v
          → entries_of (match_ordering r ((k, v) ∷ e ∷ es) ((e.0, v) ∷ es) (e ∷ insert_entry text_cmp es k v))
          ≡ match_ordering r ((tuple_of k, v) ∷ entry_of e ∷ entries_of es) ((tuple_of e.0, v) ∷ entries_of es) (entry_of e ∷ insert_entry tuple_cmp (entries_of es) (tuple_of k) v)
      by_order Less rest = refl
      by_order Equal rest = refl
      by_order Greater rest = ap (λ (fs : Entries). entry_of e ∷ fs) rest

  pub spelled_insert : (es : Texts) → AreSpelled es → AreSpelled (insert_entry text_cmp es k v)
  spelled_insert [] s = (is, s)
  spelled_insert (e ∷ es) s = by_order (text_cmp k e.0) (spelled_insert es s.1)
    where
      by_order : (r : Ordering) → AreSpelled (insert_entry text_cmp es k v) → AreSpelled (match_ordering r ((k, v) ∷ e ∷ es) ((e.0, v) ∷ es) (e ∷ insert_entry text_cmp es k v))
      by_order Less rest = (is, s)
      by_order Equal rest = s
      by_order Greater rest = (s.0, rest)

-- the tuples are in order, as the texts are
pub sorted_tuples : (es : Texts) → AreSpelled es → IsStrictlySortedBy text_cmp (keys_of es) → IsStrictlySortedBy tuple_cmp (keys (entries_of es))
unfolding IsStrictlySortedBy
sorted_tuples [] s sorted = sorted
sorted_tuples (e ∷ es) s sorted = (above es s.1 sorted.0, sorted_tuples es s.1 sorted.1)
  where
    above : (fs : Texts) → AreSpelled fs → AllByRecursion (λ k. text_cmp e.0 k ≡ Less) (keys_of fs) → AllByRecursion (λ t. tuple_cmp (tuple_of e.0) t ≡ Less) (keys (entries_of fs))
    above [] x h = h
    above (f ∷ fs) x h = (sym (texts_order e.0 f.0 s.0 x.0) ∙ h.0, above fs x.1 h.1)

or_none : (o : Option (List Version)) (none : List Version) → none ≡ [] → unwrap_or o none ≡ items_or o
or_none None none h = h
or_none (Some vs) none h = refl

-- One step: what is at a text that spells the tuple t.
module _ (text : List ℕ) (is : IsSpelling text) (t : Tuple) (reads : tuple_of text ≡ t) (es : Texts) (s : AreSpelled es) where
  found : lookup (is_text text) es ≡ lookup (is_same_tuple t) (entries_of es)
  found = looked_up text is es s ∙ ap (λ x. lookup (is_same_tuple x) (entries_of es)) reads

  pub versions_found : items_or (lookup (is_text text) es) ≡ versions_at (entries_of es) t
  versions_found = ap items_or found

  -- what was lent there, where nothing stands for none
  pub versions_or_none : (none : List Version) → none ≡ [] → unwrap_or (lookup (is_text text) es) none ≡ versions_at (entries_of es) t
  versions_or_none none is_none = or_none (lookup (is_text text) es) none is_none ∙ versions_found

  has_some : (old : List Version) → Some old ≡ lookup (is_text text) es → IsSome (lookup (is_same_tuple t) (entries_of es))
  has_some old h = subst IsSome (h ∙ found) refl

  -- what was lent there, written
  pub written : (fs : Texts) (old new : List Version) (f : List Version → List Version) → Some old ≡ lookup (is_text text) es → fs ≡ set_value (is_text text) es new → new ≡ f old
      → (q : Tuple) → versions_at (entries_of fs) q ≡ cond (is_same_tuple q t) (f (versions_at (entries_of es) q)) (versions_at (entries_of es) q)
  written fs old new f was now gives =
      placed (entries_of es) (entries_of fs) t new f
      (λ q. ap (λ (ds : Entries). lookup (is_same_tuple q) ds) (ap entries_of now ∙ decoded_set text is es new s ∙ ap (λ x. set_value (is_same_tuple x) (entries_of es) new) reads)
      ∙ set_at (entries_of es) t new (has_some old was) q)
      (gives ∙ ap f (ap items_or was ∙ versions_found))

  pub written_spelled : (fs : Texts) (new : List Version) → fs ≡ set_value (is_text text) es new → AreSpelled fs
  written_spelled fs new now = subst AreSpelled (sym now) (spelled_set text is es new s)

  -- no versions were written there
  pub written_none : (fs : Texts) (old new : List Version) → Some old ≡ lookup (is_text text) es → fs ≡ set_value (is_text text) es new → new ≡ [] → versions_at (entries_of fs) t ≡ []
  written_none fs old new was now none = written fs old new (λ _. []) was now none t ∙ ap (λ b. cond b [] (versions_at (entries_of es) t)) ((eq_by_cmp_equiv tuples_total).refl t)

  -- it had no versions, and was taken out
  pub taken_out : (fs : Texts) → fs ≡ remove_entry (is_text text) es → lookup (is_text text) fs ≡ None → versions_at (entries_of es) t ≡ [] → (q : Tuple) → versions_at (entries_of fs) q ≡ versions_at (entries_of es) q
  taken_out fs now none empty q = by_same (is_same_tuple q t) refl
    where
      by_same : (b : Bool) → is_same_tuple q t ≡ b → versions_at (entries_of fs) q ≡ versions_at (entries_of es) q
      by_same true is_t =
          ap (versions_at (entries_of fs)) (same_is q t is_t)
          ∙ ap items_or (ap (λ x. lookup (is_same_tuple x) (entries_of fs)) (sym reads) ∙ sym (looked_up text is fs (subst AreSpelled (sym now) (spelled_out text is es s))) ∙ none)
          ∙ sym (ap (versions_at (entries_of es)) (same_is q t is_t) ∙ empty)
      by_same false is_t =
          ap items_or (ap (λ (ds : Texts). lookup (is_same_tuple q) (entries_of ds)) now ∙ others_stay text is es s q (ap (is_same_tuple q) reads ∙ is_t))

  pub taken_out_spelled : (fs : Texts) → fs ≡ remove_entry (is_text text) es → AreSpelled fs
  taken_out_spelled fs now = subst AreSpelled (sym now) (spelled_out text is es s)

  pub none_found : None ≡ lookup (is_text text) es → [] ≡ versions_at (entries_of es) t
  none_found h = ap items_or h ∙ versions_found

  -- nothing was there
  pub unwritten : (q : Tuple) (f : List Version → List Version) → f [] ≡ [] → None ≡ lookup (is_text text) es → versions_at (entries_of es) q ≡ cond (is_same_tuple q t) (f (versions_at (entries_of es) q)) (versions_at (entries_of es) q)
  unwritten q f nil h = nothing_changed (entries_of es) q t f nil (none_found h)

-- a text with versions, put in
module _ (k : List ℕ) (v : List Version) (is : IsSpelling k) (t : Tuple) (reads : tuple_of k ≡ t) (es fs : Texts) (s : AreSpelled es) (now : fs ≡ insert_entry text_cmp es k v) where
  pub put_in : (f : List Version → List Version) → v ≡ f (versions_at (entries_of es) t)
      → (q : Tuple) → versions_at (entries_of fs) q ≡ cond (is_same_tuple q t) (f (versions_at (entries_of es) q)) (versions_at (entries_of es) q)
  put_in f gives =
      placed (entries_of es) (entries_of fs) t v f
      (λ q. ap (λ (ds : Entries). lookup (is_same_tuple q) ds) (ap entries_of now ∙ decoded_insert k v is es s ∙ ap (λ x. insert_entry tuple_cmp (entries_of es) x v) reads)
      ∙ inserted_at (entries_of es) t v q)
      gives

  pub put_in_spelled : AreSpelled fs
  put_in_spelled = subst AreSpelled (sym now) (spelled_insert k v is es s)

pub sorted_view : (es : Texts) (ds : Entries) → entries_of es ≡ ds → AreSpelled es → IsStrictlySortedBy text_cmp (keys_of es) → IsStrictlySortedBy tuple_cmp (keys ds)
sorted_view es ds is s sorted = subst (λ (fs : Entries). IsStrictlySortedBy tuple_cmp (keys fs)) is (sorted_tuples es s sorted)
