-- Events as one text, and read back from it.
use Rattle.std.proofs.Common.{◌≡◌, ℕ, zero, suc, ◌+◌, ◌-◌, ◌<◌, ◌≤◌, List, [], ◌∷◌, ◌++◌, length, take, drop, get_or, refl, ap, ap₂, sym, subst, ◌∙◌, arith, append_assoc, length-append}
use Rattle.std.specs.List.{AllByRecursion, slice_range}
use Rattle.std.specs.Str.{IsUtf8, IsCharBoundary}
use Rattle.std.proofs.lemmas.List.{take_at, drop_at, flat_map_more, get_or_default}
use Rattle.std.proofs.Math.Seq.{get_or-append_seam}
use Rattle.std.proofs.lemmas.Str.{IsCharBoundary-before_ascii, IsCharBoundary-after_ascii}
use Rattle.names.specs.Spelling.{IsTuple}
use Rattle.names.specs.declared.commit.Event.{Event}
use Rattle.names.specs.declared.commit.EventKind.{EventKind}
use Rattle.names.specs.declared.commit.EventKind.TheVariants.{Put, Del}
use Rattle.tuple_keys.specs.Spelled.{spelled, tuple_of, IsSpelling}
use Rattle.tuple_keys.specs.Packed.{sign_of, kind_of, event_text, event_of, text_of, ends_of, events_in, ArePacked}
use Rattle.tuple_keys.proofs.Spellings.{tuple_of_spelled, spelling_is}

abbrev AreTuples : List Event → Type 0
AreTuples es = AllByRecursion (λ e. IsTuple e.tuple) es

pub kind_back : (k : EventKind) → kind_of (sign_of k) ≡ k
kind_back Put = refl
kind_back Del = refl

pub sign_ascii : (k : EventKind) → sign_of k < 128
sign_ascii Put = omega arith
sign_ascii Del = omega arith

event_back : (e : Event) → IsTuple e.tuple → event_of (event_text e) ≡ e
event_back e is = λ i. record { tuple = tuple_of_spelled e.tuple is i; kind = kind_back e.kind i }

-- ---- written

-- the events read back are those that were packed
pub read_back : (start : ℕ) (es : List Event) → AreTuples es → events_in start (text_of es) (ends_of start es) ≡ es
read_back start [] is = refl
read_back start (e ∷ es) is =
    let k = event_text e in
    let n : start + length k - start ≡ length k = omega arith in
    rw n (rw (take_at k (text_of es) (length k) refl, drop_at k (text_of es) (length k) refl) (ap₂ (λ x xs. x ∷ xs) (event_back e is.0) (read_back (start + length k) es is.1)))

pub reads : (text ends : List ℕ) (es : List Event) → text ≡ text_of es → ends ≡ ends_of 0 es → AreTuples es → events_in 0 text ends ≡ es
reads text ends es t s is = rw (t, s) (read_back 0 es is)

pub packed : (text ends : List ℕ) (es : List Event) → text ≡ text_of es → ends ≡ ends_of 0 es → AreTuples es → ArePacked text ends (events_in 0 text ends)
packed text ends es t s is =
    subst (ArePacked text ends) (sym (reads text ends es t s is)) (record { tuples = is; text_is = sym t; ends_are = sym s })

pub text_more : (es : List Event) (e : Event) → text_of (es ++ e ∷ []) ≡ text_of es ++ event_text e
text_more es e = sym (flat_map_more event_text [] es e)

ends_from : (start : ℕ) (es : List Event) (e : Event) → ends_of start (es ++ e ∷ []) ≡ ends_of start es ++ (start + length (text_of es ++ event_text e)) ∷ []
ends_from start [] e = refl
ends_from start (d ∷ es) e =
    let k = event_text d in
    let n : start + length k + length (text_of es ++ event_text e) ≡ start + length ((k ++ text_of es) ++ event_text e) =
    omega (arith, length-append k (text_of es), length-append (text_of es) (event_text e), length-append (k ++ text_of es) (event_text e)) in
    ap (λ ns. (start + length k) ∷ ns) (ends_from (start + length k) es e ∙ ap (λ m. ends_of (start + length k) es ++ m ∷ []) n)

pub ends_more : (es : List Event) (e : Event) → ends_of 0 (es ++ e ∷ []) ≡ ends_of 0 es ++ length (text_of es ++ event_text e) ∷ []
ends_more es e =
    let n : 0 + length (text_of es ++ event_text e) ≡ length (text_of es ++ event_text e) = omega arith in
    ends_from 0 es e ∙ ap (λ m. ends_of 0 es ++ m ∷ []) n

pub tuples_more : (es : List Event) (e : Event) → AreTuples es → IsTuple e.tuple → AreTuples (es ++ e ∷ [])
tuples_more [] e are is = (is, tt)
tuples_more (d ∷ es) e are is = (are.0, tuples_more es e are.1 is)

-- ---- read at a place

length_ends : (start : ℕ) (es : List Event) → length (ends_of start es) ≡ length es
length_ends start [] = refl
length_ends start (e ∷ es) = ap suc (length_ends (start + length (event_text e)) es)

start_at : (start : ℕ) (es : List Event) (i : ℕ) → i ≤ length es → get_or (start ∷ ends_of start es) i 0 ≡ start + length (text_of (take i es))
start_at start es zero h = omega arith
start_at start [] (suc i) h = absurd (omega arith)
start_at start (e ∷ es) (suc i) h = start_at (start + length (event_text e)) es i (omega arith) ∙ omega (arith, length-append (event_text e) (text_of (take i es)))

around : (es : List Event) (i : ℕ) (d : Event) → i < length es → text_of (take i es) ++ (event_text (get_or es i d) ++ text_of (drop (suc i) es)) ≡ text_of es
around [] i d h = absurd (omega arith)
around (e ∷ es) zero d h = refl
around (e ∷ es) (suc i) d h = append_assoc (event_text e) (text_of (take i es)) _ ∙ ap (λ t. event_text e ++ t) (around es i d (omega arith))

front_length : (es : List Event) (i : ℕ) (d : Event) → i < length es → length (text_of (take (suc i) es)) ≡ length (text_of (take i es)) + length (event_text (get_or es i d))
front_length [] i d h = absurd (omega arith)
front_length (e ∷ es) zero d h = length-append (event_text e) [] ∙ omega arith
front_length (e ∷ es) (suc i) d h =
    omega (arith, length-append (event_text e) (text_of (take (suc i) es)), length-append (event_text e) (text_of (take i es)), front_length es i d (omega arith))

tuple_at : (es : List Event) (i : ℕ) (d : Event) → AreTuples es → i < length es → IsTuple (get_or es i d).tuple
tuple_at [] i d are h = absurd (omega arith)
tuple_at (e ∷ es) zero d are h = are.0
tuple_at (e ∷ es) (suc i) d are h = tuple_at es i d are.1 (omega arith)

-- where a text of events ends, one may be cut
seam : (text p : List ℕ) (es : List Event) → text ≡ p ++ text_of es → IsCharBoundary text (length p)
seam text p [] is = (omega (arith, ap length is, length-append p []), λ l. absurd (omega (arith, ap length is, length-append p [])))
seam text p (e ∷ es) is =
    IsCharBoundary-before_ascii text (length p) (omega (arith, ap length is, length-append p (text_of (e ∷ es))))
    (let here : get_or text (length p) 0 ≡ sign_of e.kind = ap (λ l. get_or l (length p) 0) is ∙ get_or-append_seam p (sign_of e.kind) (spelled e.tuple ++ text_of es) 0 in
    subst (λ b. b < 128) (sym here) (sign_ascii e.kind))

-- what stands at a place
pub record EventAt (text : List ℕ) (start end : ℕ) (e : Event) : Type 0 where
  pub within : start < length text
  pub up : start + 1 ≤ end
  pub starts : IsCharBoundary text (start + 1)
  pub stops : IsCharBoundary text end
  pub sign : get_or text start 0 ≡ sign_of e.kind
  pub tuple : slice_range text (start + 1) end ≡ spelled e.tuple
  pub is : IsTuple e.tuple

between : (text p k q : List ℕ) → text ≡ p ++ (k ++ q) → (start end : ℕ) → start ≡ length p → end ≡ length p + length k → slice_range text start end ≡ k
between text p k q is start end s e =
    let n : length p + length k - length p ≡ length k = omega arith in
    rw (is, s, e, n, drop_at p (k ++ q) (length p) refl) (take_at k q (length k) refl)

event_between : (text p q : List ℕ) (e : Event) (es : List Event) → IsUtf8 text → q ≡ text_of es → IsTuple e.tuple → text ≡ p ++ (event_text e ++ q) → (start end : ℕ) → start ≡ length p → end ≡ length p + length (event_text e)
    → EventAt text start end e
event_between text p q e es utf8 rest is whole start end s n =
    let here : get_or text start 0 ≡ sign_of e.kind = ap₂ (λ l m. get_or l m 0) whole s ∙ get_or-append_seam p (sign_of e.kind) (spelled e.tuple ++ q) 0 in
    let inside : start < length text = omega (arith, s, ap length whole, length-append p (event_text e ++ q), length-append (event_text e) q) in
    let sign_part : text ≡ (p ++ sign_of e.kind ∷ []) ++ (spelled e.tuple ++ q) = whole ∙ sym (append_assoc p (sign_of e.kind ∷ []) (spelled e.tuple ++ q)) in
    let all_part : text ≡ (p ++ event_text e) ++ text_of es = whole ∙ sym (append_assoc p (event_text e) q) ∙ ap (λ l. (p ++ event_text e) ++ l) rest in
    record {
      within = inside;
      up = omega (arith, s, n);
      starts = IsCharBoundary-after_ascii text start utf8 inside (subst (λ b. b < 128) (sym here) (sign_ascii e.kind));
      stops = subst (IsCharBoundary text) (length-append p (event_text e) ∙ sym n) (seam text (p ++ event_text e) es all_part);
      sign = here;
      tuple = between text (p ++ sign_of e.kind ∷ []) (spelled e.tuple) q sign_part (start + 1) end (omega (arith, s, length-append p (sign_of e.kind ∷ []))) (omega (arith, n, length-append p (sign_of e.kind ∷ [])));
      is = is;
    }

-- the event that is read there
pub event_read : (text range : List ℕ) (start end : ℕ) (kind : EventKind) (e : Event) → EventAt text start end e → kind ≡ kind_of (get_or text start 0) → range ≡ slice_range text (start + 1) end
    → record { tuple = tuple_of range; kind = kind } ≡ e
event_read text range start end kind e at k r =
    let tuple : tuple_of range ≡ e.tuple = ap tuple_of (r ∙ at.tuple) ∙ tuple_of_spelled e.tuple at.is in
    let same : kind ≡ e.kind = k ∙ ap kind_of at.sign ∙ kind_back e.kind in
    λ i. record { tuple = tuple i; kind = same i }

pub spelling_at : (text range : List ℕ) (start end : ℕ) (e : Event) → EventAt text start end e → range ≡ slice_range text (start + 1) end → IsSpelling range
spelling_at text range start end e at r = spelling_is e.tuple range (r ∙ at.tuple) at.is

module _ (text ends : List ℕ) (are : ArePacked text ends (events_in 0 text ends)) (es : List Event) (view : events_in 0 text ends ≡ es) where
  seen : ArePacked text ends es
  seen = subst (ArePacked text ends) view are

  pub count : length es ≡ length ends
  count = sym (length_ends 0 es) ∙ ap length seen.ends_are

  event_here : IsUtf8 text → (i : ℕ) (d : Event) → i < length es → (start end : ℕ) → start ≡ get_or (0 ∷ ends) i 0 → end ≡ get_or ends i end → EventAt text start end (get_or es i d)
  event_here utf8 i d h start end s e =
      event_between text (text_of (take i es)) (text_of (drop (suc i) es)) (get_or es i d) (drop (suc i) es) utf8 refl (tuple_at es i d seen.tuples h) (sym seen.text_is ∙ sym (around es i d h)) start end
      (s ∙ ap (λ ns. get_or (0 ∷ ns) i 0) (sym seen.ends_are) ∙ start_at 0 es i (omega arith) ∙ omega arith)
      (e ∙ get_or_default ends i end 0 (omega (arith, count)) ∙ ap (λ ns. get_or ns i 0) (sym seen.ends_are) ∙ start_at 0 es (suc i) (omega arith) ∙ omega (arith, front_length es i d h))

  -- the same, of what was read
  pub event_at : (bytes stops : List ℕ) → bytes ≡ text → IsUtf8 bytes → stops ≡ ends → (i : ℕ) (d : Event) → i < length es → (start end : ℕ) → start ≡ get_or (0 ∷ stops) i 0 → end ≡ get_or ends i end → EventAt bytes start end (get_or es i d)
  event_at bytes stops same utf8 alike i d h start end s e =
      subst (λ t. EventAt t start end (get_or es i d)) (sym same) (event_here (subst IsUtf8 same utf8) i d h start end (s ∙ ap (λ ns. get_or (0 ∷ ns) i 0) alike) e)
