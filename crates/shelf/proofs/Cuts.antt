-- Texts one after another, cut where each ends.
use Rattle.std.proofs.Common.{◌≡◌, ℕ, zero, suc, ◌+◌, ◌-◌, ◌<◌, ◌≤◌, List, [], ◌∷◌, ◌++◌, length, take, drop, get_or, refl, ap, sym, subst, ◌∙◌, arith, append_assoc, length-append}
use Rattle.std.specs.List.{AllByRecursion, concat, slice_range}
use Rattle.std.specs.Str.{IsUtf8, IsCharBoundary}
use Rattle.std.proofs.lemmas.List.{take_at, drop_at}
use Rattle.std.proofs.lemmas.Str.{IsUtf8-nil, IsUtf8-append, IsCharBoundary-at_seam}
use Rattle.shelf.specs.inside.Blocks.{cuts, ends_of, IsShort, IsBlock}

pub length_cuts : (start : ℕ) (texts ends : List ℕ) → length (cuts start texts ends) ≡ length ends
length_cuts start texts [] = refl
length_cuts start texts (end ∷ ends) = ap suc (length_cuts end (drop (end - start) texts) ends)

-- cut where they end, the texts are as they were
pub cuts_ends : (start : ℕ) (ks : List (List ℕ)) → cuts start (concat ks) (ends_of start ks) ≡ ks
cuts_ends start [] = refl
cuts_ends start (k ∷ ks) =
    let n : start + length k - start ≡ length k = omega arith in
    rw n (rw (take_at k (concat ks) (length k) refl, drop_at k (concat ks) (length k) refl) (ap (λ ts. k ∷ ts) (cuts_ends (start + length k) ks)))

pub start_at : (start : ℕ) (ks : List (List ℕ)) (i : ℕ) → i ≤ length ks → get_or (start ∷ ends_of start ks) i 0 ≡ start + length (concat (take i ks))
start_at start ks zero h = omega arith
start_at start [] (suc i) h = absurd (omega arith)
start_at start (k ∷ ks) (suc i) h = start_at (start + length k) ks i (omega arith) ∙ omega (arith, length-append k (concat (take i ks)))

pub around : (ks : List (List ℕ)) (i : ℕ) → i < length ks → concat (take i ks) ++ (get_or ks i [] ++ concat (drop (suc i) ks)) ≡ concat ks
around [] i h = absurd (omega arith)
around (k ∷ ks) zero h = refl
around (k ∷ ks) (suc i) h = append_assoc k (concat (take i ks)) _ ∙ ap (λ t. k ++ t) (around ks i (omega arith))

pub front_length : (ks : List (List ℕ)) (i : ℕ) → i < length ks → length (concat (take (suc i) ks)) ≡ length (concat (take i ks)) + length (get_or ks i [])
front_length [] i h = absurd (omega arith)
front_length (k ∷ ks) zero h = length-append k [] ∙ omega arith
front_length (k ∷ ks) (suc i) h = omega (arith, length-append k (concat (take (suc i) ks)), length-append k (concat (take i ks)), front_length ks i (omega arith))

pub short_at : (ks : List (List ℕ)) (i : ℕ) → AllByRecursion IsShort ks → i < length ks → IsShort (get_or ks i [])
short_at [] i s h = absurd (omega arith)
short_at (k ∷ ks) zero s h = s.0
short_at (k ∷ ks) (suc i) s h = short_at ks i s.1 (omega arith)

pub short_from : (ks : List (List ℕ)) (i : ℕ) → AllByRecursion IsShort ks → AllByRecursion IsShort (drop i ks)
short_from ks zero s = s
short_from [] (suc i) s = s
short_from (k ∷ ks) (suc i) s = short_from ks i s.1

pub utf8_all : (ks : List (List ℕ)) → AllByRecursion IsShort ks → IsUtf8 (concat ks)
utf8_all [] s = IsUtf8-nil
utf8_all (k ∷ ks) s = IsUtf8-append k (concat ks) s.0.1 (utf8_all ks s.1)

-- where a text stands
pub record CutAt (texts : List ℕ) (start end : ℕ) (k : List ℕ) : Type 0 where
  pub up : start ≤ end
  pub starts : IsCharBoundary texts start
  pub stops : IsCharBoundary texts end
  pub reads : slice_range texts start end ≡ k

between : (texts p k q : List ℕ) → texts ≡ p ++ (k ++ q) → slice_range texts (length p) (length p + length k) ≡ k
between texts p k q is =
    let n : length p + length k - length p ≡ length k = omega arith in
    rw (is, n, drop_at p (k ++ q) (length p) refl) (take_at k q (length k) refl)

cut_between : (texts p k q : List ℕ) → texts ≡ p ++ (k ++ q) → IsUtf8 k → IsUtf8 q → (start end : ℕ) → start ≡ length p → end ≡ length p + length k → CutAt texts start end k
cut_between texts p k q is u v start end s e = record {
  up = omega arith;
  starts = subst (IsCharBoundary texts) (sym s) (IsCharBoundary-at_seam texts p (k ++ q) is (IsUtf8-append k q u v));
  stops = subst (IsCharBoundary texts) (length-append p k ∙ sym e) (IsCharBoundary-at_seam texts (p ++ k) q (is ∙ sym (append_assoc p k q)) v);
  reads = rw (s, e) (between texts p k q is);
}

pub cut_at : (texts ends : List ℕ) (count : ℕ) → IsBlock texts ends count → (i : ℕ) → i < length ends → CutAt texts (get_or (0 ∷ ends) i 0) (get_or ends i 0) (get_or (cuts 0 texts ends) i [])
cut_at texts ends count is i h =
    let ks = cuts 0 texts ends in
    let within : i < length ks = omega (arith, length_cuts 0 texts ends) in
    cut_between texts (concat (take i ks)) (get_or ks i []) (concat (drop (suc i) ks)) (sym is.joined ∙ sym (around ks i within)) (short_at ks i is.short within).1 (utf8_all (drop (suc i) ks) (short_from ks (suc i) is.short))
    _ _
    (ap (λ es. get_or (0 ∷ es) i 0) (sym is.ended) ∙ start_at 0 ks i (omega arith) ∙ omega arith)
    (ap (λ es. get_or es i 0) (sym is.ended) ∙ start_at 0 ks (suc i) (omega arith) ∙ omega (arith, front_length ks i within))
