-- Writes, one after another.
use Rattle.std.proofs.Common.{◌≡◌, ◌++◌, List, [], ℕ, ◌-◌, length, refl, sym, ap, ◌∙◌, append_assoc, arith, take, drop, subst, Bor, get_or, ◌+◌, ◌<◌, add-one, drop-cons}
use Rattle.std.specs.List.{flat_map}
use Rattle.std.specs.Prelude.{Result, Ok, Err}
use Rattle.std.proofs.lemmas.List.{append-nil, take-append-drop, take_all, length-drop}
use Rattle.tracked_io.specs.Wrote.{Taken, Took, WroteSome, Wrote}

-- these bytes were written, and the rest not yet
pub record SoFar (old new : Taken) (bytes rest : List ℕ) : Type 0 where
  pub written : List ℕ
  pub parts : bytes ≡ written ++ rest
  pub took : Took old new written

pub took_none : (at : Taken) → Took at at []
took_none at = ap (λ bytes. record at { bytes = bytes }) (sym (append-nil at.bytes))

pub took_both : (a b c : Taken) (xs ys : List ℕ) → Took a b xs → Took b c ys → Took a c (xs ++ ys)
took_both a b c xs ys h k = k ∙ ap (λ (t : Taken). record t { bytes = t.bytes ++ ys }) h ∙ ap (λ bytes. record a { bytes = bytes }) (append_assoc a.bytes xs ys)

pub took_kept : (a b c : Taken) (xs : List ℕ) → Took a b xs → c ≡ b → Took a c xs
took_kept a b c xs h e = e ∙ h

pub so_far_none : (at : Taken) (bytes : List ℕ) → SoFar at at bytes bytes
so_far_none at bytes = record { written = []; parts = refl; took = took_none at }

so_far_drop : (a b c : Taken) (bytes rest : List ℕ) (n : ℕ) → SoFar a b bytes rest → Took b c (take n rest) → SoFar a c bytes (drop n rest)
so_far_drop a b c bytes rest n f h = record {
  written = f.written ++ take n rest;
  parts = f.parts ∙ ap (λ z. f.written ++ z) (sym (take-append-drop n rest)) ∙ sym (append_assoc f.written (take n rest) (drop n rest));
  took = took_both a b c f.written (take n rest) f.took h;
}

pub so_far_more : (a b c : Taken) (bytes rest : List ℕ) (n : ℕ) → SoFar a b bytes rest → Took b c (take n rest) → SoFar a c bytes (take (length rest - n) (drop n rest))
so_far_more a b c bytes rest n f h =
    rw (take_all (length rest - n) (drop n rest) (omega (arith, length-drop {A = ℕ}))) (so_far_drop a b c bytes rest n f h)

pub some_from_so_far : (a b c : Taken) (bytes rest : List ℕ) → SoFar a b bytes rest → c ≡ b → WroteSome a c bytes
some_from_so_far a b c bytes rest f k = (f.written, rest, f.parts, took_kept a b c f.written f.took k)

pub all_from_so_far : (a b : Taken) (bytes rest : List ℕ) → SoFar a b bytes rest → rest ≡ [] → Took a b bytes
all_from_so_far a b bytes rest f e = let same : f.written ≡ bytes = sym (f.parts ∙ ap (λ z. f.written ++ z) e ∙ append-nil f.written) in rw same at f.took

-- a part was written whole, and then some of the next
pub some_after : (a b c : Taken) (xs ys : List ℕ) → Took a b xs → WroteSome b c ys → WroteSome a c (xs ++ ys)
some_after a b c xs ys h s = (
  xs ++ s.0,
  s.1,
  ap (λ z. xs ++ z) s.2 ∙ sym (append_assoc xs s.0 s.1),
  took_both a b c xs s.0 h s.3,
)

-- some of a part was written, and nothing of the next
pub some_before : (a b : Taken) (xs ys : List ℕ) → WroteSome a b xs → WroteSome a b (xs ++ ys)
some_before a b xs ys s = (s.0, s.1 ++ ys, ap (λ z. z ++ ys) s.2 ∙ append_assoc s.0 s.1 ys, s.3)

-- the next part was written
pub so_far_part : (a b c : Taken) (bytes part rest : List ℕ) → SoFar a b bytes (part ++ rest) → Took b c part → SoFar a c bytes rest
so_far_part a b c bytes part rest f h = record {
  written = f.written ++ part;
  parts = f.parts ∙ sym (append_assoc f.written part rest);
  took = took_both a b c f.written part f.took h;
}

-- some of the next part was written
pub some_of_part : (a b c : Taken) (bytes part rest : List ℕ) → SoFar a b bytes (part ++ rest) → WroteSome b c part → WroteSome a c bytes
some_of_part a b c bytes part rest f s =
    let P : List ℕ → Type 0 = λ t. WroteSome a c t in
    subst P (sym f.parts) (some_after a b c f.written (part ++ rest) f.took (some_before b c part rest s))

abbrev pub texts : List (Bor (List ℕ)) → List ℕ
texts parts = flat_map (λ part. part.now) parts

texts_from : (parts : List (Bor (List ℕ))) (i : ℕ) (d : Bor (List ℕ)) → i < length parts → texts (drop i parts) ≡ (get_or parts i d).now ++ texts (drop (i + 1) parts)
texts_from parts i d h = rw (add-one, drop-cons parts i d) refl

pub so_far_next : (a b c : Taken) (bytes : List ℕ) (parts : List (Bor (List ℕ))) (i : ℕ) (d : Bor (List ℕ)) → i < length parts
    → SoFar a b bytes (texts (drop i parts)) → Took b c (get_or parts i d).now → SoFar a c bytes (texts (drop (i + 1) parts))
so_far_next a b c bytes parts i d within f h = let g = rw (texts_from parts i d within) at f in so_far_part a b c bytes _ _ g h

pub some_of_next : (a b c : Taken) (bytes : List ℕ) (parts : List (Bor (List ℕ))) (i : ℕ) (d : Bor (List ℕ)) → i < length parts
    → SoFar a b bytes (texts (drop i parts)) → WroteSome b c (get_or parts i d).now → WroteSome a c bytes
some_of_next a b c bytes parts i d within f s = let g = rw (texts_from parts i d within) at f in some_of_part a b c bytes _ _ g s

-- a part was written whole, and then the next, or some of it
pub wrote_after : {T E : Type 0} (r : Result T E) (a b c : Taken) (xs ys : List ℕ) → Took a b xs → Wrote r b c ys → Wrote r a c (xs ++ ys)
wrote_after (Ok u) a b c xs ys h w = took_both a b c xs ys h w
wrote_after (Err e) a b c xs ys h w = some_after a b c xs ys h w
