-- A head that is cut short is ended by one of a few short texts, none of which is longer than what would have followed.
use Rattle.std.proofs.Common.{◌≡◌, All, ℕ, suc, ◌+◌, ◌-◌, ◌≤◌, ◌<◌, ◌++◌, Bool, true, false, List, [], ◌∷◌, length, get_or, take, drop, refl, sym, ap, ap₂, ◌∙◌, subst, arith, append_assoc, append-nil, inl, inr, codes, IsUtf8}
use Rattle.std.specs.Prelude.{◌≢◌, cond}
use Rattle.std.proofs.lemmas.Bool.{false≢true, ne_eqb}
use Rattle.std.specs.List.{flat_map}
use Rattle.std.proofs.lemmas.List.{length-append, length-drop, take-append-drop, take-append-le, take_all, take_at, drop-drop}
use Rattle.std.proofs.lemmas.List.Elements.{All-nil, All-cons, All-head, All-tail, All-take}
use Rattle.std.proofs.lemmas.List.Sums.{sum_by-cons, sum_by-append, sum_by_more}
use Rattle.std.proofs.lemmas.Str.{IsUtf8-from_ascii}
use Rattle.std.proofs.lemmas.Str.Ascii.{IsAscii-cons, IsAscii-nil}
use Rattle.httparse.specs.Grammar.{is_token_byte, is_uri_byte, is_value_byte, AllPass, IsToken, LineEnd, crlf, lf, print_end, print_blank, print_version, Field, print_field, IsField, print_section, RequestHead, IsRequestHead, print_request, ReadsRequest, HasNoRequest, MayBecomeRequest, EndsInTarget}
use Rattle.httparse.proofs.PieceLemmas.{print_field-append}
use Rattle.httparse.proofs.ReadLemmas.{blank_more}
use Rattle.httparse.proofs.GrammarLemmas.{print_request-append}
use Rattle.httparse.specs.Spans.{RequestOverflows}
use Rattle.http_api.specs.Heads.{Begins, IsHopeless, CanBeHead, max_head, max_fields}
use Rattle.http_api.specs.inside.Finding.{MayGoOn}
use Rattle.http_api.specs.inside.Endings.{shortest, after_name, IsEnding, HasHead, HasNoHead, is_space, spaces}

-- ---- two ways to cut a text

-- p has all of a, or ends inside it
pub data Cut (p q a b : List ℕ) : Type 0 where
  beyond : (r : List ℕ) → p ≡ a ++ r → r ++ q ≡ b → Cut p q a b
  inside : (r : List ℕ) → a ≡ p ++ r → 0 < length r → q ≡ r ++ b → Cut p q a b

pub cut : (p q a b : List ℕ) → p ++ q ≡ a ++ b → Cut p q a b
cut [] q [] b e = beyond [] refl e
cut [] q (x ∷ a) b e = inside (x ∷ a) refl (omega arith) e
cut (y ∷ p) q [] b e = beyond (y ∷ p) refl e
cut (y ∷ p) q (x ∷ a) b e = again (cut p q a b (cc))
  where
    again : Cut p q a b → Cut (y ∷ p) q (x ∷ a) b
    again (beyond r f g) = beyond r (cc) g
    again (inside r f some g) = inside r (cc) some g

-- ---- spaces

none_spaces : (test : ℕ → Bool) → test 32 ≡ false → (xs : List ℕ) → AllPass test xs → spaces xs ≡ 0
none_spaces test fails [] all = refl
none_spaces test fails (x ∷ xs) all =
    omega (arith, sum_by-cons (λ b. cond (is_space b) 1 0) x xs, no_space x (All-head (λ b. test b ≡ true) x xs all), none_spaces test fails xs (All-tail (λ b. test b ≡ true) x xs all))
  where
    no_space : (b : ℕ) → test b ≡ true → ◌≡◌ {A = ℕ} (cond (is_space b) 1 0) 0
    no_space b passes =
        let other : b ≢ 32 = λ e. false≢true (sym fails ∙ subst (λ (v : ℕ). test v ≡ true) e passes) in
        ap (λ t. cond t 1 0) (ne_eqb b 32 other)

spaces-append : (xs ys : List ℕ) → spaces (xs ++ ys) ≡ spaces xs + spaces ys
spaces-append xs ys = sum_by-append (λ b. cond (is_space b) 1 0) xs ys

spaces_more : (xs : List ℕ) → spaces (32 ∷ xs) ≡ 1 + spaces xs
spaces_more xs = sum_by-cons (λ b. cond (is_space b) 1 0) 32 xs

spaces_end : (end : LineEnd) → spaces (print_end end) ≡ 0
spaces_end crlf = refl
spaces_end lf = refl

spaces_blank : (es : List LineEnd) → spaces (print_blank es) ≡ 0
spaces_blank [] = refl
spaces_blank (e ∷ es) = spaces-append (print_end e) (print_blank es) ∙ rw (spaces_end e, spaces_blank es)

-- one byte more
pub spaces_next : (bytes : List ℕ) (i : ℕ) → i < length bytes → spaces (take (i + 1) bytes) ≡ spaces (take i bytes) + cond (is_space (get_or bytes i 0)) 1 0
spaces_next bytes i more = sum_by_more (λ b. cond (is_space b) 1 0) bytes i 0 more

-- ---- sections that are cut short

pub record SectionEnded (p : List ℕ) (size few : ℕ) : Type 0 where
  pub end : List ℕ
  pub is : IsEnding end
  pub fits : length end ≤ size
  pub fields : List Field
  pub last : LineEnd
  pub all : All IsField fields
  pub prints : p ++ end ≡ print_section fields last
  pub count : length fields ≤ few

some_end : (e : LineEnd) → 0 < length (print_end e)
some_end crlf = omega arith
some_end lf = omega arith

some_section : (fields : List Field) (last : LineEnd) → 0 < length (print_section fields last)
some_section fields last = omega (arith, length-append (flat_map print_field fields) (print_end last), some_end last)

-- before a field, or the empty line
at_line : (p : List ℕ) (size few : ℕ) → p ≡ [] → 1 ≤ size → SectionEnded p size few
at_line p size few none fits = record {
  end = 10 ∷ [];
  is = inl (14, omega arith, refl);
  fits = fits;
  fields = [];
  last = lf;
  all = All-nil _;
  prints = rw none refl;
  count = omega arith;
}

in_empty : (p q : List ℕ) (last : LineEnd) → p ++ q ≡ print_end last → 0 < length q → SectionEnded p (length q) 0
in_empty [] q last e some = at_line [] (length q) 0 refl some
in_empty (b ∷ p) q lf e some = absurd (omega (arith, ap length e, length-append p q, some))
in_empty (b ∷ []) q crlf e some = record {
  end = 10 ∷ [];
  is = inl (14, omega arith, refl);
  fits = some;
  fields = [];
  last = crlf;
  all = All-nil _;
  prints = let cr : b ≡ 13 = cc in rw cr refl;
  count = omega arith;
}
in_empty (b ∷ c ∷ p) q crlf e some = absurd (omega (arith, ap length e, length-append p q, some))

-- a field that is ended so
one_field : (p end : List ℕ) (f : Field) (size few : ℕ) → IsEnding end → length end ≤ size → IsField f → p ++ end ≡ print_field f ++ 10 ∷ [] → 1 ≤ few → SectionEnded p size few
one_field p end f size few is fits field e some = record {
  end = end;
  is = is;
  fits = fits;
  fields = f ∷ [];
  last = lf;
  all = All-cons IsField f [] field (All-nil _);
  prints = e ∙ ap (λ (t : List ℕ). t ++ 10 ∷ []) (sym (append-nil (print_field f)));
  count = some;
}

passes_first : (test : ℕ → Bool) (xs front back : List ℕ) → xs ≡ front ++ back → AllPass test xs → AllPass test front
passes_first test xs front back e all =
    subst (AllPass test) (ap (take (length front)) e ∙ take_at front back (length front) refl) (All-take (λ b. test b ≡ true) (length front) xs all)

in_name : (p : List ℕ) (f : Field) (back : List ℕ) (size few : ℕ) → IsField f → f.name ≡ p ++ back → 0 < length p → 3 ≤ size → 1 ≤ few → SectionEnded p size few
in_name p f back size few field e some fits room =
    one_field p after_name (record { name = p; raw = []; end = lf }) size few (inr refl) fits
    (record { name = (some, passes_first is_token_byte f.name p back e field.name.1); raw = All-nil _ })
    (simp append_assoc) room

in_value : (p v : List ℕ) (f : Field) (back : List ℕ) (size few : ℕ) → IsField f → f.raw ≡ v ++ back → p ≡ f.name ++ 58 ∷ v → 2 ≤ size → 1 ≤ few → SectionEnded p size few
in_value p v f back size few field e is fits room =
    one_field p (10 ∷ 10 ∷ []) (record { name = f.name; raw = v; end = lf }) size few (inl (13, omega arith, refl)) fits
    (record { name = field.name; raw = passes_first is_value_byte f.raw v back e field.raw })
    (rw is (simp append_assoc)) room

in_end : (p : List ℕ) (f : Field) (size few : ℕ) → IsField f → p ≡ f.name ++ 58 ∷ (f.raw ++ 13 ∷ []) → 2 ≤ size → 1 ≤ few → SectionEnded p size few
in_end p f size few field is fits room =
    one_field p (10 ∷ 10 ∷ []) (record { name = f.name; raw = f.raw; end = crlf }) size few (inl (13, omega arith, refl)) fits
    (record { name = field.name; raw = field.raw })
    (rw is (simp append_assoc)) room

-- after the value
after_value : (p w q : List ℕ) (f : Field) (e : LineEnd) (size few : ℕ) → IsField f → p ≡ f.name ++ 58 ∷ (f.raw ++ w) → w ++ q ≡ print_end e ++ [] → 0 < length q → 2 ≤ size → 1 ≤ few → SectionEnded p size few
after_value p [] q f e size few field is same some fits room = in_value p f.raw f [] size few field (sym (append-nil f.raw)) (is ∙ rw (append-nil f.raw) refl) fits room
after_value p (b ∷ w) q f lf size few field is same some fits room = absurd (omega (arith, ap length same, length-append w q, some))
after_value p (b ∷ []) q f crlf size few field is same some fits room = let cr : b ≡ 13 = cc in in_end p f size few field (is ∙ rw cr refl) fits room
after_value p (b ∷ c ∷ w) q f crlf size few field is same some fits room = absurd (omega (arith, ap length same, length-append w q, some))

after_name_of : (p w q : List ℕ) (f : Field) (size few : ℕ) → IsField f → p ≡ f.name ++ w → w ++ q ≡ 58 ∷ (f.raw ++ (print_end f.end ++ [])) → 0 < length q → 0 < length p → 1 + length q ≤ size → 1 ≤ few → SectionEnded p size few
after_name_of p [] q f size few field is same some begun fits room =
    in_name p f [] size few field (sym (append-nil f.name) ∙ sym is ∙ sym (append-nil p)) begun (omega (arith, ap length same, length-append f.raw (print_end f.end ++ []), length-append (print_end f.end) [], some_end f.end, fits)) room
after_name_of p (b ∷ v) q f size few field is same some begun fits room =
    let colon : b ≡ 58 = cc in
    let rest : v ++ q ≡ f.raw ++ (print_end f.end ++ []) = cc in
    by_cut (is ∙ rw colon refl) (cut v q f.raw (print_end f.end ++ []) rest)
  where
    by_cut : p ≡ f.name ++ 58 ∷ v → Cut v q f.raw (print_end f.end ++ []) → SectionEnded p size few
    by_cut here (inside r e later g) = in_value p v f r size few field e here (omega (arith, fits, some)) room
    by_cut here (beyond r e g) = after_value p r q f f.end size few field (here ∙ rw e refl) g some (omega (arith, fits, some)) room

in_field : (p q : List ℕ) (f : Field) (size few : ℕ) → IsField f → print_field f ≡ p ++ q → 0 < length q → 1 + length q ≤ size → 1 ≤ few → SectionEnded p size few
in_field [] q f size few field e some fits room = at_line [] size few refl (omega (arith, fits))
in_field (b ∷ p) q f size few field e some fits room = by_cut (cut (b ∷ p) q f.name (58 ∷ (f.raw ++ (print_end f.end ++ []))) whole)
  where
    whole : (b ∷ p) ++ q ≡ f.name ++ 58 ∷ (f.raw ++ (print_end f.end ++ []))
    whole = sym e ∙ sym (append-nil (print_field f)) ∙ print_field-append f []

    by_cut : Cut (b ∷ p) q f.name (58 ∷ (f.raw ++ (print_end f.end ++ []))) → SectionEnded (b ∷ p) size few
    by_cut (inside r g later h) = in_name (b ∷ p) f r size few field g (omega arith) (omega (arith, ap length h, length-append r (58 ∷ (f.raw ++ (print_end f.end ++ []))), fits, later)) room
    by_cut (beyond r g h) = after_name_of (b ∷ p) r q f size few field g h some (omega arith) fits room

pub in_section : (p q : List ℕ) (fields : List Field) (last : LineEnd) → All IsField fields → p ++ q ≡ print_section fields last → 0 < length q
    → SectionEnded p (length q) (length fields)
in_section p q [] last all e some = in_empty p q last e some
in_section p q (f ∷ fs) last all e some =
    by_cut (λ (r : List ℕ) (h : r ++ q ≡ print_section fs last). in_section r q fs last (All-tail IsField f fs all) h some) (cut p q (print_field f) (print_section fs last) (e ∙ append_assoc (print_field f) (flat_map print_field fs) (print_end last)))
  where
    more : (r : List ℕ) → p ≡ print_field f ++ r → SectionEnded r (length q) (length fs) → SectionEnded p (length q) (suc (length fs))
    more r g s = record {
      end = s.end;
      is = s.is;
      fits = s.fits;
      fields = f ∷ s.fields;
      last = s.last;
      all = All-cons IsField f s.fields (All-head IsField f fs all) s.all;
      prints = rw g (append_assoc (print_field f) r s.end ∙ ap (λ (t : List ℕ). print_field f ++ t) s.prints ∙ sym (append_assoc (print_field f) (flat_map print_field s.fields) (print_end s.last)));
      count = omega (arith, s.count);
    }

    by_cut : ((r : List ℕ) → r ++ q ≡ print_section fs last → SectionEnded r (length q) (length fs)) → Cut p q (print_field f) (print_section fs last) → SectionEnded p (length q) (suc (length fs))
    by_cut again (beyond r g h) = more r g (again r h)
    by_cut again (inside r g later h) = in_field p r f (length q) (suc (length fs)) (All-head IsField f fs all) g later (omega (arith, ap length h, length-append r (print_section fs last), some_section fs last)) (omega arith)

-- ---- heads that are cut short

pub record HeadEnded (buf : List ℕ) (size few : ℕ) : Type 0 where
  pub end : List ℕ
  pub is : IsEnding end
  pub fits : length end ≤ size
  pub head : RequestHead
  pub reads : ReadsRequest (buf ++ end) head []
  pub count : length head.fields ≤ few

-- its target is still being read, or one of the endings makes a head of it
pub data Ended (buf : List ℕ) (size few : ℕ) : Type 0 where
  in_target : EndsInTarget buf → Ended buf size few
  soon : (spaces buf ≡ 1 → ⊥) → HeadEnded buf size few → Ended buf size few

reads_parts : (buf : List ℕ) (h : RequestHead) → IsRequestHead h
    → buf ≡ print_blank h.blank ++ (h.method ++ 32 ∷ (h.target ++ 32 ∷ (print_version h.minor ++ (print_end h.line_end ++ print_section h.fields h.last))))
    → ReadsRequest buf h []
reads_parts buf h is e = (
  is,
  e ∙ ap (λ (t : List ℕ). print_blank h.blank ++ (h.method ++ 32 ∷ (h.target ++ 32 ∷ (print_version h.minor ++ (print_end h.line_end ++ t))))) (sym (append-nil (print_section h.fields h.last)))
      ∙ sym (print_request-append h []),
)

a_method : IsToken (65 ∷ [])
unfolding is_token_byte
a_method = (omega arith, All-cons (λ b. is_token_byte b ≡ true) 65 [] refl (All-nil _))

a_target : AllPass is_uri_byte (66 ∷ [])
a_target = All-cons (λ b. is_uri_byte b ≡ true) 66 [] refl (All-nil _)

a_text : IsUtf8 (66 ∷ [])
a_text = IsUtf8-from_ascii _ (IsAscii-cons 66 [] (omega arith) IsAscii-nil)

-- the shortest head behind some empty lines
after_blank : (buf end : List ℕ) (es : List LineEnd) (size few : ℕ) → IsEnding end → length end ≤ size
    → buf ++ end ≡ print_blank es ++ codes "A B HTTP/1.0\n\n" → HeadEnded buf size few
after_blank buf end es size few is fits e = record {
  end = end;
  is = is;
  fits = fits;
  head = record { blank = es; method = 65 ∷ []; target = 66 ∷ []; minor = 0; line_end = lf; fields = []; last = lf };
  reads = reads_parts (buf ++ end) _ (record { method = a_method; target = (omega arith, a_target); target_text = a_text; minor = omega arith; fields = All-nil _ }) e;
  count = omega arith;
}

in_method : (buf m : List ℕ) (es : List LineEnd) (size few : ℕ) → IsToken m → buf ≡ print_blank es ++ m → 13 ≤ size → HeadEnded buf size few
in_method buf m es size few token e fits = record {
  end = drop 2 shortest;
  is = inl (2, omega arith, refl);
  fits = fits;
  head = record { blank = es; method = m; target = 66 ∷ []; minor = 0; line_end = lf; fields = []; last = lf };
  reads = reads_parts (buf ++ drop 2 shortest) _ (record { method = token; target = (omega arith, a_target); target_text = a_text; minor = omega arith; fields = All-nil _ })
      (rw e (append_assoc (print_blank es) m (drop 2 shortest)));
  count = omega arith;
}

-- ---- behind the target

module _ (h : RequestHead) (is : IsRequestHead h) where
  -- the bytes before the version
  before : List ℕ
  before = print_blank h.blank ++ (h.method ++ 32 ∷ (h.target ++ 32 ∷ []))

  before_and : (t : List ℕ) → print_blank h.blank ++ (h.method ++ 32 ∷ (h.target ++ 32 ∷ t)) ≡ before ++ t
  unfolding before
  before_and t = simp append_assoc

  -- two spaces at least
  two_spaces : (buf t : List ℕ) → buf ≡ print_blank h.blank ++ (h.method ++ 32 ∷ (h.target ++ 32 ∷ t)) → spaces buf ≡ 1 → ⊥
  two_spaces buf t e one =
      let tail : 1 ≤ spaces (h.target ++ 32 ∷ t) = omega (arith, spaces-append h.target (32 ∷ t), spaces_more t) in
      let mid : 2 ≤ spaces (h.method ++ 32 ∷ (h.target ++ 32 ∷ t)) = omega (arith, tail, spaces-append h.method (32 ∷ (h.target ++ 32 ∷ t)), spaces_more (h.target ++ 32 ∷ t)) in
      absurd (omega (arith, mid, one, ap spaces e, spaces-append (print_blank h.blank) (h.method ++ 32 ∷ (h.target ++ 32 ∷ t))))

  -- a head with these parts behind its target
  with_parts : (buf end t : List ℕ) (size few minor : ℕ) (line_end last : LineEnd) (fields : List Field) → IsEnding end → length end ≤ size → minor ≤ 1 → All IsField fields → length fields ≤ few
      → buf ≡ print_blank h.blank ++ (h.method ++ 32 ∷ (h.target ++ 32 ∷ t))
      → t ++ end ≡ print_version minor ++ (print_end line_end ++ print_section fields last) → Ended buf size few
  with_parts buf end t size few minor line_end last fields ending fits version all room e ends = soon (two_spaces buf t e) (record {
    end = end;
    is = ending;
    fits = fits;
    head = record { blank = h.blank; method = h.method; target = h.target; minor = minor; line_end = line_end; fields = fields; last = last };
    reads = reads_parts (buf ++ end) _ (record { method = is.method; target = is.target; target_text = is.target_text; minor = version; fields = all })
        (rw e (simp (append_assoc, ends)));
    count = room;
  })

  version_length : (minor : ℕ) → length (print_version minor) ≡ 8
  version_length minor = refl

  -- the version is still being read
  version_cut : (buf t r : List ℕ) (size few minor : ℕ) → buf ≡ print_blank h.blank ++ (h.method ++ 32 ∷ (h.target ++ 32 ∷ t))
      → print_version minor ≡ t ++ r → 0 < length r → length r + 2 ≤ size → Ended buf size few
  version_cut buf t r size few minor e cuts some fits =
      let short : length t ≤ 7 = omega (arith, ap length cuts, length-append t r, some, version_length minor) in
      let front : t ≡ take (length t) (codes "HTTP/1.") =
      sym (take_at t r (length t) refl) ∙ ap (take (length t)) (sym cuts) ∙ take-append-le (length t) (codes "HTTP/1.") ((48 + minor) ∷ []) short in
      let same : t ≡ take (length t) (drop 5 shortest) = front ∙ sym (take-append-le (length t) (codes "HTTP/1.") (codes "0\n\n") short) in
      let whole : t ++ drop (length t) (drop 5 shortest) ≡ drop 5 shortest =
      ap (λ (x : List ℕ). x ++ drop (length t) (drop 5 shortest)) same ∙ take-append-drop (length t) (drop 5 shortest) in
      with_parts buf (drop (5 + length t) shortest) t size few 0 lf lf [] (inl (5 + length t, omega (arith, short), refl))
      (omega (arith, length-drop (5 + length t) shortest, ap length cuts, length-append t r, version_length minor, fits, short)) (omega arith) (All-nil _) (omega arith) e
      (ap (λ (x : List ℕ). t ++ x) (sym (drop-drop (length t) 5 shortest)) ∙ whole)

  -- the line of the version is still being ended
  end_cut : (buf t w r : List ℕ) (size few minor : ℕ) (end : LineEnd) → buf ≡ print_blank h.blank ++ (h.method ++ 32 ∷ (h.target ++ 32 ∷ t)) → minor ≤ 1
      → t ≡ print_version minor ++ w → print_end end ≡ w ++ r → 0 < length r → 2 ≤ size → Ended buf size few
  end_cut buf t [] r size few minor end e version front cuts some fits =
      with_parts buf (10 ∷ 10 ∷ []) t size few minor lf lf [] (inl (13, omega arith, refl)) fits version (All-nil _) (omega arith) e (rw front refl)
  end_cut buf t (b ∷ w) r size few minor lf e version front cuts some fits = absurd (omega (arith, ap length cuts, length-append w r, some))
  end_cut buf t (b ∷ []) r size few minor crlf e version front cuts some fits =
      let cr : b ≡ 13 = cc in
      with_parts buf (10 ∷ 10 ∷ []) t size few minor crlf lf [] (inl (13, omega arith, refl)) fits version (All-nil _) (omega arith) e (rw (front, cr) refl)
  end_cut buf t (b ∷ c ∷ w) r size few minor crlf e version front cuts some fits = absurd (omega (arith, ap length cuts, length-append w r, some))

  section_cut : (buf t s q : List ℕ) (minor : ℕ) (end : LineEnd) (fields : List Field) (last : LineEnd) → buf ≡ print_blank h.blank ++ (h.method ++ 32 ∷ (h.target ++ 32 ∷ t)) → minor ≤ 1
      → t ≡ print_version minor ++ (print_end end ++ s) → SectionEnded s (length q) (length fields) → Ended buf (length q) (length fields)
  section_cut buf t s q minor end fields last e version front x =
      with_parts buf x.end t (length q) (length fields) minor end x.last x.fields x.is x.fits version x.all x.count e
      (rw front (append_assoc (print_version minor) (print_end end ++ s) x.end
      ∙ ap (λ (u : List ℕ). print_version minor ++ u) (append_assoc (print_end end) s x.end ∙ ap (λ (u : List ℕ). print_end end ++ u) x.prints)))

  behind_target : (buf t q : List ℕ) → buf ≡ print_blank h.blank ++ (h.method ++ 32 ∷ (h.target ++ 32 ∷ t))
      → t ++ q ≡ print_version h.minor ++ (print_end h.line_end ++ print_section h.fields h.last) → 0 < length q → Ended buf (length q) (length h.fields)
  behind_target buf t q e parts some = by_version (cut t q (print_version h.minor) (print_end h.line_end ++ print_section h.fields h.last) parts)
    where
      by_end : (w : List ℕ) → t ≡ print_version h.minor ++ w → Cut w q (print_end h.line_end) (print_section h.fields h.last) → Ended buf (length q) (length h.fields)
      by_end w front (inside r g later k) =
          end_cut buf t w r (length q) (length h.fields) h.minor h.line_end e is.minor front g later
          (omega (arith, ap length k, length-append r (print_section h.fields h.last), some_section h.fields h.last, later))
      by_end w front (beyond s g k) =
          section_cut buf t s q h.minor h.line_end h.fields h.last e is.minor (front ∙ ap (λ (u : List ℕ). print_version h.minor ++ u) g) (in_section s q h.fields h.last is.fields k some)

      by_version : Cut t q (print_version h.minor) (print_end h.line_end ++ print_section h.fields h.last) → Ended buf (length q) (length h.fields)
      by_version (inside r g later k) =
          version_cut buf t r (length q) (length h.fields) h.minor e g later
          (omega (arith, ap length k, length-append r (print_end h.line_end ++ print_section h.fields h.last), length-append (print_end h.line_end) (print_section h.fields h.last), some_end h.line_end, some_section h.fields h.last))
      by_version (beyond w g k) = by_end w g (cut w q (print_end h.line_end) (print_section h.fields h.last) k)

  -- what follows the empty lines, the method and the target
  abbrev tail_of_version : List ℕ
  tail_of_version = print_version h.minor ++ (print_end h.line_end ++ print_section h.fields h.last)

  abbrev tail_of_target : List ℕ
  tail_of_target = h.target ++ 32 ∷ tail_of_version

  abbrev tail_of_method : List ℕ
  tail_of_method = h.method ++ 32 ∷ tail_of_target

  long_version : 10 ≤ length tail_of_version
  long_version = omega (arith, length-append (print_version h.minor) (print_end h.line_end ++ print_section h.fields h.last), length-append (print_end h.line_end) (print_section h.fields h.last), some_end h.line_end, some_section h.fields h.last, version_length h.minor)

  long_target : 12 ≤ length tail_of_target
  long_target = omega (arith, length-append h.target (32 ∷ tail_of_version), long_version, is.target.0)

  long_method : 14 ≤ length tail_of_method
  long_method = omega (arith, length-append h.method (32 ∷ tail_of_target), long_target, is.method.0)

  within_target : (buf u back : List ℕ) → buf ≡ print_blank h.blank ++ (h.method ++ 32 ∷ u) → h.target ≡ u ++ back → EndsInTarget buf
  within_target buf u back e front = (h.blank, h.method, u, is.method, passes_first is_uri_byte h.target u back front is.target.1, e ∙ sym (append_assoc (print_blank h.blank) h.method (32 ∷ u)))

  behind_method : (buf u q : List ℕ) → buf ≡ print_blank h.blank ++ (h.method ++ 32 ∷ u) → 0 < length q → Cut u q h.target (32 ∷ tail_of_version) → Ended buf (length q) (length h.fields)
  behind_method buf u q e some (inside r g later k) = in_target (within_target buf u r e g)
  behind_method buf u q e some (beyond [] g k) = in_target (within_target buf u [] e (sym (append-nil h.target) ∙ sym g ∙ sym (append-nil u)))
  behind_method buf u q e some (beyond (b ∷ t) g k) =
      let space : b ≡ 32 = cc in
      let parts : t ++ q ≡ tail_of_version = cc in
      behind_target buf t q (e ∙ ap (λ (x : List ℕ). print_blank h.blank ++ (h.method ++ 32 ∷ x)) (g ∙ ap (λ (c : ℕ). h.target ++ c ∷ t) space)) parts some

  no_spaces : (buf m : List ℕ) (es : List LineEnd) → AllPass is_token_byte m → buf ≡ print_blank es ++ m → spaces buf ≡ 1 → ⊥
  unfolding is_token_byte
  no_spaces buf m es all e one = absurd (omega (arith, one, ap spaces e, spaces-append (print_blank es) m, spaces_blank es, none_spaces is_token_byte refl m all))

  behind_blank : (buf r q : List ℕ) → buf ≡ print_blank h.blank ++ r → 0 < length r → 0 < length q → Cut r q h.method (32 ∷ tail_of_target) → Ended buf (length q) (length h.fields)
  behind_blank buf r q e begun some (inside back g later k) =
      let token = passes_first is_token_byte h.method r back g is.method.1 in
      soon (no_spaces buf r h.blank token e) (in_method buf r h.blank (length q) (length h.fields) (begun, token) e (omega (arith, ap length k, length-append back (32 ∷ tail_of_target), later, long_target)))
  behind_blank buf r q e begun some (beyond [] g k) =
      let same : buf ≡ print_blank h.blank ++ h.method = e ∙ ap (λ (x : List ℕ). print_blank h.blank ++ x) (g ∙ append-nil h.method) in
      soon (no_spaces buf h.method h.blank is.method.1 same) (in_method buf h.method h.blank (length q) (length h.fields) is.method same (omega (arith, ap length k, long_target)))
  behind_blank buf r q e begun some (beyond (b ∷ u) g k) =
      let space : b ≡ 32 = cc in
      let parts : u ++ q ≡ tail_of_target = cc in
      behind_method buf u q (e ∙ ap (λ (x : List ℕ). print_blank h.blank ++ x) (g ∙ ap (λ (c : ℕ). h.method ++ c ∷ u) space)) some (cut u q h.target (32 ∷ tail_of_version) parts)

-- ---- the empty lines

data Blanks (p q : List ℕ) (blank : List LineEnd) (tail : List ℕ) : Type 0 where
  behind : (r : List ℕ) → p ≡ print_blank blank ++ r → r ++ q ≡ tail → Blanks p q blank tail
  lines : (es : List LineEnd) → p ≡ print_blank es → length tail ≤ length q → Blanks p q blank tail
  half : (es : List LineEnd) → p ≡ print_blank es ++ 13 ∷ [] → 1 + length tail ≤ length q → Blanks p q blank tail

in_line_end : (p q r : List ℕ) (x : LineEnd) (blank : List LineEnd) (tail : List ℕ) → print_end x ≡ p ++ r → 0 < length r → q ≡ r ++ (print_blank blank ++ tail) → Blanks p q (x ∷ blank) tail
in_line_end [] q r x blank tail e some is = lines [] refl (omega (arith, ap length is, length-append r (print_blank blank ++ tail), length-append (print_blank blank) tail))
in_line_end (b ∷ p) q r lf blank tail e some is = absurd (omega (arith, ap length e, length-append p r, some))
in_line_end (b ∷ []) q r crlf blank tail e some is =
    let cr : b ≡ 13 = cc in
    half [] (rw cr refl) (omega (arith, some, ap length is, length-append r (print_blank blank ++ tail), length-append (print_blank blank) tail))
in_line_end (b ∷ c ∷ p) q r crlf blank tail e some is = absurd (omega (arith, ap length e, length-append p r, some))

one_more : (p r q : List ℕ) (x : LineEnd) (blank : List LineEnd) (tail : List ℕ) → p ≡ print_end x ++ r → Blanks r q blank tail → Blanks p q (x ∷ blank) tail
one_more p r q x blank tail e (behind s f g) = behind s (e ∙ ap (λ (t : List ℕ). print_end x ++ t) f ∙ sym (append_assoc (print_end x) (print_blank blank) s)) g
one_more p r q x blank tail e (lines es f g) = lines (x ∷ es) (e ∙ ap (λ (t : List ℕ). print_end x ++ t) f) g
one_more p r q x blank tail e (half es f g) = half (x ∷ es) (e ∙ ap (λ (t : List ℕ). print_end x ++ t) f ∙ sym (append_assoc (print_end x) (print_blank es) (13 ∷ []))) g

blanks : (p q : List ℕ) (blank : List LineEnd) (tail : List ℕ) → p ++ q ≡ print_blank blank ++ tail → Blanks p q blank tail
blanks p q [] tail e = behind p refl e
blanks p q (x ∷ blank) tail e =
    by_cut (λ (r : List ℕ) (g : r ++ q ≡ print_blank blank ++ tail). blanks r q blank tail g) (cut p q (print_end x) (print_blank blank ++ tail) (e ∙ append_assoc (print_end x) (print_blank blank) tail))
  where
    by_cut : ((r : List ℕ) → r ++ q ≡ print_blank blank ++ tail → Blanks r q blank tail) → Cut p q (print_end x) (print_blank blank ++ tail) → Blanks p q (x ∷ blank) tail
    by_cut later (beyond r f g) = one_more p r q x blank tail f (later r g)
    by_cut later (inside r f some g) = in_line_end p q r x blank tail f some g

-- ---- what is cut short is ended soon

pub ends_soon : (buf q : List ℕ) (h : RequestHead) → IsRequestHead h → print_request h ≡ buf ++ q → 0 < length q → Ended buf (length q) (length h.fields)
ends_soon buf q h is e some = by_blanks (blanks buf q h.blank (tail_of_method h is) whole)
  where
    whole : buf ++ q ≡ print_blank h.blank ++ tail_of_method h is
    whole = sym e ∙ sym (append-nil (print_request h)) ∙ print_request-append h []
        ∙ ap (λ (t : List ℕ). print_blank h.blank ++ (h.method ++ 32 ∷ (h.target ++ 32 ∷ (print_version h.minor ++ (print_end h.line_end ++ t))))) (append-nil (print_section h.fields h.last))

    between : (es : List LineEnd) → buf ≡ print_blank es → 14 ≤ length q → Ended buf (length q) (length h.fields)
    between es f long =
        soon (λ one. absurd (omega (arith, one, ap spaces f, spaces_blank es)))
        (after_blank buf (drop 1 shortest) es (length q) (length h.fields) (inl (1, omega arith, refl)) long (rw f refl))

    by_blanks : Blanks buf q h.blank (tail_of_method h is) → Ended buf (length q) (length h.fields)
    by_blanks (behind [] f g) = between h.blank (f ∙ append-nil (print_blank h.blank)) (omega (arith, ap length g, long_method h is))
    by_blanks (behind (b ∷ m) f g) = behind_blank h is buf (b ∷ m) q f (omega arith) some (cut (b ∷ m) q h.method (32 ∷ tail_of_target h is) g)
    by_blanks (lines es f g) = between es f (omega (arith, g, long_method h is))
    by_blanks (half es f g) =
        soon (λ one. absurd (omega (arith, one, ap spaces f, spaces-append (print_blank es) (13 ∷ []), spaces_blank es)))
        (after_blank buf shortest (es ++ crlf ∷ []) (length q) (length h.fields) (inl (0, omega arith, refl)) (omega (arith, g, long_method h is))
        (blank_more es crlf (buf ++ shortest) (13 ∷ shortest) (drop 1 shortest) (rw f (append_assoc (print_blank es) (13 ∷ []) shortest)) refl))

-- a target that is still being read has one space before it
pub one_space : (buf : List ℕ) → EndsInTarget buf → spaces buf ≡ 1
unfolding is_token_byte
one_space buf (blank, method, target, token, all, e) =
    let no_method = none_spaces is_token_byte refl method token.1 in
    let no_target = none_spaces is_uri_byte refl target all in
    omega (arith, ap spaces e, spaces-append (print_blank blank ++ method) (32 ∷ target), spaces-append (print_blank blank) method, spaces_blank blank, spaces_more target, no_method, no_target)

-- a head that begins in a text without one goes beyond it
pub head_beyond : (buf more : List ℕ) (h : RequestHead) (rest : List ℕ) → HasNoRequest buf → ReadsRequest (buf ++ more) h rest
    → (q : List ℕ) × (print_request h ≡ buf ++ q) × (0 < length q) × (more ≡ q ++ rest)
head_beyond buf more h rest none x = by_cut (cut buf more (print_request h) rest x.1)
  where
    by_cut : Cut buf more (print_request h) rest → (q : List ℕ) × (print_request h ≡ buf ++ q) × (0 < length q) × (more ≡ q ++ rest)
    by_cut (beyond r e g) = absurd (none h r (x.0, e))
    by_cut (inside r e some g) = (r, e, some, g)

-- ---- what the contracts say

any_ending : (end : List ℕ) → IsEnding end → length end ≤ 15
any_ending end (inl (at, some, e)) = omega (arith, ap length e, length-drop at shortest)
any_ending end (inr e) = omega (arith, ap length e)

pub can_be_head : (bytes end : List ℕ) (h : RequestHead) (rest : List ℕ) → HasNoRequest bytes → ReadsRequest (bytes ++ end) h rest → length bytes + length end ≤ max_head → CanBeHead bytes
can_be_head bytes end h rest none x fits =
    let b = head_beyond bytes end h rest none x in
    (b.0, h, (x.0, sym b.1 ∙ sym (append-nil (print_request h))), omega (arith, length-append bytes b.0, ap length b.3, length-append b.0 rest, fits))

-- a head that is begun, by how much of it has come
begun : (bytes : List ℕ) → HasNoRequest bytes → (more : List ℕ) (h : RequestHead) → ReadsRequest (bytes ++ more) h [] → (size few : ℕ) × Ended bytes size few
begun bytes none more h x =
    let b = head_beyond bytes more h [] none x in
    (length b.0, length h.fields, ends_soon bytes b.0 h x.0 b.1 b.2)

-- there is room for each ending
pub goes_on_with_room : (bytes : List ℕ) → length bytes + 15 ≤ max_head → HasNoRequest bytes → MayBecomeRequest bytes → MayGoOn bytes
goes_on_with_room bytes room none (inr target) = inr target
goes_on_with_room bytes room none (inl (more, h, x)) = by_end (begun bytes none more h x)
  where
    by_end : (size few : ℕ) × Ended bytes size few → MayGoOn bytes
    by_end (size, few, in_target target) = inr target
    by_end (size, few, soon other e) = inl (can_be_head bytes e.end e.head [] none e.reads (omega (arith, any_ending e.end e.is, room)))

pub goes_on_in_target : (bytes : List ℕ) → spaces bytes ≡ 1 → HasNoRequest bytes → MayBecomeRequest bytes → MayGoOn bytes
goes_on_in_target bytes one none (inr target) = inr target
goes_on_in_target bytes one none (inl (more, h, x)) = by_end (begun bytes none more h x)
  where
    by_end : (size few : ℕ) × Ended bytes size few → MayGoOn bytes
    by_end (size, few, in_target target) = inr target
    by_end (size, few, soon other e) = absurd (other one)

pub hopeless_without_end : (bytes : List ℕ) → HasNoRequest bytes → (spaces bytes ≡ 1 → ⊥)
    → ((end : List ℕ) → IsEnding end → length bytes + length end ≤ max_head → HasNoHead (bytes ++ end)) → IsHopeless bytes
hopeless_without_end bytes none no_target unended more h rest b = by_end (ends_soon bytes x.0 h b.reads.0 x.1 x.2)
  where
    x : (q : List ℕ) × (print_request h ≡ bytes ++ q) × (0 < length q) × (more ≡ q ++ rest)
    x = head_beyond bytes more h rest none b.reads

    by_end : Ended bytes (length x.0) (length h.fields) → ⊥
    by_end (in_target target) = no_target (one_space bytes target)
    by_end (soon other e) =
        let fits : length bytes + length e.end ≤ max_head = omega (arith, ap length x.1, length-append bytes x.0, e.fits, b.short) in
        absurd (omega (arith, unended e.end e.is fits e.head [] e.reads, e.count, b.few))

-- the shortest head of all begins
pub a_head_begins : (more : List ℕ) × (head : RequestHead) × (rest : List ℕ) × Begins ([] ++ more) head rest
a_head_begins =
    let some = after_blank [] (drop 1 shortest) [] 14 0 (inl (1, omega arith, refl)) (omega arith) refl in (
      some.end,
      some.head,
      [],
      record {
        reads = some.reads;
        short = omega (arith, some.fits, ap length some.reads.1, length-append (print_request some.head) []);
        few = omega (arith, some.count);
      },
    )

longer_than_nothing : (a b c : List ℕ) → 0 < length b → [] ≡ a ++ (b ++ c) → ⊥
longer_than_nothing a b c some e = absurd (omega (arith, some, ap length e, length-append a (b ++ c), length-append b c))

pub no_empty_head : (h : RequestHead) (rest : List ℕ) → IsRequestHead h → [] ≡ print_request h ++ rest → ⊥
no_empty_head h rest is e = longer_than_nothing (print_blank h.blank) h.method _ is.method.0 (e ∙ print_request-append h rest)

-- ---- what is tried

-- the bytes and their ending, in a larger buffer
together : (bytes end xs one two : List ℕ) (f most : ℕ) → one ≡ bytes → two ≡ end → f ≡ length bytes → most ≡ f + length end
    → take most (take f (one ++ drop f xs) ++ (two ++ drop (most - f) (drop f (one ++ drop f xs)))) ≡ bytes ++ end
together bytes end xs one two f most same_one same_two same_f same_most =
    let long : length one ≡ f = ap length same_one ∙ sym same_f in
    let front : take f (one ++ drop f xs) ≡ one = take_at one (drop f xs) f long in
    let size : length (one ++ two) ≡ most = omega (arith, length-append one two, long, same_most, ap length same_two) in
    let tail = drop (most - f) (drop f (one ++ drop f xs)) in
    ap (λ (t : List ℕ). take most (t ++ (two ++ tail))) front
    ∙ ap (take most) (sym (append_assoc one two tail))
    ∙ take_at (one ++ two) tail most size
    ∙ ap₂ (λ (a b : List ℕ). a ++ b) same_one same_two

pub together_reads : (bytes end xs one two : List ℕ) (f most : ℕ) (h : RequestHead) (rest : List ℕ) → one ≡ bytes → two ≡ end → f ≡ length bytes → most ≡ f + length end
    → ReadsRequest (take most (take f (one ++ drop f xs) ++ (two ++ drop (most - f) (drop f (one ++ drop f xs))))) h rest → HasHead (bytes ++ end)
together_reads bytes end xs one two f most h rest a b c d x = (h, rest, (x.0, sym (together bytes end xs one two f most a b c d) ∙ x.1))

pub together_none : (bytes end xs one two : List ℕ) (f most : ℕ) → one ≡ bytes → two ≡ end → f ≡ length bytes → most ≡ f + length end
    → HasNoRequest (take most (take f (one ++ drop f xs) ++ (two ++ drop (most - f) (drop f (one ++ drop f xs))))) → HasNoHead (bytes ++ end)
together_none bytes end xs one two f most a b c d none head rest x = absurd (none head rest (x.0, together bytes end xs one two f most a b c d ∙ x.1))

pub together_over : (bytes end xs one two : List ℕ) (f most room : ℕ) → one ≡ bytes → two ≡ end → f ≡ length bytes → most ≡ f + length end → room ≡ max_fields
    → RequestOverflows room (take most (take f (one ++ drop f xs) ++ (two ++ drop (most - f) (drop f (one ++ drop f xs))))) → HasNoHead (bytes ++ end)
together_over bytes end xs one two f most room a b c d same over head rest x =
    let many = over [] head rest (x.0, append-nil _ ∙ together bytes end xs one two f most a b c d ∙ x.1) in
    omega (arith, many, same)

pub all_from : (at : ℕ) → take (15 - at) (drop at shortest) ≡ drop at shortest
all_from at = take_all (15 - at) (drop at shortest) (omega (arith, length-drop at shortest))

-- none of the endings that fit was one
pub no_ending : (bytes : List ℕ) (at : ℕ) → 15 ≤ at → ((j : ℕ) → j < at → length bytes + (15 - j) ≤ max_head → HasNoHead (bytes ++ drop j shortest))
    → (length bytes + 3 ≤ max_head → HasNoHead (bytes ++ after_name)) → (end : List ℕ) → IsEnding end → length bytes + length end ≤ max_head → HasNoHead (bytes ++ end)
no_ending bytes at all tried name end (inl (j, small, e)) fits =
    subst (λ (x : List ℕ). HasNoHead (bytes ++ x)) (sym e) (tried j (omega (arith, small, all)) (omega (arith, fits, ap length e, length-drop j shortest)))
no_ending bytes at all tried name end (inr e) fits =
    subst (λ (x : List ℕ). HasNoHead (bytes ++ x)) (sym e) (name (omega (arith, fits, ap length e)))
