-- The input decides the text of a connection, but for two freedoms.
use Rattle.std.proofs.Common.{◌≡◌, ℕ, zero, suc, ◌+◌, ◌++◌, Bool, true, false, List, [], length, take, ltb, refl, sym, ap, ◌∙◌, subst, arith, append-nil, inl, inr}
use Rattle.std.specs.Prelude.{◌⊎◌, Option, Some, None}
use Rattle.std.proofs.lemmas.Bool.{lt-ltb, le-ltb}
use Rattle.std.proofs.lemmas.List.{append_cancel_left, take_at, length-append}
use Rattle.names.specs.declared.call.Call.{Call}
use Rattle.names.specs.declared.limits.TheConstants.{MAX_BODY_LEN}
use Rattle.httparse.specs.Grammar.{RequestHead}
use Rattle.httparse.proofs.GrammarLemmas.{request_unique}
use Rattle.http_api.specs.declared.framing.Framing.{Framing}
use Rattle.http_api.specs.declared.framing.Framing.TheVariants.{Unclear, Missing, Sized}
use Rattle.answers.specs.declared.end.End.{End}
use Rattle.answers.specs.declared.end.End.TheVariants.{Closed, Asked, Broken}
use Rattle.answers.specs.Machine.{Step}
use Rattle.http_api.specs.Heads.{Begins, IsHopeless, EndsInHead, framing_of, closes}
use Rattle.http_api.specs.Routes.{route_of}
use Rattle.http_api.specs.Replies.{reply_text, malformed, length_required, body_too_large, no_route}
use Rattle.http_api.specs.Connection.{NoRequest, at_end, no_head, cut_in_head, unclear_length, no_length, too_large, cut_in_body, HasRequest, Next, stop, go_on, after, Turn, no_request, unknown, answered, no_memory, Goes, Text}
use Rattle.http_api.specs.OneText.{IsDecided, IsFree, Parts, AreOne}
use Rattle.http_api.proofs.Endings.{a_head_begins, no_empty_head}

-- ---- no whole request

-- what is said of a head by the length of its body, which does not come
abbrev Said : Type 0
Said = List ℕ × End

abbrev the : List ℕ → End → Said
the text end = (text, end)

abbrev by_size : Bool → Said
by_size true = (reply_text 413 body_too_large true, Asked)
by_size false = ([], Broken)

abbrev says : Framing → Said
says Unclear = (reply_text 400 malformed true, Asked)
says Missing = (reply_text 411 length_required true, Asked)
says (Sized size) = by_size (ltb MAX_BODY_LEN size)

data Front (input text : List ℕ) (end : End) : Type 0 where
  none : input ≡ [] → text ≡ [] → end ≡ Closed → Front input text end
  never : IsHopeless input → text ≡ reply_text 400 malformed true → end ≡ Asked → Front input text end
  inside : EndsInHead input → text ≡ [] → end ≡ Broken → Front input text end
  headed : (h : RequestHead) (tail : List ℕ) → Begins input h tail → says (framing_of h) ≡ the text end → Front input text end

both : (x y : List ℕ) (e g : End) → y ≡ x → g ≡ e → the x e ≡ the y g
both x y e g p q = rw (p, q) refl

front : (input text : List ℕ) (end : End) → NoRequest input text end → Front input text end
front input text end (at_end i a b) = none i a b
front input text end (no_head i a b) = never i a b
front input text end (cut_in_head i a b) = inside i a b
front input text end (unclear_length h tail i f a b) = headed h tail i (ap says f ∙ both _ text _ end a b)
front input text end (no_length h tail i f a b) = headed h tail i (ap says f ∙ both _ text _ end a b)
front input text end (too_large h tail size i f more a b) = headed h tail i (ap says f ∙ ap by_size (lt-ltb MAX_BODY_LEN size more) ∙ both _ text _ end a b)
front input text end (cut_in_body h tail size i f fits cut a b) = headed h tail i (ap says f ∙ ap by_size (le-ltb MAX_BODY_LEN size fits) ∙ both _ text _ end a b)

not_never : (input : List ℕ) → input ≡ [] → IsHopeless input → ⊥
not_never input e fails =
    let x = a_head_begins in
    fails x.0 x.1 x.2 (subst (λ (i : List ℕ). Begins (i ++ x.0) x.1 x.2) (sym e) x.3)

not_inside : (input : List ℕ) → input ≡ [] → EndsInHead input → ⊥
not_inside input e i = omega (arith, ap length e, i.begun)

not_headed : (input : List ℕ) (h : RequestHead) (tail : List ℕ) → input ≡ [] → Begins input h tail → ⊥
not_headed input h tail e b = no_empty_head h tail b.reads.0 (sym e ∙ b.reads.1)

hopeless_headed : (input : List ℕ) (h : RequestHead) (tail : List ℕ) → IsHopeless input → Begins input h tail → ⊥
hopeless_headed input h tail fails b = fails [] h tail (subst (λ (i : List ℕ). Begins i h tail) (sym (append-nil input)) b)

inside_headed : (input : List ℕ) (h : RequestHead) (tail : List ℕ) → EndsInHead input → Begins input h tail → ⊥
inside_headed input h tail i b = i.none h tail b.reads

one_head : (input : List ℕ) (h k : RequestHead) (tail other : List ℕ) → Begins input h tail → Begins input k other → (h ≡ k) × (tail ≡ other)
one_head input h k tail other b c = request_unique input h k tail other b.reads c.reads

-- these are one, or part at a freedom
abbrev Ends : List ℕ → List ℕ → List ℕ → End → End → Type 0
Ends input text other end last = ((text ≡ other) × (end ≡ last)) ⊎ (IsFree input × (Parts text end other last ⊎ Parts other last text end))

split : (x y : List ℕ) (e g : End) → the x e ≡ the y g → (x ≡ y) × (e ≡ g)
split x y e g p = (ap (λ q. q.0) p, ap (λ q. q.1) p)

front_one : (input text other : List ℕ) (end last : End) → Front input text end → Front input other last → Ends input text other end last
front_one input text other end last (none _ a b) (none _ c d) = inl (a ∙ sym c, b ∙ sym d)
front_one input text other end last (none e a b) (never i c d) = absurd (not_never input e i)
front_one input text other end last (none e a b) (inside i c d) = absurd (not_inside input e i)
front_one input text other end last (none e a b) (headed h tail i said) = absurd (not_headed input h tail e i)
front_one input text other end last (never i a b) (none e c d) = absurd (not_never input e i)
front_one input text other end last (never i a b) (never j c d) = inl (a ∙ sym c, b ∙ sym d)
front_one input text other end last (never i a b) (inside j c d) = inr ((i, j.may), inl (a, b, c, d))
front_one input text other end last (never i a b) (headed h tail j said) = absurd (hopeless_headed input h tail i j)
front_one input text other end last (inside i a b) (none e c d) = absurd (not_inside input e i)
front_one input text other end last (inside i a b) (never j c d) = inr ((j, i.may), inr (c, d, a, b))
front_one input text other end last (inside i a b) (inside j c d) = inl (a ∙ sym c, b ∙ sym d)
front_one input text other end last (inside i a b) (headed h tail j said) = absurd (inside_headed input h tail i j)
front_one input text other end last (headed h tail i said) (none e c d) = absurd (not_headed input h tail e i)
front_one input text other end last (headed h tail i said) (never j c d) = absurd (hopeless_headed input h tail j i)
front_one input text other end last (headed h tail i said) (inside j c d) = absurd (inside_headed input h tail j i)
front_one input text other end last (headed h tail i said) (headed k beyond j says_so) =
    inl (split text other end last (sym said ∙ ap (λ x. says (framing_of x)) (one_head input h k tail beyond i j).0 ∙ says_so))

-- ---- one request

abbrev size_of : Framing → ℕ
size_of (Sized size) = size
size_of _ = 0

abbrev is_sized : Framing → Bool
is_sized (Sized size) = true
is_sized _ = false

one_framing : (input : List ℕ) (h k : RequestHead) (tail other : List ℕ) → Begins input h tail → Begins input k other → framing_of h ≡ framing_of k
one_framing input h k tail other b c = ap framing_of (one_head input h k tail other b c).0

not_sized : (f : Framing) (size : ℕ) → f ≡ Sized size → is_sized f ≡ false → ⊥
not_sized f size e other = let same : true ≡ false = sym (ap is_sized e) ∙ other in cc

has_none : (input : List ℕ) (h : RequestHead) (body rest text : List ℕ) (end : End) → HasRequest input h body rest → NoRequest input text end → ⊥
has_none input h body rest text end a (at_end e x y) = not_headed input h a.tail e a.begins
has_none input h body rest text end a (no_head i x y) = hopeless_headed input h a.tail i a.begins
has_none input h body rest text end a (cut_in_head i x y) = inside_headed input h a.tail i a.begins
has_none input h body rest text end a (unclear_length k tail i f x y) =
    not_sized _ (length body) a.frames (ap is_sized (one_framing input h k a.tail tail a.begins i ∙ f))
has_none input h body rest text end a (no_length k tail i f x y) =
    not_sized _ (length body) a.frames (ap is_sized (one_framing input h k a.tail tail a.begins i ∙ f))
has_none input h body rest text end a (too_large k tail size i f more x y) =
    let same : length body ≡ size = ap size_of (sym a.frames ∙ one_framing input h k a.tail tail a.begins i ∙ f) in
    omega (arith, same, more, a.fits)
has_none input h body rest text end a (cut_in_body k tail size i f fits cut x y) =
    let same : length body ≡ size = ap size_of (sym a.frames ∙ one_framing input h k a.tail tail a.begins i ∙ f) in
    let parts : length a.tail ≡ length body + length rest = ap length a.parts ∙ length-append body rest in
    omega (arith, same, cut, parts, ap length (one_head input h k a.tail tail a.begins i).1)

record Same (h k : RequestHead) (b c q r : List ℕ) : Type 0 where
  pub head : h ≡ k
  pub body : b ≡ c
  pub rest : q ≡ r

one_body : (body other rest left : List ℕ) → length body ≡ length other → body ++ rest ≡ other ++ left → (body ≡ other) × (rest ≡ left)
one_body body other rest left size e =
    let same : body ≡ other = sym (take_at body rest (length other) size) ∙ ap (take (length other)) e ∙ take_at other left (length other) refl in
    (same, append_cancel_left other rest left (ap (λ (b : List ℕ). b ++ rest) (sym same) ∙ e))

has_one : (input : List ℕ) (h k : RequestHead) (body other rest left : List ℕ) → HasRequest input h body rest → HasRequest input k other left → Same h k body other rest left
has_one input h k body other rest left a b =
    let one = one_head input h k a.tail b.tail a.begins b.begins in
    let size : length body ≡ length other = ap size_of (sym a.frames ∙ ap framing_of one.0 ∙ b.frames) in
    let bodies = one_body body other rest left size (sym a.parts ∙ one.1 ∙ b.parts) in
    record { head = one.0; body = bodies.0; rest = bodies.1 }

-- ---- one turn

module _ {S : Type 0} (step : Step S) (decided : IsDecided step) where
  data Turns (input text other : List ℕ) (t u : S) (next later : Next) : Type 0 where
    same : text ≡ other → t ≡ u → next ≡ later → Turns input text other t u next later
    free : (end last : End) → IsFree input → Parts text end other last ⊎ Parts other last text end → t ≡ u → next ≡ stop end → later ≡ stop last → Turns input text other t u next later

  by_ends : (input text other : List ℕ) (t u : S) (next later : Next) (end last : End) → t ≡ u → next ≡ stop end → later ≡ stop last → Ends input text other end last → Turns input text other t u next later
  by_ends input text other t u next later end last st n l (inl e) = same e.0 st (n ∙ ap stop e.1 ∙ sym l)
  by_ends input text other t u next later end last st n l (inr e) = free end last e.0 e.1 st n l

  one_route : (h k : RequestHead) (x y : Option Call) → h ≡ k → route_of h.method h.target ≡ x → route_of k.method k.target ≡ y → x ≡ y
  one_route h k x y e p q = sym p ∙ ap (λ r. route_of r.method r.target) e ∙ q

  one_call : (h k : RequestHead) (x y : Call) → h ≡ k → route_of h.method h.target ≡ Some x → route_of k.method k.target ≡ Some y → x ≡ y
  one_call h k x y e p q = let same : Some x ≡ Some y = one_route h k (Some x) (Some y) e p q in cc

  no_call : (h k : RequestHead) (x : Call) → h ≡ k → route_of h.method h.target ≡ None → route_of k.method k.target ≡ Some x → ⊥
  no_call h k x e p q = let same : None ≡ Some x = one_route h k None (Some x) e p q in cc

  one_reply : (s t u : S) (call other : Call) (body beyond : List ℕ) (reply said : Option (ℕ × List ℕ)) → call ≡ other → body ≡ beyond
      → step s call body reply t → step s other beyond said u → (reply ≡ said) × (t ≡ u)
  one_reply s t u call other body beyond reply said p q x y =
      let P : Call → Type 0 = λ c. step s c body reply t in
      let Q : List ℕ → Type 0 = λ b. step s other b reply t in
      decided s t u other beyond reply said (subst Q q (subst P p x)) y

  told_one : (number : ℕ) (h k : RequestHead) (status code : ℕ) (said told : List ℕ) → h ≡ k → status ≡ code → said ≡ told
      → reply_text status said (closes h number) ≡ reply_text code told (closes k number)
  told_one number h k status code said told p q r =
      ap (λ n. reply_text n said (closes h number)) q ∙ ap (λ b. reply_text code b (closes h number)) r ∙ ap (λ x. reply_text code told (closes x number)) p

  some_one : (v w : ℕ × List ℕ) → Some v ≡ Some w → (v.0 ≡ w.0) × (v.1 ≡ w.1)
  some_one v w e = let same : v ≡ w = cc in (ap (λ q. q.0) same, ap (λ q. q.1) same)

  some_none : (v : ℕ × List ℕ) → Some v ≡ None → ⊥
  some_none v e = cc

  after_one : (number : ℕ) (h k : RequestHead) (rest left : List ℕ) → h ≡ k → rest ≡ left → after (closes h number) rest ≡ after (closes k number) left
  after_one number h k rest left p q = ap (λ r. after (closes h number) r) q ∙ ap (λ x. after (closes x number) left) p

  turn_one : (s : S) (number : ℕ) (input text other : List ℕ) (t u : S) (next later : Next) → Turn step s number input text t next → Turn step s number input other u later
      → Turns input text other t u next later
  turn_one s number input text other t u next later (no_request end a st n) (no_request last b su l) =
      by_ends input text other t u next later end last (st ∙ sym su) n l (front_one input text other end last (front input text end a) (front input other last b))
  turn_one s number input text other t u next later (no_request end a st n) (unknown k body left b r y su l) = absurd (has_none input k body left text end b a)
  turn_one s number input text other t u next later (no_request end a st n) (answered k body left call status said b r m y l) = absurd (has_none input k body left text end b a)
  turn_one s number input text other t u next later (no_request end a st n) (no_memory k body left call b r m y l) = absurd (has_none input k body left text end b a)
  turn_one s number input text other t u next later (unknown h body rest a q x st n) (no_request last b su l) = absurd (has_none input h body rest other last a b)
  turn_one s number input text other t u next later (answered h body rest call status said a q m x n) (no_request last b su l) = absurd (has_none input h body rest other last a b)
  turn_one s number input text other t u next later (no_memory h body rest call a q m x n) (no_request last b su l) = absurd (has_none input h body rest other last a b)
  turn_one s number input text other t u next later (unknown h body rest a q x st n) (unknown k beyond left b r y su l) =
      let one = has_one input h k body beyond rest left a b in
      same (x ∙ ap (λ j. reply_text 404 no_route (closes j number)) one.head ∙ sym y) (st ∙ sym su) (n ∙ after_one number h k rest left one.head one.rest ∙ sym l)
  turn_one s number input text other t u next later (unknown h body rest a q x st n) (answered k beyond left call status said b r m y l) =
      absurd (no_call h k call (has_one input h k body beyond rest left a b).head q r)
  turn_one s number input text other t u next later (unknown h body rest a q x st n) (no_memory k beyond left call b r m y l) =
      absurd (no_call h k call (has_one input h k body beyond rest left a b).head q r)
  turn_one s number input text other t u next later (answered h body rest call status said a q m x n) (unknown k beyond left b r y su l) =
      absurd (no_call k h call (sym (has_one input h k body beyond rest left a b).head) r q)
  turn_one s number input text other t u next later (no_memory h body rest call a q m x n) (unknown k beyond left b r y su l) =
      absurd (no_call k h call (sym (has_one input h k body beyond rest left a b).head) r q)
  turn_one s number input text other t u next later (answered h body rest call status said a q m x n) (answered k beyond left asked code told b r o y l) =
      let one = has_one input h k body beyond rest left a b in
      let replies = one_reply s t u call asked body beyond (Some (status, said)) (Some (code, told)) (one_call h k call asked one.head q r) one.body m o in
      let said_one = some_one (status, said) (code, told) replies.0 in
      same (x ∙ told_one number h k status code said told one.head said_one.0 said_one.1 ∙ sym y) replies.1
      (n ∙ after_one number h k rest left one.head one.rest ∙ sym l)
  turn_one s number input text other t u next later (answered h body rest call status said a q m x n) (no_memory k beyond left asked b r o y l) =
      let one = has_one input h k body beyond rest left a b in
      absurd (some_none (status, said) (one_reply s t u call asked body beyond (Some (status, said)) None (one_call h k call asked one.head q r) one.body m o).0)
  turn_one s number input text other t u next later (no_memory h body rest call a q m x n) (answered k beyond left asked code told b r o y l) =
      let one = has_one input h k body beyond rest left a b in
      absurd (some_none (code, told) (sym (one_reply s t u call asked body beyond None (Some (code, told)) (one_call h k call asked one.head q r) one.body m o).0))
  turn_one s number input text other t u next later (no_memory h body rest call a q m x n) (no_memory k beyond left asked b r o y l) =
      let one = has_one input h k body beyond rest left a b in
      let replies = one_reply s t u call asked body beyond None None (one_call h k call asked one.head q r) one.body m o in
      same (x ∙ sym y) replies.1 (n ∙ sym l)

  -- ---- one connection

  record Whole (earlier other here left text told : List ℕ) (t u : S) (end ending : End) : Type 0 where
    pub state : t ≡ u
    pub before : earlier ≡ other
    pub rest : here ≡ left
    pub last : Ends here text told end ending

  stop_stop : (end last : End) → stop end ≡ stop last → end ≡ last
  stop_stop end last e = cc

  stop_on : (end : End) (left : List ℕ) → stop end ≡ go_on left → ⊥
  stop_on end left e = cc

  on_on : (rest left : List ℕ) → go_on rest ≡ go_on left → rest ≡ left
  on_on rest left e = cc

  stops : (input text told : List ℕ) (t u : S) (end last : End) → Turns input text told t u (stop end) (stop last) → (t ≡ u) × Ends input text told end last
  stops input text told t u end last (same e st n) = (st, inl (e, stop_stop end last n))
  stops input text told t u end last (free one two f p st n l) =
      let P : End → Type 0 = λ x. Parts text x told last ⊎ Parts told last text x in
      let Q : End → Type 0 = λ x. Parts text one told x ⊎ Parts told x text one in
      (st, inr (f, subst P (sym (stop_stop end one n)) (subst Q (sym (stop_stop last two l)) p)))

  stops_on : (input text told : List ℕ) (t u : S) (end : End) (left : List ℕ) → Turns input text told t u (stop end) (go_on left) → ⊥
  stops_on input text told t u end left (same e st n) = stop_on end left n
  stops_on input text told t u end left (free one two f p st n l) = stop_on two left (sym l)

  on_stops : (input text told : List ℕ) (t u : S) (rest : List ℕ) (last : End) → Turns input text told t u (go_on rest) (stop last) → ⊥
  on_stops input text told t u rest last (same e st n) = stop_on last rest (sym n)
  on_stops input text told t u rest last (free one two f p st n l) = stop_on one rest (sym n)

  both_on : (input text told : List ℕ) (t u : S) (rest left : List ℕ) → Turns input text told t u (go_on rest) (go_on left) → (text ≡ told) × (t ≡ u) × (rest ≡ left)
  both_on input text told t u rest left (same e st n) = (e, st, on_on rest left n)
  both_on input text told t u rest left (free one two f p st n l) = absurd (stop_on one rest (sym n))

  -- so many requests and then one turn more, at which it ends
  abbrev Rest : S → ℕ → ℕ → List ℕ → List ℕ → List ℕ → S → List ℕ → S → End → Type 0
  Rest s number count input rest before mid text t end = Goes step s number count input rest before mid × Turn step mid (count + number) rest text t (stop end)

  here : (s : S) (number : ℕ) (input rest before : List ℕ) (mid : S) (text : List ℕ) (t : S) (end : End) → Rest s number 0 input rest before mid text t end
      → Turn step s number input text t (stop end)
  here s number input rest before mid text t end (goes, turn) =
      let P : S → Type 0 = λ x. Turn step x number input text t (stop end) in
      let Q : List ℕ → Type 0 = λ i. Turn step mid number i text t (stop end) in
      let N : ℕ → Type 0 = λ n. Turn step mid n rest text t (stop end) in
      subst P goes.2 (subst Q goes.0 (subst N (omega arith) turn))

  later : (count number : ℕ) (mid : S) (rest text : List ℕ) (t : S) (end : End) → Turn step mid (suc count + number) rest text t (stop end) → Turn step mid (count + suc number) rest text t (stop end)
  later count number mid rest text t end turn =
      let P : ℕ → Type 0 = λ n. Turn step mid n rest text t (stop end) in
      subst P (omega arith) turn

  whole_one : (count others : ℕ) (s : S) (number : ℕ) (input rest before : List ℕ) (mid : S) (text : List ℕ) (t : S) (end : End)
      (left other : List ℕ) (middle : S) (told : List ℕ) (u : S) (last : End)
      → Rest s number count input rest before mid text t end → Rest s number others input left other middle told u last
      → Whole before other rest left text told t u end last
  whole_one zero zero s number input rest before mid text t end left other middle told u last a b =
      let one = stops input text told t u end last (turn_one s number input text told t u (stop end) (stop last)
      (here s number input rest before mid text t end a) (here s number input left other middle told u last b)) in
      record {
        state = one.0;
        before = a.0.1 ∙ sym b.0.1;
        rest = a.0.0 ∙ sym b.0.0;
        last = subst (λ (i : List ℕ). Ends i text told end last) (sym a.0.0) one.1;
      }
  whole_one zero (suc others) s number input rest before mid text t end left other middle told u last a ((first, state, on, more, turn, goes, e), final) =
      absurd (stops_on input text first t state end on (turn_one s number input text first t state (stop end) (go_on on) (here s number input rest before mid text t end a) turn))
  whole_one (suc count) zero s number input rest before mid text t end left other middle told u last ((first, state, on, more, turn, goes, e), final) b =
      absurd (on_stops input first told state u on last (turn_one s number input first told state u (go_on on) (stop last) turn (here s number input left other middle told u last b)))
  whole_one (suc count) (suc others) s number input rest before mid text t end left other middle told u last
      ((first, state, on, more, turn, goes, e), final) ((second, status, off, much, spin, went, f), finish) =
      let one = both_on input first second state status on off (turn_one s number input first second state status (go_on on) (go_on off) turn spin) in
      let P : S → Type 0 = λ x. Goes step x (suc number) others off left much middle in
      let Q : List ℕ → Type 0 = λ i. Goes step state (suc number) others i left much middle in
      let again = whole_one count others state (suc number) on rest more mid text t end left much middle told u last
      (goes, later count number mid rest text t end final)
      (subst Q (sym one.2) (subst P (sym one.1) went), later others number middle left told u last finish) in
      record {
        state = again.state;
        before = e ∙ ap (λ (x : List ℕ). x ++ more) one.0 ∙ ap (λ (x : List ℕ). second ++ x) again.before ∙ sym f;
        rest = again.rest;
        last = again.last;
      }

  first : (count : ℕ) (mid : S) (rest text : List ℕ) (t : S) (end : End) → Turn step mid (suc count) rest text t (stop end) → Turn step mid (count + 1) rest text t (stop end)
  first count mid rest text t end turn =
      let P : ℕ → Type 0 = λ n. Turn step mid n rest text t (stop end) in
      subst P (omega arith) turn

  pub one_text : (s : S) (input text other : List ℕ) (t u : S) (end last : End) (a : Text step s input text t (stop end)) (b : Text step s input other u (stop last))
      → AreOne step s input text other t u end last a b
  one_text s input text other t u end last a b =
      let w = whole_one a.count b.count s 1 input a.rest a.before a.mid a.last t end b.rest b.before b.mid b.last u last
      (a.goes, first a.count a.mid a.rest a.last t end a.turn) (b.goes, first b.count b.mid b.rest b.last u last b.turn) in
      record { state = w.state; before = w.before; rest = w.rest; last = w.last }
