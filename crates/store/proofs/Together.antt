-- What all events of a commit make of the spans.
use Rattle.std.proofs.Common.{◌≡◌, ℕ, ◌<◌, List, [], ◌∷◌, refl, sym, ap, ◌∙◌, inl, inr, arith}
use Rattle.std.specs.Prelude.{Bool, true, false, cond, not, ◌&&◌, ◌||◌}
use Rattle.std.specs.List.{list_any}
use Rattle.std.proofs.lemmas.Bool.{or_from, and_left, not-true}
use Rattle.names.specs.Spelling.{IsTuple}
use Rattle.names.specs.Order.{is_same_tuple}
use Rattle.names.specs.declared.tuple.Tuple.{Tuple}
use Rattle.names.specs.declared.commit.Event.{Event}
use Rattle.names.specs.declared.commit.EventKind.TheVariants.{Del}
use Rattle.meaning.specs.Config.{Configured}
use Rattle.meaning.specs.Admits.{admits}
use Rattle.meaning.specs.History.{replay}
use Rattle.store.specs.Written.{TupleSpan, Pairwise, is_alive, is_moved, tuples_of, is_put_at}
use Rattle.store.proofs.Picking.{In, same_bool, all_in}
use Rattle.store.proofs.Living.{is_of, one_tuple}
use Rattle.store.proofs.Held.{puts}
use Rattle.store.proofs.Events.{with_event, with_events, Stand, alive_older, moved_older, any_moved_older, put_older, put_now, alive_now, tuples_now}
use Rattle.store.proofs.Standing.{moved_now, stand_now, Admitted, admitted_older, admitted_now}

-- the two events are of different tuples
abbrev pub are_other : Event → Event → Bool
are_other a b = not (is_same_tuple a.tuple b.tuple)

-- the events can be done to the spans: each is of a tuple of its own, none of which came before at the revision; what goes is there
pub record Coming (floor rev : ℕ) (spans : List TupleSpan) (es : List Event) : Type 0 where
  pub stand : Stand floor rev spans
  pub spelled : (e : Event) → In e es → IsTuple e.tuple
  pub fresh : (e : Event) → In e es → is_put_at rev spans e.tuple ≡ false
  pub there : (e : Event) → In e es → e.kind ≡ Del → list_any (is_of e.tuple (is_alive rev)) spans ≡ true
  pub once : Pairwise are_other es

pub same_turned : (x y : Tuple) → is_same_tuple x y ≡ is_same_tuple y x
same_turned x y = same_bool (is_same_tuple x y) (is_same_tuple y x) (alike x y) (alike y x)
  where
    alike : (x y : Tuple) → is_same_tuple x y ≡ true → is_same_tuple y x ≡ true
    alike x y h = let e = one_tuple x y h in ap (λ v. is_same_tuple y v) e ∙ ap (λ v. is_same_tuple v y) (sym e) ∙ h

pub coming_next : (floor rev : ℕ) (spans : List TupleSpan) (e : Event) (es : List Event) → floor < rev → Coming floor rev spans (e ∷ es) → Coming floor rev (with_event rev spans e) es
coming_next floor rev spans e es above c = record {
  stand = stand_now floor rev spans c.stand above e (c.spelled e (inl refl)) (c.fresh e (inl refl));
  spelled = λ f i. c.spelled f (inr i);
  fresh = λ f i. put_now rev e spans f.tuple ∙ or_from (is_same_tuple f.tuple e.tuple && puts e.kind) (is_put_at rev spans f.tuple) (and_left (is_same_tuple f.tuple e.tuple) (puts e.kind) (other f i)) (c.fresh f (inr i));
  there = λ f i del. alive_now floor rev spans c.stand (omega arith) e f.tuple ∙ ap (λ b. cond b (puts e.kind) (list_any (is_of f.tuple (is_alive rev)) spans)) (other f i) ∙ c.there f (inr i) del;
  once = c.once.1;
}
  where
    other : (f : Event) → In f es → is_same_tuple f.tuple e.tuple ≡ false
    other f i = same_turned f.tuple e.tuple ∙ not-true (is_same_tuple e.tuple f.tuple) (all_in (λ f. are_other e f ≡ true) es c.once.0 f i)

-- ---- what stands at the end

pub stand_all : (floor rev : ℕ) (spans : List TupleSpan) (es : List Event) → floor < rev → Coming floor rev spans es → Stand floor rev (with_events rev es spans)
stand_all floor rev spans [] above c = c.stand
stand_all floor rev spans (e ∷ es) above c = stand_all floor rev (with_event rev spans e) es above (coming_next floor rev spans e es above c)

pub tuples_all : (floor rev : ℕ) (spans : List TupleSpan) (es : List Event) → floor < rev → Coming floor rev spans es → tuples_of (is_alive rev) (with_events rev es spans) ≡ replay (tuples_of (is_alive rev) spans) es
tuples_all floor rev spans [] above c = refl
tuples_all floor rev spans (e ∷ es) above c =
    tuples_all floor rev (with_event rev spans e) es above (coming_next floor rev spans e es above c)
    ∙ ap (λ s. replay s es) (tuples_now floor rev spans c.stand (omega arith) e)

in_front : (a b c : Bool) → (b || (a || c)) ≡ ((a || b) || c)
in_front true true c = refl
in_front true false c = refl
in_front false b c = refl

pub moved_all : (floor rev : ℕ) (spans : List TupleSpan) (es : List Event) (q : Tuple) → floor < rev → Coming floor rev spans es
    → list_any (is_of q (is_moved rev)) (with_events rev es spans) ≡ (list_any (λ e. is_same_tuple q e.tuple) es || list_any (is_of q (is_moved rev)) spans)
moved_all floor rev spans [] q above c = refl
moved_all floor rev spans (e ∷ es) q above c =
    moved_all floor rev (with_event rev spans e) es q above (coming_next floor rev spans e es above c)
    ∙ ap (λ b. list_any (λ e. is_same_tuple q e.tuple) es || b) (moved_now floor rev spans c.stand e q (c.there e (inl refl)))
    ∙ in_front (is_same_tuple q e.tuple) (list_any (λ e. is_same_tuple q e.tuple) es) (list_any (is_of q (is_moved rev)) spans)

pub put_all : (rev : ℕ) (spans : List TupleSpan) (es : List Event) (q : Tuple) → is_put_at rev (with_events rev es spans) q ≡ (list_any (λ e. is_same_tuple q e.tuple && puts e.kind) es || is_put_at rev spans q)
put_all rev spans [] q = refl
put_all rev spans (e ∷ es) q =
    put_all rev (with_event rev spans e) es q
    ∙ ap (λ b. list_any (λ e. is_same_tuple q e.tuple && puts e.kind) es || b) (put_now rev e spans q)
    ∙ in_front (is_same_tuple q e.tuple && puts e.kind) (list_any (λ e. is_same_tuple q e.tuple && puts e.kind) es) (is_put_at rev spans q)

pub admitted_all : (config : Configured) (floor rev : ℕ) (spans : List TupleSpan) (es : List Event) → floor < rev → Coming floor rev spans es → ((e : Event) → In e es → admits config e.tuple ≡ true)
    → Admitted config rev spans → Admitted config rev (with_events rev es spans)
admitted_all config floor rev spans [] above c good h = h
admitted_all config floor rev spans (e ∷ es) above c good h =
    admitted_all config floor rev (with_event rev spans e) es above (coming_next floor rev spans e es above c) (λ f i. good f (inr i))
    (admitted_now config floor rev e spans (omega arith) c.stand (good e (inl refl)) h)

-- ---- at older revisions nothing changes

module _ (rev at : ℕ) (old : at < rev) where
  pub alive_before : (spans : List TupleSpan) (es : List Event) (q : Tuple) → list_any (is_of q (is_alive at)) (with_events rev es spans) ≡ list_any (is_of q (is_alive at)) spans
  alive_before spans [] q = refl
  alive_before spans (e ∷ es) q = alive_before (with_event rev spans e) es q ∙ alive_older rev at e spans q old

  pub moved_before : (spans : List TupleSpan) (es : List Event) (q : Tuple) → 0 < at → list_any (is_of q (is_moved at)) (with_events rev es spans) ≡ list_any (is_of q (is_moved at)) spans
  moved_before spans [] q some = refl
  moved_before spans (e ∷ es) q some = moved_before (with_event rev spans e) es q some ∙ moved_older rev at e spans q old some

  pub any_moved_before : (spans : List TupleSpan) (es : List Event) → 0 < at → list_any (is_moved at) (with_events rev es spans) ≡ list_any (is_moved at) spans
  any_moved_before spans [] some = refl
  any_moved_before spans (e ∷ es) some = any_moved_before (with_event rev spans e) es some ∙ any_moved_older rev at e spans old some

  pub put_before : (spans : List TupleSpan) (es : List Event) (q : Tuple) → is_put_at at (with_events rev es spans) q ≡ is_put_at at spans q
  put_before spans [] q = refl
  put_before spans (e ∷ es) q = put_before (with_event rev spans e) es q ∙ put_older rev at e spans q old

  pub admitted_before : (config : Configured) (spans : List TupleSpan) (es : List Event) → Admitted config at spans → Admitted config at (with_events rev es spans)
  admitted_before config spans [] h = h
  admitted_before config spans (e ∷ es) h = admitted_before config (with_event rev spans e) es (admitted_older config rev at e spans old h)
