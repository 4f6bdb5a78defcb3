-- Tables of nodes that grow.
use Rattle.std.proofs.Common.{◌≡◌, ℕ, ◌<◌, nat_lt, List, [], ◌∷◌, ◌++◌, length, sym, ◌∙◌, ap, subst, ⊎_elim, append-nil, append_assoc}
use Rattle.std.specs.Prelude.{Contains, Some, if◌then◌else◌}
use Rattle.std.specs.List.{slice_get}
use Rattle.std.proofs.lemmas.Bool.{cases_Bool}
use Rattle.std.proofs.lemmas.List.Elements.{Contains-append_left, Contains-get_or, Contains-push_cases}
use Rattle.std.proofs.lemmas.Option.{slice_get-get_or, slice_get_within, get_or_from_slice_get}
use Rattle.idsets.proofs.Numbering.{front_get}
use Rattle.names.specs.declared.node.Node.{Node}
use Rattle.lookup.specs.inside.Walking.{Grew}

pub grew_none : (a : List Node) → Grew a a
grew_none a = ([], sym (append-nil a))

pub grew_both : (a b c : List Node) → Grew a b → Grew b c → Grew a c
grew_both a b c f g = (f.0 ++ g.0, g.1 ∙ ap (λ xs. xs ++ g.0) f.1 ∙ append_assoc a f.0 g.0)

pub grew_has : (a b : List Node) (n : Node) → Grew a b → Contains a n → Contains b n
grew_has a b n g c = subst (λ (xs : List Node). Contains xs n) (sym g.1) (Contains-append_left a g.0 n c)

pub grew_get : (a b : List Node) (i : ℕ) (n : Node) → Grew a b → slice_get a i ≡ Some n → slice_get b i ≡ Some n
grew_get a b i n g h = ap (λ xs. slice_get xs i) g.1 ∙ front_get a g.0 i n h

-- what stands where one stood before stood there before
pub grew_got : (a b : List Node) (i : ℕ) (n : Node) → Grew a b → i < length a → slice_get b i ≡ Some n → slice_get a i ≡ Some n
grew_got a b i n g within h =
    let before = slice_get-get_or a i n within in
    before ∙ sym (grew_get a b i _ g before) ∙ h

-- a node is added where it was not there
pub see_grew : (old new : List Node) (n : Node) (id : ℕ) → new ≡ (if nat_lt id (length old) then old else old ++ n ∷ []) → Grew old new
see_grew old new n id is = ⊎_elim
    (λ h. ([], is ∙ ap (λ b. if b then old else old ++ n ∷ []) h ∙ sym (append-nil old)))
    (λ h. (n ∷ [], is ∙ ap (λ b. if b then old else old ++ n ∷ []) h))
    (cases_Bool (nat_lt id (length old)))

-- what stands at a place is there
pub at_has : (nodes : List Node) (i : ℕ) (n : Node) → slice_get nodes i ≡ Some n → Contains nodes n
at_has nodes i n h = subst (Contains nodes) (get_or_from_slice_get nodes i n n h) (Contains-get_or nodes i n (slice_get_within nodes i n h))

-- a node more of a list
pub one_seen : (seen old new : List Node) (n : Node) (id : ℕ) → slice_get new id ≡ Some n → Grew old new → ((m : Node) → Contains seen m → Contains old m)
    → (m : Node) → Contains (seen ++ n ∷ []) m → Contains new m
one_seen seen old new n id at grew before m c = ⊎_elim
    (λ d. grew_has old new m grew (before m d))
    (λ e. subst (Contains new) e (at_has new id n at))
    (Contains-push_cases seen n m c)
