-- Which marking a value asks for: the one member of an object has one name.
use Rattle.std.proofs.Common.{◌≡◌, ℕ, Bool, true, false, List, [], ◌∷◌, refl, sym, ap, subst, arith, ◌∙◌, true≢false}
use Rattle.std.specs.Prelude.{◌&&◌, ◌||◌, if◌then◌else◌, Option, Some, None, IsSomeAnd, codes, nat_eq}
use Rattle.std.proofs.lemmas.Option.{none-some}
use Rattle.serde_json.specs.Data.{Data, null, boolean, number, string, array, object, Members, no_members, member}
use Rattle.config_text.specs.Objects.{is_text, members_only, text_at}
use Rattle.config_text.specs.Reading.{Reads}
use Rattle.names.specs.Spelling.{SpellsNode}
use Rattle.names.specs.declared.node.Node.{Node}
use Rattle.names.specs.declared.marking.Marking.{Marking}
use Rattle.names.specs.declared.marking.Marking.TheVariants.{Mark, Unmark}
use Rattle.bodies.specs.Requests.{only_text}
use Rattle.bodies.specs.Marking.{MarkingOf, AsksHot}
use Rattle.bodies.proofs.Bytes.{same_read}
use Rattle.bodies.proofs.Options.{so_of, some_of}

both : (a b : Bool) → (a && b) ≡ true → (a ≡ true) × (b ≡ true)
both true b h = (refl, h)
both false b h = absurd (true≢false (sym h))

-- a text is one word alone
is_same : (w a b : List ℕ) → is_text w a ≡ true → is_text w b ≡ true → is_text a b ≡ true
is_same [] [] b p q = q
is_same [] (x ∷ a) b p q = absurd (true≢false (sym p))
is_same (z ∷ w) [] b p q = absurd (true≢false (sym p))
is_same (z ∷ w) (x ∷ a) [] p q = absurd (true≢false (sym q))
is_same (z ∷ w) (x ∷ a) (y ∷ b) p q =
    let m = both (nat_eq z x) (is_text w a) p in
    let n = both (nat_eq z y) (is_text w b) q in
    let heads : nat_eq x y ≡ true = grind (arith, m.0, n.0) in
    ap (λ (c : Bool). c && is_text a b) heads ∙ is_same w a b m.1 n.1

-- what is chosen is there only by the choice
chosen : (c : Bool) (o : Option (List ℕ)) (s : List ℕ) → (if c then o else None) ≡ Some s → c ≡ true
chosen true o s is = refl
chosen false o s is = absurd (none-some s is)

first_of : (b c : Bool) → ((b || false) && c) ≡ true → b ≡ true
first_of true c is = refl
first_of false c is = absurd (true≢false (sym is))

-- the first member of an object has the name that its one member has
is_named : (name k s : List ℕ) (v : Data) (ms : Members) → only_text name (object (member k v ms)) ≡ Some s → is_text k name ≡ true
is_named name k s v ms is =
    first_of (is_text k name) (members_only (name ∷ []) ms)
    (chosen (members_only (name ∷ []) (member k v ms)) (text_at name (object (member k v ms))) s is)

pub one_name : (a b : List ℕ) → is_text a b ≡ false → (d : Data) (s t : List ℕ) → only_text a d ≡ Some s → only_text b d ≡ Some t → ⊥
one_name a b apart null s t first second = none-some s first
one_name a b apart (boolean c) s t first second = none-some s first
one_name a b apart (number n) s t first second = none-some s first
one_name a b apart (string c) s t first second = none-some s first
one_name a b apart (array ds) s t first second = none-some s first
one_name a b apart (object no_members) s t first second = none-some s first
one_name a b apart (object (member k v ms)) s t first second =
    true≢false (sym (is_same k a b (is_named a k s v ms first) (is_named b k t v ms second)) ∙ apart)

-- a text that spells no node, at one name
module _ (d : Data) (text : List ℕ) (not : (node : Node) → SpellsNode text node → ⊥) where
  none_there : (name : List ℕ) → Some text ≡ only_text name d → (node : Node) → IsSomeAnd (only_text name d) (λ s. SpellsNode s node) → ⊥
  none_there name at node is = not node (so_of (λ s. SpellsNode s node) (only_text name d) text at is)

  none_elsewhere : (name other : List ℕ) → is_text name other ≡ false → Some text ≡ only_text name d → (node : Node) → IsSomeAnd (only_text other d) (λ s. SpellsNode s node) → ⊥
  none_elsewhere name other apart at node is =
      let there = some_of (only_text other d) is in one_name name other apart d text there.0 (sym at) there.1

  pub no_mark : Some text ≡ only_text (codes "mark") d → (marking : Marking) → MarkingOf d marking → ⊥
  no_mark at (Mark node) is = none_there (codes "mark") at node is
  no_mark at (Unmark node) is = none_elsewhere (codes "mark") (codes "unmark") refl at node is

  pub no_unmark : Some text ≡ only_text (codes "unmark") d → (marking : Marking) → MarkingOf d marking → ⊥
  no_unmark at (Mark node) is = none_elsewhere (codes "unmark") (codes "mark") refl at node is
  no_unmark at (Unmark node) is = none_there (codes "unmark") at node is

pub hot_other : (body : List ℕ) (d : Data) → Reads body d → ((marking : Marking) → MarkingOf d marking → ⊥) → (marking : Marking) → AsksHot body marking → ⊥
hot_other body d reads not marking a = not marking (subst (λ (x : Data). MarkingOf x marking) (same_read body a.0 d a.1 reads) a.2)

pub hot_unread : (body : List ℕ) → ((d : Data) → Reads body d → ⊥) → (marking : Marking) → AsksHot body marking → ⊥
hot_unread body not marking a = not a.0 a.1
