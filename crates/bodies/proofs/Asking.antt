-- What the values of operations ask for, and of what form the bodies without zookies are.
use Rattle.std.proofs.Common.{◌≡◌, ℕ, ◌<◌, ◌≤◌, List, ◌∷◌, [], length, map, refl, sym, ap, ◌∙◌, subst, arith}
use Rattle.std.specs.Prelude.{Option, Some, None, codes}
use Rattle.std.specs.List.{AllZip}
use Rattle.std.specs.Cmp.Lexicographic.{same_text, other_text}
use Rattle.std.proofs.lemmas.Option.{none-some}
use Rattle.serde_json.specs.Data.{Data}
use Rattle.serde_json.specs.Find.{get, as_array}
use Rattle.std.specs.Prelude.{option_and_then}
use Rattle.serde_json.specs.View.{view, items_view}
use Rattle.serde_json.specs.declared.value.Value.{Value}
use Rattle.config_text.specs.Objects.{text_at}
use Rattle.config_text.specs.Reading.{Reads}
use Rattle.names.specs.Spelling.{SpellsTuple}
use Rattle.names.specs.declared.tuple.Tuple.{Tuple}
use Rattle.names.specs.declared.write.Op.{Op}
use Rattle.names.specs.declared.write.OpKind.{OpKind}
use Rattle.names.specs.declared.write.OpKind.TheVariants.{Insert, Touch, Delete}
use Rattle.names.specs.declared.part.Part.{Part}
use Rattle.names.specs.declared.part.Part.TheVariants.{Index, Hot}
use Rattle.bodies.specs.Requests.{CatchUpOf, AsksCatchUp, part_word}
use Rattle.bodies.specs.Writing.{AsksOp, op_word}
use Rattle.bodies.specs.inside.Parts.{IsKind, IsPart, OpsOf}
use Rattle.bodies.proofs.Bytes.{same_read}
use Rattle.bodies.proofs.Options.{so_of, not_so}
use Rattle.bodies.proofs.Values.{as_many, listed_at, is_list_at, no_list_at}

-- the words of operations and of parts
pub kind_word : (w : List ℕ) (k : OpKind) → IsKind w k → w ≡ op_word k
kind_word w Insert is = same_text w (codes "insert") (sym is)
kind_word w Touch is = same_text w (codes "touch") (sym is)
kind_word w Delete is = same_text w (codes "delete") (sym is)

word_kind : (w : List ℕ) (k : OpKind) → w ≡ op_word k → IsKind w k
word_kind w Insert is = rw is refl
word_kind w Touch is = rw is refl
word_kind w Delete is = rw is refl

pub named_part : (w : List ℕ) (p : Part) → IsPart w p → w ≡ part_word p
named_part w Index is = same_text w (codes "index") (sym is)
named_part w Hot is = same_text w (codes "hot") (sym is)

part_named : (w : List ℕ) (p : Part) → w ≡ part_word p → IsPart w p
part_named w Index is = rw is refl
part_named w Hot is = rw is refl

same_word : (at : Option (List ℕ)) (w word : List ℕ) → Some w ≡ at → at ≡ Some word → w ≡ word
same_word at w word there is = let both : Some w ≡ Some word = there ∙ is in cc

-- it asks for no operation
module _ (d : Data) where
  pub no_kind : (w : List ℕ) → Some w ≡ text_at (codes "op") d → ((k : OpKind) → IsKind w k → ⊥) → (o : Op) → AsksOp d o → ⊥
  no_kind w there not o asks = not o.kind (word_kind w o.kind (same_word (text_at (codes "op") d) w (op_word o.kind) there asks.word_is))

  pub no_op_tuple : (text : List ℕ) → Some text ≡ text_at (codes "tuple") d → ((t : Tuple) → SpellsTuple text t → ⊥) → (o : Op) → AsksOp d o → ⊥
  no_op_tuple text there not o asks = not o.tuple (so_of (λ s. SpellsTuple s o.tuple) (text_at (codes "tuple") d) text there asks.tuple_is)

  pub no_tuple_text : text_at (codes "tuple") d ≡ None → (o : Op) → AsksOp d o → ⊥
  no_tuple_text none o asks = not_so (λ s. SpellsTuple s o.tuple) (text_at (codes "tuple") d) none asks.tuple_is

  pub no_part : (w : List ℕ) → Some w ≡ text_at (codes "part") d → ((p : Part) → IsPart w p → ⊥) → (part : Part) (commits : ℕ) → CatchUpOf d part commits → ⊥
  no_part w there not part commits asks = not part (part_named w part (same_word (text_at (codes "part") d) w (part_word part) there asks.part_at))

-- the member `ops`
module _ (d : Data) (vs : List Value) (at : Some (items_view vs) ≡ option_and_then as_array (get (codes "ops") d)) where
  ops_count : (ops : List Op) → OpsOf d ops → length ops ≡ length vs
  ops_count ops w = as_many AsksOp vs ops (listed_at AsksOp (get (codes "ops") d) vs at ops w.0)

  pub asked_none : length vs ≡ 0 → (ops : List Op) → OpsOf d ops → ⊥
  asked_none count ops w = let e = ops_count ops w in let r = w.1 in grind (arith, e, r, count)

  pub asked_many : 256 < length vs → (ops : List Op) → OpsOf d ops → ⊥
  asked_many count ops w = let e = ops_count ops w in let r = w.1 in grind (arith, e, r, count)

  pub asked_badly : ((ops : List Op) → AllZip AsksOp (map view vs) ops → ⊥) → (ops : List Op) → OpsOf d ops → ⊥
  asked_badly not ops w = not ops (listed_at AsksOp (get (codes "ops") d) vs at ops w.0)

  pub asked_ops : (ops : List Op) → 0 < length vs → length vs ≤ 256 → AllZip AsksOp (map view vs) ops → OpsOf d ops
  asked_ops ops low high each =
      let e = as_many AsksOp vs ops each in
      (is_list_at AsksOp (get (codes "ops") d) vs at ops each, grind (arith, e, low, high))

pub no_ops : (d : Data) → option_and_then as_array (get (codes "ops") d) ≡ None → (ops : List Op) → OpsOf d ops → ⊥
no_ops d none ops w = no_list_at AsksOp (get (codes "ops") d) none ops w.0

pub catch_up_other : (body : List ℕ) (d : Data) → Reads body d → ((part : Part) (commits : ℕ) → CatchUpOf d part commits → ⊥) → (part : Part) (commits : ℕ) → AsksCatchUp body part commits → ⊥
catch_up_other body d r not part commits a = not part commits (subst (λ (x : Data). CatchUpOf x part commits) (same_read body a.0 d a.1 r) a.2)

pub catch_up_unread : (body : List ℕ) → ((d : Data) → Reads body d → ⊥) → (part : Part) (commits : ℕ) → AsksCatchUp body part commits → ⊥
catch_up_unread body not part commits a = not a.0 a.1
