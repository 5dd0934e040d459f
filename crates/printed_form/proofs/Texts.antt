-- The text of values one layer at a time.
use Rattle.std.proofs.Common.{◌≡◌, ℕ, ℤ, Bool, true, false, not, List, [], ◌∷◌, ◌++◌, map, refl, sym, ap, ◌∙◌}
use Rattle.std.specs.Prelude.{codes, IsTrue}
use Rattle.std.specs.Fmt.{signed_decimal}
use denote.Hole.Carrier.{out, roll}
use mathlib.Core.Former.{Count, arity, this}
use Rattle.k_terms.specs.formers.many.Many.{the_former}
use Rattle.k_terms.specs.declared.value.Symbol.{Symbol}
use Rattle.k_terms.specs.declared.value.Value.{Value, Value-F, Int, Bool as Truth, Str, Id, Node, Node', Items, Items', Seq, Seq', Map as Mapping, Map', List as Listed, List' as Listed', Freezer, Freezer', Row_of-Value, end_of-Value, more_of-Value, Row_of-Value-Map-0-2, end_of-Value-Map-0-2, more_of-Value-Map-0-2, out-Value, roll-Value, roll-out-Value, items-the_row-Value, items_shown-the_row-Value-0, items-the_row-Value-Map-0-2, items_shown-the_row-Value-Map-0-2-1}
use Rattle.k_terms.specs.declared.value.Value.TheBlock.{shown-the_row-Value-0, shown-the_row-Value-Map-0-2-1}
use Rattle.k_terms.specs.declared.value.Value.TheVariants.{outs-Node, outs-Items, outs-Seq, outs-Map, outs-List, outs-Freezer}
use Rattle.k_terms.specs.declared.value.Value.TheOpen.{Int as Int-F, Bool as Truth-F, Str as Str-F, Id as Id-F, Node as Node-F, Items as Items-F, Seq as Seq-F, Map as Map-F, List as List-F, Freezer as Freezer-F}
use Rattle.printed_form.specs.Words.{Words, label_of, word_of}
use Rattle.printed_form.specs.Pieces.{quoted, joined_or, bool_text, list_item, application_text, freezer_text}
use Rattle.printed_form.specs.Printed.{has_parts, has_entries, is_enclosed, value_text, row_texts, pair_row_texts, part_text, entry_text, sequence_text, map_text, list_text}

abbrev pub is_filled : {A : Type 0} → List A → Bool
is_filled [] = false
is_filled (_ ∷ _) = true

abbrev pub level_enclosed : Value-F Value → Bool
level_enclosed (Seq-F items) = is_filled items
level_enclosed (Map-F entries) = is_filled entries
level_enclosed (List-F items) = is_filled items
level_enclosed _ = false

abbrev pub level_text : Words → Value-F Value → List ℕ
level_text words (Int-F number) = signed_decimal number
level_text words (Truth-F truth) = bool_text truth
level_text words (Str-F bytes) = quoted bytes
level_text words (Id-F symbol) = word_of words symbol.0
level_text words (Node-F prod parts) = application_text (label_of words prod) (codes "(") (map (part_text words) parts) (codes ")")
level_text words (Items-F prod parts) = codes "." ++ application_text (label_of words prod) (codes "[") (map (part_text words) parts) (codes "]")
level_text words (Seq-F items) = sequence_text words items
level_text words (Map-F entries) = map_text words entries
level_text words (List-F items) = list_text words items
level_text words (Freezer-F prod place parts) = freezer_text (label_of words prod) place (map (part_text words) parts)

-- ---- rows as lists

has_parts_is : {n : Count} (parts : Row_of-Value n) → has_parts parts ≡ is_filled (items-the_row-Value n parts)
unfolding has_parts
has_parts_is end_of-Value = refl
has_parts_is (more_of-Value part parts) = refl

has_entries_is : {n : Count} (entries : Row_of-Value-Map-0-2 n) → has_entries entries ≡ is_filled (items-the_row-Value-Map-0-2 n entries)
unfolding has_entries
has_entries_is end_of-Value-Map-0-2 = refl
has_entries_is (more_of-Value-Map-0-2 key value entries) = refl

row_texts_is : {n : Count} (words : Words) (parts : Row_of-Value n) → row_texts words parts ≡ map (part_text words) (items-the_row-Value n parts)
unfolding row_texts
row_texts_is words end_of-Value = refl
row_texts_is words (more_of-Value part parts) = ap (λ texts. part_text words part ∷ texts) (row_texts_is words parts)

pair_row_texts_is : {n : Count} (words : Words) (entries : Row_of-Value-Map-0-2 n) → pair_row_texts words entries ≡ map (entry_text words) (items-the_row-Value-Map-0-2 n entries)
unfolding pair_row_texts
pair_row_texts_is words end_of-Value-Map-0-2 = refl
pair_row_texts_is words (more_of-Value-Map-0-2 key value entries) = ap (λ texts. entry_text words (key, value) ∷ texts) (pair_row_texts_is words entries)

row_shown : (words : Words) (s : (the_former this).Shape) (parts : Row_of-Value (arity (the_former this) s)) → row_texts words parts ≡ map (part_text words) (shown-the_row-Value-0 s parts)
row_shown words s parts = row_texts_is words parts ∙ ap (map (part_text words)) (sym (items_shown-the_row-Value-0 s parts))

pair_row_shown : (words : Words) (s : (the_former this).Shape) (entries : Row_of-Value-Map-0-2 (arity (the_former this) s)) → pair_row_texts words entries ≡ map (entry_text words) (shown-the_row-Value-Map-0-2-1 s entries)
pair_row_shown words s entries = pair_row_texts_is words entries ∙ ap (map (entry_text words)) (sym (items_shown-the_row-Value-Map-0-2-1 s entries))

-- ---- values one layer at a time

pub is_enclosed_levels : (v : Value) → is_enclosed v ≡ level_enclosed (out-Value v)
unfolding is_enclosed out-Value out
is_enclosed_levels (Int _) = refl
is_enclosed_levels (Truth _) = refl
is_enclosed_levels (Str _) = refl
is_enclosed_levels (Id _) = refl
is_enclosed_levels (Node' _ _ _) = refl
is_enclosed_levels (Items' _ _ _) = refl
is_enclosed_levels (Seq' s parts) = has_parts_is parts ∙ ap is_filled (sym (items_shown-the_row-Value-0 s parts))
is_enclosed_levels (Map' s entries) = has_entries_is entries ∙ ap is_filled (sym (items_shown-the_row-Value-Map-0-2-1 s entries))
is_enclosed_levels (Listed' s parts) = has_parts_is parts ∙ ap is_filled (sym (items_shown-the_row-Value-0 s parts))
is_enclosed_levels (Freezer' _ _ _ _) = refl

pub value_text_levels : (words : Words) (v : Value) → value_text words v ≡ level_text words (out-Value v)
unfolding value_text out-Value out
value_text_levels words (Int _) = refl
value_text_levels words (Truth _) = refl
value_text_levels words (Str _) = refl
value_text_levels words (Id _) = refl
value_text_levels words (Node' prod s parts) = ap (λ texts. application_text (label_of words prod) (codes "(") texts (codes ")")) (row_shown words s parts)
value_text_levels words (Items' prod s parts) = ap (λ texts. codes "." ++ application_text (label_of words prod) (codes "[") texts (codes "]")) (row_shown words s parts)
value_text_levels words (Seq' s parts) = ap (joined_or (codes ".K") (codes " ~> ")) (row_shown words s parts)
value_text_levels words (Map' s entries) = ap (joined_or (codes ".Map") (codes " ")) (pair_row_shown words s entries)
value_text_levels words (Listed' s parts) = ap (λ texts. joined_or (codes ".List") (codes " ") (map list_item texts)) (row_shown words s parts)
value_text_levels words (Freezer' prod place s parts) = ap (freezer_text (label_of words prod) place) (row_shown words s parts)

-- The same at each variant.
pub value_text-Int : (words : Words) (number : ℤ) → value_text words (Int number) ≡ signed_decimal number
unfolding value_text
value_text-Int words number = refl

pub value_text-Bool : (words : Words) (truth : Bool) → value_text words (Truth truth) ≡ bool_text truth
unfolding value_text
value_text-Bool words truth = refl

pub value_text-Str : (words : Words) (bytes : List ℕ) → value_text words (Str bytes) ≡ quoted bytes
unfolding value_text
value_text-Str words bytes = refl

pub value_text-Id : (words : Words) (symbol : Symbol) → value_text words (Id symbol) ≡ word_of words symbol.0
unfolding value_text
value_text-Id words symbol = refl

pub value_text-Node : (words : Words) (prod : ℕ) (parts : List Value) → value_text words (Node prod parts) ≡ application_text (label_of words prod) (codes "(") (map (part_text words) parts) (codes ")")
value_text-Node words prod parts = value_text_levels words _ ∙ ap (level_text words) (outs-Node prod parts)

pub value_text-Items : (words : Words) (prod : ℕ) (parts : List Value) → value_text words (Items prod parts) ≡ codes "." ++ application_text (label_of words prod) (codes "[") (map (part_text words) parts) (codes "]")
value_text-Items words prod parts = value_text_levels words _ ∙ ap (level_text words) (outs-Items prod parts)

pub value_text-Seq : (words : Words) (items : List Value) → value_text words (Seq items) ≡ sequence_text words items
value_text-Seq words items = value_text_levels words _ ∙ ap (level_text words) (outs-Seq items)

pub value_text-Map : (words : Words) (entries : List (Value × Value)) → value_text words (Mapping entries) ≡ map_text words entries
value_text-Map words entries = value_text_levels words _ ∙ ap (level_text words) (outs-Map entries)

pub value_text-List : (words : Words) (items : List Value) → value_text words (Listed items) ≡ list_text words items
value_text-List words items = value_text_levels words _ ∙ ap (level_text words) (outs-List items)

pub value_text-Freezer : (words : Words) (prod place : ℕ) (parts : List Value) → value_text words (Freezer prod place parts) ≡ freezer_text (label_of words prod) place (map (part_text words) parts)
value_text-Freezer words prod place parts = value_text_levels words _ ∙ ap (level_text words) (outs-Freezer prod place parts)

pub is_enclosed-Seq : (items : List Value) → is_enclosed (Seq items) ≡ is_filled items
is_enclosed-Seq items = is_enclosed_levels _ ∙ ap level_enclosed (outs-Seq items)

pub is_enclosed-Map : (entries : List (Value × Value)) → is_enclosed (Mapping entries) ≡ is_filled entries
is_enclosed-Map entries = is_enclosed_levels _ ∙ ap level_enclosed (outs-Map entries)

pub is_enclosed-List : (items : List Value) → is_enclosed (Listed items) ≡ is_filled items
is_enclosed-List items = is_enclosed_levels _ ∙ ap level_enclosed (outs-List items)

-- ---- which values are enclosed

pub filled_unless : {A : Type 0} (xs : List A) (b : Bool) → (IsTrue b → xs ≡ []) × (xs ≡ [] → IsTrue b) → not b ≡ is_filled xs
filled_unless [] true h = refl
filled_unless [] false h = cc (h.1 refl)
filled_unless (x ∷ xs) true h = cc (h.0 refl)
filled_unless (x ∷ xs) false h = refl

from_layer : (v : Value) (x : Value-F Value) → out-Value v ≡ x → v ≡ roll-Value x
from_layer v x e = sym (roll-out-Value v) ∙ ap roll-Value e

open_at : (v : Value) (x : Value-F Value) → out-Value v ≡ x → ((items : List Value) → v ≡ Seq items → ⊥) → ((entries : List (Value × Value)) → v ≡ Mapping entries → ⊥) → ((items : List Value) → v ≡ Listed items → ⊥) → level_enclosed x ≡ false
unfolding roll-Value roll
open_at v (Seq-F items) e s m l = absurd (s items (from_layer v _ e))
open_at v (Map-F entries) e s m l = absurd (m entries (from_layer v _ e))
open_at v (List-F items) e s m l = absurd (l items (from_layer v _ e))
open_at v (Int-F _) e s m l = refl
open_at v (Truth-F _) e s m l = refl
open_at v (Str-F _) e s m l = refl
open_at v (Id-F _) e s m l = refl
open_at v (Node-F _ _) e s m l = refl
open_at v (Items-F _ _) e s m l = refl
open_at v (Freezer-F _ _ _) e s m l = refl

-- a value that is no sequence, map or list
pub not_enclosed : (v : Value) → ((items : List Value) → v ≡ Seq items → ⊥) → ((entries : List (Value × Value)) → v ≡ Mapping entries → ⊥) → ((items : List Value) → v ≡ Listed items → ⊥) → is_enclosed v ≡ false
not_enclosed v s m l = is_enclosed_levels v ∙ open_at v (out-Value v) refl s m l
