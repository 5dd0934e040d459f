-- The body of a content whose variables are settled: its sequences are whole, its parts are items, and a list has no rest between members.
use Rattle.std.proofs.Common.{◌≡◌, ℕ, zero, suc, Bool, true, false, cond, ◌==◌, ◌&&◌, ◌||◌, List, [], ◌∷◌, ◌++◌, length, take, drop, Option, Some, None, refl, sym, ap, subst, ◌∙◌}
use Rattle.std.proofs.lemmas.Bool.{and_parts}
use Rattle.std.specs.Prelude.{is_some}
use Rattle.std.specs.List.{list_all, AllByRecursion, flat_map}
use Rattle.k_terms.specs.Sorts.{sort_k, sort_kitem, sort_map, sort_list}
use Rattle.grammar_terms.specs.declared.shape.Shape.{Shape}
use Rattle.rule_terms.specs.declared.defs.Kind.{Kind}
use Rattle.rule_terms.specs.declared.defs.Kind.TheVariants.{Cells as CellsKind, Seq as SeqKind, Map as MapKind, List as ListKind, One as OneKind}
use Rattle.rule_terms.specs.declared.pattern.Pattern.{Pattern, Var, Lit, Node' as NodeP', Items' as ItemsP', Seq' as SeqP', Freezer' as FreezerP', Apply' as ApplyP'}
use Rattle.rule_terms.specs.declared.pattern.Body.{Body, Cells' as CellsBody', Seq as SeqBody, Map as MapBody, List as ListBody, One as OneBody, Made as MadeBody}
use Rattle.rule_terms.specs.Sound.{is_item, has_whole_sequences, all_patterns, has_rest_at_end, has_one_form}
use Rattle.rule_parts.specs.declared.argument_sorts.Productions.{Productions}
use Rattle.rule_parts.specs.declared.leaves.Leaf.{Leaf}
use Rattle.rule_parts.specs.declared.parts.Part.{Part}
use Rattle.rule_parts.specs.declared.parts.What.{What}
use Rattle.rule_parts.specs.declared.parts.What.TheVariants.{Item, Tail, Entry, Rest, Made, Inner, Whole}
use Rattle.rule_parts.specs.declared.terms.Occurrence.{Occurrence}
use Rattle.rule_parts.specs.Terms.{occurrences, pattern_of, last_rest, before_rest}
use Rattle.rule_parts.specs.Sides.{as_list, item_sort, whole_sort, part_occurrences, what_sequence, what_tokens, what_items, what_entries, what_rests, what_made, of_side, items_before}
use Rattle.rule_drafts.specs.Bodies.{dots_number, seq_by, rest_by, variable_in, made_map, made_list, map_by, list_by, list_items, rest_place, one_by, body_of, but_last, stray_tails, ends_by_tail, is_between, is_bad_form}
use Rattle.sound_sequences.proofs.Fronts.{both_pass, all_taken, items_but_last, front_whole, front_are_items}
use Rattle.sound_sequences.proofs.Told.{IsSettled, AreSettled, sorts_with, IsSound, nothing_sound}
use Rattle.sound_sequences.proofs.Terms.{left_of_all, right_of_all, OperatorsTakeItems, term_sound}
use Rattle.sound_sequences.proofs.Whats.{whats, of_side_is, each_passes, IsSettledWhat, whats_settled}
use Rattle.sound_sequences.proofs.Sequences.{HaveLoneMade, AreParts, are_parts, parts_front}

all_dropped : {X : Type 0} (test : X → Bool) (n : ℕ) (xs : List X) → list_all test xs ≡ true → list_all test (drop n xs) ≡ true
all_dropped test zero xs e = e
all_dropped test (suc n) [] e = refl
all_dropped test (suc n) (x ∷ xs) e = all_dropped test n xs (and_parts (test x) (list_all test xs) e).1

neither : (a b : Bool) → (a || b) ≡ false → (a ≡ false) × (b ≡ false)
neither true b e = absurd (let f : true ≡ false = e in cc)
neither false b e = (refl, e)

-- a list that is not between has its rest at an end
rest_at_end : (body : Body) → is_between body ≡ false → has_rest_at_end body ≡ true
rest_at_end (CellsBody' _ cells rest) e = refl
rest_at_end (SeqBody parts rest) e = refl
rest_at_end (MapBody entries rest) e = refl
rest_at_end (ListBody [] rest after) e = refl
rest_at_end (ListBody (one ∷ before) None after) e = refl
rest_at_end (ListBody (one ∷ before) (Some x) []) e = refl
rest_at_end (ListBody (one ∷ before) (Some x) (other ∷ after)) e = absurd (let f : true ≡ false = e in cc)
rest_at_end (OneBody part) e = refl
rest_at_end (MadeBody part) e = refl

module _ (vars : List Occurrence) (more : List ℕ) where
  abbrev sorts : List ℕ
  sorts = sorts_with vars more

  -- what is asked of a body
  pub record IsSoundBody (body : Body) : Type 0 where
    pub wholes : all_patterns (has_whole_sequences sorts) body ≡ true
    pub form : has_one_form sorts body ≡ true

  -- ---- expressions

  no_variable : (part : Pattern) → variable_in part ≡ None → is_item sorts part ≡ true
  no_variable (Var x) e = absurd (let f : Some x ≡ None = e in cc)
  no_variable (Lit v) e = refl
  no_variable (NodeP' p _ parts) e = refl
  no_variable (ItemsP' p _ parts rest) e = refl
  no_variable (SeqP' _ parts rest) e = refl
  no_variable (FreezerP' p i _ parts) e = refl
  no_variable (ApplyP' op _ parts) e = refl

  made_map_sound : (part : Pattern) → has_whole_sequences sorts part ≡ true → IsSoundBody (made_map part)
  made_map_sound part whole =
      elim (variable_in part) as (λ (o : Option ℕ). variable_in part ≡ o → IsSoundBody (elim o [ Some x ↦ MapBody [] (Some x) | None ↦ MadeBody part ])) [
        | None ↦ λ e. record { wholes = whole; form = no_variable part e }
        | Some x ↦ λ e. record { wholes = refl; form = refl }
      ] refl

  made_list_sound : (part : Pattern) → has_whole_sequences sorts part ≡ true → IsSoundBody (made_list part)
  made_list_sound part whole =
      elim (variable_in part) as (λ (o : Option ℕ). variable_in part ≡ o → IsSoundBody (elim o [ Some x ↦ ListBody [] (Some x) [] | None ↦ MadeBody part ])) [
        | None ↦ λ e. record { wholes = whole; form = no_variable part e }
        | Some x ↦ λ e. record { wholes = refl; form = refl }
      ] refl

  -- ---- maps and lists

  abbrev whole_entry : Pattern × Pattern → Bool
  whole_entry e = has_whole_sequences sorts e.0 && has_whole_sequences sorts e.1

  abbrev item_entry : Pattern × Pattern → Bool
  item_entry e = is_item sorts e.0 && is_item sorts e.1

  map_sound : (made : List Pattern) (entries : List (Pattern × Pattern)) (rest : Option ℕ) → list_all (has_whole_sequences sorts) made ≡ true
      → list_all whole_entry entries ≡ true → list_all item_entry entries ≡ true → IsSoundBody (map_by made entries rest)
  map_sound [] entries rest made wholes items = record { wholes = wholes; form = items }
  map_sound (part ∷ parts) entries rest made wholes items = made_map_sound part (and_parts (has_whole_sequences sorts part) (list_all (has_whole_sequences sorts) parts) made).0

  list_sound : (made items : List Pattern) (rest : Option ℕ) (place : ℕ) → list_all (has_whole_sequences sorts) made ≡ true
      → list_all (has_whole_sequences sorts) items ≡ true
      → list_all (is_item sorts) items ≡ true → is_between (list_by made items rest place) ≡ false → IsSoundBody (list_by made items rest place)
  list_sound [] items None place made wholes are ends = record {
    wholes = both_pass (list_all (has_whole_sequences sorts) items) true wholes refl;
    form = both_pass (has_rest_at_end (ListBody items None [])) (list_all (is_item sorts) items && true) (rest_at_end (ListBody items None []) ends) (both_pass (list_all (is_item sorts) items) true are refl);
  }
  list_sound [] items (Some x) place made wholes are ends = record {
    wholes = both_pass (list_all (has_whole_sequences sorts) (take place items)) (list_all (has_whole_sequences sorts) (drop place items))
        (all_taken (has_whole_sequences sorts) place items wholes) (all_dropped (has_whole_sequences sorts) place items wholes);
    form = both_pass (has_rest_at_end (ListBody (take place items) (Some x) (drop place items))) (list_all (is_item sorts) (take place items) && list_all (is_item sorts) (drop place items))
        (rest_at_end (ListBody (take place items) (Some x) (drop place items)) ends)
        (both_pass (list_all (is_item sorts) (take place items)) (list_all (is_item sorts) (drop place items)) (all_taken (is_item sorts) place items are) (all_dropped (is_item sorts) place items are));
  }
  list_sound (part ∷ parts) items rest place made wholes are ends = made_list_sound part (and_parts (has_whole_sequences sorts part) (list_all (has_whole_sequences sorts) parts) made).0

  -- ---- one value

  one_value_sound : (parts : List Pattern) → list_all (has_whole_sequences sorts) parts ≡ true → list_all (is_item sorts) parts ≡ true → IsSoundBody (one_by parts)
  one_value_sound [] wholes items = let none = nothing_sound vars more false in record { wholes = none.wholes; form = none.item refl }
  one_value_sound (part ∷ parts) wholes items = record {
    wholes = (and_parts (has_whole_sequences sorts part) (list_all (has_whole_sequences sorts) parts) wholes).0;
    form = (and_parts (is_item sorts part) (list_all (is_item sorts) parts) items).0;
  }

  -- ---- sequences

  none_is : (o : Option ℕ) → is_some o ≡ false → o ≡ None
  none_is None e = refl
  none_is (Some x) e = absurd (let f : true ≡ false = e in cc)

  dotted_sound : (left right : Bool) (x : ℕ) (parts : List Pattern) → AreParts vars more parts → items_but_last sorts parts ≡ true
      → (left || (right && ends_by_tail vars (seq_by vars (cond (left || right) (Some x) None) parts))) ≡ false
      → IsSoundBody (seq_by vars (cond (left || right) (Some x) None) parts)
  dotted_sound true right x parts are items e = absurd (let f : true ≡ false = e in cc)
  dotted_sound false true x parts are items e = record {
    wholes = are.wholes;
    form = ap (λ (o : Option ℕ). list_all (is_item sorts) (before_rest o parts)) (sym (none_is (last_rest vars parts) e)) ∙ front_are_items vars more parts are.told items;
  }
  dotted_sound false false x parts are items e = record { wholes = front_whole vars more parts are.wholes; form = front_are_items vars more parts are.told items }

  -- ---- contents

  module _ (g : Productions) (leaves : List Leaf) (takes : OperatorsTakeItems g) where
    module _ (kind : Kind) where
      abbrev IsThere : What Shape → Type 0
      IsThere what = IsSettledWhat g leaves vars kind what

      made_whole : (what : What Shape) → IsThere what → list_all (has_whole_sequences sorts) (what_made g leaves vars (whole_sort kind) what) ≡ true
      made_whole (Item shape) all = refl
      made_whole (Tail at) all = refl
      made_whole (Entry key value) all = refl
      made_whole (Rest at) all = refl
      made_whole (Made shape) all = both_pass (has_whole_sequences sorts _) true (term_sound vars more g leaves takes all.0 (whole_sort kind) true shape all.1).wholes refl
      made_whole (Inner at) all = refl
      made_whole Whole all = refl

      items_whole : (what : What Shape) → IsThere what → list_all (has_whole_sequences sorts) (what_items g leaves vars (item_sort kind) what) ≡ true
      items_whole (Item shape) all =
          both_pass (has_whole_sequences sorts _) true (term_sound vars more g leaves takes all.0 (item_sort kind) (item_sort kind == sort_k) shape all.1).wholes refl
      items_whole (Tail at) all = refl
      items_whole (Entry key value) all = refl
      items_whole (Rest at) all = refl
      items_whole (Made shape) all = refl
      items_whole (Inner at) all = refl
      items_whole Whole all = refl

      items_are : (item_sort kind == sort_k) ≡ false → (what : What Shape) → IsThere what
          → list_all (is_item sorts) (what_items g leaves vars (item_sort kind) what) ≡ true
      items_are other (Item shape) all =
          both_pass (is_item sorts (pattern_of g leaves vars (item_sort kind) shape)) true ((term_sound vars more g leaves takes all.0 (item_sort kind) (item_sort kind == sort_k) shape all.1).item other) refl
      items_are other (Tail at) all = refl
      items_are other (Entry key value) all = refl
      items_are other (Rest at) all = refl
      items_are other (Made shape) all = refl
      items_are other (Inner at) all = refl
      items_are other Whole all = refl

      key_sound : (on : Bool) (key value : Shape) → AreSettled vars (occurrences g leaves on sort_kitem false key ++ occurrences g leaves on sort_kitem false value)
          → IsSound vars more false (pattern_of g leaves vars sort_kitem key)
      key_sound on key value all =
          term_sound vars more g leaves takes on sort_kitem false key
          (left_of_all (IsSettled vars) (occurrences g leaves on sort_kitem false key) (occurrences g leaves on sort_kitem false value) all)

      value_sound : (on : Bool) (key value : Shape) → AreSettled vars (occurrences g leaves on sort_kitem false key ++ occurrences g leaves on sort_kitem false value)
          → IsSound vars more false (pattern_of g leaves vars sort_kitem value)
      value_sound on key value all =
          term_sound vars more g leaves takes on sort_kitem false value
          (right_of_all (IsSettled vars) (occurrences g leaves on sort_kitem false key) (occurrences g leaves on sort_kitem false value) all)

      entries_whole : (what : What Shape) → IsThere what → list_all whole_entry (what_entries g leaves vars what) ≡ true
      entries_whole (Item shape) all = refl
      entries_whole (Tail at) all = refl
      entries_whole (Entry key value) all =
          both_pass (whole_entry (pattern_of g leaves vars sort_kitem key, pattern_of g leaves vars sort_kitem value)) true
          (both_pass (has_whole_sequences sorts _) (has_whole_sequences sorts _) (key_sound all.0 key value all.1).wholes (value_sound all.0 key value all.1).wholes) refl
      entries_whole (Rest at) all = refl
      entries_whole (Made shape) all = refl
      entries_whole (Inner at) all = refl
      entries_whole Whole all = refl

      entries_are : (what : What Shape) → IsThere what → list_all item_entry (what_entries g leaves vars what) ≡ true
      entries_are (Item shape) all = refl
      entries_are (Tail at) all = refl
      entries_are (Entry key value) all =
          both_pass (item_entry (pattern_of g leaves vars sort_kitem key, pattern_of g leaves vars sort_kitem value)) true
          (both_pass (is_item sorts (pattern_of g leaves vars sort_kitem key)) (is_item sorts (pattern_of g leaves vars sort_kitem value)) ((key_sound all.0 key value all.1).item refl) ((value_sound all.0 key value all.1).item refl)) refl
      entries_are (Rest at) all = refl
      entries_are (Made shape) all = refl
      entries_are (Inner at) all = refl
      entries_are Whole all = refl

      module _ (left : Bool) (parts : List (Part Shape)) (settled : AreSettled vars (flat_map (part_occurrences g leaves kind) parts)) where
        all_there : AllByRecursion IsThere (whats left parts)
        all_there = whats_settled g leaves vars kind left parts settled

        pub side_passes : {X : Type 0} (test : X → Bool) (f : What Shape → List X) → ((what : What Shape) → IsThere what → list_all test (f what) ≡ true)
            → list_all test (of_side left f parts) ≡ true
        side_passes test f each = ap (list_all test) (of_side_is left f parts) ∙ each_passes test f IsThere each (whats left parts) all_there

    -- an expression in a sequence stands alone
    abbrev pub HasLoneMade : Kind → Bool → List (Part Shape) → Type 0
    HasLoneMade CellsKind left parts = Unit {0}
    HasLoneMade SeqKind left parts = HaveLoneMade (whats left parts)
    HasLoneMade MapKind left parts = Unit {0}
    HasLoneMade ListKind left parts = Unit {0}
    HasLoneMade (OneKind sort) left parts = Unit {0}

    -- a single value is not of sort K
    abbrev pub IsNoSequence : Kind → Type 0
    IsNoSequence kind = (sort : ℕ) → kind ≡ OneKind sort → (sort == sort_k) ≡ false

    seq_body_sound : (tag : _) (left : Bool) (parts : List (Part Shape)) (rests : ℕ) → AreSettled vars (flat_map (part_occurrences g leaves SeqKind) parts)
        → HaveLoneMade (whats left parts)
        → stray_tails leaves left parts ≡ [] → is_bad_form vars tag rests SeqKind (body_of g leaves vars tag left parts SeqKind) ≡ false
        → IsSoundBody (body_of g leaves vars tag left parts SeqKind)
    seq_body_sound tag left parts rests settled lone tails bad =
        let there = whats_settled g leaves vars SeqKind left parts settled in
        let same = of_side_is left (what_sequence g leaves vars) parts in
        let are : AreParts vars more (of_side left (what_sequence g leaves vars) parts) = subst (AreParts vars more) (sym same) (are_parts vars more g leaves takes (whats left parts) there) in
        let none : flat_map as_list (but_last (flat_map (what_tokens leaves) (whats left parts))) ≡ [] =
        ap (λ ts. flat_map as_list (but_last ts)) (sym (of_side_is left (what_tokens leaves) parts)) ∙ tails in
        dotted_sound tag.left_dots tag.right_dots _ (of_side left (what_sequence g leaves vars) parts) are
        (ap (items_but_last sorts) same ∙ parts_front vars more g leaves takes (whats left parts) there lone none) bad

    pub body_sound : (tag : _) (left : Bool) (parts : List (Part Shape)) (kind : Kind) (rests : ℕ)
        → AreSettled vars (flat_map (part_occurrences g leaves kind) parts)
        → HasLoneMade kind left parts → IsNoSequence kind → stray_tails leaves left parts ≡ []
        → is_bad_form vars tag rests kind (body_of g leaves vars tag left parts kind) ≡ false → IsSoundBody (body_of g leaves vars tag left parts kind)
    body_sound tag left parts CellsKind rests settled lone other tails bad = record { wholes = refl; form = refl }
    body_sound tag left parts SeqKind rests settled lone other tails bad = seq_body_sound tag left parts rests settled lone tails bad
    body_sound tag left parts MapKind rests settled lone other tails bad =
        map_sound (of_side left (what_made g leaves vars sort_map) parts) (of_side left (what_entries g leaves vars) parts) (rest_by (dots_number vars tag) (of_side left (what_rests leaves vars) parts))
        (side_passes MapKind left parts settled (has_whole_sequences sorts) (what_made g leaves vars sort_map) (made_whole MapKind))
        (side_passes MapKind left parts settled whole_entry (what_entries g leaves vars) (entries_whole MapKind))
        (side_passes MapKind left parts settled item_entry (what_entries g leaves vars) (entries_are MapKind))
    body_sound tag left parts ListKind rests settled lone other tails bad =
        list_sound (of_side left (what_made g leaves vars sort_list) parts) (list_items g leaves vars tag left parts) (rest_by (dots_number vars tag) (of_side left (what_rests leaves vars) parts))
        (rest_place tag (items_before left parts) (length (list_items g leaves vars tag left parts)))
        (side_passes ListKind left parts settled (has_whole_sequences sorts) (what_made g leaves vars sort_list) (made_whole ListKind))
        (side_passes ListKind left parts settled (has_whole_sequences sorts) (what_items g leaves vars sort_kitem) (items_whole ListKind))
        (side_passes ListKind left parts settled (is_item sorts) (what_items g leaves vars sort_kitem) (items_are ListKind refl))
        (neither _ _ bad).1
    body_sound tag left parts (OneKind sort) rests settled lone other tails bad =
        one_value_sound (of_side left (what_items g leaves vars sort) parts)
        (side_passes (OneKind sort) left parts settled (has_whole_sequences sorts) (what_items g leaves vars sort) (items_whole (OneKind sort)))
        (side_passes (OneKind sort) left parts settled (is_item sorts) (what_items g leaves vars sort) (items_are (OneKind sort) (other sort refl)))
