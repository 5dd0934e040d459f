-- The parts of a sequence that is a content: all but the last are items.
use Rattle.std.proofs.Common.{◌≡◌, ◌⊎◌, inl, inr, ℕ, suc, ◌-◌, Bool, true, false, cond, not, ◌==◌, List, [], ◌∷◌, ◌++◌, length, take, append-nil, Option, Some, None, refl, sym, ap, subst, ◌∙◌, arith}
use Rattle.std.proofs.lemmas.Bool.{and_parts}
use Rattle.std.specs.Prelude.{slice_get, is_some}
use Rattle.std.specs.Option.{option_map_or, option_and_then}
use Rattle.std.specs.List.{list_all, AllByRecursion, flat_map}
use Rattle.k_terms.specs.Sorts.{sort_k, sort_kitem}
use Rattle.grammar_terms.specs.declared.shape.Shape.{Shape}
use Rattle.rule_terms.specs.declared.defs.Kind.TheVariants.{Seq as SeqKind}
use Rattle.rule_terms.specs.declared.pattern.Pattern.{Pattern, Var, Lit, Node' as NodeP', Items' as ItemsP', Seq' as SeqP', Freezer' as FreezerP', Apply' as ApplyP', items-the_row-Pattern}
use Rattle.rule_terms.specs.Sound.{is_sequence_variable, is_item, has_whole_sequences, row_has_whole_sequences, row_has_items}
use Rattle.rule_parts.specs.declared.argument_sorts.Productions.{Productions}
use Rattle.rule_parts.specs.declared.leaves.Leaf.{Leaf}
use Rattle.rule_parts.specs.declared.leaves.LeafKind.{LeafKind}
use Rattle.rule_parts.specs.declared.leaves.LeafKind.TheVariants.{Variable, Literal, Other}
use Rattle.rule_parts.specs.declared.parts.What.{What}
use Rattle.rule_parts.specs.declared.parts.What.TheVariants.{Item, Tail, Entry, Rest, Made, Inner, Whole}
use Rattle.rule_parts.specs.declared.terms.Occurrence.{Occurrence}
use Rattle.rule_parts.specs.Terms.{occurrence_by, leaf_by, sort_of_number, number_of, is_of_sort_k, tail_of, leaf_number, variable_at, pattern_of}
use Rattle.rule_parts.specs.Sides.{token_at, as_list, variables_of, sequence_parts, what_sequence, what_tokens}
use Rattle.rule_drafts.specs.Bodies.{but_last}
use Rattle.sound_sequences.proofs.Wholes.{row_whole, row_items}
use Rattle.sound_sequences.proofs.Fronts.{both_pass, items_but_last, item_before}
use Rattle.sound_sequences.proofs.Told.{AreSettled, sorts_with, IsTold, IsToldRest, IsSound, variable_told, sort_there}
use Rattle.sound_sequences.proofs.Terms.{OperatorsTakeItems, term_sound}
use Rattle.sound_sequences.proofs.Whats.{all_pass_joined, all_joined, made_of_each, each_passes, IsSettledWhat}

-- ---- tokens that are variables of sort K before the last

no_token : (first : ℕ) (rest : List (Option ℕ)) → flat_map as_list (but_last (Some first ∷ rest)) ≡ [] → rest ≡ []
no_token first [] e = refl
no_token first (other ∷ rest) e =
    let n : length (Some first ∷ other ∷ rest) - 1 ≡ suc (length rest) = omega arith in
    let f : flat_map as_list (take (suc (length rest)) (Some first ∷ other ∷ rest)) ≡ [] = subst (λ k. flat_map as_list (take k (Some first ∷ other ∷ rest)) ≡ []) n e in
    absurd (let g : first ∷ flat_map as_list (take (length rest) (other ∷ rest)) ≡ [] = f in cc)

later_tokens : (rest : List (Option ℕ)) → flat_map as_list (but_last (None ∷ rest)) ≡ [] → flat_map as_list (but_last rest) ≡ []
later_tokens [] e = refl
later_tokens (other ∷ rest) e =
    let n : length (None ∷ other ∷ rest) - 1 ≡ suc (length (other ∷ rest) - 1) = omega arith in
    subst (λ k. flat_map as_list (take k (None ∷ other ∷ rest)) ≡ []) n e

-- ---- expressions

abbrev pub is_made : What Shape → Bool
is_made (Item shape) = false
is_made (Tail at) = false
is_made (Entry key value) = false
is_made (Rest at) = false
is_made (Made shape) = true
is_made (Inner at) = false
is_made Whole = false

-- an expression stands alone
abbrev pub HaveLoneMade : List (What Shape) → Type 0
HaveLoneMade some = (list_all (λ what. not (is_made what)) some ≡ true) ⊎ ((shape : Shape) × (some ≡ Made shape ∷ []))

module _ (vars : List Occurrence) (more : List ℕ) where
  abbrev sorts : List ℕ
  sorts = sorts_with vars more

  -- a pattern that is an item is known not to be a variable of sort K
  sort_known : (x : ℕ) (o : Option ℕ) → sort_of_number vars x ≡ o → option_map_or (λ sort. sort == sort_k) o false ≡ true → is_item sorts (Var x) ≡ true → ⊥
  sort_known x None e k item = absurd (let f : false ≡ true = k in cc)
  sort_known x (Some sort) e k item =
      let there : is_item sorts (Var x) ≡ false = ap (λ (o : Option ℕ). not (option_map_or (λ s. s == sort_k) o false)) (sort_there vars more x sort e) ∙ ap not k in
      absurd (let f : false ≡ true = sym there ∙ item in cc)

  not_of_sort_k : (b : Bool) (x : ℕ) → (b ≡ true → ⊥) → is_some (cond b (Some x) None) ≡ false
  not_of_sort_k true x none = absurd (none refl)
  not_of_sort_k false x none = refl

  item_tail : (part : Pattern) → is_item sorts part ≡ true → is_some (tail_of vars part) ≡ false
  item_tail (Var x) item = not_of_sort_k (is_of_sort_k vars x) x (λ k. sort_known x (sort_of_number vars x) refl k item)
  item_tail (Lit v) item = refl
  item_tail (NodeP' p _ parts) item = refl
  item_tail (ItemsP' p _ parts rest) item = refl
  item_tail (SeqP' _ parts rest) item = refl
  item_tail (FreezerP' p i _ parts) item = refl
  item_tail (ApplyP' op _ parts) item = refl

  item_told : (part : Pattern) → is_item sorts part ≡ true → IsTold vars more part
  item_told part item = not_true (is_sequence_variable sorts part) item ∙ sym (item_tail part item)
    where
      not_true : (b : Bool) → not b ≡ true → b ≡ false
      not_true true e = sym e
      not_true false e = refl

  items_told : (parts : List Pattern) → list_all (is_item sorts) parts ≡ true → AllByRecursion (IsTold vars more) parts
  items_told [] e = tt
  items_told (part ∷ parts) e = let p = and_parts (is_item sorts part) (list_all (is_item sorts) parts) e in (item_told part p.0, items_told parts p.1)

  -- ---- what some parts are as those of a sequence

  pub record AreParts (parts : List Pattern) : Type 0 where
    pub wholes : list_all (has_whole_sequences sorts) parts ≡ true
    pub told : AllByRecursion (IsTold vars more) parts

  no_parts : AreParts []
  no_parts = record { wholes = refl; told = tt }

  one_part : (whole : Bool) (part : Pattern) → IsSound vars more whole part → AreParts (part ∷ [])
  one_part whole part sound = record { wholes = both_pass (has_whole_sequences sorts part) true sound.wholes refl; told = (sound.told, tt) }

  variable_part : (o : Option ℕ) → IsToldRest vars more o → AreParts (variables_of o)
  unfolding has_whole_sequences
  variable_part None told = no_parts
  variable_part (Some x) told = record { wholes = refl; told = (told, tt) }

  -- those of a whole sequence, of which all but the last are items
  pub record AreFront (parts : List Pattern) : Type 0 where
    pub are : AreParts parts
    pub items : items_but_last sorts parts ≡ true

  one_front : (part : Pattern) → IsSound vars more true part → AreFront (part ∷ [])
  one_front part sound = record { are = one_part true part sound; items = refl }

  items_then : (parts : List Pattern) (o : Option ℕ) → list_all (is_item sorts) parts ≡ true → items_but_last sorts (parts ++ variables_of o) ≡ true
  items_then [] None e = refl
  items_then [] (Some x) e = refl
  items_then (part ∷ parts) o e =
      let p = and_parts (is_item sorts part) (list_all (is_item sorts) parts) e in
      item_before sorts part (parts ++ variables_of o) p.0 (items_then parts o p.1)

  sequence_front : (parts : List Pattern) (rest : Option ℕ) → list_all (has_whole_sequences sorts) parts ≡ true → list_all (is_item sorts) parts ≡ true
      → IsToldRest vars more rest
      → AreFront (parts ++ variables_of rest)
  sequence_front parts rest wholes items told = record {
    are = record {
      wholes = all_pass_joined (has_whole_sequences sorts) parts (variables_of rest) wholes (variable_part rest told).wholes;
      told = all_joined (IsTold vars more) parts (variables_of rest) (items_told parts items) (variable_part rest told).told;
    };
    items = items_then parts rest items;
  }

  whole_front : (part : Pattern) → IsSound vars more true part → AreFront (sequence_parts part)
  unfolding has_whole_sequences
  whole_front (Var x) sound = one_front (Var x) sound
  whole_front (Lit v) sound = one_front (Lit v) sound
  whole_front (NodeP' p s parts) sound = one_front (NodeP' p s parts) sound
  whole_front (ItemsP' p s parts rest) sound = one_front (ItemsP' p s parts rest) sound
  whole_front (SeqP' s parts rest) sound =
      let p = and_parts (row_has_whole_sequences sorts parts) (row_has_items sorts parts) sound.wholes in
      sequence_front (items-the_row-Pattern _ parts) rest (sym (row_whole sorts parts) ∙ p.0) (sym (row_items sorts parts) ∙ p.1) sound.rest
  whole_front (FreezerP' p i s parts) sound = one_front (FreezerP' p i s parts) sound
  whole_front (ApplyP' op s parts) sound = one_front (ApplyP' op s parts) sound

  -- ---- variables of sort K

  number_told : (at : ℕ) (k : LeafKind) (on : Bool) (sort : ℕ) → AreSettled vars (occurrence_by at k on sort true) → IsToldRest vars more (leaf_number vars k)
  number_told at (Variable home None) on sort all = variable_told vars more (number_of vars home) sort all.0.known
  number_told at (Variable home (Some own)) on sort all = variable_told vars more (number_of vars home) own all.0.known
  number_told at (Literal value) on sort all = tt
  number_told at Other on sort all = tt

  rest_told : (o : Option Leaf) (on : Bool) (sort : ℕ) → AreSettled vars (leaf_by o on sort true)
      → IsToldRest vars more (option_and_then (λ (leaf : Leaf). leaf_number vars leaf.kind) o)
  rest_told None on sort all = tt
  rest_told (Some leaf) on sort all = number_told leaf.at leaf.kind on sort all

  -- ---- the parts of a content

  module _ (g : Productions) (leaves : List Leaf) (takes : OperatorsTakeItems g) where
    abbrev IsThere : What Shape → Type 0
    IsThere what = IsSettledWhat g leaves vars SeqKind what

    abbrev made_of : What Shape → List Pattern
    made_of what = what_sequence g leaves vars what

    each_part : (what : What Shape) → IsThere what → AreParts (made_of what)
    each_part (Item shape) all = one_part false _ (term_sound vars more g leaves takes all.0 sort_kitem false shape all.1)
    each_part (Tail at) all = variable_part (variable_at vars leaves at) (rest_told (slice_get leaves at) all.0 sort_k all.1)
    each_part (Entry key value) all = no_parts
    each_part (Rest at) all = no_parts
    each_part (Made shape) all = (whole_front _ (term_sound vars more g leaves takes all.0 sort_k true shape all.1)).are
    each_part (Inner at) all = no_parts
    each_part Whole all = no_parts

    pub are_parts : (some : List (What Shape)) → AllByRecursion IsThere some → AreParts (flat_map made_of some)
    are_parts some all = record {
      wholes = each_passes (has_whole_sequences sorts) made_of IsThere (λ what there. (each_part what there).wholes) some all;
      told = made_of_each (IsTold vars more) made_of IsThere (λ what there. (each_part what there).told) some all;
    }

    -- where no token is left there is no part
    nothing_there : (some : List (What Shape)) → list_all (λ what. not (is_made what)) some ≡ true → flat_map (what_tokens leaves) some ≡ []
        → flat_map made_of some ≡ []
    nothing_there [] none e = refl
    nothing_there (Item shape ∷ some) none e = absurd (let f : None ∷ flat_map (what_tokens leaves) some ≡ [] = e in cc)
    nothing_there (Tail at ∷ some) none e = absurd (let f : Some (token_at leaves at) ∷ flat_map (what_tokens leaves) some ≡ [] = e in cc)
    nothing_there (Entry key value ∷ some) none e = nothing_there some none e
    nothing_there (Rest at ∷ some) none e = nothing_there some none e
    nothing_there (Made shape ∷ some) none e = absurd (let f : false ≡ true = none in cc)
    nothing_there (Inner at ∷ some) none e = nothing_there some none e
    nothing_there (Whole ∷ some) none e = nothing_there some none e

    variable_last : (o : Option ℕ) (rest : List Pattern) → rest ≡ [] → items_but_last sorts (variables_of o ++ rest) ≡ true
    variable_last o rest e = ap (λ ps. items_but_last sorts (variables_of o ++ ps)) e ∙ items_then_none o
      where
        items_then_none : (o : Option ℕ) → items_but_last sorts (variables_of o ++ []) ≡ true
        items_then_none None = refl
        items_then_none (Some x) = refl

    no_made_front : (some : List (What Shape)) → AllByRecursion IsThere some → list_all (λ what. not (is_made what)) some ≡ true
        → flat_map as_list (but_last (flat_map (what_tokens leaves) some)) ≡ [] → items_but_last sorts (flat_map made_of some) ≡ true
    no_made_front [] all none e = refl
    no_made_front (Item shape ∷ some) all none e =
        let sound = term_sound vars more g leaves takes all.0.0 sort_kitem false shape all.0.1 in
        item_before sorts (pattern_of g leaves vars sort_kitem shape) (flat_map made_of some) (sound.item refl)
        (no_made_front some all.1 none (later_tokens (flat_map (what_tokens leaves) some) e))
    no_made_front (Tail at ∷ some) all none e =
        variable_last (variable_at vars leaves at) (flat_map made_of some)
        (nothing_there some none (no_token (token_at leaves at) (flat_map (what_tokens leaves) some) e))
    no_made_front (Entry key value ∷ some) all none e = no_made_front some all.1 none e
    no_made_front (Rest at ∷ some) all none e = no_made_front some all.1 none e
    no_made_front (Made shape ∷ some) all none e = absurd (let f : false ≡ true = none in cc)
    no_made_front (Inner at ∷ some) all none e = no_made_front some all.1 none e
    no_made_front (Whole ∷ some) all none e = no_made_front some all.1 none e

    made_front : (shape : Shape) → IsThere (Made shape) → items_but_last sorts (made_of (Made shape) ++ []) ≡ true
    made_front shape all =
        ap (items_but_last sorts) (append-nil (made_of (Made shape))) ∙ (whole_front _ (term_sound vars more g leaves takes all.0 sort_k true shape all.1)).items

    pub parts_front : (some : List (What Shape)) → AllByRecursion IsThere some → HaveLoneMade some
        → flat_map as_list (but_last (flat_map (what_tokens leaves) some)) ≡ [] → items_but_last sorts (flat_map made_of some) ≡ true
    parts_front some all (inl none) e = no_made_front some all none e
    parts_front some all (inr one) e =
        let there = subst (AllByRecursion IsThere) one.1 all in
        ap (λ ws. items_but_last sorts (flat_map made_of ws)) one.1 ∙ made_front one.0 there.0
