-- The body of a cell passes a test where the terms of its parts do.
use Rattle.std.proofs.Common.{◌≡◌, ℕ, zero, suc, Bool, true, false, cond, ◌&&◌, List, [], ◌∷◌, ◌++◌, take, drop, length, Option, Some, None, refl}
use Rattle.std.specs.List.{list_all, AllByRecursion}
use Rattle.k_terms.specs.Sorts.{sort_k, sort_kitem, sort_map, sort_list}
use Rattle.grammar_terms.specs.declared.shape.Shape.{Shape}
use Rattle.rule_terms.specs.declared.defs.Kind.{Kind}
use Rattle.rule_terms.specs.declared.defs.Kind.TheVariants.{Cells as CellsKind, Seq as SeqKind, Map as MapKind, List as ListKind, One as OneKind}
use Rattle.rule_terms.specs.declared.pattern.Pattern.{Pattern, Var}
use Rattle.rule_terms.specs.declared.pattern.Body.{Map as MapBody, List as ListBody, Made as MadeBody}
use Rattle.rule_terms.specs.Sound.{all_patterns, is_made}
use Rattle.rule_parts.specs.declared.argument_sorts.Productions.{Productions}
use Rattle.rule_parts.specs.declared.leaves.Leaf.{Leaf}
use Rattle.rule_parts.specs.declared.parts.Part.{Part}
use Rattle.rule_parts.specs.declared.parts.What.{What}
use Rattle.rule_parts.specs.declared.parts.What.TheVariants.{Item, Tail, Entry, Rest, Made, Inner, Whole}
use Rattle.rule_parts.specs.declared.terms.Occurrence.{Occurrence}
use Rattle.rule_parts.specs.Terms.{last_rest, pattern_of, variable_at}
use Rattle.rule_parts.specs.Sides.{stands, variables_of, what_sequence, what_items, what_entries, what_rests, what_made, on_side, of_side, items_before}
use Rattle.rule_drafts.specs.Bodies.{dots_number, seq_by, variable_in, made_map, made_list, map_by, list_by, one_by, rest_by, rest_place, list_items, body_of}
use Rattle.sound_patterns.proofs.Tests.{both, joins, IsTest, all_joined}
use Rattle.sound_patterns.proofs.Terms.{all_taken, front_passes}

-- what is said of the terms of a part of a content
abbrev pub EachTerm : (Shape → Type 0) → What Shape → Type 0
EachTerm P (Item shape) = P shape
EachTerm P (Tail at) = Unit {0}
EachTerm P (Entry key value) = P key × P value
EachTerm P (Rest at) = Unit {0}
EachTerm P (Made shape) = P shape
EachTerm P (Inner at) = Unit {0}
EachTerm P Whole = Unit {0}

-- and of those of the parts that stand on a side
abbrev pub TermsOn : Bool → (Shape → Type 0) → List (Part Shape) → Type 0
TermsOn left P parts = AllByRecursion (λ (part : Part Shape). stands left part.side ≡ true → EachTerm P part.what) parts

-- ---- what is made of the parts of a side

where_passes : {A : Type 0} (check : A → Bool) (b : Bool) (xs : List A) → (b ≡ true → list_all check xs ≡ true) → list_all check (cond b xs []) ≡ true
where_passes check true xs e = e refl
where_passes check false xs e = refl

side_passes : {A : Type 0} (P : Shape → Type 0) (check : A → Bool) (f : What Shape → List A) → ((what : What Shape) → EachTerm P what → list_all check (f what) ≡ true) → (left : Bool)
    (parts : List (Part Shape)) → TermsOn left P parts → list_all check (of_side left f parts) ≡ true
side_passes P check f each left [] all = refl
side_passes P check f each left (part ∷ parts) all =
    all_joined check (on_side left f part) (of_side left f parts) (where_passes check (stands left part.side) (f part.what) (λ here. each part.what (all.0 here)))
    (side_passes P check f each left parts all.1)

all_dropped : {A : Type 0} (test : A → Bool) (n : ℕ) (parts : List A) → list_all test parts ≡ true → list_all test (drop n parts) ≡ true
all_dropped test zero parts e = e
all_dropped test (suc n) [] e = e
all_dropped test (suc n) (part ∷ parts) e = all_dropped test n parts (both (test part) (list_all test parts) e).1

module _ (test : Pattern → Bool) (is : IsTest test) (vars : List Occurrence) where
  one : (part : Pattern) → test part ≡ true → list_all test (part ∷ []) ≡ true
  one part e = joins (test part) true e refl

  named : (rest : Option ℕ) → list_all test (variables_of rest) ≡ true
  named None = refl
  named (Some x) = one (Var x) (is.var x)

  abbrev entry_test : Pattern × Pattern → Bool
  entry_test e = test e.0 && test e.1

  -- ---- bodies of parts that pass

  seq_passes : (dots : Option ℕ) (parts : List Pattern) → list_all test parts ≡ true → all_patterns test (seq_by vars dots parts) ≡ true
  seq_passes None parts e = front_passes test is vars (last_rest vars parts) parts e
  seq_passes (Some x) parts e = e

  made_map_passes : (part : Pattern) → test part ≡ true → all_patterns test (made_map part) ≡ true
  made_map_passes part e =
      elim (variable_in part) as (λ o. all_patterns test (elim o [ Some x ↦ MapBody [] (Some x) | None ↦ MadeBody part ]) ≡ true) [ Some x ↦ refl | None ↦ e ]

  made_list_passes : (part : Pattern) → test part ≡ true → all_patterns test (made_list part) ≡ true
  made_list_passes part e =
      elim (variable_in part) as (λ o. all_patterns test (elim o [ Some x ↦ ListBody [] (Some x) [] | None ↦ MadeBody part ]) ≡ true) [ Some x ↦ refl | None ↦ e ]

  map_passes : (made : List Pattern) (entries : List (Pattern × Pattern)) (rest : Option ℕ) → list_all test made ≡ true → list_all entry_test entries ≡ true
      → all_patterns test (map_by made entries rest) ≡ true
  map_passes [] entries rest e f = f
  map_passes (part ∷ parts) entries rest e f = made_map_passes part (both (test part) (list_all test parts) e).0

  list_passes : (made items : List Pattern) (rest : Option ℕ) (place : ℕ) → list_all test made ≡ true → list_all test items ≡ true
      → all_patterns test (list_by made items rest place) ≡ true
  list_passes [] items None place e f = joins (list_all test items) true f refl
  list_passes [] items (Some x) place e f =
      joins (list_all test (take place items)) (list_all test (drop place items)) (all_taken test place items f) (all_dropped test place items f)
  list_passes (part ∷ parts) items rest place e f = made_list_passes part (both (test part) (list_all test parts) e).0

  one_passes : (items : List Pattern) → list_all test items ≡ true → all_patterns test (one_by items) ≡ true
  one_passes [] e = is.seq [] None refl
  one_passes (part ∷ parts) e = (both (test part) (list_all test parts) e).0

  module _ (g : Productions) (leaves : List Leaf) (P : Shape → Type 0) (passes : (sort : ℕ) (shape : Shape) → P shape → test (pattern_of g leaves vars sort shape) ≡ true) where
    sequence_each : (what : What Shape) → EachTerm P what → list_all test (what_sequence g leaves vars what) ≡ true
    sequence_each (Item shape) p = one (pattern_of g leaves vars sort_kitem shape) (passes sort_kitem shape p)
    sequence_each (Tail at) p = named (variable_at vars leaves at)
    sequence_each (Entry key value) p = refl
    sequence_each (Rest at) p = refl
    sequence_each (Made shape) p = is.parts (pattern_of g leaves vars sort_k shape) (passes sort_k shape p)
    sequence_each (Inner at) p = refl
    sequence_each Whole p = refl

    items_each : (sort : ℕ) (what : What Shape) → EachTerm P what → list_all test (what_items g leaves vars sort what) ≡ true
    items_each sort (Item shape) p = one (pattern_of g leaves vars sort shape) (passes sort shape p)
    items_each sort (Tail at) p = refl
    items_each sort (Entry key value) p = refl
    items_each sort (Rest at) p = refl
    items_each sort (Made shape) p = refl
    items_each sort (Inner at) p = refl
    items_each sort Whole p = refl

    entries_each : (what : What Shape) → EachTerm P what → list_all entry_test (what_entries g leaves vars what) ≡ true
    entries_each (Item shape) p = refl
    entries_each (Tail at) p = refl
    entries_each (Entry key value) p =
        joins (entry_test (pattern_of g leaves vars sort_kitem key, pattern_of g leaves vars sort_kitem value)) true
        (joins (test (pattern_of g leaves vars sort_kitem key)) (test (pattern_of g leaves vars sort_kitem value)) (passes sort_kitem key p.0) (passes sort_kitem value p.1)) refl
    entries_each (Rest at) p = refl
    entries_each (Made shape) p = refl
    entries_each (Inner at) p = refl
    entries_each Whole p = refl

    made_each : (sort : ℕ) (what : What Shape) → EachTerm P what → list_all test (what_made g leaves vars sort what) ≡ true
    made_each sort (Item shape) p = refl
    made_each sort (Tail at) p = refl
    made_each sort (Entry key value) p = refl
    made_each sort (Rest at) p = refl
    made_each sort (Made shape) p = one (pattern_of g leaves vars sort shape) (passes sort shape p)
    made_each sort (Inner at) p = refl
    made_each sort Whole p = refl

    pub body_passes : (tag : _) (left : Bool) (parts : List (Part Shape)) (kind : Kind) → TermsOn left P parts → all_patterns test (body_of g leaves vars tag left parts kind) ≡ true
    body_passes tag left parts CellsKind all = refl
    body_passes tag left parts SeqKind all =
        seq_passes (dots_number vars tag) (of_side left (what_sequence g leaves vars) parts) (side_passes P test (what_sequence g leaves vars) sequence_each left parts all)
    body_passes tag left parts MapKind all =
        map_passes (of_side left (what_made g leaves vars sort_map) parts) (of_side left (what_entries g leaves vars) parts)
        (rest_by (dots_number vars tag) (of_side left (what_rests leaves vars) parts))
        (side_passes P test (what_made g leaves vars sort_map) (made_each sort_map) left parts all)
        (side_passes P entry_test (what_entries g leaves vars) entries_each left parts all)
    body_passes tag left parts ListKind all =
        list_passes (of_side left (what_made g leaves vars sort_list) parts) (list_items g leaves vars tag left parts)
        (rest_by (dots_number vars tag) (of_side left (what_rests leaves vars) parts))
        (rest_place tag (items_before left parts) (length (list_items g leaves vars tag left parts)))
        (side_passes P test (what_made g leaves vars sort_list) (made_each sort_list) left parts all)
        (side_passes P test (what_items g leaves vars sort_kitem) (items_each sort_kitem) left parts all)
    body_passes tag left parts (OneKind sort) all =
        one_passes (of_side left (what_items g leaves vars sort) parts) (side_passes P test (what_items g leaves vars sort) (items_each sort) left parts all)

-- ---- no expression for a whole content

-- a part is no such expression
abbrev pub IsNotMade : What Shape → Type 0
IsNotMade (Item shape) = Unit {0}
IsNotMade (Tail at) = Unit {0}
IsNotMade (Entry key value) = Unit {0}
IsNotMade (Rest at) = Unit {0}
IsNotMade (Made shape) = ⊥
IsNotMade (Inner at) = Unit {0}
IsNotMade Whole = Unit {0}

abbrev pub NoneMade : Bool → List (Part Shape) → Type 0
NoneMade left parts = AllByRecursion (λ (part : Part Shape). stands left part.side ≡ true → IsNotMade part.what) parts

module _ (g : Productions) (leaves : List Leaf) (vars : List Occurrence) where
  none_of : (sort : ℕ) (what : What Shape) → IsNotMade what → what_made g leaves vars sort what ≡ []
  none_of sort (Item shape) no_made = refl
  none_of sort (Tail at) no_made = refl
  none_of sort (Entry key value) no_made = refl
  none_of sort (Rest at) no_made = refl
  none_of sort (Made shape) no_made = absurd no_made
  none_of sort (Inner at) no_made = refl
  none_of sort Whole no_made = refl

  where_none : (b : Bool) (xs : List Pattern) → (b ≡ true → xs ≡ []) → cond b xs [] ≡ []
  where_none true xs e = e refl
  where_none false xs e = refl

  none_made : (sort : ℕ) (left : Bool) (parts : List (Part Shape)) → NoneMade left parts → of_side left (what_made g leaves vars sort) parts ≡ []
  none_made sort left [] all = refl
  none_made sort left (part ∷ parts) all =
      λ i. where_none (stands left part.side) (what_made g leaves vars sort part.what) (λ here. none_of sort part.what (all.0 here)) i ++ none_made sort left parts all.1 i

  no_made_seq : (dots : Option ℕ) (parts : List Pattern) → is_made (seq_by vars dots parts) ≡ false
  no_made_seq None parts = refl
  no_made_seq (Some x) parts = refl

  no_made_map : (made : List Pattern) (entries : List (Pattern × Pattern)) (rest : Option ℕ) → made ≡ [] → is_made (map_by made entries rest) ≡ false
  no_made_map [] entries rest e = refl
  no_made_map (part ∷ parts) entries rest e = absurd (cc)

  no_made_list : (made items : List Pattern) (rest : Option ℕ) (place : ℕ) → made ≡ [] → is_made (list_by made items rest place) ≡ false
  no_made_list [] items None place e = refl
  no_made_list [] items (Some x) place e = refl
  no_made_list (part ∷ parts) items rest place e = absurd (cc)

  no_made_one : (items : List Pattern) → is_made (one_by items) ≡ false
  no_made_one [] = refl
  no_made_one (part ∷ parts) = refl

  pub body_not_made : (tag : _) (left : Bool) (parts : List (Part Shape)) (kind : Kind) → NoneMade left parts → is_made (body_of g leaves vars tag left parts kind) ≡ false
  body_not_made tag left parts CellsKind none = refl
  body_not_made tag left parts SeqKind none = no_made_seq (dots_number vars tag) (of_side left (what_sequence g leaves vars) parts)
  body_not_made tag left parts MapKind none =
      no_made_map (of_side left (what_made g leaves vars sort_map) parts) (of_side left (what_entries g leaves vars) parts)
      (rest_by (dots_number vars tag) (of_side left (what_rests leaves vars) parts)) (none_made sort_map left parts none)
  body_not_made tag left parts ListKind none =
      no_made_list (of_side left (what_made g leaves vars sort_list) parts) (list_items g leaves vars tag left parts)
      (rest_by (dots_number vars tag) (of_side left (what_rests leaves vars) parts))
      (rest_place tag (items_before left parts) (length (list_items g leaves vars tag left parts))) (none_made sort_list left parts none)
  body_not_made tag left parts (OneKind sort) none = no_made_one (of_side left (what_items g leaves vars sort) parts)
