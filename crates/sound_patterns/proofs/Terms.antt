-- The pattern of a term passes a test where the numbers in the term do.
use Rattle.std.proofs.Common.{◌≡◌, ℕ, zero, suc, ◌+◌, ◌-◌, Bool, true, false, cond, ◌==◌, List, [], ◌∷◌, take, drop, length, Option, Some, None, refl}
use Rattle.std.specs.Prelude.{slice_get}
use Rattle.std.specs.List.{list_all, AllByRecursion}
use Rattle.k_terms.specs.Sorts.{sort_k}
use Rattle.grammar_terms.specs.declared.shape.Shape.{Shape, Leaf as LeafShape, Node' as NodeS', Items' as ItemsS', Row_of-Shape, end_of-Shape, more_of-Shape}
use Rattle.rule_terms.specs.declared.pattern.Pattern.{Pattern, Lit, Items, Seq}
use Rattle.rule_parts.specs.declared.argument_sorts.Productions.{Productions}
use Rattle.rule_parts.specs.declared.leaves.Leaf.{Leaf}
use Rattle.rule_parts.specs.declared.leaves.LeafKind.{LeafKind}
use Rattle.rule_parts.specs.declared.leaves.LeafKind.TheVariants.{Variable, Literal, Other}
use Rattle.rule_parts.specs.declared.terms.Occurrence.{Occurrence}
use Rattle.rule_parts.specs.Terms.{sorts_of, place_sort, is_sequence, number_of, built, pattern_by, pattern_at, leaf_pattern, rest_number, last_rest, before_rest, front_parts, sequence_of, is_whole, as_sequence, at_place, items_of, pattern_of, row_patterns}
use Rattle.sound_patterns.proofs.Tests.{both, joins, IsTest}

-- ---- numbers in a shape

module _ (node list : ℕ → Type 0) where
  -- what is said of the numbers of productions in a shape: of one with arguments, and of a list
  unfoldable mutual
    pub AllNumbers : Shape → Type 0
    AllNumbers (LeafShape at) = Unit {0}
    AllNumbers (NodeS' p _ shapes) = node p × RowNumbers shapes
    AllNumbers (ItemsS' p _ shapes rest) = list p × RowNumbers shapes

    pub RowNumbers : {n : _} → Row_of-Shape n → Type 0
    RowNumbers end_of-Shape = Unit {0}
    RowNumbers (more_of-Shape shape shapes) = AllNumbers shape × RowNumbers shapes

-- ---- leaves

-- a literal passes
abbrev pub LeafPasses : (Pattern → Bool) → LeafKind → Type 0
LeafPasses test (Variable home sort) = Unit {0}
LeafPasses test (Literal value) = test (Lit value) ≡ true
LeafPasses test Other = Unit {0}

abbrev pub LeavesPass : (Pattern → Bool) → List Leaf → Type 0
LeavesPass test leaves = AllByRecursion (λ (leaf : Leaf). LeafPasses test leaf.kind) leaves

pub dropped_pass : (test : Pattern → Bool) (n : ℕ) (leaves : List Leaf) → LeavesPass test leaves → LeavesPass test (drop n leaves)
dropped_pass test zero leaves all = all
dropped_pass test (suc n) [] all = tt
dropped_pass test (suc n) (leaf ∷ leaves) all = dropped_pass test n leaves all.1

pub all_taken : {A : Type 0} (test : A → Bool) (n : ℕ) (parts : List A) → list_all test parts ≡ true → list_all test (take n parts) ≡ true
all_taken test zero parts e = refl
all_taken test (suc n) [] e = refl
all_taken test (suc n) (part ∷ parts) e =
    let here = both (test part) (list_all test parts) e in
    joins (test part) (list_all test (take n parts)) here.0 (all_taken test n parts here.1)

module _ (test : Pattern → Bool) (is : IsTest test) (vars : List Occurrence) where
  kind_passes : (kind : LeafKind) → LeafPasses test kind → test (pattern_by vars kind) ≡ true
  kind_passes (Variable home sort) passes = is.var (number_of vars home)
  kind_passes (Literal value) passes = passes
  kind_passes Other passes = is.seq [] None refl

  found_passes : (leaves : List Leaf) (at : ℕ) → LeavesPass test leaves → test (pattern_at vars (slice_get leaves at)) ≡ true
  found_passes [] at all = is.seq [] None refl
  found_passes (leaf ∷ leaves) zero all = kind_passes leaf.kind all.0
  found_passes (leaf ∷ leaves) (suc at) all = found_passes leaves at all.1

  -- ---- a term at a place

  by_whole : (b : Bool) (part : Pattern) → test part ≡ true → test (cond b part (Seq (part ∷ []) None)) ≡ true
  by_whole true part e = e
  by_whole false part e = is.seq (part ∷ []) None (joins (test part) true e refl)

  by_sort : (b : Bool) (part : Pattern) → test part ≡ true → test (cond b (as_sequence vars part) part) ≡ true
  by_sort true part e = by_whole (is_whole vars part) part e
  by_sort false part e = e

  placed : (sort : ℕ) (part : Pattern) → test part ≡ true → test (at_place vars sort part) ≡ true
  placed sort part e = by_sort (sort == sort_k) part e

  pub front_passes : (o : Option ℕ) (parts : List Pattern) → list_all test parts ≡ true → list_all test (before_rest o parts) ≡ true
  front_passes None parts e = e
  front_passes (Some x) parts e = all_taken test (length parts - 1) parts e

  pub sequence_passes : (parts : List Pattern) → list_all test parts ≡ true → test (sequence_of vars parts) ≡ true
  sequence_passes parts e = is.seq (front_parts vars parts) (last_rest vars parts) (front_passes (last_rest vars parts) parts e)

  module _ (g : Productions) (leaves : List Leaf) (literals : LeavesPass test leaves) (node list : ℕ → Type 0)
      (nodes : (p : ℕ) (parts : List Pattern) → node p → list_all test parts ≡ true → test (built g p parts) ≡ true)
      (lists : (p : ℕ) (parts : List Pattern) (rest : Option ℕ) → list p → is_sequence p ≡ false → list_all test parts ≡ true → test (Items p parts rest) ≡ true) where
    items_pass : (b : Bool) (p : ℕ) (parts : List Pattern) (rest : Option ℕ) → is_sequence p ≡ b → list p → list_all test parts ≡ true
        → test (cond b (sequence_of vars parts) (Items p parts rest)) ≡ true
    items_pass true p parts rest sequence number e = sequence_passes parts e
    items_pass false p parts rest other number e = lists p parts rest number other e

    mutual
      unfolding pattern_of row_patterns AllNumbers RowNumbers

      pub term_passes : (sort : ℕ) (shape : Shape) → AllNumbers node list shape → test (pattern_of g leaves vars sort shape) ≡ true
      term_passes sort (LeafShape at) all = placed sort (leaf_pattern vars leaves at) (found_passes leaves at literals)
      term_passes sort (NodeS' p _ shapes) all =
          placed sort (built g p (row_patterns g leaves vars false (sorts_of g p) 0 shapes))
          (nodes p (row_patterns g leaves vars false (sorts_of g p) 0 shapes) all.0 (row_passes false (sorts_of g p) 0 shapes all.1))
      term_passes sort (ItemsS' p _ shapes rest) all =
          let parts = row_patterns g leaves vars true (sorts_of g p) 0 shapes in
          placed sort (items_of vars p parts (rest_number vars leaves rest))
          (items_pass (is_sequence p) p parts (rest_number vars leaves rest) refl all.0 (row_passes true (sorts_of g p) 0 shapes all.1))

      row_passes : {n : _} (is_list : Bool) (sorts : List ℕ) (i : ℕ) (row : Row_of-Shape n) → RowNumbers node list row
          → list_all test (row_patterns g leaves vars is_list sorts i row) ≡ true
      row_passes is_list sorts i end_of-Shape all = refl
      row_passes is_list sorts i (more_of-Shape shape shapes) all =
          joins (test (pattern_of g leaves vars (place_sort is_list sorts i) shape)) _ (term_passes (place_sort is_list sorts i) shape all.0) (row_passes is_list sorts (i + 1) shapes all.1)
