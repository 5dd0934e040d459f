-- The patterns of what a cell declares.
use Rattle.std.proofs.Common.{◌≡◌, ℕ, Bool, true, ◌&&◌, List, [], ◌∷◌, map, Option, Some, None, refl, sym, ap, ◌∙◌}
use Rattle.std.specs.Prelude.{slice_get, unwrap_or}
use Rattle.std.specs.List.{list_all}
use Rattle.k_terms.specs.Sorts.{SortOrder}
use Rattle.k_terms.specs.declared.value.Value.{Value}
use Rattle.k_terms.specs.declared.value.Content.{Content}
use Rattle.k_terms.specs.declared.value.Content.TheVariants as content
use Rattle.std.specs.FinMap.{is_sorted}
use Rattle.k_terms.specs.Parts.{entries_are_well_formed}
use Rattle.k_terms.specs.Value.{value_cmp, is_well_formed}
use Rattle.rule_terms.specs.declared.pattern.Pattern.{Pattern, Lit}
use Rattle.rule_terms.specs.declared.pattern.CellPat.{CellPat}
use Rattle.rule_terms.specs.InRange.{is_value_in_range, is_pattern_in_range}
use Rattle.rule_terms.specs.Sound.{all_patterns, has_formed_values, has_whole_sequences, has_rest_at_end, is_item}
use Rattle.rule_terms.proofs.Defined.{both}
use Rattle.k_terms.proofs.WellFormed.{is_well_formed-Map}
use Rattle.cell_trees.specs.declared.declared.Declared.{Declared}
use Rattle.cell_trees.specs.declared.declared.Declared.TheVariants.{Program, Input, Fixed}
use Rattle.cell_trees.specs.Trees.{Tree as Declaration}
use Rattle.cell_trees.specs.Initials.{held_at}
use Rattle.cell_trees.specs.Defaults.{body_of}
use Rattle.cell_contents.specs.Soundness.{IsSoundContent, AreSoundContents}

-- a test of the values of a content
abbrev pub content_passes : (Value → Bool) → Content → Bool
content_passes test content.Cells = true
content_passes test (content.Seq values) = list_all test values
content_passes test (content.Map entries) = list_all (λ e. test e.0 && test e.1) entries
content_passes test (content.List values) = list_all test values
content_passes test (content.One v) = test v

module _ (test : Pattern → Bool) where
  literals : (values : List Value) → list_all test (map (λ v. Lit v) values) ≡ list_all (λ v. test (Lit v)) values
  literals [] = refl
  literals (v ∷ values) = ap (λ b. test (Lit v) && b) (literals values)

  entries_pass : (entries : List (Value × Value)) → list_all (λ (e : Pattern × Pattern). test e.0 && test e.1) (map (λ (e : Value × Value). (Lit e.0, Lit e.1)) entries)
      ≡ list_all (λ (e : Value × Value). test (Lit e.0) && test (Lit e.1)) entries
  entries_pass [] = refl
  entries_pass (e ∷ entries) = ap (λ b. test (Lit e.0) && test (Lit e.1) && b) (entries_pass entries)

  abbrev pub ContentsPass : Declaration → Type 0
  ContentsPass d = (n : ℕ) (c : Content) → slice_get d.held n ≡ Some (Some (Fixed c)) → content_passes (λ v. test (Lit v)) c ≡ true

  of_fixed : (c : Content) (cells : List CellPat) → content_passes (λ v. test (Lit v)) c ≡ true → all_patterns test (body_of (Some (Fixed c)) cells) ≡ true
  of_fixed content.Cells cells e = refl
  of_fixed (content.Seq values) cells e = literals values ∙ e
  of_fixed (content.Map entries) cells e = entries_pass entries ∙ e
  of_fixed (content.List values) cells e = ap (λ b. b && true) (literals values ∙ e)
  of_fixed (content.One v) cells e = e

  of_declared : (o : Option (Option Declared)) (cells : List CellPat) → ((c : Content) → o ≡ Some (Some (Fixed c)) → content_passes (λ v. test (Lit v)) c ≡ true)
      → all_patterns test (body_of (unwrap_or o None) cells) ≡ true
  of_declared None cells each = refl
  of_declared (Some None) cells each = refl
  of_declared (Some (Some (Program sort))) cells each = refl
  of_declared (Some (Some Input)) cells each = refl
  of_declared (Some (Some (Fixed c))) cells each = of_fixed c cells (each c refl)

  pub held_pass : (d : Declaration) → ContentsPass d → (n : ℕ) (cells : List CellPat) → all_patterns test (body_of (held_at d n) cells) ≡ true
  held_pass d each n cells = of_declared (slice_get d.held n) cells (λ c e. each n c e)

all_true : {X : Type 0} (xs : List X) → list_all (λ x. true) xs ≡ true
all_true [] = refl
all_true (x ∷ xs) = all_true xs

always : (c : Content) → content_passes (λ v. true) c ≡ true
always content.Cells = refl
always (content.Seq values) = all_true values
always (content.Map entries) = all_true entries
always (content.List values) = all_true values
always (content.One v) = refl

pub held_end : (o : Option Declared) (cells : List CellPat) → has_rest_at_end (body_of o cells) ≡ true
held_end None cells = refl
held_end (Some (Program sort)) cells = refl
held_end (Some Input) cells = refl
held_end (Some (Fixed content.Cells)) cells = refl
held_end (Some (Fixed (content.Seq values))) cells = refl
held_end (Some (Fixed (content.Map entries))) cells = refl
held_end (Some (Fixed (content.List []))) cells = refl
held_end (Some (Fixed (content.List (v ∷ values)))) cells = refl
held_end (Some (Fixed (content.One v))) cells = refl

module _ (order : SortOrder) (d : Declaration) (contents : AreSoundContents order d) where
  in_range : (c : Content) → IsSoundContent order c → content_passes (is_value_in_range order) c ≡ true
  in_range content.Cells s = refl
  in_range (content.Seq values) s = s.in_range
  in_range (content.Map entries) s = s.in_range
  in_range (content.List values) s = s.in_range
  in_range (content.One v) s = s.in_range

  pub range_contents : ContentsPass (is_pattern_in_range order) d
  unfolding is_pattern_in_range
  range_contents n c e = in_range c (contents n c e)

  pub sequence_contents : (vars : List ℕ) → ContentsPass (has_whole_sequences vars) d
  unfolding has_whole_sequences
  sequence_contents vars n c e = always c

  pub item_contents : (vars : List ℕ) → ContentsPass (is_item vars) d
  item_contents vars n c e = always c

  formed_entries : (entries : List (Value × Value)) → entries_are_well_formed entries ≡ list_all (λ (e : Value × Value). is_well_formed e.0 && is_well_formed e.1) entries
  formed_entries [] = refl
  formed_entries (e ∷ entries) = ap (λ b. is_well_formed e.0 && is_well_formed e.1 && b) (formed_entries entries)

  formed : (c : Content) → IsSoundContent order c → content_passes is_well_formed c ≡ true
  formed content.Cells s = refl
  formed (content.Seq values) s = s.of_kind
  formed (content.Map entries) s =
      sym (formed_entries entries) ∙ (both (is_sorted value_cmp entries) (entries_are_well_formed entries) (sym (is_well_formed-Map entries) ∙ s.of_kind)).1
  formed (content.List values) s = s.of_kind
  formed (content.One v) s = s.of_kind.0

  pub formed_contents : ContentsPass has_formed_values d
  unfolding has_formed_values
  formed_contents n c e = formed c (contents n c e)
