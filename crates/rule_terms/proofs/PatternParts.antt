-- A variable that stands in a pattern without operators stands for a part of the pattern's value, which is well formed where the
-- value is.
use Rattle.std.proofs.Common.{◌≡◌, inl, inr, ℕ, Bool, true, ◌&&◌, ◌||◌, List, [], ◌∷◌, ◌++◌, sym, ap, ◌∙◌}
use Rattle.std.proofs.lemmas.Bool.{eqb-true}
use Rattle.std.specs.Prelude.{Option, Some, None}
use Rattle.std.specs.Option.{option_map}
use Rattle.std.specs.List.{list_all, list_any}
use mathlib.Core.Former.{Count}
use Rattle.k_terms.specs.declared.value.Value.{Value, Node, Items, Seq, Freezer}
use Rattle.k_terms.specs.Value.{is_well_formed}
use Rattle.k_terms.specs.Parts.{are_well_formed, entries_are_well_formed}
use Rattle.k_terms.specs.Operators.{bounded}
use Rattle.k_terms.proofs.WellFormed.{is_well_formed-Node, is_well_formed-Items, is_well_formed-Seq, is_well_formed-Freezer}
use Rattle.rule_terms.specs.declared.pattern.Pattern.{Pattern, Var, Lit, Node' as NodeP', Items' as ItemsP', Seq' as SeqP', Freezer' as FreezerP', Apply', Row_of-Pattern, end_of-Pattern, more_of-Pattern}
use Rattle.rule_terms.specs.Options.{joined}
use Rattle.rule_terms.specs.Substitution.{Subst, value_at, rest_of, as_sequence, as_items_of}
use Rattle.rule_terms.specs.Eval.{eval, eval_row, eval_all, eval_entry, eval_entries}
use Rattle.rule_terms.specs.Patterns.{mentions, row_mentions, is_rest}
use Rattle.rule_terms.specs.Sound.{has_no_operator, row_has_no_operator}
use Rattle.rule_terms.proofs.Defined.{both, one_of, same_some, let_through, and_then_gives, joined_gives, map_gives}
use Rattle.rule_terms.proofs.Layers.{Entries, sequence_formed, items_formed, front_formed, back_formed}
use Rattle.rule_terms.proofs.Contents.{entry_gives}

module _ (s : Subst) (x : ℕ) (v : Value) (at : value_at s x ≡ Some v) where
  -- the variable of a rest, where the rest passes a test
  pub rest_part : {A : Type 0} (kind : Value → Option (List A)) (test : List A → Bool) → ((w : Value) (vs : List A) → kind w ≡ Some vs → is_well_formed w ≡ test vs) → (rest : Option ℕ) (vs : List A) → is_rest x rest ≡ true → rest_of kind rest s ≡ Some vs → test vs ≡ true → is_well_formed v ≡ true
  rest_part kind test is None vs m e h = cc
  rest_part kind test is (Some y) vs m e h =
      let g = and_then_gives kind (value_at s y) vs e in
      ap is_well_formed (same_some v g.0 (sym at ∙ ap (value_at s) (eqb-true x y m) ∙ g.1)) ∙ is g.0 vs g.2 ∙ h

  -- the variable stands in the parts or is the rest
  pub joined_part : (parts rest : Option (List Value)) (a b : Bool) (vs : List Value) → ((ws : List Value) → a ≡ true → parts ≡ Some ws → are_well_formed ws ≡ true → is_well_formed v ≡ true) → ((ws : List Value) → b ≡ true → rest ≡ Some ws → are_well_formed ws ≡ true → is_well_formed v ≡ true) → (a || b) ≡ true → joined parts rest ≡ Some vs → are_well_formed vs ≡ true → is_well_formed v ≡ true
  joined_part parts rest a b vs first second m e h =
      let g = joined_gives parts rest vs e in
      let whole : are_well_formed (g.0 ++ g.1) ≡ true = ap are_well_formed g.4 ∙ h in
      elim (one_of a b m) [
        | inl here ↦ first g.0 here g.2 (front_formed g.0 g.1 whole)
        | inr there ↦ second g.1 there g.3 (back_formed g.0 g.1 whole)
      ]

  -- the parts of a value that is built
  built_parts : (w u : Value) (parts : List Value) → is_well_formed u ≡ are_well_formed parts → bounded u ≡ Some w → is_well_formed w ≡ true → are_well_formed parts ≡ true
  built_parts w u parts is e h = sym is ∙ ap is_well_formed (let_through _ u w e) ∙ h

  mutual
    unfolding eval eval_row has_no_operator row_has_no_operator mentions row_mentions

    pub pattern_part : (p : Pattern) (w : Value) → has_no_operator p ≡ true → mentions x p ≡ true → eval p s ≡ Some w → is_well_formed w ≡ true → is_well_formed v ≡ true
    pattern_part (Var y) w o m e h = ap is_well_formed (same_some v w (sym at ∙ ap (value_at s) (eqb-true x y m) ∙ e)) ∙ h
    pattern_part (Lit u) w o m e h = cc
    pattern_part (NodeP' p n parts) w o m e h =
        let g = and_then_gives (λ vs. bounded (Node p vs)) (eval_row parts s) w e in
        row_part parts g.0 o m g.1 (built_parts w (Node p g.0) g.0 (is_well_formed-Node p g.0) g.2 h)
    pattern_part (ItemsP' p n parts rest) w o m e h =
        let g = and_then_gives (λ vs. bounded (Items p vs)) (joined (eval_row parts s) (rest_of (as_items_of p) rest s)) w e in
        joined_part (eval_row parts s) (rest_of (as_items_of p) rest s) (row_mentions x parts) (is_rest x rest) g.0
        (λ ws n f k. row_part parts ws o n f k)
        (λ ws n f k. rest_part (as_items_of p) are_well_formed (λ u us i. items_formed u us p i) rest ws n f k)
        m g.1 (built_parts w (Items p g.0) g.0 (is_well_formed-Items p g.0) g.2 h)
    pattern_part (SeqP' n parts rest) w o m e h =
        let g = and_then_gives (λ vs. bounded (Seq vs)) (joined (eval_row parts s) (rest_of as_sequence rest s)) w e in
        joined_part (eval_row parts s) (rest_of as_sequence rest s) (row_mentions x parts) (is_rest x rest) g.0
        (λ ws n f k. row_part parts ws o n f k)
        (λ ws n f k. rest_part as_sequence are_well_formed sequence_formed rest ws n f k)
        m g.1 (built_parts w (Seq g.0) g.0 (is_well_formed-Seq g.0) g.2 h)
    pattern_part (FreezerP' p i n parts) w o m e h =
        let g = and_then_gives (λ vs. bounded (Freezer p i vs)) (eval_row parts s) w e in
        row_part parts g.0 o m g.1 (built_parts w (Freezer p i g.0) g.0 (is_well_formed-Freezer p i g.0) g.2 h)
    pattern_part (Apply' op n arguments) w o m e h = cc

    pub row_part : {n : Count} (parts : Row_of-Pattern n) (ws : List Value) → row_has_no_operator parts ≡ true → row_mentions x parts ≡ true → eval_row parts s ≡ Some ws → are_well_formed ws ≡ true → is_well_formed v ≡ true
    row_part end_of-Pattern ws o m e h = cc
    row_part (more_of-Pattern part parts) ws o m e h =
        let g = and_then_gives (λ u. option_map (λ us. u ∷ us) (eval_row parts s)) (eval part s) ws e in
        let k = map_gives (λ us. g.0 ∷ us) (eval_row parts s) ws g.2 in
        let formed = both _ _ (ap are_well_formed k.2 ∙ h) in
        elim (one_of (mentions x part) (row_mentions x parts) m) [
          | inl here ↦ pattern_part part g.0 (both _ _ o).0 here g.1 formed.0
          | inr there ↦ row_part parts k.0 (both _ _ o).1 there k.1 formed.1
        ]

  -- ---- lists of patterns and entries

  pub patterns_part : (ps : List Pattern) (ws : List Value) → list_all has_no_operator ps ≡ true → list_any (mentions x) ps ≡ true → eval_all ps s ≡ Some ws → are_well_formed ws ≡ true → is_well_formed v ≡ true
  patterns_part [] ws o m e h = cc
  patterns_part (p ∷ ps) ws o m e h =
      let g = and_then_gives (λ u. option_map (λ us. u ∷ us) (eval_all ps s)) (eval p s) ws e in
      let k = map_gives (λ us. g.0 ∷ us) (eval_all ps s) ws g.2 in
      let formed = both _ _ (ap are_well_formed k.2 ∙ h) in
      elim (one_of (mentions x p) (list_any (mentions x) ps) m) [
        | inl here ↦ pattern_part p g.0 (both _ _ o).0 here g.1 formed.0
        | inr there ↦ patterns_part ps k.0 (both _ _ o).1 there k.1 formed.1
      ]

  entry_part : (e : Pattern × Pattern) (entry : Value × Value) → (has_no_operator e.0 && has_no_operator e.1) ≡ true → (mentions x e.0 || mentions x e.1) ≡ true → eval_entry e s ≡ Some entry → (is_well_formed entry.0 && is_well_formed entry.1) ≡ true → is_well_formed v ≡ true
  entry_part e entry o m is h =
      let parts = entry_gives e s entry is in
      elim (one_of (mentions x e.0) (mentions x e.1) m) [
        | inl here ↦ pattern_part e.0 entry.0 (both _ _ o).0 here parts.0 (both _ _ h).0
        | inr there ↦ pattern_part e.1 entry.1 (both _ _ o).1 there parts.1 (both _ _ h).1
      ]

  pub entries_part : (es : List (Pattern × Pattern)) (entries : Entries) → list_all (λ e. has_no_operator e.0 && has_no_operator e.1) es ≡ true → list_any (λ e. mentions x e.0 || mentions x e.1) es ≡ true → eval_entries es s ≡ Some entries → entries_are_well_formed entries ≡ true → is_well_formed v ≡ true
  entries_part [] entries o m is h = cc
  entries_part (e ∷ es) entries o m is h =
      let g = and_then_gives (λ entry. option_map (λ more. entry ∷ more) (eval_entries es s)) (eval_entry e s) entries is in
      let k = map_gives (λ more. g.0 ∷ more) (eval_entries es s) entries g.2 in
      let formed = both _ _ (ap entries_are_well_formed k.2 ∙ h) in
      elim (one_of (mentions x e.0 || mentions x e.1) (list_any (λ e. mentions x e.0 || mentions x e.1) es) m) [
        | inl here ↦ entry_part e g.0 (both _ _ o).0 here g.1 formed.0
        | inr there ↦ entries_part es k.0 (both _ _ o).1 there k.1 formed.1
      ]
