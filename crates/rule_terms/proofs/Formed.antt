-- What patterns and bodies build of well-formed values is well formed.
use Rattle.std.proofs.Common.{◌≡◌, ℕ, Bool, true, List, [], ◌∷◌, refl, sym, ap, ◌∙◌}
use Rattle.std.specs.Prelude.{Option, Some, None}
use Rattle.std.specs.Option.{option_map}
use Rattle.std.specs.FinMap.{find, put}
use mathlib.Core.Former.{Count}
use Rattle.k_terms.specs.declared.op.Op.{Op}
use Rattle.k_terms.specs.declared.op.Op.TheVariants.{SetKey, GetKey}
use Rattle.k_terms.specs.declared.value.Value.{Value, Node, Items, Seq, Freezer}
use Rattle.k_terms.specs.Value.{value_cmp, is_well_formed}
use Rattle.k_terms.specs.Parts.{are_well_formed}
use Rattle.k_terms.specs.Operators.{table, bounded, as_entries, as_item}
use Rattle.k_terms.proofs.WellFormed.{is_well_formed-Node, is_well_formed-Items, is_well_formed-Seq, is_well_formed-Map, is_well_formed-Freezer}
use Rattle.rule_terms.specs.declared.pattern.Pattern.{Pattern, Var, Lit, Node' as NodeP', Items' as ItemsP', Seq' as SeqP', Freezer' as FreezerP', Apply', Row_of-Pattern, end_of-Pattern, more_of-Pattern}
use Rattle.rule_terms.specs.Options.{joined}
use Rattle.rule_terms.specs.Substitution.{Subst, value_at, rest_of, as_sequence, as_items_of}
use Rattle.rule_terms.specs.Eval.{eval, eval_row}
use Rattle.rule_terms.specs.Sound.{has_formed_values, row_has_formed_values}
use Rattle.rule_terms.specs.Kinds.{AllFormed}
use Rattle.rule_terms.proofs.Defined.{both, joins, same_some, let_through, and_then_gives, joined_gives, map_gives}
use Rattle.rule_terms.proofs.Table.{plain_given, set_gives, binary_gives}
use Rattle.rule_terms.proofs.Layers.{sequence_formed, items_formed, entries_formed, item_is, joined_formed, found_formed, put_formed}

-- ---- operators

abbrev IsFormed : Value → Type 0
IsFormed v = is_well_formed v ≡ true

set_formed : (args : List Value) (v : Value) → are_well_formed args ≡ true → table SetKey args ≡ Some v → IsFormed v
set_formed args v h e = set_gives IsFormed args v (λ a b c entries key value is at_first at_second at_third.
    let all : are_well_formed (a ∷ b ∷ c ∷ []) ≡ true = ap are_well_formed (sym is) ∙ h in
    let others = both _ _ all in
    let last = both _ _ others.1 in
    is_well_formed-Map (put value_cmp key value entries) ∙ put_formed key value entries
    (ap is_well_formed (sym (item_is b key at_second)) ∙ last.0)
    (ap is_well_formed (sym (item_is c value at_third)) ∙ (both _ _ last.1).0)
    (sym (entries_formed a entries at_first) ∙ others.0)) e

get_formed : (args : List Value) (v : Value) → are_well_formed args ≡ true → table GetKey args ≡ Some v → IsFormed v
get_formed args v h e = binary_gives as_entries as_item (λ entries key. find value_cmp key entries) IsFormed args v (λ a b entries key is at_first at_second found.
    let all : are_well_formed (a ∷ b ∷ []) ≡ true = ap are_well_formed (sym is) ∙ h in
    found_formed key entries v (both _ _ (sym (entries_formed a entries at_first) ∙ (both _ _ all).0)).1 found) e

pub table_formed : (op : Op) (args : List Value) (v : Value) → are_well_formed args ≡ true → table op args ≡ Some v → is_well_formed v ≡ true
table_formed SetKey args v h e = set_formed args v h e
table_formed GetKey args v h e = get_formed args v h e
table_formed op args v h e = (plain_given op args v e).formed

-- ---- the parts of a rest

pub rest_passes : {A : Type 0} (kind : Value → Option (List A)) (test : List A → Bool) → test [] ≡ true → ((v : Value) (vs : List A) → kind v ≡ Some vs → is_well_formed v ≡ test vs) → (rest : Option ℕ) (s : Subst) (vs : List A) → AllFormed s → rest_of kind rest s ≡ Some vs → test vs ≡ true
rest_passes kind test none is None s vs h e = ap test (sym (same_some [] vs e)) ∙ none
rest_passes kind test none is (Some x) s vs h e =
    let g = and_then_gives kind (value_at s x) vs e in
    sym (is g.0 vs g.2) ∙ h x g.0 g.1

pub rest_formed : (kind : Value → Option (List Value)) → ((v : Value) (vs : List Value) → kind v ≡ Some vs → is_well_formed v ≡ are_well_formed vs) → (rest : Option ℕ) (s : Subst) (vs : List Value) → AllFormed s → rest_of kind rest s ≡ Some vs → are_well_formed vs ≡ true
rest_formed kind is = rest_passes kind are_well_formed refl is

-- the parts and those of the rest
pub with_rest_formed : (parts rest : Option (List Value)) (vs : List Value) → ((ws : List Value) → parts ≡ Some ws → are_well_formed ws ≡ true) → ((ws : List Value) → rest ≡ Some ws → are_well_formed ws ≡ true) → joined parts rest ≡ Some vs → are_well_formed vs ≡ true
with_rest_formed parts rest vs first second e =
    let g = joined_gives parts rest vs e in
    ap are_well_formed (sym g.4) ∙ joined_formed g.0 g.1 (first g.0 g.2) (second g.1 g.3)

-- ---- patterns

built_formed : (w v : Value) (parts : List Value) → is_well_formed w ≡ are_well_formed parts → are_well_formed parts ≡ true → bounded w ≡ Some v → is_well_formed v ≡ true
built_formed w v parts is h e = ap is_well_formed (sym (let_through _ _ _ e)) ∙ is ∙ h

mutual
  unfolding eval eval_row has_formed_values row_has_formed_values

  pub eval_formed : (p : Pattern) (s : Subst) (v : Value) → AllFormed s → has_formed_values p ≡ true → eval p s ≡ Some v → is_well_formed v ≡ true
  eval_formed (Var x) s v all h e = all x v e
  eval_formed (Lit w) s v all h e = ap is_well_formed (sym (same_some w v e)) ∙ h
  eval_formed (NodeP' p n parts) s v all h e =
      let g = and_then_gives (λ vs. bounded (Node p vs)) (eval_row parts s) v e in
      built_formed (Node p g.0) v g.0 (is_well_formed-Node p g.0) (row_formed parts s g.0 all h g.1) g.2
  eval_formed (ItemsP' p n parts rest) s v all h e =
      let g = and_then_gives (λ vs. bounded (Items p vs)) (joined (eval_row parts s) (rest_of (as_items_of p) rest s)) v e in
      built_formed (Items p g.0) v g.0 (is_well_formed-Items p g.0)
      (with_rest_formed (eval_row parts s) (rest_of (as_items_of p) rest s) g.0 (λ ws f. row_formed parts s ws all h f) (λ ws f. rest_formed (as_items_of p) (λ w us i. items_formed w us p i) rest s ws all f) g.1)
      g.2
  eval_formed (SeqP' n parts rest) s v all h e =
      let g = and_then_gives (λ vs. bounded (Seq vs)) (joined (eval_row parts s) (rest_of as_sequence rest s)) v e in
      built_formed (Seq g.0) v g.0 (is_well_formed-Seq g.0)
      (with_rest_formed (eval_row parts s) (rest_of as_sequence rest s) g.0 (λ ws f. row_formed parts s ws all h f) (λ ws f. rest_formed as_sequence sequence_formed rest s ws all f) g.1)
      g.2
  eval_formed (FreezerP' p i n parts) s v all h e =
      let g = and_then_gives (λ vs. bounded (Freezer p i vs)) (eval_row parts s) v e in
      built_formed (Freezer p i g.0) v g.0 (is_well_formed-Freezer p i g.0) (row_formed parts s g.0 all h g.1) g.2
  eval_formed (Apply' op n arguments) s v all h e =
      let g = and_then_gives (table op) (eval_row arguments s) v e in
      table_formed op g.0 v (row_formed arguments s g.0 all h g.1) g.2

  pub row_formed : {n : Count} (parts : Row_of-Pattern n) (s : Subst) (vs : List Value) → AllFormed s → row_has_formed_values parts ≡ true → eval_row parts s ≡ Some vs → are_well_formed vs ≡ true
  row_formed end_of-Pattern s vs all h e = ap are_well_formed (sym (same_some [] vs e))
  row_formed (more_of-Pattern part parts) s vs all h e =
      let g = and_then_gives (λ v. option_map (λ us. v ∷ us) (eval_row parts s)) (eval part s) vs e in
      let k = map_gives (λ us. g.0 ∷ us) (eval_row parts s) vs g.2 in
      ap are_well_formed (sym k.2) ∙ joins _ _ (eval_formed part s g.0 all (both _ _ h).0 g.1) (row_formed parts s k.0 all (both _ _ h).1 k.1)
