-- A content without faults has no change in another, and no operator on the left side.
use Rattle.std.proofs.Common.{◌≡◌, ℕ, ◌+◌, false, List, [], ◌∷◌, Option, Some, None, refl}
use Rattle.std.specs.Prelude.{option_map}
use Rattle.grammar_terms.specs.declared.shape.Shape.{Shape}
use Rattle.grammar_terms.specs.declared.word.Word.{Word}
use Rattle.grammar_terms.specs.Grammar.{Syntax}
use Rattle.rule_terms.specs.declared.defs.Kind.{Kind}
use Rattle.rule_contents.specs.declared.reading.Form.{Form}
use Rattle.rule_contents.specs.declared.reading.Form.TheVariants.{Sides, Made as MadeForm, Expression}
use Rattle.rule_contents.specs.Operators.{has_operator, IsOperatorPlace}
use Rattle.rule_parts.specs.declared.leaves.Leaf.{Leaf}
use Rattle.rule_parts.specs.declared.parts.Part.{Part}
use Rattle.rule_parts.specs.declared.parts.What.{What}
use Rattle.rule_parts.specs.declared.parts.What.TheVariants.{Item, Tail, Entry, Rest, Made, Inner, Whole}
use Rattle.rule_parts.specs.Sides.{as_list}
use Rattle.rule_drafts.specs.Bodies.{what_nested, nested_faults}
use Rattle.sound_sequences.proofs.RuleVariables.{front_empty, back_empty}
use Rattle.sound_patterns.proofs.Parts.{IsNotNested, NoneNested}

not_nested : (leaves : List Leaf) (first : ℕ) (what : What Shape) → what_nested leaves first what ≡ [] → IsNotNested what
not_nested leaves first (Item shape) e = tt
not_nested leaves first (Tail at) e = tt
not_nested leaves first (Entry key value) e = tt
not_nested leaves first (Rest at) e = tt
not_nested leaves first (Made shape) e = tt
not_nested leaves first (Inner at) e = cc
not_nested leaves first Whole e = absurd (let f : first ∷ [] ≡ [] = e in cc)

pub none_nested : (leaves : List Leaf) (first : ℕ) (parts : List (Part Shape)) → nested_faults leaves first parts ≡ [] → NoneNested parts
none_nested leaves first [] e = tt
none_nested leaves first (part ∷ parts) e = (
  not_nested leaves first part.what (front_empty (what_nested leaves first part.what) (nested_faults leaves first parts) e),
  none_nested leaves first parts (back_empty (what_nested leaves first part.what) (nested_faults leaves first parts) e),
)

pub no_item : (operator : Option ℕ) → as_list operator ≡ [] → operator ≡ None
no_item None e = refl
no_item (Some at) e = absurd (let f : at ∷ [] ≡ [] = e in cc)

pub no_place : (first : ℕ) (place : Option ℕ) → option_map (λ at. first + at) place ≡ None → place ≡ None
no_place first None e = refl
no_place first (Some at) e = absurd (let f : Some (first + at) ≡ None = e in cc)

-- no place, so no operator
pub no_operator_read : (g : Syntax) (kind : Kind) (form : Form) (words : List Word) (shape : Shape) (place : Option ℕ) → IsOperatorPlace g kind form words shape place → place ≡ None
    → (form ≡ Expression → ⊥) → has_operator g shape ≡ false
no_operator_read g kind Sides words shape None is e other = is
no_operator_read g kind MadeForm words shape None is e other = is
no_operator_read g kind Expression words shape None is e other = absurd (other refl)
no_operator_read g kind form words shape (Some at) is e other = absurd (let f : Some at ≡ None = e in cc)
