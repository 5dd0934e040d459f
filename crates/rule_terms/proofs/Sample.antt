-- The definition that the tests make, which is sound whatever its subsort steps, names and labels are.
use Rattle.std.proofs.Common.{◌≡◌, ℕ, true, false, List, [], ◌∷◌, refl, sym, subst}
use Rattle.std.specs.Prelude.{Some, None}
use Rattle.rule_terms.specs.declared.defs.Kind.TheVariants.{Seq as SeqKind}
use Rattle.rule_terms.specs.declared.pattern.Pattern.{Pattern, Var, Node}
use Rattle.rule_terms.specs.declared.pattern.Body.{Seq}
use Rattle.rule_terms.specs.declared.pattern.CellPat.{CellPat}
use Rattle.rule_terms.specs.declared.rule.Origin.TheVariants.{Written}
use Rattle.rule_terms.specs.declared.rule.Rule.{Rule}
use Rattle.rule_terms.specs.Language.{Language}
use Rattle.rule_terms.specs.Sound.{IsSound}
use Rattle.rule_terms.specs.Open.{open_rules}
use Rattle.rule_terms.proofs.Known.{has_known, row_has_known}
use Rattle.rule_terms.proofs.Sounding.{is_sound, sound_definition}
use Rattle.rule_terms.proofs.ExamplesSound.{is_same_sort, same_sort}

abbrev side : Pattern → CellPat
side part = record { cell = 0; mark = 0; body = Seq (part ∷ []) (Some 1) }

-- the rule that takes a production of one argument away
abbrev pub sample_rule : ℕ → Rule
sample_rule at = record { origin = Written at; vars = 10 ∷ 0 ∷ []; left = side (Node 1 (Var 0 ∷ [])); right = side (Var 0); when = [] }

abbrev pub sample : List (ℕ × ℕ) → List ℕ → ℕ → List ℕ → Language
sample steps name at label = record {
  sorts = record { steps = steps; productions = 10 ∷ [] };
  cells = record { name = name; parent = None; many = false; kind = SeqKind } ∷ [];
  rules = sample_rule at ∷ [];
  labels = label ∷ [];
}

passes : (steps : List (ℕ × ℕ)) (name : List ℕ) (at : ℕ) (label : List ℕ) → is_sound is_same_sort (sample steps name at label) ≡ true
unfolding open_rules has_known row_has_known
passes steps name at label = refl

pub sample_is_sound : (steps : List (ℕ × ℕ)) (name : List ℕ) (at : ℕ) (label : List ℕ) (made : Language) → made ≡ sample steps name at label → IsSound made
sample_is_sound steps name at label made is =
    let d = sample steps name at label in
    subst IsSound (sym is) (sound_definition is_same_sort d (same_sort d.sorts) (passes steps name at label))
