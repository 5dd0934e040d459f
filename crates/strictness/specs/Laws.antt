-- The laws of heating and cooling.
use Rattle.std.specs.Prelude.{◌≡◌, ℕ, List, [], ◌∷◌, Contains, Some, None, slice_get}
use Rattle.grammar_terms.specs.declared.production.Production.{Production}
use Rattle.grammar_terms.specs.Grammar.{Syntax, order_of}
use Rattle.rule_terms.specs.declared.pattern.CellPat.{CellPat}
use Rattle.rule_terms.specs.declared.rule.Draft.{Draft}
use Rattle.rule_terms.specs.declared.rule.Rule.{Rule}
use Rattle.rule_terms.specs.declared.defs.CellShape.{CellShape}
use Rattle.rule_terms.specs.declared.defs.Kind.TheVariants.{Seq}
use Rattle.rule_terms.specs.Language.{Language}
use Rattle.rule_terms.specs.Sound.{IsSoundRule}
use Rattle.strictness.specs.declared.fault.StrictFault.{StrictFault}
use Rattle.strictness.specs.Places.{declared_in, HaveNoBadPlace}
use Rattle.strictness.specs.Drafts.{strict_drafts}
use Rattle.strictness.specs.Heating.{IsFault}
use Rattle.strictness.specs.SoundDrafts.{IsSoundDraft}

-- productions have at most one fault
abbrev pub HaveOneFault : Type 0
HaveOneFault =
    (prods : List Production) (one other : StrictFault) → IsFault prods one → IsFault prods other → one ≡ other

-- and none where no place is bad
abbrev pub HaveNotBoth : Type 0
HaveNotBoth = (prods : List Production) (fault : StrictFault) → HaveNoBadPlace prods → IsFault prods fault → ⊥

-- the rule that a draft is whose sides are one cell each
abbrev pub rule_of : Draft → CellPat → CellPat → Rule
rule_of draft left right =
    record { origin = draft.origin; vars = draft.vars; left = left; right = right; when = draft.when }

-- a declared cell is the root, and contains a sequence
pub record IsRoot (d : Language) (k : ℕ) : Type 0 where
  pub shape : CellShape
  pub declared : slice_get d.cells k ≡ Some shape
  pub alone : shape.parent ≡ None
  pub kind : shape.kind ≡ Seq

-- where the cell k is the root, the rules of heating and cooling are sound as they stand in a definition of the grammar
abbrev pub AreSound : Type 0
AreSound =
    (d : Language) (g : Syntax) (k : ℕ) (draft : Draft) (left right : CellPat)
    → IsRoot d k → d.sorts ≡ order_of g
    → HaveNoBadPlace (declared_in g) → Contains (strict_drafts g k) draft
    → draft.left ≡ left ∷ [] → draft.right ≡ right ∷ [] → IsSoundRule d (rule_of draft left right)

-- and they are fit to be completed to sound rules elsewhere
abbrev pub AreSoundDrafts : Type 0
AreSoundDrafts =
    (g : Syntax) (k : ℕ) (draft : Draft)
    → HaveNoBadPlace (declared_in g) → Contains (strict_drafts g k) draft
    → IsSoundDraft (order_of g) draft
