-- What `rules` answers: the lines of a definition's rules, or why there are none.
use Rattle.std.specs.Prelude.{◌≡◌, ℕ, List, codes}
use Rattle.rule_listing.specs.Lines.{lines_from}
use Rattle.context_transform.specs.Assembling.{Assembly, IsAssembly, IsDefFault, IsOnlyAssembly}
use Rattle.krun.specs.declared.outcome.Outcome.{Outcome}
use Rattle.krun.specs.declared.outcome.Outcome.TheVariants.{Shown, Definition}
use Rattle.krun.specs.Causes.{AskFor}

-- the words ask for `rules`, and so for the rules of a definition
abbrev pub IsRules : List (List ℕ) → Type 0
IsRules words = AskFor words (codes "rules") 1

-- the lines of the rules of a definition
abbrev pub lines_of : Assembly → List ℕ
lines_of assembly = lines_from assembly.grammar assembly.tree.shapes 1 assembly.language.rules

-- the bytes define this alone, whose rules have these lines
pub record ListsOnly (bytes lines : List ℕ) : Type 0 where
  pub assembly : Assembly
  pub defined : IsOnlyAssembly bytes assembly
  pub are : lines ≡ lines_of assembly

-- what must be answered for a definition
abbrev pub MustList : List ℕ → Outcome → Type 0
MustList bytes Shown = (assembly : Assembly) × IsAssembly bytes assembly
MustList bytes (Definition fault) = IsDefFault bytes fault
MustList bytes _ = ⊥
