-- The laws of readings.
use Rattle.std.specs.Prelude.{◌≡◌, ◌≤◌, true, ℕ, ◌+◌, ◌⊎◌, List, ◌++◌, map, length, Some}
use Rattle.grammar_terms.specs.declared.shape.Shape.{Shape, Node}
use Rattle.grammar_terms.specs.declared.production.Production.{Production}
use Rattle.grammar_terms.specs.declared.word.Word.{Word}
use Rattle.grammar_terms.specs.Edges.{permitted}
use Rattle.grammar_terms.specs.Cuts.{Has, Cuts, IsJoined, joined, IsImage}
use Rattle.k_terms.specs.declared.op.Op.{Op}
use Rattle.grammar_terms.specs.Builtins.{free_group, placed, operator_form, next_sentence, next_group, declared_prods, with_builtins, operator_of}
use Rattle.grammar_terms.specs.Grammar.{Syntax, production_at}
use Rattle.grammar_terms.specs.Reading.{Parts, Child, IsReading}
use Rattle.grammar_terms.specs.Values.{AreOfProgram, value_of}

-- what is kept of what is kept tells of the set
abbrev pub CutsAgain : Type 0
CutsAgain = (all kept fewer : List Shape) → Cuts (Has all) kept → Cuts (Has kept) fewer → Cuts (Has all) fewer

-- what is kept of two sets tells of their union
abbrev pub CutsUnions : Type 0
CutsUnions = (all more kept other : List Shape) → Cuts (Has all) kept → Cuts (Has more) other → Cuts (λ shape. Has all shape ⊎ Has more shape) (kept ++ other)

-- What is kept for the first items of a production, and for the next one, tells of the lists of one shape for each: each list
-- that is kept, with each shape behind.
abbrev pub CutsItems : Type 0
CutsItems = (g : Syntax) (words : List Word) (p : ℕ) (production : Production) (count from at past sort : ℕ) (fronts : List (List Shape)) (lasts : List Shape)
    → Cuts (Parts g words p production count from at) fronts → Cuts (Child g words (Some (p, count)) sort at past) lasts
    → Cuts (IsJoined (Parts g words p production count from at) (Child g words (Some (p, count)) sort at past)) (joined fronts lasts)

-- what is kept for all items of a production tells of its shapes
abbrev pub CutsShapes : Type 0
CutsShapes = (g : Syntax) (words : List Word) (p : ℕ) (production : Production) (from past : ℕ) (kept : List (List Shape))
    → Cuts (Parts g words p production (length production.items) from past) kept
    → Cuts (IsImage (Node p) (Parts g words p production (length production.items) from past)) (map (Node p) kept)

-- two readings of a program's tokens that have one value have one shape
abbrev pub ValuesTell : Type 0
ValuesTell = (g : Syntax) (sort : ℕ) (words : List Word) (one other : Shape) → AreOfProgram words → IsReading g sort words one → IsReading g sort words other
    → value_of g.prods words sort one ≡ value_of g.prods words sort other → one ≡ other

-- the production that is an operator, by its number, is written as the operator is
abbrev pub OperatorsStand : Type 0
OperatorsStand = (g : Syntax) → g.declared ≤ length g.prods → (p : ℕ) (op : Op) → operator_of (with_builtins g) p ≡ Some op
    → production_at (with_builtins g).prods p ≡ Some (placed (next_sentence (declared_prods g)) (next_group (declared_prods g)) (operator_form op))

-- a builtin production of no group may stand at each place of each production, and each production at each of its places
abbrev pub FreeStand : Type 0
FreeStand = (g : Syntax) (free other place : ℕ) (production : Production) → production_at (with_builtins g).prods free ≡ Some production
    → production.group ≡ next_group (declared_prods g) + free_group
    → (permitted (with_builtins g).prods other place free ≡ true) × (permitted (with_builtins g).prods free place other ≡ true)
