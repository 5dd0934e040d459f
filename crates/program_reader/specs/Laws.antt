-- The laws of programs.
use Rattle.std.specs.Prelude.{◌≡◌, ℕ, List}
use Rattle.k_terms.specs.declared.value.Value.{Value}
use Rattle.grammar_terms.specs.Grammar.{Syntax}
use Rattle.program_reader.specs.declared.refusal.ReadRefusal.{ReadRefusal}
use Rattle.program_reader.specs.Programs.{IsProgram, IsRefused, IsLike}

-- a text is a program with one value, and the names after it are determined
abbrev pub HasOneValue : Type 0
HasOneValue =
    (g : Syntax) (before : List (List ℕ)) (sort : ℕ) (text : List ℕ) (after later : List (List ℕ)) (one other : Value)
    → IsProgram g before sort text after one → IsProgram g before sort text later other → (after ≡ later) × (one ≡ other)

-- no program is refused
abbrev pub HasNotBoth : Type 0
HasNotBoth =
    (g : Syntax) (before : List (List ℕ)) (sort : ℕ) (text : List ℕ) (after later : List (List ℕ)) (value : Value) (refusal : ReadRefusal)
    → IsProgram g before sort text after value → IsRefused g before sort text later refusal → ⊥

-- all refusals of a text are alike, and the names after it are determined
abbrev pub HasOneRefusal : Type 0
HasOneRefusal =
    (g : Syntax) (before : List (List ℕ)) (sort : ℕ) (text : List ℕ) (after later : List (List ℕ)) (one other : ReadRefusal)
    → IsRefused g before sort text after one → IsRefused g before sort text later other → (after ≡ later) × IsLike one other
