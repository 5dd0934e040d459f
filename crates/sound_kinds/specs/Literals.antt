-- What is asked of declared single values.
use Rattle.std.specs.Prelude.{◌≡◌, ℕ, Some, IsTrue, is_some, slice_get}
use Rattle.k_terms.specs.declared.value.Value.{Value}
use Rattle.k_terms.specs.declared.value.Content.TheVariants.{One}
use Rattle.cell_contents.specs.Contents.{literal_alone}
use Rattle.cell_trees.specs.declared.declared.Declared.TheVariants.{Fixed}
use Rattle.cell_trees.specs.Trees.{Tree as Declaration}

-- each single value that a cell declares is a literal: a number, a truth value or a string
abbrev pub DeclaresLiterals : Declaration → Type 0
DeclaresLiterals d = (number : ℕ) (v : Value) → slice_get d.held number ≡ Some (Some (Fixed (One v))) → IsTrue (is_some (literal_alone v))
