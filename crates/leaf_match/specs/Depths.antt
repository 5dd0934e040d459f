-- The values that are too deep for a constructor.
use Rattle.std.specs.Prelude.{◌≡◌, ◌≤◌, Bool, true, false}
use Rattle.k_terms.specs.declared.value.Value.{Value}
use Rattle.k_terms.specs.Value.{depth_of}
use Rattle.k_terms.specs.Operators.{depth_limit}
use Rattle.rule_terms.specs.declared.pattern.Pattern.{Pattern, Node', Items', Seq', Freezer'}

-- a pattern whose value is built of parts
abbrev pub is_constructor : Pattern → Bool
is_constructor (Node' _ _ _) = true
is_constructor (Items' _ _ _ _) = true
is_constructor (Seq' _ _ _) = true
is_constructor (Freezer' _ _ _ _) = true
is_constructor _ = false

-- a constructor's value is not too deep; that of another pattern may have any depth
abbrev pub IsWithinDepth : Pattern → Value → Type 0
IsWithinDepth pattern v = is_constructor pattern ≡ true → depth_of v ≤ depth_limit
