-- One step of reading back a code.
use Rattle.std.specs.Prelude.{◌≡◌, List, [], ◌∷◌, ◌++◌, Option, Some, None, reverse}
use Rattle.grammar_terms.specs.declared.shape.Shape.{Shape}
use Rattle.span_table.specs.declared.codes.Parts.{Parts}
use Rattle.span_rows.specs.declared.sign.Sign.{Sign}
use Rattle.span_table.specs.Codes.{read_back}

-- what is read back of signs behind some parts
abbrev pub from_parts : List Sign → Parts → Option (List Shape)
from_parts signs parts = read_back signs parts.shapes (reverse parts.outers.items)

-- the parts with a sign more, or that it doesn't stand there
abbrev pub IsReadOn : Sign → Parts → Option Parts → Type 0
IsReadOn sign before None = (signs : List Sign) → from_parts (sign ∷ signs) before ≡ None
IsReadOn sign before (Some after) = (signs : List Sign) → from_parts (sign ∷ signs) before ≡ from_parts signs after

-- the parts of the innermost of some, with a shape
abbrev pub IsEnded : List (List Shape) → Shape → Option Parts → Type 0
IsEnded outers shape None = outers ≡ []
IsEnded outers shape (Some after) =
    (inner : List Shape) × (reverse outers ≡ inner ∷ reverse after.outers.items) × (after.shapes ≡ inner ++ shape ∷ [])
