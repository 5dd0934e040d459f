-- Entries that are put into a map where their keys are new.
use Rattle.std.specs.Prelude.{List, Option, Some, None, is_some, cond}
use Rattle.std.specs.FinMap.{find, put}
use Rattle.k_terms.specs.declared.value.Value.{Value}
use Rattle.k_terms.specs.Value.{value_cmp}

-- an entry put into a map that has no such key
abbrev pub put_one : Value × Value → List (Value × Value) → Option (List (Value × Value))
put_one e entries = cond (is_some (find value_cmp e.0 entries)) None (Some (put value_cmp e.0 e.1 entries))
