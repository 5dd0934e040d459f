-- The law of the printed form.
use Rattle.std.specs.Prelude.{◌≡◌, ℕ, List}
use Rattle.rule_terms.specs.declared.plain.Plain.{Plain}
use Rattle.rule_terms.specs.Rewriting.{Alike}
use Rattle.printed_form.specs.Words.{Words}
use Rattle.printed_form.specs.Configurations.{configuration_text}

-- the printed form does not depend on the order in which children stand
abbrev pub OrderOfChildrenIsFree : Type 0
OrderOfChildrenIsFree = (words : Words) (names : List (List ℕ)) (t u : Plain) → Alike t u → configuration_text words names t ≡ configuration_text words names u
