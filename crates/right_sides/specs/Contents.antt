-- The contents of the cells of a right side.
use Rattle.std.specs.Prelude.{List, Option, map}
use Rattle.k_terms.specs.declared.value.Content.{Content}
use Rattle.rule_terms.specs.Options.{each_some}
use Rattle.rule_terms.specs.Substitution.{Subst}
use Rattle.rule_terms.specs.Fill.{content_of}
use Rattle.rule_terms.specs.Spots.{Spot}

-- the contents of cells, where each is defined
abbrev pub contents_of : List Spot → Subst → Option (List Content)
contents_of cells s = each_some (map (λ (p : Spot). content_of p.body s) cells)
