-- The draft that the tests complete.
use Rattle.std.specs.Prelude.{[], ◌∷◌, None}
use Rattle.rule_terms.specs.declared.pattern.Body.{Cells, Seq}
use Rattle.rule_terms.specs.declared.rule.Origin.TheVariants.{Written}
use Rattle.rule_terms.specs.declared.rule.Draft.{Draft}
use Rattle.rule_completion.specs.Completed.{cell_with}

-- a cell 2 that stays, and a cell 1 that is new
abbrev pub sample_draft : Draft
sample_draft = record {
  origin = Written 0;
  vars = [];
  left = cell_with 2 0 (Seq [] None) ∷ [];
  right = cell_with 2 0 (Seq [] None) ∷ cell_with 1 1 (Cells [] None) ∷ [];
  when = [];
}
