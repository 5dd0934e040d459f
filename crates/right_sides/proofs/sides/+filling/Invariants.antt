use Rattle.std.proofs.Common.{◌≡◌, ℕ, drop}
use Rattle.std.specs.Prelude.{Some}
use Rattle.std.specs.List.{flat_map}
use Rattle.rule_terms.specs.Options.{joined}
use Rattle.rule_terms.specs.CellCounts.{spots_under}
use Rattle.rule_terms.specs.Substitution.{Subst}
use Rattle.right_sides.specs.Bound.{IsSeenBy}
use Rattle.right_sides.specs.Contents.{contents_of}
use Rattle.right_sides.proofs.sides.+filling.Given as goal

-- the contents so far, and those of the cells that are left
abbrev pub invariant-contents_among-loop-cell : goal.invariant-contents_among-loop-cell
invariant-contents_among-loop-cell l =
    (above : ℕ) (s : Subst) → IsSeenBy l.bindings s
    → contents_of (flat_map (spots_under above) l.cells) s ≡ joined (Some l.contents.items) (contents_of (flat_map (spots_under above) (drop l.cell-index l.cells)) s)
