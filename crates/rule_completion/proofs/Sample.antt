-- The draft of the tests may be completed.
use Rattle.std.proofs.Common.{◌≡◌, ◌<◌, false, refl, sym, subst, arith}
use Rattle.std.specs.Prelude.{Contains}
use Rattle.std.proofs.lemmas.List.Elements.{All-contains, All-from_recursion}
use Rattle.rule_terms.specs.Open.{open_rules}
use Rattle.rule_terms.specs.declared.rule.Draft.{Draft}
use Rattle.cell_completion.specs.declared.tree.Written.{Written}
use Rattle.cell_completion.specs.Listed.{AreWritten}
use Rattle.cell_completion.specs.Sample.{written_two}
use Rattle.cell_completion.proofs.Sample.{two_are_written}
use Rattle.cell_trees.specs.Trees.{Tree}
use Rattle.cell_trees.proofs.Sample.{sample}
use Rattle.rule_completion.specs.Writing.{written}
use Rattle.rule_completion.specs.Numbering.{mark_limit}
use Rattle.rule_completion.specs.Rules.{IsWrittenDraft}
use Rattle.rule_completion.specs.Sample.{sample_draft}

cells_are : written sample_draft ≡ written_two 2 1 false
unfolding open_rules
cells_are = refl

abbrev IsFew : Written → Type 0
IsFew w = w.mark < mark_limit

sample_is_written : IsWrittenDraft sample sample_draft
sample_is_written = record {
  cells = subst (λ ws. AreWritten sample.shapes ws) (sym cells_are) (two_are_written sample.shapes 2 1 false (omega arith) (omega arith));
  few_marks = λ w within. All-contains IsFew (written_two 2 1 false) w (All-from_recursion IsFew (written_two 2 1 false) (omega arith, (omega arith, tt)))
      (subst (λ ws. Contains ws w) cells_are within);
}

pub sample_may_be_completed : (tree : Tree) (draft : Draft) → tree ≡ sample → draft ≡ sample_draft → IsWrittenDraft tree draft
sample_may_be_completed tree draft same alike = subst (IsWrittenDraft tree) (sym alike) (subst (λ t. IsWrittenDraft t sample_draft) (sym same) sample_is_written)
