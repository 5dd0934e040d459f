-- From what the phases gave to the draft, or to why there is none.
use Rattle.std.proofs.Common.{◌≡◌, List, ◌∙◌, subst}
use Rattle.std.specs.Prelude.{ℕ}
use Rattle.rule_tokens.specs.declared.token.RuleToken.{RuleToken}
use Rattle.rule_terms.specs.declared.defs.CellShape.{CellShape}
use Rattle.rule_terms.specs.declared.rule.Draft.{Draft}
use Rattle.rule_parts.specs.declared.argument_sorts.Productions.{Productions}
use Rattle.rule_parts.specs.declared.leaves.Leaf.{Leaf}
use Rattle.rule_parts.specs.declared.terms.Occurrence.{Occurrence}
use Rattle.rule_drafts.specs.declared.fault.DraftFault.{DraftFault}
use Rattle.rule_drafts.specs.declared.reading.RuleReading.{RuleReading}
use Rattle.rule_drafts.specs.Drafts.{draft_by, AreVariables, IsDraftBy, IsDraftFaultBy}

module _ (k : ℕ) (g : Productions) (cells : List CellShape) (tokens : List RuleToken) (rule : RuleReading) where
  -- the leaves are those of the tokens
  pub fault_moved : (leaves other : List Leaf) (fault : DraftFault) → leaves ≡ other
      → IsDraftFaultBy k g leaves cells tokens rule fault → IsDraftFaultBy k g other cells tokens rule fault
  fault_moved leaves other fault same told = subst (λ xs. IsDraftFaultBy k g xs cells tokens rule fault) same told

  pub draft_moved : (leaves other : List Leaf) (vars lent : List Occurrence) (draft : Draft) (again : List Leaf) → again ≡ leaves → leaves ≡ other
      → AreVariables k g leaves cells rule vars → lent ≡ vars → draft ≡ draft_by k g again cells tokens rule lent → IsDraftBy k g other cells tokens rule draft
  draft_moved leaves other vars lent draft again back same are is made =
      (vars, subst (λ xs. AreVariables k g xs cells rule vars) same are, made ∙ (λ i. draft_by k g ((back ∙ same) i) cells tokens rule (is i)))
