-- The laws of drafts.
use Rattle.std.specs.Prelude.{◌≡◌, ℕ, List}
use Rattle.grammar_terms.specs.declared.word.Word.{Word}
use Rattle.rule_tokens.specs.declared.token.RuleToken.{RuleToken}
use Rattle.rule_terms.specs.declared.defs.CellShape.{CellShape}
use Rattle.rule_terms.specs.declared.rule.Draft.{Draft}
use Rattle.rule_parts.specs.declared.argument_sorts.Productions.{Productions}
use Rattle.rule_drafts.specs.declared.fault.DraftFault.{DraftFault}
use Rattle.rule_drafts.specs.declared.reading.RuleReading.{RuleReading}
use Rattle.rule_drafts.specs.Drafts.{IsDraft, IsDraftFault, IsTold}

-- what was read of a rule is one draft
abbrev pub HasOneDraft : Type 0
HasOneDraft =
    (k : ℕ) (g : Productions) (cells : List CellShape) (tokens : List RuleToken) (words : List Word) (rule : RuleReading) (one other : Draft)
    → IsDraft k g cells tokens words rule one → IsDraft k g cells tokens words rule other → one ≡ other

-- or it has one fault
abbrev pub HasOneFault : Type 0
HasOneFault =
    (k : ℕ) (g : Productions) (cells : List CellShape) (tokens : List RuleToken) (words : List Word) (rule : RuleReading) (one other : DraftFault)
    → IsTold one → IsTold other → IsDraftFault k g cells tokens words rule one → IsDraftFault k g cells tokens words rule other → one ≡ other

-- but never both
abbrev pub HasDraftOrFault : Type 0
HasDraftOrFault =
    (k : ℕ) (g : Productions) (cells : List CellShape) (tokens : List RuleToken) (words : List Word) (rule : RuleReading) (draft : Draft) (fault : DraftFault)
    → IsTold fault → IsDraft k g cells tokens words rule draft → IsDraftFault k g cells tokens words rule fault → ⊥
