-- What the faults of the phases are told as.
use Rattle.std.specs.Prelude.{ℕ, Bool, true, false, nat_lt, cond, List, [], length, codes, Option, Some, None, slice_get, unwrap_or}
use Rattle.k_terms.specs.declared.value.Symbol.{Symbol}
use Rattle.grammar_terms.specs.Grammar.{Syntax}
use Rattle.sorted_grammar.specs.declared.fault.What.TheVariants.{RuleTokens}
use Rattle.rule_tokens.specs.declared.token.RuleToken.{RuleToken}
use Rattle.rule_tokens.specs.declared.split.RuleSplit.{RuleSplit}
use Rattle.rule_tokens.specs.declared.sorts.VariableFault.{VariableFault}
use Rattle.rule_tokens.specs.declared.sorts.VariableFault.TheVariants.{Unsorted as NoSort, SortClash as TwoSorts, Memory as NoVariableMemory}
use Rattle.rule_cells.specs.declared.form.FormFault.{FormFault}
use Rattle.rule_cells.specs.declared.form.FormFault.TheVariants.{NoReading as NoForm, Memory as NoFormMemory}
use Rattle.rule_contents.specs.declared.reading.ContentFault.{ContentFault}
use Rattle.rule_contents.specs.declared.reading.ContentFault.TheVariants.{NoReading as NoContent, Ambiguous, Memory as NoContentMemory}
use Rattle.rule_drafts.specs.declared.fault.DraftFault.{DraftFault}
use Rattle.rule_drafts.specs.declared.fault.DraftFault.TheVariants.{PatternForm as BadForm, NotBoundLeft as Unbound, Memory as NoDraftMemory}
use Rattle.rule_drafts.specs.declared.fault.Unbound.{Unbound as UnboundVariable}
use Rattle.rule_drafts.specs.declared.fault.Unbound.TheVariants.{Named, Wild, Dots}
use Rattle.rule_reader.specs.declared.refusal.RuleFault.{RuleFault}
use Rattle.rule_reader.specs.declared.refusal.RuleFault.TheVariants.{TooMany, BadToken, WideNumber, Unsorted, SortClash, NoReading, AmbiguousAt, PatternForm, NotBoundLeft, Memory}
use Rattle.rule_reader.specs.Places.{place_of}

-- the most tokens that a rule may have
abbrev pub token_limit : ℕ
token_limit = 512

-- the word of a symbol, and the name of a sort
abbrev pub word_of : List (List ℕ) → Symbol → List ℕ
word_of names symbol = unwrap_or (slice_get names symbol.0) []

abbrev pub sort_text : Syntax → ℕ → List ℕ
sort_text g sort = unwrap_or (slice_get g.names sort) []

abbrev pub is_memory : RuleFault → Bool
is_memory Memory = true
is_memory (TooMany what n) = false
is_memory (BadToken at) = false
is_memory (WideNumber at) = false
is_memory (Unsorted var) = false
is_memory (SortClash var first second) = false
is_memory (NoReading at) = false
is_memory (AmbiguousAt at) = false
is_memory (PatternForm at) = false
is_memory (NotBoundLeft var) = false

-- What is wrong with the tokens themselves: they are too many, or else one of them is none, or else a number is too wide.
abbrev pub wide_fault : Option ℕ → Option RuleFault
wide_fault None = None
wide_fault (Some at) = Some (WideNumber at)

abbrev pub bad_fault : Option ℕ → Option ℕ → Option RuleFault
bad_fault None wide = wide_fault wide
bad_fault (Some at) wide = Some (BadToken at)

abbrev pub split_fault : RuleSplit → Option RuleFault
split_fault split = cond (nat_lt token_limit (length split.tokens)) (Some (TooMany RuleTokens (length split.tokens))) (bad_fault split.bad split.wide)

abbrev pub told_variable : Syntax → List (List ℕ) → VariableFault → RuleFault
told_variable g names (NoSort name) = Unsorted (word_of names name)
told_variable g names (TwoSorts name first second) = SortClash (word_of names name) (sort_text g first) (sort_text g second)
told_variable g names NoVariableMemory = Memory

abbrev pub told_form : FormFault → RuleFault
told_form (NoForm at) = NoReading at
told_form NoFormMemory = Memory

-- of what stands at a place
abbrev pub told_content : ℕ → ContentFault → RuleFault
told_content at NoContent = NoReading at
told_content at Ambiguous = AmbiguousAt at
told_content at NoContentMemory = Memory

abbrev pub told_unbound : List (List ℕ) → UnboundVariable → List ℕ
told_unbound names (Named name) = word_of names name
told_unbound names Wild = codes "_"
told_unbound names Dots = codes "..."

abbrev pub told_draft : List (List ℕ) → List RuleToken → ℕ → DraftFault → RuleFault
told_draft names tokens behind (BadForm token) = PatternForm (place_of tokens behind token)
told_draft names tokens behind (Unbound var) = NotBoundLeft (told_unbound names var)
told_draft names tokens behind NoDraftMemory = Memory
