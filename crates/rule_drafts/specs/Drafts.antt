-- The draft that was read of a rule, and why there is none.
use Rattle.std.specs.Prelude.{◌≡◌, ℕ, ◌<◌, ◌==◌, ◌&&◌, not, Bool, true, false, cond, List, [], ◌∷◌, ◌++◌, map, drop, Option, Some, None, slice_get}
use Rattle.std.specs.Option.{option_map, option_map_or}
use Rattle.std.specs.List.{flat_map, find, list_any}
use Rattle.k_terms.specs.Sorts.{sort_bool}
use Rattle.grammar_terms.specs.declared.word.Word.{Word}
use Rattle.rule_tokens.specs.declared.token.RuleKind.{RuleKind}
use Rattle.rule_tokens.specs.declared.token.RuleKind.TheVariants.{Open, Close, Rewrite, Then, MapsTo, Dots, Dot, ListItem, Terminal, Literal, Variable}
use Rattle.rule_tokens.specs.declared.token.RuleToken.{RuleToken}
use Rattle.rule_terms.specs.declared.defs.CellShape.{CellShape}
use Rattle.rule_terms.specs.declared.rule.Cond.{Cond}
use Rattle.rule_terms.specs.declared.rule.Cond.TheVariants.{Holds}
use Rattle.rule_terms.specs.declared.rule.Origin.TheVariants.{Written}
use Rattle.rule_terms.specs.declared.rule.Draft.{Draft}
use Rattle.rule_drafts.specs.declared.fault.DraftFault.{DraftFault}
use Rattle.rule_drafts.specs.declared.fault.DraftFault.TheVariants.{PatternForm, NotBoundLeft, Memory}
use Rattle.rule_drafts.specs.declared.fault.Unbound.{Unbound}
use Rattle.rule_drafts.specs.declared.fault.Unbound.TheVariants.{Named, Wild, Dots as UnboundDots}
use Rattle.rule_parts.specs.declared.argument_sorts.Productions.{Productions}
use Rattle.rule_drafts.specs.declared.reading.Condition.{Condition}
use Rattle.rule_drafts.specs.declared.reading.RuleReading.{RuleReading}
use Rattle.rule_parts.specs.declared.leaves.Leaf.{Leaf}
use Rattle.rule_parts.specs.declared.terms.Occurrence.{Occurrence}
use Rattle.rule_parts.specs.Leaves.{leaves_of}
use Rattle.rule_parts.specs.Terms.{occurrences, pattern_of}
use Rattle.rule_drafts.specs.Cells.{body_events, event_occurrences, event_faults, body_cells}

-- ---- variables

abbrev pub is_known : List Occurrence → ℕ → Bool
is_known vars home = list_any (λ (v : Occurrence). v.home == home) vars

abbrev pub with_variable : List Occurrence → Occurrence → List Occurrence
with_variable vars found = cond (is_known vars found.home) vars (vars ++ found ∷ [])

-- variables, each by its first occurrence
abbrev pub first_from : List Occurrence → List Occurrence → List Occurrence
first_from vars [] = vars
first_from vars (found ∷ more) = first_from (with_variable vars found) more

abbrev pub variables : List Occurrence → List Occurrence
variables found = first_from [] found

-- a variable that does not stand on the left side
abbrev pub is_bound : List Occurrence → ℕ → Bool
is_bound found home = list_any (λ (v : Occurrence). v.is_left && v.home == home) found

abbrev pub is_unbound : List Occurrence → Occurrence → Bool
is_unbound found occurrence = not (is_bound found occurrence.home)

-- how it is told
abbrev pub name_by : RuleKind → Unbound
name_by (Variable None sort) = Wild
name_by (Variable (Some name) sort) = Named name
name_by (Open cell) = UnboundDots
name_by (Close cell) = UnboundDots
name_by Rewrite = UnboundDots
name_by Then = UnboundDots
name_by MapsTo = UnboundDots
name_by Dots = UnboundDots
name_by (Dot sort) = UnboundDots
name_by ListItem = UnboundDots
name_by (Terminal text) = UnboundDots
name_by (Literal value) = UnboundDots

abbrev pub name_of : List RuleToken → Occurrence → Unbound
name_of tokens occurrence = option_map_or (λ (token : RuleToken). name_by token.kind) (slice_get tokens occurrence.home) UnboundDots

abbrev pub stray_fault : Occurrence → List ℕ
stray_fault occurrence = cond occurrence.is_stray (occurrence.at ∷ []) []

-- ---- the condition

abbrev pub condition_occurrences : Productions → List Leaf → Option Condition → List Occurrence
condition_occurrences g leaves None = []
condition_occurrences g leaves (Some condition) = occurrences g (drop condition.first leaves) false sort_bool false condition.shape

abbrev pub when_of : Productions → List Leaf → List Occurrence → Option Condition → List Cond
when_of g leaves vars None = []
when_of g leaves vars (Some condition) = Holds (pattern_of g (drop condition.first leaves) vars sort_bool condition.shape) ∷ []

-- ---- drafts

module _ (k : ℕ) (g : Productions) (leaves : List Leaf) (cells : List CellShape) (rule : RuleReading) where
  -- the occurrences of variables, in the order of the text
  abbrev pub found_by : List Occurrence
  found_by = flat_map (event_occurrences g leaves cells rule.contents) (body_events k rule.body) ++ condition_occurrences g leaves rule.condition

  -- the first tokens of all that has no form of a rule
  abbrev pub faults_by : List ℕ
  faults_by = flat_map stray_fault found_by ++ flat_map (event_faults g leaves cells rule.contents (variables found_by)) (body_events k rule.body)

-- the first variable that does not stand on the left side
abbrev pub unbound_of : List Occurrence → Option Occurrence
unbound_of found = find (is_unbound found) found

-- the draft of a rule whose variables are these
abbrev pub draft_by : ℕ → Productions → List Leaf → List CellShape → List RuleToken → RuleReading → List Occurrence → Draft
draft_by k g leaves cells tokens rule vars = record {
  origin = Written rule.at;
  vars = map (λ (v : Occurrence). v.sort) vars;
  left = body_cells g leaves cells rule.contents vars tokens true k rule.body;
  right = body_cells g leaves cells rule.contents vars tokens false k rule.body;
  when = when_of g leaves vars rule.condition;
}

-- a token is one of these, and the first one
abbrev pub is_among : List ℕ → ℕ → Bool
is_among tokens token = list_any (λ other. other == token) tokens

abbrev pub HasNone : List ℕ → Type 0
HasNone tokens = (token : ℕ) → is_among tokens token ≡ false

pub record IsFirstOf (tokens : List ℕ) (token : ℕ) : Type 0 where
  pub stands : is_among tokens token ≡ true
  pub first : (other : ℕ) → other < token → is_among tokens other ≡ false

-- Why occurrences of variables, and the first tokens of what has no form of a rule, make no draft: the first of these tokens,
-- or else the first variable that does not stand on the left side. Want of memory may be answered to all.
abbrev pub IsFaultOf : List RuleToken → List Occurrence → List ℕ → DraftFault → Type 0
IsFaultOf tokens found faults (PatternForm token) = IsFirstOf faults token
IsFaultOf tokens found faults (NotBoundLeft var) = HasNone faults × (option_map (name_of tokens) (unbound_of found) ≡ Some var)
IsFaultOf tokens found faults Memory = Unit {0}

module _ (k : ℕ) (g : Productions) (leaves : List Leaf) (cells : List CellShape) (rule : RuleReading) where
  -- These are the variables: every form is one of a rule, and every variable stands on the left side.
  pub record AreVariables (vars : List Occurrence) : Type 0 where
    pub are : vars ≡ variables (found_by k g leaves cells rule)
    pub formed : HasNone (faults_by k g leaves cells rule)
    pub bound : unbound_of (found_by k g leaves cells rule) ≡ None

-- the draft with these variables
abbrev pub IsDraftBy : ℕ → Productions → List Leaf → List CellShape → List RuleToken → RuleReading → Draft → Type 0
IsDraftBy k g leaves cells tokens rule draft =
    (vars : List Occurrence) × AreVariables k g leaves cells rule vars × (draft ≡ draft_by k g leaves cells tokens rule vars)

abbrev pub IsDraftFaultBy : ℕ → Productions → List Leaf → List CellShape → List RuleToken → RuleReading → DraftFault → Type 0
IsDraftFaultBy k g leaves cells tokens rule fault = IsFaultOf tokens (found_by k g leaves cells rule) (faults_by k g leaves cells rule) fault

-- What was read of a rule is this draft. `k` is the number of the cell `k`.
abbrev pub IsDraft : ℕ → Productions → List CellShape → List RuleToken → List Word → RuleReading → Draft → Type 0
IsDraft k g cells tokens words rule draft = IsDraftBy k g (leaves_of tokens words) cells tokens rule draft

-- why there is none
abbrev pub IsDraftFault : ℕ → Productions → List CellShape → List RuleToken → List Word → RuleReading → DraftFault → Type 0
IsDraftFault k g cells tokens words rule fault = IsDraftFaultBy k g (leaves_of tokens words) cells tokens rule fault

-- a fault that is told of what was read, and not want of memory
abbrev pub IsTold : DraftFault → Type 0
IsTold (PatternForm token) = Unit {0}
IsTold (NotBoundLeft var) = Unit {0}
IsTold Memory = ⊥
