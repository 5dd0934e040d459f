-- What is told of the faults of the phases.
use Rattle.std.proofs.Common.{◌≡◌, ◌⊎◌, inl, inr, ℕ, zero, suc, ◌+◌, ◌<◌, ◌≤◌, ◌^◌, cond, List, [], ◌∷◌, ◌++◌, length, drop, Contains, refl, sym, ap, ◌∙◌, subst, arith}
use Rattle.std.specs.Prelude.{get_or, codes}
use Rattle.std.specs.List.{AllByRecursion}
use Rattle.std.proofs.lemmas.List.{drop_more, length-map}
use Rattle.std.proofs.lemmas.Option.{slice_get_within}
use Rattle.k_lexer.specs.declared.token.Token.{Token}
use Rattle.grammar_terms.specs.Grammar.{Syntax}
use Rattle.file_reader.specs.declared.sentence.Sentence.{Sentence}
use Rattle.file_reader.specs.declared.sentence.Sentence.TheVariants.{Syntax as SyntaxOf, Config, Rule as RuleOf}
use Rattle.rule_terms.specs.declared.defs.CellShape.{CellShape}
use Rattle.rule_terms.specs.declared.rule.Draft.{Draft}
use Rattle.rule_terms.specs.declared.rule.Rule.{Rule}
use Rattle.rule_reader.specs.declared.refusal.RuleRefusal.{RuleRefusal}
use Rattle.rule_reader.specs.Rules.{IsRuleSentence, IsRule, IsRefused, IsWant}
use Rattle.cell_trees.specs.Trees.{Tree as Declaration, IsTree, names_of}
use Rattle.rule_completion.specs.Rules.{IsWrittenDraft}
use Rattle.draft_laws.specs.Laws.{AreWrittenStrict}
use Rattle.strictness.specs.Drafts.{strict_drafts}
use Rattle.rule_completion.specs.declared.refusal.NoCompletion.{NoCompletion}
use Rattle.rule_completion.specs.declared.refusal.NoCompletion.TheVariants.{Misplaced, Unclear as NoLeast, PatternCells, NewCells, Memory as NoMemoryLeft}
use Rattle.context_transform.specs.declared.fault.CellsUnclear.{CellsUnclear}
use Rattle.context_transform.specs.declared.fault.CellsUnclear.TheVariants.{CellMisplaced, Unclear, TooMany as TooManyUnclear, Memory as NoUnclearMemory}
use Rattle.context_transform.specs.declared.fault.DefFault.{DefFault}
use Rattle.context_transform.specs.declared.fault.DefFault.TheVariants.{Rule as OfRule, Complete, Memory}
use Rattle.context_transform.specs.Told.{told_rule, told_unclear}
use Rattle.context_transform.specs.Completing.{told_completion, IsOfDraft, IsUnclear}
use Rattle.context_transform.specs.WrittenRules.{rules_in, IsBadRule, IsFirstBad, IsFirstUnclear, AreWrittenRules, AreCompleted, AreAllRules, IsFirstFault}
use Rattle.context_transform.proofs.Rows.{written_length, IsReadUpTo, fails_here, IsCompletedUpTo, unclear_here}

-- the cells of a tree are few
pub few_cells : (d : Declaration) (shapes : List CellShape) → IsTree d → shapes ≡ d.shapes → length shapes ≤ 2 ^ 32
few_cells d shapes is same =
    let few : length d.shapes ≤ 64 = is.few_cells in
    subst (λ s. length s ≤ 2 ^ 32) (sym same) (let wide : 64 ≤ 2 ^ 32 = omega arith in omega (arith, few, wide))

-- ---- refused rules

module _ (d : Declaration) (number : ℕ) where
  -- what is told of a draft is never want of memory
  pub no_want : (why : NoCompletion) → IsOfDraft why → NoUnclearMemory ≡ told_completion d.shapes number why → ⊥
  no_want (Misplaced cell) of told = cc
  no_want NoLeast of told = cc
  no_want (PatternCells n) of told = cc
  no_want (NewCells n) of told = cc
  no_want NoMemoryLeft of told = of

  proper_unclear : (draft : Draft) (refusal : CellsUnclear) → IsUnclear d draft number refusal → told_unclear refusal ≡ Complete refusal
  proper_unclear draft (CellMisplaced rule cell) is = refl
  proper_unclear draft (Unclear rule) is = refl
  proper_unclear draft (TooManyUnclear what n) is = refl
  proper_unclear draft NoUnclearMemory is = absurd (no_want is.why is.of_draft is.told)

  pub unclear_is : (draft : Draft) (refusal : CellsUnclear) (fault : DefFault) → (refusal ≡ NoUnclearMemory) ⊎ IsUnclear d draft number refusal → fault ≡ told_unclear refusal
      → (fault ≡ Memory) ⊎ ((why : CellsUnclear) × (fault ≡ Complete why) × IsUnclear d draft number why)
  unclear_is draft refusal fault (inl want) told = inl (told ∙ ap told_unclear want)
  unclear_is draft refusal fault (inr unclear) told = inr (refusal, told ∙ proper_unclear draft refusal unclear, unclear)

module _ (g : Syntax) (d : Declaration) (text : List ℕ) (tokens : List Token) (before after : List (List ℕ)) (number : ℕ) (sentence : Sentence) where
  pub rule_told : (refusal : RuleRefusal) (fault : DefFault) → IsWant sentence refusal ⊎ IsRefused g d.shapes before text tokens sentence after refusal → fault ≡ told_rule refusal
      → (fault ≡ Memory) ⊎ IsBadRule g d text tokens before number sentence fault
  rule_told refusal fault (inl want) told = inl (told ∙ ap told_rule want)
  rule_told refusal fault (inr refused) told =
      inr (inl (record {
        refusal = refusal;
        after = after;
        refused = refused;
        fault_is = told ∙ ap (λ b. cond b Memory (OfRule refusal)) refused.proper;
      }))

  pub unclear_told : (draft : Draft) (refusal : CellsUnclear) (fault : DefFault) → IsRule g d.shapes before text tokens sentence after draft
      → (refusal ≡ NoUnclearMemory) ⊎ IsUnclear d draft number refusal → fault ≡ told_unclear refusal → (fault ≡ Memory) ⊎ IsBadRule g d text tokens before number sentence fault
  unclear_told draft refusal fault read unclear told = elim (unclear_is d number draft refusal fault unclear told) [
    | inl memory ↦ inl memory
    | inr h ↦ inr (inr (record { why = h.0; after = after; draft = draft; read = read; unclear = h.2; fault_is = h.1 }))
  ]

-- ---- rule sentences

pub rules_are_rules : (ss : List Sentence) → AllByRecursion IsRuleSentence (rules_in ss)
rules_are_rules [] = tt
rules_are_rules (SyntaxOf sort groups ∷ ss) = rules_are_rules ss
rules_are_rules (Config first past ∷ ss) = rules_are_rules ss
rules_are_rules (RuleOf at first past ∷ ss) = (tt, rules_are_rules ss)

-- what holds of all holds of the one at a place, and of what is left there
pub all_at : {A : Type 0} (P : A → Type 0) (xs : List A) (i : ℕ) (x : A) → AllByRecursion P xs → i < length xs → x ≡ get_or xs i x → P x
all_at P [] i x all within is = absurd (omega arith)
all_at P (y ∷ ys) zero x all within is = subst P (sym is) all.0
all_at P (y ∷ ys) (suc i) x all within is = all_at P ys i x all.1 (omega arith) is

pub left_at : {A : Type 0} (xs : List A) (i : ℕ) (x : A) → i < length xs → x ≡ get_or xs i x → drop i xs ≡ x ∷ drop (i + 1) xs
left_at xs i x within is = drop_more xs i x within ∙ ap (λ y. y ∷ drop (i + 1) xs) (sym is)

-- each member passes
pub all_members : {A : Type 0} (P : A → Type 0) (xs : List A) → ((x : A) → Contains xs x → P x) → AllByRecursion P xs
all_members P [] holds = tt
all_members P (x ∷ xs) holds = (holds x (0, omega arith, refl), all_members P xs (λ y c. holds y (suc c.0, (let l = c.1 in omega (arith, l)), c.2)))

-- ---- the first that is none

-- where the rules are read up to a sentence that is none, it is the first
pub bad_first : (g : Syntax) (d : Declaration) (text : List ℕ) (tokens : List Token) (before : List (List ℕ)) (ss : List Sentence) (i : ℕ) (s : Sentence) → i < length ss
    → s ≡ get_or ss i s → (names : List (List ℕ)) (rules : List Rule) (number : ℕ) → IsReadUpTo g d text tokens before ss (drop i ss) names rules number → (fault : DefFault)
    → (fault ≡ Memory) ⊎ IsBadRule g d text tokens names (number + 1) s fault → (fault ≡ Memory) ⊎ IsFirstBad g d text tokens before 1 ss fault
bad_first g d text tokens before ss i s within is names rules number up fault (inl memory) = inl memory
bad_first g d text tokens before ss i s within is names rules number up fault (inr bad) =
    inr (fails_here g d text tokens before ss (drop i ss) (drop (i + 1) ss) s (left_at ss i s within is) names rules number up fault bad)

-- and so of drafts
pub unclear_first : (d : Declaration) (drafts : List Draft) (old : List Rule) (i : ℕ) (draft : Draft) → i < length drafts → draft ≡ get_or drafts i draft → (rules : List Rule) (number : ℕ)
    → IsCompletedUpTo d drafts (drop i drafts) old rules number → (refusal : CellsUnclear) (fault : DefFault) → (refusal ≡ NoUnclearMemory) ⊎ IsUnclear d draft (number + 1) refusal
    → fault ≡ told_unclear refusal → (fault ≡ Memory) ⊎ ((why : CellsUnclear) × (fault ≡ Complete why) × IsFirstUnclear d (length old + 1) drafts why)
unclear_first d drafts old i draft within is rules number up refusal fault outcome told = elim (unclear_is d (number + 1) draft refusal fault outcome told) [
  | inl memory ↦ inl memory
  | inr h ↦ inr (h.0, h.1, unclear_here d drafts old (drop i drafts) (drop (i + 1) drafts) draft (left_at drafts i draft within is) rules number up h.0 h.2)
]

-- ---- all rules

module _ (g : Syntax) (d : Declaration) (text : List ℕ) (tokens : List Token) (before : List (List ℕ)) (ss : List Sentence) (drafts : List Draft) (written : List Rule) (after : List (List ℕ))
    (are : AreWrittenRules g d text tokens before ss written after) where
  pub few_with : length ss + length drafts ≤ 1024 → length written + length drafts ≤ 1024
  few_with few = subst (λ n. n + length drafts ≤ 1024) (sym (written_length g d text tokens before ss written after are)) few

  pub all_of : (rules : List Rule) → (found : List Rule) × AreCompleted d drafts found × (rules ≡ written ++ found) → AreAllRules g d text tokens before ss drafts rules after
  all_of rules h = record { written = written; are_written = are; behind = h.0; are_completed = h.1; all = h.2 }

  pub fault_of : (fault : DefFault) → (fault ≡ Memory) ⊎ ((why : CellsUnclear) × (fault ≡ Complete why) × IsFirstUnclear d (length written + 1) drafts why)
      → (fault ≡ Memory) ⊎ IsFirstFault g d text tokens before ss drafts fault
  fault_of fault (inl memory) = inl memory
  fault_of fault (inr h) =
      inr (inr (
        h.0,
        h.1,
        record {
          written = written;
          after = after;
          are_written = are;
          unclear = subst (λ n. IsFirstUnclear d (n + 1) drafts h.0) (written_length g d text tokens before ss written after are) h.2;
        },
      ))

-- ---- rules of strictness

k_within : (d : Declaration) → IsTree d → d.k < length d.shapes
k_within d is = subst (λ n. d.k < n) (length-map d.shapes (λ (shape : CellShape). shape.name)) (slice_get_within (names_of d.shapes) d.k (codes "k") is.named)

pub strict_written : AreWrittenStrict → (d : Declaration) (g : Syntax) → IsTree d → AllByRecursion (IsWrittenDraft d) (strict_drafts g d.k)
strict_written law d g is = all_members (IsWrittenDraft d) (strict_drafts g d.k) (λ draft has. law d g d.k draft (k_within d is) has)
