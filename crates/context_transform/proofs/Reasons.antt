-- A draft is completed to one rule, or one thing is told of it.
use Rattle.std.proofs.Common.{◌≡◌, inl, inr, ℕ, ◌<◌, ◌≤◌, List, [], ◌∷◌, length, map, refl, sym, ap, ◌∙◌, subst, arith, min, ◌^◌, ◌-◌}
use Rattle.rule_terms.specs.declared.defs.CellShape.{CellShape}
use Rattle.rule_terms.specs.declared.pattern.CellPat.{CellPat}
use Rattle.rule_terms.specs.declared.rule.Draft.{Draft}
use Rattle.rule_terms.specs.declared.rule.Rule.{Rule}
use Rattle.rule_terms.specs.Sound.{side_limit}
use Rattle.rule_terms.specs.Spots.{spots, new_spots}
use Rattle.live_config.proofs.Members.{Has, Apart, contains-has, has_map, different-apart}
use Rattle.cell_completion.specs.declared.tree.Tree.{Tree}
use Rattle.cell_completion.specs.declared.tree.Written.{Written}
use Rattle.cell_completion.specs.Completion.{IsFirstMisplaced, NoneMisplaced}
use Rattle.cell_completion.specs.Listed.{AreDeclared, AreWritten}
use Rattle.cell_completion.proofs.Lawful.{has_one_completion}
use Rattle.cell_trees.specs.Trees.{Tree as Declaration, IsTree}
use Rattle.rule_completion.specs.declared.refusal.NoCompletion.{NoCompletion}
use Rattle.rule_completion.specs.declared.refusal.NoCompletion.TheVariants.{Misplaced, Unclear as NoLeast, PatternCells, NewCells, Memory as NoMemoryLeft}
use Rattle.rule_completion.specs.Writing.{written}
use Rattle.rule_completion.specs.Completed.{IsCompletedBy}
use Rattle.rule_completion.specs.Rules.{IsWrittenDraft, HasRule, IsCompleted, IsNotCompleted, HasManyCells}
use Rattle.context_transform.specs.declared.fault.CellsUnclear.{CellsUnclear}
use Rattle.context_transform.specs.Completing.{told_completion, IsOfDraft, IsUnclear}
use Rattle.context_transform.specs.Laws.{HasOneRule, HasOneReason, HasRuleOrReason}

-- ---- written cells

abbrev mark_of : Written → ℕ
mark_of w = w.mark

same_marked : (ws : List Written) → Apart (map mark_of ws) → (v w : Written) → Has ws v → Has ws w → v.mark ≡ w.mark → v ≡ w
same_marked [] apart v w first second same = absurd first
same_marked (x ∷ xs) apart v w (inl one) (inl other) same = sym one ∙ other
same_marked (x ∷ xs) apart v w (inl one) (inr other) same =
    absurd (apart.0 (subst (Has (map mark_of xs)) (sym same ∙ ap mark_of (sym one)) (has_map mark_of xs w other)))
same_marked (x ∷ xs) apart v w (inr one) (inl other) same =
    absurd (apart.0 (subst (Has (map mark_of xs)) (same ∙ ap mark_of (sym other)) (has_map mark_of xs v one)))
same_marked (x ∷ xs) apart v w (inr one) (inr other) same = same_marked xs apart.1 v w one other same

same_number : (m n : ℕ) → m ≤ n → n ≤ m → m ≡ n
same_number m n one other = omega (arith, one, other)

-- the first misplaced cell is one
first_misplaced : (shapes : List CellShape) (ws : List Written) → AreWritten shapes ws → (one other : ℕ) → IsFirstMisplaced shapes ws one → IsFirstMisplaced shapes ws other → one ≡ other
first_misplaced shapes ws are one other a b =
    let marks : a.written.mark ≡ b.written.mark = same_number a.written.mark b.written.mark (a.first b.written b.is b.misplaced) (b.first a.written a.is a.misplaced) in
    let same : a.written ≡ b.written =
    same_marked ws (different-apart (map mark_of ws) are.different) a.written b.written (contains-has ws a.written a.is) (contains-has ws b.written b.is) marks in
    sym a.cell_is ∙ ap (λ (w : Written). w.cell) same ∙ b.cell_is

-- ---- rules

same_cell : (a b : CellPat) → a ∷ [] ≡ b ∷ [] → a ≡ b
same_cell a b e = cc

module _ (d : Declaration) (draft : Draft) (is_tree : IsTree d) (is_written : IsWrittenDraft d draft) where
  by_same : (whole : Tree) (one other : Rule) → IsCompletedBy d draft whole one → IsCompletedBy d draft whole other → one ≡ other
  by_same whole one other a b =
      let left : one.left ≡ other.left = same_cell one.left other.left (sym a.left ∙ b.left) in
      let right : one.right ≡ other.right = same_cell one.right other.right (sym a.right ∙ b.right) in
      let origin : one.origin ≡ other.origin = a.origin ∙ sym b.origin in
      let vars : one.vars ≡ other.vars = a.vars ∙ sym b.vars in
      let when : one.when ≡ other.when = a.when ∙ sym b.when in
      λ i. record { origin = origin i; vars = vars i; left = left i; right = right i; when = when i }

  are_declared : AreDeclared d.shapes
  are_declared = record { some_cell = is_tree.some_cell; few_cells = is_tree.few_cells; tree = is_tree.placed }

  same_rule : (one other : Rule) → HasRule d draft one → HasRule d draft other → one ≡ other
  same_rule one other a b =
      let whole : a.whole ≡ b.whole = has_one_completion d.shapes (written draft) are_declared is_written.cells a.whole b.whole a.least b.least in
      by_same b.whole one other (subst (λ t. IsCompletedBy d draft t one) whole a.is) b.is

  pub one_rule_of : (one other : Rule) → IsCompleted d draft one → IsCompleted d draft other → one ≡ other
  one_rule_of one other a b = same_rule one other a.has b.has

  too_many : (m n : ℕ) → m ≤ n → n < m → ⊥
  too_many m n few many = omega (arith, few, many)

  -- no draft has a rule and a reason
  rule_or_why : (rule : Rule) (why : NoCompletion) → IsCompleted d draft rule → IsNotCompleted d draft why → IsOfDraft why → ⊥
  rule_or_why rule (Misplaced cell) is not of = is.placed not.written not.is not.misplaced
  rule_or_why rule NoLeast is not of = not.1 is.has.whole is.has.least
  rule_or_why rule (PatternCells n) is not of =
      let same : rule ≡ not.rule = same_rule rule not.rule is.has not.has in
      too_many (length (spots not.rule.left)) side_limit (subst (λ (r : Rule). length (spots r.left) ≤ side_limit) same is.few.left) not.over.0
  rule_or_why rule (NewCells n) is not of =
      let same : rule ≡ not.rule = same_rule rule not.rule is.has not.has in
      too_many (length (new_spots not.rule)) side_limit (subst (λ (r : Rule). length (new_spots r) ≤ side_limit) same is.few.new) not.over.1
  rule_or_why rule NoMemoryLeft is not of = of

  pub rule_or_unclear : (rule : Rule) (number : ℕ) (fault : CellsUnclear) → IsCompleted d draft rule → IsUnclear d draft number fault → ⊥
  rule_or_unclear rule number fault is unclear = rule_or_why rule unclear.why is unclear.is unclear.of_draft

  none_misplaced : (cell : ℕ) → IsFirstMisplaced d.shapes (written draft) cell → NoneMisplaced d.shapes (written draft) → ⊥
  none_misplaced cell first none = none first.written first.is first.misplaced

  many_same : (one other : NoCompletion) (a : HasManyCells d draft one) (b : HasManyCells d draft other) → a.rule ≡ b.rule
  many_same one other a b = same_rule a.rule b.rule a.has b.has

  same_why : (one other : NoCompletion) → IsNotCompleted d draft one → IsNotCompleted d draft other → IsOfDraft one → IsOfDraft other → one ≡ other
  same_why (Misplaced cell) (Misplaced other) a b p q = ap Misplaced (first_misplaced d.shapes (written draft) is_written.cells cell other a b)
  same_why (Misplaced cell) NoLeast a b p q = absurd (none_misplaced cell a b.0)
  same_why (Misplaced cell) (PatternCells n) a b p q = absurd (none_misplaced cell a b.placed)
  same_why (Misplaced cell) (NewCells n) a b p q = absurd (none_misplaced cell a b.placed)
  same_why (Misplaced cell) NoMemoryLeft a b p q = absurd q
  same_why NoLeast (Misplaced cell) a b p q = absurd (none_misplaced cell b a.0)
  same_why NoLeast NoLeast a b p q = refl
  same_why NoLeast (PatternCells n) a b p q = absurd (a.1 b.has.whole b.has.least)
  same_why NoLeast (NewCells n) a b p q = absurd (a.1 b.has.whole b.has.least)
  same_why NoLeast NoMemoryLeft a b p q = absurd q
  same_why (PatternCells m) (Misplaced cell) a b p q = absurd (none_misplaced cell b a.placed)
  same_why (PatternCells m) NoLeast a b p q = absurd (b.1 a.has.whole a.has.least)
  same_why (PatternCells m) (PatternCells n) a b p q =
      ap PatternCells (a.over.1 ∙ ap (λ (r : Rule). min (length (spots r.left)) (2 ^ 32 - 1)) (many_same (PatternCells m) (PatternCells n) a b) ∙ sym b.over.1)
  same_why (PatternCells m) (NewCells n) a b p q =
      absurd (too_many (length (spots b.rule.left)) side_limit b.over.0
      (subst (λ (r : Rule). side_limit < length (spots r.left)) (many_same (PatternCells m) (NewCells n) a b) a.over.0))
  same_why (PatternCells m) NoMemoryLeft a b p q = absurd q
  same_why (NewCells m) (Misplaced cell) a b p q = absurd (none_misplaced cell b a.placed)
  same_why (NewCells m) NoLeast a b p q = absurd (b.1 a.has.whole a.has.least)
  same_why (NewCells m) (PatternCells n) a b p q =
      absurd (too_many (length (spots a.rule.left)) side_limit a.over.0
      (subst (λ (r : Rule). side_limit < length (spots r.left)) (sym (many_same (NewCells m) (PatternCells n) a b)) b.over.0))
  same_why (NewCells m) (NewCells n) a b p q =
      ap NewCells (a.over.2 ∙ ap (λ (r : Rule). min (length (new_spots r)) (2 ^ 32 - 1)) (many_same (NewCells m) (NewCells n) a b) ∙ sym b.over.2)
  same_why (NewCells m) NoMemoryLeft a b p q = absurd q
  same_why NoMemoryLeft other a b p q = absurd p

  pub one_unclear : (number : ℕ) (one other : CellsUnclear) → IsUnclear d draft number one → IsUnclear d draft number other → one ≡ other
  one_unclear number one other a b =
      a.told ∙ ap (told_completion d.shapes number) (same_why a.why b.why a.is b.is a.of_draft b.of_draft) ∙ sym b.told

pub has_one_rule : HasOneRule
has_one_rule d draft is_tree is_written one other a b = one_rule_of d draft is_tree is_written one other a b

pub has_one_reason : HasOneReason
has_one_reason d draft number is_tree is_written one other a b = one_unclear d draft is_tree is_written number one other a b

pub has_rule_or_reason : HasRuleOrReason
has_rule_or_reason d draft number is_tree is_written rule why is unclear = rule_or_unclear d draft is_tree is_written rule number why is unclear
