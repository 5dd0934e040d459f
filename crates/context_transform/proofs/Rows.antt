-- Rules that are read and completed one after the other are so in one way, or one of them is the first that is none.
use Rattle.std.proofs.Common.{◌≡◌, inl, inr, ℕ, suc, ◌+◌, List, [], ◌∷◌, ◌++◌, length, refl, sym, ap, ◌∙◌, subst, arith}
use Rattle.std.specs.List.{AllByRecursion}
use Rattle.std.proofs.lemmas.List.{append-nil, append_assoc}
use Rattle.k_lexer.specs.declared.token.Token.{Token}
use Rattle.grammar_terms.specs.Grammar.{Syntax}
use Rattle.file_reader.specs.declared.sentence.Sentence.{Sentence}
use Rattle.rule_terms.specs.declared.rule.Draft.{Draft}
use Rattle.rule_terms.specs.declared.rule.Rule.{Rule}
use Rattle.rule_reader.specs.Rules.{IsRule}
use Rattle.rule_reader.proofs.Determined.{one_draft, one_refusal, draft_or_refusal}
use Rattle.cell_trees.specs.Trees.{Tree as Declaration, IsTree}
use Rattle.rule_completion.specs.Rules.{IsWrittenDraft, IsCompleted}
use Rattle.context_transform.specs.declared.fault.CellsUnclear.{CellsUnclear}
use Rattle.context_transform.specs.declared.fault.DefFault.{DefFault}
use Rattle.context_transform.specs.declared.fault.DefFault.TheVariants.{Rule as OfRule, Complete}
use Rattle.context_transform.specs.Completing.{IsUnclear}
use Rattle.context_transform.specs.WrittenRules.{IsWrittenRule, AreWrittenRules, IsBadRule, IsFirstBad, AreCompleted, IsFirstUnclear, AreAllRules, IsFirstFault}
use Rattle.context_transform.proofs.Reasons.{one_rule_of, rule_or_unclear, one_unclear}

module _ (g : Syntax) (d : Declaration) (is_tree : IsTree d) (text : List ℕ) (tokens : List Token)
    (drafts_are : (before after : List (List ℕ)) (sentence : Sentence) (draft : Draft) → IsRule g d.shapes before text tokens sentence after draft → IsWrittenDraft d draft) where
  -- ---- one rule

  one_written : (before : List (List ℕ)) (s : Sentence) (r q : Rule) (after later : List (List ℕ)) → IsWrittenRule g d text tokens before s r after → IsWrittenRule g d text tokens before s q later
      → (after ≡ later) × (r ≡ q)
  one_written before s r q after later a b =
      let same = one_draft g d.shapes before text tokens s after later a.0 b.0 a.1 b.1 in
      (same.0, one_rule_of d b.0 is_tree (drafts_are before later s b.0 b.1) r q (subst (λ draft. IsCompleted d draft r) same.1 a.2) b.2)

  written_or_bad_one : (before : List (List ℕ)) (n : ℕ) (s : Sentence) (r : Rule) (after : List (List ℕ)) (fault : DefFault) → IsWrittenRule g d text tokens before s r after
      → IsBadRule g d text tokens before n s fault → ⊥
  written_or_bad_one before n s r after fault a (inl b) = draft_or_refusal g d.shapes before text tokens s after b.after a.0 b.refusal a.1 b.refused
  written_or_bad_one before n s r after fault a (inr b) =
      let same = one_draft g d.shapes before text tokens s after b.after a.0 b.draft a.1 b.read in
      rule_or_unclear d b.draft is_tree (drafts_are before b.after s b.draft b.read) r n b.why (subst (λ draft. IsCompleted d draft r) same.1 a.2) b.unclear

  one_bad : (before : List (List ℕ)) (n : ℕ) (s : Sentence) (one other : DefFault) → IsBadRule g d text tokens before n s one → IsBadRule g d text tokens before n s other → one ≡ other
  one_bad before n s one other (inl a) (inl b) =
      a.fault_is ∙ ap OfRule (one_refusal g d.shapes before text tokens s a.after b.after a.refusal b.refusal a.refused b.refused).1 ∙ sym b.fault_is
  one_bad before n s one other (inl a) (inr b) = absurd (draft_or_refusal g d.shapes before text tokens s b.after a.after b.draft a.refusal b.read a.refused)
  one_bad before n s one other (inr a) (inl b) = absurd (draft_or_refusal g d.shapes before text tokens s a.after b.after a.draft b.refusal a.read b.refused)
  one_bad before n s one other (inr a) (inr b) =
      let same = one_draft g d.shapes before text tokens s a.after b.after a.draft b.draft a.read b.read in
      a.fault_is
      ∙ ap Complete (one_unclear d b.draft is_tree (drafts_are before b.after s b.draft b.read) n a.why b.why (subst (λ draft. IsUnclear d draft n a.why) same.1 a.unclear) b.unclear)
      ∙ sym b.fault_is

  -- ---- rules in a row

  pub same_written : (before : List (List ℕ)) (ss : List Sentence) (rs qs : List Rule) (after later : List (List ℕ)) → AreWrittenRules g d text tokens before ss rs after
      → AreWrittenRules g d text tokens before ss qs later → (rs ≡ qs) × (after ≡ later)
  same_written before [] [] [] after later a b = (refl, a ∙ sym b)
  same_written before [] [] (q ∷ qs) after later a b = absurd b
  same_written before [] (r ∷ rs) qs after later a b = absurd a
  same_written before (s ∷ ss) [] qs after later a b = absurd a
  same_written before (s ∷ ss) (r ∷ rs) [] after later a b = absurd b
  same_written before (s ∷ ss) (r ∷ rs) (q ∷ qs) after later a b =
      let first = one_written before s r q a.0 b.0 a.1 b.1 in
      let rest = same_written a.0 ss rs qs after later a.2 (subst (λ names. AreWrittenRules g d text tokens names ss qs later) (sym first.0) b.2) in
      ((λ i. first.1 i ∷ rest.0 i), rest.1)

  pub written_or_bad : (before : List (List ℕ)) (n : ℕ) (ss : List Sentence) (rs : List Rule) (after : List (List ℕ)) (fault : DefFault) → AreWrittenRules g d text tokens before ss rs after
      → IsFirstBad g d text tokens before n ss fault → ⊥
  written_or_bad before n [] rs after fault a b = b
  written_or_bad before n (s ∷ ss) [] after fault a b = a
  written_or_bad before n (s ∷ ss) (r ∷ rs) after fault a (inl b) = written_or_bad_one before n s r a.0 fault a.1 b
  written_or_bad before n (s ∷ ss) (r ∷ rs) after fault a (inr b) =
      let same = one_written before s b.1 r b.0 a.0 b.2 a.1 in
      written_or_bad a.0 (n + 1) ss rs after fault a.2 (subst (λ names. IsFirstBad g d text tokens names (n + 1) ss fault) same.0 b.3)

  same_bad : (before : List (List ℕ)) (n : ℕ) (ss : List Sentence) (one other : DefFault) → IsFirstBad g d text tokens before n ss one → IsFirstBad g d text tokens before n ss other → one ≡ other
  same_bad before n [] one other a b = absurd a
  same_bad before n (s ∷ ss) one other (inl a) (inl b) = one_bad before n s one other a b
  same_bad before n (s ∷ ss) one other (inl a) (inr b) = absurd (written_or_bad_one before n s b.1 b.0 one b.2 a)
  same_bad before n (s ∷ ss) one other (inr a) (inl b) = absurd (written_or_bad_one before n s a.1 a.0 other a.2 b)
  same_bad before n (s ∷ ss) one other (inr a) (inr b) =
      let same = one_written before s b.1 a.1 b.0 a.0 b.2 a.2 in
      same_bad a.0 (n + 1) ss one other a.3 (subst (λ names. IsFirstBad g d text tokens names (n + 1) ss other) same.0 b.3)

-- ---- drafts in a row

module _ (d : Declaration) (is_tree : IsTree d) where
  same_completed : (drafts : List Draft) (rs qs : List Rule) → AllByRecursion (IsWrittenDraft d) drafts → AreCompleted d drafts rs → AreCompleted d drafts qs → rs ≡ qs
  same_completed [] [] [] all a b = refl
  same_completed [] [] (q ∷ qs) all a b = absurd b
  same_completed [] (r ∷ rs) qs all a b = absurd a
  same_completed (draft ∷ drafts) [] qs all a b = absurd a
  same_completed (draft ∷ drafts) (r ∷ rs) [] all a b = absurd b
  same_completed (draft ∷ drafts) (r ∷ rs) (q ∷ qs) all a b =
      let first : r ≡ q = one_rule_of d draft is_tree all.0 r q a.0 b.0 in
      let rest : rs ≡ qs = same_completed drafts rs qs all.1 a.1 b.1 in
      λ i. first i ∷ rest i

  completed_or_unclear : (n : ℕ) (drafts : List Draft) (rs : List Rule) (why : CellsUnclear) → AllByRecursion (IsWrittenDraft d) drafts → AreCompleted d drafts rs → IsFirstUnclear d n drafts why → ⊥
  completed_or_unclear n [] rs why all a b = b
  completed_or_unclear n (draft ∷ drafts) [] why all a b = a
  completed_or_unclear n (draft ∷ drafts) (r ∷ rs) why all a (inl b) = rule_or_unclear d draft is_tree all.0 r n why a.0 b
  completed_or_unclear n (draft ∷ drafts) (r ∷ rs) why all a (inr b) = completed_or_unclear (n + 1) drafts rs why all.1 a.1 b.1

  same_unclear : (n : ℕ) (drafts : List Draft) (one other : CellsUnclear) → AllByRecursion (IsWrittenDraft d) drafts → IsFirstUnclear d n drafts one → IsFirstUnclear d n drafts other → one ≡ other
  same_unclear n [] one other all a b = absurd a
  same_unclear n (draft ∷ drafts) one other all (inl a) (inl b) = one_unclear d draft is_tree all.0 n one other a b
  same_unclear n (draft ∷ drafts) one other all (inl a) (inr b) = absurd (rule_or_unclear d draft is_tree all.0 b.0.0 n one b.0.1 a)
  same_unclear n (draft ∷ drafts) one other all (inr a) (inl b) = absurd (rule_or_unclear d draft is_tree all.0 a.0.0 n other a.0.1 b)
  same_unclear n (draft ∷ drafts) one other all (inr a) (inr b) = same_unclear (n + 1) drafts one other all.1 a.1 b.1

-- ---- all rules

module _ (g : Syntax) (d : Declaration) (is_tree : IsTree d) (text : List ℕ) (tokens : List Token)
    (drafts_are : (before after : List (List ℕ)) (sentence : Sentence) (draft : Draft) → IsRule g d.shapes before text tokens sentence after draft → IsWrittenDraft d draft)
    (before : List (List ℕ)) (ss : List Sentence) (drafts : List Draft) (written : AllByRecursion (IsWrittenDraft d) drafts) where
  pub same_all : (rs qs : List Rule) (after later : List (List ℕ)) → AreAllRules g d text tokens before ss drafts rs after → AreAllRules g d text tokens before ss drafts qs later
      → (rs ≡ qs) × (after ≡ later)
  same_all rs qs after later a b =
      let one = same_written g d is_tree text tokens drafts_are before ss a.written b.written after later a.are_written b.are_written in
      let two : a.behind ≡ b.behind = same_completed d is_tree drafts a.behind b.behind written a.are_completed b.are_completed in
      (a.all ∙ (λ i. one.0 i ++ two i) ∙ sym b.all, one.1)

  pub all_or_fault : (rs : List Rule) (after : List (List ℕ)) (fault : DefFault) → AreAllRules g d text tokens before ss drafts rs after → IsFirstFault g d text tokens before ss drafts fault → ⊥
  all_or_fault rs after fault a (inl b) = written_or_bad g d is_tree text tokens drafts_are before 1 ss a.written after fault a.are_written b
  all_or_fault rs after fault a (inr b) = completed_or_unclear d is_tree (length ss + 1) drafts a.behind b.0 written a.are_completed b.2.unclear

  pub same_fault : (one other : DefFault) → IsFirstFault g d text tokens before ss drafts one → IsFirstFault g d text tokens before ss drafts other → one ≡ other
  same_fault one other (inl a) (inl b) = same_bad g d is_tree text tokens drafts_are before 1 ss one other a b
  same_fault one other (inl a) (inr b) = absurd (written_or_bad g d is_tree text tokens drafts_are before 1 ss b.2.written b.2.after one b.2.are_written a)
  same_fault one other (inr a) (inl b) = absurd (written_or_bad g d is_tree text tokens drafts_are before 1 ss a.2.written a.2.after other a.2.are_written b)
  same_fault one other (inr a) (inr b) =
      a.1 ∙ ap Complete (same_unclear d is_tree (length ss + 1) drafts a.0 b.0 written a.2.unclear b.2.unclear) ∙ sym b.1

-- ---- reading on

-- Of some sentences those that are left follow the rules that were read, of which there are so many.
pub record IsReadUpTo (g : Syntax) (d : Declaration) (text : List ℕ) (tokens : List Token) (before : List (List ℕ)) (ss left : List Sentence) (names : List (List ℕ)) (rules : List Rule) (number : ℕ) : Type 0 where
  pub goes : (more : List Rule) (later : List (List ℕ)) → AreWrittenRules g d text tokens names left more later → AreWrittenRules g d text tokens before ss (rules ++ more) later
  pub fails : (fault : DefFault) → IsFirstBad g d text tokens names (number + 1) left fault → IsFirstBad g d text tokens before 1 ss fault
  pub counted : number + length left ≡ length ss

module _ (g : Syntax) (d : Declaration) (text : List ℕ) (tokens : List Token) (before : List (List ℕ)) (ss : List Sentence) where
  pub read_none : IsReadUpTo g d text tokens before ss ss before [] 0
  read_none = record { goes = λ more later h. h; fails = λ fault h. h; counted = omega arith }

  module _ (left rest : List Sentence) (s : Sentence) (left_is : left ≡ s ∷ rest) (names : List (List ℕ)) (rules : List Rule) (number : ℕ) (up : IsReadUpTo g d text tokens before ss left names rules number) where
    pub read_one_more : (r : Rule) (after : List (List ℕ)) → IsWrittenRule g d text tokens names s r after → IsReadUpTo g d text tokens before ss rest after (rules ++ r ∷ []) (number + 1)
    read_one_more r after is = record {
      goes = λ more later h.
          subst (λ rs. AreWrittenRules g d text tokens before ss rs later) (sym (append_assoc rules (r ∷ []) more))
          (up.goes (r ∷ more) later (subst (λ l. AreWrittenRules g d text tokens names l (r ∷ more) later) (sym left_is) (after, is, h)));
      fails = λ fault h. up.fails fault (subst (λ l. IsFirstBad g d text tokens names (number + 1) l fault) (sym left_is) (inr (after, r, is, h)));
      counted = let n : number + length left ≡ length ss = up.counted in let l : length left ≡ suc (length rest) = ap length left_is in omega (arith, n, l);
    }

    pub fails_here : (fault : DefFault) → IsBadRule g d text tokens names (number + 1) s fault → IsFirstBad g d text tokens before 1 ss fault
    fails_here fault bad = up.fails fault (subst (λ l. IsFirstBad g d text tokens names (number + 1) l fault) (sym left_is) (inl bad))

  pub read_all : (names : List (List ℕ)) (rules : List Rule) (number : ℕ) (left : List Sentence) → left ≡ [] → IsReadUpTo g d text tokens before ss left names rules number
      → AreWrittenRules g d text tokens before ss rules names
  read_all names rules number left none up =
      subst (λ rs. AreWrittenRules g d text tokens before ss rs names) (append-nil rules)
      (up.goes [] names (subst (λ l. AreWrittenRules g d text tokens names l [] names) (sym none) refl))

-- as many rules as sentences
pub written_length : (g : Syntax) (d : Declaration) (text : List ℕ) (tokens : List Token) (before : List (List ℕ)) (ss : List Sentence) (rs : List Rule) (after : List (List ℕ))
    → AreWrittenRules g d text tokens before ss rs after → length rs ≡ length ss
written_length g d text tokens before [] [] after a = refl
written_length g d text tokens before [] (r ∷ rs) after a = absurd a
written_length g d text tokens before (s ∷ ss) [] after a = absurd a
written_length g d text tokens before (s ∷ ss) (r ∷ rs) after a = let l = written_length g d text tokens a.0 ss rs after a.2 in omega (arith, l)

-- ---- completing on

-- Of some drafts those that are left follow the ones that were completed. The rules begin with others, and are so many now.
pub record IsCompletedUpTo (d : Declaration) (drafts left : List Draft) (old rules : List Rule) (number : ℕ) : Type 0 where
  pub found : List Rule
  pub are : rules ≡ old ++ found
  pub goes : (more : List Rule) → AreCompleted d left more → AreCompleted d drafts (found ++ more)
  pub fails : (why : CellsUnclear) → IsFirstUnclear d (number + 1) left why → IsFirstUnclear d (length old + 1) drafts why
  pub counted : number + length left ≡ length old + length drafts

module _ (d : Declaration) (drafts : List Draft) (old : List Rule) where
  pub completed_none : (number : ℕ) → number ≡ length old → IsCompletedUpTo d drafts drafts old old number
  completed_none number is = record {
    found = [];
    are = sym (append-nil old);
    goes = λ more h. h;
    fails = λ why h. subst (λ n. IsFirstUnclear d (n + 1) drafts why) is h;
    counted = ap (λ n. n + length drafts) is;
  }

  module _ (left rest : List Draft) (draft : Draft) (left_is : left ≡ draft ∷ rest) (rules : List Rule) (number : ℕ) (up : IsCompletedUpTo d drafts left old rules number) where
    pub completed_one_more : (r : Rule) → IsCompleted d draft r → IsCompletedUpTo d drafts rest old (rules ++ r ∷ []) (number + 1)
    completed_one_more r is = record {
      found = up.found ++ r ∷ [];
      are = ap (λ rs. rs ++ r ∷ []) up.are ∙ append_assoc old up.found (r ∷ []);
      goes = λ more h.
          subst (AreCompleted d drafts) (sym (append_assoc up.found (r ∷ []) more))
          (up.goes (r ∷ more) (subst (λ l. AreCompleted d l (r ∷ more)) (sym left_is) (is, h)));
      fails = λ why h. up.fails why (subst (λ l. IsFirstUnclear d (number + 1) l why) (sym left_is) (inr ((r, is), h)));
      counted =
          let n : number + length left ≡ length old + length drafts = up.counted in
          let l : length left ≡ suc (length rest) = ap length left_is in omega (arith, n, l);
    }

    pub unclear_here : (why : CellsUnclear) → IsUnclear d draft (number + 1) why → IsFirstUnclear d (length old + 1) drafts why
    unclear_here why unclear = up.fails why (subst (λ l. IsFirstUnclear d (number + 1) l why) (sym left_is) (inl unclear))

  pub completed_all : (rules : List Rule) (number : ℕ) (left : List Draft) → left ≡ [] → IsCompletedUpTo d drafts left old rules number
      → (found : List Rule) × AreCompleted d drafts found × (rules ≡ old ++ found)
  completed_all rules number left none up =
      (up.found, subst (AreCompleted d drafts) (append-nil up.found) (up.goes [] (subst (λ l. AreCompleted d l []) (sym none) tt)), up.are)
