-- The phases one after the other.
use Rattle.std.proofs.Common.{◌≡◌, ◌⊎◌, inl, inr, ℕ, zero, suc, ◌+◌, ◌<◌, Bool, true, false, List, [], ◌∷◌, ◌++◌, length, map, take, get_or, refl, sym, ap, ◌∙◌, subst, arith}
use Rattle.k_lexer.specs.declared.token.Token.{Token}
use Rattle.k_terms.specs.declared.value.Symbol.{Symbol}
use Rattle.grammar_terms.specs.Grammar.{Syntax}
use Rattle.grammar_terms.specs.declared.word.Word.{Word}
use Rattle.file_reader.specs.declared.sentence.Sentence.{Sentence}
use Rattle.file_reader.specs.declared.sentence.Sentence.TheVariants.{Rule as RuleOf}
use Rattle.rule_terms.specs.declared.defs.CellShape.{CellShape}
use Rattle.rule_terms.specs.declared.rule.Draft.{Draft}
use Rattle.rule_tokens.specs.declared.token.RuleToken.{RuleToken}
use Rattle.rule_tokens.specs.declared.split.RuleSplit.{RuleSplit}
use Rattle.rule_tokens.specs.Splits.{IsRuleSplit}
use Rattle.rule_cells.specs.declared.form.RuleForm.{RuleForm}
use Rattle.rule_cells.specs.Forms.{IsForm}
use Rattle.rule_contents.specs.Words.{word_of}
use Rattle.rule_parts.specs.declared.argument_sorts.Productions.{Productions}
use Rattle.rule_parts.specs.Productions.{productions_of}
use Rattle.rule_drafts.specs.declared.fault.DraftFault.{DraftFault}
use Rattle.rule_drafts.specs.declared.reading.Reading.{Reading}
use Rattle.rule_drafts.specs.declared.reading.RuleReading.{RuleReading}
use Rattle.rule_drafts.specs.Drafts.{IsDraft, IsDraftFault}
use Rattle.rule_reader.specs.declared.contents.Content.{Content}
use Rattle.rule_reader.specs.declared.refusal.RuleFault.{RuleFault}
use Rattle.rule_reader.specs.declared.refusal.RuleFault.TheVariants.{TooMany, BadToken, WideNumber, Unsorted, SortClash, NoReading, AmbiguousAt, PatternForm, NotBoundLeft, Memory}
use Rattle.rule_reader.specs.Contents.{cell_k}
use Rattle.rule_reader.specs.Places.{between, base_place}
use Rattle.rule_reader.specs.Told.{is_memory, told_draft}
use Rattle.rule_reader.specs.Readings.{IsReadAs, AreReadAs, IsUnreadAs, IsFirstUnread, IsReadForm}
use Rattle.rule_reader.specs.Rules.{IsReadDraft, HasReadFault, HasFormedFault, HasSplitFault, rule_at, IsRefused, IsWant}

-- ---- contents

module _ (g : Syntax) (cells : List CellShape) (tokens : List RuleToken) (words : List Word) (behind : ℕ) where
  unread_at : (contents : List Content) (i : ℕ) (none content : Content) (readings : List Reading) (fault : RuleFault) → i < length contents → content ≡ get_or contents i none
      → AreReadAs g cells words (take i contents) readings → IsUnreadAs g cells tokens words behind content fault → IsFirstUnread g cells tokens words behind contents fault
  unread_at [] i none content readings fault within is read bad = absurd (omega arith)
  unread_at (c ∷ cs) zero none content readings fault within is read bad = inl (subst (λ (x : Content). IsUnreadAs g cells tokens words behind x fault) is bad)
  unread_at (c ∷ cs) (suc i) none content [] fault within is read bad = absurd read
  unread_at (c ∷ cs) (suc i) none content (r ∷ rs) fault within is read bad = inr ((r, read.0), unread_at cs i none content rs fault (omega arith) is read.1 bad)

  -- a content that is not read behind others that are
  pub first_unread : (contents : List Content) (i : ℕ) (none content : Content) (readings : List Reading) (fault : RuleFault) → i < length contents → content ≡ get_or contents i none
      → AreReadAs g cells words (take i contents) readings → (fault ≡ Memory) ⊎ IsUnreadAs g cells tokens words behind content fault
      → (fault ≡ Memory) ⊎ IsFirstUnread g cells tokens words behind contents fault
  first_unread contents i none content readings fault within is read (inl memory) = inl memory
  first_unread contents i none content readings fault within is read (inr bad) = inr (unread_at contents i none content readings fault within is read bad)

one_more : (i : ℕ) → i + 1 ≡ suc i
one_more i = omega arith

module _ (g : Syntax) (cells : List CellShape) (words : List Word) where
  read_at : (contents : List Content) (i : ℕ) (none content : Content) (readings : List Reading) (reading : Reading) → i < length contents → content ≡ get_or contents i none
      → AreReadAs g cells words (take i contents) readings → IsReadAs g cells words content reading → AreReadAs g cells words (take (suc i) contents) (readings ++ reading ∷ [])
  read_at [] i none content readings reading within is read one = absurd (omega arith)
  read_at (c ∷ cs) zero none content [] reading within is read one = (subst (λ (x : Content). IsReadAs g cells words x reading) is one, tt)
  read_at (c ∷ cs) zero none content (r ∷ rs) reading within is read one = absurd read
  read_at (c ∷ cs) (suc i) none content [] reading within is read one = absurd read
  read_at (c ∷ cs) (suc i) none content (r ∷ rs) reading within is read one = (read.0, read_at cs i none content rs reading (omega arith) is read.1 one)

  -- one content more is read
  pub read_next : (contents : List Content) (i : ℕ) (none content : Content) (readings now : List Reading) (reading : Reading) → i < length contents → content ≡ get_or contents i none
      → AreReadAs g cells words (take i contents) readings → IsReadAs g cells words content reading → now ≡ readings ++ reading ∷ [] → AreReadAs g cells words (take (i + 1) contents) now
  read_next contents i none content readings now reading within is read one pushed =
      subst (λ n. AreReadAs g cells words (take n contents) now) (sym (one_more i))
      (subst (AreReadAs g cells words (take (suc i) contents)) (sym pushed) (read_at contents i none content readings reading within is read one))

-- ---- the draft of what was read

module _ (g : Syntax) (cells : List CellShape) (names : List (List ℕ)) (text : List ℕ) (tokens : List RuleToken) (at behind : ℕ) (sorts : List (Symbol × ℕ)) (form : RuleForm)
    (words : List Word) (k : ℕ) (prods : Productions) (reading : RuleReading) (words_are : words ≡ map (word_of sorts) tokens) (k_is : k ≡ cell_k cells) (prods_are : prods ≡ productions_of g)
    (read : IsReadForm g cells words at form reading) where
  read_over : IsReadForm g cells (map (word_of sorts) tokens) at form reading
  read_over = subst (λ (ws : List Word). IsReadForm g cells ws at form reading) words_are read

  pub draft_made : (draft : Draft) → IsDraft k prods cells tokens words reading draft → IsReadDraft g cells names text tokens at behind sorts form draft
  draft_made draft is = record {
    reading = reading;
    read = read_over;
    is =
        subst (λ (ws : List Word). IsDraft (cell_k cells) (productions_of g) cells tokens ws reading draft) words_are
        (subst (λ (p : Productions). IsDraft (cell_k cells) p cells tokens words reading draft) prods_are (subst (λ n. IsDraft n prods cells tokens words reading draft) k_is is));
  }

  pub draft_refused : (why : DraftFault) (fault : RuleFault) → IsDraftFault k prods cells tokens words reading why → (fault ≡ Memory) ⊎ (fault ≡ told_draft names tokens behind why)
      → (fault ≡ Memory) ⊎ HasReadFault g cells names text tokens at behind sorts form fault
  draft_refused why fault is (inl memory) = inl memory
  draft_refused why fault is (inr told) = inr (inr (record {
    reading = reading;
    read = read_over;
    why = why;
    is =
        subst (λ (ws : List Word). IsDraftFault (cell_k cells) (productions_of g) cells tokens ws reading why) words_are
        (subst (λ (p : Productions). IsDraftFault (cell_k cells) p cells tokens words reading why) prods_are (subst (λ n. IsDraftFault n prods cells tokens words reading why) k_is is));
    told = told;
  }))

-- a fault behind the form
pub formed_later : (g : Syntax) (cells : List CellShape) (names : List (List ℕ)) (text : List ℕ) (tokens : List RuleToken) (at behind : ℕ) (sorts : List (Symbol × ℕ)) (form : RuleForm)
    (fault : RuleFault) → IsForm cells text tokens form → (fault ≡ Memory) ⊎ HasReadFault g cells names text tokens at behind sorts form fault
    → (fault ≡ Memory) ⊎ HasFormedFault g cells names text tokens at behind sorts fault
formed_later g cells names text tokens at behind sorts form fault is (inl memory) = inl memory
formed_later g cells names text tokens at behind sorts form fault is (inr bad) = inr (inr (record { form = form; form_is = is; is = bad }))

-- ---- rules

memory_is : (fault : RuleFault) → is_memory fault ≡ true → fault ≡ Memory
memory_is Memory is = refl
memory_is (TooMany what n) is = cc
memory_is (BadToken at) is = cc
memory_is (WideNumber at) is = cc
memory_is (Unsorted var) is = cc
memory_is (SortClash var first second) is = cc
memory_is (NoReading at) is = cc
memory_is (AmbiguousAt at) is = cc
memory_is (PatternForm at) is = cc
memory_is (NotBoundLeft var) is = cc

module _ (g inside : Syntax) (cells : List CellShape) (before after : List (List ℕ)) (text : List ℕ) (tokens base : List Token) (rule : Sentence) (at first past behind : ℕ) (split : RuleSplit)
    (same : inside ≡ g) (is : rule ≡ RuleOf at first past) (base_is : base ≡ between tokens first past) (behind_is : behind ≡ base_place text tokens past)
    (split_is : IsRuleSplit inside cells before text base after split) where
  told_want : (fault : RuleFault) → fault ≡ Memory → IsWant rule (record { at = at; fault = fault })
  told_want fault memory = λ i. record { at = rule_at ((sym is) i); fault = memory i }

  refused_so : (fault : RuleFault) → is_memory fault ≡ false → HasSplitFault g cells after text split at behind fault
      → IsRefused g cells before text tokens (RuleOf at first past) after (record { at = at; fault = fault })
  refused_so fault proper bad = record {
    split = split;
    split_is = subst (λ (s : Syntax). IsRuleSplit s cells before text (between tokens first past) after split) same
        (subst (λ (ts : List Token). IsRuleSplit inside cells before text ts after split) base_is split_is);
    at_is = refl;
    proper = proper;
    is = subst (λ n. HasSplitFault g cells after text split at n fault) behind_is bad;
  }

  by_word : (fault : RuleFault) (word : Bool) → is_memory fault ≡ word → HasSplitFault g cells after text split at behind fault
      → IsWant rule (record { at = at; fault = fault }) ⊎ IsRefused g cells before text tokens rule after (record { at = at; fault = fault })
  by_word fault true word bad = inl (told_want fault (memory_is fault word))
  by_word fault false word bad = inr (subst (λ (r : Sentence). IsRefused g cells before text tokens r after (record { at = at; fault = fault })) (sym is) (refused_so fault word bad))

  pub rule_refused : (fault : RuleFault) → (fault ≡ Memory) ⊎ HasSplitFault g cells after text split at behind fault
      → IsWant rule (record { at = at; fault = fault }) ⊎ IsRefused g cells before text tokens rule after (record { at = at; fault = fault })
  rule_refused fault (inl memory) = inl (told_want fault memory)
  rule_refused fault (inr bad) = by_word fault (is_memory fault) refl bad
