-- What a text is as a program is determined.
use Rattle.std.proofs.Common.{ℕ, min, ◌^◌, ◌-◌, ◌≡◌, ◌⊎◌, inl, inr, ◌<◌, ◌≤◌, List, length, Some, None, MatchResult, IfOk, IfErr, Result, Ok, Err, sym, ap, ◌∙◌, subst, arith}
use Rattle.k_terms.specs.declared.value.Value.{Value}
use Rattle.k_terms.specs.Value.{depth_of}
use Rattle.grammar_terms.specs.declared.shape.Shape.{Shape}
use Rattle.grammar_terms.specs.declared.word.Word.{Word}
use Rattle.grammar_terms.specs.Grammar.{Syntax}
use Rattle.grammar_terms.specs.Values.{value_of}
use Rattle.program_tokens.specs.declared.split.Split.{Split}
use Rattle.program_tokens.specs.Splits.{IsSplit}
use Rattle.program_reader.specs.declared.refusal.ReadRefusal.{ReadRefusal}
use Rattle.program_reader.specs.declared.refusal.ReadRefusal.TheVariants.{TooBig, TooLong, BadToken, WideNumber, NoReading, Ambiguous, TooDeep, Memory}
use Rattle.program_reader.specs.Readings.{IsOnlyReading, HasNoReading, AreAmbiguous}
use Rattle.program_reader.specs.Programs.{most_bytes, most_tokens, IsGood, IsBadSplit, IsOnlyValue, IsValue, HasNoValue, IsProgram, IsFaulty, IsRefused, IsLike}

-- ---- words

module _ (g : Syntax) (sort : ℕ) (words : List Word) where
  one_only : (v w : Value) → IsOnlyValue g sort words v → IsOnlyValue g sort words w → v ≡ w
  one_only v w one other = one.is ∙ ap (value_of g.prods words sort) (other.only.1 one.shape one.only.0) ∙ sym other.is

  only_reads : (shape : Shape) → IsOnlyReading g sort words shape → HasNoReading g sort words → ⊥
  only_reads shape only none = none shape only.0

  only_one : (shape : Shape) → IsOnlyReading g sort words shape → (v w : Value) → AreAmbiguous g sort words v w → ⊥
  only_one shape only v w two = two.differ (only.1 two.one two.is_one ∙ sym (only.1 two.other two.is_other))

  value_or_none : (v : Value) (refusal : ReadRefusal) → IsValue g sort words v → HasNoValue g sort words refusal → ⊥
  value_or_none v (NoReading at) value none = only_reads value.only.shape value.only.only none.1
  value_or_none v (Ambiguous first second) value none = only_one value.only.shape value.only.only first second none
  value_or_none v (TooDeep depth) value none =
      let same : depth_of v ≡ depth_of none.0 = ap depth_of (one_only v none.0 value.only none.1) in
      let deep : 400 < depth_of v = subst (λ n. 400 < n) (sym same) none.2 in
      let shallow : depth_of v ≤ 400 = value.shallow in absurd (omega (arith, deep, shallow))
  value_or_none v (TooBig bytes) value none = none
  value_or_none v (TooLong tokens) value none = none
  value_or_none v (BadToken at) value none = none
  value_or_none v (WideNumber at) value none = none
  value_or_none v Memory value none = none

  alike_none : (one other : ReadRefusal) → HasNoValue g sort words one → HasNoValue g sort words other → IsLike one other
  alike_none (NoReading at) (NoReading place) first second = ap NoReading (first.0 ∙ sym second.0)
  alike_none (NoReading at) (Ambiguous v w) first second = absurd (first.1 second.one second.is_one)
  alike_none (NoReading at) (TooDeep depth) first second = absurd (only_reads second.1.shape second.1.only first.1)
  alike_none (Ambiguous v w) (NoReading at) first second = absurd (second.1 first.one first.is_one)
  alike_none (Ambiguous v w) (Ambiguous u t) first second = tt
  alike_none (Ambiguous v w) (TooDeep depth) first second = absurd (only_one second.1.shape second.1.only v w first)
  alike_none (TooDeep depth) (NoReading at) first second = absurd (only_reads first.1.shape first.1.only second.1)
  alike_none (TooDeep depth) (Ambiguous v w) first second = absurd (only_one first.1.shape first.1.only v w second)
  alike_none (TooDeep depth) (TooDeep more) first second =
      ap TooDeep (first.3 ∙ ap (λ v. min (depth_of v) (2 ^ 32 - 1)) (one_only first.0 second.0 first.1 second.1) ∙ sym second.3)
  alike_none (TooBig bytes) other first second = elim first [ ]
  alike_none (TooLong tokens) other first second = elim first [ ]
  alike_none (BadToken at) other first second = elim first [ ]
  alike_none (WideNumber at) other first second = elim first [ ]
  alike_none Memory other first second = elim first [ ]
  alike_none (NoReading at) (TooBig bytes) first second = elim second [ ]
  alike_none (NoReading at) (TooLong tokens) first second = elim second [ ]
  alike_none (NoReading at) (BadToken place) first second = elim second [ ]
  alike_none (NoReading at) (WideNumber place) first second = elim second [ ]
  alike_none (NoReading at) Memory first second = elim second [ ]
  alike_none (Ambiguous v w) (TooBig bytes) first second = elim second [ ]
  alike_none (Ambiguous v w) (TooLong tokens) first second = elim second [ ]
  alike_none (Ambiguous v w) (BadToken place) first second = elim second [ ]
  alike_none (Ambiguous v w) (WideNumber place) first second = elim second [ ]
  alike_none (Ambiguous v w) Memory first second = elim second [ ]
  alike_none (TooDeep depth) (TooBig bytes) first second = elim second [ ]
  alike_none (TooDeep depth) (TooLong tokens) first second = elim second [ ]
  alike_none (TooDeep depth) (BadToken place) first second = elim second [ ]
  alike_none (TooDeep depth) (WideNumber place) first second = elim second [ ]
  alike_none (TooDeep depth) Memory first second = elim second [ ]

-- ---- splits

good_or_bad : (split : Split) (refusal : ReadRefusal) → IsGood split → IsBadSplit split refusal → ⊥
good_or_bad split (TooLong tokens) good bad = let few : length split.words ≤ most_tokens = good.few in let many : most_tokens < length split.words = bad.1 in absurd (omega (arith, few, many))
good_or_bad split (BadToken at) good bad = let same : None ≡ Some at = sym good.no_bad ∙ bad.1 in cc
good_or_bad split (WideNumber at) good bad = let same : None ≡ Some at = sym good.no_wide ∙ bad.2 in cc
good_or_bad split (TooBig bytes) good bad = bad
good_or_bad split (NoReading at) good bad = bad
good_or_bad split (Ambiguous v w) good bad = bad
good_or_bad split (TooDeep depth) good bad = bad
good_or_bad split Memory good bad = bad

over_and_under : (n : ℕ) → most_tokens < n → n ≤ most_tokens → ⊥
over_and_under n over under = omega (arith, over, under)

some_same : (x y : ℕ) → Some x ≡ Some y → x ≡ y
some_same x y same = cc

some_none : (x : ℕ) → Some x ≡ None → ⊥
some_none x same = cc

alike_bad : (split : Split) (one other : ReadRefusal) → IsBadSplit split one → IsBadSplit split other → IsLike one other
alike_bad split (TooLong n) (TooLong m) first second = ap TooLong (first.0 ∙ sym second.0)
alike_bad split (TooLong n) (BadToken at) first second = absurd (over_and_under (length split.words) first.1 second.0)
alike_bad split (TooLong n) (WideNumber at) first second = absurd (over_and_under (length split.words) first.1 second.0)
alike_bad split (BadToken at) (TooLong n) first second = absurd (over_and_under (length split.words) second.1 first.0)
alike_bad split (BadToken at) (BadToken place) first second = ap BadToken (some_same at place (sym first.1 ∙ second.1))
alike_bad split (BadToken at) (WideNumber place) first second = absurd (some_none at (sym first.1 ∙ second.1))
alike_bad split (WideNumber at) (TooLong n) first second = absurd (over_and_under (length split.words) second.1 first.0)
alike_bad split (WideNumber at) (BadToken place) first second = absurd (some_none place (sym second.1 ∙ first.1))
alike_bad split (WideNumber at) (WideNumber place) first second = ap WideNumber (some_same at place (sym first.2 ∙ second.2))
alike_bad split (TooBig bytes) other first second = elim first [ ]
alike_bad split (NoReading at) other first second = elim first [ ]
alike_bad split (Ambiguous v w) other first second = elim first [ ]
alike_bad split (TooDeep depth) other first second = elim first [ ]
alike_bad split Memory other first second = elim first [ ]
alike_bad split (TooLong n) (TooBig bytes) first second = elim second [ ]
alike_bad split (TooLong n) (NoReading at) first second = elim second [ ]
alike_bad split (TooLong n) (Ambiguous v w) first second = elim second [ ]
alike_bad split (TooLong n) (TooDeep depth) first second = elim second [ ]
alike_bad split (TooLong n) Memory first second = elim second [ ]
alike_bad split (BadToken place) (TooBig bytes) first second = elim second [ ]
alike_bad split (BadToken place) (NoReading at) first second = elim second [ ]
alike_bad split (BadToken place) (Ambiguous v w) first second = elim second [ ]
alike_bad split (BadToken place) (TooDeep depth) first second = elim second [ ]
alike_bad split (BadToken place) Memory first second = elim second [ ]
alike_bad split (WideNumber place) (TooBig bytes) first second = elim second [ ]
alike_bad split (WideNumber place) (NoReading at) first second = elim second [ ]
alike_bad split (WideNumber place) (Ambiguous v w) first second = elim second [ ]
alike_bad split (WideNumber place) (TooDeep depth) first second = elim second [ ]
alike_bad split (WideNumber place) Memory first second = elim second [ ]

-- ---- texts

-- a text is split in one way
abbrev OneSplit : Type 0
OneSplit = (g : Syntax) (before : List (List ℕ)) (text : List ℕ) (after others : List (List ℕ)) (one other : Split) → IsSplit g before text after one → IsSplit g before text others other
    → (after ≡ others) × (one ≡ other)

-- what may be wrong with a split
abbrev IsWrong : Syntax → ℕ → Split → ReadRefusal → Type 0
IsWrong g sort split refusal = IsBadSplit split refusal ⊎ (IsGood split × HasNoValue g sort split.words refusal)

right_or_wrong : (g : Syntax) (sort : ℕ) (split : Split) (v : Value) (refusal : ReadRefusal) → IsGood split → IsValue g sort split.words v → IsWrong g sort split refusal → ⊥
right_or_wrong g sort split v refusal good value (inl bad) = good_or_bad split refusal good bad
right_or_wrong g sort split v refusal good value (inr none) = value_or_none g sort split.words v refusal value none.1

alike_wrong : (g : Syntax) (sort : ℕ) (split : Split) (one other : ReadRefusal) → IsWrong g sort split one → IsWrong g sort split other → IsLike one other
alike_wrong g sort split one other (inl bad) (inl worse) = alike_bad split one other bad worse
alike_wrong g sort split one other (inl bad) (inr none) = absurd (good_or_bad split one none.0 bad)
alike_wrong g sort split one other (inr none) (inl bad) = absurd (good_or_bad split other none.0 bad)
alike_wrong g sort split one other (inr none) (inr nothing) = alike_none g sort split.words one other none.1 nothing.1

over_and_within : (n : ℕ) → most_bytes < n → n ≤ most_bytes → ⊥
over_and_within n over under = omega (arith, over, under)

-- a refusal is one of a text that is too long, or a fault
by_length : (g : Syntax) (before : List (List ℕ)) (sort : ℕ) (text : List ℕ) (after : List (List ℕ)) (refusal : ReadRefusal) → IsRefused g before sort text after refusal
    → ((refusal ≡ TooBig most_bytes) × (most_bytes < length text) × (after ≡ before)) ⊎ IsFaulty g before sort text after refusal
by_length g before sort text after (TooBig bytes) refused = inl (ap TooBig refused.0, refused.1, refused.2)
by_length g before sort text after (TooLong tokens) refused = inr refused
by_length g before sort text after (BadToken at) refused = inr refused
by_length g before sort text after (WideNumber at) refused = inr refused
by_length g before sort text after (NoReading at) refused = inr refused
by_length g before sort text after (Ambiguous v w) refused = inr refused
by_length g before sort text after (TooDeep depth) refused = inr refused
by_length g before sort text after Memory refused = inr refused

like_same : (one other : ReadRefusal) → one ≡ other → IsLike one other
like_same (Ambiguous v w) other same = subst (IsLike (Ambiguous v w)) same tt
like_same (TooBig bytes) other same = same
like_same (TooLong tokens) other same = same
like_same (BadToken at) other same = same
like_same (WideNumber at) other same = same
like_same (NoReading at) other same = same
like_same (TooDeep depth) other same = same
like_same Memory other same = same

module _ (one_split : OneSplit) where
  pub one_value : (g : Syntax) (before : List (List ℕ)) (sort : ℕ) (text : List ℕ) (after later : List (List ℕ)) (one other : Value)
      → IsProgram g before sort text after one → IsProgram g before sort text later other → (after ≡ later) × (one ≡ other)
  one_value g before sort text after later one other first second =
      let same = one_split g before text after later first.split second.split first.is_split second.is_split in
      let moved : IsValue g sort first.split.words other = subst (λ (split : Split). IsValue g sort split.words other) (sym same.1) second.is_value in
      (same.0, one_only g sort first.split.words one other first.is_value.only moved.only)

  program_or_faulty : (g : Syntax) (before : List (List ℕ)) (sort : ℕ) (text : List ℕ) (after later : List (List ℕ)) (v : Value) (refusal : ReadRefusal)
      → IsProgram g before sort text after v → IsFaulty g before sort text later refusal → ⊥
  program_or_faulty g before sort text after later v refusal program faulty =
      let same = one_split g before text after later program.split faulty.split program.is_split faulty.is_split in
      right_or_wrong g sort program.split v refusal program.good program.is_value (subst (λ split. IsWrong g sort split refusal) (sym same.1) faulty.is)

  pub not_both : (g : Syntax) (before : List (List ℕ)) (sort : ℕ) (text : List ℕ) (after later : List (List ℕ)) (v : Value) (refusal : ReadRefusal)
      → IsProgram g before sort text after v → IsRefused g before sort text later refusal → ⊥
  not_both g before sort text after later v refusal program refused = elim (by_length g before sort text later refusal refused) [
    | inl long ↦ over_and_within (length text) long.1 program.fits
    | inr faulty ↦ program_or_faulty g before sort text after later v refusal program faulty
  ]

  alike_faulty : (g : Syntax) (before : List (List ℕ)) (sort : ℕ) (text : List ℕ) (after later : List (List ℕ)) (one other : ReadRefusal)
      → IsFaulty g before sort text after one → IsFaulty g before sort text later other → (after ≡ later) × IsLike one other
  alike_faulty g before sort text after later one other first second =
      let same = one_split g before text after later first.split second.split first.is_split second.is_split in
      (same.0, alike_wrong g sort first.split one other first.is (subst (λ split. IsWrong g sort split other) (sym same.1) second.is))

  pub one_refusal : (g : Syntax) (before : List (List ℕ)) (sort : ℕ) (text : List ℕ) (after later : List (List ℕ)) (one other : ReadRefusal)
      → IsRefused g before sort text after one → IsRefused g before sort text later other → (after ≡ later) × IsLike one other
  one_refusal g before sort text after later one other first second = elim (by_length g before sort text after one first) [
    | inl long ↦ elim (by_length g before sort text later other second) [
      | inl longer ↦ (long.2 ∙ sym longer.2, like_same one other (long.0 ∙ sym longer.0))
      | inr faulty ↦ absurd (over_and_within (length text) long.1 faulty.fits)
    ]
    | inr faulty ↦ elim (by_length g before sort text later other second) [
      | inl long ↦ absurd (over_and_within (length text) long.1 faulty.fits)
      | inr faulted ↦ alike_faulty g before sort text after later one other faulty faulted
    ]
  ]

  -- an answer is the one that the text has, or want of memory
  pub exactly : (g : Syntax) (before : List (List ℕ)) (sort : ℕ) (text : List ℕ) (now : List (List ℕ)) (result : Result Value ReadRefusal)
      → IfOk result (λ value. IsProgram g before sort text now value) → IfErr result (λ refusal. (refusal ≡ Memory) ⊎ IsRefused g before sort text now refusal)
      → (after : List (List ℕ)) (v : Value) → IsProgram g before sort text after v → MatchResult result (λ it. it ≡ v) (λ refusal. refusal ≡ Memory)
  exactly g before sort text now (Ok w) ok refused after v program = (one_value g before sort text now after w v ok program).1
  exactly g before sort text now (Err refusal) ok refused after v program = elim refused [ inl memory ↦ memory | inr is ↦ absurd (not_both g before sort text after now v refusal program is) ]

  pub exactly_refused : (g : Syntax) (before : List (List ℕ)) (sort : ℕ) (text : List ℕ) (now : List (List ℕ)) (result : Result Value ReadRefusal)
      → IfOk result (λ value. IsProgram g before sort text now value) → IfErr result (λ refusal. (refusal ≡ Memory) ⊎ IsRefused g before sort text now refusal)
      → (after : List (List ℕ)) (refusal : ReadRefusal) → IsRefused g before sort text after refusal → MatchResult result (λ it. ⊥) (λ other. (other ≡ Memory) ⊎ IsLike refusal other)
  exactly_refused g before sort text now (Ok w) ok refused after refusal is = not_both g before sort text now after w refusal ok is
  exactly_refused g before sort text now (Err other) ok refused after refusal is = elim refused [ inl memory ↦ inl memory | inr also ↦ inr (one_refusal g before sort text after now refusal other is also).1 ]
