-- The tokens of base tokens, one after the other.
use Rattle.std.proofs.Common.{◌≡◌, ℕ, zero, suc, ◌+◌, ◌-◌, ◌<◌, ◌≤◌, Bool, true, false, ◌&&◌, ◌||◌, List, [], ◌∷◌, ◌++◌, length, drop, refl, sym, ap, subst, ◌∙◌, arith, Option, Some, None, length-drop, drop_of_length-le}
use Rattle.std.specs.Prelude.{if◌then◌else◌, nat_lt, not, codes, unwrap_or, option_map}
use Rattle.std.specs.List.{AllByRecursion}
use Rattle.std.proofs.lemmas.Bool.{and_parts}
use Rattle.std.proofs.lemmas.List.{drop-drop}
use Rattle.k_lexer.specs.declared.token.Kind.{Kind}
use Rattle.k_lexer.specs.declared.token.Kind.TheVariants.{Word as WordToken, Int, Str, Mark as MarkToken}
use Rattle.k_lexer.specs.declared.token.Token.{Token}
use Rattle.k_lexer.specs.Before.{Stands, AllStand}
use Rattle.production_reader.specs.Lexemes.{span}
use Rattle.production_reader.specs.Allowed.{is_sort, same_text}
use Rattle.grammar_terms.specs.Grammar.{sort_number}
use Rattle.program_tokens.specs.Terminals.{AreSame}
use Rattle.program_tokens.proofs.Reading.{drop_all, choose}
use Rattle.rule_tokens.specs.declared.signs.Sign.{Sign}
use Rattle.rule_tokens.specs.declared.signs.Sign.TheVariants.{Word}
use Rattle.rule_tokens.specs.declared.token.RuleKind.{RuleKind}
use Rattle.rule_tokens.specs.declared.token.RuleKind.TheVariants.{Open, Close, Rewrite, Then, MapsTo, Dots, Dot, Variable}
use Rattle.rule_tokens.specs.declared.token.RuleToken.{RuleToken}
use Rattle.rule_tokens.specs.declared.token.Found.{Found}
use Rattle.rule_tokens.specs.Signs.{marks, fits, ends, bytes_at}
use Rattle.rule_tokens.specs.Forms.{Lexicon, found, cell_number, last_place, terminal_size, terminal_of, terminal_at, signs_at, open_at, close_at, empty_at, is_wild, is_variable, name_of, variable_at, sorted_at, list_item_at, literal_as, literal_at, longer, longest, symbol_at, stands_at}
use Rattle.rule_tokens.specs.RuleTokens.{token_of, first_token, AreRuleTokens, IsInside}
use Rattle.rule_tokens.proofs.Runs.{ends_here, ends-le, end_inside, fits_run, terminal-le}

-- ---- what stands at a place is a run of adjacent base tokens

module _ (text : List ℕ) (at : ℕ) (tokens : List Token) where
  abbrev IsRun : Option Found → Type 0
  IsRun None = Unit {0}
  IsRun (Some found) = (0 < found.size) × (found.size ≤ length (ends at tokens))

  longer_run : (one other : Option Found) → IsRun one → IsRun other → IsRun (longer one other)
  longer_run None other p q = q
  longer_run (Some one) None p q = p
  longer_run (Some one) (Some other) p q = choose IsRun (nat_lt one.size other.size) (Some other) (Some one) q p

  where_run : (b : Bool) (o : Option Found) → (b ≡ true → IsRun o) → IsRun (if b then o else None)
  where_run true o run = run refl
  where_run false o run = tt

  looked_run : (number : Option ℕ) (make : ℕ → RuleKind) (size : ℕ) → 0 < size → size ≤ length (ends at tokens) → IsRun (elim number [ Some n ↦ found (make n) size | None ↦ None ])
  looked_run None make size some run = tt
  looked_run (Some n) make size some run = (some, run)

  signs_run : (signs : List Sign) (kind : RuleKind) → 0 < length signs → IsRun (signs_at text signs kind at tokens)
  signs_run signs kind some = where_run (fits text signs at tokens) (found kind (length signs)) (λ fit. (some, fits_run text signs at tokens fit))

  symbol_run : IsRun (symbol_at text at tokens)
  symbol_run =
      longer_run _ _ (signs_run (marks (codes "=>")) Rewrite (omega arith))
      (longer_run _ _ (signs_run (marks (codes "~>")) Then (omega arith))
      (longer_run _ _ (signs_run (marks (codes "|->")) MapsTo (omega arith))
      (longer_run _ _ (signs_run (marks (codes "...")) Dots (omega arith)) (signs_run (marks (codes ".")) (Dot None) (omega arith)))))

  open_run : (cells : List (List ℕ)) → IsRun (open_at cells text at tokens)
  open_run cells =
      where_run (fits text (marks (codes "<") ++ Word ∷ marks (codes ">")) at tokens) _
      (λ fit. looked_run (cell_number cells (bytes_at text tokens 1)) Open 3 (omega arith) (fits_run text (marks (codes "<") ++ Word ∷ marks (codes ">")) at tokens fit))

  close_run : (cells : List (List ℕ)) → IsRun (close_at cells text at tokens)
  close_run cells =
      where_run (fits text (marks (codes "</") ++ Word ∷ marks (codes ">")) at tokens) _
      (λ fit. looked_run (cell_number cells (bytes_at text tokens 2)) Close 4 (omega arith) (fits_run text (marks (codes "</") ++ Word ∷ marks (codes ">")) at tokens fit))

  empty_run : (sorts : List (List ℕ)) → IsRun (empty_at sorts text at tokens)
  empty_run sorts =
      where_run (fits text (marks (codes ".") ++ Word ∷ []) at tokens) _
      (λ fit. looked_run (sort_number sorts (bytes_at text tokens 1)) (λ sort. Dot (Some sort)) 2 (omega arith) (fits_run text (marks (codes ".") ++ Word ∷ []) at tokens fit))

  sorted_run : (terminals sorts names : List (List ℕ)) → IsRun (sorted_at terminals sorts names text at tokens)
  sorted_run terminals sorts names =
      where_run (fits text (Word ∷ marks (codes ":") ++ Word ∷ []) at tokens && is_variable terminals (bytes_at text tokens 0)) _
      (λ both.
      looked_run (sort_number sorts (bytes_at text tokens 2)) (λ sort. Variable (name_of names (bytes_at text tokens 0)) (Some sort)) 3 (omega arith)
      (fits_run text (Word ∷ marks (codes ":") ++ Word ∷ []) at tokens (and_parts (fits text (Word ∷ marks (codes ":") ++ Word ∷ []) at tokens) (is_variable terminals (bytes_at text tokens 0)) both).0))

  item_run : IsRun (list_item_at text at tokens)
  item_run =
      where_run (fits text (Word ∷ []) at tokens && same_text (bytes_at text tokens 0) (codes "ListItem")) _
      (λ both. (omega arith, fits_run text (Word ∷ []) at tokens (and_parts (fits text (Word ∷ []) at tokens) (same_text (bytes_at text tokens 0) (codes "ListItem")) both).0))

  variable_run : (terminals names : List (List ℕ)) → IsRun (variable_at terminals names text at tokens)
  variable_run terminals names =
      where_run (fits text (Word ∷ []) at tokens && is_variable terminals (bytes_at text tokens 0)) _
      (λ both. (omega arith, fits_run text (Word ∷ []) at tokens (and_parts (fits text (Word ∷ []) at tokens) (is_variable terminals (bytes_at text tokens 0)) both).0))

  terminal_run : (size : ℕ) → size ≤ length (ends at tokens) → IsRun (terminal_of text at tokens size)
  terminal_run zero least = tt
  terminal_run (suc n) least = (omega arith, least)

one_run : (text : List ℕ) (token : Token) (tokens : List Token) → 1 ≤ length (ends token.start (token ∷ tokens))
one_run text token tokens = omega (arith, ap length (ends_here token.start token tokens refl))

literal_run : (kind : Kind) (names : List (List ℕ)) (text : List ℕ) (token : Token) (tokens : List Token) → IsRun text token.start (token ∷ tokens) (literal_as kind names text token)
literal_run WordToken names text token tokens = (omega arith, one_run text token tokens)
literal_run Int names text token tokens = (omega arith, one_run text token tokens)
literal_run Str names text token tokens = (omega arith, one_run text token tokens)
literal_run MarkToken names text token tokens = tt

stands_run : (l : Lexicon) (text : List ℕ) (token : Token) (tokens : List Token) → IsRun text token.start (token ∷ tokens) (stands_at l text token.start (token ∷ tokens))
stands_run l text token tokens =
    let at = token.start in
    let all = token ∷ tokens in
    longer_run text at all _ _ (terminal_run text at all (terminal_size l.terminals text at all) (terminal-le l.terminals text at all))
    (longer_run text at all _ _ (symbol_run text at all)
    (longer_run text at all _ _ (open_run text at all l.cells)
    (longer_run text at all _ _ (close_run text at all l.cells)
    (longer_run text at all _ _ (empty_run text at all l.sorts)
    (longer_run text at all _ _ (sorted_run text at all l.terminals l.sorts l.names)
    (longer_run text at all _ _ (item_run text at all)
    (longer_run text at all _ _ (variable_run text at all l.terminals l.names) (literal_run token.kind l.names text token tokens))))))))

-- ---- the first token

-- what is known of the first token
pub record IsFirst (text : List ℕ) (tokens : List Token) (token : RuleToken) (size : ℕ) : Type 0 where
  pub some : 0 < size
  pub within : size ≤ length tokens
  pub inside : IsInside text token

abbrev pub taken : RuleToken → ℕ → Option (RuleToken × ℕ)
taken token size = Some (token, size)

pair_token : {one other : RuleToken} {m n : ℕ} → taken one m ≡ taken other n → one ≡ other
pair_token {one} {other} {m} {n} e = ap (λ (o : Option (RuleToken × ℕ)). (unwrap_or o (one, m)).0) e

pair_size : {one other : RuleToken} {m n : ℕ} → taken one m ≡ taken other n → m ≡ n
pair_size {one} {other} {m} {n} e = ap (λ (o : Option (RuleToken × ℕ)). (unwrap_or o (one, m)).1) e

pub same_token : {one other : RuleToken} {m n : ℕ} → taken one m ≡ taken other n → (one ≡ other) × (m ≡ n)
same_token e = (pair_token e, pair_size e)

pub no_token : {token : RuleToken} {n : ℕ} → ◌≡◌ {A = Option (RuleToken × ℕ)} None (Some (token, n)) → ⊥
no_token e = cc

made_first : (text : List ℕ) (at : ℕ) (tokens : List Token) (o : Option Found) (token : RuleToken) (size : ℕ) → AllStand text tokens → IsRun text at tokens o
    → option_map (token_of at tokens) o ≡ taken token size → IsFirst text tokens token size
made_first text at tokens None token size stand run is = absurd (no_token is)
made_first text at tokens (Some found) token size stand run is =
    let same : found.size ≡ size = pair_size is in
    let end = end_inside text at (found.size - 1) tokens stand (omega (arith, run.0, run.1)) in
    subst (λ t. IsFirst text tokens t size) (pair_token is) (record {
      some = omega (arith, run.0, same);
      within = omega (arith, run.1, same, ends-le at tokens);
      inside = end;
    })

pub first_is : (l : Lexicon) (text : List ℕ) (tokens : List Token) (token : RuleToken) (size : ℕ) → AllStand text tokens → first_token l text tokens ≡ taken token size
    → IsFirst text tokens token size
first_is l text [] token size stand is = absurd (no_token is)
first_is l text (first ∷ tokens) token size stand is = made_first text first.start (first ∷ tokens) (stands_at l text first.start (first ∷ tokens)) token size stand (stands_run l text first tokens) is

-- ---- all tokens

module _ (l : Lexicon) (text : List ℕ) where
  tokens_more : (tokens : List RuleToken) (token : RuleToken) (size : ℕ) (before after : List Token) → AreRuleTokens l text tokens before after
      → first_token l text after ≡ Some (token, size) → AreRuleTokens l text (tokens ++ token ∷ []) before (drop size after)
  tokens_more [] token size before after is next = (size, ap (first_token l text) is ∙ next, ap (drop size) is)
  tokens_more (first ∷ tokens) token size before after is next = (is.0, is.1, tokens_more tokens token size (drop is.0 before) after is.2 next)

  pub tokens_step : (tokens new : List RuleToken) (token : RuleToken) (size at : ℕ) (base : List Token) → AllStand text base → AreRuleTokens l text tokens base (drop at base) → at ≤ length base
      → first_token l text (drop at base) ≡ Some (token, size) → new ≡ tokens ++ token ∷ []
      → AreRuleTokens l text new base (drop (at + size) base) × (at + size ≤ length base) × (0 < size)
  tokens_step tokens new token size at base stand are within next is =
      let first = first_is l text (drop at base) token size (drop_all (Stands text) at base stand) next in
      let more = tokens_more tokens token size base (drop at base) are next in
      let places : drop size (drop at base) ≡ drop (at + size) base = drop-drop size at base in (
        subst (λ ts. AreRuleTokens l text ts base (drop (at + size) base)) (sym is)
            (subst (λ ts. AreRuleTokens l text (tokens ++ token ∷ []) base ts) places more),
        omega (arith, first.within, length-drop at base, within),
        first.some,
      )

  pub tokens_inside : (tokens : List RuleToken) (before after : List Token) → AllStand text before → AreRuleTokens l text tokens before after → AllByRecursion (IsInside text) tokens
  tokens_inside [] before after stand are = tt
  tokens_inside (token ∷ tokens) before after stand are =
      ((first_is l text before token are.0 stand are.1).inside, tokens_inside tokens (drop are.0 before) after (drop_all (Stands text) are.0 before stand) are.2)

  pub at_end : (at : ℕ) (base : List Token) → length base ≤ at → first_token l text (drop at base) ≡ None
  at_end at base past = ap (first_token l text) (drop_of_length-le base past)

-- ---- by two lists with the same terminals

module _ (some others : List (List ℕ)) (same : AreSame some others) (text : List ℕ) (at : ℕ) (tokens : List Token) where
  terminal_same : terminal_at some text at tokens ≡ terminal_at others text at tokens
  terminal_same = λ i. terminal_of text at tokens (last_place (λ end. same (span text at end) i) (ends at tokens))

  word_same : (word : List ℕ) → is_variable some word ≡ is_variable others word
  word_same word = ap (λ b. is_wild word || is_sort word && not b) (same word)

  variable_same : (names : List (List ℕ)) → variable_at some names text at tokens ≡ variable_at others names text at tokens
  variable_same names =
      ap (λ b. if fits text (Word ∷ []) at tokens && b then found (Variable (name_of names (bytes_at text tokens 0)) None) 1 else None) (word_same (bytes_at text tokens 0))

  sorted_same : (sorts names : List (List ℕ)) → sorted_at some sorts names text at tokens ≡ sorted_at others sorts names text at tokens
  sorted_same sorts names =
      ap
      (λ b.
      if fits text (Word ∷ marks (codes ":") ++ Word ∷ []) at tokens && b
      then elim (sort_number sorts (bytes_at text tokens 2)) [ Some sort ↦ found (Variable (name_of names (bytes_at text tokens 0)) (Some sort)) 3 | None ↦ None ] else None)
      (word_same (bytes_at text tokens 0))

abbrev with_terminals : Lexicon → List (List ℕ) → Lexicon
with_terminals l terminals = record { terminals = terminals; sorts = l.sorts; cells = l.cells; names = l.names }

module _ (l : Lexicon) (others : List (List ℕ)) (same : AreSame l.terminals others) where
  stands_same : (text : List ℕ) (at : ℕ) (tokens : List Token) → stands_at l text at tokens ≡ stands_at (with_terminals l others) text at tokens
  stands_same text at tokens = λ i.
      longer (terminal_same l.terminals others same text at tokens i)
      (longest (symbol_at text at tokens ∷ open_at l.cells text at tokens ∷ close_at l.cells text at tokens ∷ empty_at l.sorts text at tokens
      ∷ sorted_same l.terminals others same text at tokens l.sorts l.names i ∷ list_item_at text at tokens
      ∷ variable_same l.terminals others same text at tokens l.names i ∷ literal_at l.names text tokens ∷ []))

  pub first_same : (text : List ℕ) (tokens : List Token) → first_token l text tokens ≡ first_token (with_terminals l others) text tokens
  first_same text [] = refl
  first_same text (token ∷ tokens) = ap (option_map (token_of token.start (token ∷ tokens))) (stands_same text token.start (token ∷ tokens))

  pub tokens_same : (text : List ℕ) (tokens : List RuleToken) (before after : List Token) → AreRuleTokens l text tokens before after
      → AreRuleTokens (with_terminals l others) text tokens before after
  tokens_same text [] before after are = are
  tokens_same text (token ∷ tokens) before after are =
      (are.0, sym (first_same text before) ∙ are.1, tokens_same text tokens (drop are.0 before) after are.2)
