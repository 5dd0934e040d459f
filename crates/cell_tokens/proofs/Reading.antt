-- The tokens of base tokens, one after the other.
use Rattle.std.proofs.Common.{◌≡◌, ℕ, zero, suc, ◌+◌, ◌<◌, ◌≤◌, Bool, true, false, ◌&&◌, List, [], ◌∷◌, ◌++◌, length, drop, refl, sym, ap, subst, ◌∙◌, arith, Option, Some, None, length-drop}
use Rattle.std.specs.Prelude.{if◌then◌else◌, cond, nat_lt, codes, unwrap_or, option_map}
use Rattle.std.proofs.lemmas.Bool.{and_parts}
use Rattle.std.proofs.lemmas.List.{drop-drop}
use Rattle.k_lexer.specs.declared.token.Kind.{Kind}
use Rattle.k_lexer.specs.declared.token.Kind.TheVariants.{Word as WordToken, Int, Str, Mark as MarkToken}
use Rattle.k_lexer.specs.declared.token.Token.{Token}
use Rattle.production_reader.specs.Lexemes.{span}
use Rattle.production_reader.specs.Allowed.{same_text}
use Rattle.grammar_terms.specs.Grammar.{sort_number}
use Rattle.program_tokens.specs.Base.{bytes_of}
use Rattle.program_tokens.specs.Terminals.{AreSame}
use Rattle.program_tokens.specs.Words.{are_wide}
use Rattle.program_tokens.proofs.Reading.{choose}
use Rattle.cell_tokens.specs.declared.signs.Sign.{Sign}
use Rattle.cell_tokens.specs.declared.signs.Sign.TheVariants.{Word}
use Rattle.cell_tokens.specs.declared.token.CellKind.{CellKind}
use Rattle.cell_tokens.specs.declared.token.CellKind.TheVariants.{Program, Then, MapsTo, Dot, LeftBracket, RightBracket}
use Rattle.cell_tokens.specs.declared.token.CellToken.{CellToken}
use Rattle.cell_tokens.specs.Signs.{marks, fits, ends, bytes_at, end_at}
use Rattle.cell_tokens.specs.Tags.{is_mark_at, is_multiplicity, is_attribute, with_attribute, attributes}
use Rattle.cell_tokens.specs.Forms.{Lexicon, found, last_place, terminal_size, terminal_of, terminal_at, signs_at, tag_found, open_at, close_at, in_place, program_at, input_at, empty_sort, empty_at, list_item_at, literal_as, longer, symbol_at, other_at, stands_at, bad_token}
use Rattle.cell_tokens.specs.CellTokens.{first_token, AreCellTokens}
use Rattle.cell_tokens.proofs.Runs.{ends-le, fits_run, terminal-le}

-- ---- what stands at a place is made of base tokens that stand there

fits_within : (text : List ℕ) (signs : List Sign) (at : ℕ) (tokens : List Token) → fits text signs at tokens ≡ true → length signs ≤ length tokens
fits_within text signs at tokens fit = let run = fits_run text signs at tokens fit in let most = ends-le at tokens in omega (arith, run, most)

abbrev IsFew : ℕ → Option (Bool × ℕ) → Type 0
IsFew most None = Unit {0}
IsFew most (Some rest) = (0 < rest.1) × (rest.1 ≤ most)

few_closing : (b : Bool) (most : ℕ) → 0 < most → IsFew most (cond b (Some (false, 1)) None)
few_closing true most some = (omega arith, omega (arith, some))
few_closing false most some = tt

few_more : (many : Bool) (most : ℕ) (o : Option (Bool × ℕ)) → IsFew most o → IsFew (3 + most) (option_map (with_attribute many) o)
few_more many most None few = tt
few_more many most (Some rest) few = (omega arith, let less = few.1 in omega (arith, less))

few_by : (b c : Bool) (most : ℕ) (o : Option (Bool × ℕ)) → 0 < most → IsFew most o → IsFew most (cond b (Some (false, 1)) (cond c o None))
few_by true c most o some few = (omega arith, omega (arith, some))
few_by false true most o some few = few
few_by false false most o some few = tt

few_attributes : (text : List ℕ) (at : ℕ) (tokens : List Token) → IsFew (length tokens) (attributes text at tokens)
unfolding attributes
few_attributes text at [] = tt
few_attributes text at (token ∷ []) = few_closing (is_mark_at text 62 at token) 1 (omega arith)
few_attributes text at (token ∷ other ∷ []) = few_closing (is_mark_at text 62 at token) 2 (omega arith)
few_attributes text at (name ∷ equals ∷ value ∷ tokens) =
    let o = option_map (with_attribute (is_multiplicity (bytes_of text name))) (attributes text value.end tokens) in
    let e : 3 + length tokens ≡ length (name ∷ equals ∷ value ∷ tokens) = omega arith in
    few_by (is_mark_at text 62 at name) (is_attribute text at name equals value) (length (name ∷ equals ∷ value ∷ tokens)) o (omega arith)
    (subst (λ n. IsFew n o) e (few_more (is_multiplicity (bytes_of text name)) (length tokens) (attributes text value.end tokens) (few_attributes text value.end tokens)))

module _ (text : List ℕ) (at : ℕ) (tokens : List Token) where
  abbrev IsRun : Option CellToken → Type 0
  IsRun None = Unit {0}
  IsRun (Some found) = (0 < found.size) × (found.size ≤ length tokens)

  longer_run : (one other : Option CellToken) → IsRun one → IsRun other → IsRun (longer one other)
  longer_run None other p q = q
  longer_run (Some one) None p q = p
  longer_run (Some one) (Some other) p q = choose IsRun (nat_lt one.size other.size) (Some other) (Some one) q p

  where_run : (b : Bool) (o : Option CellToken) → (b ≡ true → IsRun o) → IsRun (if b then o else None)
  where_run true o run = run refl
  where_run false o run = tt

  looked_run : (number : Option ℕ) (make : ℕ → CellKind) (size : ℕ) → 0 < size → size ≤ length tokens → IsRun (elim number [ Some n ↦ found (make n) size | None ↦ None ])
  looked_run None make size some run = tt
  looked_run (Some n) make size some run = (some, run)

  signs_run : (signs : List Sign) (kind : CellKind) → 0 < length signs → IsRun (signs_at text signs kind at tokens)
  signs_run signs kind some = where_run (fits text signs at tokens) (found kind (length signs)) (λ fit. (some, fits_within text signs at tokens fit))

  symbol_run : IsRun (symbol_at text at tokens)
  symbol_run =
      longer_run _ _ (signs_run (marks (codes "~>")) Then (omega arith))
      (longer_run _ _ (signs_run (marks (codes "|->")) MapsTo (omega arith))
      (longer_run _ _ (signs_run (marks (codes ".")) (Dot None) (omega arith))
      (longer_run _ _ (signs_run (marks (codes "(")) LeftBracket (omega arith)) (signs_run (marks (codes ")")) RightBracket (omega arith)))))

  tag_run : (name : List ℕ) (o : Option (Bool × ℕ)) → 2 ≤ length tokens → IsFew (length (drop 2 tokens)) o → IsRun (option_map (tag_found name) o)
  tag_run name None two few = tt
  tag_run name (Some rest) two few = let most = few.1 in let size = length-drop 2 tokens in (omega arith, omega (arith, two, most, size))

  open_run : IsRun (open_at text at tokens)
  open_run =
      where_run (fits text (marks (codes "<") ++ Word ∷ []) at tokens) _
      (λ fit.
      tag_run (bytes_at text tokens 1) (attributes text (end_at tokens 1) (drop 2 tokens)) (fits_within text (marks (codes "<") ++ Word ∷ []) at tokens fit)
      (few_attributes text (end_at tokens 1) (drop 2 tokens)))

  close_run : IsRun (close_at text at tokens)
  close_run = where_run (fits text (marks (codes "</") ++ Word ∷ marks (codes ">")) at tokens) _ (λ fit. (omega arith, fits_within text (marks (codes "</") ++ Word ∷ marks (codes ">")) at tokens fit))

  program_run : (sorts : List (List ℕ)) → IsRun (program_at sorts text at tokens)
  program_run sorts =
      where_run (fits text in_place at tokens && same_text (bytes_at text tokens 1) (codes "PGM")) _
      (λ both.
      looked_run (sort_number sorts (bytes_at text tokens 3)) Program 4 (omega arith)
      (fits_within text in_place at tokens (and_parts (fits text in_place at tokens) (same_text (bytes_at text tokens 1) (codes "PGM")) both).0))

  input_run : IsRun (input_at text at tokens)
  input_run =
      where_run (fits text in_place at tokens && same_text (bytes_at text tokens 1) (codes "IN") && same_text (bytes_at text tokens 3) (codes "List")) _
      (λ both.
      let first = (and_parts (fits text in_place at tokens && same_text (bytes_at text tokens 1) (codes "IN")) (same_text (bytes_at text tokens 3) (codes "List")) both).0 in
      (omega arith, fits_within text in_place at tokens (and_parts (fits text in_place at tokens) (same_text (bytes_at text tokens 1) (codes "IN")) first).0))

  empty_run : IsRun (empty_at text at tokens)
  empty_run =
      where_run (fits text (marks (codes ".") ++ Word ∷ []) at tokens) _
      (λ fit. looked_run (empty_sort (bytes_at text tokens 1)) (λ sort. Dot (Some sort)) 2 (omega arith) (fits_within text (marks (codes ".") ++ Word ∷ []) at tokens fit))

  item_run : IsRun (list_item_at text at tokens)
  item_run =
      where_run (fits text (Word ∷ []) at tokens && same_text (bytes_at text tokens 0) (codes "ListItem")) _
      (λ both. (omega arith, fits_within text (Word ∷ []) at tokens (and_parts (fits text (Word ∷ []) at tokens) (same_text (bytes_at text tokens 0) (codes "ListItem")) both).0))

  terminal_run : (size : ℕ) → size ≤ length (ends at tokens) → IsRun (terminal_of text at tokens size)
  terminal_run zero least = tt
  terminal_run (suc n) least = let most = ends-le at tokens in (omega arith, omega (arith, least, most))

literal_run : (kind : Kind) (names : List (List ℕ)) (text : List ℕ) (token : Token) (tokens : List Token) → IsRun text token.start (token ∷ tokens) (literal_as kind names text token)
literal_run WordToken names text token tokens = (omega arith, omega arith)
literal_run Int names text token tokens = choose (IsRun text token.start (token ∷ tokens)) (are_wide (bytes_of text token)) None _ tt (omega arith, omega arith)
literal_run Str names text token tokens = (omega arith, omega arith)
literal_run MarkToken names text token tokens = tt

stands_run : (l : Lexicon) (text : List ℕ) (token : Token) (tokens : List Token) → IsRun text token.start (token ∷ tokens) (stands_at l text token.start (token ∷ tokens))
stands_run l text token tokens =
    let at = token.start in
    let all = token ∷ tokens in
    longer_run text at all _ _ (terminal_run text at all (terminal_size l.terminals text at all) (terminal-le l.terminals text at all))
    (longer_run text at all _ _ (symbol_run text at all)
    (longer_run text at all _ _ (open_run text at all)
    (longer_run text at all _ _ (close_run text at all)
    (longer_run text at all _ _ (program_run text at all l.sorts)
    (longer_run text at all _ _ (input_run text at all)
    (longer_run text at all _ _ (empty_run text at all)
    (longer_run text at all _ _ (item_run text at all) (literal_run token.kind l.names text token tokens))))))))

-- ---- the first token

made_first : (text : List ℕ) (at : ℕ) (token : Token) (tokens : List Token) (o : Option CellToken) (one : CellToken) → IsRun text at (token ∷ tokens) o → Some (unwrap_or o bad_token) ≡ Some one
    → (0 < one.size) × (one.size ≤ length (token ∷ tokens))
made_first text at token tokens None one run is =
    let same : bad_token ≡ one = cc in
    subst (λ (t : CellToken). (0 < t.size) × (t.size ≤ length (token ∷ tokens))) same (omega arith, omega arith)
made_first text at token tokens (Some found) one run is =
    let same : found ≡ one = cc in subst (λ (t : CellToken). (0 < t.size) × (t.size ≤ length (token ∷ tokens))) same run

pub first_is : (l : Lexicon) (text : List ℕ) (base : List Token) (one : CellToken) → first_token l text base ≡ Some one → (0 < one.size) × (one.size ≤ length base)
first_is l text [] one is = absurd (cc)
first_is l text (token ∷ tokens) one is = made_first text token.start token tokens (stands_at l text token.start (token ∷ tokens)) one (stands_run l text token tokens) is

-- ---- all tokens

module _ (l : Lexicon) (text : List ℕ) where
  -- these tokens follow one another, and leave the rest
  abbrev pub AreUpTo : List CellToken → List Token → List Token → Type 0
  AreUpTo [] before after = before ≡ after
  AreUpTo (token ∷ tokens) before after = (first_token l text before ≡ Some token) × AreUpTo tokens (drop token.size before) after

  tokens_more : (tokens : List CellToken) (token : CellToken) (before after : List Token) → AreUpTo tokens before after → first_token l text after ≡ Some token
      → AreUpTo (tokens ++ token ∷ []) before (drop token.size after)
  tokens_more [] token before after is next = (ap (first_token l text) is ∙ next, ap (drop token.size) is)
  tokens_more (first ∷ tokens) token before after is next = (is.0, tokens_more tokens token (drop first.size before) after is.1 next)

  pub tokens_step : (tokens new : List CellToken) (token : CellToken) (at : ℕ) (base : List Token) → AreUpTo tokens base (drop at base) → at ≤ length base
      → first_token l text (drop at base) ≡ Some token → new ≡ tokens ++ token ∷ [] → AreUpTo new base (drop (at + token.size) base) × (at + token.size ≤ length base) × (0 < token.size)
  tokens_step tokens new token at base are within next is =
      let first = first_is l text (drop at base) token next in
      let size = length-drop at base in
      let most = first.1 in (
        subst (λ ts. AreUpTo ts base (drop (at + token.size) base)) (sym is)
            (subst (λ ts. AreUpTo (tokens ++ token ∷ []) base ts) (drop-drop token.size at base) (tokens_more tokens token base (drop at base) are next)),
        omega (arith, most, size, within),
        first.0,
      )

  pub tokens_end : (tokens : List CellToken) (base after : List Token) → AreUpTo tokens base after → after ≡ [] → AreCellTokens l text tokens base
  tokens_end [] base after are end = are ∙ end
  tokens_end (token ∷ tokens) base after are end = (are.0, tokens_end tokens (drop token.size base) after are.1 end)

  pub no_first : (base : List Token) → first_token l text base ≡ None → base ≡ []
  no_first [] none = refl
  no_first (token ∷ tokens) none = absurd (cc)

-- ---- by two lists with the same terminals

abbrev with_terminals : Lexicon → List (List ℕ) → Lexicon
with_terminals l terminals = record { terminals = terminals; sorts = l.sorts; names = l.names }

module _ (l : Lexicon) (others : List (List ℕ)) (same : AreSame l.terminals others) where
  terminal_same : (text : List ℕ) (at : ℕ) (tokens : List Token) → terminal_at l.terminals text at tokens ≡ terminal_at others text at tokens
  terminal_same text at tokens = λ i. terminal_of text at tokens (last_place (λ end. same (span text at end) i) (ends at tokens))

  first_same : (text : List ℕ) (base : List Token) → first_token l text base ≡ first_token (with_terminals l others) text base
  first_same text [] = refl
  first_same text (token ∷ tokens) = λ i. Some (unwrap_or (longer (terminal_same text token.start (token ∷ tokens) i) (other_at l text token.start (token ∷ tokens))) bad_token)

  pub tokens_same : (text : List ℕ) (tokens : List CellToken) (base : List Token) → AreCellTokens l text tokens base → AreCellTokens (with_terminals l others) text tokens base
  tokens_same text [] base are = are
  tokens_same text (token ∷ tokens) base are = (sym (first_same text base) ∙ are.0, tokens_same text tokens (drop token.size base) are.1)
