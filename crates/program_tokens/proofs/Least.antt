-- The bad place is not past the fault.
use Rattle.std.proofs.Common.{◌≡◌, ℕ, suc, zero, ◌+◌, ◌<◌, ◌≤◌, List, [], ◌∷◌, ◌++◌, drop, refl, sym, ap, subst, ◌∙◌, arith, Option, Some, None}
use Rattle.std.specs.List.{AllByRecursion}
use Rattle.std.specs.Option.{option_or}
use Rattle.k_lexer.specs.declared.token.Token.{Token}
use Rattle.k_lexer.specs.declared.fault.LexFault.{LexFault}
use Rattle.k_lexer.specs.Lexing.{Reaches, start, blank, comment, token, token_at, IsFault, place}
use Rattle.k_lexer.proofs.Faults.{one_fault, tokens_or_fault}
use Rattle.grammar_terms.specs.declared.word.Word.{Word}
use Rattle.grammar_terms.specs.Grammar.{Syntax}
use Rattle.program_tokens.specs.declared.split.Split.{Split}
use Rattle.program_tokens.specs.Terminals.{terminals}
use Rattle.program_tokens.specs.Base.{IsBase}
use Rattle.program_tokens.specs.Words.{AreWords}
use Rattle.program_tokens.specs.Splits.{IsSplit, first_place}
use Rattle.program_tokens.proofs.Reading.{drop_all}

-- tokens begin at or before a place
abbrev BeginBefore : ℕ → List Token → Type 0
BeginBefore at tokens = AllByRecursion (λ token. token.start ≤ at) tokens

later : (one other : ℕ) (tokens : List Token) → one ≤ other → BeginBefore one tokens → BeginBefore other tokens
later one other [] less all = tt
later one other (t ∷ tokens) less all = (let here = all.0 in omega arith, later one other tokens less all.1)

one_more : (at : ℕ) (tokens : List Token) (last : Token) → BeginBefore at tokens → last.start ≤ at → BeginBefore at (tokens ++ last ∷ [])
one_more at [] last all here = (here, tt)
one_more at (t ∷ tokens) last all here = (all.0, one_more at tokens last all.1 here)

begin_before : (text : List ℕ) (tokens : List Token) (at : ℕ) → Reaches text tokens at → BeginBefore at tokens
begin_before text tokens at start = tt
begin_before text tokens at (blank ts p before is) = later p (p + 1) ts (omega arith) (begin_before text ts p before)
begin_before text tokens at (comment ts p n before is) = later p (p + n) ts (omega arith) (begin_before text ts p before)
begin_before text tokens at (token ts p n kind before none is) =
    one_more (p + n) ts (token_at kind p (p + n)) (later p (p + n) ts (omega arith) (begin_before text ts p before)) (omega arith)

rest_before : (terminals names : List (List ℕ)) (text : List ℕ) (at : ℕ) (words : List Word) (before after : List Token) → BeginBefore at before → AreWords terminals names text words before after
    → BeginBefore at after
rest_before terminals names text at [] before after all are = subst (BeginBefore at) are all
rest_before terminals names text at (word ∷ words) before after all are =
    rest_before terminals names text at words (drop are.0 before) after (drop_all (λ token. token.start ≤ at) are.0 before all) are.2

first_bad : (at : ℕ) (rest : List Token) (bad : Option ℕ) → BeginBefore at rest → bad ≡ option_or (first_place rest) (Some at) → (least : ℕ) × (bad ≡ Some least) × (least ≤ at)
first_bad at [] bad all is = (at, is, omega arith)
first_bad at (first ∷ tokens) bad all is = (first.start, is, all.0)

by_fault : (text : List ℕ) (tokens rest : List Token) (given : Option ℕ) (fault : LexFault) (bad : Option ℕ) → IsBase text tokens given → IsFault text fault
    → ((at : ℕ) → BeginBefore at tokens → BeginBefore at rest) → bad ≡ option_or (first_place rest) given → (least : ℕ) × (bad ≡ Some least) × (least ≤ place fault)
by_fault text tokens rest None fault bad base is keeps bad_is = absurd (tokens_or_fault text tokens fault base is)
by_fault text tokens rest (Some at) fault bad base is keeps bad_is =
    let same : at ≡ place fault = sym base.2 ∙ ap place (one_fault text base.0 fault base.1 is) in
    let all = later base.3.place at tokens base.3.within (begin_before text tokens base.3.place base.3.reached) in
    subst (λ p. (least : ℕ) × (bad ≡ Some least) × (least ≤ p)) same (first_bad at rest bad (keeps at all) bad_is)

pub least_bad : (g : Syntax) (before : List (List ℕ)) (text : List ℕ) (after : List (List ℕ)) (split : Split) (fault : LexFault) → IsSplit g before text after split → IsFault text fault
    → (at : ℕ) × (split.bad ≡ Some at) × (at ≤ place fault)
least_bad g before text after split fault is wrong =
    by_fault text is.tokens is.rest is.fault fault split.bad is.base wrong
    (λ at all. rest_before (terminals g) after text at split.words is.tokens is.rest all is.words) is.bad
