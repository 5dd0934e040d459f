-- The literals of a configuration are those of a program, or identifiers.
use Rattle.std.proofs.Common.{◌≡◌, ℕ, zero, suc, Bool, true, false, List, [], ◌∷◌, codes, length, take, drop, Option, Some, None, refl, subst}
use Rattle.std.specs.Prelude.{pos, if◌then◌else◌, ◌&&◌, nat_lt, unwrap_or, option_map}
use Rattle.std.specs.List.{AllByRecursion}
use Rattle.k_lexer.specs.declared.token.Kind.{Kind}
use Rattle.k_lexer.specs.declared.token.Kind.TheVariants.{Word as WordToken, Int, Str, Mark as MarkToken}
use Rattle.k_lexer.specs.declared.token.Token.{Token}
use Rattle.k_terms.specs.declared.value.Value.{Int as Number, Bool as Truth, Id}
use Rattle.k_terms.specs.Sorts.{sort_bool, sort_id}
use Rattle.k_terms.specs.Names.{number_of}
use Rattle.production_reader.specs.Allowed.{same_text, number_of as number_in}
use Rattle.grammar_terms.specs.declared.word.Word.{Word as GrammarWord}
use Rattle.grammar_terms.specs.Grammar.{sort_number}
use Rattle.grammar_terms.specs.Values.{literal_of, is_plain_value}
use Rattle.program_tokens.specs.Base.{bytes_of}
use Rattle.program_tokens.specs.Words.{are_wide, literal, other_word}
use Rattle.cell_tokens.specs.declared.token.CellKind.{CellKind}
use Rattle.cell_tokens.specs.declared.token.CellKind.TheVariants as kind
use Rattle.cell_tokens.specs.declared.token.CellToken.{CellToken}
use Rattle.cell_tokens.specs.Signs.{marks, fits, bytes_at}
use Rattle.cell_tokens.specs.CellTokens.{first_token, AreCellTokens}
use Rattle.cell_tokens.specs.Forms.{Lexicon, found, in_place, terminal_size, terminal_of, terminal_at, signs_at, tag_found, open_at, close_at, program_at, input_at, empty_sort, empty_at, list_item_at, literal_as, literal_at, longer, longest, symbol_at, other_at, stands_at, bad_token}
use Rattle.cell_contents.specs.Soundness.{has_plain_literal, HavePlainLiterals}
use Rattle.cell_config.specs.Divisions.{between}
use Rattle.cell_config.proofs.Lists.{some_same, none_some}

abbrev IsPlain : Option CellToken → Type 0
IsPlain None = Unit {0}
IsPlain (Some token) = has_plain_literal token.kind ≡ true

-- ---- choices

either : (b : Bool) (one other : Option CellToken) → IsPlain one → IsPlain other → IsPlain (if b then one else other)
either true one other is also = is
either false one other is also = also

longer_plain : (one other : Option CellToken) → IsPlain one → IsPlain other → IsPlain (longer one other)
longer_plain None other is also = also
longer_plain (Some one) None is also = is
longer_plain (Some one) (Some other) is also = either (nat_lt one.size other.size) (Some other) (Some one) also is

longest_plain : (all : List (Option CellToken)) → AllByRecursion IsPlain all → IsPlain (longest all)
longest_plain [] each = tt
longest_plain (one ∷ []) each = each.0
longest_plain (one ∷ other ∷ others) each = longer_plain one (longest (other ∷ others)) each.0 (longest_plain (other ∷ others) each.1)

-- ---- what can stand at a place

terminal_plain : (text : List ℕ) (at : ℕ) (tokens : List Token) (size : ℕ) → IsPlain (terminal_of text at tokens size)
terminal_plain text at tokens zero = tt
terminal_plain text at tokens (suc n) = refl

if_found : (b : Bool) (k : CellKind) (size : ℕ) → has_plain_literal k ≡ true → IsPlain (if b then found k size else None)
if_found true k size is = is
if_found false k size is = tt

signs_plain : (text : List ℕ) (signs : _) (k : CellKind) (at : ℕ) (tokens : List Token) → has_plain_literal k ≡ true → IsPlain (signs_at text signs k at tokens)
signs_plain text signs k at tokens is = if_found (fits text signs at tokens) k (length signs) is

symbols_plain : (text : List ℕ) (at : ℕ) (tokens : List Token) → IsPlain (symbol_at text at tokens)
symbols_plain text at tokens =
    longest_plain
    (signs_at text (marks (codes "~>")) kind.Then at tokens ∷ signs_at text (marks (codes "|->")) kind.MapsTo at tokens ∷ signs_at text (marks (codes ".")) (kind.Dot None) at tokens
    ∷ signs_at text (marks (codes "(")) kind.LeftBracket at tokens ∷ signs_at text (marks (codes ")")) kind.RightBracket at tokens ∷ []) (
      signs_plain text (marks (codes "~>")) kind.Then at tokens refl,
      (
        signs_plain text (marks (codes "|->")) kind.MapsTo at tokens refl,
        (
          signs_plain text (marks (codes ".")) (kind.Dot None) at tokens refl,
          (signs_plain text (marks (codes "(")) kind.LeftBracket at tokens refl, (signs_plain text (marks (codes ")")) kind.RightBracket at tokens refl, tt)),
        ),
      ),
    )

tag_plain : (name : List ℕ) (rest : Option (Bool × ℕ)) → IsPlain (option_map (tag_found name) rest)
tag_plain name None = tt
tag_plain name (Some rest) = refl

program_plain : (sort : Option ℕ) → IsPlain (elim sort [ Some sort ↦ found (kind.Program sort) 4 | None ↦ None ])
program_plain None = tt
program_plain (Some sort) = refl

empty_plain : (sort : Option ℕ) → IsPlain (elim sort [ Some sort ↦ found (kind.Dot (Some sort)) 2 | None ↦ None ])
empty_plain None = tt
empty_plain (Some sort) = refl

abbrev IsPlainWord : GrammarWord → Type 0
IsPlainWord word = is_plain_value (literal_of word.kind) ≡ true

either_word : (b : Bool) (one other : GrammarWord) → IsPlainWord one → IsPlainWord other → IsPlainWord (if b then one else other)
either_word true one other is also = is
either_word false one other is also = also

word_plain : (names : List (List ℕ)) (token : Token) (bytes : List ℕ) → IsPlainWord (other_word names token bytes)
word_plain names token bytes =
    let other = literal token sort_id (Id (record { 0 = unwrap_or (number_of names bytes) 0 })) in
    either_word (same_text bytes (codes "true")) (literal token sort_bool (Truth true)) (if same_text bytes (codes "false") then literal token sort_bool (Truth false) else other) refl
    (either_word (same_text bytes (codes "false")) (literal token sort_bool (Truth false)) other refl refl)

kind_plain : (k : Kind) (names : List (List ℕ)) (text : List ℕ) (token : Token) → IsPlain (literal_as k names text token)
kind_plain WordToken names text token = word_plain names token (bytes_of text token)
kind_plain Int names text token = either (are_wide (bytes_of text token)) None (found (kind.Literal (Number (pos (number_in (bytes_of text token))))) 1) tt refl
kind_plain Str names text token = refl
kind_plain MarkToken names text token = tt

literal_plain : (names : List (List ℕ)) (text : List ℕ) (tokens : List Token) → IsPlain (literal_at names text tokens)
literal_plain names text [] = tt
literal_plain names text (token ∷ tokens) = kind_plain token.kind names text token

open_plain : (text : List ℕ) (at : ℕ) (tokens : List Token) → IsPlain (open_at text at tokens)
open_plain text at tokens = search (either, tag_plain)

program_at_plain : (sorts : List (List ℕ)) (text : List ℕ) (at : ℕ) (tokens : List Token) → IsPlain (program_at sorts text at tokens)
program_at_plain sorts text at tokens =
    either (fits text in_place at tokens && same_text (bytes_at text tokens 1) (codes "PGM"))
    (elim (sort_number sorts (bytes_at text tokens 3)) [ Some sort ↦ found (kind.Program sort) 4 | None ↦ None ]) None (program_plain (sort_number sorts (bytes_at text tokens 3))) tt

empty_at_plain : (text : List ℕ) (at : ℕ) (tokens : List Token) → IsPlain (empty_at text at tokens)
empty_at_plain text at tokens =
    let inner : IsPlain (elim (empty_sort (bytes_at text tokens 1)) [ Some sort ↦ found (kind.Dot (Some sort)) 2 | None ↦ None ]) = empty_plain (empty_sort (bytes_at text tokens 1)) in
    let nothing : IsPlain None = tt in
    search (either)

close_plain : (text : List ℕ) (at : ℕ) (tokens : List Token) → IsPlain (close_at text at tokens)
close_plain text at tokens = search (if_found)

input_plain : (text : List ℕ) (at : ℕ) (tokens : List Token) → IsPlain (input_at text at tokens)
input_plain text at tokens =
    if_found (fits text in_place at tokens && same_text (bytes_at text tokens 1) (codes "IN") && same_text (bytes_at text tokens 3) (codes "List")) kind.Input 4 refl

list_item_plain : (text : List ℕ) (at : ℕ) (tokens : List Token) → IsPlain (list_item_at text at tokens)
list_item_plain text at tokens = search (if_found)

other_plain : (l : Lexicon) (text : List ℕ) (at : ℕ) (tokens : List Token) → IsPlain (other_at l text at tokens)
other_plain l text at tokens =
    longest_plain
    (symbol_at text at tokens ∷ open_at text at tokens ∷ close_at text at tokens ∷ program_at l.sorts text at tokens ∷ input_at text at tokens ∷ empty_at text at tokens
    ∷ list_item_at text at tokens ∷ literal_at l.names text tokens ∷ []) (
      symbols_plain text at tokens,
      (
        open_plain text at tokens,
        (
          close_plain text at tokens,
          (
            program_at_plain l.sorts text at tokens,
            (
              input_plain text at tokens,
              (empty_at_plain text at tokens, (list_item_plain text at tokens, (literal_plain l.names text tokens, tt))),
            ),
          ),
        ),
      ),
    )

stands_plain : (l : Lexicon) (text : List ℕ) (at : ℕ) (tokens : List Token) → IsPlain (stands_at l text at tokens)
stands_plain l text at tokens =
    longer_plain (terminal_at l.terminals text at tokens) (other_at l text at tokens) (terminal_plain text at tokens (terminal_size l.terminals text at tokens)) (other_plain l text at tokens)

-- ---- the tokens

taken_plain : (o : Option CellToken) → IsPlain o → has_plain_literal (unwrap_or o bad_token).kind ≡ true
taken_plain None is = refl
taken_plain (Some token) is = is

first_plain : (l : Lexicon) (text : List ℕ) (base : List Token) (token : CellToken) → first_token l text base ≡ Some token → has_plain_literal token.kind ≡ true
first_plain l text [] token is = absurd (none_some token is)
first_plain l text (one ∷ base) token is =
    let stood = stands_at l text one.start (one ∷ base) in
    subst (λ (t : CellToken). has_plain_literal t.kind ≡ true) (some_same (unwrap_or stood bad_token) token is) (taken_plain stood (stands_plain l text one.start (one ∷ base)))

pub split_plain : (l : Lexicon) (text : List ℕ) (tokens : List CellToken) (base : List Token) → AreCellTokens l text tokens base → HavePlainLiterals tokens
split_plain l text [] base are = tt
split_plain l text (token ∷ tokens) base are = (first_plain l text base token are.0, split_plain l text tokens (drop token.size base) are.1)

-- ---- a part of them

all_taken : {X : Type 0} (P : X → Type 0) (n : ℕ) (xs : List X) → AllByRecursion P xs → AllByRecursion P (take n xs)
all_taken P zero xs all = tt
all_taken P (suc n) [] all = tt
all_taken P (suc n) (x ∷ xs) all = (all.0, all_taken P n xs all.1)

all_dropped : {X : Type 0} (P : X → Type 0) (n : ℕ) (xs : List X) → AllByRecursion P xs → AllByRecursion P (drop n xs)
all_dropped P zero xs all = all
all_dropped P (suc n) [] all = tt
all_dropped P (suc n) (x ∷ xs) all = all_dropped P n xs all.1

pub part_plain : (tokens : List CellToken) (first past : ℕ) → HavePlainLiterals tokens → HavePlainLiterals (between tokens first past)
part_plain tokens first past all = all_taken (λ (token : CellToken). has_plain_literal token.kind ≡ true) _ (drop first tokens) (all_dropped (λ (token : CellToken). has_plain_literal token.kind ≡ true) first tokens all)
