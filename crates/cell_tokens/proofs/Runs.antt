-- Adjacent base tokens, and the longest terminal that they make.
use Rattle.std.proofs.Common.{◌≡◌, ℕ, zero, suc, ◌+◌, ◌-◌, ◌<◌, ◌≤◌, Bool, true, false, ◌==◌, ◌&&◌, List, [], ◌∷◌, length, take, drop, refl, sym, ap, subst, ◌∙◌, arith, rules, None, get_or, drop-cons, add-one, length-append, length-drop}
use Rattle.std.specs.Prelude.{if◌then◌else◌}
use Rattle.std.specs.Char.{encode_utf8}
use Rattle.std.specs.Str.{encode_utf8_all}
use Rattle.std.proofs.lemmas.Bool.{and_parts}
use Rattle.std.proofs.lemmas.Bool.Decides.{nat_tests}
use Rattle.std.proofs.lemmas.List.{length-take-le}
use Rattle.std.proofs.lemmas.Str.{length-encode, len_utf8_bounds}
use Rattle.k_lexer.specs.declared.token.Kind.{Kind}
use Rattle.k_lexer.specs.declared.token.Kind.TheVariants.{Word as WordToken}
use Rattle.k_lexer.specs.declared.token.Token.{Token}
use Rattle.k_lexer.specs.Characters.{is_token}
use Rattle.k_lexer.specs.Tokens.{IsToken}
use Rattle.k_lexer.specs.Before.{Stands, AllStand}
use Rattle.production_reader.specs.Lexemes.{span}
use Rattle.production_reader.specs.Allowed.{is_among}
use Rattle.program_tokens.proofs.Reading.{drop_all}
use Rattle.cell_tokens.specs.declared.signs.Sign.{Sign}
use Rattle.cell_tokens.specs.declared.token.CellKind.TheVariants.{Terminal}
use Rattle.cell_tokens.specs.Lookup.{AreBoundBy, IsWhole}
use Rattle.cell_tokens.specs.Signs.{is_sign, fits, ends, end_at}
use Rattle.cell_tokens.specs.Forms.{found, last_place, terminal_size, terminal_of}

-- ---- base tokens have bytes

chars_some : (kind : Kind) (chars : List ℕ) → is_token kind chars ≡ true → 0 < length (encode_utf8_all chars)
chars_some kind [] is = absurd (cc)
chars_some kind (c ∷ cs) is = omega (arith, length-append (encode_utf8 c) (encode_utf8_all cs), length-encode c, (len_utf8_bounds c).0)

some_taken : (n : ℕ) (bytes : List ℕ) → 0 < length (take n bytes) → 0 < n
some_taken zero bytes some = some
some_taken (suc n) bytes some = omega arith

pub token_some : (text : List ℕ) (token : Token) → Stands text token → token.start < token.end
token_some text token stands =
    let some : 0 < length (take (token.end - token.start) (drop token.start text)) =
    subst (λ bytes. 0 < length bytes) stands.is.spelled (chars_some token.kind stands.is.chars stands.is.is) in
    let apart = some_taken (token.end - token.start) (drop token.start text) some in
    omega (arith, apart)

pub drop_here : {X : Type 0} (items : List X) (other : X) (at : ℕ) → at < length items → drop at items ≡ get_or items at other ∷ drop (at + 1) items
drop_here items other at within = drop-cons items at other within ∙ ap (λ n. get_or items at other ∷ drop n items) (sym (add-one at))

pub token_at : (text : List ℕ) (tokens : List Token) (other : Token) (place : ℕ) → AllStand text tokens → place < length tokens → Stands text (get_or tokens place other)
token_at text tokens other place stand within = (subst (AllStand text) (drop_here tokens other place within) (drop_all (Stands text) place tokens stand)).0

-- ---- ends

same_place : (one other : ℕ) → one ≡ other → (one == other) ≡ true
same_place one other same = search (rules, nat_tests)

other_place : (one other : ℕ) → (one ≡ other → ⊥) → (one == other) ≡ false
other_place one other apart = search (rules, nat_tests)

pub ends_here : (at : ℕ) (token : Token) (tokens : List Token) → token.start ≡ at → ends at (token ∷ tokens) ≡ token.end ∷ ends token.end tokens
ends_here at token tokens here = ap (λ b. if b then token.end ∷ ends token.end tokens else []) (same_place token.start at here)

pub ends_gap : (at : ℕ) (token : Token) (tokens : List Token) → (token.start ≡ at → ⊥) → ends at (token ∷ tokens) ≡ []
ends_gap at token tokens apart = ap (λ b. if b then token.end ∷ ends token.end tokens else []) (other_place token.start at apart)

pub ends-le : (at : ℕ) (tokens : List Token) → length (ends at tokens) ≤ length tokens
ends-le at [] = omega arith
ends-le at (token ∷ tokens) =
    elim (token.start == at) as (λ b. length (if b then token.end ∷ ends token.end tokens else []) ≤ suc (length tokens)) [ true ↦ omega (arith, ends-le token.end tokens) | false ↦ omega arith ]

-- the end of a token of a run stands behind its first byte, and in the text
pub end_inside : (text : List ℕ) (at n : ℕ) (tokens : List Token) → AllStand text tokens → n < length (ends at tokens) → (at < end_at tokens n) × (end_at tokens n ≤ length text)
end_inside text at n [] stand less = absurd (omega arith)
end_inside text at zero (token ∷ tokens) stand less =
    elim (token.start == at) as
    (λ b. (token.start == at) ≡ b → 0 < length (if b then token.end ∷ ends token.end tokens else []) → (at < token.end) × (token.end ≤ length text)) [
      | true ↦ λ here fewer. let is : token.start ≡ at = grind (arith, nat_tests) in let some = token_some text token stand.0 in (omega (arith, is, some), stand.0.within)
      | false ↦ λ other none. absurd (omega (arith, none))
    ] refl less
end_inside text at (suc n) (token ∷ tokens) stand less =
    elim (token.start == at) as
    (λ b. (token.start == at) ≡ b → suc n < length (if b then token.end ∷ ends token.end tokens else []) → (at < end_at tokens n) × (end_at tokens n ≤ length text)) [
      | true ↦ λ here fewer.
          let is : token.start ≡ at = grind (arith, nat_tests) in
          let some = token_some text token stand.0 in
          let next = end_inside text token.end n tokens stand.1 (omega (arith, fewer)) in
          (omega (arith, is, some, next.0), next.1)
      | false ↦ λ other none. absurd (omega (arith, none))
    ] refl less

-- base tokens of some signs are a run
pub fits_run : (text : List ℕ) (signs : List Sign) (at : ℕ) (tokens : List Token) → fits text signs at tokens ≡ true → length signs ≤ length (ends at tokens)
fits_run text [] at tokens fit = omega arith
fits_run text (sign ∷ signs) at [] fit = absurd (cc)
fits_run text (sign ∷ signs) at (token ∷ tokens) fit =
    let parts = and_parts ((token.start == at) && is_sign text sign token) (fits text signs token.end tokens) fit in
    let first = and_parts (token.start == at) (is_sign text sign token) parts.0 in
    let here : token.start ≡ at = let begins : (token.start == at) ≡ true = first.0 in grind (arith, nat_tests) in
    let next = fits_run text signs token.end tokens parts.1 in
    omega (arith, next, ap length (ends_here at token tokens here))

-- ---- the last place

-- the place of the last that passes, where `size` is that among the first `place` items and the third that among the others
abbrev pub later : ℕ → ℕ → ℕ → ℕ
later size place zero = size
later size place (suc n) = place + suc n

last_none : (test : ℕ → Bool) (item : ℕ) (items : List ℕ) → last_place test items ≡ 0 → test item ≡ false → last_place test (item ∷ items) ≡ 0
last_none test item items none fails =
    ap (λ n. elim n [ zero ↦ (if test item then 1 else 0) | suc n ↦ suc (suc n) ]) none ∙ ap (λ b. if b then 1 else 0) fails

later_step : (passes : Bool) (size place further : ℕ)
    → later size place (elim further [ zero ↦ (if passes then 1 else 0) | suc n ↦ suc (suc n) ]) ≡ later (if passes then place + 1 else size) (place + 1) further
later_step true size place zero = refl
later_step false size place zero = refl
later_step passes size place (suc n) = omega arith

pub last-le : (test : ℕ → Bool) (items : List ℕ) → last_place test items ≤ length items
last-le test [] = omega arith
last-le test (item ∷ items) =
    elim (last_place test items) as (λ n. n ≤ length items → (elim n [ zero ↦ (if test item then 1 else 0) | suc n ↦ suc (suc n) ]) ≤ suc (length items)) [
      | zero ↦ λ least. elim (test item) as (λ b. (if b then 1 else 0) ≤ suc (length items)) [ true ↦ omega arith | false ↦ omega arith ]
      | suc n ↦ λ least. omega (arith, least)
    ] (last-le test items)

-- ---- past the bound no run is a terminal

module _ (terminals : List (List ℕ)) (text : List ℕ) (first : Token) (most : ℕ) (bound : AreBoundBy most terminals) (stands : Stands text first) (whole : IsWhole text first) where
  abbrev makes : ℕ → Bool
  makes end = is_among terminals (span text first.start end)

  too_long : (end : ℕ) → first.end < end → end ≤ length text → most < end - first.start → (b : Bool) → makes end ≡ b → b ≡ false
  too_long end past within over true is =
      let less : first.end - first.start < end - first.start = let some = token_some text first stands in omega (arith, some) in
      let fits : end - first.start ≤ length (drop first.start text) = omega (arith, length-drop first.start text) in
      let no_word = λ (word : IsToken WordToken (span text first.start end)). whole.longest WordToken (end - first.start) less fits word in
      let size = bound (span text first.start end) is no_word in
      absurd (omega (arith, size, length-take-le (end - first.start) (drop first.start text) fits))
  too_long end past within over false is = refl

  none_past : (at : ℕ) (tokens : List Token) → AllStand text tokens → first.end ≤ at → most < at - first.start → last_place makes (ends at tokens) ≡ 0
  none_past at [] stand past over = refl
  none_past at (token ∷ tokens) stand past over =
      elim (token.start == at) as (λ b. (token.start == at) ≡ b → last_place makes (if b then token.end ∷ ends token.end tokens else []) ≡ 0) [
        | true ↦ λ here.
            let is : token.start ≡ at = grind (arith, nat_tests) in
            let some = token_some text token stand.0 in
            last_none makes token.end (ends token.end tokens) (none_past token.end tokens stand.1 (omega (arith, is, some, past)) (omega (arith, is, some, over)))
            (too_long token.end (omega (arith, is, some, past)) stand.0.within (omega (arith, is, some, over)) (makes token.end) refl)
        | false ↦ λ other. refl
      ] refl

  -- where the loop stops, past the bound, and where it goes on
  pub stops_past : (size place end whole_size : ℕ) (rest : List Token) (other : Token) → AllStand text rest → place < length rest → (get_or rest place other).start ≡ end
      → first.end ≤ end → most < (get_or rest place other).end - first.start
      → whole_size ≡ later size place (last_place makes (ends end (drop place rest))) → size ≡ whole_size
  stops_past size place end whole_size rest other stand within starts past over sofar =
      let here : drop place rest ≡ get_or rest place other ∷ drop (place + 1) rest = drop_here rest other place within in
      let left = subst (AllStand text) here (drop_all (Stands text) place rest stand) in
      let some = token_some text (get_or rest place other) left.0 in
      let none = last_none makes (get_or rest place other).end (ends (get_or rest place other).end (drop (place + 1) rest))
      (none_past (get_or rest place other).end (drop (place + 1) rest) left.1 (omega (arith, starts, some, past)) over)
      (too_long (get_or rest place other).end (omega (arith, starts, some, past)) left.0.within over (makes (get_or rest place other).end) refl) in
      sym (sofar ∙ ap (λ ts. later size place (last_place makes (ends end ts))) here
      ∙ ap (λ es. later size place (last_place makes es)) (ends_here end (get_or rest place other) (drop (place + 1) rest) starts) ∙ ap (later size place) none)

  pub goes_on : (size place end whole_size new : ℕ) (rest : List Token) (other : Token) → place < length rest → (get_or rest place other).start ≡ end
      → whole_size ≡ later size place (last_place makes (ends end (drop place rest))) → new ≡ (if makes (get_or rest place other).end then place + 1 else size)
      → whole_size ≡ later new (place + 1) (last_place makes (ends (get_or rest place other).end (drop (place + 1) rest)))
  goes_on size place end whole_size new rest other within starts sofar made =
      let here : drop place rest ≡ get_or rest place other ∷ drop (place + 1) rest = drop_here rest other place within in
      sofar ∙ ap (λ ts. later size place (last_place makes (ends end ts))) here
      ∙ ap (λ es. later size place (last_place makes es)) (ends_here end (get_or rest place other) (drop (place + 1) rest) starts)
      ∙ later_step (makes (get_or rest place other).end) size place (last_place makes (ends (get_or rest place other).end (drop (place + 1) rest)))
      ∙ ap (λ n. later n (place + 1) (last_place makes (ends (get_or rest place other).end (drop (place + 1) rest)))) (sym made)

-- ---- the terminal

-- of a first token and the others
first_ends : (first : Token) (rest : List Token) → ends first.start (first ∷ rest) ≡ first.end ∷ ends first.end rest
first_ends first rest = ends_here first.start first rest refl

pub further_terminal : (terminals : List (List ℕ)) (text : List ℕ) (first : Token) (rest : List Token) (further : ℕ)
    → further ≡ last_place (λ end. is_among terminals (span text first.start end)) (ends first.end rest) → 0 < further → further + 1 ≡ terminal_size terminals text first.start (first ∷ rest)
further_terminal terminals text first rest zero is some = absurd (omega arith)
further_terminal terminals text first rest (suc n) is some =
    let test = λ (end : ℕ). is_among terminals (span text first.start end) in
    let count : suc n + 1 ≡ suc (suc n) = omega arith in
    count ∙ ap (λ m. elim m [ zero ↦ (if test first.end then 1 else 0) | suc n ↦ suc (suc n) ]) is ∙ ap (last_place test) (sym (first_ends first rest))

pub one_terminal : (terminals : List (List ℕ)) (text : List ℕ) (first : Token) (rest : List Token) (further : ℕ) (has : Bool)
    → further ≡ last_place (λ end. is_among terminals (span text first.start end)) (ends first.end rest) → further ≤ 0 → has ≡ is_among terminals (span text first.start first.end)
    → (if has then 1 else 0) ≡ terminal_size terminals text first.start (first ∷ rest)
one_terminal terminals text first rest further has is none here =
    let test = λ (end : ℕ). is_among terminals (span text first.start end) in
    let nought : 0 ≡ last_place test (ends first.end rest) = let zero_is : 0 ≡ further = omega (arith, none) in zero_is ∙ is in
    ap (λ b. if b then 1 else 0) here ∙ ap (λ m. elim m [ zero ↦ (if test first.end then 1 else 0) | suc n ↦ suc (suc n) ]) nought ∙ ap (last_place test) (sym (first_ends first rest))

pub terminal-le : (terminals : List (List ℕ)) (text : List ℕ) (at : ℕ) (tokens : List Token) → terminal_size terminals text at tokens ≤ length (ends at tokens)
terminal-le terminals text at tokens = last-le (λ end. is_among terminals (span text at end)) (ends at tokens)

pub no_terminal : (text : List ℕ) (at : ℕ) (tokens : List Token) (size whole : ℕ) → size ≡ whole → size ≡ 0 → None ≡ terminal_of text at tokens whole
no_terminal text at tokens size whole is none = ap (terminal_of text at tokens) (sym none ∙ is)

some_terminal : (text : List ℕ) (at : ℕ) (tokens : List Token) (size : ℕ) → (size ≡ 0 → ⊥) → found (Terminal (span text at (end_at tokens (size - 1)))) size ≡ terminal_of text at tokens size
some_terminal text at tokens zero some = absurd (some refl)
some_terminal text at tokens (suc n) some =
    let less : suc n - 1 ≡ n = omega arith in ap (λ m. found (Terminal (span text at (end_at tokens m))) (suc n)) less

pub a_terminal : (text bytes : List ℕ) (at : ℕ) (tokens : List Token) (size whole : ℕ) → size ≡ whole → (size ≡ 0 → ⊥) → bytes ≡ span text at (end_at tokens (size - 1))
    → found (Terminal bytes) size ≡ terminal_of text at tokens whole
a_terminal text bytes at tokens size whole is some made =
    ap (λ b. found (Terminal b) size) made ∙ some_terminal text at tokens size some ∙ ap (terminal_of text at tokens) is

pub terminal_inside : (terminals : List (List ℕ)) (text : List ℕ) (first : Token) (rest tokens : List Token) (size : ℕ) → AllStand text tokens → tokens ≡ first ∷ rest
    → size ≡ terminal_size terminals text first.start (first ∷ rest) → (size ≡ 0 → ⊥) → (first.start < end_at tokens (size - 1)) × (end_at tokens (size - 1) ≤ length text)
terminal_inside terminals text first rest tokens size stand parts is some =
    let least = subst (λ ts. size ≤ length (ends first.start ts)) (sym parts) (let bound = terminal-le terminals text first.start (first ∷ rest) in omega (arith, bound, is)) in
    end_inside text first.start (size - 1) tokens stand (omega (arith, least, some))
