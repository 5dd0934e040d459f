-- What is taken from the front of a text is determined.
use Rattle.std.proofs.Common.{◌≡◌, ℕ, ◌+◌, ◌<◌, ◌≤◌, Bool, true, false, ◌&&◌, ◌||◌, ◌==◌, List, [], ◌∷◌, ◌++◌, length, take, drop, refl, sym, ap, subst, ◌∙◌, arith, slice_index, Option, Some, None, ⊎_elim, length-drop, length-append, zero, suc}
use Rattle.std.specs.Prelude.{codes, unwrap_or}
use Rattle.std.specs.Str.{encode_utf8_all}
use Rattle.std.specs.Char.{encode_utf8}
use Rattle.std.proofs.lemmas.Bool.{and_parts, cases_lt}
use Rattle.std.proofs.lemmas.Bool.Decides.{nat_tests}
use Rattle.std.proofs.lemmas.Str.{encode_same, char_from_byte, length-encode, len_utf8_bounds}
use Rattle.memchr.specs.Find.{IsFirst, IsFirstByte, is_byte, OccursAt}
use Rattle.k_lexer.specs.declared.token.Kind.{Kind}
use Rattle.k_lexer.specs.declared.fault.LexFault.{LexFault}
use Rattle.k_lexer.specs.declared.fault.LexFault.TheVariants.{BadByte, OpenString, OpenComment, Memory}
use Rattle.k_lexer.specs.Characters.{starts, is_blank}
use Rattle.k_lexer.specs.Tokens.{IsToken, IsLongest, BeginsNoToken, opens, opens_line, opens_block, opens_comment, IsLineComment, IsBlockComment, IsOpenComment, IsComment}
use Rattle.k_lexer.specs.Fronts.{IsTaken}
use Rattle.k_lexer.specs.Lexing.{Stops, place}
use Rattle.k_lexer.proofs.Stopping.{splits}
use Rattle.k_lexer.proofs.Heads.{one_kind, no_blank}

-- ---- the first two bytes

no_opening : (s n : ℕ) (b : Bool) → ((s == n) && b) ≡ true → s ≡ n
no_opening s n b test =
    let one = (and_parts (s == n) b test).0 in
    grind (arith, nat_tests)

pub slash_first : (second : ℕ) (rest : List ℕ) → opens second rest ≡ true → slice_index rest 0 ≡ 47
slash_first second rest opening = no_opening (slice_index rest 0) 47 _ opening

second_is : (second : ℕ) (rest : List ℕ) → opens second rest ≡ true → slice_index rest 1 ≡ second
second_is second rest opening =
    let one = (and_parts (slice_index rest 0 == 47) (slice_index rest 1 == second) opening).1 in
    grind (arith, nat_tests)

line_or_block : (rest : List ℕ) → opens_line rest ≡ true → opens_block rest ≡ true → ⊥
line_or_block rest line block = omega (arith, second_is 47 rest line, second_is 42 rest block)

blank_slash : (b : ℕ) → is_blank b ≡ true → b ≡ 47 → ⊥
blank_slash b blank slash = grind (arith, nat_tests)

blank_quote : (b : ℕ) → is_blank b ≡ true → b ≡ 34 → ⊥
blank_quote b blank quote = grind (arith, nat_tests)

blank_low : (b : ℕ) → is_blank b ≡ true → (0 < b) × (b < 128)
blank_low b blank = (grind (arith, nat_tests), grind (arith, nat_tests))

or_left : (a b : Bool) → a ≡ true → (a || b) ≡ true
or_left true b h = refl
or_left false b h = absurd (cc)

or_right : (a b : Bool) → b ≡ true → (a || b) ≡ true
or_right true b h = refl
or_right false b h = h

-- ---- comments

comment_opens : (rest : List ℕ) (n : ℕ) → IsComment rest n → opens_comment rest ≡ true
comment_opens rest n comment =
    ⊎_elim (λ (line : IsLineComment rest n). or_left (opens_line rest) (opens_block rest) line.0)
    (λ (block : IsBlockComment rest n). or_right (opens_line rest) (opens_block rest) block.0) comment

comment_slash : (rest : List ℕ) (n : ℕ) → IsComment rest n → slice_index rest 0 ≡ 47
comment_slash rest n comment =
    ⊎_elim (λ (line : IsLineComment rest n). slash_first 47 rest line.0) (λ (block : IsBlockComment rest n). slash_first 42 rest block.0) comment

-- a first place is one alone
one_first : (P : ℕ → Type 0) (j : ℕ) (a b : Option ℕ) → IsFirst P 0 j a → IsFirst P 0 j b → a ≡ b
one_first P j None None f g = refl
one_first P j None (Some b) f g = absurd (f b (omega arith) g.0.high g.1)
one_first P j (Some a) None f g = absurd (g a (omega arith) f.0.high f.1)
one_first P j (Some a) (Some b) f g =
    let most : b ≤ a = ⊎_elim (λ (less : a < b). absurd (g.0.before a (omega arith) less f.1)) (λ (le : b ≤ a). le) (cases_lt a b) in
    let least : a ≤ b = ⊎_elim (λ (less : b < a). absurd (f.0.before b (omega arith) less g.1)) (λ (le : a ≤ b). le) (cases_lt b a) in
    let same : a ≡ b = omega arith in
    ap (λ n. Some n) same

line_same : (rest : List ℕ) (m n : ℕ) → IsLineComment rest m → IsLineComment rest n → m ≡ n
line_same rest m n f g =
    let same = one_first _ (length rest) f.1.0 g.1.0 f.1.1 g.1.1 in
    f.1.2 ∙ ap (λ o. unwrap_or o (length rest)) same ∙ sym g.1.2

block_same : (rest : List ℕ) (m n : ℕ) → IsBlockComment rest m → IsBlockComment rest n → m ≡ n
block_same rest m n f g =
    let same : Some f.1.0 ≡ Some g.1.0 = one_first (OccursAt (drop 2 rest) (codes "*/")) (length (drop 2 rest) + 1) (Some f.1.0) (Some g.1.0) f.1.1 g.1.1 in
    let body : f.1.0 ≡ g.1.0 = cc in
    f.1.2 ∙ ap (λ k. k + 4) body ∙ sym g.1.2

comment_same : (rest : List ℕ) (m n : ℕ) → IsComment rest m → IsComment rest n → m ≡ n
comment_same rest m n f g =
    ⊎_elim
    (λ (line : IsLineComment rest m). ⊎_elim (λ (other : IsLineComment rest n). line_same rest m n line other) (λ (block : IsBlockComment rest n). absurd (line_or_block rest line.0 block.0)) g)
    (λ (block : IsBlockComment rest m). ⊎_elim (λ (line : IsLineComment rest n). absurd (line_or_block rest line.0 block.0)) (λ (other : IsBlockComment rest n). block_same rest m n block other) g)
    f

open_or_closed : (rest : List ℕ) (n : ℕ) → IsOpenComment rest → IsBlockComment rest n → ⊥
open_or_closed rest n f g = f.1 g.1.0 (omega arith) g.1.1.0.high g.1.1.1

-- ---- tokens

some_byte : (rest : List ℕ) → 0 < slice_index rest 0 → 0 < length rest
some_byte [] h = absurd (omega arith)
some_byte (x ∷ xs) h = omega arith

-- no token begins with a blank
no_token_blank : (rest : List ℕ) (kind : Kind) (n : ℕ) → is_blank (slice_index rest 0) ≡ true → IsToken kind (take n rest) → ⊥
no_token_blank rest kind n blank token =
    let s = splits kind rest n token in
    let low = blank_low (slice_index rest 0) blank in
    let same : s.head ≡ slice_index rest 0 = char_from_byte rest (encode_utf8_all s.tail ++ s.after) s.head s.is low.1 (some_byte rest low.0) in
    no_blank s.head kind (ap is_blank same ∙ blank) s.starts

longest_same : (rest : List ℕ) (j k : Kind) (m n : ℕ) → IsLongest j rest m → IsLongest k rest n → m ≡ n
longest_same rest j k m n f g =
    let most : n ≤ m = ⊎_elim (λ (less : m < n). absurd (f.longest k n less g.within g.token)) (λ (le : n ≤ m). le) (cases_lt m n) in
    let least : m ≤ n = ⊎_elim (λ (less : n < m). absurd (g.longest j m less f.within f.token)) (λ (le : m ≤ n). le) (cases_lt n m) in
    omega arith

kind_same : (rest : List ℕ) (j k : Kind) (m n : ℕ) → IsToken j (take m rest) → IsToken k (take n rest) → j ≡ k
kind_same rest j k m n f g =
    let s = splits j rest m f in
    let t = splits k rest n g in
    let heads = (encode_same s.head t.head (encode_utf8_all s.tail ++ s.after) (encode_utf8_all t.tail ++ t.after) (sym s.is ∙ t.is)).0 in
    one_kind t.head j k (subst (λ x. starts j x ≡ true) heads s.starts) t.starts

-- ---- what is taken

no_blank_or_comment : (rest : List ℕ) (kind : Kind) (m n : ℕ) → IsTaken rest None m → IsTaken rest (Some kind) n → ⊥
no_blank_or_comment rest kind m n f g =
    ⊎_elim (λ (blank : (is_blank (slice_index rest 0) ≡ true) × (m ≡ 1)). no_token_blank rest kind n blank.0 g.1.token)
    (λ (comment : IsComment rest m). (let yes = comment_opens rest m comment in let no2 = g.0 in absurd (cc))) f

blank_or_comment_same : (rest : List ℕ) (m n : ℕ) → IsTaken rest None m → IsTaken rest None n → m ≡ n
blank_or_comment_same rest m n f g =
    ⊎_elim
    (λ (blank : (is_blank (slice_index rest 0) ≡ true) × (m ≡ 1)).
    ⊎_elim (λ (other : (is_blank (slice_index rest 0) ≡ true) × (n ≡ 1)). blank.1 ∙ sym other.1)
    (λ (comment : IsComment rest n). absurd (blank_slash (slice_index rest 0) blank.0 (comment_slash rest n comment))) g)
    (λ (comment : IsComment rest m).
    ⊎_elim (λ (blank : (is_blank (slice_index rest 0) ≡ true) × (n ≡ 1)). absurd (blank_slash (slice_index rest 0) blank.0 (comment_slash rest m comment)))
    (λ (other : IsComment rest n). comment_same rest m n comment other) g)
    f

pub taken_same : (rest : List ℕ) (j k : Option Kind) (m n : ℕ) → IsTaken rest j m → IsTaken rest k n → (j ≡ k) × (m ≡ n)
taken_same rest None None m n f g = (refl, blank_or_comment_same rest m n f g)
taken_same rest None (Some k) m n f g = absurd (no_blank_or_comment rest k m n f g)
taken_same rest (Some j) None m n f g = absurd (no_blank_or_comment rest j n m g f)
taken_same rest (Some j) (Some k) m n f g = (ap (λ x. Some x) (kind_same rest j k m n f.1.token g.1.token), longest_same rest j k m n f.1 g.1)

-- ---- where nothing is taken

abbrev pub IsBlocked : List ℕ → Type 0
IsBlocked rest = (kind : Option Kind) (n : ℕ) → IsTaken rest kind n → ⊥

comment_quote : (rest : List ℕ) (n : ℕ) → slice_index rest 0 ≡ 34 → IsComment rest n → ⊥
comment_quote rest n quote comment = let slash = comment_slash rest n comment in omega arith

string_blocked : (rest : List ℕ) → slice_index rest 0 ≡ 34 → BeginsNoToken rest → IsBlocked rest
string_blocked rest quote none (Some kind) n taken = none kind n taken.1.token
string_blocked rest quote none None n taken =
    ⊎_elim (λ (blank : (is_blank (slice_index rest 0) ≡ true) × (n ≡ 1)). blank_quote (slice_index rest 0) blank.0 quote)
    (λ (comment : IsComment rest n). comment_quote rest n quote comment) taken

open_blocked : (rest : List ℕ) → IsOpenComment rest → IsBlocked rest
open_blocked rest opening (Some kind) n taken =
    let yes : opens_comment rest ≡ true = or_right (opens_line rest) (opens_block rest) opening.0 in
    let never : opens_comment rest ≡ false = taken.0 in
    absurd (cc)
open_blocked rest opening None n taken =
    ⊎_elim (λ (blank : (is_blank (slice_index rest 0) ≡ true) × (n ≡ 1)). blank_slash (slice_index rest 0) blank.0 (slash_first 42 rest opening.0))
    (λ (comment : IsComment rest n).
    ⊎_elim (λ (line : IsLineComment rest n). line_or_block rest line.0 opening.0) (λ (block : IsBlockComment rest n). open_or_closed rest n opening block) comment)
    taken

byte_blocked : (rest : List ℕ) → is_blank (slice_index rest 0) ≡ false → opens_comment rest ≡ false → BeginsNoToken rest → IsBlocked rest
byte_blocked rest blank comment none (Some kind) n taken = none kind n taken.1.token
byte_blocked rest blank comment none None n taken =
    ⊎_elim (λ (other : (is_blank (slice_index rest 0) ≡ true) × (n ≡ 1)). (let yes = other.0 in absurd (cc)))
    (λ (other : IsComment rest n). (let yes = comment_opens rest n other in absurd (cc))) taken

pub stopped : (rest : List ℕ) (fault : LexFault) → Stops rest fault → IsBlocked rest
stopped rest (BadByte at) stops = byte_blocked rest stops.1 stops.2 stops.4
stopped rest (OpenString at) stops = string_blocked rest stops.0 stops.1
stopped rest (OpenComment at) stops = open_blocked rest stops
stopped rest Memory stops = absurd stops

no_token_nil : (kind : Kind) (n : ℕ) → IsToken kind (take n []) → ⊥
no_token_nil kind n token =
    let s = splits kind [] n token in
    let size : 0 ≡ length (encode_utf8 s.head) + length (encode_utf8_all s.tail ++ s.after) = ap length s.is ∙ length-append (encode_utf8 s.head) (encode_utf8_all s.tail ++ s.after) in
    omega (arith, length-encode s.head, (len_utf8_bounds s.head).0)

-- nothing is taken at the end
pub nil_blocked : IsBlocked []
nil_blocked (Some kind) n taken = no_token_nil kind n taken.1.token
nil_blocked None n taken =
    ⊎_elim (λ (blank : (is_blank (slice_index [] 0) ≡ true) × (n ≡ 1)). (let yes : false ≡ true = blank.0 in absurd (cc)))
    (λ (comment : IsComment [] n). (let slash : 0 ≡ 47 = comment_slash [] n comment in absurd (omega arith))) taken

-- ---- sizes

line_feed : (rest : List ℕ) (k : ℕ) → slice_index rest 0 ≡ 47 → is_byte 10 (slice_index rest k) ≡ true → 0 < k
line_feed rest zero slash feed = (let is : slice_index rest 0 ≡ 10 = grind (arith, nat_tests) in absurd (omega arith))
line_feed rest (suc k) slash feed = omega arith

line_size : (rest : List ℕ) (n : ℕ) (feed : Option ℕ) → slice_index rest 0 ≡ 47 → 0 < length rest → IsFirstByte (is_byte 10) rest feed → n ≡ unwrap_or feed (length rest)
    → (0 < n) × (n ≤ length rest)
line_size rest n None slash some first size = (omega arith, omega arith)
line_size rest n (Some k) slash some first size = (let low = line_feed rest k slash first.1 in omega arith, omega (arith, first.0.high))

pub comment_size : (rest : List ℕ) (n : ℕ) → 0 < length rest → IsComment rest n → (0 < n) × (n ≤ length rest)
comment_size rest n some comment =
    ⊎_elim (λ (line : IsLineComment rest n). line_size rest n line.1.0 (slash_first 47 rest line.0) some line.1.1 line.1.2)
    (λ (block : IsBlockComment rest n). (omega (arith, block.1.2), omega (arith, block.1.2, block.1.1.1.fits, length-drop 2 rest)))
    comment

-- ---- two stops at one place

pub stops_same : (rest : List ℕ) (f g : LexFault) → place f ≡ place g → Stops rest f → Stops rest g → f ≡ g
stops_same rest (BadByte m) (BadByte n) same f g = ap BadByte same
stops_same rest (BadByte m) (OpenString n) same f g = absurd (f.3 g.0)
stops_same rest (BadByte m) (OpenComment n) same f g =
    (let yes : opens_comment rest ≡ true = or_right (opens_line rest) (opens_block rest) g.0 in let never : opens_comment rest ≡ false = f.2 in absurd (cc))
stops_same rest (BadByte m) Memory same f g = absurd g
stops_same rest (OpenString m) (BadByte n) same f g = absurd (g.3 f.0)
stops_same rest (OpenString m) (OpenString n) same f g = ap OpenString same
stops_same rest (OpenString m) (OpenComment n) same f g = absurd (let slash = slash_first 42 rest g.0 in let quote = f.0 in omega arith)
stops_same rest (OpenString m) Memory same f g = absurd g
stops_same rest (OpenComment m) (BadByte n) same f g =
    (let yes : opens_comment rest ≡ true = or_right (opens_line rest) (opens_block rest) f.0 in let never : opens_comment rest ≡ false = g.2 in absurd (cc))
stops_same rest (OpenComment m) (OpenString n) same f g = absurd (let slash = slash_first 42 rest f.0 in let quote = g.0 in omega arith)
stops_same rest (OpenComment m) (OpenComment n) same f g = ap OpenComment same
stops_same rest (OpenComment m) Memory same f g = absurd g
stops_same rest Memory g same f h = absurd f
