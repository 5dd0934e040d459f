-- How signs are read one after another, and what lists that are alike up to a place have in common.
use Rattle.std.proofs.Common.{◌≡◌, ℕ, suc, ◌+◌, ◌≤◌, List, [], ◌∷◌, ◌++◌, length, take, drop, refl, sym, ap, ◌∙◌, subst, arith}
use Rattle.std.proofs.lemmas.List.{take-take, drop-drop, drop-take}
use Rattle.k_lexer.specs.declared.token.Token.{Token}
use Rattle.production_reader.specs.Lexemes.{Lexeme, Sign, Reads, AreAlike, lexemes_after}

-- there are as many lexemes as tokens
pub lexemes-length : (text : List ℕ) (last : ℕ) (tokens : List Token) → length (lexemes_after text last tokens) ≡ length tokens
lexemes-length text last [] = refl
lexemes-length text last (token ∷ tokens) = ap suc (lexemes-length text token.end tokens)

pub reads_join : (first second : List Sign) (a b c : List Lexeme) → Reads first a b → Reads second b c → Reads (first ++ second) a c
reads_join [] second a b c one other = subst (λ t. Reads second t c) (sym one) other
reads_join (sign ∷ first) second [] b c one other = absurd one
reads_join (sign ∷ first) second (lexeme ∷ a) b c one other = (one.0, reads_join first second a b c one.1 other)

-- what is read by both is read by the first, and then by the second
pub record IsSplit (first second : List Sign) (a c : List Lexeme) : Type 0 where
  pub middle : List Lexeme
  pub one : Reads first a middle
  pub other : Reads second middle c

pub reads_split : (first second : List Sign) (a c : List Lexeme) → Reads (first ++ second) a c → IsSplit first second a c
reads_split [] second a c all = record { middle = a; one = refl; other = all }
reads_split (sign ∷ first) second [] c all = absurd all
reads_split (sign ∷ first) second (lexeme ∷ a) c all =
    let s = reads_split first second a c all.1 in
    record { middle = s.middle; one = (all.0, s.one); other = s.other }

pub reads-length : (signs : List Sign) (a b : List Lexeme) → Reads signs a b → length a ≡ length signs + length b
reads-length [] a b read = ap length read ∙ omega arith
reads-length (sign ∷ signs) [] b read = absurd read
reads-length (sign ∷ signs) (lexeme ∷ a) b read =
    let more : length a ≡ length signs + length b = reads-length signs a b read.1 in omega arith

-- what is left is what stands behind as many lexemes as there are signs
pub reads_left : (signs : List Sign) (a b : List Lexeme) → Reads signs a b → b ≡ drop (length signs) a
reads_left [] a b read = sym read
reads_left (sign ∷ signs) [] b read = absurd read
reads_left (sign ∷ signs) (lexeme ∷ a) b read = reads_left signs a b read.1

pub reads_place : (signs : List Sign) (all after : List Lexeme) (from : ℕ) → Reads signs (drop from all) after → after ≡ drop (from + length signs) all
reads_place signs all after from read = reads_left signs (drop from all) after read ∙ drop-drop (length signs) from all

-- what is read depends on those lexemes alone
pub reads_on : (signs : List Sign) (a b more : List Lexeme) → Reads signs a b → Reads signs (a ++ more) (b ++ more)
reads_on [] a b more read = ap (λ t. t ++ more) read
reads_on (sign ∷ signs) [] b more read = absurd read
reads_on (sign ∷ signs) (lexeme ∷ a) b more read = (read.0, reads_on signs a b more read.1)

pub alike_refl : (at : ℕ) (all : List Lexeme) → AreAlike at all all
alike_refl at all = refl

-- alike up to a place, and so up to a lesser one
pub alike_less : (less at : ℕ) (one other : List Lexeme) → less ≤ at → AreAlike at one other → AreAlike less one other
alike_less less at one other below alike =
    let shorter : (l : List Lexeme) → take (less + 1) (take (at + 1) l) ≡ take (less + 1) l = λ l. take-take (less + 1) (at + 1) l (omega arith) in
    sym (shorter one) ∙ ap (λ l. take (less + 1) l) alike ∙ shorter other

-- what stands behind a place is alike
pub alike_behind : (from at : ℕ) (one other : List Lexeme) → AreAlike (from + at) one other → AreAlike at (drop from one) (drop from other)
alike_behind from at one other alike =
    let longer : (l : List Lexeme) → drop from (take (from + (at + 1)) l) ≡ take (at + 1) (drop from l) = λ l. drop-take from (at + 1) l in
    let same : take (from + (at + 1)) one ≡ take (from + (at + 1)) other = subst (λ n. take n one ≡ take n other) (omega arith) alike in
    sym (longer one) ∙ ap (λ l. drop from l) same ∙ longer other

-- the lexeme at a place, or that there is none, is the same
pub alike_head : (at : ℕ) (one other : List Lexeme) → AreAlike at one other → take 1 (drop at one) ≡ take 1 (drop at other)
alike_head at one other alike = alike_behind at 0 one other (subst (λ n. AreAlike n one other) (omega arith) alike)
