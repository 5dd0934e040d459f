-- From the lexeme of a number to what stands there.
use Rattle.std.proofs.Common.{◌≡◌, ℕ, suc, zero, ◌+◌, Bool, false, List, [], ◌∷◌, drop, refl, sym, ap, ◌∙◌, subst, Some, None, arith}
use Rattle.std.specs.Prelude.{slice_get}
use Rattle.k_lexer.specs.declared.token.Kind.{Kind}
use Rattle.production_reader.specs.Lexemes.{Lexeme, Sign, Is, Reads}
use Rattle.k_lexer.specs.declared.token.Kind.TheVariants.{Word, Int, Str, Mark}
use Rattle.production_reader.specs.Allowed.{same_text}
use Rattle.production_reader.specs.Heads.{heads, is_mark_of, is_any_word, is_text, is_number, Stands}

pub heads_at : (test : Lexeme → Bool) (all : List Lexeme) (at : ℕ) (l : Lexeme) → Some l ≡ slice_get all at → heads test (drop at all) ≡ test l
heads_at test [] at l there = absurd (cc)
heads_at test (m ∷ all) zero l there = let same : l ≡ m = cc in ap test (sym same)
heads_at test (m ∷ all) (suc at) l there = heads_at test all at l there

pub heads_none : (test : Lexeme → Bool) (all : List Lexeme) (at : ℕ) → None ≡ slice_get all at → heads test (drop at all) ≡ false
heads_none test [] zero there = refl
heads_none test [] (suc at) there = refl
heads_none test (m ∷ all) zero there = absurd (cc)
heads_none test (m ∷ all) (suc at) there = heads_none test all at there

stands_first : (sign : Sign) (ls : List Lexeme) (l : Lexeme) → Is sign l → Some l ≡ slice_get ls 0 → Reads (sign ∷ []) ls (drop 1 ls)
stands_first sign [] l is there = absurd (cc)
stands_first sign (m ∷ ls) l is there = let same : l ≡ m = cc in (subst (λ t. Is sign t) same is, refl)

pub stands_at : (sign : Sign) (all : List Lexeme) (at : ℕ) (l : Lexeme) → Is sign l → Some l ≡ slice_get all at → Stands sign all at
stands_at sign [] at l is there = absurd (cc)
stands_at sign (m ∷ all) zero l is there = stands_first sign (m ∷ all) l is there
stands_at sign (m ∷ all) (suc at) l is there =
    let e : suc (at + 1) ≡ suc at + 1 = omega arith in subst (λ n. Reads (sign ∷ []) (drop at all) (drop n (m ∷ all))) e (stands_at sign all at l is there)

not_mark_by : (byte : ℕ) (kind : Kind) (bytes : List ℕ) (joined : Bool) → (kind ≡ Mark → ⊥) → is_mark_of byte (record { kind = kind; bytes = bytes; joined = joined }) ≡ false
not_mark_by byte Word bytes joined not = refl
not_mark_by byte Int bytes joined not = refl
not_mark_by byte Str bytes joined not = refl
not_mark_by byte Mark bytes joined not = absurd (not refl)

mark_by : (byte : ℕ) (kind : Kind) (bytes : List ℕ) (joined : Bool) → kind ≡ Mark → is_mark_of byte (record { kind = kind; bytes = bytes; joined = joined }) ≡ same_text bytes (byte ∷ [])
mark_by byte Word bytes joined is = absurd (cc)
mark_by byte Int bytes joined is = absurd (cc)
mark_by byte Str bytes joined is = absurd (cc)
mark_by byte Mark bytes joined is = refl

not_word_by : (kind : Kind) (bytes : List ℕ) (joined : Bool) → (kind ≡ Word → ⊥) → is_any_word (record { kind = kind; bytes = bytes; joined = joined }) ≡ false
not_word_by Word bytes joined not = absurd (not refl)
not_word_by Int bytes joined not = refl
not_word_by Str bytes joined not = refl
not_word_by Mark bytes joined not = refl

not_text_by : (kind : Kind) (bytes : List ℕ) (joined : Bool) → (kind ≡ Str → ⊥) → is_text (record { kind = kind; bytes = bytes; joined = joined }) ≡ false
not_text_by Word bytes joined not = refl
not_text_by Int bytes joined not = refl
not_text_by Str bytes joined not = absurd (not refl)
not_text_by Mark bytes joined not = refl

not_number_by : (kind : Kind) (bytes : List ℕ) (joined : Bool) → (kind ≡ Int → ⊥) → is_number (record { kind = kind; bytes = bytes; joined = joined }) ≡ false
not_number_by Word bytes joined not = refl
not_number_by Int bytes joined not = absurd (not refl)
not_number_by Str bytes joined not = refl
not_number_by Mark bytes joined not = refl

module _ (all : List Lexeme) (at : ℕ) (l : Lexeme) (there : Some l ≡ slice_get all at) where
  pub other_mark : (byte : ℕ) → (l.kind ≡ Mark → ⊥) → heads (is_mark_of byte) (drop at all) ≡ false
  other_mark byte not = heads_at (is_mark_of byte) all at l there ∙ not_mark_by byte l.kind l.bytes l.joined not

  pub some_mark : (byte : ℕ) → l.kind ≡ Mark → heads (is_mark_of byte) (drop at all) ≡ same_text l.bytes (byte ∷ [])
  some_mark byte is = heads_at (is_mark_of byte) all at l there ∙ mark_by byte l.kind l.bytes l.joined is

  pub other_word : (l.kind ≡ Word → ⊥) → heads is_any_word (drop at all) ≡ false
  other_word not = heads_at is_any_word all at l there ∙ not_word_by l.kind l.bytes l.joined not

  pub other_text : (l.kind ≡ Str → ⊥) → heads is_text (drop at all) ≡ false
  other_text not = heads_at is_text all at l there ∙ not_text_by l.kind l.bytes l.joined not

  pub other_number : (l.kind ≡ Int → ⊥) → heads is_number (drop at all) ≡ false
  other_number not = heads_at is_number all at l there ∙ not_number_by l.kind l.bytes l.joined not

  pub some_stands : (kind : Kind) → l.kind ≡ kind → Stands (record { kind = kind; bytes = l.bytes; joined = false }) all at
  some_stands kind is = stands_at (record { kind = kind; bytes = l.bytes; joined = false }) all at l (sym is, refl, λ no. absurd (cc)) there
