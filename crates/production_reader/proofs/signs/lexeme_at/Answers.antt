use Rattle.std.proofs.Common.{◌≡◌, ℕ, suc, zero, ◌+◌, ◌<◌, ◌^◌, List, [], ◌∷◌, length, Option, Some, None, MatchOption, arith}
use Rattle.std.specs.Prelude.{slice_get, option_map}
use Rattle.production_reader.specs.Lexemes.{Lexeme}
use Rattle.production_reader.specs.Sources.{piece_of}
use Rattle.production_reader.specs.declared.source.Lexeme as code
use Rattle.production_reader.proofs.signs.lexeme_at.Goals as goal

there : (all : List Lexeme) (at : ℕ) (l : Lexeme) → Some l ≡ slice_get all at → at < length all
there [] at l is = absurd (cc)
there (m ∷ all) zero l is = omega arith
there (m ∷ all) (suc at) l is = let before : at < length all = there all at l is in omega arith

by_cases : (o : Option code.Lexeme) (all : List Lexeme) (at count : ℕ) → count ≡ length all → count < 2 ^ 64 → option_map piece_of o ≡ slice_get all at
    → MatchOption o (None ≡ slice_get all at) (λ l. (Some (piece_of l) ≡ slice_get all at) × (at + 1 < 2 ^ 64))
by_cases None all at count is small e = e
by_cases (Some l) all at count is small e = let before : at < length all = there all at (piece_of l) e in (e, omega arith)

pub returns : goal.returns
returns c = by_cases c.lexeme.result c.args.source.now c.args.at c.len-count.result c.len-count.ensures c.len-count.type_inv c.lexeme.ensures
