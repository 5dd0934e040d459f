-- A list of lexemes stops being the front of a file at one place alone.
use Rattle.std.proofs.Common.{◌≡◌, ℕ, ◌+◌, ◌<◌, ◌≤◌, List, [], ◌∷◌, ◌++◌, length, take, drop, refl, sym, subst, ◌∙◌, arith, length-drop, length-take, ⊎_elim, ◌⊎◌}
use Rattle.std.proofs.lemmas.List.{take-take, take-append-le}
use Rattle.std.proofs.lemmas.Bool.{cases_order}
use Rattle.production_reader.specs.Lexemes.{Lexeme, Sign, Reads, AreAlike}
use Rattle.production_reader.specs.Reading.{StopsAt}
use Rattle.production_reader.proofs.Lexemes.{reads_join, reads-length}
use Rattle.file_reader.specs.Files.{IsEnd}

-- what signs ask for
abbrev filled : List Sign → List Lexeme
filled [] = []
filled (sign ∷ signs) = record { kind = sign.kind; bytes = sign.bytes; joined = sign.joined } ∷ filled signs

reads_filled : (signs : List Sign) → Reads signs (filled signs) []
reads_filled [] = refl
reads_filled (sign ∷ signs) = ((refl, refl, λ joined. joined), reads_filled signs)

-- what is read stands in front, whatever follows
reads_taken : (signs : List Sign) (a b more : List Lexeme) → Reads signs a b → Reads signs (take (length signs) a ++ more) more
reads_taken [] a b more read = refl
reads_taken (sign ∷ signs) [] b more read = absurd read
reads_taken (sign ∷ signs) (lexeme ∷ a) b more read = (read.0, reads_taken signs a b more read.1)

module _ {X : Type 0} (Allowed : X → Type 0) (signs : X → List Sign) (all : List Lexeme) where
  no_later : (m n : ℕ) → StopsAt Allowed signs IsEnd all 0 m → StopsAt Allowed signs IsEnd all 0 n → m < n → ⊥
  no_later m n first second later =
      let within : n ≤ length all = second.within in
      let other = take n all ++ filled second.left in
      let long : n ≡ length second.done = let read = reads-length second.done (drop 0 all) (drop n all) second.reads in omega (arith, read, length-drop n all) in
      let front : Reads second.done other (filled second.left) =
      subst (λ k. Reads second.done (take k all ++ filled second.left) (filled second.left)) (sym long) (reads_taken second.done all (drop n all) (filled second.left) second.reads) in
      let whole : Reads (signs second.begun) other [] =
      subst (λ s. Reads s other []) (sym second.parts) (reads_join second.done second.left other (filled second.left) [] front (reads_filled second.left)) in
      let taken : length (take n all) ≡ n = simp (length-take) (omega arith) in
      let alike : AreAlike m other all =
      take-append-le (m + 1) (take n all) (filled second.left) (omega (arith, taken)) ∙ take-take (m + 1) n all (omega arith) in
      first.none other second.begun [] alike second.allowed whole refl

  pub one_stop : (m n : ℕ) → StopsAt Allowed signs IsEnd all 0 m → StopsAt Allowed signs IsEnd all 0 n → m ≡ n
  one_stop m n first second =
      ⊎_elim
      (λ (same : m ≡ n). same)
      (λ (other : (m < n) ⊎ (n < m)). absurd (⊎_elim (λ (l : m < n). no_later m n first second l) (λ (l : n < m). no_later n m second first l) other))
      (cases_order m n)
