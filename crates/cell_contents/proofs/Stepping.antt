-- One more place where the first item can end.
use Rattle.std.proofs.Common.{◌≡◌, ◌⊎◌, inl, inr, ℕ, ◌+◌, ◌<◌, ◌≤◌, List, [], ◌∷◌, ◌++◌, length, take, drop, sym, ap, ◌∙◌, subst, arith, length-append}
use Rattle.std.proofs.lemmas.List.{take-append-drop, length-take-le}
use Rattle.std.proofs.Math.Seq.{take-append_seam, drop-append_seam}
use Rattle.grammar_terms.specs.declared.word.Word.{Word}
use Rattle.grammar_terms.specs.Grammar.{Syntax}
use Rattle.cell_contents.specs.declared.ways.Way.{Way}
use Rattle.cell_contents.specs.declared.found.Found.{Found}
use Rattle.cell_contents.specs.declared.found.Found.TheVariants.{Zero}
use Rattle.cell_contents.specs.Readings.{Item}
use Rattle.cell_contents.specs.Tails.{Follows, IsTail, IsTailWithin, Starts}
use Rattle.cell_contents.specs.Tables.{Finds, union}
use Rattle.cell_contents.proofs.Finding.{finds_same, finds_union}

less_or_same : (a b : ℕ) → a < b + 1 → (a < b) ⊎ (a ≡ b)
less_or_same a b less = grind (arith, less)

module _ (g : Syntax) (w : Way) (words : List Word) where
  abbrev At : ℕ → List Item → Type 0
  At n = Starts g (Follows g w (drop n words)) (take n words)

  to : (n : ℕ) → n ≤ length words → (x : List Item) → IsTailWithin g w words n x ⊎ At n x → IsTailWithin g w words (n + 1) x
  to n within [] (inl s) = s
  to n within [] (inr s) = s
  to n within (item ∷ items) (inl s) = let less = s.0 in (omega (arith, less), s.1)
  to n within (item ∷ items) (inr s) =
      let size : length item.words ≡ n = ap length s.0 ∙ length-take-le n words within in
      let is : words ≡ item.words ++ drop n words = sym (take-append-drop n words) ∙ ap (λ ws. ws ++ drop n words) (sym s.0) in
      (omega (arith, size), (drop n words, is, s.1, s.2))

  from : (n : ℕ) (x : List Item) → IsTailWithin g w words (n + 1) x → IsTailWithin g w words n x ⊎ At n x
  from n [] s = inl s
  from n (item ∷ items) s = elim (less_or_same (length item.words) n s.0) [
    | inl less ↦ inl (less, s.1)
    | inr same ↦
        let front : item.words ≡ take n words = sym (take-append_seam item.words s.1.0) ∙ (λ i. take (same i) (sym s.1.1 i)) in
        let back : s.1.0 ≡ drop n words = sym (drop-append_seam item.words s.1.0) ∙ (λ i. drop (same i) (sym s.1.1 i)) in
        let P : List Word → Type 0 = λ rest. Follows g w rest items in
        inr (front, s.1.2, subst P back s.1.3)
  ]

  apart : (n : ℕ) → n ≤ length words → (x : List Item) → IsTailWithin g w words n x → At n x → ⊥
  apart n within [] s t = s
  apart n within (item ∷ items) s t =
      let size : length item.words ≡ n = ap length t.0 ∙ length-take-le n words within in
      let less = s.0 in
      omega (arith, size, less)

  pub found_more : (n : ℕ) → n ≤ length words → (found more : Found) → Finds g (IsTailWithin g w words n) found → Finds g (At n) more → Finds g (IsTailWithin g w words (n + 1)) (union found more)
  found_more n within found more finds also =
      finds_same g (λ x. IsTailWithin g w words n x ⊎ At n x) (IsTailWithin g w words (n + 1)) (to n within) (from n) (union found more)
      (finds_union g (IsTailWithin g w words n) (At n) (apart n within) found more finds also)

  pub found_first : Finds g (IsTailWithin g w words (0 + 1)) Zero
  found_first [] s = s
  found_first (item ∷ items) s = let less = s.0 in let some = s.1.2.some in omega (arith, less, some)

  whole : (items : List Item) → IsTail g w words items → IsTailWithin g w words (length words + 1) items
  whole [] s = s
  whole (item ∷ items) s = let size = ap length s.1 ∙ length-append item.words s.0 in (omega (arith, size), s)

  part : (n : ℕ) (items : List Item) → IsTailWithin g w words n items → IsTail g w words items
  part n [] s = s
  part n (item ∷ items) s = s.1

  pub found_whole : (n : ℕ) (found : Found) → n ≡ length words → Finds g (IsTailWithin g w words (n + 1)) found → Finds g (IsTail g w words) found
  found_whole n found same finds =
      let P : ℕ → Type 0 = λ m. Finds g (IsTailWithin g w words (m + 1)) found in
      finds_same g (IsTailWithin g w words (length words + 1)) (IsTail g w words) (part (length words + 1)) whole found (subst P same finds)

  -- the same where the parts of the words and what is found have other names
  pub found_step : (n : ℕ) (front back : List Word) (found more next : Found) → n ≤ length words → front ≡ take n words → back ≡ drop n words → next ≡ union found more
      → Finds g (IsTailWithin g w words n) found → Finds g (Starts g (Follows g w back) front) more → Finds g (IsTailWithin g w words (n + 1)) next
  found_step n front back found more next within f b e finds also =
      let P : List Word → Type 0 = λ ws. Finds g (Starts g (Follows g w back) ws) more in
      let Q : List Word → Type 0 = λ ws. Finds g (Starts g (Follows g w ws) (take n words)) more in
      subst (Finds g (IsTailWithin g w words (n + 1))) (sym e) (found_more n within found more finds (subst Q b (subst P f also)))
