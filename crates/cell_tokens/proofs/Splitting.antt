-- How a configuration is split, and in one way alone.
use Rattle.std.proofs.Common.{◌≡◌, ℕ, List, [], ◌∷◌, drop, refl, sym, ap, subst, ◌∙◌, Some, None}
use Rattle.k_lexer.specs.declared.token.Token.{Token}
use Rattle.grammar_terms.specs.Grammar.{Syntax}
use Rattle.program_tokens.specs.Terminals.{AreSame, terminals}
use Rattle.program_tokens.specs.Base.{with_tokens}
use Rattle.cell_tokens.specs.declared.token.CellToken.{CellToken}
use Rattle.cell_tokens.specs.Forms.{Lexicon}
use Rattle.cell_tokens.specs.CellTokens.{first_token, AreCellTokens, lexicon_with, lexicon_of, IsCellSplit}
use Rattle.cell_tokens.specs.Laws.{HasOneCellSplit}
use Rattle.cell_tokens.proofs.Reading.{tokens_same}

pub is_split : (g : Syntax) (before names texts : List (List ℕ)) (text : List ℕ) (base : List Token) (tokens : List CellToken) → AreSame texts (terminals g) → names ≡ with_tokens text before base
    → AreCellTokens (lexicon_with texts g names) text tokens base → IsCellSplit g before text base names tokens
is_split g before names texts text base tokens same numbered are = record {
  names = numbered;
  tokens_are = tokens_same (lexicon_with texts g names) (terminals g) same text tokens base are;
}

module _ (l : Lexicon) (text : List ℕ) where
  nothing_first : (base : List Token) (token : CellToken) → base ≡ [] → first_token l text base ≡ Some token → ⊥
  nothing_first base token none is = let no : None ≡ Some token = sym (ap (first_token l text) none) ∙ is in cc

  same_tokens : (one other : List CellToken) (base : List Token) → AreCellTokens l text one base → AreCellTokens l text other base → one ≡ other
  same_tokens [] [] base f h = refl
  same_tokens [] (u ∷ us) base f h = absurd (nothing_first base u f h.0)
  same_tokens (t ∷ ts) [] base f h = absurd (nothing_first base t h f.0)
  same_tokens (t ∷ ts) (u ∷ us) base f h =
      let both : Some t ≡ Some u = sym f.0 ∙ h.0 in
      let first : t ≡ u = cc in
      let rest = same_tokens ts us (drop t.size base) f.1 (subst (λ (v : CellToken). AreCellTokens l text us (drop v.size base)) (sym first) h.1) in
      (λ i. first i ∷ rest i)

pub one_cell_split : HasOneCellSplit
one_cell_split g before text base after others one other f h =
    let names : after ≡ others = f.names ∙ sym h.names in
    let are = subst (λ ns. AreCellTokens (lexicon_of g ns) text other base) (sym names) h.tokens_are in
    (names, same_tokens (lexicon_of g after) text one other base f.tokens_are are)
