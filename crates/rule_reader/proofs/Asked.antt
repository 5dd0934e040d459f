-- What is read over a grammar at hand is read over the grammar that it is.
use Rattle.std.proofs.Common.{◌≡◌, ◌⊎◌, inl, inr, ℕ, Bool, List, Result, IfOk, IfErr, refl, sym, ap, ◌∙◌, subst}
use Rattle.grammar_terms.specs.Grammar.{Syntax}
use Rattle.grammar_terms.specs.declared.shape.Shape.{Shape}
use Rattle.grammar_terms.specs.declared.word.Word.{Word}
use Rattle.rule_terms.specs.declared.defs.CellShape.{CellShape}
use Rattle.rule_terms.specs.declared.defs.Kind.{Kind}
use Rattle.rule_tokens.specs.declared.token.RuleToken.{RuleToken}
use Rattle.rule_contents.specs.declared.grammar.ContentGrammar.{ContentGrammar}
use Rattle.rule_contents.specs.declared.reading.Form.{Form}
use Rattle.rule_contents.specs.declared.reading.ContentFault.{ContentFault}
use Rattle.rule_contents.specs.declared.reading.ContentFault.TheVariants.{Memory as NoContentMemory}
use Rattle.rule_contents.specs.Contents.{with_content}
use Rattle.rule_contents.specs.Readings.{IsContent, IsContentFault}
use Rattle.rule_drafts.specs.Cells.{kind_of}
use Rattle.rule_reader.specs.declared.contents.Content.{Content}
use Rattle.rule_reader.specs.declared.refusal.RuleFault.{RuleFault}
use Rattle.rule_reader.specs.declared.refusal.RuleFault.TheVariants.{Memory}
use Rattle.rule_reader.specs.Places.{between, place_of}
use Rattle.rule_reader.specs.Told.{told_content}
use Rattle.rule_reader.specs.Readings.{IsUnreadAs}

module _ (inside self : Syntax) (own kind : Kind) (made : ContentGrammar) (same : inside ≡ self) (own_is : kind ≡ own) (is : made ≡ record { grammar = with_content inside own; kind = own }) where
  moved : made ≡ record { grammar = with_content self kind; kind = kind }
  moved = is ∙ (λ i. record { grammar = with_content (same i) ((sym own_is) i); kind = (sym own_is) i })

  pub content_over : (read : Result (Form × Shape) ContentFault) (is_new : Bool) (words : List Word) → IfOk read (λ found. IsContent made.grammar made.kind is_new words found.0 found.1)
      → IfOk read (λ found. IsContent (with_content self kind) kind is_new words found.0 found.1)
  content_over read is_new words holds = subst (λ (g : ContentGrammar). IfOk read (λ found. IsContent g.grammar g.kind is_new words found.0 found.1)) moved holds

  pub fault_over : (read : Result (Form × Shape) ContentFault) (is_new : Bool) (words : List Word)
      → IfErr read (λ fault. (fault ≡ NoContentMemory) ⊎ IsContentFault made.grammar made.kind is_new words fault)
      → IfErr read (λ fault. (fault ≡ NoContentMemory) ⊎ IsContentFault (with_content self kind) kind is_new words fault)
  fault_over read is_new words holds =
      subst (λ (g : ContentGrammar). IfErr read (λ fault. (fault ≡ NoContentMemory) ⊎ IsContentFault g.grammar g.kind is_new words fault)) moved holds

-- what a content's fault is told as
pub unread_told : (g : Syntax) (cells : List CellShape) (tokens : List RuleToken) (words : List Word) (behind : ℕ) (content : Content) (kind : Kind) (part : List Word) (place : ℕ)
    (why : ContentFault) (fault : RuleFault) → kind ≡ kind_of cells content.cell → part ≡ between words content.first content.past → place ≡ place_of tokens behind content.first
    → fault ≡ told_content place why → (why ≡ NoContentMemory) ⊎ IsContentFault (with_content g kind) kind content.is_new part why
    → (fault ≡ Memory) ⊎ IsUnreadAs g cells tokens words behind content fault
unread_told g cells tokens words behind content kind part place why fault kind_is part_is place_is told (inl memory) = inl (told ∙ ap (told_content place) memory)
unread_told g cells tokens words behind content kind part place why fault kind_is part_is place_is told (inr is) = inr (record {
  why = why;
  is =
      subst (λ k. IsContentFault (with_content g k) k content.is_new (between words content.first content.past) why) kind_is
      (subst (λ ws. IsContentFault (with_content g kind) kind content.is_new ws why) part_is is);
  told = told ∙ ap (λ at. told_content at why) place_is;
})
