-- The order of sorts in a grammar of contents is that of the declared grammar.
use Rattle.std.proofs.Common.{◌≡◌, ◌≤◌, ◌++◌, length, ap, ◌∙◌, arith}
use Rattle.std.proofs.lemmas.List.{length-append, take-append-le}
use Rattle.grammar_terms.specs.Builtins.{next_sentence, next_group, declared_prods, operator_prods, bracket_prods, with_builtins}
use Rattle.grammar_terms.specs.Grammar.{Syntax, order_by, order_of}
use Rattle.rule_terms.specs.declared.defs.Kind.{Kind}
use Rattle.rule_contents.specs.Contents.{numbers_of, content_prods, with_content}
use Rattle.sorted_grammar.specs.Marks.{AreInside}
use Rattle.sound_patterns.proofs.Grammars.{declared_length, declared_stay}

module _ (base : Syntax) (inside : AreInside base) (whole : base.declared ≤ length base.prods) (kind : Kind) where
  abbrev g : Syntax
  g = with_builtins base

  within : base.declared ≤ length g.prods
  within =
      let s = next_sentence (declared_prods base) in
      let r = next_group (declared_prods base) in
      let long = length-append (declared_prods base) (operator_prods s r ++ bracket_prods s r (length base.names)) in
      let same = declared_length base inside whole in
      omega (arith, long, same)

  pub content_order : order_of (with_content g kind) ≡ order_of base
  content_order = ap order_by (take-append-le base.declared g.prods (content_prods (numbers_of g) kind) within ∙ declared_stay base inside whole _)
