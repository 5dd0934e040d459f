-- The cells of the draft of a rule of a definition are of their declared kinds.
use Rattle.std.proofs.Common.{◌≡◌, ℕ, ◌≤◌, List, length, Option, sym, ap, subst, ◌∙◌, arith}
use Rattle.std.specs.Option.{option_map_or}
use Rattle.k_lexer.specs.declared.token.Token.{Token}
use Rattle.file_reader.specs.declared.sentence.Sentence.{Sentence}
use Rattle.grammar_terms.specs.Builtins.{with_builtins}
use Rattle.grammar_terms.specs.Grammar.{Syntax, order_of}
use Rattle.sorted_grammar.specs.Laws.{HaveNames}
use Rattle.sorted_grammar.specs.Placing.{grammar_of}
use Rattle.sorted_grammar.specs.Sorting.{IsGrammar}
use Rattle.rule_terms.specs.declared.defs.CellShape.{CellShape}
use Rattle.rule_terms.specs.declared.defs.Kind.TheVariants.{Cells as CellsKind}
use Rattle.rule_terms.specs.declared.rule.Draft.{Draft}
use Rattle.rule_terms.specs.Sound.{is_body_of}
use Rattle.rule_drafts.specs.Cells.{kind_of}
use Rattle.rule_reader.specs.Rules.{IsRule, base_of}
use Rattle.cell_trees.specs.Trees.{Tree as Declaration}
use Rattle.sound_drafts.proofs.Cells.{cells_fit}
use Rattle.sound_sequences.proofs.RuleVariables.{IsRead}
use Rattle.sound_kinds.specs.Laws.{IsOfKinds}
use Rattle.sound_kinds.proofs.OwnSorts.{own_sort}
use Rattle.sound_kinds.proofs.ValueNames.{split_sorted}
use Rattle.sound_kinds.proofs.KindDrafts.{draft_kinds}

-- all productions of a grammar are declared
all_declared : (sentences : List Sentence) (g : Syntax) → IsGrammar sentences g → g.declared ≤ length g.prods
all_declared sentences g is = subst (λ (it : Syntax). it.declared ≤ length it.prods) (sym is.is) (let e : (grammar_of sentences).declared ≤ length (grammar_of sentences).prods = omega arith in e)

-- what the draft of a rule is made of, by the tokens that its text was split into
abbrev read_as : (d : Declaration) (g : Syntax) (before : List (List ℕ)) (text : List ℕ) (tokens : List Token) (rule : Sentence) (after : List (List ℕ)) (draft : Draft)
    → IsRule g d.shapes before text tokens rule after draft → IsRead d g draft
read_as d g before text tokens rule after draft is = record {
  text = text;
  tokens = is.split.tokens;
  sorts = is.is.is.sorts;
  form = is.is.is.is.form;
  form_is = is.is.is.is.form_is;
  at = _;
  reading = is.is.is.is.is.reading;
  read = is.is.is.is.is.read;
  vars = is.is.is.is.is.is.0;
  are = is.is.is.is.is.is.1;
  is = is.is.is.is.is.is.2;
}

pub of_kinds : HaveNames → IsOfKinds
of_kinds names text definition d before tokens rule after draft is tree literals read p has =
    let g : Syntax = with_builtins definition.grammar in
    let shape = (cells_fit d g before text tokens rule after draft tree read).declared p has in
    let kind : kind_of d.shapes p.cell ≡ shape.0.kind = ap (λ (o : Option CellShape). option_map_or (λ (it : CellShape). it.kind) o CellsKind) shape.1 in
    let body =
    draft_kinds definition.grammar (names definition.sentences definition.grammar is.grammar) (all_declared definition.sentences definition.grammar is.grammar) (own_sort text definition is) d draft tree
    literals (read_as d g before text tokens rule after draft read) (split_sorted g d.shapes before text (base_of rule tokens) after read.split read.split_is) read.is.is.sorts_are
    (order_of definition.grammar) p has in
    record {
      shape = shape.0;
      declared = shape.1;
      kind = ap (λ k. is_body_of k p.body) (sym kind) ∙ body.kind_is;
      value = λ q sort one declared. body.value q sort one (kind ∙ declared);
    }
