-- The draft of a rule of a definition has sound values.
use Rattle.std.proofs.Common.{ℕ, ◌≤◌, List, length, sym, subst, arith}
use Rattle.grammar_terms.specs.Builtins.{with_builtins}
use Rattle.grammar_terms.specs.Grammar.{Syntax}
use Rattle.file_reader.specs.declared.sentence.Sentence.{Sentence}
use Rattle.sorted_grammar.specs.Laws.{HaveNames}
use Rattle.sorted_grammar.specs.Placing.{grammar_of}
use Rattle.sorted_grammar.specs.Sorting.{IsGrammar}
use Rattle.sound_sequences.proofs.RuleVariables.{IsRead}
use Rattle.k_lexer.specs.declared.token.Token.{Token}
use Rattle.rule_terms.specs.declared.rule.Draft.{Draft}
use Rattle.cell_trees.specs.Trees.{Tree as Declaration}
use Rattle.rule_reader.specs.Rules.{IsRule, base_of}
use Rattle.sound_patterns.specs.Laws.{SoundValues}
use Rattle.sound_patterns.proofs.Literals.{split_plain}
use Rattle.sound_patterns.proofs.ReadDrafts.{sound_read}

-- all productions of a grammar are declared
all_declared : (sentences : List Sentence) (g : Syntax) → IsGrammar sentences g → g.declared ≤ length g.prods
all_declared sentences g is = subst (λ (it : Syntax). it.declared ≤ length it.prods) (sym is.is) (let e : (grammar_of sentences).declared ≤ length (grammar_of sentences).prods = omega arith in e)

-- what the draft of a rule is made of, by the tokens that its text was split into
abbrev read_as : (d : Declaration) (g : Syntax) (before : List (List ℕ)) (text : List ℕ) (tokens : List Token) (rule : Sentence) (after : List (List ℕ)) (draft : Draft)
    → IsRule g d.shapes before text tokens rule after draft → IsRead d g draft
read_as d g before text tokens rule after draft is = record {
  text = text;
  tokens = is.split.tokens;
  sorts = is.is.is.sorts;
  form = is.is.is.is.form;
  form_is = is.is.is.is.form_is;
  at = _;
  reading = is.is.is.is.is.reading;
  read = is.is.is.is.is.read;
  vars = is.is.is.is.is.is.0;
  are = is.is.is.is.is.is.1;
  is = is.is.is.is.is.is.2;
}

pub sound_values : HaveNames → SoundValues
sound_values names text definition d before tokens rule after draft is tree read =
    let g : Syntax = with_builtins definition.grammar in
    sound_read definition.grammar (names definition.sentences definition.grammar is.grammar) (all_declared definition.sentences definition.grammar is.grammar) d draft tree
    (read_as d g before text tokens rule after draft read) (split_plain g d.shapes before text (base_of rule tokens) after read.split read.split_is)
