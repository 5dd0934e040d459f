-- In the draft of a rule of a definition whole sequences and rests stand where they may.
use Rattle.std.proofs.Common.{◌≤◌, List, length, sym, subst, arith}
use Rattle.grammar_terms.specs.Builtins.{with_builtins}
use Rattle.grammar_terms.specs.Grammar.{Syntax}
use Rattle.file_reader.specs.declared.sentence.Sentence.{Sentence}
use Rattle.sorted_grammar.specs.Laws.{HaveNames}
use Rattle.sorted_grammar.specs.Marks.{AreInside}
use Rattle.sorted_grammar.specs.Placing.{grammar_of}
use Rattle.sorted_grammar.specs.Sorting.{IsGrammar}
use Rattle.sound_sequences.specs.Laws.{WholeSequences}
use Rattle.sound_sequences.proofs.Builtins.{has_sorts, take_items}
use Rattle.sound_sequences.proofs.RuleVariables.{read_of}
use Rattle.sound_sequences.proofs.RuleSequences.{whole_read}

-- all productions of a grammar are declared
all_declared : (sentences : List Sentence) (g : Syntax) → IsGrammar sentences g → g.declared ≤ length g.prods
all_declared sentences g is = subst (λ (it : Syntax). it.declared ≤ length it.prods) (sym is.is) (let e : (grammar_of sentences).declared ≤ length (grammar_of sentences).prods = omega arith in e)

pub whole_sequences : HaveNames → WholeSequences
whole_sequences names text definition d before tokens rule after draft is tree read =
    let inside : AreInside definition.grammar = names definition.sentences definition.grammar is.grammar in
    let within = all_declared definition.sentences definition.grammar is.grammar in
    whole_read d (with_builtins definition.grammar) draft tree (has_sorts definition.grammar inside within) (take_items definition.grammar inside within)
    (read_of d (with_builtins definition.grammar) before text tokens rule after draft read)
