-- The rules that a text writes are sound.
use Rattle.std.proofs.Common.{◌≡◌, sym, subst}
use Rattle.k_terms.specs.Sorts.{SortOrder}
use Rattle.grammar_terms.specs.Grammar.{Syntax, order_of}
use Rattle.grammar_terms.specs.Builtins.{with_builtins}
use Rattle.strictness.specs.SoundDrafts.{IsSoundDraft}
use Rattle.cell_contents.specs.Soundness.{AreSoundContents}
use Rattle.completed_rules.specs.Fits.{FitsCells}
use Rattle.completed_rules.specs.Laws.{IsCompletedSoundly}
use Rattle.draft_laws.specs.Laws.{AreWrittenRules}
use Rattle.sound_sequences.specs.Laws.{HasWholeSequences, WholeSequences}
use Rattle.sound_patterns.specs.Laws.{HasSoundValues, SoundValues}
use Rattle.sound_drafts.specs.Laws.{HasFitCells, CellsFit, KnowsItsVariables, BindsItsVariables}
use Rattle.sound_kinds.specs.Laws.{IsOfKinds}
use Rattle.sound_rules.specs.Laws.{WrittenRulesAreSound}

pub written_rules : SoundValues → WholeSequences → CellsFit → KnowsItsVariables → BindsItsVariables → IsOfKinds → AreWrittenRules → IsCompletedSoundly → WrittenRulesAreSound
written_rules values_law sequences_law cells_law known_law bound_law kinds_law written complete text definition d language before tokens sentence after draft rule is of read completed =
    let g : Syntax = with_builtins definition.grammar in
    let o : order_of definition.grammar ≡ language.sorts = sym of.sorts in
    let values : HasSoundValues (order_of definition.grammar) draft = values_law text definition d before tokens sentence after draft is of.tree read in
    let sequences : HasWholeSequences draft = sequences_law text definition d before tokens sentence after draft is of.tree read in
    let cells : HasFitCells d draft = cells_law d g before text tokens sentence after draft of.tree read in
    let known = known_law d g before text tokens sentence after draft of.tree read in
    let sound : IsSoundDraft (order_of definition.grammar) draft = record {
      left_marks = cells.left_marks;
      right_marks = cells.right_marks;
      staying = cells.staying;
      bound = bound_law definition.sentences definition.grammar d before text tokens sentence after draft is.grammar of.tree read;
      known = known.known;
      values = values.values;
      condition_values = values.condition_values;
      no_operator = values.no_operator;
      sequences = sequences.sequences;
      condition_sequences = sequences.condition_sequences;
      forms = sequences.forms;
      condition_forms = sequences.condition_forms;
      origin = values.origin;
      numbers = values.numbers;
      condition_numbers = values.condition_numbers;
    } in
    let fits : FitsCells d (order_of definition.grammar) draft = record {
      kinds = kinds_law text definition d before tokens sentence after draft is of.tree of.literals read;
      above = cells.above;
      new_closed = cells.new_closed;
      rests = known.rests;
    } in
    complete d language draft rule of.tree of.cells (subst (λ (s : SortOrder). AreSoundContents s d) o of.contents)
    (subst (λ (s : SortOrder). IsSoundDraft s draft) o sound) (subst (λ (s : SortOrder). FitsCells d s draft) o fits)
    (written d g before text tokens sentence after draft of.tree read) completed
