use Rattle.std.proofs.Common.{inl, inr, sym, ◌∙◌}
use Rattle.program_reader.proofs.Twofold.{lesser_first, lesser_second}
use Rattle.program_reader.proofs.reading.two_values.Goals as goal

pub returns-in-Less : goal.returns-in-Less
returns-in-Less c =
    lesser_first c.args.grammar.now c.args.sort c.args.words.now c.args.one.now c.args.other.now c.requires.one c.requires.other c.requires.differ
    c.in_ok-first.first c.in_ok-second.second c.in_ok-first.ensures c.in_ok-second.ensures
    (elim c.in-Less.is [ inl less ↦ inl (sym c.cmp.ensures ∙ less) | inr tie ↦ inr (sym c.cmp.ensures ∙ tie) ])

pub returns-in-Greater : goal.returns-in-Greater
returns-in-Greater c =
    lesser_second c.args.grammar.now c.args.sort c.args.words.now c.args.one.now c.args.other.now c.requires.one c.requires.other c.requires.differ
    c.in_ok-first.first c.in_ok-second.second c.in_ok-first.ensures c.in_ok-second.ensures c.in-Greater.ensures
