use Rattle.cell_contents.proofs.Growing.{entry_is}
use Rattle.cell_contents.proofs.tails.entry_at.Goals as goal

pub returns : goal.returns
returns c =
    entry_is c.args.grammar.now c.args.before.now c.args.words.now c.in_ok-item.item c.in_ok-key.key c.in_ok-value.value c.in_ok-member.member
    c.in_ok-item.ensures c.in_ok-key.ensures c.in_ok-value.ensures c.in_ok-member.ensures
