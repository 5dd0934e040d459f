use Rattle.std.proofs.Common.{◌+◌, drop, subst, sym}
use Rattle.std.proofs.lemmas.List.{drop_all}
use Rattle.context_transform.proofs.Rows.{IsReadUpTo, read_one_more, read_all}
use Rattle.context_transform.proofs.Telling.{left_at, bad_first}
use Rattle.context_transform.proofs.rules.read_rules.Goals as goal

pub returns-in-Err-clause-fault : goal.returns-in-Err-clause-fault
returns-in-Err-clause-fault c =
    let l = c.loop-sentence in
    bad_first c.args.grammar.now c.args.tree.now c.args.text.now c.args.tokens.now c.args.names.now c.args.sentences.now l.sentence-index c.sentence-item.result
    c.loop-sentence-test.true c.sentence-item.is l.names l.rules.items l.number l.invariant c.in-Err.fault c.in-Err.ensures.fault

pub loop-sentence-preserved : goal.loop-sentence-preserved
loop-sentence-preserved c =
    let l = c.loop-sentence in
    subst
    (λ rs. IsReadUpTo c.args.grammar.now c.args.tree.now c.args.text.now c.args.tokens.now c.args.names.now c.args.sentences.now (drop (l.sentence-index + 1) c.args.sentences.now) c.read_one.new.names rs (l.number + 1))
    (sym c.in-Ok-push.ensures.items)
    (read_one_more c.args.grammar.now c.args.tree.now c.args.text.now c.args.tokens.now c.args.names.now c.args.sentences.now _ _ c.sentence-item.result
    (left_at c.args.sentences.now l.sentence-index c.sentence-item.result c.loop-sentence-test.true c.sentence-item.is)
    l.names l.rules.items l.number l.invariant c.in-Ok.rule c.read_one.new.names c.in-Ok.ensures.ok)

pub returns-clause-ok : goal.returns-clause-ok
returns-clause-ok c =
    let l = c.loop-sentence in
    read_all c.args.grammar.now c.args.tree.now c.args.text.now c.args.tokens.now c.args.names.now c.args.sentences.now l.names l.rules.items l.number _
    (drop_all l.sentence-index c.args.sentences.now c.loop-sentence-test.false) l.invariant
