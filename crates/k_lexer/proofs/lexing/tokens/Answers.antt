use Rattle.std.proofs.Common.{Vec, List, arith}
use Rattle.std.specs.declared.alloc.Global.{Global}
use Rattle.k_lexer.specs.declared.token.Token.{Token}
use Rattle.k_lexer.proofs.Faults.{utf8_answer, utf8_tokens, utf8_fault, bad_of_whole, fault_before_bad, bad_before_fault, no_tokens, only_fault}
use Rattle.k_lexer.proofs.lexing.tokens.Goals as goal

abbrev items_of : Vec Token Global → List Token
items_of v = v.items

pub returns-in_default-clause-fault : goal.returns-in_default-clause-fault
returns-in_default-clause-fault c = utf8_answer items_of c.args.text.now c.scan-scanned.result c.in_default.ensures c.scan-scanned.ensures

pub returns-in_default-clause-exact : goal.returns-in_default-clause-exact
returns-in_default-clause-exact c = utf8_tokens items_of c.args.text.now c.scan-scanned.result c.in_default.ensures c.scan-scanned.ensures

pub returns-in_default-clause-exact_fault : goal.returns-in_default-clause-exact_fault
returns-in_default-clause-exact_fault c = utf8_fault items_of c.args.text.now c.scan-scanned.result c.in_default.ensures c.scan-scanned.ensures

pub returns-in_default-scanned-clause-fault : goal.returns-in_default-scanned-clause-fault
returns-in_default-scanned-clause-fault c = bad_of_whole c.args.text.now c.in-Some.at _ c.in-Some.ensures c.in_default-scanned.ensures

pub returns-in_default-scanned-clause-exact : goal.returns-in_default-scanned-clause-exact
returns-in_default-scanned-clause-exact c = no_tokens c.args.text.now _ (bad_of_whole c.args.text.now c.in-Some.at _ c.in-Some.ensures c.in_default-scanned.ensures)

pub returns-in_default-scanned-clause-exact_fault : goal.returns-in_default-scanned-clause-exact_fault
returns-in_default-scanned-clause-exact_fault c =
    only_fault c.args.text.now _ (bad_of_whole c.args.text.now c.in-Some.at _ c.in-Some.ensures c.in_default-scanned.ensures)

pub returns-then-place-at-clause-fault : goal.returns-then-place-at-clause-fault
returns-then-place-at-clause-fault c = fault_before_bad c.args.text.now c.in-Some.at c.in-Err.fault c.in-Some.ensures c.in-Err.ensures (omega (arith, c.place.ensures, c.if-place-at.true))

pub returns-then-place-at-clause-exact : goal.returns-then-place-at-clause-exact
returns-then-place-at-clause-exact c =
    no_tokens c.args.text.now c.in-Err.fault (fault_before_bad c.args.text.now c.in-Some.at c.in-Err.fault c.in-Some.ensures c.in-Err.ensures (omega (arith, c.place.ensures, c.if-place-at.true)))

pub returns-then-place-at-clause-exact_fault : goal.returns-then-place-at-clause-exact_fault
returns-then-place-at-clause-exact_fault c =
    only_fault c.args.text.now c.in-Err.fault (fault_before_bad c.args.text.now c.in-Some.at c.in-Err.fault c.in-Some.ensures c.in-Err.ensures (omega (arith, c.place.ensures, c.if-place-at.true)))

pub returns-clause-fault : goal.returns-clause-fault
returns-clause-fault c = bad_before_fault c.args.text.now c.in-Some.at c.in-Err.fault c.in-Some.ensures c.in-Err.ensures (omega (arith, c.place.ensures, c.if-place-at.false))

pub returns-clause-exact : goal.returns-clause-exact
returns-clause-exact c =
    no_tokens c.args.text.now _ (bad_before_fault c.args.text.now c.in-Some.at c.in-Err.fault c.in-Some.ensures c.in-Err.ensures (omega (arith, c.place.ensures, c.if-place-at.false)))

pub returns-clause-exact_fault : goal.returns-clause-exact_fault
returns-clause-exact_fault c =
    only_fault c.args.text.now _ (bad_before_fault c.args.text.now c.in-Some.at c.in-Err.fault c.in-Some.ensures c.in-Err.ensures (omega (arith, c.place.ensures, c.if-place-at.false)))
