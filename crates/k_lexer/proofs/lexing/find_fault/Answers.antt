use Rattle.std.proofs.Common.{arith}
use Rattle.k_lexer.proofs.Faults.{found_in_utf8, found_bad, found_before_bad, found_bad_first}
use Rattle.k_lexer.proofs.lexing.find_fault.Goals as goal

pub returns-in_default : goal.returns-in_default
returns-in_default c = found_in_utf8 c.args.text.now c.find_stop-stop.result c.in_default.ensures c.find_stop-stop.ensures

pub returns-in_default-stop : goal.returns-in_default-stop
returns-in_default-stop c = found_bad c.args.text.now c.in-Some.at c.in-Some.ensures c.in_default-stop.ensures

pub returns-then-place-at : goal.returns-then-place-at
returns-then-place-at c =
    found_before_bad c.args.text.now c.in-Some.at c.in-Some-stop.fault c.in-Some.ensures c.in-Some-stop.ensures (omega (arith, c.place.ensures, c.if-place-at.true))

pub returns : goal.returns
returns c =
    found_bad_first c.args.text.now c.in-Some.at c.in-Some-stop.fault c.in-Some.ensures c.in-Some-stop.ensures (omega (arith, c.place.ensures, c.if-place-at.false))
