use Rattle.std.proofs.Common.{◌≡◌, ℕ, Bool, List, IsTrue, subst}
use Rattle.production_reader.specs.Allowed.{IsTerminal}
use Rattle.production_reader.proofs.ProductionReading.{no_text, no_terminal, text_stops, text_read}
use Rattle.production_reader.proofs.production.read_by_text.Goals as goal

tells : (test : Bool) (text other : List ℕ) → text ≡ other → (IsTrue test → IsTerminal text) × (IsTerminal text → IsTrue test)
    → (IsTrue test → IsTerminal other) × (IsTerminal other → IsTrue test)
tells test text other is both = subst (λ t. (IsTrue test → IsTerminal t) × (IsTerminal t → IsTrue test)) is both

pub returns-in_default : goal.returns-in_default
returns-in_default c = no_text c.args.had c.requires.goes c.args.source.now c.args.from c.requires.within c.requires.no_word c.in_default.ensures

pub returns-then-not-is_terminal : goal.returns-then-not-is_terminal
returns-then-not-is_terminal c = no_terminal c.args.had c.requires.goes c.args.source.now c.args.from c.requires.within
    c.in-Some.string.now c.in-Some-text_of_string.text c.is_terminal.result c.in-Some.ensures.0 c.in-Some-text_of_string.ensures (tells c.is_terminal.result c.as_slice.result.now c.in-Some-text_of_string.text c.as_slice.ensures c.is_terminal.ensures) c.if-not-is_terminal.true

pub returns-in-Ok : goal.returns-in-Ok
returns-in-Ok c = text_read c.args.had c.requires.goes c.args.source.now c.args.from c.requires.within
    c.in-Some.string.now c.in-Some-text_of_string.text c.is_terminal.result c.in-Some.ensures.0 c.in-Some-text_of_string.ensures (tells c.is_terminal.result c.as_slice.result.now c.in-Some-text_of_string.text c.as_slice.ensures c.is_terminal.ensures) c.if-not-is_terminal.false c.in-Ok.found.0 c.in-Ok.found.1 c.in-Ok.ensures

pub returns-in-Err : goal.returns-in-Err
returns-in-Err c = text_stops c.args.had c.requires.goes c.args.source.now c.args.from c.requires.within
    c.in-Some.string.now c.in-Some-text_of_string.text c.is_terminal.result c.in-Some.ensures.0 c.in-Some-text_of_string.ensures (tells c.is_terminal.result c.as_slice.result.now c.in-Some-text_of_string.text c.as_slice.ensures c.is_terminal.ensures) c.if-not-is_terminal.false c.in-Err.stop c.in-Err.ensures
