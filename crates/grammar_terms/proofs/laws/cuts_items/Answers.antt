use Rattle.std.proofs.Common.{Some}
use Rattle.grammar_terms.specs.Reading.{Parts, Child}
use Rattle.grammar_terms.proofs.Cutting.{cuts_joined}
use Rattle.grammar_terms.proofs.laws.cuts_items.Goals as goal

pub returns : goal.returns
returns c = λ g words p production count from at past sort. cuts_joined (Parts g words p production count from at) (Child g words (Some (p, count)) sort at past)
