use Rattle.std.proofs.Common.{arith, sym, subst}
use Rattle.sorted_grammar.specs.Marks.{AreInside}
use Rattle.sorted_grammar.proofs.Mentions.{are_inside, names_long}
use Rattle.sorted_grammar.proofs.laws.have_names.Goals as goal

pub returns : goal.returns
returns c = λ sentences g is.
    let long = names_long sentences in
    let few = is.sorts in
    subst AreInside (sym is.is) (are_inside sentences (omega (arith, long, few)))
