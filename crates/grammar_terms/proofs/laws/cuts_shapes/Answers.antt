use Rattle.std.proofs.Common.{length}
use Rattle.grammar_terms.specs.declared.shape.Shape.{Node}
use Rattle.grammar_terms.specs.Reading.{Parts}
use Rattle.grammar_terms.proofs.Cutting.{cuts_images, node_tells}
use Rattle.grammar_terms.proofs.laws.cuts_shapes.Goals as goal

pub returns : goal.returns
returns c = λ g words p production from past kept. cuts_images (Node p) (Parts g words p production (length production.items) from past) kept (node_tells p)
