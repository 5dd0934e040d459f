use Rattle.std.proofs.Common.{sym, subst}
use Rattle.import_order.specs.Imports.{AreWithin, HasNoCycle}
use Rattle.module_reader.specs.Joining.{IsJoined, IsRefused, IsGraph, IsCyclic}
use Rattle.module_reader.proofs.Graphs.{graph_is, handed_on, within, cyclic_refused, ordered, joined}
use Rattle.module_reader.proofs.imports.join.Goals as goal
use Rattle.module_reader.proofs.imports.join.Goals.{In_ok-graph}

the_graph : (c : In_ok-graph) → IsGraph c.args.file.names c.args.file.imports c.in_ok-graph.graph.items
the_graph c = graph_is _ _ _ _ _ _ c.in_ok-modules.ensures c.as_slice.ensures c.as_slice-2.ensures c.in_ok-graph.ensures

pub refuse_cycle-requires-clause-within : goal.refuse_cycle-requires-clause-within
refuse_cycle-requires-clause-within c =
    subst AreWithin (sym c.deref.ensures.value)
    (within c.args.file.names c.args.file.imports c.in_ok-graph.graph.items (the_graph (goal.at.refuse_cycle-requires-clause-within c).In_ok-graph) c.requires.imports)

pub returns-in_err-refuse_cycle : goal.returns-in_err-refuse_cycle
returns-in_err-refuse_cycle c =
    handed_on (IsJoined c.args.file) (IsRefused c.args.file.names c.args.file.imports) c.from_residual-in_err-refuse_cycle.result _ c.from_residual-in_err-refuse_cycle.ensures.1
    (cyclic_refused c.args.file.names c.args.file.imports c.in_ok-graph.graph.items (the_graph (goal.at.returns-in_err-refuse_cycle c).In_ok-graph) _
    (subst (λ names. IsCyclic names c.in_ok-graph.graph.items c.in_err-refuse_cycle.field-0.0) c.as_slice-3.ensures
    (subst (λ graph. IsCyclic c.as_slice-3.result.now graph c.in_err-refuse_cycle.field-0.0) c.deref.ensures.value c.in_err-refuse_cycle.ensures)))

pub new-requires-2 : goal.new-requires-2
new-requires-2 c =
    ordered c.args.file.names c.args.file.imports c.in_ok-graph.graph.items (the_graph (goal.at.new-requires-2 c).In_ok-graph) c.args.file.sentences c.requires.some c.requires.imports c.requires.sentences
    (subst HasNoCycle c.deref.ensures.value c.in_ok-refuse_cycle.ensures)

pub returns : goal.returns
returns c =
    joined c.args.file c.in_ok-graph.graph.items c.new-2.result (the_graph (goal.at.returns c).In_ok-graph) (subst HasNoCycle c.deref.ensures.value c.in_ok-refuse_cycle.ensures) c.new-2.ensures
