use Rattle.std.proofs.Common.{◌≡◌, ◌++◌, take}
use Rattle.std.specs.List.{flat_map}
use Rattle.rule_drafts.specs.Cells.{event_faults}
use Rattle.rule_drafts.proofs.contents.add_all_faults.Given as goal

abbrev pub invariant-loop-event : goal.invariant-loop-event
invariant-loop-event l = l.faults.items ≡ l.fn.faults.items ++ flat_map (event_faults l.grammar l.leaves l.cells l.readings l.vars) (take l.event-index l.events)
