use Rattle.std.proofs.Common.{ℕ, List, [], ◌∷◌, reverse}
use Rattle.import_order.specs.Walking.{open_in, IsWalk, LeadsTo, steps_left}
use Rattle.import_order.proofs.Walks.{AreReached}
use Rattle.import_order.proofs.walk.visit.Given as goal

abbrev pub invariant-loop-top : goal.invariant-loop-top
invariant-loop-top l = record {
  walking : IsWalk l.graph l.walk;
  leads : (last : List ℕ) → LeadsTo l.graph (reverse l.walk.frames.items) l.walk.order.items last
      → LeadsTo l.graph (record { importer = l.root; next = 0 } ∷ []) l.fn.walk.order.items last;
  reached : AreReached l.graph l.root (open_in (reverse l.walk.frames.items));
}

abbrev pub decreases-loop-top : goal.decreases-loop-top
decreases-loop-top l = steps_left l.graph l.walk
