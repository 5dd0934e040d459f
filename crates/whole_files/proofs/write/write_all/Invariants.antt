use Rattle.std.proofs.Common.{◌≡◌, ◌-◌, ◌≤◌, length, take, is_some}
use Rattle.std.specs.Io.KnownBytes.{Appends}
use Rattle.whole_files.proofs.write.write_all.Given as goal

-- so many bytes of the text were added
abbrev pub invariant-loop-done : goal.invariant-loop-done
invariant-loop-done g l = record {
  within : l.done ≤ length l.text;
  some : is_some (g.O.Sink.taken l.out) ≡ is_some (g.O.Sink.taken l.initial.out);
  added : Appends (g.O.Sink.taken l.initial.out) (g.O.Sink.taken l.out) (take l.done l.text);
  later : g.O.Sink.faults l.initial.out ≤ g.O.Sink.faults l.out;
}

abbrev pub decreases-loop-done : goal.decreases-loop-done
decreases-loop-done g l = length l.text - l.done
