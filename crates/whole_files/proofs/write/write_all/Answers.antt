-- The bytes that a call took, after those that the earlier calls took, are a longer front of the text.
use Rattle.std.proofs.Common.{arith, ℕ, ◌+◌, ◌-◌, ◌++◌, List, Option, None, Some, length, take, drop, ◌∙◌, ap, append_assoc, length-drop}
use Rattle.std.specs.Io.KnownBytes.{Appends}
use Rattle.std.proofs.lemmas.List.{take_rest}
use Rattle.std.proofs.Math.Seq.{take-add}
use Rattle.whole_files.proofs.write.write_all.Goals as goal

-- what is added in two steps is added
added_twice : (old mid new : Option (List ℕ)) (first second : List ℕ) → Appends old mid first → Appends mid new second → Appends old new (first ++ second)
added_twice None mid new first second a b = tt
added_twice (Some xs) None new first second a b = absurd a
added_twice (Some xs) (Some ys) None first second a b = absurd b
added_twice (Some xs) (Some ys) (Some zs) first second a b = b ∙ ap (λ all. all ++ second) a ∙ append_assoc xs first second

-- a front of what is left of the text, after a front of the text
longer_front : (old mid new : Option (List ℕ)) (text : List ℕ) (done n : ℕ) → Appends old mid (take done text) → Appends mid new (take n (take (length text - done) (drop done text))) → Appends old new (take (done + n) text)
longer_front old mid new text done n a b =
    rw take-add (added_twice old mid new (take done text) (take n (drop done text)) a (rw (← take_rest text done) b))

pub loop-done-preserved : goal.loop-done-preserved
loop-done-preserved g c = record {
  within = omega (arith, c.in_ok-done.ensures.bound, length-drop {A = ℕ});
  some = c.in_ok-done.ensures.some ∙ c.loop-done.invariant.some;
  added = longer_front (g.O.Sink.taken c.args.out.now) (g.O.Sink.taken c.loop-done.out) (g.O.Sink.taken c.write.new.self) c.args.text.now c.loop-done.done c.in_ok-done.field-0 c.loop-done.invariant.added c.in_ok-done.ensures.bytes;
  later = omega (arith, c.in_ok-done.ensures.later);
}
