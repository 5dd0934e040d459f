use Rattle.std.proofs.Common.{◌≡◌, length}
use Rattle.rule_terms.specs.Fill.{put_new}
use Rattle.right_sides.proofs.entries.put_new.Given as goal

-- the entries that are left, put into those that are there, give all
abbrev pub invariant-loop-entry : goal.invariant-loop-entry
invariant-loop-entry l = put_new l.initial.news.items l.initial.entries.items ≡ put_new l.news.items l.entries.items

abbrev pub decreases-loop-entry : goal.decreases-loop-entry
decreases-loop-entry l = length l.news.items
