use Rattle.std.proofs.Common.{rules, leb}
use Rattle.std.proofs.lemmas.List.Sorted.{IsPartitionPoint-from_clause}
use Rattle.live_config.proofs.Entries.{parted-drop}
use Rattle.live_config.proofs.Places.{numbers_parted}
use Rattle.live_config.proofs.live.Live.first_past.Goals as goal

pub returns-clause-past : goal.returns-clause-past
returns-clause-past c =
    let parted = IsPartitionPoint-from_clause (λ entry. leb entry.0 c.args.number) _ _ c.partition_point.ensures.partitioned (numbers_parted _ _ (rw c.deref.ensures.value c.self.invariant)) (λ a r f called. search rules) in
    rw (← c.self.view_is, ← c.deref.ensures.value) (parted-drop _ _ _ parted)
