use Rattle.std.proofs.Common.{◌≡◌, take}
use Rattle.module_reader.proofs.copies.copy_group.Given as goal

abbrev pub invariant-loop-prod : goal.invariant-loop-prod
invariant-loop-prod l = l.copies.items ≡ take l.prod-index l.group
