-- Numbers above the greatest.
use Rattle.std.proofs.Common.{◌≡◌, ℕ, ◌+◌, ◌*◌, ◌-◌, ◌<◌, ◌≤◌, ◌^◌, List, length, drop, refl, arith, slice_index}
use Rattle.production_reader.specs.Allowed.{number_after, number_of}
use Rattle.production_reader.proofs.Texts.{number_least, number_at}

-- the next digit makes too great a number
pub wide_after : (digits : List ℕ) (at before digit : ℕ) → number_of digits ≡ number_after before (drop at digits) → at < length digits → digit ≡ slice_index digits at
    → 2 ^ 127 ≤ before * 10 + (digit - 48) → 2 ^ 127 ≤ number_of digits
wide_after digits at before digit is within here great =
    let least = number_least (drop (at + 1) digits) (before * 10 + (digit - 48)) in
    let next = number_at digits at before digit within here in
    omega (arith, is, least, next)

-- any digit does
pub wide_before : (digits : List ℕ) (at before : ℕ) → number_of digits ≡ number_after before (drop at digits) → at < length digits
    → 17014118346046923173168730371588410572 < before → 2 ^ 127 ≤ number_of digits
wide_before digits at before is within great = wide_after digits at before (slice_index digits at) is within refl (omega arith)
