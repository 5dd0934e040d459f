-- Counts that stop at the greatest u64, and the calls of a fake that are to fail.
use Rattle.std.specs.Prelude.{ℕ, ◌+◌, ◌-◌, ◌^◌, ◌≤◌, ◌==◌, min, Bool, if◌then◌else◌, List}
use Rattle.std.specs.List.{list_any}

-- a count with one more, where it is not yet at its end
abbrev pub counted : ℕ → ℕ
counted count = min (count + 1) (2 ^ 64 - 1)

-- a count rose, or stands at its end
abbrev pub Rose : ℕ → ℕ → Type 0
Rose before now = counted before ≤ now

-- the numbers, from 1, of the calls that are to fail, and how many calls and faults there were
pub record Plan : Type 0 where
  pub fail : List ℕ
  pub calls : ℕ
  pub faults : ℕ

-- whether the next call is to fail
abbrev pub fails_next : Plan → Bool
fails_next plan = list_any (λ number. number == plan.calls + 1) plan.fail

-- the plan after one more call
abbrev pub after_call : Plan → Bool → Plan
after_call plan failed = record {
  fail = plan.fail;
  calls = counted plan.calls;
  faults = if failed then counted plan.faults else plan.faults;
}
