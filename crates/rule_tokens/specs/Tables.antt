-- A table of what is written of named variables.
use Rattle.std.specs.Prelude.{◌≡◌, ℕ, ◌==◌, if◌then◌else◌, List, [], map, Option, Some, None, nat_eq}
use Rattle.std.specs.List.{list_any}
use Rattle.std.specs.Map.{lookup}
use Rattle.rule_tokens.specs.declared.table.Written.{Written}
use Rattle.rule_tokens.specs.Variables.{Occurrence, names_of, written, first_of, other_of, with_numbers}

-- the first of some sorts and the first other one
abbrev pub summary : List ℕ → Written
summary sorts = record { first = first_of sorts; other = other_of sorts }

-- the same with one sort more at the end
abbrev pub also_sort : Option ℕ → Option ℕ → ℕ → Written
also_sort None other sort = record { first = Some sort; other = None }
also_sort (Some first) None sort = if sort == first then record { first = Some first; other = None } else record { first = Some first; other = Some sort }
also_sort (Some first) (Some other) sort = record { first = Some first; other = Some other }

abbrev pub also : Written → Option ℕ → Written
also written None = written
also written (Some sort) = also_sort written.first written.other sort

-- The entries tell what is written of each variable of these occurrences, in the order of their first ones.
pub record Tells (occurrences : List Occurrence) (entries : List (ℕ × Written)) : Type 0 where
  pub names : map (λ entry. entry.0) entries ≡ with_numbers [] (names_of occurrences)
  pub each : (name : ℕ)
      → lookup (nat_eq name) entries ≡ (if list_any (λ other. name == other) (names_of occurrences) then Some (summary (written name occurrences)) else None)
