-- Where the next item of a production is a sort.
use Rattle.std.specs.Prelude.{◌≡◌, Option, None, Some}
use Rattle.grammar_terms.specs.declared.production.Production.{Production}
use Rattle.grammar_terms.specs.Grammar.{Syntax, production_at}
use Rattle.span_rows.specs.declared.row.Key.{Key}
use Rattle.span_rows.specs.declared.row.Key.TheVariants.{Front}
use Rattle.span_rows.specs.declared.slot.Slot.{Slot}
use Rattle.span_rows.specs.Steps.{sort_wanted, count_after}

-- so it is behind a front of a production
pub record IsSlot (g : Syntax) (key : Key) (slot : Slot) : Type 0 where
  pub production : Production
  pub key_is : key ≡ Front slot.prod slot.count slot.held
  pub is_there : production_at g.prods slot.prod ≡ Some production
  pub wanted : sort_wanted production slot.count ≡ Some slot.sort
  pub after_is : slot.after ≡ count_after production slot.count

-- a slot behind a row, or that there is none
abbrev pub IsSlotOf : Syntax → Key → Option Slot → Type 0
IsSlotOf g key None = (slot : Slot) → IsSlot g key slot → ⊥
IsSlotOf g key (Some slot) = IsSlot g key slot
