use Rattle.std.proofs.Common.{inl, inr, ◌∙◌, sym, ap}
use Rattle.printed_form.specs.Printed.{is_enclosed}
use Rattle.printed_form.proofs.Texts.{filled_unless, not_enclosed, is_enclosed-Seq, is_enclosed-Map, is_enclosed-List}
use Rattle.printed_form.proofs.values.needs_parentheses.Goals as goal

pub returns-in-Map : goal.returns-in-Map
returns-in-Map c = filled_unless _ _ c.is_empty.ensures ∙ sym (ap is_enclosed c.in-Map.is ∙ is_enclosed-Map _)

pub returns-in_default : goal.returns-in_default
returns-in_default c = sym (not_enclosed _ c.in_default.not-Seq c.in_default.not-Map c.in_default.not-List)

pub returns-in-Seq : goal.returns-in-Seq
returns-in-Seq c =
    elim c.in-Seq.is [
      | inl e ↦ filled_unless _ _ c.is_empty-in-Seq.ensures ∙ sym (ap is_enclosed e ∙ is_enclosed-Seq _)
      | inr e ↦ filled_unless _ _ c.is_empty-in-Seq.ensures ∙ sym (ap is_enclosed e ∙ is_enclosed-List _)
    ]
