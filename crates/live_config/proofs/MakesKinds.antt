-- A firing in a configuration that fits makes contents of their declared cells' kinds.
use Rattle.rule_terms.specs.Kinds.{AllFormed}
use Rattle.rule_terms.proofs.BoundFormed.{bound_values_are_formed}
use Rattle.rule_terms.proofs.RightKinds.{contents_are_of_kind}
use Rattle.std.proofs.Common.{ap}
use Rattle.std.specs.Prelude.{is_some}
use Rattle.rule_terms.specs.Spots.{spots}
use Rattle.live_config.specs.Laws.{FiringMakesKinds}
use Rattle.live_config.proofs.Members.{contains-has}
use Rattle.live_config.proofs.Binding.{Binding, sound_rule, left_content}

-- what stands for the variables of a rule that binds is well formed
values_formed : (b : Binding) → AllFormed b.s
values_formed b = bound_values_are_formed b.d b.r b.s (sound_rule b) b.binds.suits.sorts (λ p h.
    let l = left_content b p (contains-has (spots b.r.left) p h) in
    record { shape = l.shape; content = l.content; declared = l.declared; filled = l.is; kind = l.of_kind; further = ap is_some l.further })

pub firing_makes_kinds : FiringMakesKinds
firing_makes_kinds d c site births r s after sound fits fires p h shape declared content is =
    let b : Binding = record { d = d; c = c; site = site; r = r; s = s; sound = sound; fits = fits; binds = fires.binds } in
    contents_are_of_kind d r s p shape content (sound_rule b) fires.binds.suits.sorts (values_formed b) h declared is
