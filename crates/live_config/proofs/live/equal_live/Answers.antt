use Rattle.std.proofs.Common.{ap, ◌∙◌, sym}
use Rattle.live_config.proofs.Equal.{entries_eq}
use Rattle.live_config.proofs.live.equal_live.Goals as goal

pub returns : goal.returns
returns c =
    let same = entries_eq _ _ _ c.eq.ensures in
    let first = ap (λ s. s.now.cells) c.a.view_is in
    let second = ap (λ s. s.now.cells) c.b.view_is in
    (λ t. ap (λ es. record { cells = es }) (sym first ∙ same.0 t ∙ second), λ e. same.1 (first ∙ ap (λ d. d.cells) e ∙ sym second))
