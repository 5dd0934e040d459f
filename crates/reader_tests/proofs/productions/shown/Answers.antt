use Rattle.std.proofs.Common.{sym, ◌∙◌, subst}
use Rattle.production_reader.specs.Sources.{AreWithin}
use Rattle.production_reader.proofs.Within.{tokens_within}
use Rattle.reader_tests.proofs.productions.shown.Goals as goal

pub new-source-requires : goal.new-source-requires
new-source-requires c =
    subst (λ t. AreWithin t c.deref.result.now) (c.as_bytes.ensures.value ∙ sym c.as_bytes-2.ensures.value)
    (subst (λ ts. AreWithin c.as_bytes.result.now ts) (sym c.deref.ensures.value) (tokens_within c.as_bytes.result.now c.in_ok-found.found.items c.in_ok-found.ensures.ok))
