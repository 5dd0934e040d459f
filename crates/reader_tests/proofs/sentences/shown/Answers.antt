use Rattle.std.proofs.Common.{sym, ◌∙◌, subst}
use Rattle.production_reader.specs.Sources.{AreWithin}
use Rattle.production_reader.proofs.Within.{tokens_within}
use Rattle.reader_tests.proofs.sentences.shown.Goals as goal

pub read_file-requires : goal.read_file-requires
read_file-requires c =
    subst (λ t. AreWithin t c.as_slice.result.now) (c.as_bytes.ensures.value ∙ sym c.as_bytes-2.ensures.value)
    (subst (λ ts. AreWithin c.as_bytes.result.now ts) (sym c.as_slice.ensures.value) (tokens_within c.as_bytes.result.now c.in_ok-found.found.items c.in_ok-found.ensures.ok))
