use Rattle.std.proofs.Common.{◌<◌, length, Some, refl, arith, sym, ap, ◌∙◌}
use Rattle.std.proofs.lemmas.Option.{slice_get_read}
use Rattle.import_order.proofs.Sequences.{reaches_within}
use Rattle.module_reader.proofs.imports.refuse_cycle.Goals as goal

pub returns : goal.returns
returns c =
    let first = rw c.in-Some.is at c.in_ok-number.ensures in
    let within : c.in-Some.number < length c.args.names.now = omega (arith, reaches_within c.args.graph.now c.in-Some.number c.in-Some.number first.0, c.requires.same) in
    record {
      number = c.in-Some.number;
      cycle = first.0;
      first = first.1;
      is = slice_get_read c.args.names.now (length c.args.names.now) c.in-Some.number c.index-names-number.result refl within c.index-names-number.is ∙ ap Some (sym c.in_ok-name.ensures.ok);
    }
