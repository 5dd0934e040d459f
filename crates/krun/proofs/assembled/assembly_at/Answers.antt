use Rattle.std.proofs.Common.{◌≡◌, IfSome, sym, subst}
use Rattle.krun.proofs.Defining.{bytes_stopped, undefined_file, file_defines}
use Rattle.krun.proofs.assembled.assembly_at.Goals as goal

pub returns-in-Err-clause-stop : goal.returns-in-Err-clause-stop
returns-in-Err-clause-stop g c =
    let e = c.in-Err.ensures in
    bytes_stopped _ _ c.in-Err.stop e.refused e.words e.small_form e.no_program e.only e.fault e.definition e.never_memory

pub returns-clause-ok : goal.returns-clause-ok
returns-clause-ok g c =
    let told = g.H.Shelf.told c.args.shelf.now c.args.name.now in
    file_defines told c.as_slice.result.now c.assembly_of.result
    (subst (λ bytes. IfSome told (λ file. bytes ≡ file)) (sym c.as_slice.ensures.value) c.in-Ok.ensures.whole) c.assembly_of.ensures.ok

pub returns-clause-stop : goal.returns-clause-stop
returns-clause-stop g c =
    let told = g.H.Shelf.told c.args.shelf.now c.args.name.now in
    undefined_file told c.as_slice.result.now _ c.assembly_of.result
    (subst (λ bytes. IfSome told (λ file. bytes ≡ file)) (sym c.as_slice.ensures.value) c.in-Ok.ensures.whole) c.assembly_of.ensures.stop
