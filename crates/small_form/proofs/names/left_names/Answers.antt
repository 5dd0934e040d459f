use Rattle.std.proofs.Common.{refl, sym, subst, arith, ◌∷◌, ◌++◌, ◌≡◌}
use Rattle.std.specs.Prelude.{codes}
use Rattle.std.specs.Option.{option_copied, option_to_list}
use Rattle.small_form.specs.Pieces.{Reads}
use Rattle.small_form.proofs.Left.{scan_ends, scan_goes, scan_more, one_more_name}
use Rattle.small_form.proofs.names.left_names.Goals as goal

pub returns-then-eat-clause-exact : goal.returns-then-eat-clause-exact
returns-then-eat-clause-exact c = λ left names pieces rest is named read.
    scan_ends c.args.sort.now c.loop-reader.names.items names pieces c.loop-reader.reader c.eat.new.self rest is c.if-eat.ensures.read
    (c.loop-reader.invariant.exact left names pieces rest is named read)

pub returns-in-None-clause-exact : goal.returns-in-None-clause-exact
returns-in-None-clause-exact c = λ left names pieces rest is named read.
    let next = scan_goes c.args.sort.now c.loop-reader.names.items names pieces c.loop-reader.reader rest
    (λ ps r there. let none = (c.if-eat.ensures.exact ps r refl there).0 in absurd (cc)) (c.loop-reader.invariant.exact left names pieces rest is named read) in
    (c.in-None.ensures.exact next.piece next.name (next.todo ++ codes "=>" ∷ pieces) rest is next.kind
    (subst (λ t. Reads (next.piece ∷ (next.todo ++ codes "=>" ∷ pieces)) t rest) (sym c.if-eat.ensures.kept) next.read)).0

pub loop-reader-preserved : goal.loop-reader-preserved
loop-reader-preserved c = record {
  few = omega (arith, one_more_name c.loop-reader.names.items c.push_name.new.names.items (option_copied c.in-Some.name) c.in_ok-push_name-in-Some.ensures.ok, c.in-Some.ensures.shorter);
  exact = λ left names pieces rest is named read.
      let next = scan_goes c.args.sort.now c.loop-reader.names.items names pieces c.loop-reader.reader rest
      (λ ps r there. let none = (c.if-eat.ensures.exact ps r refl there).0 in absurd (cc)) (c.loop-reader.invariant.exact left names pieces rest is named read) in
      let found = c.in-Some.ensures.exact next.piece next.name (next.todo ++ codes "=>" ∷ pieces) rest is next.kind
      (subst (λ t. Reads (next.piece ∷ (next.todo ++ codes "=>" ∷ pieces)) t rest) (sym c.if-eat.ensures.kept) next.read) in
      scan_more c.args.sort.now c.loop-reader.names.items c.push_name.new.names.items names pieces next.name next.todo next.left c.left_piece.new.reader rest
      (subst (λ n. c.push_name.new.names.items ≡ c.loop-reader.names.items ++ option_to_list n) found.0 c.in_ok-push_name-in-Some.ensures.ok) next.is next.named found.1;
}
