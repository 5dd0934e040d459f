use Rattle.std.proofs.Common.{arith, refl, sym, subst, ap, [], ◌++◌, ◌≡◌, IsTrue}
use Rattle.std.specs.Prelude.{Some}
use Rattle.std.specs.List.{list_all}
use Rattle.k_terms.specs.Value.{depth_of}
use Rattle.small_form.specs.Pieces.{Reads, is_blank}
use Rattle.small_form.specs.Small.{labels_of, term_pieces}
use Rattle.small_form.specs.Program.{term_of}
use Rattle.small_form.proofs.Grounds.{one_value, no_variables, program_read}
use Rattle.small_form.proofs.program.read_program.Goals as goal

pub returns-in_default-clause-exact : goal.returns-in_default-clause-exact
returns-in_default-clause-exact c = λ v labels is.
    let read = c.in_ok-term.ensures.exact (term_of v) [] is.spelled.0 labels no_variables is.term
    (subst (λ t. Reads (term_pieces (labels_of c.args.productions.now) [] (term_of v) ++ []) t is.spelled.0) (sym c.new-reader.ensures) (program_read c.args.productions.now c.args.text.now v is)) in
    let none = (rw c.in_default.is at read).0 in
    absurd (cc)

pub returns-then-not-is_finished-clause-exact : goal.returns-then-not-is_finished-clause-exact
returns-then-not-is_finished-clause-exact c = λ v labels is.
    let read = c.in_ok-term.ensures.exact (term_of v) [] is.spelled.0 labels no_variables is.term
    (subst (λ t. Reads (term_pieces (labels_of c.args.productions.now) [] (term_of v) ++ []) t is.spelled.0) (sym c.new-reader.ensures) (program_read c.args.productions.now c.args.text.now v is)) in
    let known = rw c.in-Some.is at read in
    let none = c.if-not-is_finished.ensures.1 (subst (λ t. IsTrue (list_all is_blank t)) (sym known.1) is.spelled.2) in
    absurd (cc)

pub returns-then-depth-gt-DEPTH_LIMIT-clause-exact : goal.returns-then-depth-gt-DEPTH_LIMIT-clause-exact
returns-then-depth-gt-DEPTH_LIMIT-clause-exact c = λ v labels is.
    let read = c.in_ok-term.ensures.exact (term_of v) [] is.spelled.0 labels no_variables is.term
    (subst (λ t. Reads (term_pieces (labels_of c.args.productions.now) [] (term_of v) ++ []) t is.spelled.0) (sym c.new-reader.ensures) (program_read c.args.productions.now c.args.text.now v is)) in
    let known = rw c.in-Some.is at read in
    let same : c.in-Some.term ≡ term_of v = (let it = known.0 in cc) in
    let value : c.in-Some-2.value ≡ v = one_value c.in-Some-2.value v c.in-Some.term (term_of v) (rw c.in-Some-2.is at c.in_ok-value.ensures.term) same refl in
    let deep : depth_of c.in-Some-2.value ≡ depth_of v = ap depth_of value in
    let shallow = is.shallow in
    absurd (omega (arith, c.depth.ensures, c.if-depth-gt-DEPTH_LIMIT.true))

pub returns-clause-exact : goal.returns-clause-exact
returns-clause-exact c = λ v labels is.
    let read = c.in_ok-term.ensures.exact (term_of v) [] is.spelled.0 labels no_variables is.term
    (subst (λ t. Reads (term_pieces (labels_of c.args.productions.now) [] (term_of v) ++ []) t is.spelled.0) (sym c.new-reader.ensures) (program_read c.args.productions.now c.args.text.now v is)) in
    let known = rw c.in-Some.is at read in
    let same : c.in-Some.term ≡ term_of v = (let it = known.0 in cc) in
    let value : c.in-Some-2.value ≡ v = one_value c.in-Some-2.value v c.in-Some.term (term_of v) (rw c.in-Some-2.is at c.in_ok-value.ensures.term) same refl in
    ap Some value
