use Rattle.std.proofs.Common.{rules, arith, [], ◌∷◌, ◌++◌, ◌≡◌, subst, sym, ◌∙◌, ap, map, length, ◌≤◌, ◌^◌}
use Rattle.std.specs.Prelude.{codes, IsTrue}
use Rattle.std.specs.List.{AllByRecursion, list_all}
use Rattle.small_form.specs.Pieces.{Reads, is_blank}
use Rattle.small_form.specs.Small.{IsSmallRule, head_pieces, labels_of, rules_pieces, are_different, unplaced_rule}
use Rattle.small_form.proofs.Parts.{after_head, after_productions, after_configuration, text_read, are_rules, same_small}
use Rattle.small_form.proofs.Assembled.{small_text}
use Rattle.small_form.proofs.definition.read_definition.Goals as goal

pub returns-clause-read : goal.returns-clause-read
returns-clause-read c =
    let ps = c.in-Some-2.productions.items in
    let slice : c.as_slice-2.result.now ≡ ps = c.as_slice-2.ensures.value in
    rw (c.in_ok-text_of.ensures.ok, c.in_ok-text_of-2.ensures.ok, c.from_vec.ensures, c.from_vec-2.ensures)
    (small_text c.args.text.now c.in-Some.name.now c.in-Some.sort.now ps c.in-Some-3.rules.items
    c.read_head.new.reader c.read_productions.new.reader c.read_configuration.new.reader c.read_rules.new.reader
    (omega arith) c.in-Some.ensures.name c.in-Some.ensures.sort
    (rw c.in-Some-2.is at c.in_ok-productions.ensures.some) (rw c.in-Some-2.is at c.in_ok-productions.ensures.labels)
    (subst (λ qs. IsTrue (are_different (labels_of qs))) c.as_slice.ensures.value (sym c.in_ok-different.ensures.ok ∙ c.if-not-different.false))
    (subst (λ qs. AllByRecursion (IsSmallRule qs) c.in-Some-3.rules.items) slice (rw c.in-Some-3.is at c.in_ok-rules.ensures.small))
    (subst (λ t. Reads (head_pieces c.in-Some.name.now c.in-Some.sort.now) t c.read_head.new.reader) c.new-reader.ensures c.in-Some.ensures.read)
    (rw c.in-Some-2.is at c.in_ok-productions.ensures.read)
    (rw c.if-not-configured.false at c.in_ok-configured.ensures.read)
    (subst (λ qs. Reads (rules_pieces (labels_of qs) c.in-Some.sort.now c.in-Some-3.rules.items ++ codes "endmodule" ∷ []) c.read_configuration.new.reader c.read_rules.new.reader) slice
    (rw c.in-Some-3.is at c.in_ok-rules.ensures.read))
    (search rules))

pub returns-in_default-clause-exact : goal.returns-in_default-clause-exact
returns-in_default-clause-exact c = λ d is.
    let begun = text_read d c.args.text.now c.new-reader.result c.new-reader.ensures is in
    absurd ((c.in_default.ensures.exact d.name d.sort (after_head d d.sort) is.spelled.0 is.small.name is.small.sort begun).0)

pub returns-in_default-2-clause-exact : goal.returns-in_default-2-clause-exact
returns-in_default-2-clause-exact c = λ d is.
    let begun = text_read d c.args.text.now c.new-reader.result c.new-reader.ensures is in
    let headed = c.in-Some.ensures.exact d.name d.sort (after_head d d.sort) is.spelled.0 is.small.name is.small.sort begun in
    let sort = c.in-Some.sort.now in
    let follows = subst (λ s. Reads (after_head d s) c.read_head.new.reader is.spelled.0) (sym headed.0.1) headed.1 in
    let short : length c.read_head.new.reader ≤ 2 ^ 32 = omega (arith, ap length c.new-reader.ensures, c.if-text-gt-DEFINITION_LIMIT.false, c.in-Some.ensures.shorter) in
    let produced = c.in_ok-productions.ensures.exact d.productions (after_productions d sort) is.spelled.0 c.in-Some.ensures.sort short is.small.some is.small.labels follows in
    absurd ((rw c.in_default-2.is at produced).0)

pub returns-then-not-different-clause-exact : goal.returns-then-not-different-clause-exact
returns-then-not-different-clause-exact c = λ d is.
    let begun = text_read d c.args.text.now c.new-reader.result c.new-reader.ensures is in
    let headed = c.in-Some.ensures.exact d.name d.sort (after_head d d.sort) is.spelled.0 is.small.name is.small.sort begun in
    let sort = c.in-Some.sort.now in
    let follows = subst (λ s. Reads (after_head d s) c.read_head.new.reader is.spelled.0) (sym headed.0.1) headed.1 in
    let short : length c.read_head.new.reader ≤ 2 ^ 32 = omega (arith, ap length c.new-reader.ensures, c.if-text-gt-DEFINITION_LIMIT.false, c.in-Some.ensures.shorter) in
    let produced = c.in_ok-productions.ensures.exact d.productions (after_productions d sort) is.spelled.0 c.in-Some.ensures.sort short is.small.some is.small.labels follows in
    let productions = rw c.in-Some-2.is at produced in
    let same : c.in-Some-2.productions.items ≡ d.productions = productions.0 in
    let labels : are_different (labels_of c.as_slice.result.now) ≡ are_different (labels_of d.productions) =
    ap (λ ps. are_different (labels_of ps)) (c.as_slice.ensures.value ∙ same) in
    let different = is.small.different in
    let answer = c.in_ok-different.ensures.ok in
    let none = c.if-not-different.true in
    absurd (cc)

pub returns-then-not-configured-clause-exact : goal.returns-then-not-configured-clause-exact
returns-then-not-configured-clause-exact c = λ d is.
    let begun = text_read d c.args.text.now c.new-reader.result c.new-reader.ensures is in
    let headed = c.in-Some.ensures.exact d.name d.sort (after_head d d.sort) is.spelled.0 is.small.name is.small.sort begun in
    let sort = c.in-Some.sort.now in
    let follows = subst (λ s. Reads (after_head d s) c.read_head.new.reader is.spelled.0) (sym headed.0.1) headed.1 in
    let short : length c.read_head.new.reader ≤ 2 ^ 32 = omega (arith, ap length c.new-reader.ensures, c.if-text-gt-DEFINITION_LIMIT.false, c.in-Some.ensures.shorter) in
    let produced = c.in_ok-productions.ensures.exact d.productions (after_productions d sort) is.spelled.0 c.in-Some.ensures.sort short is.small.some is.small.labels follows in
    let productions = rw c.in-Some-2.is at produced in
    let same : c.in-Some-2.productions.items ≡ d.productions = productions.0 in
    let configuration = c.in_ok-configured.ensures.exact (after_configuration d sort) is.spelled.0 productions.1 in
    let found = configuration.0 in
    let none = c.if-not-configured.true in
    absurd (cc)

pub returns-in_default-3-clause-exact : goal.returns-in_default-3-clause-exact
returns-in_default-3-clause-exact c = λ d is.
    let begun = text_read d c.args.text.now c.new-reader.result c.new-reader.ensures is in
    let headed = c.in-Some.ensures.exact d.name d.sort (after_head d d.sort) is.spelled.0 is.small.name is.small.sort begun in
    let sort = c.in-Some.sort.now in
    let follows = subst (λ s. Reads (after_head d s) c.read_head.new.reader is.spelled.0) (sym headed.0.1) headed.1 in
    let short : length c.read_head.new.reader ≤ 2 ^ 32 = omega (arith, ap length c.new-reader.ensures, c.if-text-gt-DEFINITION_LIMIT.false, c.in-Some.ensures.shorter) in
    let produced = c.in_ok-productions.ensures.exact d.productions (after_productions d sort) is.spelled.0 c.in-Some.ensures.sort short is.small.some is.small.labels follows in
    let productions = rw c.in-Some-2.is at produced in
    let same : c.in-Some-2.productions.items ≡ d.productions = productions.0 in
    let configuration = c.in_ok-configured.ensures.exact (after_configuration d sort) is.spelled.0 productions.1 in
    let later : length c.read_configuration.new.reader ≤ 2 ^ 32 = omega (arith, c.in_ok-productions.ensures.shorter, c.in_ok-configured.ensures.shorter) in
    let asked = are_rules d c.args.text.now c.as_slice-2.result.now sort c.read_configuration.new.reader is.spelled.0 is (c.as_slice-2.ensures.value ∙ same) configuration.1 in
    let ruled = c.in_ok-rules.ensures.exact d.rules [] is.spelled.0 asked.labels c.in-Some.ensures.sort later asked.small asked.read in
    absurd ((rw c.in_default-3.is at ruled).0)

pub returns-then-not-is_finished-clause-exact : goal.returns-then-not-is_finished-clause-exact
returns-then-not-is_finished-clause-exact c = λ d is.
    let begun = text_read d c.args.text.now c.new-reader.result c.new-reader.ensures is in
    let headed = c.in-Some.ensures.exact d.name d.sort (after_head d d.sort) is.spelled.0 is.small.name is.small.sort begun in
    let sort = c.in-Some.sort.now in
    let follows = subst (λ s. Reads (after_head d s) c.read_head.new.reader is.spelled.0) (sym headed.0.1) headed.1 in
    let short : length c.read_head.new.reader ≤ 2 ^ 32 = omega (arith, ap length c.new-reader.ensures, c.if-text-gt-DEFINITION_LIMIT.false, c.in-Some.ensures.shorter) in
    let produced = c.in_ok-productions.ensures.exact d.productions (after_productions d sort) is.spelled.0 c.in-Some.ensures.sort short is.small.some is.small.labels follows in
    let productions = rw c.in-Some-2.is at produced in
    let same : c.in-Some-2.productions.items ≡ d.productions = productions.0 in
    let configuration = c.in_ok-configured.ensures.exact (after_configuration d sort) is.spelled.0 productions.1 in
    let later : length c.read_configuration.new.reader ≤ 2 ^ 32 = omega (arith, c.in_ok-productions.ensures.shorter, c.in_ok-configured.ensures.shorter) in
    let asked = are_rules d c.args.text.now c.as_slice-2.result.now sort c.read_configuration.new.reader is.spelled.0 is (c.as_slice-2.ensures.value ∙ same) configuration.1 in
    let ruled = c.in_ok-rules.ensures.exact d.rules [] is.spelled.0 asked.labels c.in-Some.ensures.sort later asked.small asked.read in
    let all = rw c.in-Some-3.is at ruled in
    let none = c.if-not-is_finished.ensures.1 (subst (λ t. IsTrue (list_all is_blank t)) (sym all.1) is.spelled.2) in
    absurd (cc)

pub returns-clause-exact : goal.returns-clause-exact
returns-clause-exact c = λ d is.
    let begun = text_read d c.args.text.now c.new-reader.result c.new-reader.ensures is in
    let headed = c.in-Some.ensures.exact d.name d.sort (after_head d d.sort) is.spelled.0 is.small.name is.small.sort begun in
    let sort = c.in-Some.sort.now in
    let follows = subst (λ s. Reads (after_head d s) c.read_head.new.reader is.spelled.0) (sym headed.0.1) headed.1 in
    let short : length c.read_head.new.reader ≤ 2 ^ 32 = omega (arith, ap length c.new-reader.ensures, c.if-text-gt-DEFINITION_LIMIT.false, c.in-Some.ensures.shorter) in
    let produced = c.in_ok-productions.ensures.exact d.productions (after_productions d sort) is.spelled.0 c.in-Some.ensures.sort short is.small.some is.small.labels follows in
    let productions = rw c.in-Some-2.is at produced in
    let same : c.in-Some-2.productions.items ≡ d.productions = productions.0 in
    let configuration = c.in_ok-configured.ensures.exact (after_configuration d sort) is.spelled.0 productions.1 in
    let later : length c.read_configuration.new.reader ≤ 2 ^ 32 = omega (arith, c.in_ok-productions.ensures.shorter, c.in_ok-configured.ensures.shorter) in
    let asked = are_rules d c.args.text.now c.as_slice-2.result.now sort c.read_configuration.new.reader is.spelled.0 is (c.as_slice-2.ensures.value ∙ same) configuration.1 in
    let ruled = c.in_ok-rules.ensures.exact d.rules [] is.spelled.0 asked.labels c.in-Some.ensures.sort later asked.small asked.read in
    let all = rw c.in-Some-3.is at ruled in
    same_small d c.in_ok-text_of.field-0 c.in_ok-text_of-2.field-0 c.from_vec.result c.from_vec-2.result
    (c.in_ok-text_of.ensures.ok ∙ headed.0.0) (c.in_ok-text_of-2.ensures.ok ∙ headed.0.1) (c.from_vec.ensures ∙ same)
    (ap (map unplaced_rule) c.from_vec-2.ensures ∙ all.0)
