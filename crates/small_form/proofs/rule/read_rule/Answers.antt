use Rattle.std.proofs.Common.{arith, refl, sym, ap, ◌∙◌, subst, map, ◌≡◌, ◌≤◌, ◌^◌, ◌++◌, ◌∷◌, length}
use Rattle.std.specs.Prelude.{codes}
use Rattle.std.specs.List.{list_all}
use Rattle.small_form.specs.Pieces.{Reads}
use Rattle.small_form.specs.Small.{labels_of, term_pieces, typed, is_variable, is_applied, are_different, variables_of, numbers_from}
use Rattle.small_form.proofs.ReadsLemmas.{reads_rule}
use Rattle.small_form.proofs.Rules.{left_pieces, right_pieces, rule_read, left_names, left_side, right_side, same_rule}
use Rattle.small_form.proofs.rule.read_rule.Goals as goal

pub returns-clause-read : goal.returns-clause-read
returns-clause-read c =
    let labels = labels_of c.args.productions.now in
    let left_read = rw c.in-Some-2.is at c.in_ok-left.ensures.read in
    let right_read = rw c.in-Some-3.is at c.in_ok-right.ensures.read in
    let typed_are : c.as_slice-4.result.now ≡ map (typed c.args.sort.now) c.in-Some.names.items =
    c.as_slice-4.ensures.value ∙ c.in_ok-typed.ensures.ok ∙ ap (map (typed c.args.sort.now)) c.as_slice-3.ensures.value in
    rw c.from_vec.ensures
    (reads_rule (codes "rule") (codes "=>") (term_pieces labels (map (typed c.args.sort.now) c.in-Some.names.items) c.in-Some-2.left)
    (term_pieces labels c.in-Some.names.items c.in-Some-3.right)
    c.args.reader.now c.eat.new.self c.read_term.new.reader c.eat-2.new.self c.read_term-2.new.reader
    c.if-not-eat.ensures.read
    (subst (λ vs. Reads (term_pieces labels vs c.in-Some-2.left) c.eat.new.self c.read_term.new.reader) typed_are left_read)
    c.if-not-eat-2.ensures.read
    (subst (λ vs. Reads (term_pieces labels vs c.in-Some-3.right) c.eat-2.new.self c.read_term-2.new.reader) c.as_slice-5.ensures.value right_read))

pub returns-then-not-eat-clause-exact : goal.returns-then-not-eat-clause-exact
returns-then-not-eat-clause-exact c = λ r pieces rest labels sort short is read.
    let after_left = codes "=>" ∷ (right_pieces c.args.productions.now r ++ pieces) in
    let start = c.if-not-eat.ensures.exact (left_pieces c.args.productions.now c.args.sort.now r ++ after_left) rest refl (rule_read c.args.productions.now c.args.sort.now r pieces c.args.reader.now rest read) in
    let none = start.0 in
    absurd (cc)

pub returns-in_default-clause-exact : goal.returns-in_default-clause-exact
returns-in_default-clause-exact c = λ r pieces rest labels sort short is read.
    let after_left = codes "=>" ∷ (right_pieces c.args.productions.now r ++ pieces) in
    let start = c.if-not-eat.ensures.exact (left_pieces c.args.productions.now c.args.sort.now r ++ after_left) rest refl (rule_read c.args.productions.now c.args.sort.now r pieces c.args.reader.now rest read) in
    let found = c.in_ok-names.ensures.exact (left_pieces c.args.productions.now c.args.sort.now r) r.names (right_pieces c.args.productions.now r ++ pieces) rest sort (left_names c.args.productions.now c.args.sort.now r labels is)
    (subst (λ t. Reads (left_pieces c.args.productions.now c.args.sort.now r ++ after_left) t rest) (sym c.rest.ensures) start.1) in
    absurd (rw c.in_default.is at found)

pub returns-then-not-are_variables-clause-exact : goal.returns-then-not-are_variables-clause-exact
returns-then-not-are_variables-clause-exact c = λ r pieces rest labels sort short is read.
    let after_left = codes "=>" ∷ (right_pieces c.args.productions.now r ++ pieces) in
    let start = c.if-not-eat.ensures.exact (left_pieces c.args.productions.now c.args.sort.now r ++ after_left) rest refl (rule_read c.args.productions.now c.args.sort.now r pieces c.args.reader.now rest read) in
    let found = c.in_ok-names.ensures.exact (left_pieces c.args.productions.now c.args.sort.now r) r.names (right_pieces c.args.productions.now r ++ pieces) rest sort (left_names c.args.productions.now c.args.sort.now r labels is)
    (subst (λ t. Reads (left_pieces c.args.productions.now c.args.sort.now r ++ after_left) t rest) (sym c.rest.ensures) start.1) in
    let names : c.in-Some.names.items ≡ r.names = rw c.in-Some.is at found in
    let variables : list_all is_variable c.as_slice.result.now ≡ list_all is_variable r.names = ap (list_all is_variable) (c.as_slice.ensures.value ∙ names) in
    let all = is.names in
    let answer = c.are_variables.ensures in
    let none = c.if-not-are_variables.true in
    absurd (cc)

pub returns-then-not-are_different-clause-exact : goal.returns-then-not-are_different-clause-exact
returns-then-not-are_different-clause-exact c = λ r pieces rest labels sort short is read.
    let after_left = codes "=>" ∷ (right_pieces c.args.productions.now r ++ pieces) in
    let start = c.if-not-eat.ensures.exact (left_pieces c.args.productions.now c.args.sort.now r ++ after_left) rest refl (rule_read c.args.productions.now c.args.sort.now r pieces c.args.reader.now rest read) in
    let found = c.in_ok-names.ensures.exact (left_pieces c.args.productions.now c.args.sort.now r) r.names (right_pieces c.args.productions.now r ++ pieces) rest sort (left_names c.args.productions.now c.args.sort.now r labels is)
    (subst (λ t. Reads (left_pieces c.args.productions.now c.args.sort.now r ++ after_left) t rest) (sym c.rest.ensures) start.1) in
    let names : c.in-Some.names.items ≡ r.names = rw c.in-Some.is at found in
    let same : are_different c.as_slice-2.result.now ≡ are_different r.names = ap are_different (c.as_slice-2.ensures.value ∙ names) in
    let all = is.different in
    let answer = c.are_different.ensures in
    let none = c.if-not-are_different.true in
    absurd (cc)

pub returns-in_default-2-clause-exact : goal.returns-in_default-2-clause-exact
returns-in_default-2-clause-exact c = λ r pieces rest labels sort short is read.
    let after_left = codes "=>" ∷ (right_pieces c.args.productions.now r ++ pieces) in
    let start = c.if-not-eat.ensures.exact (left_pieces c.args.productions.now c.args.sort.now r ++ after_left) rest refl (rule_read c.args.productions.now c.args.sort.now r pieces c.args.reader.now rest read) in
    let found = c.in_ok-names.ensures.exact (left_pieces c.args.productions.now c.args.sort.now r) r.names (right_pieces c.args.productions.now r ++ pieces) rest sort (left_names c.args.productions.now c.args.sort.now r labels is)
    (subst (λ t. Reads (left_pieces c.args.productions.now c.args.sort.now r ++ after_left) t rest) (sym c.rest.ensures) start.1) in
    let names : c.in-Some.names.items ≡ r.names = rw c.in-Some.is at found in
    let many = rw c.in-Some.is at c.in_ok-names.ensures.few in
    let few : length r.names ≤ 2 ^ 32 = omega (arith, ap length names, ap length c.rest.ensures, c.if-not-eat.ensures.shorter, many) in
    let typed_are : c.as_slice-4.result.now ≡ map (typed c.args.sort.now) r.names =
    c.as_slice-4.ensures.value ∙ c.in_ok-typed.ensures.ok ∙ ap (map (typed c.args.sort.now)) (c.as_slice-3.ensures.value ∙ names) in
    let side = left_side c.args.productions.now c.args.sort.now r c.as_slice-4.result.now after_left c.eat.new.self rest typed_are is few start.1 in
    let left = c.in_ok-left.ensures.exact r.left after_left rest labels side.variables side.term side.read in
    let none = (rw c.in_default-2.is at left).0 in
    absurd (cc)

pub returns-then-not-is_applied-clause-exact : goal.returns-then-not-is_applied-clause-exact
returns-then-not-is_applied-clause-exact c = λ r pieces rest labels sort short is read.
    let after_left = codes "=>" ∷ (right_pieces c.args.productions.now r ++ pieces) in
    let start = c.if-not-eat.ensures.exact (left_pieces c.args.productions.now c.args.sort.now r ++ after_left) rest refl (rule_read c.args.productions.now c.args.sort.now r pieces c.args.reader.now rest read) in
    let found = c.in_ok-names.ensures.exact (left_pieces c.args.productions.now c.args.sort.now r) r.names (right_pieces c.args.productions.now r ++ pieces) rest sort (left_names c.args.productions.now c.args.sort.now r labels is)
    (subst (λ t. Reads (left_pieces c.args.productions.now c.args.sort.now r ++ after_left) t rest) (sym c.rest.ensures) start.1) in
    let names : c.in-Some.names.items ≡ r.names = rw c.in-Some.is at found in
    let many = rw c.in-Some.is at c.in_ok-names.ensures.few in
    let few : length r.names ≤ 2 ^ 32 = omega (arith, ap length names, ap length c.rest.ensures, c.if-not-eat.ensures.shorter, many) in
    let typed_are : c.as_slice-4.result.now ≡ map (typed c.args.sort.now) r.names =
    c.as_slice-4.ensures.value ∙ c.in_ok-typed.ensures.ok ∙ ap (map (typed c.args.sort.now)) (c.as_slice-3.ensures.value ∙ names) in
    let side = left_side c.args.productions.now c.args.sort.now r c.as_slice-4.result.now after_left c.eat.new.self rest typed_are is few start.1 in
    let left = c.in_ok-left.ensures.exact r.left after_left rest labels side.variables side.term side.read in
    let known = rw c.in-Some-2.is at left in
    let left_is : c.in-Some-2.left ≡ r.left = (let it = known.0 in cc) in
    let same : is_applied c.in-Some-2.left ≡ is_applied r.left = ap is_applied left_is in
    let all = is.applied_left in
    let answer = c.is_applied.ensures in
    let none = c.if-not-is_applied.true in
    absurd (cc)

pub returns-then-not-in_order-clause-exact : goal.returns-then-not-in_order-clause-exact
returns-then-not-in_order-clause-exact c = λ r pieces rest labels sort short is read.
    let after_left = codes "=>" ∷ (right_pieces c.args.productions.now r ++ pieces) in
    let start = c.if-not-eat.ensures.exact (left_pieces c.args.productions.now c.args.sort.now r ++ after_left) rest refl (rule_read c.args.productions.now c.args.sort.now r pieces c.args.reader.now rest read) in
    let found = c.in_ok-names.ensures.exact (left_pieces c.args.productions.now c.args.sort.now r) r.names (right_pieces c.args.productions.now r ++ pieces) rest sort (left_names c.args.productions.now c.args.sort.now r labels is)
    (subst (λ t. Reads (left_pieces c.args.productions.now c.args.sort.now r ++ after_left) t rest) (sym c.rest.ensures) start.1) in
    let names : c.in-Some.names.items ≡ r.names = rw c.in-Some.is at found in
    let many = rw c.in-Some.is at c.in_ok-names.ensures.few in
    let few : length r.names ≤ 2 ^ 32 = omega (arith, ap length names, ap length c.rest.ensures, c.if-not-eat.ensures.shorter, many) in
    let typed_are : c.as_slice-4.result.now ≡ map (typed c.args.sort.now) r.names =
    c.as_slice-4.ensures.value ∙ c.in_ok-typed.ensures.ok ∙ ap (map (typed c.args.sort.now)) (c.as_slice-3.ensures.value ∙ names) in
    let side = left_side c.args.productions.now c.args.sort.now r c.as_slice-4.result.now after_left c.eat.new.self rest typed_are is few start.1 in
    let left = c.in_ok-left.ensures.exact r.left after_left rest labels side.variables side.term side.read in
    let known = rw c.in-Some-2.is at left in
    let left_is : c.in-Some-2.left ≡ r.left = (let it = known.0 in cc) in
    let count : c.len.result ≡ length r.names = c.len.ensures ∙ sym c.as_slice.ensures.len ∙ ap length (c.as_slice.ensures.value ∙ names) in
    let once : variables_of c.in-Some-2.left ≡ numbers_from 0 c.len.result = ap variables_of left_is ∙ is.once ∙ ap (numbers_from 0) (sym count) in
    let answer = c.in_ok-in_order.ensures.ok.1 once in
    let none = c.if-not-in_order.true in
    absurd (cc)

pub returns-then-not-eat-2-clause-exact : goal.returns-then-not-eat-2-clause-exact
returns-then-not-eat-2-clause-exact c = λ r pieces rest labels sort short is read.
    let after_left = codes "=>" ∷ (right_pieces c.args.productions.now r ++ pieces) in
    let start = c.if-not-eat.ensures.exact (left_pieces c.args.productions.now c.args.sort.now r ++ after_left) rest refl (rule_read c.args.productions.now c.args.sort.now r pieces c.args.reader.now rest read) in
    let found = c.in_ok-names.ensures.exact (left_pieces c.args.productions.now c.args.sort.now r) r.names (right_pieces c.args.productions.now r ++ pieces) rest sort (left_names c.args.productions.now c.args.sort.now r labels is)
    (subst (λ t. Reads (left_pieces c.args.productions.now c.args.sort.now r ++ after_left) t rest) (sym c.rest.ensures) start.1) in
    let names : c.in-Some.names.items ≡ r.names = rw c.in-Some.is at found in
    let many = rw c.in-Some.is at c.in_ok-names.ensures.few in
    let few : length r.names ≤ 2 ^ 32 = omega (arith, ap length names, ap length c.rest.ensures, c.if-not-eat.ensures.shorter, many) in
    let typed_are : c.as_slice-4.result.now ≡ map (typed c.args.sort.now) r.names =
    c.as_slice-4.ensures.value ∙ c.in_ok-typed.ensures.ok ∙ ap (map (typed c.args.sort.now)) (c.as_slice-3.ensures.value ∙ names) in
    let side = left_side c.args.productions.now c.args.sort.now r c.as_slice-4.result.now after_left c.eat.new.self rest typed_are is few start.1 in
    let left = c.in_ok-left.ensures.exact r.left after_left rest labels side.variables side.term side.read in
    let known = rw c.in-Some-2.is at left in
    let left_is : c.in-Some-2.left ≡ r.left = (let it = known.0 in cc) in
    let arrow = c.if-not-eat-2.ensures.exact (right_pieces c.args.productions.now r ++ pieces) rest refl known.1 in
    let none = arrow.0 in
    absurd (cc)

pub returns-in_default-3-clause-exact : goal.returns-in_default-3-clause-exact
returns-in_default-3-clause-exact c = λ r pieces rest labels sort short is read.
    let after_left = codes "=>" ∷ (right_pieces c.args.productions.now r ++ pieces) in
    let start = c.if-not-eat.ensures.exact (left_pieces c.args.productions.now c.args.sort.now r ++ after_left) rest refl (rule_read c.args.productions.now c.args.sort.now r pieces c.args.reader.now rest read) in
    let found = c.in_ok-names.ensures.exact (left_pieces c.args.productions.now c.args.sort.now r) r.names (right_pieces c.args.productions.now r ++ pieces) rest sort (left_names c.args.productions.now c.args.sort.now r labels is)
    (subst (λ t. Reads (left_pieces c.args.productions.now c.args.sort.now r ++ after_left) t rest) (sym c.rest.ensures) start.1) in
    let names : c.in-Some.names.items ≡ r.names = rw c.in-Some.is at found in
    let many = rw c.in-Some.is at c.in_ok-names.ensures.few in
    let few : length r.names ≤ 2 ^ 32 = omega (arith, ap length names, ap length c.rest.ensures, c.if-not-eat.ensures.shorter, many) in
    let typed_are : c.as_slice-4.result.now ≡ map (typed c.args.sort.now) r.names =
    c.as_slice-4.ensures.value ∙ c.in_ok-typed.ensures.ok ∙ ap (map (typed c.args.sort.now)) (c.as_slice-3.ensures.value ∙ names) in
    let side = left_side c.args.productions.now c.args.sort.now r c.as_slice-4.result.now after_left c.eat.new.self rest typed_are is few start.1 in
    let left = c.in_ok-left.ensures.exact r.left after_left rest labels side.variables side.term side.read in
    let known = rw c.in-Some-2.is at left in
    let left_is : c.in-Some-2.left ≡ r.left = (let it = known.0 in cc) in
    let arrow = c.if-not-eat-2.ensures.exact (right_pieces c.args.productions.now r ++ pieces) rest refl known.1 in
    let other = right_side c.args.productions.now r c.as_slice-5.result.now pieces c.eat-2.new.self rest (c.as_slice-5.ensures.value ∙ names) is few arrow.1 in
    let right = c.in_ok-right.ensures.exact r.right pieces rest labels other.variables other.term other.read in
    let none = (rw c.in_default-3.is at right).0 in
    absurd (cc)

pub returns-clause-exact : goal.returns-clause-exact
returns-clause-exact c = λ r pieces rest labels sort short is read.
    let after_left = codes "=>" ∷ (right_pieces c.args.productions.now r ++ pieces) in
    let start = c.if-not-eat.ensures.exact (left_pieces c.args.productions.now c.args.sort.now r ++ after_left) rest refl (rule_read c.args.productions.now c.args.sort.now r pieces c.args.reader.now rest read) in
    let found = c.in_ok-names.ensures.exact (left_pieces c.args.productions.now c.args.sort.now r) r.names (right_pieces c.args.productions.now r ++ pieces) rest sort (left_names c.args.productions.now c.args.sort.now r labels is)
    (subst (λ t. Reads (left_pieces c.args.productions.now c.args.sort.now r ++ after_left) t rest) (sym c.rest.ensures) start.1) in
    let names : c.in-Some.names.items ≡ r.names = rw c.in-Some.is at found in
    let many = rw c.in-Some.is at c.in_ok-names.ensures.few in
    let few : length r.names ≤ 2 ^ 32 = omega (arith, ap length names, ap length c.rest.ensures, c.if-not-eat.ensures.shorter, many) in
    let typed_are : c.as_slice-4.result.now ≡ map (typed c.args.sort.now) r.names =
    c.as_slice-4.ensures.value ∙ c.in_ok-typed.ensures.ok ∙ ap (map (typed c.args.sort.now)) (c.as_slice-3.ensures.value ∙ names) in
    let side = left_side c.args.productions.now c.args.sort.now r c.as_slice-4.result.now after_left c.eat.new.self rest typed_are is few start.1 in
    let left = c.in_ok-left.ensures.exact r.left after_left rest labels side.variables side.term side.read in
    let known = rw c.in-Some-2.is at left in
    let left_is : c.in-Some-2.left ≡ r.left = (let it = known.0 in cc) in
    let arrow = c.if-not-eat-2.ensures.exact (right_pieces c.args.productions.now r ++ pieces) rest refl known.1 in
    let other = right_side c.args.productions.now r c.as_slice-5.result.now pieces c.eat-2.new.self rest (c.as_slice-5.ensures.value ∙ names) is few arrow.1 in
    let right = c.in_ok-right.ensures.exact r.right pieces rest labels other.variables other.term other.read in
    let last = rw c.in-Some-3.is at right in
    let right_is : c.in-Some-3.right ≡ r.right = (let it = last.0 in cc) in
    (same_rule r c.from_vec.result c.in-Some-2.left c.in-Some-3.right (c.from_vec.ensures ∙ names) left_is right_is, last.1)
