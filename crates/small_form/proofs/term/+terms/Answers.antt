use Rattle.std.proofs.Common.{rules, arith, refl, ◌≡◌, [], ◌∷◌, ◌++◌, ◌+◌, length, map, sym, ◌∙◌, ap, subst, get_or}
use Rattle.std.specs.Prelude.{codes, Some, IfOk}
use Rattle.std.proofs.lemmas.Grind.{common_steps}
use Rattle.rule_terms.specs.declared.pattern.Pattern.{Node}
use Rattle.small_form.specs.declared.small.Production.{Production}
use Rattle.small_form.specs.Pieces.{Reads}
use Rattle.small_form.specs.Small.{labels_of, term_pieces, is_term}
use Rattle.small_form.proofs.ReadsLemmas.{reads_applied, reads_more}
use Rattle.small_form.proofs.Terms.{node_is_term, node_pieces, all_more}
use Rattle.small_form.proofs.Exact.{marked, next_of, left_more, all_left, one_of_all}
use Rattle.small_form.proofs.Nodes.{term_by, variable_read, variable_pieces, opened, label_text, inner_pieces, label_word}
use Rattle.small_form.proofs.term.+terms.Goals as goal

pub read_term-returns-in-Some-clause-exact : goal.read_term-returns-in-Some-clause-exact
read_term-returns-in-Some-clause-exact t c = λ p pieces rest labels variables holds read.
    variable_read c.args.productions.now c.args.variables.now c.in-Some.variable c.args.reader.now c.read_variable.new.reader labels variables c.in-Some.ensures.known c.in-Some.ensures.read c.in-Some.ensures.exact p pieces rest holds read

pub read_term-returns-clause-exact : goal.read_term-returns-clause-exact
read_term-returns-clause-exact t c = λ p pieces rest labels variables holds read.
    term_by c.args.productions.now (length c.args.variables.now)
    (λ q. Reads (term_pieces (labels_of c.args.productions.now) c.args.variables.now q ++ pieces) c.args.reader.now rest
    → IfOk c.read_application.result (λ found. (found ≡ Some q) × Reads pieces c.read_application.new.reader rest))
    (λ x less r.
    let none = (c.in_default.ensures.exact x pieces rest variables less (subst (λ t. Reads (t ++ pieces) c.args.reader.now rest) (variable_pieces (labels_of c.args.productions.now) c.args.variables.now x) r)).0 in
    absurd (cc))
    (λ n ps is r. c.read_application.ensures.exact n ps pieces rest labels variables is
    (subst (λ t. Reads (term_pieces (labels_of c.args.productions.now) c.args.variables.now (Node n ps) ++ pieces) t rest) (sym c.in_default.ensures.kept) r))
    p holds read

pub read_application-returns-in_default-clause-exact : goal.read_application-returns-in_default-clause-exact
read_application-returns-in_default-clause-exact t c = λ n ps pieces rest labels variables holds read.
    let o = opened c.args.productions.now c.args.variables.now n ps pieces c.args.reader.now rest labels holds read in
    let label = label_text c.args.productions.now o.place in
    let inner = inner_pieces c.args.productions.now c.args.variables.now ps pieces in
    let none = (c.in_default.ensures.exact label (codes "(" ∷ inner) rest (label_word label o.label) o.read).0 in
    absurd (cc)

pub read_application-returns-in_default-find_label-clause-exact : goal.read_application-returns-in_default-find_label-clause-exact
read_application-returns-in_default-find_label-clause-exact t c = λ n ps pieces rest labels variables holds read.
    let o = opened c.args.productions.now c.args.variables.now n ps pieces c.args.reader.now rest labels holds read in
    let label = label_text c.args.productions.now o.place in
    let inner = inner_pieces c.args.productions.now c.args.variables.now ps pieces in
    let word = c.in-Some.ensures.exact label (codes "(" ∷ inner) rest (label_word label o.label) o.read in
    let name : label ≡ c.in-Some.label.now = cc in
    let none = c.in_default-find_label.ensures.exact o.place labels.different o.within name in
    absurd (cc)

pub read_application-returns-then-not-eat-clause-exact : goal.read_application-returns-then-not-eat-clause-exact
read_application-returns-then-not-eat-clause-exact t c = λ n ps pieces rest labels variables holds read.
    let o = opened c.args.productions.now c.args.variables.now n ps pieces c.args.reader.now rest labels holds read in
    let label = label_text c.args.productions.now o.place in
    let inner = inner_pieces c.args.productions.now c.args.variables.now ps pieces in
    let word = c.in-Some.ensures.exact label (codes "(" ∷ inner) rest (label_word label o.label) o.read in
    let name : label ≡ c.in-Some.label.now = cc in
    let opening = c.if-not-eat.ensures.exact inner rest refl word.1 in
    let none = opening.0 in
    absurd (cc)

pub read_application-returns-in_default-2-clause-exact : goal.read_application-returns-in_default-2-clause-exact
read_application-returns-in_default-2-clause-exact t c = λ n ps pieces rest labels variables holds read.
    let o = opened c.args.productions.now c.args.variables.now n ps pieces c.args.reader.now rest labels holds read in
    let label = label_text c.args.productions.now o.place in
    let inner = inner_pieces c.args.productions.now c.args.variables.now ps pieces in
    let word = c.in-Some.ensures.exact label (codes "(" ∷ inner) rest (label_word label o.label) o.read in
    let name : label ≡ c.in-Some.label.now = cc in
    let found : c.in-Some-find_label.place ≡ o.place = (let it = c.in-Some-find_label.ensures.exact o.place labels.different o.within name in cc) in
    let opening = c.if-not-eat.ensures.exact inner rest refl word.1 in
    let production : c.index-productions-place.result ≡ get_or c.args.productions.now o.place c.index-productions-place.result =
    subst (λ m. c.index-productions-place.result ≡ get_or c.args.productions.now m c.index-productions-place.result) found c.index-productions-place.is in
    let arguments = c.in_ok-arguments.ensures.exact ps (codes ")" ∷ pieces) rest labels variables (sym (o.arity c.index-productions-place.result production) ∙ ap (λ (d : Production). d.arity) c.index-productions-place.is) o.terms opening.1 in
    absurd ((rw c.in_default-2.is at arguments).0)

pub read_application-returns-then-not-eat-2-clause-exact : goal.read_application-returns-then-not-eat-2-clause-exact
read_application-returns-then-not-eat-2-clause-exact t c = λ n ps pieces rest labels variables holds read.
    let o = opened c.args.productions.now c.args.variables.now n ps pieces c.args.reader.now rest labels holds read in
    let label = label_text c.args.productions.now o.place in
    let inner = inner_pieces c.args.productions.now c.args.variables.now ps pieces in
    let word = c.in-Some.ensures.exact label (codes "(" ∷ inner) rest (label_word label o.label) o.read in
    let name : label ≡ c.in-Some.label.now = cc in
    let found : c.in-Some-find_label.place ≡ o.place = (let it = c.in-Some-find_label.ensures.exact o.place labels.different o.within name in cc) in
    let opening = c.if-not-eat.ensures.exact inner rest refl word.1 in
    let production : c.index-productions-place.result ≡ get_or c.args.productions.now o.place c.index-productions-place.result =
    subst (λ m. c.index-productions-place.result ≡ get_or c.args.productions.now m c.index-productions-place.result) found c.index-productions-place.is in
    let arguments = c.in_ok-arguments.ensures.exact ps (codes ")" ∷ pieces) rest labels variables (sym (o.arity c.index-productions-place.result production) ∙ ap (λ (d : Production). d.arity) c.index-productions-place.is) o.terms opening.1 in
    let known = rw c.in-Some-2.is at arguments in
    let closing = c.if-not-eat-2.ensures.exact pieces rest refl known.1 in
    let none = closing.0 in
    absurd (cc)

pub read_application-returns-clause-exact : goal.read_application-returns-clause-exact
read_application-returns-clause-exact t c = λ n ps pieces rest labels variables holds read.
    let o = opened c.args.productions.now c.args.variables.now n ps pieces c.args.reader.now rest labels holds read in
    let label = label_text c.args.productions.now o.place in
    let inner = inner_pieces c.args.productions.now c.args.variables.now ps pieces in
    let word = c.in-Some.ensures.exact label (codes "(" ∷ inner) rest (label_word label o.label) o.read in
    let name : label ≡ c.in-Some.label.now = cc in
    let found : c.in-Some-find_label.place ≡ o.place = (let it = c.in-Some-find_label.ensures.exact o.place labels.different o.within name in cc) in
    let opening = c.if-not-eat.ensures.exact inner rest refl word.1 in
    let production : c.index-productions-place.result ≡ get_or c.args.productions.now o.place c.index-productions-place.result =
    subst (λ m. c.index-productions-place.result ≡ get_or c.args.productions.now m c.index-productions-place.result) found c.index-productions-place.is in
    let arguments = c.in_ok-arguments.ensures.exact ps (codes ")" ∷ pieces) rest labels variables (sym (o.arity c.index-productions-place.result production) ∙ ap (λ (d : Production). d.arity) c.index-productions-place.is) o.terms opening.1 in
    let known = rw c.in-Some-2.is at arguments in
    let closing = c.if-not-eat-2.ensures.exact pieces rest refl known.1 in
    let number : c.in-Ok.number ≡ n = search rules in
    let parts : c.from_vec.result ≡ ps = c.from_vec.ensures ∙ known.0 in
    ((λ i. Some (Node (number i) (parts i))), closing.1)

pub read_term-returns-in-Some-clause-term : goal.read_term-returns-in-Some-clause-term
unfolding is_term
read_term-returns-in-Some-clause-term t c = search rules

pub read_term-returns-in-Some-clause-read : goal.read_term-returns-in-Some-clause-read
unfolding term_pieces
read_term-returns-in-Some-clause-read t c = c.in-Some.ensures.read

pub read_application-returns-clause-term : goal.read_application-returns-clause-term
read_application-returns-clause-term t c =
    let count = rw c.in-Some-2.is at c.in_ok-arguments.ensures.count in
    let terms = rw c.in-Some-2.is at c.in_ok-arguments.ensures.terms in
    rw c.from_vec.ensures
    (node_is_term c.args.productions.now (length c.args.variables.now) c.in-Ok.number c.in-Some-find_label.place c.index-productions-place.result c.in-Some-2.arguments.items
    (search rules) (search rules) c.index-productions-place.is (count ∙ ap (λ (d : Production). d.arity) (sym c.index-productions-place.is)) terms)

pub read_application-returns-clause-read : goal.read_application-returns-clause-read
read_application-returns-clause-read t c =
    let inner = rw c.in-Some-2.is at c.in_ok-arguments.ensures.read in
    let name = c.in-Some.ensures.read in
    rw (
      c.from_vec.ensures,
      node_pieces c.args.productions.now c.args.variables.now c.in-Ok.number c.in-Some-find_label.place c.in-Some.label.now c.in-Some-2.arguments.items (search rules) c.in-Some-find_label.ensures.label,
    )
    (reads_applied c.in-Some.label.now (map (term_pieces (labels_of c.args.productions.now) c.args.variables.now) c.in-Some-2.arguments.items)
    c.args.reader.now c.word.new.self c.eat.new.self c.read_arguments.new.reader c.eat-2.new.self
    (name)
    c.if-not-eat.ensures.read inner c.if-not-eat-2.ensures.read)

pub read_arguments-loop-i-init : goal.read_arguments-loop-i-init
read_arguments-loop-i-init t c = record {
  count = search rules;
  terms = search rules;
  read = search rules;
  shorter = search rules;
  exact = λ ps pieces rest labels variables count all read.
      all_left (term_pieces (labels_of c.args.productions.now) c.args.variables.now) c.new-arguments.result.items ps pieces c.args.reader.now rest c.new-arguments.ensures.items read;
}

pub read_arguments-returns-then-not-read_comma-clause-exact : goal.read_arguments-returns-then-not-read_comma-clause-exact
read_arguments-returns-then-not-read_comma-clause-exact t c = λ ps pieces rest labels variables count all read.
    let next = next_of (term_pieces (labels_of c.args.productions.now) c.args.variables.now) c.loop-i.arguments.items ps c.loop-i.i c.args.count pieces c.loop-i.reader rest c.loop-i.invariant.count c.loop-i-test.true count (c.loop-i.invariant.exact ps pieces rest labels variables count all read) in
    let others = marked (term_pieces (labels_of c.args.productions.now) c.args.variables.now) (c.loop-i.i + 1) next.left ++ pieces in
    let comma = c.if-not-read_comma.ensures.exact ((term_pieces (labels_of c.args.productions.now) c.args.variables.now) next.item ++ others) rest next.read in
    let none = comma.0 in
    absurd (cc)

pub read_arguments-returns-in-None-clause-exact : goal.read_arguments-returns-in-None-clause-exact
read_arguments-returns-in-None-clause-exact t c = λ ps pieces rest labels variables count all read.
    let next = next_of (term_pieces (labels_of c.args.productions.now) c.args.variables.now) c.loop-i.arguments.items ps c.loop-i.i c.args.count pieces c.loop-i.reader rest c.loop-i.invariant.count c.loop-i-test.true count (c.loop-i.invariant.exact ps pieces rest labels variables count all read) in
    let others = marked (term_pieces (labels_of c.args.productions.now) c.args.variables.now) (c.loop-i.i + 1) next.left ++ pieces in
    let comma = c.if-not-read_comma.ensures.exact ((term_pieces (labels_of c.args.productions.now) c.args.variables.now) next.item ++ others) rest next.read in
    let term = c.in_ok-argument.ensures.exact next.item others rest labels variables (one_of_all (is_term c.args.productions.now (length c.args.variables.now)) c.loop-i.arguments.items ps next.item next.left next.is all) comma.1 in
    let none = (rw c.in-None.is at term).0 in
    absurd (cc)

pub read_arguments-loop-i-preserved : goal.read_arguments-loop-i-preserved
read_arguments-loop-i-preserved t c =
    let items = c.in_ok-push-in-Some.ensures.items in
    let term = rw c.in-Some.is at c.in_ok-argument.ensures.term in
    let read = rw c.in-Some.is at c.in_ok-argument.ensures.read in
    record {
      count = grind (arith, common_steps);
      terms = rw items (all_more (is_term c.args.productions.now (length c.args.variables.now)) c.loop-i.arguments.items c.in-Some.argument c.loop-i.invariant.terms term);
      read = rw items (reads_more (term_pieces (labels_of c.args.productions.now) c.args.variables.now) (codes ",") c.loop-i.arguments.items c.in-Some.argument
          c.args.reader.now c.loop-i.reader c.read_comma.new.reader c.read_term.new.reader c.loop-i.i c.loop-i.invariant.count c.loop-i.invariant.read
          c.if-not-read_comma.ensures.first c.if-not-read_comma.ensures.later read);
      shorter = omega arith;
      exact = λ ps pieces rest labels variables count all read.
          let next = next_of (term_pieces (labels_of c.args.productions.now) c.args.variables.now) c.loop-i.arguments.items ps c.loop-i.i c.args.count pieces c.loop-i.reader rest c.loop-i.invariant.count c.loop-i-test.true count (c.loop-i.invariant.exact ps pieces rest labels variables count all read) in
          let others = marked (term_pieces (labels_of c.args.productions.now) c.args.variables.now) (c.loop-i.i + 1) next.left ++ pieces in
          let comma = c.if-not-read_comma.ensures.exact ((term_pieces (labels_of c.args.productions.now) c.args.variables.now) next.item ++ others) rest next.read in
          let term = c.in_ok-argument.ensures.exact next.item others rest labels variables (one_of_all (is_term c.args.productions.now (length c.args.variables.now)) c.loop-i.arguments.items ps next.item next.left next.is all) comma.1 in
          let known = rw c.in-Some.is at term in
          let same : c.in-Some.argument ≡ next.item = (let it = known.0 in cc) in
          left_more (term_pieces (labels_of c.args.productions.now) c.args.variables.now) c.loop-i.arguments.items ps _ c.loop-i.i next.item next.left pieces c.read_term.new.reader rest (items ∙ ap (λ x. c.loop-i.arguments.items ++ x ∷ []) same) next.is known.1;
    }
