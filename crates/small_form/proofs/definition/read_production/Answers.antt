use Rattle.std.proofs.Common.{refl, ap, arith, [], ◌∷◌, ◌++◌, ◌≡◌, ◌∙◌}
use Rattle.std.specs.Prelude.{codes, replicate}
use Rattle.small_form.specs.Small.{is_label, separated}
use Rattle.small_form.proofs.Nodes.{label_word}
use Rattle.small_form.proofs.Parts.{production_read, same_production}
use Rattle.small_form.proofs.definition.read_production.Goals as goal

pub returns-in_default-clause-exact : goal.returns-in_default-clause-exact
returns-in_default-clause-exact c = λ p pieces rest sort short label read.
    let sorts = separated (codes ",") (replicate p.arity (c.args.sort.now ∷ [])) ++ codes ")" ∷ pieces in
    let start = production_read c.args.sort.now p pieces c.args.reader.now rest read in
    let none = (c.in_default.ensures.exact p.label (codes "(" ∷ sorts) rest (label_word p.label label) start).0 in
    absurd (cc)

pub returns-then-not-is_label-clause-exact : goal.returns-then-not-is_label-clause-exact
returns-then-not-is_label-clause-exact c = λ p pieces rest sort short label read.
    let sorts = separated (codes ",") (replicate p.arity (c.args.sort.now ∷ [])) ++ codes ")" ∷ pieces in
    let start = production_read c.args.sort.now p pieces c.args.reader.now rest read in
    let named = c.in-Some.ensures.exact p.label (codes "(" ∷ sorts) rest (label_word p.label label) start in
    let same : c.in-Some.label.now ≡ p.label = (let it = named.0 in cc) in
    let answer = c.is_label.ensures in
    let other = c.if-not-is_label.true in
    let equal : is_label c.in-Some.label.now ≡ is_label p.label = ap is_label same in
    absurd (cc)

pub returns-then-not-eat-clause-exact : goal.returns-then-not-eat-clause-exact
returns-then-not-eat-clause-exact c = λ p pieces rest sort short label read.
    let sorts = separated (codes ",") (replicate p.arity (c.args.sort.now ∷ [])) ++ codes ")" ∷ pieces in
    let start = production_read c.args.sort.now p pieces c.args.reader.now rest read in
    let named = c.in-Some.ensures.exact p.label (codes "(" ∷ sorts) rest (label_word p.label label) start in
    let same : c.in-Some.label.now ≡ p.label = (let it = named.0 in cc) in
    let none = (c.if-not-eat.ensures.exact sorts rest refl named.1).0 in
    absurd (cc)

pub returns-in_default-read_sorts-clause-exact : goal.returns-in_default-read_sorts-clause-exact
returns-in_default-read_sorts-clause-exact c = λ p pieces rest sort short label read.
    let sorts = separated (codes ",") (replicate p.arity (c.args.sort.now ∷ [])) ++ codes ")" ∷ pieces in
    let start = production_read c.args.sort.now p pieces c.args.reader.now rest read in
    let named = c.in-Some.ensures.exact p.label (codes "(" ∷ sorts) rest (label_word p.label label) start in
    let same : c.in-Some.label.now ≡ p.label = (let it = named.0 in cc) in
    let opening = c.if-not-eat.ensures.exact sorts rest refl named.1 in
    let small = c.if-not-eat.ensures.shorter in
    let word = c.in-Some.ensures.shorter in
    let none = (c.in_default-read_sorts.ensures.exact p.arity pieces rest sort (omega arith) opening.1).0 in
    absurd (cc)

pub returns-clause-exact : goal.returns-clause-exact
returns-clause-exact c = λ p pieces rest sort short label read.
    let sorts = separated (codes ",") (replicate p.arity (c.args.sort.now ∷ [])) ++ codes ")" ∷ pieces in
    let start = production_read c.args.sort.now p pieces c.args.reader.now rest read in
    let named = c.in-Some.ensures.exact p.label (codes "(" ∷ sorts) rest (label_word p.label label) start in
    let same : c.in-Some.label.now ≡ p.label = (let it = named.0 in cc) in
    let opening = c.if-not-eat.ensures.exact sorts rest refl named.1 in
    let small = c.if-not-eat.ensures.shorter in
    let word = c.in-Some.ensures.shorter in
    let counted = c.in-Some-read_sorts.ensures.exact p.arity pieces rest sort (omega arith) opening.1 in
    let arity : c.in-Some-read_sorts.arity ≡ p.arity = (let it = counted.0 in cc) in
    (same_production p c.in_ok-label.label c.in-Some-read_sorts.arity (c.in_ok-label.ensures.ok ∙ same) arity, counted.1)
