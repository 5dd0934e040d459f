use Rattle.std.proofs.Common.{arith, length, refl, [], ◌∷◌, ◌++◌, ◌≡◌, ◌<◌, ◌∙◌, ap, sym, subst, map, true, IsTrue}
use Rattle.std.specs.List.{list_all}
use Rattle.small_form.proofs.Unique.{both_true}
use Rattle.std.specs.Prelude.{codes}
use Rattle.std.proofs.lemmas.Grind.{common_steps}
use Rattle.small_form.specs.Pieces.{Reads}
use Rattle.small_form.specs.Small.{separated, is_label, labels_of, production_pieces}
use Rattle.small_form.proofs.ReadsLemmas.{reads_more}
use Rattle.small_form.proofs.Terms.{all_more, labels_of-more}
use Rattle.small_form.proofs.Parts.{further, first_production, productions_go, productions_end, further_more}
use Rattle.small_form.proofs.definition.read_productions.Goals as goal

pub returns-in_default-clause-exact : goal.returns-in_default-clause-exact
returns-in_default-clause-exact c = λ ps pieces rest sort short some labels read.
    let next = first_production c.args.sort.now ps pieces c.args.reader.now rest some labels read in
    let found = c.in_ok-first.ensures.exact next.item (further c.args.sort.now next.left ++ codes "configuration" ∷ pieces) rest sort short next.label next.read in
    let none = (rw c.in_default.is at found).0 in
    absurd (cc)

pub loop-alloc-init : goal.loop-alloc-init
loop-alloc-init c =
    let one : c.push.new.self.items ≡ c.in-Some.first ∷ [] = c.in_ok-push.ensures.items ∙ ap (λ t. t ++ c.in-Some.first ∷ []) c.new-productions.ensures.items in
    record {
      some = subst (λ t. 0 < length t) (sym one) (omega arith);
      labels = subst (λ t. IsTrue (list_all is_label (labels_of t))) (sym one) (both_true (is_label c.in-Some.first.label) true (rw c.in-Some.is at c.in_ok-first.ensures.label) refl);
      read = subst (λ t. Reads (separated (codes "|") (map (production_pieces c.args.sort.now) t)) c.args.reader.now c.read_production.new.reader) (sym one)
          (rw c.in-Some.is at c.in_ok-first.ensures.read);
      shorter = omega (arith, c.in_ok-first.ensures.shorter);
      exact = λ ps pieces rest sort short some labels read.
          let next = first_production c.args.sort.now ps pieces c.args.reader.now rest some labels read in
          let found = c.in_ok-first.ensures.exact next.item (further c.args.sort.now next.left ++ codes "configuration" ∷ pieces) rest sort short next.label next.read in
          let known = rw c.in-Some.is at found in
          let same : c.in-Some.first ≡ next.item = (let it = known.0 in cc) in
          further_more c.args.sort.now [] c.push.new.self.items ps next.item next.left pieces c.read_production.new.reader rest (one ∙ ap (λ x. x ∷ []) same) next.is known.1;
    }

pub returns-then-not-eat-clause-exact : goal.returns-then-not-eat-clause-exact
returns-then-not-eat-clause-exact c = λ ps pieces rest sort short some labels read.
    let last = productions_end c.args.sort.now c.loop-alloc.productions.items ps pieces c.loop-alloc.reader rest
    (λ qs r there. let none = (c.if-not-eat.ensures.exact qs r refl there).0 in absurd (cc)) (c.loop-alloc.invariant.exact ps pieces rest sort short some labels read) in
    (last.0, subst (λ t. Reads (codes "configuration" ∷ pieces) t rest) (sym c.if-not-eat.ensures.kept) last.1)

pub returns-in-None-clause-exact : goal.returns-in-None-clause-exact
returns-in-None-clause-exact c = λ ps pieces rest sort short some labels read.
    let next = productions_go c.args.sort.now c.loop-alloc.productions.items ps pieces c.loop-alloc.reader c.eat.new.self c.eat.new.self rest labels c.if-not-eat.ensures.read
    (λ qs r there. (c.if-not-eat.ensures.exact qs r refl there).1) (c.loop-alloc.invariant.exact ps pieces rest sort short some labels read) in
    let before = c.loop-alloc.invariant.shorter in
    let found = c.in_ok-next.ensures.exact next.item (further c.args.sort.now next.left ++ codes "configuration" ∷ pieces) rest sort
    (omega (arith, c.if-not-eat.ensures.shorter)) next.label next.read in
    let none = (rw c.in-None.is at found).0 in
    absurd (cc)

pub loop-alloc-preserved : goal.loop-alloc-preserved
loop-alloc-preserved c =
    let items = c.in_ok-push-in-Some-2.ensures.items in
    let label = rw c.in-Some-2.is at c.in_ok-next.ensures.label in
    let read = rw c.in-Some-2.is at c.in_ok-next.ensures.read in
    record {
      some = grind (arith, common_steps);
      labels = rw (items, labels_of-more c.loop-alloc.productions.items c.in-Some-2.next) (all_more is_label (labels_of c.loop-alloc.productions.items) c.in-Some-2.next.label c.loop-alloc.invariant.labels label);
      read = rw items (reads_more (production_pieces c.args.sort.now) (codes "|") c.loop-alloc.productions.items c.in-Some-2.next
          c.args.reader.now c.loop-alloc.reader c.eat.new.self c.read_production-in-loop-alloc.new.reader (length c.loop-alloc.productions.items) refl c.loop-alloc.invariant.read
          (λ none. absurd (omega (arith, c.loop-alloc.invariant.some))) (λ _. c.if-not-eat.ensures.read) read);
      shorter = omega arith;
      exact = λ ps pieces rest sort short some labels read.
          let next = productions_go c.args.sort.now c.loop-alloc.productions.items ps pieces c.loop-alloc.reader c.eat.new.self c.eat.new.self rest labels c.if-not-eat.ensures.read
          (λ qs r there. (c.if-not-eat.ensures.exact qs r refl there).1) (c.loop-alloc.invariant.exact ps pieces rest sort short some labels read) in
          let before = c.loop-alloc.invariant.shorter in
          let found = c.in_ok-next.ensures.exact next.item (further c.args.sort.now next.left ++ codes "configuration" ∷ pieces) rest sort
          (omega (arith, c.if-not-eat.ensures.shorter)) next.label next.read in
          let known = rw c.in-Some-2.is at found in
          let same : c.in-Some-2.next ≡ next.item = (let it = known.0 in cc) in
          further_more c.args.sort.now c.loop-alloc.productions.items _ ps next.item next.left pieces c.read_production-in-loop-alloc.new.reader rest
          (items ∙ ap (λ x. c.loop-alloc.productions.items ++ x ∷ []) same) next.is known.1;
    }
