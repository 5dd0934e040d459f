use Rattle.std.proofs.Common.{rules as std_rules, arith, refl, [], ◌∷◌, ◌++◌, ◌≡◌, subst, sym}
use Rattle.std.specs.Prelude.{codes}
use Rattle.small_form.specs.Pieces.{Reads}
use Rattle.small_form.specs.Small.{IsSmallRule, labels_of, rules_pieces, rule_pieces, unplaced_rule}
use Rattle.small_form.proofs.Parts.{rules_begin, rules_end, rules_go, rules_more}
use Rattle.small_form.proofs.ReadsLemmas.{Reads-append, rules_pieces-append, each_more}
use Rattle.small_form.proofs.definition.read_rules.Goals as goal

pub returns-then-eat-clause-read : goal.returns-then-eat-clause-read
returns-then-eat-clause-read c =
    Reads-append (rules_pieces (labels_of c.args.productions.now) c.args.sort.now c.loop-alloc.rules.items) (codes "endmodule" ∷ [])
    c.args.reader.now c.loop-alloc.reader c.eat.new.self c.loop-alloc.invariant.read c.if-eat.ensures.read

pub loop-alloc-preserved : goal.loop-alloc-preserved
loop-alloc-preserved c =
    let labels = labels_of c.args.productions.now in
    let items = c.in_ok-push-in-Some.ensures.items in
    let small = rw c.in-Some.is at c.in_ok-rule.ensures.small in
    let read = rw c.in-Some.is at c.in_ok-rule.ensures.read in
    let first = subst (λ t. Reads (rules_pieces labels c.args.sort.now c.loop-alloc.rules.items) c.args.reader.now t) (sym c.if-eat.ensures.kept) c.loop-alloc.invariant.read in
    record {
      small = rw items (each_more (IsSmallRule c.args.productions.now) c.loop-alloc.rules.items c.in-Some.rule c.loop-alloc.invariant.small small);
      read = rw (items, rules_pieces-append labels c.args.sort.now c.loop-alloc.rules.items c.in-Some.rule)
          (Reads-append (rules_pieces labels c.args.sort.now c.loop-alloc.rules.items) (rule_pieces labels c.args.sort.now c.in-Some.rule)
          c.args.reader.now c.eat.new.self c.read_rule.new.reader first read);
      shorter = omega (arith, c.if-eat.ensures.shorter, rw c.in-Some.is at c.in_ok-rule.ensures.shorter);
      exact = λ rules pieces rest labels sort short small read.
          let next = rules_go c.args.productions.now c.args.sort.now c.loop-alloc.rules.items rules pieces c.loop-alloc.reader rest
          (λ ps r there. let none = (c.if-eat.ensures.exact ps r refl there).0 in absurd (cc)) (c.loop-alloc.invariant.exact rules pieces rest labels sort short small read) in
          let others = rules_pieces (labels_of c.args.productions.now) c.args.sort.now next.left ++ codes "endmodule" ∷ pieces in
          let before = c.loop-alloc.invariant.shorter in
          let found = c.in_ok-rule.ensures.exact next.item others rest labels sort (omega (arith, c.if-eat.ensures.shorter)) next.rule
          (subst (λ t. Reads (rule_pieces (labels_of c.args.productions.now) c.args.sort.now next.item ++ others) t rest) (sym c.if-eat.ensures.kept) next.read) in
          let known = rw c.in-Some.is at found in
          let same : unplaced_rule c.in-Some.rule ≡ unplaced_rule next.item = (let it = known.0 in cc) in
          rules_more c.args.productions.now c.args.sort.now c.loop-alloc.rules.items _ rules c.in-Some.rule next.item next.left pieces c.read_rule.new.reader rest items same next.is next.small known.1;
    }

pub loop-alloc-init : goal.loop-alloc-init
loop-alloc-init c = record {
  small = search std_rules;
  read = search std_rules;
  shorter = search std_rules;
  exact = λ rules pieces rest labels sort short small read. rules_begin c.args.productions.now c.args.sort.now c.new-rules.result.items rules pieces c.args.reader.now rest c.new-rules.ensures.items small read;
}

pub returns-then-eat-clause-exact : goal.returns-then-eat-clause-exact
returns-then-eat-clause-exact c = λ rules pieces rest labels sort short small read.
    let last = rules_end c.args.productions.now c.args.sort.now c.loop-alloc.rules.items rules pieces c.loop-alloc.reader c.eat.new.self rest c.if-eat.ensures.read
    (c.loop-alloc.invariant.exact rules pieces rest labels sort short small read) in
    (last.0, (c.if-eat.ensures.exact pieces rest refl last.1).1)

pub returns-in-None-clause-exact : goal.returns-in-None-clause-exact
returns-in-None-clause-exact c = λ rules pieces rest labels sort short small read.
    let next = rules_go c.args.productions.now c.args.sort.now c.loop-alloc.rules.items rules pieces c.loop-alloc.reader rest
    (λ ps r there. let none = (c.if-eat.ensures.exact ps r refl there).0 in absurd (cc)) (c.loop-alloc.invariant.exact rules pieces rest labels sort short small read) in
    let others = rules_pieces (labels_of c.args.productions.now) c.args.sort.now next.left ++ codes "endmodule" ∷ pieces in
    let before = c.loop-alloc.invariant.shorter in
    let found = c.in_ok-rule.ensures.exact next.item others rest labels sort (omega (arith, c.if-eat.ensures.shorter)) next.rule
    (subst (λ t. Reads (rule_pieces (labels_of c.args.productions.now) c.args.sort.now next.item ++ others) t rest) (sym c.if-eat.ensures.kept) next.read) in
    let none = (rw c.in-None.is at found).0 in
    absurd (cc)
