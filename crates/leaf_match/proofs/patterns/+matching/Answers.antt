use Rattle.std.proofs.Common.{rules, arith, ◌≡◌, ◌≤◌, ◌==◌, ◌||◌, sym, ap, ◌∙◌, subst, true, false, refl, length, take, drop}
use Rattle.std.specs.Prelude.{Some}
use Rattle.std.specs.List.{AllByRecursion, list_any}
use Rattle.k_terms.specs.declared.value.Value.{Items, Seq}
use Rattle.k_terms.specs.Value.{depth_of}
use Rattle.k_terms.specs.Operators.{depth_limit}
use Rattle.rule_terms.specs.declared.pattern.Pattern.{Var, Node as NodeP, Items as ItemsP, Seq as SeqP, Freezer as FreezerP}
use Rattle.rule_terms.specs.Options.{joined}
use Rattle.rule_terms.specs.Substitution.{value_at, rest_of, as_sequence, as_items_of}
use Rattle.rule_terms.specs.Eval.{eval, eval_all}
use Rattle.rule_terms.specs.Patterns.{mentions, is_rest}
use Rattle.rule_terms.specs.Sound.{has_no_operator}
use Rattle.leaf_match.specs.Bindings.{Tells, Reaches, node_at, items_at, sequence_at, freezer_at}
use Rattle.leaf_match.specs.Depths.{is_constructor}
use Rattle.leaf_match.proofs.Depths.{constructor-Node, constructor-Items, constructor-Seq, constructor-Freezer}
use Rattle.leaf_match.proofs.Sizes.{size, size-Node, size-Items, size-Seq, size-Freezer, size_at}
use Rattle.leaf_match.proofs.Equations.{eval-Var, eval-Node, eval-Items, eval-Seq, eval-Freezer, plain-Node, plain-Items, plain-Seq, plain-Freezer, operator-Apply}
use Rattle.leaf_match.proofs.Holding.{node_shallow, items_shallow, sequence_shallow, freezer_shallow, front_shallow}
use Rattle.leaf_match.proofs.Fronts.{sequences, items, eval_all_length}
use Rattle.leaf_match.proofs.Rows.{plain_at, each_at, empty_told}
use Rattle.leaf_match.proofs.Told.{told_node, told_items, told_sequence, told_freezer, told_equal, told_literal, told_few, told_no_front, told_rest, told_end, told_next, told_no_next}
use Rattle.leaf_match.proofs.Reaching.{reach_alike, reach_none, reach_next, mentions-Var, mentions-Lit, mentions-Node, mentions-Items, mentions-Seq, mentions-Freezer}
use Rattle.leaf_match.proofs.patterns.+matching.Goals as goal

-- ---- patterns

pub match_pattern-returns-in_ok-found-in-Var-clause-tells : goal.match_pattern-returns-in_ok-found-in-Var-clause-tells
match_pattern-returns-in_ok-found-in-Var-clause-tells t c = λ _.
    told_equal c.args.variables.now.sorts.now c.args.variables.now.vars.now c.in_ok-found-in-Var.found c.args.bindings.now c.bind.new.self
    c.args.pattern.now (Var c.in-Var.number) c.args.value.now (λ s. value_at s c.in-Var.number) c.in-Var.is (λ s. eval-Var c.in-Var.number s)
    c.in_ok-found-in-Var.ensures.tells

pub match_pattern-returns-in-Lit-clause-tells : goal.match_pattern-returns-in-Lit-clause-tells
match_pattern-returns-in-Lit-clause-tells t c = λ _.
    told_literal c.args.variables.now.sorts.now c.args.variables.now.vars.now c.equal-found.result c.args.bindings.now c.args.pattern.now c.in-Lit.literal c.args.value.now c.in-Lit.is c.equal-found.ensures.same

pub match_pattern-returns-in-Apply-clause-tells : goal.match_pattern-returns-in-Apply-clause-tells
match_pattern-returns-in-Apply-clause-tells t c = λ _ s sorts agrees holds.
    let no : false ≡ true = sym (operator-Apply c.in-Apply.field-0 c.in-Apply.field-1) ∙ sym (ap has_no_operator c.in-Apply.is) ∙ c.requires.plain in cc

pub match_pattern-returns-in_ok-found-in-Node-clause-tells : goal.match_pattern-returns-in_ok-found-in-Node-clause-tells
match_pattern-returns-in_ok-found-in-Node-clause-tells t c = λ within.
    told_equal c.args.variables.now.sorts.now c.args.variables.now.vars.now c.in_ok-found-in-Node.found c.args.bindings.now c.match_node.new.bindings
    c.args.pattern.now (NodeP c.in-Node.production c.as_slice.result.now) c.args.value.now (λ s. node_at c.in-Node.production (eval_all c.as_slice.result.now s)) (c.in-Node.is ∙ ap (λ ps. NodeP c.in-Node.production ps) (sym c.as_slice.ensures)) (λ s. eval-Node c.in-Node.production c.as_slice.result.now s)
    (c.in_ok-found-in-Node.ensures.tells (within (ap is_constructor c.in-Node.is ∙ constructor-Node c.in-Node.production c.in-Node.parts)))

pub match_pattern-match_node-requires : goal.match_pattern-match_node-requires
match_pattern-match_node-requires t c =
    let whole = ap size (c.in-Node.is ∙ ap (λ ps. NodeP c.in-Node.production ps) (sym c.as_slice.ensures)) ∙ size-Node c.in-Node.production c.as_slice.result.now in
    let measure = c.decreases in (
      omega (arith, whole, measure),
      (c.requires.suited, sym (plain-Node c.in-Node.production c.as_slice.result.now) ∙ sym (ap has_no_operator (c.in-Node.is ∙ ap (λ ps. NodeP c.in-Node.production ps) (sym c.as_slice.ensures))) ∙ c.requires.plain),
    )

pub match_pattern-returns-in_ok-found-in-Items-clause-tells : goal.match_pattern-returns-in_ok-found-in-Items-clause-tells
match_pattern-returns-in_ok-found-in-Items-clause-tells t c = λ within.
    told_equal c.args.variables.now.sorts.now c.args.variables.now.vars.now c.in_ok-found-in-Items.found c.args.bindings.now c.match_items.new.bindings
    c.args.pattern.now (ItemsP c.in-Items.production c.as_slice-in-Items.result.now c.in-Items.rest) c.args.value.now (λ s. items_at c.in-Items.production (joined (eval_all c.as_slice-in-Items.result.now s) (rest_of (as_items_of c.in-Items.production) c.in-Items.rest s))) (c.in-Items.is ∙ ap (λ ps. ItemsP c.in-Items.production ps c.in-Items.rest) (sym c.as_slice-in-Items.ensures)) (λ s. eval-Items c.in-Items.production c.as_slice-in-Items.result.now c.in-Items.rest s)
    (c.in_ok-found-in-Items.ensures.tells (within (ap is_constructor c.in-Items.is ∙ constructor-Items c.in-Items.production c.in-Items.parts c.in-Items.rest)))

pub match_pattern-match_items-requires : goal.match_pattern-match_items-requires
match_pattern-match_items-requires t c =
    let whole = ap size (c.in-Items.is ∙ ap (λ ps. ItemsP c.in-Items.production ps c.in-Items.rest) (sym c.as_slice-in-Items.ensures)) ∙ size-Items c.in-Items.production c.as_slice-in-Items.result.now c.in-Items.rest in
    let measure = c.decreases in (
      omega (arith, whole, measure),
      (c.requires.suited, sym (plain-Items c.in-Items.production c.as_slice-in-Items.result.now c.in-Items.rest) ∙ sym (ap has_no_operator (c.in-Items.is ∙ ap (λ ps. ItemsP c.in-Items.production ps c.in-Items.rest) (sym c.as_slice-in-Items.ensures))) ∙ c.requires.plain),
    )

pub match_pattern-returns-in_ok-found-in-Seq-clause-tells : goal.match_pattern-returns-in_ok-found-in-Seq-clause-tells
match_pattern-returns-in_ok-found-in-Seq-clause-tells t c = λ within.
    told_equal c.args.variables.now.sorts.now c.args.variables.now.vars.now c.in_ok-found-in-Seq.found c.args.bindings.now c.match_sequence.new.bindings
    c.args.pattern.now (SeqP c.as_slice-in-Seq.result.now c.in-Seq.rest) c.args.value.now (λ s. sequence_at (joined (eval_all c.as_slice-in-Seq.result.now s) (rest_of as_sequence c.in-Seq.rest s))) (c.in-Seq.is ∙ ap (λ ps. SeqP ps c.in-Seq.rest) (sym c.as_slice-in-Seq.ensures)) (λ s. eval-Seq c.as_slice-in-Seq.result.now c.in-Seq.rest s)
    (c.in_ok-found-in-Seq.ensures.tells (within (ap is_constructor c.in-Seq.is ∙ constructor-Seq c.in-Seq.parts c.in-Seq.rest)))

pub match_pattern-match_sequence-requires : goal.match_pattern-match_sequence-requires
match_pattern-match_sequence-requires t c =
    let whole = ap size (c.in-Seq.is ∙ ap (λ ps. SeqP ps c.in-Seq.rest) (sym c.as_slice-in-Seq.ensures)) ∙ size-Seq c.as_slice-in-Seq.result.now c.in-Seq.rest in
    let measure = c.decreases in (
      omega (arith, whole, measure),
      (c.requires.suited, sym (plain-Seq c.as_slice-in-Seq.result.now c.in-Seq.rest) ∙ sym (ap has_no_operator (c.in-Seq.is ∙ ap (λ ps. SeqP ps c.in-Seq.rest) (sym c.as_slice-in-Seq.ensures))) ∙ c.requires.plain),
    )

pub match_pattern-returns-in_ok-found-in-Freezer-clause-tells : goal.match_pattern-returns-in_ok-found-in-Freezer-clause-tells
match_pattern-returns-in_ok-found-in-Freezer-clause-tells t c = λ within.
    told_equal c.args.variables.now.sorts.now c.args.variables.now.vars.now c.in_ok-found-in-Freezer.found c.args.bindings.now c.match_freezer.new.bindings
    c.args.pattern.now (FreezerP c.in-Freezer.production c.in-Freezer.place c.as_slice-in-Freezer.result.now) c.args.value.now (λ s. freezer_at c.in-Freezer.production c.in-Freezer.place (eval_all c.as_slice-in-Freezer.result.now s)) (c.in-Freezer.is ∙ ap (λ ps. FreezerP c.in-Freezer.production c.in-Freezer.place ps) (sym c.as_slice-in-Freezer.ensures)) (λ s. eval-Freezer c.in-Freezer.production c.in-Freezer.place c.as_slice-in-Freezer.result.now s)
    (c.in_ok-found-in-Freezer.ensures.tells (within (ap is_constructor c.in-Freezer.is ∙ constructor-Freezer c.in-Freezer.production c.in-Freezer.place c.in-Freezer.parts)))

pub match_pattern-match_freezer-requires : goal.match_pattern-match_freezer-requires
match_pattern-match_freezer-requires t c =
    let whole = ap size (c.in-Freezer.is ∙ ap (λ ps. FreezerP c.in-Freezer.production c.in-Freezer.place ps) (sym c.as_slice-in-Freezer.ensures)) ∙ size-Freezer c.in-Freezer.production c.in-Freezer.place c.as_slice-in-Freezer.result.now in
    let measure = c.decreases in (
      omega (arith, whole, measure),
      (c.requires.suited, sym (plain-Freezer c.in-Freezer.production c.in-Freezer.place c.as_slice-in-Freezer.result.now) ∙ sym (ap has_no_operator (c.in-Freezer.is ∙ ap (λ ps. FreezerP c.in-Freezer.production c.in-Freezer.place ps) (sym c.as_slice-in-Freezer.ensures))) ∙ c.requires.plain),
    )

-- ---- a production and a freezer

pub match_node-returns-clause-tells : goal.match_node-returns-clause-tells
match_node-returns-clause-tells t c = λ shallow.
    told_node c.args.variables.now.sorts.now c.args.variables.now.vars.now c.in_ok-found.found c.args.bindings.now c.match_all.new.bindings
    c.args.production c.args.parts.now c.args.value.now c.in-Node.values c.as_slice.result.now c.in-Node.other c.in-Node.is c.if-other-production.false c.as_slice.ensures
    shallow (c.in_ok-found.ensures.tells (subst (λ vs. AllByRecursion (λ v. depth_of v ≤ depth_limit) vs) (sym c.as_slice.ensures) (node_shallow c.in-Node.other c.in-Node.values (subst (λ v. depth_of v ≤ depth_limit) c.in-Node.is shallow))))

pub match_node-match_all-requires : goal.match_node-match_all-requires
match_node-match_all-requires t c = let measure = c.decreases in (
  omega (arith, measure),
  (c.requires.suited, c.requires.plain),
)

pub match_freezer-returns-clause-tells : goal.match_freezer-returns-clause-tells
match_freezer-returns-clause-tells t c = λ shallow.
    told_freezer c.args.variables.now.sorts.now c.args.variables.now.vars.now c.in_ok-found.found c.args.bindings.now c.match_all.new.bindings
    c.args.production c.args.place c.args.parts.now c.args.value.now c.in-Freezer.values c.as_slice.result.now c.in-Freezer.other c.in-Freezer.hole c.in-Freezer.is
    c.if-other-production.false c.if-hole-place.false c.as_slice.ensures shallow
    (c.in_ok-found.ensures.tells (subst (λ vs. AllByRecursion (λ v. depth_of v ≤ depth_limit) vs) (sym c.as_slice.ensures) (freezer_shallow c.in-Freezer.other c.in-Freezer.hole c.in-Freezer.values (subst (λ v. depth_of v ≤ depth_limit) c.in-Freezer.is shallow))))

pub match_freezer-match_all-requires : goal.match_freezer-match_all-requires
match_freezer-match_all-requires t c = let measure = c.decreases in (
  omega (arith, measure),
  (c.requires.suited, c.requires.plain),
)

-- ---- a sequence

pub match_sequence-returns-clause-tells : goal.match_sequence-returns-clause-tells
match_sequence-returns-clause-tells t c = λ shallow.
    told_sequence c.args.variables.now.sorts.now c.args.variables.now.vars.now c.in_ok-found.found c.args.bindings.now c.match_front.new.bindings
    (λ s. joined (eval_all c.args.parts.now s) (rest_of as_sequence c.args.rest s)) c.args.value.now c.as_slice.result.now (c.in-Seq.is ∙ ap Seq (sym c.as_slice.ensures))
    shallow (c.in_ok-found.ensures.tells (subst (λ vs. AllByRecursion (λ v. depth_of v ≤ depth_limit) vs) (sym c.as_slice.ensures) (sequence_shallow c.in-Seq.values (subst (λ v. depth_of v ≤ depth_limit) c.in-Seq.is shallow))))

pub match_sequence-match_front-requires : goal.match_sequence-match_front-requires
match_sequence-match_front-requires t c = let measure = c.decreases in (
  omega (arith, measure),
  (c.requires.suited, c.requires.plain),
)

pub match_front-match_all-requires : goal.match_front-match_all-requires
match_front-match_all-requires t c = let measure = c.decreases in (
  omega (arith, measure),
  (c.requires.suited, c.requires.plain),
)

pub match_front-returns-then-parts-values-clause-tells : goal.match_front-returns-then-parts-values-clause-tells
match_front-returns-then-parts-values-clause-tells t c = λ _.
    told_few c.args.variables.now.sorts.now c.args.variables.now.vars.now as_sequence Seq sequences c.args.parts.now c.args.values.now (take (length c.args.parts.now) c.args.values.now) (drop (length c.args.parts.now) c.args.values.now) refl refl c.args.rest c.args.bindings.now c.if-parts-values.true

pub match_front-returns-then-not-branch-clause-tells : goal.match_front-returns-then-not-branch-clause-tells
match_front-returns-then-not-branch-clause-tells t c = λ shallow.
    told_no_front c.args.variables.now.sorts.now c.args.variables.now.vars.now as_sequence Seq sequences c.args.parts.now c.args.values.now c.split_at.result.0.now c.split_at.result.1.now c.split_at.ensures.front c.split_at.ensures.back c.args.rest c.args.bindings.now c.match_all.new.bindings c.match_all.new.bindings
    (subst (λ b. Tells c.args.variables.now.sorts.now c.args.variables.now.vars.now b c.args.bindings.now c.match_all.new.bindings (λ s. eval_all c.args.parts.now s ≡ Some c.split_at.result.0.now)) c.if-not-branch.true (c.in_ok-match_all.ensures.tells (subst (λ vs. AllByRecursion (λ v. depth_of v ≤ depth_limit) vs) (sym c.split_at.ensures.front) (front_shallow (length c.args.parts.now) c.args.values.now shallow))))

pub match_front-returns-in_ok-found-in-Some-clause-tells : goal.match_front-returns-in_ok-found-in-Some-clause-tells
match_front-returns-in_ok-found-in-Some-clause-tells t c = λ shallow.
    subst (λ rest. Tells c.args.variables.now.sorts.now c.args.variables.now.vars.now c.in_ok-found-in-Some.found c.args.bindings.now c.bind.new.self (λ s. joined (eval_all c.args.parts.now s) (rest_of as_sequence rest s) ≡ Some c.args.values.now)) (sym c.in-Some.is)
    (told_rest c.args.variables.now.sorts.now c.args.variables.now.vars.now as_sequence Seq sequences c.args.parts.now c.args.values.now c.split_at.result.0.now c.split_at.result.1.now c.split_at.ensures.front c.split_at.ensures.back c.in_ok-found-in-Some.found c.args.bindings.now c.match_all.new.bindings c.bind.new.self c.in-Some.number _ refl
    (subst (λ b. Tells c.args.variables.now.sorts.now c.args.variables.now.vars.now b c.args.bindings.now c.match_all.new.bindings (λ s. eval_all c.args.parts.now s ≡ Some c.split_at.result.0.now)) c.if-not-branch.false (c.in_ok-match_all.ensures.tells (subst (λ vs. AllByRecursion (λ v. depth_of v ≤ depth_limit) vs) (sym c.split_at.ensures.front) (front_shallow (length c.args.parts.now) c.args.values.now shallow)))) c.in_ok-found-in-Some.ensures.tells)

pub match_front-returns-in-None-clause-tells : goal.match_front-returns-in-None-clause-tells
match_front-returns-in-None-clause-tells t c = λ shallow.
    subst (λ rest. Tells c.args.variables.now.sorts.now c.args.variables.now.vars.now c.is_empty-found.result c.args.bindings.now c.match_all.new.bindings (λ s. joined (eval_all c.args.parts.now s) (rest_of as_sequence rest s) ≡ Some c.args.values.now)) (sym c.in-None.is)
    (told_end c.args.variables.now.sorts.now c.args.variables.now.vars.now as_sequence Seq sequences c.args.parts.now c.args.values.now c.split_at.result.0.now c.split_at.result.1.now c.split_at.ensures.front c.split_at.ensures.back c.is_empty-found.result c.args.bindings.now c.match_all.new.bindings
    (empty_told c.split_at.result.1.now c.is_empty-found.result c.is_empty-found.ensures)
    (subst (λ b. Tells c.args.variables.now.sorts.now c.args.variables.now.vars.now b c.args.bindings.now c.match_all.new.bindings (λ s. eval_all c.args.parts.now s ≡ Some c.split_at.result.0.now)) c.if-not-branch.false (c.in_ok-match_all.ensures.tells (subst (λ vs. AllByRecursion (λ v. depth_of v ≤ depth_limit) vs) (sym c.split_at.ensures.front) (front_shallow (length c.args.parts.now) c.args.values.now shallow)))))

-- ---- a list

pub match_items-returns-clause-tells : goal.match_items-returns-clause-tells
match_items-returns-clause-tells t c = λ shallow.
    told_items c.args.variables.now.sorts.now c.args.variables.now.vars.now c.in_ok-found.found c.args.bindings.now c.match_members.new.bindings c.args.production
    (λ s. joined (eval_all c.args.parts.now s) (rest_of (as_items_of c.args.production) c.args.rest s)) c.args.value.now c.as_slice-values.result.now c.in-Items.other
    (c.in-Items.is ∙ ap (Items c.in-Items.other) (sym c.as_slice-values.ensures)) c.if-other-production.false shallow
    (c.in_ok-found.ensures.tells (subst (λ vs. AllByRecursion (λ v. depth_of v ≤ depth_limit) vs) (sym c.as_slice-values.ensures) (items_shallow c.in-Items.other c.in-Items.values (subst (λ v. depth_of v ≤ depth_limit) c.in-Items.is shallow))))

pub match_items-match_members-requires : goal.match_items-match_members-requires
match_items-match_members-requires t c = let measure = c.decreases in (
  omega (arith, measure),
  (c.requires.suited, c.requires.plain),
)

pub match_members-match_all-requires : goal.match_members-match_all-requires
match_members-match_all-requires t c = let measure = c.decreases in (
  omega (arith, measure),
  (c.requires.suited, c.requires.plain),
)

pub match_members-returns-then-parts-values-clause-tells : goal.match_members-returns-then-parts-values-clause-tells
match_members-returns-then-parts-values-clause-tells t c = λ _.
    told_few c.args.variables.now.sorts.now c.args.variables.now.vars.now (as_items_of c.args.production) (Items c.args.production) (items c.args.production) c.args.parts.now c.args.values.now (take (length c.args.parts.now) c.args.values.now) (drop (length c.args.parts.now) c.args.values.now) refl refl c.args.rest c.args.bindings.now c.if-parts-values.true

pub match_members-returns-then-not-branch-clause-tells : goal.match_members-returns-then-not-branch-clause-tells
match_members-returns-then-not-branch-clause-tells t c = λ shallow.
    told_no_front c.args.variables.now.sorts.now c.args.variables.now.vars.now (as_items_of c.args.production) (Items c.args.production) (items c.args.production) c.args.parts.now c.args.values.now c.split_at.result.0.now c.split_at.result.1.now c.split_at.ensures.front c.split_at.ensures.back c.args.rest c.args.bindings.now c.match_all.new.bindings c.match_all.new.bindings
    (subst (λ b. Tells c.args.variables.now.sorts.now c.args.variables.now.vars.now b c.args.bindings.now c.match_all.new.bindings (λ s. eval_all c.args.parts.now s ≡ Some c.split_at.result.0.now)) c.if-not-branch.true (c.in_ok-match_all.ensures.tells (subst (λ vs. AllByRecursion (λ v. depth_of v ≤ depth_limit) vs) (sym c.split_at.ensures.front) (front_shallow (length c.args.parts.now) c.args.values.now shallow))))

pub match_members-returns-in_ok-found-in-Some-clause-tells : goal.match_members-returns-in_ok-found-in-Some-clause-tells
match_members-returns-in_ok-found-in-Some-clause-tells t c = λ shallow.
    subst (λ rest. Tells c.args.variables.now.sorts.now c.args.variables.now.vars.now c.in_ok-found-in-Some.found c.args.bindings.now c.bind.new.self (λ s. joined (eval_all c.args.parts.now s) (rest_of (as_items_of c.args.production) rest s) ≡ Some c.args.values.now)) (sym c.in-Some.is)
    (told_rest c.args.variables.now.sorts.now c.args.variables.now.vars.now (as_items_of c.args.production) (Items c.args.production) (items c.args.production) c.args.parts.now c.args.values.now c.split_at.result.0.now c.split_at.result.1.now c.split_at.ensures.front c.split_at.ensures.back c.in_ok-found-in-Some.found c.args.bindings.now c.match_all.new.bindings c.bind.new.self c.in-Some.number _ refl
    (subst (λ b. Tells c.args.variables.now.sorts.now c.args.variables.now.vars.now b c.args.bindings.now c.match_all.new.bindings (λ s. eval_all c.args.parts.now s ≡ Some c.split_at.result.0.now)) c.if-not-branch.false (c.in_ok-match_all.ensures.tells (subst (λ vs. AllByRecursion (λ v. depth_of v ≤ depth_limit) vs) (sym c.split_at.ensures.front) (front_shallow (length c.args.parts.now) c.args.values.now shallow)))) c.in_ok-found-in-Some.ensures.tells)

pub match_members-returns-in-None-clause-tells : goal.match_members-returns-in-None-clause-tells
match_members-returns-in-None-clause-tells t c = λ shallow.
    subst (λ rest. Tells c.args.variables.now.sorts.now c.args.variables.now.vars.now c.is_empty-found.result c.args.bindings.now c.match_all.new.bindings (λ s. joined (eval_all c.args.parts.now s) (rest_of (as_items_of c.args.production) rest s) ≡ Some c.args.values.now)) (sym c.in-None.is)
    (told_end c.args.variables.now.sorts.now c.args.variables.now.vars.now (as_items_of c.args.production) (Items c.args.production) (items c.args.production) c.args.parts.now c.args.values.now c.split_at.result.0.now c.split_at.result.1.now c.split_at.ensures.front c.split_at.ensures.back c.is_empty-found.result c.args.bindings.now c.match_all.new.bindings
    (empty_told c.split_at.result.1.now c.is_empty-found.result c.is_empty-found.ensures)
    (subst (λ b. Tells c.args.variables.now.sorts.now c.args.variables.now.vars.now b c.args.bindings.now c.match_all.new.bindings (λ s. eval_all c.args.parts.now s ≡ Some c.split_at.result.0.now)) c.if-not-branch.false (c.in_ok-match_all.ensures.tells (subst (λ vs. AllByRecursion (λ v. depth_of v ≤ depth_limit) vs) (sym c.split_at.ensures.front) (front_shallow (length c.args.parts.now) c.args.values.now shallow)))))

-- ---- several patterns

pub match_all-returns-then-patterns-values-clause-tells : goal.match_all-returns-then-patterns-values-clause-tells
match_all-returns-then-patterns-values-clause-tells t c =
    λ _ s sorts agrees holds. c.if-patterns-values.true (eval_all_length c.args.patterns.now s c.args.values.now holds)

pub match_all-match_pattern-requires : goal.match_all-match_pattern-requires
match_all-match_pattern-requires t c =
    let smaller = size_at c.args.patterns.now c.loop-i.i c.index-patterns-i.result c.loop-i-test.true c.index-patterns-i.is in
    let measure = c.decreases in (
      omega (arith, smaller, measure),
      (
        c.loop-i.invariant.suited,
        plain_at has_no_operator c.args.patterns.now c.loop-i.i c.index-patterns-i.result c.requires.plain c.loop-i-test.true c.index-patterns-i.is,
      ),
    )

pub match_all-returns-then-not-branch-clause-tells : goal.match_all-returns-then-not-branch-clause-tells
match_all-returns-then-not-branch-clause-tells t c = λ shallow.
    told_no_next c.args.variables.now.sorts.now c.args.variables.now.vars.now c.args.bindings.now c.loop-i.bindings c.match_pattern.new.bindings c.args.patterns.now c.args.values.now c.loop-i.i
    c.index-patterns-i.result c.index-values-i.result c.loop-i-test.true (search rules) c.index-patterns-i.is c.index-values-i.is (c.loop-i.invariant.tells shallow)
    (subst (λ b. Tells c.args.variables.now.sorts.now c.args.variables.now.vars.now b c.loop-i.bindings c.match_pattern.new.bindings (λ s. eval c.index-patterns-i.result s ≡ Some c.index-values-i.result))
    c.if-not-branch.true (c.in_ok-match_pattern.ensures.tells (λ _. each_at (λ v. depth_of v ≤ depth_limit) c.args.values.now c.loop-i.i c.index-values-i.result shallow (search rules) c.index-values-i.is))) c.match_pattern.new.bindings

pub match_all-loop-i-preserved : goal.match_all-loop-i-preserved
match_all-loop-i-preserved t c = record {
  suited = c.in_ok-match_pattern.ensures.suited;
  tells = λ shallow. told_next c.args.variables.now.sorts.now c.args.variables.now.vars.now c.args.bindings.now c.loop-i.bindings c.match_pattern.new.bindings c.args.patterns.now c.args.values.now c.loop-i.i
      c.index-patterns-i.result c.index-values-i.result c.loop-i-test.true (search rules) c.index-patterns-i.is c.index-values-i.is (c.loop-i.invariant.tells shallow)
      (subst (λ b. Tells c.args.variables.now.sorts.now c.args.variables.now.vars.now b c.loop-i.bindings c.match_pattern.new.bindings (λ s. eval c.index-patterns-i.result s ≡ Some c.index-values-i.result))
      c.if-not-branch.false (c.in_ok-match_pattern.ensures.tells (λ _. each_at (λ v. depth_of v ≤ depth_limit) c.args.values.now c.loop-i.i c.index-values-i.result shallow (search rules) c.index-values-i.is)));
  reaches = reach_next mentions c.args.bindings.now c.loop-i.bindings c.match_pattern.new.bindings c.args.patterns.now c.loop-i.i c.index-patterns-i.result
      c.loop-i-test.true c.index-patterns-i.is c.loop-i.invariant.reaches
      (subst (λ b. Reaches b c.loop-i.bindings c.match_pattern.new.bindings (λ x. mentions x c.index-patterns-i.result)) c.if-not-branch.false c.in_ok-match_pattern.ensures.reaches);
}

-- ---- which variables are bound

pub match_pattern-returns-in_ok-found-in-Var-clause-reaches : goal.match_pattern-returns-in_ok-found-in-Var-clause-reaches
match_pattern-returns-in_ok-found-in-Var-clause-reaches t c =
    reach_alike c.in_ok-found-in-Var.found c.args.bindings.now c.bind.new.self (λ x. x == c.in-Var.number) (λ x. mentions x c.args.pattern.now)
    (λ x. ap (mentions x) c.in-Var.is ∙ mentions-Var x c.in-Var.number) c.in_ok-found-in-Var.ensures.reaches

pub match_pattern-returns-in_ok-found-in-Node-clause-reaches : goal.match_pattern-returns-in_ok-found-in-Node-clause-reaches
match_pattern-returns-in_ok-found-in-Node-clause-reaches t c =
    reach_alike c.in_ok-found-in-Node.found c.args.bindings.now c.match_node.new.bindings (λ x. list_any (mentions x) c.as_slice.result.now) (λ x. mentions x c.args.pattern.now)
    (λ x. ap (mentions x) (c.in-Node.is ∙ ap (λ ps. NodeP c.in-Node.production ps) (sym c.as_slice.ensures)) ∙ mentions-Node x c.in-Node.production c.as_slice.result.now) c.in_ok-found-in-Node.ensures.reaches

pub match_pattern-returns-in_ok-found-in-Items-clause-reaches : goal.match_pattern-returns-in_ok-found-in-Items-clause-reaches
match_pattern-returns-in_ok-found-in-Items-clause-reaches t c =
    reach_alike c.in_ok-found-in-Items.found c.args.bindings.now c.match_items.new.bindings (λ x. list_any (mentions x) c.as_slice-in-Items.result.now || is_rest x c.in-Items.rest) (λ x. mentions x c.args.pattern.now)
    (λ x. ap (mentions x) (c.in-Items.is ∙ ap (λ ps. ItemsP c.in-Items.production ps c.in-Items.rest) (sym c.as_slice-in-Items.ensures)) ∙ mentions-Items x c.in-Items.production c.as_slice-in-Items.result.now c.in-Items.rest) c.in_ok-found-in-Items.ensures.reaches

pub match_pattern-returns-in_ok-found-in-Seq-clause-reaches : goal.match_pattern-returns-in_ok-found-in-Seq-clause-reaches
match_pattern-returns-in_ok-found-in-Seq-clause-reaches t c =
    reach_alike c.in_ok-found-in-Seq.found c.args.bindings.now c.match_sequence.new.bindings (λ x. list_any (mentions x) c.as_slice-in-Seq.result.now || is_rest x c.in-Seq.rest) (λ x. mentions x c.args.pattern.now)
    (λ x. ap (mentions x) (c.in-Seq.is ∙ ap (λ ps. SeqP ps c.in-Seq.rest) (sym c.as_slice-in-Seq.ensures)) ∙ mentions-Seq x c.as_slice-in-Seq.result.now c.in-Seq.rest) c.in_ok-found-in-Seq.ensures.reaches

pub match_pattern-returns-in_ok-found-in-Freezer-clause-reaches : goal.match_pattern-returns-in_ok-found-in-Freezer-clause-reaches
match_pattern-returns-in_ok-found-in-Freezer-clause-reaches t c =
    reach_alike c.in_ok-found-in-Freezer.found c.args.bindings.now c.match_freezer.new.bindings (λ x. list_any (mentions x) c.as_slice-in-Freezer.result.now) (λ x. mentions x c.args.pattern.now)
    (λ x. ap (mentions x) (c.in-Freezer.is ∙ ap (λ ps. FreezerP c.in-Freezer.production c.in-Freezer.place ps) (sym c.as_slice-in-Freezer.ensures)) ∙ mentions-Freezer x c.in-Freezer.production c.in-Freezer.place c.as_slice-in-Freezer.result.now) c.in_ok-found-in-Freezer.ensures.reaches

pub match_pattern-returns-in-Lit-clause-reaches : goal.match_pattern-returns-in-Lit-clause-reaches
match_pattern-returns-in-Lit-clause-reaches t c =
    reach_none c.equal-found.result c.args.bindings.now (λ x. mentions x c.args.pattern.now)
    (λ x. ap (mentions x) c.in-Lit.is ∙ mentions-Lit x c.in-Lit.literal)
