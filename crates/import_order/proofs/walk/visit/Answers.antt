use Rattle.std.proofs.Common.{⊎_elim, inl, rules, refl, sym, ap, subst, ◌∙◌, ◌≡◌, ◌+◌, ◌<◌, ◌++◌, [], ◌∷◌, reverse}
use Rattle.std.proofs.lemmas.List.{get_or_read}
use Rattle.import_order.specs.declared.walk.Mark.TheVariants.{Unseen}
use Rattle.import_order.specs.declared.walk.Frame.{Frame}
use Rattle.import_order.specs.Imports.{Has}
use Rattle.import_order.specs.Walking.{open_in, IsWalking, LeadsTo, mark_of, worth_of, steps_of, steps_left}
use Rattle.import_order.proofs.Walks.{reached_next, cycle_from, seen_visited, root_walking, root_inside, end_visited, walk_of, popped}
use Rattle.import_order.proofs.walk.visit.Goals as goal

pub loop-top-init : goal.loop-top-init
loop-top-init c =
    let graph = c.args.graph.now in
    let marks = c.args.walk.now.marks.items in
    let order = c.args.walk.now.order.items in
    let w = subst (λ f. IsWalking graph marks (reverse f) order) c.requires.frames c.requires.walking in
    let unseen : mark_of marks c.args.root ≡ Unseen =
    sym (get_or_read marks c.args.root c.index.result.now (root_inside graph marks order c.args.root w c.requires.root) c.index.ensures Unseen) ∙ c.in-Unseen.is in
    let first : Frame = record { importer = c.args.root; next = 0 } in
    let opened = c.in_ok-open_frame.ensures in
    let frames : reverse c.open_frame.new.walk.frames.items ≡ first ∷ [] = ap reverse (opened.frames ∙ ap (λ f. f ++ first ∷ []) c.requires.frames) in
    record {
      walking = walk_of graph c.open_frame.new.walk _ _ order opened.marks frames opened.order (root_walking graph marks order c.args.root w c.requires.root unseen);
      leads = λ last on. subst (λ o. LeadsTo graph (first ∷ []) o last) opened.order (subst (λ f. LeadsTo graph f c.open_frame.new.walk.order.items last) frames on);
      reached = λ x h. ⊎_elim (λ (e : c.args.root ≡ x). inl (sym e)) (λ (absent : ⊥). absurd absent) (subst (λ f. Has (open_in f) x) frames h);
    }

pub step-requires-clause-walking : goal.step-requires-clause-walking
step-requires-clause-walking c =
    subst (λ f. IsWalking c.args.graph.now c.loop-top.walk.marks.items f c.loop-top.walk.order.items)
    (popped c.loop-top.walk.frames.items c.pop.new.self.items c.in-Some.top c.in-Some.ensures.items)
    c.loop-top.invariant.walking

pub loop-top-preserved : goal.loop-top-preserved
loop-top-preserved c =
    let next = c.in_ok-step.ensures.step c.if-not-branch.false in
    let frames = popped c.loop-top.walk.frames.items c.pop.new.self.items c.in-Some.top c.in-Some.ensures.items in
    record {
      walking = next.walking;
      leads = λ last on. c.loop-top.invariant.leads last (subst (λ f. LeadsTo c.args.graph.now f c.loop-top.walk.order.items last) (sym frames) (next.leads last on));
      reached = λ x h.
          reached_next c.args.graph.now c.args.root (open_in (c.in-Some.top ∷ reverse c.pop.new.self.items)) x
          (λ y has. c.loop-top.invariant.reached y (subst (λ f. Has (open_in f) y) (sym frames) has)) (next.opened x h);
    }

pub loop-top-smaller : goal.loop-top-smaller
loop-top-smaller c =
    let next = c.in_ok-step.ensures.step c.if-not-branch.false in
    let frames = popped c.loop-top.walk.frames.items c.pop.new.self.items c.in-Some.top c.in-Some.ensures.items in
    subst (λ f. steps_left c.args.graph.now c.step.new.walk < worth_of c.args.graph.now c.loop-top.walk.marks.items + steps_of c.args.graph.now f) (sym frames) next.fewer

pub returns-in_default-clause-visited : goal.returns-in_default-clause-visited
returns-in_default-clause-visited c = λ _.
    let graph = c.args.graph.now in
    let marks = c.args.walk.now.marks.items in
    let order = c.args.walk.now.order.items in
    let w = subst (λ f. IsWalking graph marks (reverse f) order) c.requires.frames c.requires.walking in
    let same = get_or_read marks c.args.root c.index.result.now (root_inside graph marks order c.args.root w c.requires.root) c.index.ensures Unseen in
    seen_visited graph marks order c.args.root w c.requires.root (λ unseen. c.in_default.not-Unseen (same ∙ unseen))

pub returns-clause-visited : goal.returns-clause-visited
returns-clause-visited c = λ _.
    let empty : c.loop-top.walk.frames.items ≡ [] = search rules in
    let order = c.loop-top.walk.order.items in
    end_visited c.args.graph.now c.args.root c.args.walk.now.order.items order
    (c.loop-top.invariant.leads order (subst (λ f. LeadsTo c.args.graph.now (reverse f) order order) (sym empty) refl))

pub returns-then-not-branch-clause-cycle : goal.returns-then-not-branch-clause-cycle
returns-then-not-branch-clause-cycle c = λ _.
    let frames = popped c.loop-top.walk.frames.items c.pop.new.self.items c.in-Some.top c.in-Some.ensures.items in
    cycle_from c.args.graph.now c.args.root (open_in (c.in-Some.top ∷ reverse c.pop.new.self.items))
    (λ y has. c.loop-top.invariant.reached y (subst (λ f. Has (open_in f) y) (sym frames) has))
    (c.in_ok-step.ensures.cycle c.if-not-branch.true)
