use Rattle.std.proofs.Common.{rules, arith, ◌≡◌, ℕ, ◌+◌, ◌<◌, ◌↔◌, Bool, true, false, ◌++◌, List, [], ◌∷◌, length, replicate, get_or, sym, subst, ap, ◌∙◌, refl}
use Rattle.std.proofs.lemmas.List.{get_or_read}
use Rattle.import_order.specs.Imports.{Has, imports_of, Reaches}
use Rattle.import_order.specs.Reaching.{IsAdded, IsReaching, unseen, is_seen}
use Rattle.import_order.proofs.Members.{has_last}
use Rattle.import_order.proofs.Searching.{reaching_none, reaching_more, reaching_fewer, written}
use Rattle.sorted_grammar.proofs.Reachings.{seen_reaches}
use Rattle.sorted_grammar.proofs.reaching.reached.Goals as goal

-- the work with what was taken from it
taken : (graph : List (List ℕ)) (start : ℕ) (seen : List Bool) (work rest : List ℕ) (next : ℕ) → work ≡ rest ++ next ∷ [] → IsReaching graph start seen work → IsReaching graph start seen (rest ++ next ∷ [])
taken graph start seen work rest next is r = subst (IsReaching graph start seen) is r

read_imports : (graph : List (List ℕ)) (next : ℕ) (read imports : List ℕ) → next < length graph → read ≡ get_or graph next read → imports ≡ read → imports ≡ imports_of graph next
read_imports graph next read imports within is same = same ∙ get_or_read graph next read within is []

pub loop-next-init : goal.loop-next-init
loop-next-init c =
    let graph = c.args.graph.now in
    let seen = c.in_ok-seen.ensures.items_if_clones_equal (λ y e. e) in
    let work : c.push.new.self.items ≡ c.args.start ∷ [] = c.in_ok-push.ensures.items ∙ ap (λ l. l ++ c.args.start ∷ []) c.new-work.ensures.items in
    subst (λ s. IsReaching graph c.args.start s c.push.new.self.items) (sym seen)
    (subst (IsReaching graph c.args.start (replicate (length graph) false)) (sym work) (reaching_none graph c.args.start (length graph) refl c.requires.start))

pub offset_bounds-graph-next : goal.offset_bounds-graph-next
offset_bounds-graph-next c =
    let r = taken c.args.graph.now c.args.start c.loop-next.seen.items c.loop-next.work.items c.pop.new.self.items c.in-Some.next c.in-Some.ensures.items c.loop-next.invariant in
    let within = r.within c.in-Some.next (has_last c.pop.new.self.items c.in-Some.next) in
    search rules

pub bounds-graph-next : goal.bounds-graph-next
bounds-graph-next c =
    let r = taken c.args.graph.now c.args.start c.loop-next.seen.items c.loop-next.work.items c.pop.new.self.items c.in-Some.next c.in-Some.ensures.items c.loop-next.invariant in
    r.within c.in-Some.next (has_last c.pop.new.self.items c.in-Some.next)

pub add_unseen-requires : goal.add_unseen-requires
add_unseen-requires c = λ m h.
    let graph = c.args.graph.now in
    let r = taken graph c.args.start c.loop-next.seen.items c.loop-next.work.items c.pop.new.self.items c.in-Some.next c.in-Some.ensures.items c.loop-next.invariant in
    let inside = r.within c.in-Some.next (has_last c.pop.new.self.items c.in-Some.next) in
    let is = read_imports graph c.in-Some.next c.index-graph-next.result c.as_slice.result.now inside c.index-graph-next.is c.as_slice.ensures in
    let within : m < length graph = c.requires.within c.in-Some.next m (subst (λ l. Has l m) is h) in
    let same : length c.deref_mut.result.now ≡ length c.loop-next.seen.items = ap length c.deref_mut.ensures.value in
    omega (arith, within, same, r.long)

pub loop-next-preserved : goal.loop-next-preserved
loop-next-preserved c =
    let graph = c.args.graph.now in
    let start = c.args.start in
    let seen = c.loop-next.seen.items in
    let rest = c.pop.new.self.items in
    let now = c.add_unseen.new.seen in
    let later = c.add_unseen.new.work.items in
    let next = c.in-Some.next in
    let r = taken graph start seen c.loop-next.work.items rest next c.in-Some.ensures.items c.loop-next.invariant in
    let inside = r.within next (has_last rest next) in
    let is = read_imports graph next c.index-graph-next.result c.as_slice.result.now inside c.index-graph-next.is c.as_slice.ensures in
    let a = subst (λ s. IsAdded (imports_of graph next) s now rest later) c.deref_mut.ensures.value (subst (λ l. IsAdded l c.deref_mut.result.now now rest later) is c.in_ok-add_unseen.ensures) in
    subst (λ s. IsReaching graph start s later) (sym (written seen now c.loop-next.seen.len c.loop-next.seen.ok.0 a.long)) (reaching_more graph start seen now rest later next r c.requires.within a)

pub loop-next-smaller : goal.loop-next-smaller
loop-next-smaller c =
    let graph = c.args.graph.now in
    let start = c.args.start in
    let seen = c.loop-next.seen.items in
    let rest = c.pop.new.self.items in
    let now = c.add_unseen.new.seen in
    let later = c.add_unseen.new.work.items in
    let next = c.in-Some.next in
    let r = taken graph start seen c.loop-next.work.items rest next c.in-Some.ensures.items c.loop-next.invariant in
    let inside = r.within next (has_last rest next) in
    let is = read_imports graph next c.index-graph-next.result c.as_slice.result.now inside c.index-graph-next.is c.as_slice.ensures in
    let a = subst (λ s. IsAdded (imports_of graph next) s now rest later) c.deref_mut.ensures.value (subst (λ l. IsAdded l c.deref_mut.result.now now rest later) is c.in_ok-add_unseen.ensures) in
    subst (λ s. unseen s + length later < unseen seen + length c.loop-next.work.items) (sym (written seen now c.loop-next.seen.len c.loop-next.seen.ok.0 a.long))
    (subst (λ w. unseen now + length later < unseen seen + length w) (sym c.in-Some.ensures.items) (reaching_fewer graph start seen now rest later next r c.requires.within a))

pub returns : goal.returns
returns c =
    let graph = c.args.graph.now in
    let start = c.args.start in
    let seen = c.loop-next.seen.items in
    let empty : c.loop-next.work.items ≡ [] = search rules in
    let r = subst (IsReaching graph start seen) empty c.loop-next.invariant in
    λ to. subst (λ row. (is_seen row to ≡ true) ↔ Reaches graph start to) (sym c.from_vec.ensures) (seen_reaches graph start seen r to)
