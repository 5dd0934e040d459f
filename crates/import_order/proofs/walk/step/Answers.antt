use Rattle.std.proofs.Common.{arith, inl, refl, sym, ap, subst, ◌∙◌, ◌≡◌, ℕ, ◌<◌, ◌≤◌, List, [], ◌∷◌, ◌++◌, reverse, length, get_or}
use Rattle.std.proofs.lemmas.List.{get_or_read}
use Rattle.import_order.specs.declared.walk.Mark.{Mark}
use Rattle.import_order.specs.declared.walk.Mark.TheVariants.{Unseen, Open, Done}
use Rattle.import_order.specs.declared.walk.Frame.{Frame}
use Rattle.import_order.specs.Imports.{imports_of, AreWithin}
use Rattle.import_order.specs.Walking.{IsWalking, mark_of}
use Rattle.import_order.proofs.Walks.{close_step, done_step, open_step, open_cycle, looked_inside}
use Rattle.import_order.proofs.walk.step.Goals as goal

module _ (graph : List (List ℕ)) (marks : List Mark) (top : Frame) (below : List Frame) (order imports : List ℕ) (w : IsWalking graph marks (top ∷ below) order) where
  -- the list that was read is that of the module's imports
  read_imports : (read : List ℕ) → read ≡ get_or graph top.importer read → imports ≡ read → imports ≡ imports_of graph top.importer
  read_imports read is same = same ∙ get_or_read graph top.importer read (w.within top.importer (inl refl)) is []

  module _ (is : imports ≡ imports_of graph top.importer) where
    read_over : length imports ≤ top.next → length (imports_of graph top.importer) ≤ top.next
    read_over over = subst (λ l. length l ≤ top.next) is over

    read_more : top.next < length imports → top.next < length (imports_of graph top.importer)
    read_more more = subst (λ l. top.next < length l) is more

    read_import : (x : ℕ) → x ≡ get_or imports top.next 0 → x ≡ get_or (imports_of graph top.importer) top.next 0
    read_import x looked = looked ∙ ap (λ l. get_or l top.next 0) is

    read_inside : (x : ℕ) → AreWithin graph → top.next < length imports → x ≡ get_or imports top.next 0 → x < length marks
    read_inside x within more looked = subst (λ y. y < length marks) (sym (read_import x looked)) (looked_inside graph marks top below order w (read_more more) within)

    read_mark : (x : ℕ) (read mark : Mark) → x < length marks → read ≡ get_or marks x read → read ≡ mark → mark_of marks x ≡ mark
    read_mark x read mark inside same told = sym (get_or_read marks x read inside same Unseen) ∙ told

pub returns-in_default-clause-step : goal.returns-in_default-clause-step
returns-in_default-clause-step c = λ _.
    let graph = c.args.graph.now in
    let marks = c.args.walk.now.marks.items in
    let order = c.args.walk.now.order.items in
    let frames = c.args.walk.now.frames.items in
    let imports = c.as_slice-imports.result.now in
    let w = c.requires.walking in
    let is = read_imports graph marks c.args.top (reverse frames) order imports w c.index-graph-top.result c.index-graph-top.is c.as_slice-imports.ensures in
    let left = c.in_ok-close_frame.ensures in
    close_step graph marks c.args.top frames order w c.close_frame.new.walk (read_over graph marks c.args.top (reverse frames) order imports w is c.in_default.ensures.lookup.3) left.marks left.frames left.order

pub index-requires : goal.index-requires
index-requires c =
    let graph = c.args.graph.now in
    let marks = c.args.walk.now.marks.items in
    let order = c.args.walk.now.order.items in
    let below = reverse c.args.walk.now.frames.items in
    let imports = c.as_slice-imports.result.now in
    let w = c.requires.walking in
    let is = read_imports graph marks c.args.top below order imports w c.index-graph-top.result c.index-graph-top.is c.as_slice-imports.ensures in
    let looked = c.in-Some.ensures.lookup.3 in
    let inside = read_inside graph marks c.args.top below order imports w is c.in-Some.import.now c.requires.within looked.0 (looked.1 0) in
    omega (arith, inside, c.args.walk.now.marks.ok.0)

pub open_frame-requires : goal.open_frame-requires
open_frame-requires c =
    let graph = c.args.graph.now in
    let marks = c.args.walk.now.marks.items in
    let order = c.args.walk.now.order.items in
    let below = reverse c.args.walk.now.frames.items in
    let imports = c.as_slice-imports.result.now in
    let w = c.requires.walking in
    let is = read_imports graph marks c.args.top below order imports w c.index-graph-top.result c.index-graph-top.is c.as_slice-imports.ensures in
    let looked = c.in-Some.ensures.lookup.3 in
    read_inside graph marks c.args.top below order imports w is c.in-Some.import.now c.requires.within looked.0 (looked.1 0)

pub returns-in-Done-clause-step : goal.returns-in-Done-clause-step
returns-in-Done-clause-step c = λ _.
    let graph = c.args.graph.now in
    let marks = c.args.walk.now.marks.items in
    let order = c.args.walk.now.order.items in
    let frames = c.args.walk.now.frames.items in
    let below = reverse frames in
    let imports = c.as_slice-imports.result.now in
    let w = c.requires.walking in
    let is = read_imports graph marks c.args.top below order imports w c.index-graph-top.result c.index-graph-top.is c.as_slice-imports.ensures in
    let looked = c.in-Some.ensures.lookup.3 in
    let x = c.in-Some.import.now in
    let inside = read_inside graph marks c.args.top below order imports w is x c.requires.within looked.0 (looked.1 0) in
    let mark = read_mark graph marks c.args.top below order imports w is x c.index.result.now Done inside c.index.ensures c.in-Done.is in
    done_step graph marks c.args.top frames order w (record { marks = c.args.walk.now.marks; frames = c.push.new.self; order = c.args.walk.now.order }) x
    (read_more graph marks c.args.top below order imports w is looked.0)
    (read_import graph marks c.args.top below order imports w is x (looked.1 0))
    mark refl c.in_ok-push.ensures.items refl

pub returns-in-Open-clause-cycle : goal.returns-in-Open-clause-cycle
returns-in-Open-clause-cycle c = λ _.
    let graph = c.args.graph.now in
    let marks = c.args.walk.now.marks.items in
    let order = c.args.walk.now.order.items in
    let below = reverse c.args.walk.now.frames.items in
    let imports = c.as_slice-imports.result.now in
    let w = c.requires.walking in
    let is = read_imports graph marks c.args.top below order imports w c.index-graph-top.result c.index-graph-top.is c.as_slice-imports.ensures in
    let looked = c.in-Some.ensures.lookup.3 in
    let x = c.in-Some.import.now in
    let inside = read_inside graph marks c.args.top below order imports w is x c.requires.within looked.0 (looked.1 0) in
    let mark = read_mark graph marks c.args.top below order imports w is x c.index.result.now Open inside c.index.ensures c.in-Open.is in
    open_cycle graph marks c.args.top below order w
    (read_more graph marks c.args.top below order imports w is looked.0)
    (subst (λ y. mark_of marks y ≡ Open) (read_import graph marks c.args.top below order imports w is x (looked.1 0)) mark)

pub returns-in_ok-open_frame-in-Unseen-clause-step :
    goal.returns-in_ok-open_frame-in-Unseen-clause-step
returns-in_ok-open_frame-in-Unseen-clause-step c = λ _.
    let graph = c.args.graph.now in
    let marks = c.args.walk.now.marks.items in
    let order = c.args.walk.now.order.items in
    let frames = c.args.walk.now.frames.items in
    let below = reverse frames in
    let imports = c.as_slice-imports.result.now in
    let w = c.requires.walking in
    let is = read_imports graph marks c.args.top below order imports w c.index-graph-top.result c.index-graph-top.is c.as_slice-imports.ensures in
    let looked = c.in-Some.ensures.lookup.3 in
    let x = c.in-Some.import.now in
    let inside = read_inside graph marks c.args.top below order imports w is x c.requires.within looked.0 (looked.1 0) in
    let mark = read_mark graph marks c.args.top below order imports w is x c.index.result.now Unseen inside c.index.ensures c.in-Unseen.is in
    let left = c.in_ok-open_frame-in-Unseen.ensures in
    open_step graph marks c.args.top frames order w c.open_frame.new.walk x c.requires.within
    (read_more graph marks c.args.top below order imports w is looked.0)
    (read_import graph marks c.args.top below order imports w is x (looked.1 0))
    mark left.marks (left.frames ∙ ap (λ l. l ++ record { importer = x; next = 0 } ∷ []) c.in_ok-push.ensures.items) left.order
