use Rattle.std.proofs.Common.{◌∙◌, ap}
use Rattle.k_terms.specs.Value.{depth_of}
use Rattle.k_terms.specs.Parts.{greatest_depth, greatest_entry_depth}
use Rattle.k_terms.proofs.Layers.{depth_of-Node, depth_of-Items, depth_of-Seq, depth_of-Map, depth_of-List, depth_of-Freezer, capped, capped_leaf, capped_deeper, capped_more, capped_entry_more}
use Rattle.k_terms.proofs.depths.+measuring.Goals as goal

pub depth-returns-in-Node : goal.depth-returns-in-Node
depth-returns-in-Node t c =
    capped_deeper _ _ _ _ (ap depth_of c.in-Node.is ∙ depth_of-Node _ _) (c.depth_of_parts.ensures ∙ ap (λ xs. capped (greatest_depth xs)) c.as_slice.ensures) c.saturating_add.ensures

pub depth-returns-in-Items : goal.depth-returns-in-Items
depth-returns-in-Items t c =
    capped_deeper _ _ _ _ (ap depth_of c.in-Items.is ∙ depth_of-Items _ _) (c.depth_of_parts-in-Items.ensures ∙ ap (λ xs. capped (greatest_depth xs)) c.as_slice-in-Items.ensures) c.saturating_add-in-Items.ensures

pub depth-returns-in-Seq : goal.depth-returns-in-Seq
depth-returns-in-Seq t c =
    capped_deeper _ _ _ _ (ap depth_of c.in-Seq.is ∙ depth_of-Seq _) (c.depth_of_parts-in-Seq.ensures ∙ ap (λ xs. capped (greatest_depth xs)) c.as_slice-in-Seq.ensures) c.saturating_add-in-Seq.ensures

pub depth-returns-in-Map : goal.depth-returns-in-Map
depth-returns-in-Map t c =
    capped_deeper _ _ _ _ (ap depth_of c.in-Map.is ∙ depth_of-Map _) (c.depth_of_entries.ensures ∙ ap (λ xs. capped (greatest_entry_depth xs)) c.as_slice-in-Map.ensures) c.saturating_add-in-Map.ensures

pub depth-returns-in-List : goal.depth-returns-in-List
depth-returns-in-List t c =
    capped_deeper _ _ _ _ (ap depth_of c.in-List.is ∙ depth_of-List _) (c.depth_of_parts-in-List.ensures ∙ ap (λ xs. capped (greatest_depth xs)) c.as_slice-in-List.ensures) c.saturating_add-in-List.ensures

pub depth-returns-in-Freezer : goal.depth-returns-in-Freezer
depth-returns-in-Freezer t c =
    capped_deeper _ _ _ _ (ap depth_of c.in-Freezer.is ∙ depth_of-Freezer _ _ _) (c.depth_of_parts-in-Freezer.ensures ∙ ap (λ xs. capped (greatest_depth xs)) c.as_slice-in-Freezer.ensures) c.saturating_add-in-Freezer.ensures

pub depth-returns-in-Int : goal.depth-returns-in-Int
depth-returns-in-Int t c = capped_leaf _ c.in-Int.is

pub depth-returns-in-Int-2 : goal.depth-returns-in-Int-2
depth-returns-in-Int-2 t c = capped_leaf _ c.in-Int.is

pub depth-returns-in-Int-3 : goal.depth-returns-in-Int-3
depth-returns-in-Int-3 t c = capped_leaf _ c.in-Int.is

pub depth-returns-in-Int-4 : goal.depth-returns-in-Int-4
depth-returns-in-Int-4 t c = capped_leaf _ c.in-Int.is

pub depth_of_entries-loop-key-preserved : goal.depth_of_entries-loop-key-preserved
depth_of_entries-loop-key-preserved t c = capped_entry_more _ _ _ _ _ _ _ _ c.loop-key-test.true c.loop-key-item.is c.loop-key.invariant c.depth.ensures c.depth-in-loop-key.ensures c.max.ensures c.max-greatest.ensures

pub depth_of_parts-loop-part-preserved : goal.depth_of_parts-loop-part-preserved
depth_of_parts-loop-part-preserved t c = capped_more _ _ _ _ _ _ c.loop-part-test.true c.part-item.is c.loop-part.invariant c.depth.ensures c.max-greatest.ensures
