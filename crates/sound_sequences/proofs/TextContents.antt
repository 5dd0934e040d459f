-- The contents of a body are those of its cells, in the order of the text.
use Rattle.std.proofs.Common.{◌≡◌, ℕ, ◌+◌, ◌≤◌, Bool, true, false, List, [], ◌∷◌, ◌++◌, length, append-nil, Option, Some, refl, sym, ap, subst, ◌∙◌, arith, length-append}
use Rattle.std.proofs.lemmas.Grind.{flat_map-append}
use Rattle.std.specs.Prelude.{codes}
use Rattle.std.specs.List.{flat_map}
use Rattle.rule_tokens.specs.declared.token.RuleKind.TheVariants as kind
use Rattle.rule_cells.specs.Marks.{terminal_mark, kind_mark}
use Rattle.rule_cells.specs.declared.form.Inside.{Inside, Cells as CellsInside, Content as ContentInside}
use Rattle.rule_cells.specs.Written.{Item, Items, Side, dots, past_dots, signs_of_item, signs_of_items, signs_of_side, item_at, items_at, side_at}
use Rattle.rule_cells.specs.Written.Item.{EmptyBag, Point, Rewritten, OfCells, OfContent}
use Rattle.rule_cells.specs.Written.Items.{Nothing, And}
use Rattle.rule_cells.specs.Written.Side.{Same, Changed}
use Rattle.rule_parts.specs.declared.parts.Side.{Side as Stands}
use Rattle.rule_parts.specs.Parts.{left_of, right_of}
use Rattle.rule_reader.specs.declared.contents.Content.{Content}
use Rattle.rule_reader.specs.Contents.{is_new, contents_in, side_contents}
use Rattle.rule_reader.proofs.Layers.{side-Same, side-Change, inside-Cells, inside-Content, item-Cell, item-Change, item-Nothing}
use Rattle.draft_laws.proofs.WrittenCells.{TextCell, of_cells_at, of_content_at, item_cells, items_cells, side_cells}

-- the content of a cell, where it has one
abbrev pub content_by : Stands → ℕ → Inside → List Content
content_by on cell (CellsInside side) = []
content_by on cell (ContentInside first past) = record { cell = cell; is_new = is_new on; first = first; past = past } ∷ []

abbrev pub content_in : TextCell → List Content
content_in one = content_by one.on one.held.cell one.held.inside

-- Contents stand one behind the other, from one token up to another, with a token between two of them.
abbrev pub Rise : ℕ → ℕ → List Content → Type 0
Rise from past [] = from ≤ past
Rise from past (content ∷ contents) = (from ≤ content.first) × (content.first ≤ content.past) × Rise (content.past + 1) past contents

pub rise_earlier : (less from past : ℕ) (contents : List Content) → less ≤ from → Rise from past contents → Rise less past contents
rise_earlier less from past [] before rise = omega (arith, before, rise)
rise_earlier less from past (content ∷ contents) before rise = let low = rise.0 in (omega (arith, before, low), rise.1, rise.2)

pub rise_later : (from past more : ℕ) (contents : List Content) → past ≤ more → Rise from past contents → Rise from more contents
rise_later from past more [] after rise = omega (arith, after, rise)
rise_later from past more (content ∷ contents) after rise = (rise.0, rise.1, rise_later (content.past + 1) past more contents after rise.2)

rise_joined : (from middle past : ℕ) (xs ys : List Content) → Rise from middle xs → Rise middle past ys → Rise from past (xs ++ ys)
rise_joined from middle past [] ys one other = rise_earlier from middle past ys one other
rise_joined from middle past (content ∷ xs) ys one other = (one.0, one.1, rise_joined (content.past + 1) middle past xs ys one.2 other)

-- ---- lengths

dots_size : (at : ℕ) (left : Bool) → at + length (dots left) ≡ past_dots left at
dots_size at false = omega arith
dots_size at true = omega arith

in_tags : {M : Type 0} (opening closing : M) (a b c : List M) → length ((opening ∷ (a ++ b ++ c)) ++ closing ∷ []) ≡ length a + length b + length c + 2
in_tags opening closing a b c =
    let whole = length-append (opening ∷ (a ++ b ++ c)) (closing ∷ []) in
    let inner = length-append (a ++ b) c in
    let front = length-append a b in
    omega (arith, whole, inner, front)

in_change : {M : Type 0} (arrow : M) (a b : List M) → length (a ++ arrow ∷ b) ≡ length a + 1 + length b
in_change arrow a b = let whole = length-append a (arrow ∷ b) in omega (arith, whole)

in_brackets : {M : Type 0} (opening arrow closing : M) (a b : List M) → length ((opening ∷ (a ++ arrow ∷ b)) ++ closing ∷ []) ≡ length a + length b + 3
in_brackets opening arrow closing a b =
    let whole = length-append (opening ∷ (a ++ arrow ∷ b)) (closing ∷ []) in
    let inner = in_change arrow a b in
    omega (arith, whole, inner)

size-Rewritten : (left right : Items) → length (signs_of_item (Rewritten left right)) ≡ length (signs_of_items left) + length (signs_of_items right) + 3
unfolding signs_of_item
size-Rewritten left right = in_brackets (terminal_mark (codes "(")) (kind_mark kind.Rewrite) (terminal_mark (codes ")")) (signs_of_items left) (signs_of_items right)

size-OfCells : (cell : ℕ) (left : Bool) (side : Side) (right : Bool)
    → length (signs_of_item (OfCells cell left side right)) ≡ length (dots left) + length (signs_of_side side) + length (dots right) + 2
unfolding signs_of_item
size-OfCells cell left side right = in_tags (kind_mark (kind.Open cell)) (kind_mark (kind.Close cell)) (dots left) (signs_of_side side) (dots right)

size-OfContent : (cell : ℕ) (left : Bool) (content : _) (right : Bool)
    → length (signs_of_item (OfContent cell left content right)) ≡ length (dots left) + length content + length (dots right) + 2
unfolding signs_of_item
size-OfContent cell left content right = in_tags (kind_mark (kind.Open cell)) (kind_mark (kind.Close cell)) (dots left) content (dots right)

size-And : (items : Items) (item : Item) → length (signs_of_items (And items item)) ≡ length (signs_of_items items) + length (signs_of_item item)
unfolding signs_of_items
size-And items item = length-append (signs_of_items items) (signs_of_item item)

size-Changed : (left right : Items) → length (signs_of_side (Changed left right)) ≡ length (signs_of_items left) + 1 + length (signs_of_items right)
unfolding signs_of_side
size-Changed left right = in_change (kind_mark kind.Rewrite) (signs_of_items left) (signs_of_items right)

size-Same : (items : Items) → length (signs_of_side (Same items)) ≡ length (signs_of_items items)
unfolding signs_of_side
size-Same items = refl

-- ---- contents

module _ (f : ℕ → ℕ) where
  two_contents : (one other : List Content) (xs ys : List TextCell) → one ≡ flat_map content_in xs → other ≡ flat_map content_in ys
      → one ++ other ≡ flat_map content_in (xs ++ ys)
  two_contents one other xs ys same also = (λ i. same i ++ also i) ∙ sym (flat_map-append content_in xs ys)

  mutual
    unfolding item_cells items_cells side_cells item_at items_at side_at

    item_contents : (on : Stands) (above : Option ℕ) (at : ℕ) (item : Item) → contents_in on (item_at at item) ≡ flat_map content_in (item_cells f on above at item)
    item_contents on above at EmptyBag = item-Nothing on at
    item_contents on above at Point = item-Nothing on at
    item_contents on above at (Rewritten left right) =
        item-Change on at (items_at (at + 1) left) (items_at (at + 1 + length (signs_of_items left) + 1) right)
        ∙ two_contents _ _ (items_cells f (left_of on) above (at + 1) left) (items_cells f (right_of on) above (at + 1 + length (signs_of_items left) + 1) right)
        (items_contents (left_of on) above (at + 1) left) (items_contents (right_of on) above (at + 1 + length (signs_of_items left) + 1) right)
    item_contents on above at (OfCells cell left side right) =
        item-Cell on (of_cells_at at cell left side right) ∙ inside-Cells on cell (side_at (past_dots left (at + 1)) side)
        ∙ side_contents_are on (Some (f at)) (past_dots left (at + 1)) side
    item_contents on above at (OfContent cell left content right) =
        item-Cell on (of_content_at at cell left (length content) right) ∙ inside-Content on cell (past_dots left (at + 1)) (past_dots left (at + 1) + length content)

    items_contents : (on : Stands) (above : Option ℕ) (at : ℕ) (items : Items)
        → flat_map (contents_in on) (items_at at items) ≡ flat_map content_in (items_cells f on above at items)
    items_contents on above at Nothing = refl
    items_contents on above at (And items item) =
        let last = item_at (at + length (signs_of_items items)) item in
        flat_map-append (contents_in on) (items_at at items) (last ∷ [])
        ∙ ap (λ (found : List Content). flat_map (contents_in on) (items_at at items) ++ found) (append-nil (contents_in on last))
        ∙ two_contents _ _ (items_cells f on above at items) (item_cells f on above (at + length (signs_of_items items)) item)
        (items_contents on above at items) (item_contents on above (at + length (signs_of_items items)) item)

    pub side_contents_are : (on : Stands) (above : Option ℕ) (at : ℕ) (side : Side)
        → side_contents on (side_at at side) ≡ flat_map content_in (side_cells f on above at side)
    side_contents_are on above at (Same items) = side-Same on (items_at at items) ∙ items_contents on above at items
    side_contents_are on above at (Changed left right) =
        side-Change on (items_at at left) (items_at (at + length (signs_of_items left) + 1) right)
        ∙ two_contents _ _ (items_cells f (left_of on) above at left) (items_cells f (right_of on) above (at + length (signs_of_items left) + 1) right)
        (items_contents (left_of on) above at left) (items_contents (right_of on) above (at + length (signs_of_items left) + 1) right)

  -- ---- they rise

  two_rise : (from one two past : ℕ) (xs ys : List TextCell) → one ≤ two → Rise from one (flat_map content_in xs) → Rise two past (flat_map content_in ys)
      → Rise from past (flat_map content_in (xs ++ ys))
  two_rise from one two past xs ys order a b =
      subst (Rise from past) (sym (flat_map-append content_in xs ys))
      (rise_joined from one past (flat_map content_in xs) (flat_map content_in ys) a (rise_earlier one two past (flat_map content_in ys) order b))

  mutual
    unfolding item_cells items_cells side_cells

    item_rise : (on : Stands) (above : Option ℕ) (at : ℕ) (item : Item)
        → Rise at (at + length (signs_of_item item)) (flat_map content_in (item_cells f on above at item))
    item_rise on above at EmptyBag = omega arith
    item_rise on above at Point = omega arith
    item_rise on above at (Rewritten left right) =
        let size = size-Rewritten left right in
        let xs = items_cells f (left_of on) above (at + 1) left in
        let ys = items_cells f (right_of on) above (at + 1 + length (signs_of_items left) + 1) right in
        rise_earlier at (at + 1) (at + length (signs_of_item (Rewritten left right))) (flat_map content_in (xs ++ ys)) (omega arith)
        (rise_later (at + 1) (at + 1 + length (signs_of_items left) + 1 + length (signs_of_items right)) (at + length (signs_of_item (Rewritten left right))) (flat_map content_in (xs ++ ys)) (omega (arith, size))
        (two_rise (at + 1) (at + 1 + length (signs_of_items left)) (at + 1 + length (signs_of_items left) + 1) (at + 1 + length (signs_of_items left) + 1 + length (signs_of_items right)) xs ys (omega arith)
        (items_rise (left_of on) above (at + 1) left) (items_rise (right_of on) above (at + 1 + length (signs_of_items left) + 1) right)))
    item_rise on above at (OfCells cell left side right) =
        let size = size-OfCells cell left side right in
        let place = dots_size (at + 1) left in
        let inner = side_cells f on (Some (f at)) (past_dots left (at + 1)) side in
        rise_earlier at (past_dots left (at + 1)) (at + length (signs_of_item (OfCells cell left side right))) (flat_map content_in inner) (omega (arith, place))
        (rise_later (past_dots left (at + 1)) (past_dots left (at + 1) + length (signs_of_side side)) (at + length (signs_of_item (OfCells cell left side right))) (flat_map content_in inner) (omega (arith, place, size))
        (side_rise on (Some (f at)) (past_dots left (at + 1)) side))
    item_rise on above at (OfContent cell left content right) =
        let size = size-OfContent cell left content right in
        let place = dots_size (at + 1) left in
        (omega (arith, place), omega arith, omega (arith, place, size))

    items_rise : (on : Stands) (above : Option ℕ) (at : ℕ) (items : Items)
        → Rise at (at + length (signs_of_items items)) (flat_map content_in (items_cells f on above at items))
    items_rise on above at Nothing = omega arith
    items_rise on above at (And items item) =
        let size = size-And items item in
        let xs = items_cells f on above at items in
        let ys = item_cells f on above (at + length (signs_of_items items)) item in
        rise_later at (at + length (signs_of_items items) + length (signs_of_item item)) (at + length (signs_of_items (And items item))) (flat_map content_in (xs ++ ys)) (omega (arith, size))
        (two_rise at (at + length (signs_of_items items)) (at + length (signs_of_items items)) (at + length (signs_of_items items) + length (signs_of_item item)) xs ys (omega arith)
        (items_rise on above at items) (item_rise on above (at + length (signs_of_items items)) item))

    pub side_rise : (on : Stands) (above : Option ℕ) (at : ℕ) (side : Side)
        → Rise at (at + length (signs_of_side side)) (flat_map content_in (side_cells f on above at side))
    side_rise on above at (Same items) = subst (λ (n : ℕ). Rise at (at + n) (flat_map content_in (items_cells f on above at items))) (sym (size-Same items)) (items_rise on above at items)
    side_rise on above at (Changed left right) =
        let size = size-Changed left right in
        let xs = items_cells f (left_of on) above at left in
        let ys = items_cells f (right_of on) above (at + length (signs_of_items left) + 1) right in
        rise_later at (at + length (signs_of_items left) + 1 + length (signs_of_items right)) (at + length (signs_of_side (Changed left right))) (flat_map content_in (xs ++ ys)) (omega (arith, size))
        (two_rise at (at + length (signs_of_items left)) (at + length (signs_of_items left) + 1) (at + length (signs_of_items left) + 1 + length (signs_of_items right)) xs ys (omega arith)
        (items_rise (left_of on) above at left) (items_rise (right_of on) above (at + length (signs_of_items left) + 1) right))
