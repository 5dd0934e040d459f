-- The contents of the cells of a text stand one behind another.
use Rattle.std.proofs.Common.{◌≡◌, inl, inr, ℕ, ◌+◌, ◌≤◌, Bool, true, false, List, [], ◌∷◌, ◌++◌, length, Option, Some, refl, sym, ap, subst, ◌∙◌, arith, length-append}
use Rattle.std.proofs.lemmas.Grind.{flat_map-append}
use Rattle.std.specs.Prelude.{codes}
use Rattle.std.specs.List.{flat_map}
use Rattle.live_config.proofs.Members.{Has, has_left, has_right}
use Rattle.rule_cells.specs.declared.form.Inside.{Inside, Cells as CellsInside, Content as ContentInside}
use Rattle.rule_tokens.specs.declared.token.RuleKind.TheVariants as kind
use Rattle.rule_cells.specs.Marks.{terminal_mark, kind_mark}
use Rattle.rule_cells.specs.Written.{Item, Items, Side, dots, past_dots, signs_of_item, signs_of_items, signs_of_side}
use Rattle.rule_cells.specs.Written.Item.{EmptyBag, Point, Rewritten, OfCells, OfContent}
use Rattle.rule_cells.specs.Written.Items.{Nothing, And}
use Rattle.rule_cells.specs.Written.Side.{Same, Changed}
use Rattle.rule_parts.specs.declared.parts.Side.{Side as Stands}
use Rattle.rule_parts.specs.Parts.{left_of, right_of}
use Rattle.draft_laws.proofs.WrittenCells.{TextCell, item_cells, items_cells, side_cells}

-- a content: the declared cell that it stands in, the sides that the cell stands on, and its tokens, from one up to another
pub record HeldContent : Type 0 where
  pub cell : ℕ
  pub on : Stands
  pub first : ℕ
  pub past : ℕ

abbrev pub content_inside : ℕ → Stands → Inside → List HeldContent
content_inside cell on (CellsInside side) = []
content_inside cell on (ContentInside first past) = record { cell = cell; on = on; first = first; past = past } ∷ []

abbrev pub held_content : TextCell → List HeldContent
held_content one = content_inside one.held.cell one.on one.held.inside

-- the contents of cells
abbrev pub held_contents : List TextCell → List HeldContent
held_contents cells = flat_map held_content cells

-- a cell with a content has one
pub is_held : (cells : List TextCell) (one : TextCell) (first past : ℕ) → Has cells one → one.held.inside ≡ ContentInside first past
    → Has (held_contents cells) (record { cell = one.held.cell; on = one.on; first = first; past = past })
is_held [] one first past h is = absurd h
is_held (c ∷ cells) one first past (inl e) is =
    has_left (held_content c) (held_contents cells) _
    (subst (λ contents. Has contents (record { cell = one.held.cell; on = one.on; first = first; past = past })) (sym (ap held_content e ∙ ap (content_inside one.held.cell one.on) is)) (inl refl))
is_held (c ∷ cells) one first past (inr h) is = has_right (held_content c) (held_contents cells) _ (is_held cells one first past h is)

-- ---- their places

-- Contents stand one behind another between two places, with a token behind each.
abbrev pub Follow : ℕ → ℕ → List HeldContent → Type 0
Follow from past [] = from ≤ past
Follow from past (content ∷ contents) = (from ≤ content.first) × (content.first ≤ content.past) × Follow (content.past + 1) past contents

pub follow_wider : (less from past more : ℕ) (contents : List HeldContent) → less ≤ from → past ≤ more → Follow from past contents → Follow less more contents
follow_wider less from past more [] low high f = omega (arith, low, high, f)
follow_wider less from past more (c ∷ contents) low high f =
    let before : from ≤ c.first = f.0 in (
      let e : less ≤ c.first = omega (arith, low, before) in e,
      f.1,
      follow_wider (c.past + 1) (c.past + 1) past more contents (let e : c.past + 1 ≤ c.past + 1 = omega arith in e) high f.2,
    )

pub follow_within : (from past : ℕ) (contents : List HeldContent) → Follow from past contents → from ≤ past
follow_within from past [] f = f
follow_within from past (c ∷ contents) f =
    let before : from ≤ c.first = f.0 in
    let own : c.first ≤ c.past = f.1 in
    let rest = follow_within (c.past + 1) past contents f.2 in
    omega (arith, before, own, rest)

follow_append : (from mid past : ℕ) (xs ys : List HeldContent) → Follow from mid xs → Follow mid past ys → Follow from past (xs ++ ys)
follow_append from mid past [] ys one other = follow_wider from mid past past ys one (let e : past ≤ past = omega arith in e) other
follow_append from mid past (c ∷ xs) ys one other = (one.0, one.1, follow_append (c.past + 1) mid past xs ys one.2 other)

-- ---- how many tokens there are

size_of_change : {M : Type 0} (front back : List M) (first between last : M) → length ((first ∷ front ++ between ∷ back) ++ last ∷ []) ≡ length front + length back + 3
size_of_change front back first between last =
    let outer = length-append (first ∷ front ++ between ∷ back) (last ∷ []) in
    let inner = length-append (first ∷ front) (between ∷ back) in
    omega (arith, outer, inner)

size_of_cell : {M : Type 0} (left inside right : List M) (first last : M) → length ((first ∷ left ++ inside ++ right) ++ last ∷ []) ≡ length left + length inside + length right + 2
size_of_cell left inside right first last =
    let outer = length-append (first ∷ left ++ inside ++ right) (last ∷ []) in
    let middle = length-append (first ∷ left ++ inside) right in
    let inner = length-append (first ∷ left) inside in
    omega (arith, outer, middle, inner)

size_between : {M : Type 0} (front back : List M) (between : M) → length (front ++ between ∷ back) ≡ length front + length back + 1
size_between front back between = let sum = length-append front (between ∷ back) in omega (arith, sum)

size_of_dots : (left : Bool) (at : ℕ) → past_dots left at ≡ at + length (dots left)
size_of_dots true at = omega arith
size_of_dots false at = omega arith

module _ (f : ℕ → ℕ) where
  two_follow : (from mid past : ℕ) (xs ys : List TextCell) → Follow from mid (held_contents xs) → Follow mid past (held_contents ys) → Follow from past (held_contents (xs ++ ys))
  two_follow from mid past xs ys one other =
      subst (Follow from past) (sym (flat_map-append held_content xs ys)) (follow_append from mid past (held_contents xs) (held_contents ys) one other)

  mutual
    unfolding item_cells items_cells side_cells signs_of_item signs_of_items signs_of_side

    item_follow : (on : Stands) (above : Option ℕ) (at : ℕ) (item : Item) → Follow at (at + length (signs_of_item item)) (held_contents (item_cells f on above at item))
    item_follow on above at EmptyBag = omega arith
    item_follow on above at Point = omega arith
    item_follow on above at (Rewritten left right) =
        let size : length (signs_of_item (Rewritten left right)) ≡ length (signs_of_items left) + length (signs_of_items right) + 3 =
        size_of_change (signs_of_items left) (signs_of_items right) (terminal_mark (codes "(")) (kind_mark kind.Rewrite) (terminal_mark (codes ")")) in
        let mid = at + 1 + length (signs_of_items left) in
        let past = mid + 1 + length (signs_of_items right) in
        let fronts = items_cells f (left_of on) above (at + 1) left in
        let backs = items_cells f (right_of on) above (mid + 1) right in
        let back = follow_wider mid (mid + 1) past past (held_contents backs) (let e : mid ≤ mid + 1 = omega arith in e) (let e : past ≤ past = omega arith in e)
        (items_follow (right_of on) above (mid + 1) right) in
        follow_wider at (at + 1) past (at + length (signs_of_item (Rewritten left right))) (held_contents (fronts ++ backs)) (let e : at ≤ at + 1 = omega arith in e)
        (let e : past ≤ at + length (signs_of_item (Rewritten left right)) = omega (arith, size) in e)
        (two_follow (at + 1) mid past fronts backs (items_follow (left_of on) above (at + 1) left) back)
    item_follow on above at (OfCells cell left side right) =
        let size : length (signs_of_item (OfCells cell left side right)) ≡ length (dots left) + length (signs_of_side side) + length (dots right) + 2 =
        size_of_cell (dots left) (signs_of_side side) (dots right) (kind_mark (kind.Open cell)) (kind_mark (kind.Close cell)) in
        let start = size_of_dots left (at + 1) in
        let first = past_dots left (at + 1) in
        let past = first + length (signs_of_side side) in
        follow_wider at first past (at + length (signs_of_item (OfCells cell left side right))) (held_contents (side_cells f on (Some (f at)) first side))
        (let e : at ≤ first = omega (arith, start) in e) (let e : past ≤ at + length (signs_of_item (OfCells cell left side right)) = omega (arith, size, start) in e)
        (side_follow on (Some (f at)) first side)
    item_follow on above at (OfContent cell left content right) =
        let size : length (signs_of_item (OfContent cell left content right)) ≡ length (dots left) + length content + length (dots right) + 2 =
        size_of_cell (dots left) content (dots right) (kind_mark (kind.Open cell)) (kind_mark (kind.Close cell)) in
        let start = size_of_dots left (at + 1) in
        let first = past_dots left (at + 1) in (
          let e : at ≤ first = omega (arith, start) in e,
          let e : first ≤ first + length content = omega arith in e,
          let e : first + length content + 1 ≤ at + length (signs_of_item (OfContent cell left content right)) = omega (arith, size, start) in e,
        )

    items_follow : (on : Stands) (above : Option ℕ) (at : ℕ) (items : Items) → Follow at (at + length (signs_of_items items)) (held_contents (items_cells f on above at items))
    items_follow on above at Nothing = omega arith
    items_follow on above at (And items item) =
        let size : length (signs_of_items (And items item)) ≡ length (signs_of_items items) + length (signs_of_item item) = length-append (signs_of_items items) (signs_of_item item) in
        let mid = at + length (signs_of_items items) in
        let past : mid + length (signs_of_item item) ≡ at + length (signs_of_items (And items item)) = omega (arith, size) in
        subst (λ (n : ℕ). Follow at n (held_contents (items_cells f on above at (And items item)))) past
        (two_follow at mid (mid + length (signs_of_item item)) (items_cells f on above at items) (item_cells f on above mid item) (items_follow on above at items) (item_follow on above mid item))

    pub side_follow : (on : Stands) (above : Option ℕ) (at : ℕ) (side : Side) → Follow at (at + length (signs_of_side side)) (held_contents (side_cells f on above at side))
    side_follow on above at (Same items) = items_follow on above at items
    side_follow on above at (Changed left right) =
        let size : length (signs_of_side (Changed left right)) ≡ length (signs_of_items left) + length (signs_of_items right) + 1 = size_between (signs_of_items left) (signs_of_items right) (kind_mark kind.Rewrite) in
        let mid = at + length (signs_of_items left) in
        let past = mid + 1 + length (signs_of_items right) in
        let end : past ≡ at + length (signs_of_side (Changed left right)) = omega (arith, size) in
        let fronts = items_cells f (left_of on) above at left in
        let backs = items_cells f (right_of on) above (mid + 1) right in
        let back = follow_wider mid (mid + 1) past past (held_contents backs) (let e : mid ≤ mid + 1 = omega arith in e) (let e : past ≤ past = omega arith in e)
        (items_follow (right_of on) above (mid + 1) right) in
        subst (λ (n : ℕ). Follow at n (held_contents (fronts ++ backs))) end (two_follow at mid past fronts backs (items_follow (left_of on) above at left) back)
