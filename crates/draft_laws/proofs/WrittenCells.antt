-- The cells of a body, in the order of the text.
use Rattle.std.proofs.Common.{◌≡◌, inl, ℕ, ◌+◌, Bool, true, false, cond, List, [], ◌∷◌, ◌++◌, map, length, append-nil, Option, Some, None, refl, sym, ap, subst, ◌∙◌, append_assoc, arith}
use Rattle.std.proofs.lemmas.List.{map-append}
use Rattle.std.specs.Prelude.{◌==◌, codes}
use Rattle.std.specs.List.{AllByRecursion}
use Rattle.k_terms.specs.Sorts.{sort_bag}
use Rattle.production_reader.specs.Allowed.{same_text}
use Rattle.rule_terms.specs.declared.defs.CellShape.{CellShape}
use Rattle.rule_tokens.specs.declared.token.RuleKind.{RuleKind}
use Rattle.rule_tokens.specs.declared.token.RuleKind.TheVariants as kind
use Rattle.rule_tokens.specs.declared.token.RuleToken.{RuleToken}
use Rattle.live_config.proofs.Members.{Has, has_left, has_right}
use Rattle.rule_cells.specs.declared.form.Cell.{Cell as CellRecord}
use Rattle.rule_cells.specs.declared.form.Inside.{Inside, Cells as CellsInside, Content as ContentInside}
use Rattle.rule_cells.specs.Marks.{dot_mark, terminal_mark, kind_mark, marks}
use Rattle.rule_cells.specs.Written.{Item, Items, Side, dots, is_plain, past_dots, signs_of_item, signs_of_items, signs_of_side, side_at, is_of_cells, IsItem, AreItems, IsSide}
use Rattle.rule_cells.specs.Written.Item.{EmptyBag, Point, Rewritten, OfCells, OfContent}
use Rattle.rule_cells.specs.Written.Items.{Nothing, And}
use Rattle.rule_cells.specs.Written.Side.{Same, Changed}
use Rattle.rule_parts.specs.declared.parts.Side.{Side as Stands}
use Rattle.rule_parts.specs.declared.parts.Side.TheVariants.{Both, Left, Right}
use Rattle.rule_parts.specs.Parts.{left_of, right_of}
use Rattle.rule_parts.specs.Sides.{stands}
use Rattle.draft_laws.proofs.Tags.{opens_with, opens, AllShut, all_shut, tags_beside, tags_changed, tags_in_brackets, tags_of_cell, by_mark}

-- a cell: what was read of it, its mark, that of the cell around it, and on which sides it stands
pub record TextCell : Type 0 where
  pub held : CellRecord
  pub mark : ℕ
  pub above : Option ℕ
  pub on : Stands

abbrev pub cell_at : Stands → Option ℕ → ℕ → CellRecord → TextCell
cell_at on above mark held = record { held = held; mark = mark; above = above; on = on }

-- a cell whose opening tag is a token: one of cells, and one with a content
abbrev pub of_cells_at : ℕ → ℕ → Bool → Side → Bool → CellRecord
of_cells_at at cell left side right =
    record { cell = cell; start = at; left_dots = left; right_dots = right; inside = CellsInside (side_at (past_dots left (at + 1)) side) }

abbrev pub of_content_at : ℕ → ℕ → Bool → ℕ → Bool → CellRecord
of_content_at at cell left size right =
    record { cell = cell; start = at; left_dots = left; right_dots = right; inside = ContentInside (past_dots left (at + 1)) (past_dots left (at + 1) + size) }

-- the cells of what stands on sides in a cell, where the mark of a cell is told by its opening tag
module _ (f : ℕ → ℕ) where
  unfoldable mutual
    pub item_cells : Stands → Option ℕ → ℕ → Item → List TextCell
    item_cells on above at EmptyBag = []
    item_cells on above at Point = []
    item_cells on above at (Rewritten left right) =
        items_cells (left_of on) above (at + 1) left ++ items_cells (right_of on) above (at + 1 + length (signs_of_items left) + 1) right
    item_cells on above at (OfCells cell left side right) = cell_at on above (f at) (of_cells_at at cell left side right) ∷ side_cells on (Some (f at)) (past_dots left (at + 1)) side
    item_cells on above at (OfContent cell left content right) = cell_at on above (f at) (of_content_at at cell left (length content) right) ∷ []

    pub items_cells : Stands → Option ℕ → ℕ → Items → List TextCell
    items_cells on above at Nothing = []
    items_cells on above at (And items item) = items_cells on above at items ++ item_cells on above (at + length (signs_of_items items)) item

    pub side_cells : Stands → Option ℕ → ℕ → Side → List TextCell
    side_cells on above at (Same items) = items_cells on above at items
    side_cells on above at (Changed left right) =
        items_cells (left_of on) above at left ++ items_cells (right_of on) above (at + length (signs_of_items left) + 1) right

-- ---- signs

choice : {M : Type 0} (b : Bool) (x y z : M) → (x ≡ z → ⊥) → (y ≡ z → ⊥) → cond b x y ≡ z → ⊥
choice true x y z one other e = one e
choice false x y z one other e = other e

dot_tag : (sort : Option ℕ) (cell : ℕ) → dot_mark sort ≡ kind_mark (kind.Open cell) → ⊥
dot_tag None cell e = cc
dot_tag (Some sort) cell e = choice (sort == sort_bag) (dot_mark (Some sort_bag)) (kind_mark kind.Then) (kind_mark (kind.Open cell)) (λ f. cc) (λ f. cc) e

terminal_tag : (text : List ℕ) (cell : ℕ) → terminal_mark text ≡ kind_mark (kind.Open cell) → ⊥
terminal_tag text cell e =
    choice (same_text text (codes "(")) (terminal_mark (codes "(")) (cond (same_text text (codes ")")) (terminal_mark (codes ")")) (kind_mark kind.Then)) (kind_mark (kind.Open cell)) (λ f. cc)
    (choice (same_text text (codes ")")) (terminal_mark (codes ")")) (kind_mark kind.Then) (kind_mark (kind.Open cell)) (λ f. cc) (λ f. cc)) e

shut_kind : (k : RuleKind) (x : _) → kind_mark k ≡ x → ((cell : ℕ) → x ≡ kind_mark (kind.Open cell) → ⊥) → (at : ℕ) → opens_with at k ≡ []
shut_kind (kind.Open cell) x e none at = absurd (none cell (sym e))
shut_kind (kind.Close cell) x e none at = refl
shut_kind kind.Rewrite x e none at = refl
shut_kind kind.Then x e none at = refl
shut_kind kind.MapsTo x e none at = refl
shut_kind kind.Dots x e none at = refl
shut_kind (kind.Dot sort) x e none at = refl
shut_kind kind.ListItem x e none at = refl
shut_kind (kind.Terminal text) x e none at = refl
shut_kind (kind.Literal value) x e none at = refl
shut_kind (kind.Variable name sort) x e none at = refl

open_kind : (k : RuleKind) (cell : ℕ) → kind_mark k ≡ kind_mark (kind.Open cell) → (at : ℕ) → opens_with at k ≡ (cell, at) ∷ []
open_kind (kind.Open other) cell e at = let same : other ≡ cell = cc in ap (λ (n : ℕ). (n, at) ∷ []) same
open_kind (kind.Close other) cell e at = absurd (cc)
open_kind kind.Rewrite cell e at = absurd (cc)
open_kind kind.Then cell e at = absurd (cc)
open_kind kind.MapsTo cell e at = absurd (cc)
open_kind kind.Dots cell e at = absurd (cc)
open_kind (kind.Dot sort) cell e at = absurd (dot_tag sort cell e)
open_kind kind.ListItem cell e at = absurd (cc)
open_kind (kind.Terminal text) cell e at = absurd (terminal_tag text cell e)
open_kind (kind.Literal value) cell e at = absurd (cc)
open_kind (kind.Variable name sort) cell e at = absurd (cc)

plain_shut : (x : _) → is_plain x ≡ true → (t : RuleToken) → kind_mark t.kind ≡ x → (at : ℕ) → opens_with at t.kind ≡ []
plain_shut x plain t e at = shut_kind t.kind x e (λ cell f. let g : false ≡ true = sym (ap is_plain f) ∙ plain in cc) at

content_shut : (xs : _) → AllByRecursion (λ x. is_plain x ≡ true) xs → AllByRecursion (λ x. (t : RuleToken) → kind_mark t.kind ≡ x → (at : ℕ) → opens_with at t.kind ≡ []) xs
content_shut [] all = tt
content_shut (x ∷ xs) all = (plain_shut x all.0, content_shut xs all.1)

dots_shut : (left : Bool) → AllShut (λ (token : RuleToken). kind_mark token.kind) (dots left)
dots_shut false = all_shut (λ (token : RuleToken). kind_mark token.kind) (dots false) tt
dots_shut true = all_shut (λ (token : RuleToken). kind_mark token.kind) (dots true) ((λ t e at. shut_kind t.kind (kind_mark kind.Dots) e (λ cell f. cc) at), tt)

dots_size : (at : ℕ) (left : Bool) → at + length (dots left) ≡ past_dots left at
dots_size at false = omega arith
dots_size at true = omega arith

-- ---- the tags of the cells are the opening tags of the text

abbrev pub tag_of : TextCell → ℕ × ℕ
tag_of one = (one.held.cell, one.mark)

-- with the number of its token
abbrev pub Tag : Type 0
Tag = ℕ × (ℕ × ℕ)

abbrev pub full_tag : TextCell → Tag
full_tag one = (one.held.cell, (one.held.start, one.mark))

abbrev pub full_by : (ℕ → ℕ) → ℕ × ℕ → Tag
full_by f tag = (tag.0, (tag.1, f tag.1))

tags_join : (f : ℕ → ℕ) (xs ys : List TextCell) (ps qs all : List (ℕ × ℕ)) → map full_tag xs ≡ map (full_by f) ps → map full_tag ys ≡ map (full_by f) qs → all ≡ ps ++ qs
    → map full_tag (xs ++ ys) ≡ map (full_by f) all
tags_join f xs ys ps qs all one other is =
    map-append full_tag xs ys ∙ (λ i. one i ++ other i) ∙ sym (map-append (full_by f) ps qs) ∙ ap (map (full_by f)) (sym is)

module _ (cells : List CellShape) (f : ℕ → ℕ) where
  mutual
    unfolding item_cells items_cells side_cells signs_of_item signs_of_items signs_of_side IsItem AreItems IsSide

    item_tags : (on : Stands) (above : Option ℕ) (at : ℕ) (item : Item) → IsItem cells item → (tokens : List RuleToken) → marks tokens ≡ signs_of_item item
        → map full_tag (item_cells f on above at item) ≡ map (full_by f) (opens at tokens)
    item_tags on above at EmptyBag is tokens e =
        ap (map (full_by f)) (sym (all_shut (λ (token : RuleToken). kind_mark token.kind) _ ((λ t g n. shut_kind t.kind _ g (λ cell h. cc) n), tt) tokens e at))
    item_tags on above at Point is tokens e =
        ap (map (full_by f)) (sym (all_shut (λ (token : RuleToken). kind_mark token.kind) _ ((λ t g n. shut_kind t.kind _ g (λ cell h. cc) n), tt) tokens e at))
    item_tags on above at (Rewritten left right) is tokens e =
        let two = tags_in_brackets (λ (token : RuleToken). kind_mark token.kind) tokens (signs_of_items left) (signs_of_items right) (terminal_mark (codes "(")) (kind_mark kind.Rewrite) (terminal_mark (codes ")")) at
        (λ t g n. shut_kind t.kind (terminal_mark (codes "(")) g (λ cell h. cc) n) (λ t g n. shut_kind t.kind (kind_mark kind.Rewrite) g (λ cell h. cc) n)
        (λ t g n. shut_kind t.kind (terminal_mark (codes ")")) g (λ cell h. cc) n) e in
        tags_join f _ _ (opens (at + 1) two.front) (opens (at + 1 + length (signs_of_items left) + 1) two.back) (opens at tokens)
        (items_tags (left_of on) above (at + 1) left is.0 two.front two.front_is)
        (items_tags (right_of on) above (at + 1 + length (signs_of_items left) + 1) right is.1 two.back two.back_is) two.tags
    item_tags on above at (OfCells cell left side right) is tokens e =
        let t = tags_of_cell (λ (token : RuleToken). kind_mark token.kind) tokens (signs_of_side side) (dots left) (dots right) (kind_mark (kind.Open cell)) (kind_mark (kind.Close cell)) cell at
        (λ t g n. open_kind t.kind cell g n) (λ t g n. shut_kind t.kind (kind_mark (kind.Close cell)) g (λ other h. cc) n) (dots_shut left) (dots_shut right) e in
        let place : at + 1 + length (dots left) ≡ past_dots left (at + 1) = dots_size (at + 1) left in
        ap (λ (ts : List Tag). (cell, (at, f at)) ∷ ts) (side_full_tags on (Some (f at)) (past_dots left (at + 1)) side is.1 t.inner t.inner_is)
        ∙ ap (map (full_by f)) (ap (λ (n : ℕ). (cell, at) ∷ opens n t.inner) (sym place) ∙ sym t.tags)
    item_tags on above at (OfContent cell left content right) is tokens e =
        let t = tags_of_cell (λ (token : RuleToken). kind_mark token.kind) tokens content (dots left) (dots right) (kind_mark (kind.Open cell)) (kind_mark (kind.Close cell)) cell at
        (λ t g n. open_kind t.kind cell g n) (λ t g n. shut_kind t.kind (kind_mark (kind.Close cell)) g (λ other h. cc) n) (dots_shut left) (dots_shut right) e in
        let none = all_shut (λ (token : RuleToken). kind_mark token.kind) content (content_shut content is.1) t.inner t.inner_is (at + 1 + length (dots left)) in
        ap (map (full_by f)) (ap (λ (ts : List (ℕ × ℕ)). (cell, at) ∷ ts) (sym none) ∙ sym t.tags)

    items_tags : (on : Stands) (above : Option ℕ) (at : ℕ) (items : Items) → AreItems cells items → (tokens : List RuleToken) → marks tokens ≡ signs_of_items items
        → map full_tag (items_cells f on above at items) ≡ map (full_by f) (opens at tokens)
    items_tags on above at Nothing are tokens e = ap (map (full_by f)) (sym (all_shut (λ (token : RuleToken). kind_mark token.kind) [] tt tokens e at))
    items_tags on above at (And items item) are tokens e =
        let two = tags_beside (λ (token : RuleToken). kind_mark token.kind) tokens (signs_of_items items) (signs_of_item item) at e in
        tags_join f _ _ (opens at two.front) (opens (at + length (signs_of_items items)) two.back) (opens at tokens)
        (items_tags on above at items are.0 two.front two.front_is) (item_tags on above (at + length (signs_of_items items)) item are.1 two.back two.back_is) two.tags

    pub side_full_tags : (on : Stands) (above : Option ℕ) (at : ℕ) (side : Side) → IsSide cells side → (tokens : List RuleToken) → marks tokens ≡ signs_of_side side
        → map full_tag (side_cells f on above at side) ≡ map (full_by f) (opens at tokens)
    side_full_tags on above at (Same items) is tokens e = items_tags on above at items is tokens e
    side_full_tags on above at (Changed left right) is tokens e =
        let two = tags_changed (λ (token : RuleToken). kind_mark token.kind) tokens (signs_of_items left) (signs_of_items right) (kind_mark kind.Rewrite) at
        (λ t g n. shut_kind t.kind (kind_mark kind.Rewrite) g (λ cell h. cc) n) e in
        tags_join f _ _ (opens at two.front) (opens (at + length (signs_of_items left) + 1) two.back) (opens at tokens)
        (items_tags (left_of on) above at left is.0 two.front two.front_is)
        (items_tags (right_of on) above (at + length (signs_of_items left) + 1) right is.1 two.back two.back_is) two.tags

-- ---- so are they by their marks, and by their tokens

tags_seen : {X Y Z : Type 0} (g : Y → Z) (f : X → Y) (xs : List X) → map g (map f xs) ≡ map (λ x. g (f x)) xs
tags_seen g f [] = refl
tags_seen g f (x ∷ xs) = ap (λ zs. g (f x) ∷ zs) (tags_seen g f xs)

abbrev pub start_tag : TextCell → ℕ × ℕ
start_tag one = (one.held.cell, one.held.start)

module _ (cells : List CellShape) (f : ℕ → ℕ) (on : Stands) (above : Option ℕ) (at : ℕ) (side : Side) (is : IsSide cells side) (tokens : List RuleToken) (e : marks tokens ≡ signs_of_side side) where
  pub side_tags : map tag_of (side_cells f on above at side) ≡ map (by_mark f) (opens at tokens)
  side_tags =
      sym (tags_seen (λ (tag : Tag). (tag.0, tag.1.1)) full_tag (side_cells f on above at side))
      ∙ ap (map (λ (tag : Tag). (tag.0, tag.1.1))) (side_full_tags cells f on above at side is tokens e)
      ∙ tags_seen (λ (tag : Tag). (tag.0, tag.1.1)) (full_by f) (opens at tokens)

  pub side_starts : map start_tag (side_cells f on above at side) ≡ opens at tokens
  side_starts =
      sym (tags_seen (λ (tag : Tag). (tag.0, tag.1.0)) full_tag (side_cells f on above at side))
      ∙ ap (map (λ (tag : Tag). (tag.0, tag.1.0))) (side_full_tags cells f on above at side is tokens e)
      ∙ tags_seen (λ (tag : Tag). (tag.0, tag.1.0)) (full_by f) (opens at tokens)
      ∙ all_same (opens at tokens)
    where
      all_same : (tags : List (ℕ × ℕ)) → map (λ (tag : ℕ × ℕ). (tag.0, tag.1)) tags ≡ tags
      all_same [] = refl
      all_same (tag ∷ tags) = ap (λ ts. tag ∷ ts) (all_same tags)

-- ---- a cell stands in one before it, which is on a side where it is

-- what is said of each of a list, by those before it
abbrev pub Each : {X : Type 0} → (List X → X → Type 0) → List X → List X → Type 0
Each P before [] = Unit {0}
Each P before (x ∷ xs) = P before x × Each P (before ++ x ∷ []) xs

pub each-append : {X : Type 0} (P : List X → X → Type 0) (before xs ys : List X) → Each P before xs → Each P (before ++ xs) ys → Each P before (xs ++ ys)
each-append P before [] ys one other = subst (λ zs. Each P zs ys) (append-nil before) other
each-append P before (x ∷ xs) ys one other =
    (one.0, each-append P (before ++ x ∷ []) xs ys one.1 (subst (λ zs. Each P zs ys) (sym (append_assoc before (x ∷ []) xs)) other))

pub each_at : {X : Type 0} (P : List X → X → Type 0) (front before : List X) (x : X) (after : List X) → Each P front (before ++ x ∷ after) → P (front ++ before) x
each_at P front [] x after each = subst (λ zs. P zs x) (sym (append-nil front)) each.0
each_at P front (b ∷ before) x after each = subst (λ zs. P zs x) (append_assoc front (b ∷ []) before) (each_at P (front ++ b ∷ []) before x after each.1)

pub record IsAround (before : List TextCell) (on : Stands) (mark : ℕ) : Type 0 where
  pub outer : TextCell
  pub is : Has before outer
  pub mark_is : outer.mark ≡ mark
  pub sides : (left : Bool) → stands left on ≡ true → stands left outer.on ≡ true

abbrev pub IsEnclosed : List TextCell → Stands → Option ℕ → Type 0
IsEnclosed before on None = Unit {0}
IsEnclosed before on (Some mark) = IsAround before on mark

abbrev pub StandsIn : List TextCell → TextCell → Type 0
StandsIn before one = IsEnclosed before one.on one.above

abbrev pub AreEnclosed : List TextCell → List TextCell → Type 0
AreEnclosed before cells = Each StandsIn before cells

enclosed_more : (before more : List TextCell) (on : Stands) (above : Option ℕ) → IsEnclosed before on above → IsEnclosed (before ++ more) on above
enclosed_more before more on None h = tt
enclosed_more before more on (Some mark) h = record { outer = h.outer; is = has_left before more h.outer h.is; mark_is = h.mark_is; sides = h.sides }

enclosed_part : (before : List TextCell) (on part : Stands) (above : Option ℕ) → ((left : Bool) → stands left part ≡ true → stands left on ≡ true)
    → IsEnclosed before on above → IsEnclosed before part above
enclosed_part before on part None within h = tt
enclosed_part before on part (Some mark) within h = record { outer = h.outer; is = h.is; mark_is = h.mark_is; sides = λ left e. h.sides left (within left e) }

left_within : (on : Stands) (left : Bool) → stands left (left_of on) ≡ true → stands left on ≡ true
left_within Both true e = refl
left_within Both false e = refl
left_within Left left e = e
left_within Right left e = e

right_within : (on : Stands) (left : Bool) → stands left (right_of on) ≡ true → stands left on ≡ true
right_within Both true e = refl
right_within Both false e = refl
right_within Left left e = e
right_within Right left e = e

module _ (f : ℕ → ℕ) where
  mutual
    unfolding item_cells items_cells side_cells

    item_enclosed : (on : Stands) (above : Option ℕ) (at : ℕ) (item : Item) (before : List TextCell) → IsEnclosed before on above → AreEnclosed before (item_cells f on above at item)
    item_enclosed on above at EmptyBag before h = tt
    item_enclosed on above at Point before h = tt
    item_enclosed on above at (Rewritten left right) before h =
        let one = items_cells f (left_of on) above (at + 1) left in
        each-append StandsIn before one _
        (items_enclosed (left_of on) above (at + 1) left before (enclosed_part before on (left_of on) above (left_within on) h))
        (items_enclosed (right_of on) above (at + 1 + length (signs_of_items left) + 1) right (before ++ one)
        (enclosed_more before one (right_of on) above (enclosed_part before on (right_of on) above (right_within on) h)))
    item_enclosed on above at (OfCells cell left side right) before h =
        let one = cell_at on above (f at) (of_cells_at at cell left side right) in (
          h,
          side_enclosed on (Some (f at)) (past_dots left (at + 1)) side (before ++ one ∷ [])
              (record { outer = one; is = has_right before (one ∷ []) one (inl refl); mark_is = refl; sides = λ left e. e }),
        )
    item_enclosed on above at (OfContent cell left content right) before h = (h, tt)

    items_enclosed : (on : Stands) (above : Option ℕ) (at : ℕ) (items : Items) (before : List TextCell) → IsEnclosed before on above → AreEnclosed before (items_cells f on above at items)
    items_enclosed on above at Nothing before h = tt
    items_enclosed on above at (And items item) before h =
        let one = items_cells f on above at items in
        each-append StandsIn before one _ (items_enclosed on above at items before h)
        (item_enclosed on above (at + length (signs_of_items items)) item (before ++ one) (enclosed_more before one on above h))

    pub side_enclosed : (on : Stands) (above : Option ℕ) (at : ℕ) (side : Side) (before : List TextCell) → IsEnclosed before on above → AreEnclosed before (side_cells f on above at side)
    side_enclosed on above at (Same items) before h = items_enclosed on above at items before h
    side_enclosed on above at (Changed left right) before h =
        let one = items_cells f (left_of on) above at left in
        each-append StandsIn before one _
        (items_enclosed (left_of on) above at left before (enclosed_part before on (left_of on) above (left_within on) h))
        (items_enclosed (right_of on) above (at + length (signs_of_items left) + 1) right (before ++ one)
        (enclosed_more before one (right_of on) above (enclosed_part before on (right_of on) above (right_within on) h)))

-- ---- each holds what its declared cell does

abbrev pub has_cells_in : Inside → Bool
has_cells_in (CellsInside side) = true
has_cells_in (ContentInside first past) = false

abbrev pub HoldsAsDeclared : List CellShape → TextCell → Type 0
HoldsAsDeclared shapes one = is_of_cells shapes one.held.cell ≡ has_cells_in one.held.inside

all_joined : {X : Type 0} (P : X → Type 0) (xs ys : List X) → AllByRecursion P xs → AllByRecursion P ys → AllByRecursion P (xs ++ ys)
all_joined P [] ys one other = other
all_joined P (x ∷ xs) ys one other = (one.0, all_joined P xs ys one.1 other)

module _ (shapes : List CellShape) (f : ℕ → ℕ) where
  mutual
    unfolding item_cells items_cells side_cells IsItem AreItems IsSide

    item_held : (on : Stands) (above : Option ℕ) (at : ℕ) (item : Item) → IsItem shapes item → AllByRecursion (HoldsAsDeclared shapes) (item_cells f on above at item)
    item_held on above at EmptyBag is = tt
    item_held on above at Point is = tt
    item_held on above at (Rewritten left right) is =
        all_joined (HoldsAsDeclared shapes) _ _ (items_held (left_of on) above (at + 1) left is.0) (items_held (right_of on) above (at + 1 + length (signs_of_items left) + 1) right is.1)
    item_held on above at (OfCells cell left side right) is = (is.0, side_held on (Some (f at)) (past_dots left (at + 1)) side is.1)
    item_held on above at (OfContent cell left content right) is = (is.0, tt)

    items_held : (on : Stands) (above : Option ℕ) (at : ℕ) (items : Items) → AreItems shapes items → AllByRecursion (HoldsAsDeclared shapes) (items_cells f on above at items)
    items_held on above at Nothing are = tt
    items_held on above at (And items item) are =
        all_joined (HoldsAsDeclared shapes) _ _ (items_held on above at items are.0) (item_held on above (at + length (signs_of_items items)) item are.1)

    pub side_held : (on : Stands) (above : Option ℕ) (at : ℕ) (side : Side) → IsSide shapes side → AllByRecursion (HoldsAsDeclared shapes) (side_cells f on above at side)
    side_held on above at (Same items) is = items_held on above at items is
    side_held on above at (Changed left right) is =
        all_joined (HoldsAsDeclared shapes) _ _ (items_held (left_of on) above at left is.0) (items_held (right_of on) above (at + length (signs_of_items left) + 1) right is.1)
