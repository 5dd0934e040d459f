-- The content of each cell of a text has its one reading.
use Rattle.std.proofs.Common.{◌≡◌, inl, inr, ℕ, ◌+◌, ◌≤◌, false, cond, ◌==◌, List, [], ◌∷◌, ◌++◌, length, Option, Some, refl, sym, ap, subst, ◌∙◌, arith, append-nil}
use Rattle.std.proofs.lemmas.Bool.{eq-eqb, ne_eqb}
use Rattle.std.proofs.lemmas.Grind.{flat_map-append}
use Rattle.std.specs.List.{flat_map}
use Rattle.grammar_terms.specs.Grammar.{Syntax}
use Rattle.grammar_terms.specs.declared.word.Word.{Word}
use Rattle.live_config.proofs.Members.{Has}
use Rattle.rule_terms.specs.declared.defs.CellShape.{CellShape}
use Rattle.rule_cells.specs.declared.form.Cell.{Cell as CellRecord}
use Rattle.rule_cells.specs.Written.{Item, Items, Side, past_dots, signs_of_items, item_at, items_at, side_at}
use Rattle.rule_cells.specs.Written.Item.{EmptyBag, Point, Rewritten, OfCells, OfContent}
use Rattle.rule_cells.specs.Written.Items.{Nothing, And}
use Rattle.rule_cells.specs.Written.Side.{Same, Changed}
use Rattle.rule_parts.specs.declared.parts.Side.{Side as Stands}
use Rattle.rule_parts.specs.Parts.{left_of, right_of}
use Rattle.rule_drafts.specs.declared.reading.Reading.{Reading}
use Rattle.rule_drafts.specs.Cells.{reading_at}
use Rattle.rule_reader.specs.Contents.{is_new, contents_in, side_contents}
use Rattle.rule_reader.specs.Readings.{IsReadAs, AreReadAs}
use Rattle.sound_drafts.proofs.ContentLayers.{side-Same, side-Change, inside-Cells, inside-Content, item-Cell, item-Change, item-Nothing}
use Rattle.draft_laws.proofs.WrittenCells.{TextCell, of_cells_at, of_content_at, item_cells, items_cells, side_cells}
use Rattle.sound_drafts.proofs.HeldContents.{HeldContent, held_content, held_contents, Follow}

-- what is behind a place is found there
pub follow_after : (from past : ℕ) (contents : List HeldContent) (c : HeldContent) → Follow from past contents → Has contents c → from ≤ c.first
follow_after from past [] c f h = absurd h
follow_after from past (o ∷ contents) c f (inl e) = subst (λ (it : HeldContent). from ≤ it.first) e f.0
follow_after from past (o ∷ contents) c f (inr h) =
    let before : from ≤ o.first = f.0 in
    let own : o.first ≤ o.past = f.1 in
    let later = follow_after (o.past + 1) past contents c f.2 h in
    omega (arith, before, own, later)

module _ (g : Syntax) (shapes : List CellShape) (words : List Word) where
  -- a content has this reading
  abbrev pub IsHeldAs : HeldContent → Reading → Type 0
  IsHeldAs c reading = IsReadAs g shapes words (record { cell = c.cell; is_new = is_new c.on; first = c.first; past = c.past }) reading

  abbrev pub AreHeldAs : List HeldContent → List Reading → Type 0
  AreHeldAs [] [] = Unit {0}
  AreHeldAs (c ∷ contents) (reading ∷ readings) = IsHeldAs c reading × AreHeldAs contents readings
  AreHeldAs [] (reading ∷ readings) = ⊥
  AreHeldAs (c ∷ contents) [] = ⊥

  held_joined : (xs ys : List HeldContent) (front back : List Reading) → AreHeldAs xs front → AreHeldAs ys back → AreHeldAs (xs ++ ys) (front ++ back)
  held_joined [] ys [] back one other = other
  held_joined [] ys (r ∷ front) back one other = absurd one
  held_joined (c ∷ xs) ys [] back one other = absurd one
  held_joined (c ∷ xs) ys (r ∷ front) back one other = (one.0, held_joined xs ys front back one.1 other)

  none_held : (readings : List Reading) → AreReadAs g shapes words [] readings → AreHeldAs [] readings
  none_held [] are = tt
  none_held (r ∷ readings) are = absurd are

  pub one_held : (c : HeldContent) (readings : List Reading) → AreReadAs g shapes words (record { cell = c.cell; is_new = is_new c.on; first = c.first; past = c.past } ∷ []) readings
      → AreHeldAs (c ∷ []) readings
  one_held c [] are = absurd are
  one_held c (r ∷ []) are = (are.0, tt)
  one_held c (r ∷ s ∷ readings) are = absurd are.1

  split_read : (xs ys : _) (readings : List Reading) → AreReadAs g shapes words (xs ++ ys) readings
      → (front : List Reading) × (back : List Reading) × (readings ≡ front ++ back) × AreReadAs g shapes words xs front × AreReadAs g shapes words ys back
  split_read [] ys readings are = ([], readings, refl, tt, are)
  split_read (c ∷ xs) ys [] are = absurd are
  split_read (c ∷ xs) ys (r ∷ readings) are =
      let rest = split_read xs ys readings are.1 in
      (r ∷ rest.0, rest.1, ap (λ rs. r ∷ rs) rest.2, (are.0, rest.3), rest.4)

  module _ (f : ℕ → ℕ) where
    two_held : (xs ys : List TextCell) (left right : _) (readings : List Reading)
        → ((front : List Reading) → AreReadAs g shapes words left front → AreHeldAs (held_contents xs) front)
        → ((back : List Reading) → AreReadAs g shapes words right back → AreHeldAs (held_contents ys) back)
        → AreReadAs g shapes words (left ++ right) readings → AreHeldAs (held_contents (xs ++ ys)) readings
    two_held xs ys left right readings one other are =
        let s = split_read left right readings are in
        subst (λ cs. AreHeldAs cs readings) (sym (flat_map-append held_content xs ys))
        (subst (AreHeldAs (held_contents xs ++ held_contents ys)) (sym s.2) (held_joined (held_contents xs) (held_contents ys) s.0 s.1 (one s.0 s.3) (other s.1 s.4)))

    mutual
      unfolding item_cells items_cells side_cells item_at items_at side_at

      item_held : (on : Stands) (above : Option ℕ) (at : ℕ) (item : Item) (readings : List Reading) → AreReadAs g shapes words (contents_in on (item_at at item)) readings
          → AreHeldAs (held_contents (item_cells f on above at item)) readings
      item_held on above at EmptyBag readings are = none_held readings (subst (λ cs. AreReadAs g shapes words cs readings) (item-Nothing on at) are)
      item_held on above at Point readings are = none_held readings (subst (λ cs. AreReadAs g shapes words cs readings) (item-Nothing on at) are)
      item_held on above at (Rewritten before after) readings are =
          let next = at + 1 + length (signs_of_items before) + 1 in
          two_held (items_cells f (left_of on) above (at + 1) before) (items_cells f (right_of on) above next after)
          (flat_map (contents_in (left_of on)) (items_at (at + 1) before)) (flat_map (contents_in (right_of on)) (items_at next after)) readings
          (λ front a. items_held (left_of on) above (at + 1) before front a) (λ back a. items_held (right_of on) above next after back a)
          (subst (λ cs. AreReadAs g shapes words cs readings) (item-Change on at (items_at (at + 1) before) (items_at next after)) are)
      item_held on above at (OfCells cell left side right) readings are =
          let held : CellRecord = of_cells_at at cell left side right in
          side_held on (Some (f at)) (past_dots left (at + 1)) side readings
          (subst (λ cs. AreReadAs g shapes words cs readings) (item-Cell on held ∙ inside-Cells on cell (side_at (past_dots left (at + 1)) side)) are)
      item_held on above at (OfContent cell left content right) readings are =
          let held : CellRecord = of_content_at at cell left (length content) right in
          let first = past_dots left (at + 1) in
          one_held (record { cell = cell; on = on; first = first; past = first + length content }) readings
          (subst (λ cs. AreReadAs g shapes words cs readings) (item-Cell on held ∙ inside-Content on cell first (first + length content)) are)

      items_held : (on : Stands) (above : Option ℕ) (at : ℕ) (items : Items) (readings : List Reading) → AreReadAs g shapes words (flat_map (contents_in on) (items_at at items)) readings
          → AreHeldAs (held_contents (items_cells f on above at items)) readings
      items_held on above at Nothing readings are = none_held readings are
      items_held on above at (And items item) readings are =
          let last = item_at (at + length (signs_of_items items)) item in
          two_held (items_cells f on above at items) (item_cells f on above (at + length (signs_of_items items)) item)
          (flat_map (contents_in on) (items_at at items)) (contents_in on last) readings
          (λ front a. items_held on above at items front a) (λ back a. item_held on above (at + length (signs_of_items items)) item back a)
          (subst (λ cs. AreReadAs g shapes words cs readings)
          (flat_map-append (contents_in on) (items_at at items) (last ∷ []) ∙ ap (λ cs. flat_map (contents_in on) (items_at at items) ++ cs) (append-nil (contents_in on last))) are)

      pub side_held : (on : Stands) (above : Option ℕ) (at : ℕ) (side : Side) (readings : List Reading) → AreReadAs g shapes words (side_contents on (side_at at side)) readings
          → AreHeldAs (held_contents (side_cells f on above at side)) readings
      side_held on above at (Same items) readings are =
          items_held on above at items readings (subst (λ cs. AreReadAs g shapes words cs readings) (side-Same on (items_at at items)) are)
      side_held on above at (Changed before after) readings are =
          let next = at + length (signs_of_items before) + 1 in
          two_held (items_cells f (left_of on) above at before) (items_cells f (right_of on) above next after)
          (flat_map (contents_in (left_of on)) (items_at at before)) (flat_map (contents_in (right_of on)) (items_at next after)) readings
          (λ front a. items_held (left_of on) above at before front a) (λ back a. items_held (right_of on) above next after back a)
          (subst (λ cs. AreReadAs g shapes words cs readings) (side-Change on (items_at at before) (items_at next after)) are)

  -- ---- the reading of a content is found by its first token

  pub record IsFoundAs (readings : List Reading) (c : HeldContent) : Type 0 where
    pub reading : Reading
    pub found : reading_at readings c.first ≡ Some reading
    pub is : IsHeldAs c reading

  pub found_as : (from past : ℕ) (contents : List HeldContent) (readings : List Reading) → AreHeldAs contents readings → Follow from past contents → (c : HeldContent) → Has contents c → IsFoundAs readings c
  found_as from past [] readings are f c h = absurd h
  found_as from past (o ∷ contents) [] are f c h = absurd are
  found_as from past (o ∷ contents) (r ∷ readings) are f c (inl e) =
      let is : IsHeldAs c r = subst (λ (it : HeldContent). IsHeldAs it r) e are.0 in
      record { reading = r; found = ap (λ b. cond b (Some r) (reading_at readings c.first)) (eq-eqb r.first c.first is.first_is); is = is }
  found_as from past (o ∷ contents) (r ∷ readings) are f c (inr h) =
      let rest = found_as (o.past + 1) past contents readings are.1 f.2 c h in
      let later = follow_after (o.past + 1) past contents c f.2 h in
      let own : o.first ≤ o.past = f.1 in
      let same : r.first ≡ o.first = are.0.first_is in
      let away : (r.first == c.first) ≡ false = ne_eqb r.first c.first (λ e. omega (arith, later, own, same, e)) in
      record { reading = rest.reading; found = ap (λ b. cond b (Some r) (reading_at readings c.first)) away ∙ rest.found; is = rest.is }
