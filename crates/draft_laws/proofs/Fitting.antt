-- The cells of a draft that is read of a rule: their marks, and the cells of both sides.
use Rattle.std.proofs.Common.{◌≡◌, ℕ, Bool, true, false, List, [], ◌∷◌, map, filter, length, Option, Some, None, refl, sym, ap, ◌∙◌}
use Rattle.k_terms.specs.Sorts.{sort_map, sort_list}
use Rattle.grammar_terms.specs.declared.shape.Shape.{Shape}
use Rattle.live_config.proofs.Members.{Has, kept, map_has}
use Rattle.rule_terms.specs.declared.defs.CellShape.{CellShape}
use Rattle.rule_terms.specs.declared.defs.Kind.{Kind}
use Rattle.rule_terms.specs.declared.defs.Kind.TheVariants.{Cells as CellsKind, Seq as SeqKind, Map as MapKind, List as ListKind, One as OneKind}
use Rattle.rule_terms.specs.declared.pattern.Pattern.{Pattern}
use Rattle.rule_terms.specs.declared.pattern.Body.{Cells as CellsBody, Map as MapBody, List as ListBody, Made as MadeBody}
use Rattle.rule_terms.specs.declared.pattern.CellPat.{CellPat}
use Rattle.rule_terms.specs.Numbers.{all_different}
use Rattle.rule_terms.specs.Sound.{cells_rest, is_body_of, is_map_expression}
use Rattle.rule_terms.specs.Spots.{Spot}
use Rattle.rule_tokens.specs.declared.token.RuleToken.{RuleToken}
use Rattle.rule_cells.specs.declared.form.Inside.{Inside, Cells as CellsInside, Content as ContentInside}
use Rattle.rule_parts.specs.declared.argument_sorts.Productions.{Productions}
use Rattle.rule_parts.specs.declared.leaves.Leaf.{Leaf}
use Rattle.rule_parts.specs.declared.parts.Part.{Part}
use Rattle.rule_parts.specs.declared.parts.Side.{Side as Stands}
use Rattle.rule_parts.specs.declared.terms.Occurrence.{Occurrence}
use Rattle.rule_parts.specs.Sides.{of_side, what_made, what_entries, what_rests, items_before}
use Rattle.rule_drafts.specs.declared.reading.Reading.{Reading}
use Rattle.rule_drafts.specs.Bodies.{seq_by, variable_in, made_map, made_list, map_by, list_by, list_items, one_by, rest_by, rest_place, dots_number, body_of}
use Rattle.rule_drafts.specs.Cells.{kind_of, tag_of, inside_body}
use Rattle.rule_drafts.proofs.ItemLayers.{body-Cells, body-Content}
use Rattle.draft_laws.proofs.Tags.{Rise}
use Rattle.draft_laws.proofs.WrittenCells.{TextCell, tag_of as tag_of_cell}
use Rattle.draft_laws.proofs.Sides.{is_on, spot_of, pictures}
use Rattle.draft_laws.proofs.Listing.{mark_in, one_cell, all_apart, kept_apart, apart_different, map_twice}

-- ---- a content has no rest of cells

seq_rest : (vars : List Occurrence) (o : Option ℕ) (parts : List Pattern) → cells_rest (seq_by vars o parts) ≡ None
seq_rest vars None parts = refl
seq_rest vars (Some x) parts = refl

made_map_rest : (part : Pattern) → cells_rest (made_map part) ≡ None
made_map_rest part = elim (variable_in part) as (λ o. cells_rest (elim o [ Some x ↦ MapBody [] (Some x) | None ↦ MadeBody part ]) ≡ None) [ Some x ↦ refl | None ↦ refl ]

made_list_rest : (part : Pattern) → cells_rest (made_list part) ≡ None
made_list_rest part = elim (variable_in part) as (λ o. cells_rest (elim o [ Some x ↦ ListBody [] (Some x) [] | None ↦ MadeBody part ]) ≡ None) [ Some x ↦ refl | None ↦ refl ]

map_rest : (made : List Pattern) (entries : List (Pattern × Pattern)) (rest : Option ℕ) → cells_rest (map_by made entries rest) ≡ None
map_rest [] entries rest = refl
map_rest (part ∷ parts) entries rest = made_map_rest part

list_rest : (made items : List Pattern) (rest : Option ℕ) (place : ℕ) → cells_rest (list_by made items rest place) ≡ None
list_rest [] items None place = refl
list_rest [] items (Some x) place = refl
list_rest (part ∷ parts) items rest place = made_list_rest part

one_rest : (parts : List Pattern) → cells_rest (one_by parts) ≡ None
one_rest [] = refl
one_rest (part ∷ parts) = refl

cells_body_rest : (cells : List CellPat) (rest : Option ℕ) → cells_rest (CellsBody cells rest) ≡ rest
cells_body_rest cells rest = refl

-- ---- and is of its kind, where an expression is one that may stand there

abbrev pub IsVariable : Pattern → Type 0
IsVariable part = (x : ℕ) × (variable_in part ≡ Some x)

map_of_kind : (part : Pattern) (o : Option ℕ) → variable_in part ≡ o → (variable_in part ≡ None → is_map_expression part ≡ true)
    → is_body_of MapKind (elim o [ Some x ↦ MapBody [] (Some x) | None ↦ MadeBody part ]) ≡ true
map_of_kind part None is may = may is
map_of_kind part (Some x) is may = refl

list_of_kind : (part : Pattern) (o : Option ℕ) → variable_in part ≡ o → IsVariable part → is_body_of ListKind (elim o [ Some x ↦ ListBody [] (Some x) [] | None ↦ MadeBody part ]) ≡ true
list_of_kind part None is var = absurd (let f : None ≡ Some var.0 = sym is ∙ var.1 in cc)
list_of_kind part (Some x) is var = refl

-- the first expression of a whole map or list, where there is one, may stand there
abbrev pub MapMayBe : List Pattern → Type 0
MapMayBe [] = Unit {0}
MapMayBe (part ∷ parts) = variable_in part ≡ None → is_map_expression part ≡ true

abbrev pub ListMayBe : List Pattern → Type 0
ListMayBe [] = Unit {0}
ListMayBe (part ∷ parts) = IsVariable part

maps_of_kind : (made : List Pattern) (entries : List (Pattern × Pattern)) (rest : Option ℕ) → MapMayBe made → is_body_of MapKind (map_by made entries rest) ≡ true
maps_of_kind [] entries rest may = refl
maps_of_kind (part ∷ parts) entries rest may = map_of_kind part (variable_in part) refl may

lists_of_kind : (made items : List Pattern) (rest : Option ℕ) (place : ℕ) → ListMayBe made → is_body_of ListKind (list_by made items rest place) ≡ true
lists_of_kind [] items None place may = refl
lists_of_kind [] items (Some x) place may = refl
lists_of_kind (part ∷ parts) items rest place may = list_of_kind part (variable_in part) refl may

seqs_of_kind : (vars : List Occurrence) (o : Option ℕ) (parts : List Pattern) → is_body_of SeqKind (seq_by vars o parts) ≡ true
seqs_of_kind vars None parts = refl
seqs_of_kind vars (Some x) parts = refl

ones_of_kind : (sort : ℕ) (parts : List Pattern) → is_body_of (OneKind sort) (one_by parts) ≡ true
ones_of_kind sort [] = refl
ones_of_kind sort (part ∷ parts) = refl

module _ (g : Productions) (leaves : List Leaf) (vars : List Occurrence) where
  body_rest_none : (tag : _) (left : Bool) (parts : List (Part Shape)) (kind : Kind) → cells_rest (body_of g leaves vars tag left parts kind) ≡ None
  body_rest_none tag left parts CellsKind = refl
  body_rest_none tag left parts SeqKind = seq_rest vars (dots_number vars tag) _
  body_rest_none tag left parts MapKind =
      map_rest (of_side left (what_made g leaves vars sort_map) parts) (of_side left (what_entries g leaves vars) parts) (rest_by (dots_number vars tag) (of_side left (what_rests leaves vars) parts))
  body_rest_none tag left parts ListKind =
      list_rest (of_side left (what_made g leaves vars sort_list) parts) (list_items g leaves vars tag left parts) (rest_by (dots_number vars tag) (of_side left (what_rests leaves vars) parts))
      (rest_place tag (items_before left parts) (length (list_items g leaves vars tag left parts)))
  body_rest_none tag left parts (OneKind sort) = one_rest _

  -- the expressions of a content may stand in a cell of a kind
  abbrev pub MayBe : Bool → List (Part Shape) → Kind → Type 0
  MayBe left parts CellsKind = ⊥
  MayBe left parts SeqKind = Unit {0}
  MayBe left parts MapKind = MapMayBe (of_side left (what_made g leaves vars sort_map) parts)
  MayBe left parts ListKind = ListMayBe (of_side left (what_made g leaves vars sort_list) parts)
  MayBe left parts (OneKind sort) = Unit {0}

  pub body_of_kind : (tag : _) (left : Bool) (parts : List (Part Shape)) (kind : Kind) → MayBe left parts kind → is_body_of kind (body_of g leaves vars tag left parts kind) ≡ true
  body_of_kind tag left parts CellsKind may = absurd may
  body_of_kind tag left parts SeqKind may = seqs_of_kind vars (dots_number vars tag) _
  body_of_kind tag left parts MapKind may =
      maps_of_kind (of_side left (what_made g leaves vars sort_map) parts) (of_side left (what_entries g leaves vars) parts)
      (rest_by (dots_number vars tag) (of_side left (what_rests leaves vars) parts)) may
  body_of_kind tag left parts ListKind may =
      lists_of_kind (of_side left (what_made g leaves vars sort_list) parts) (list_items g leaves vars tag left parts)
      (rest_by (dots_number vars tag) (of_side left (what_rests leaves vars) parts))
      (rest_place tag (items_before left parts) (length (list_items g leaves vars tag left parts))) may
  body_of_kind tag left parts (OneKind sort) may = ones_of_kind sort _

-- ---- the cells of the sides

module _ (g : Productions) (leaves : List Leaf) (shapes : List CellShape) (readings : List Reading) (vars : List Occurrence) (tokens : List RuleToken) where
  -- the rest of cells of a cell is that of its `...`, on each side
  abbrev pub rest_in : ℕ → ℕ → Bool → Bool → Inside → Option ℕ
  rest_in cell start before behind (CellsInside inner) = dots_number vars (tag_of cell start before behind)
  rest_in cell start before behind (ContentInside first past) = None

  pub rest_is : (left : Bool) (on : Stands) (cell start : ℕ) (before behind : Bool) (inside : Inside)
      → cells_rest (inside_body g leaves shapes readings vars tokens left on (tag_of cell start before behind) inside) ≡ rest_in cell start before behind inside
  rest_is left on cell start before behind (CellsInside inner) = ap cells_rest (body-Cells g leaves shapes readings vars tokens left on (tag_of cell start before behind) inner)
  rest_is left on cell start before behind (ContentInside first past) =
      ap cells_rest (body-Content g leaves shapes readings vars tokens left on (tag_of cell start before behind) first past)
      ∙ body_rest_none g _ vars (tag_of cell start before behind) left _ (kind_of shapes cell)

  module _ (cells : List TextCell) (rise : Rise 0 (map tag_of_cell cells)) where
    abbrev pub side_spots : Bool → List Spot
    side_spots left = pictures g leaves shapes readings vars tokens left cells

    -- a cell of a side is one of the text
    pub record IsFrom (left : Bool) (p : Spot) : Type 0 where
      pub one : TextCell
      pub has : Has cells one
      pub stands : is_on left one ≡ true
      pub is : spot_of g leaves shapes readings vars tokens left one ≡ p

    pub from : (left : Bool) (p : Spot) → Has (side_spots left) p → IsFrom left p
    from left p h =
        let t = map_has (spot_of g leaves shapes readings vars tokens left) (filter (is_on left) cells) p h in
        let k = kept (is_on left) cells t.0 t.1 in
        record { one = t.0; has = k.0; stands = k.1; is = t.2 }

    pub spot_marks : (left : Bool) → all_different (map (λ (p : Spot). p.mark) (side_spots left)) ≡ true
    spot_marks left =
        ap all_different (map_twice (λ (p : Spot). p.mark) (spot_of g leaves shapes readings vars tokens left) mark_in (λ one. refl) (filter (is_on left) cells))
        ∙ apart_different (map mark_in (filter (is_on left) cells)) (kept_apart mark_in (is_on left) cells (all_apart cells rise))

    -- two cells with one mark are one
    pub same_cell : (left right : Bool) (p q : Spot) (a : IsFrom left p) (b : IsFrom right q) → p.mark ≡ q.mark → a.one ≡ b.one
    same_cell left right p q a b same =
        one_cell 0 cells a.one b.one rise a.has b.has (ap (λ (s : Spot). s.mark) a.is ∙ same ∙ sym (ap (λ (s : Spot). s.mark) b.is))

    abbrev pub rest_of : TextCell → Option ℕ
    rest_of one = rest_in one.held.cell one.held.start one.held.left_dots one.held.right_dots one.held.inside

    pub from_rest : (left : Bool) (p : Spot) (a : IsFrom left p) → cells_rest p.body ≡ rest_of a.one
    from_rest left p a =
        sym (ap (λ (s : Spot). cells_rest s.body) a.is) ∙ rest_is left a.one.on a.one.held.cell a.one.held.start a.one.held.left_dots a.one.held.right_dots a.one.held.inside

    -- so that it is of one declared cell, in one cell, and has one rest of cells
    pub record AreOneCell (p q : Spot) : Type 0 where
      pub cell : p.cell ≡ q.cell
      pub above : p.above ≡ q.above
      pub rest : cells_rest p.body ≡ cells_rest q.body

    pub one_of_both : (p q : Spot) → Has (side_spots true) p → Has (side_spots false) q → p.mark ≡ q.mark → AreOneCell p q
    one_of_both p q h k same =
        let a = from true p h in
        let b = from false q k in
        let e = same_cell true false p q a b same in
        record {
          cell = sym (ap (λ (s : Spot). s.cell) a.is) ∙ ap (λ (one : TextCell). one.held.cell) e ∙ ap (λ (s : Spot). s.cell) b.is;
          above = sym (ap (λ (s : Spot). s.above) a.is) ∙ ap (λ (one : TextCell). one.above) e ∙ ap (λ (s : Spot). s.above) b.is;
          rest = from_rest true p a ∙ ap rest_of e ∙ sym (from_rest false q b);
        }
