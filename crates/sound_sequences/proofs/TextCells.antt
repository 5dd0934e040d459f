-- The cells of the text of a rule, with their contents, and what tells the variables of the text.
use Rattle.std.proofs.Common.{◌≡◌, inl, inr, ℕ, zero, suc, ◌+◌, ◌<◌, ◌≤◌, Bool, true, false, List, [], ◌∷◌, take, length, Option, Some, None, refl, sym, ap, subst, ◌∙◌, arith}
use Rattle.std.proofs.lemmas.Bool.{and_parts}
use Rattle.std.proofs.lemmas.List.{length-map, length-take}
use Rattle.std.specs.Prelude.{slice_get, unwrap_or, option_and_then}
use Rattle.std.specs.List.{AllByRecursion, flat_map}
use Rattle.k_terms.specs.declared.value.Symbol.{Symbol}
use Rattle.grammar_terms.specs.declared.word.Word.{Word}
use Rattle.live_config.proofs.Members.{Has, has_map}
use Rattle.production_reader.specs.Lexemes.{span}
use Rattle.rule_terms.specs.declared.defs.CellShape.{CellShape}
use Rattle.rule_terms.specs.declared.pattern.CellPat.{CellPat}
use Rattle.rule_tokens.specs.declared.token.RuleKind.{RuleKind}
use Rattle.rule_tokens.specs.declared.token.RuleKind.TheVariants as kind
use Rattle.rule_tokens.specs.declared.token.RuleToken.{RuleToken}
use Rattle.rule_cells.specs.declared.form.Inside.{Inside, Cells as CellsInside, Content as ContentInside}
use Rattle.rule_cells.specs.Forms.{IsWritten, IsBodyBy, is_word, is_when, begins_condition, condition_word}
use Rattle.rule_cells.specs.Marks.{kind_mark, marks}
use Rattle.rule_cells.specs.Written.{Side, side_at, signs_of_side, is_of_cells}
use Rattle.rule_contents.specs.Words.{word_of, meant}
use Rattle.rule_parts.specs.declared.argument_sorts.Productions.{Productions}
use Rattle.rule_parts.specs.declared.leaves.Leaf.{Leaf}
use Rattle.rule_parts.specs.declared.parts.Side.TheVariants.{Both}
use Rattle.rule_parts.specs.declared.terms.Occurrence.{Occurrence}
use Rattle.rule_drafts.specs.declared.reading.Reading.{Reading}
use Rattle.rule_drafts.specs.Cells.{is_open, mark_of, tag_of, body_cells, body_events, content_occurrences, event_occurrences}
use Rattle.rule_drafts.proofs.ItemLayers.{events-Content}
use Rattle.rule_reader.specs.Contents.{inside_contents}
use Rattle.strictness.specs.SoundDrafts.{spots_of}
use Rattle.draft_laws.proofs.WrittenCells.{TextCell, cell_at, side_cells, start_tag, side_starts, HoldsAsDeclared, side_held}
use Rattle.draft_laws.proofs.Sides.{front_held, pictures, side_shown, front_shown}
use Rattle.draft_laws.proofs.Events.{IsTag, tag_there}
use Rattle.sound_sequences.proofs.Whats.{all_joined}
use Rattle.rule_reader.proofs.Layers.{inside-Cells, inside-Content}
use Rattle.sound_sequences.proofs.TextContents.{content_in, Rise, rise_later, side_contents_are, side_rise}
use Rattle.sound_sequences.proofs.TextEvents.{Lies, lies_itself, side_lies}
use Rattle.sound_sequences.proofs.TextOccurrences.{CellHolds, content_told, side_told}
use Rattle.sound_sequences.proofs.Homes.{own_sort, variable_in, passed, words, variable_by}
use Rattle.sound_sequences.proofs.Follows.{Follows}

-- ---- tokens that tell no variable

-- an opening tag
opening_none : (sorts : List (Symbol × ℕ)) (k : RuleKind) → is_open k ≡ true → own_sort (meant sorts k).kind (meant sorts k).sort ≡ None
opening_none sorts (kind.Open cell) e = refl
opening_none sorts (kind.Close cell) e = refl
opening_none sorts kind.Rewrite e = refl
opening_none sorts kind.Then e = refl
opening_none sorts kind.MapsTo e = refl
opening_none sorts kind.Dots e = refl
opening_none sorts (kind.Dot sort) e = absurd (let f : false ≡ true = e in cc)
opening_none sorts kind.ListItem e = refl
opening_none sorts (kind.Terminal text) e = refl
opening_none sorts (kind.Literal value) e = refl
opening_none sorts (kind.Variable name sort) e = absurd (let f : false ≡ true = e in cc)

-- the word that begins a condition
word_none : (sorts : List (Symbol × ℕ)) (k : RuleKind) → is_word k ≡ true → own_sort (meant sorts k).kind (meant sorts k).sort ≡ None
word_none sorts (kind.Open cell) e = refl
word_none sorts (kind.Close cell) e = refl
word_none sorts kind.Rewrite e = refl
word_none sorts kind.Then e = refl
word_none sorts kind.MapsTo e = refl
word_none sorts kind.Dots e = refl
word_none sorts (kind.Dot sort) e = absurd (let f : false ≡ true = e in cc)
word_none sorts kind.ListItem e = refl
word_none sorts (kind.Terminal text) e = refl
word_none sorts (kind.Literal value) e = refl
word_none sorts (kind.Variable name sort) e = absurd (let f : false ≡ true = e in cc)

nothing_behind : {X : Type 0} (xs : List X) → slice_get xs (length xs) ≡ None
nothing_behind [] = refl
nothing_behind (x ∷ xs) = nothing_behind xs

place_within : {X : Type 0} (xs : List X) (i : ℕ) (x : X) → slice_get xs i ≡ Some x → i < length xs
place_within [] i x e = absurd (let f : None ≡ Some x = e in cc)
place_within (y ∷ xs) zero x e = omega arith
place_within (y ∷ xs) (suc i) x e = let less = place_within xs i x e in omega (arith, less)

module _ (tokens : List RuleToken) (sorts : List (Symbol × ℕ)) where
  tag_none : (at : ℕ) → IsTag tokens at → variable_in (words tokens sorts) at ≡ None
  tag_none at tag = variable_by tokens sorts at tag.token tag.token.kind tag.is refl ∙ opening_none sorts tag.token.kind tag.opening

  -- the tokens before the condition, and the one behind them
  abbrev pub body_size : List ℕ → ℕ
  body_size text = unwrap_or (condition_word text tokens) (length tokens)

  pub size_within : (text : List ℕ) → length (marks (take (body_size text) tokens)) ≤ body_size text
  size_within text =
      let e : length (marks (take (body_size text) tokens)) ≡ length (take (body_size text) tokens) = length-map (take (body_size text) tokens) (λ (token : RuleToken). kind_mark token.kind) in
      let f = length-take (body_size text) tokens in
      omega (arith, e, f)

  behind_by : (n : ℕ) → n ≤ length tokens → length (marks (take n tokens)) ≡ n
  behind_by n within =
      let e : length (marks (take n tokens)) ≡ length (take n tokens) = length-map (take n tokens) (λ (token : RuleToken). kind_mark token.kind) in
      let f = length-take n tokens in
      omega (arith, e, f, within)

  pub behind_none : (text : List ℕ) → variable_in (words tokens sorts) (length (marks (take (body_size text) tokens))) ≡ None
  behind_none text =
      elim (condition_word text tokens) as (λ o. condition_word text tokens ≡ o → variable_in (words tokens sorts) (length (marks (take (unwrap_or o (length tokens)) tokens))) ≡ None) [
        | None ↦ λ _.
            let size : length (words tokens sorts) ≡ length tokens = length-map tokens (word_of sorts) in
            ap (variable_in (words tokens sorts)) (behind_by (length tokens) (omega arith) ∙ sym size)
            ∙ ap (λ (o : Option Word). option_and_then (λ (word : Word). own_sort word.kind word.sort) o) (nothing_behind (words tokens sorts))
        | Some n ↦ λ e.
            let p = passed (begins_condition text) 0 tokens n e in
            let place : p.place ≡ n = (let f : n ≡ 0 + p.place = p.found_is in omega (arith, f)) in
            let less = place_within tokens p.place p.item p.is in
            ap (variable_in (words tokens sorts)) (behind_by n (omega (arith, place, less)) ∙ sym place)
            ∙ variable_by tokens sorts p.place p.item p.item.kind p.is refl
            ∙ word_none sorts p.item.kind (and_parts (is_word p.item.kind) (is_when (span text p.item.start p.item.end)) p.passes).0
      ] refl

module _ (g : Productions) (leaves : List Leaf) (shapes : List CellShape) (readings : List Reading) (vars : List Occurrence) (tokens : List RuleToken) (sorts : List (Symbol × ℕ)) (k m : ℕ) where
  abbrev pub sides : Bool → Inside → List CellPat
  sides left body = body_cells g leaves shapes readings vars tokens left k body

  abbrev pub told_in : Inside → List Occurrence
  told_in body = flat_map (event_occurrences g leaves shapes readings) (body_events k body)

  -- A body has these cells, on both sides, which hold cells or a content as declared, where the cell `k` has a content. Their contents are those of the body and rise; what is told in it is told by them, and none of their tags
  -- is a variable.
  pub record AreCells (body : Inside) (cells : List TextCell) : Type 0 where
    pub held : is_of_cells shapes k ≡ false → AllByRecursion (HoldsAsDeclared shapes) cells
    pub left : spots_of (sides true body) ≡ pictures g leaves shapes readings vars tokens true cells
    pub right : spots_of (sides false body) ≡ pictures g leaves shapes readings vars tokens false cells
    pub contents : inside_contents Both k body ≡ flat_map content_in cells
    pub rise : Rise 0 (m + 1) (flat_map content_in cells)
    pub lies : (one : TextCell) → Has cells one → Lies one (body_events k body)
    pub tags : (one : TextCell) → Has cells one → variable_in (words tokens sorts) one.held.start ≡ None
    pub told : (f : ℕ → ℕ) → AllByRecursion (CellHolds g leaves shapes readings (Follows (words tokens sorts) f)) cells
        → AllByRecursion (Follows (words tokens sorts) f) (told_in body)

  module _ (within : length (marks (take m tokens)) ≤ m) (none : variable_in (words tokens sorts) (length (marks (take m tokens))) ≡ None) where
    module _ (side : Side) (written : IsWritten shapes (marks (take m tokens)) side) where
      abbrev cells_in : List TextCell
      cells_in = side_cells (mark_of tokens) Both None 0 side

      side_tag : (one : TextCell) → Has cells_in one → variable_in (words tokens sorts) one.held.start ≡ None
      side_tag one h =
          tag_none tokens sorts one.held.start
          (tag_there m tokens (start_tag one)
          (subst (λ tags. Has tags (start_tag one)) (side_starts shapes (mark_of tokens) Both None 0 side written.allowed (take m tokens) (sym written.signs_are)) (has_map start_tag cells_in one h)))

      of_cells : AreCells (CellsInside (side_at 0 side)) cells_in
      of_cells =
          let size : length (signs_of_side side) ≡ length (marks (take m tokens)) = ap length written.signs_are in
          record {
            held = λ plain. side_held shapes (mark_of tokens) Both None 0 side written.allowed;
            left = side_shown g leaves shapes readings vars tokens true Both None 0 side;
            right = side_shown g leaves shapes readings vars tokens false Both None 0 side;
            contents = inside-Cells Both k (side_at 0 side) ∙ side_contents_are (mark_of tokens) Both None 0 side;
            rise = rise_later 0 (0 + length (signs_of_side side)) (m + 1) (flat_map content_in cells_in) (omega (arith, size, within)) (side_rise (mark_of tokens) Both None 0 side);
            lies = λ one h. side_lies (mark_of tokens) Both None 0 0 side one h;
            tags = side_tag;
            told = λ f all. (side_told g leaves shapes readings (Follows (words tokens sorts) f) (mark_of tokens) Both None 0 0 side all).told;
          }

    -- the one cell of a body that is a content
    abbrev past : ℕ
    past = length (marks (take m tokens))

    abbrev lone_cell : TextCell
    lone_cell = cell_at Both None (mark_of tokens past) (front_held k 0 past)

    lone_lies : (one : TextCell) → Has (lone_cell ∷ []) one → Lies one (body_events k (ContentInside 0 past))
    lone_lies one (inl e) = subst (λ (c : TextCell). Lies c (body_events k (ContentInside 0 past))) e (subst (Lies lone_cell) (events-Content Both (tag_of k past false true) 0 past) (lies_itself lone_cell))
    lone_lies one (inr n) = absurd n

    lone_tag : (one : TextCell) → Has (lone_cell ∷ []) one → variable_in (words tokens sorts) one.held.start ≡ None
    lone_tag one (inl e) = ap (λ (c : TextCell). variable_in (words tokens sorts) c.held.start) (sym e) ∙ none
    lone_tag one (inr n) = absurd n

    of_content : AreCells (ContentInside 0 past) (lone_cell ∷ [])
    of_content = record {
      held = λ plain. (plain, tt);
      left = front_shown g leaves shapes readings vars tokens true k 0 past;
      right = front_shown g leaves shapes readings vars tokens false k 0 past;
      contents = inside-Content Both k 0 past;
      rise = (omega arith, omega arith, omega (arith, within));
      lies = lone_lies;
      tags = lone_tag;
      told = λ f all.
          all_joined (Follows (words tokens sorts) f) (content_occurrences g leaves shapes readings Both (tag_of k past false true) 0) []
          (content_told g leaves shapes readings (Follows (words tokens sorts) f) Both None (mark_of tokens past) k past 0 past false true all.0) tt;
    }

    pub of_body : (bag : Bool) (body : Inside) → IsBodyBy shapes (marks (take m tokens)) bag body → (cells : List TextCell) × AreCells body cells
    of_body true body is = (side_cells (mark_of tokens) Both None 0 is.0, subst (λ b. AreCells b (side_cells (mark_of tokens) Both None 0 is.0)) (sym is.2) (of_cells is.0 is.1))
    of_body false body is = (lone_cell ∷ [], subst (λ b. AreCells b (lone_cell ∷ [])) (sym is) of_content)
