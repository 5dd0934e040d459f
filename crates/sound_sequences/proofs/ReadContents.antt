-- The contents of a rule: each has its reading, and its variables have sorts by their tokens.
use Rattle.std.proofs.Common.{◌≡◌, inl, inr, ℕ, ◌+◌, ◌-◌, ◌<◌, ◌≤◌, Bool, true, false, cond, ◌==◌, List, [], ◌∷◌, ◌++◌, length, drop, Option, Some, refl, sym, ap, subst, ◌∙◌, arith}
use Rattle.std.proofs.lemmas.Bool.{eq-eqb}
use Rattle.std.proofs.lemmas.Bool.Decides.{nat_tests}
use Rattle.std.proofs.lemmas.List.{length-take}
use Rattle.std.specs.List.{AllByRecursion, flat_map, find}
use Rattle.grammar_terms.specs.Grammar.{Syntax}
use Rattle.grammar_terms.specs.declared.word.Word.{Word}
use Rattle.live_config.proofs.Members.{Has, has_left, has_right}
use Rattle.rule_terms.specs.declared.defs.CellShape.{CellShape}
use Rattle.rule_cells.specs.declared.form.Inside.{Inside, Cells as CellsInside, Content as ContentInside}
use Rattle.rule_contents.specs.Contents.{with_content}
use Rattle.rule_parts.specs.declared.leaves.Leaf.{Leaf}
use Rattle.rule_parts.specs.declared.parts.Side.{Side as Stands}
use Rattle.rule_parts.specs.declared.terms.Occurrence.{Occurrence}
use Rattle.rule_parts.specs.Productions.{productions_of}
use Rattle.rule_parts.specs.Sides.{part_occurrences}
use Rattle.rule_drafts.specs.declared.reading.Reading.{Reading}
use Rattle.rule_drafts.specs.Cells.{kind_of, reading_at, parts_of}
use Rattle.rule_reader.specs.declared.contents.Content.{Content}
use Rattle.rule_reader.specs.Contents.{is_new}
use Rattle.rule_reader.specs.Places.{between}
use Rattle.rule_reader.specs.Readings.{IsReadAs, AreReadAs}
use Rattle.draft_laws.proofs.WrittenCells.{TextCell}
use Rattle.sound_sequences.proofs.Spanned.{reading_spans}
use Rattle.sound_sequences.proofs.Agreeing.{all_weaker, IsAt, Agree, joined, is_before, is_behind, no_variables, agree_wider, StandFrom}
use Rattle.sound_sequences.proofs.ContentsAgree.{content_agrees}
use Rattle.sound_sequences.proofs.Follows.{dropped_stand}
use Rattle.sound_sequences.proofs.TextContents.{content_by, content_in, Rise}
use Rattle.sound_sequences.proofs.TextOccurrences.{found_by, found_in}

rise_low : (from past : ℕ) (contents : List Content) (content : Content) → Rise from past contents → Has contents content → from ≤ content.first
rise_low from past [] content rise h = absurd h
rise_low from past (one ∷ contents) content rise (inl e) = let low = rise.0 in let same = ap (λ (c : Content). c.first) e in omega (arith, low, same)
rise_low from past (one ∷ contents) content rise (inr h) =
    let low = rise.0 in let order = rise.1 in let later = rise_low (one.past + 1) past contents content rise.2 h in omega (arith, low, order, later)

pub rise_order : (from past : ℕ) (contents : List Content) → Rise from past contents → from ≤ past
rise_order from past [] rise = rise
rise_order from past (one ∷ contents) rise = let low = rise.0 in let order = rise.1 in let later = rise_order (one.past + 1) past contents rise.2 in omega (arith, low, order, later)

has_flat : {X Y : Type 0} (f : X → List Y) (xs : List X) (x : X) (y : Y) → Has xs x → Has (f x) y → Has (flat_map f xs) y
has_flat f [] x y h there = absurd h
has_flat f (z ∷ xs) x y (inl e) there = has_left (f z) (flat_map f xs) y (subst (λ (w : _). Has (f w) y) (sym e) there)
has_flat f (z ∷ xs) x y (inr h) there = has_right (f z) (flat_map f xs) y (has_flat f xs x y h there)

between_short : (words : List Word) (first past : ℕ) → first ≤ past → first + length (between words first past) ≤ past
between_short words first past order = let e = length-take (past - first) (drop first words) in omega (arith, e, order)

module _ (g : Syntax) (shapes : List CellShape) (words : List Word) (readings : List Reading) where
  -- a content has its reading, which is found by its first token
  pub record IsFound (content : Content) : Type 0 where
    pub reading : Reading
    pub there : reading_at readings content.first ≡ Some reading
    pub is : IsReadAs g shapes words content reading

  abbrev at_first : ℕ → Reading → Bool
  at_first first reading = reading.first == first

  here_found : (reading : Reading) (more : List Reading) (first : ℕ) → reading.first ≡ first → find (at_first first) (reading ∷ more) ≡ Some reading
  here_found reading more first e = ap (λ b. cond b (Some reading) (find (at_first first) more)) (eq-eqb reading.first first e)

  later_found : (reading : Reading) (more : List Reading) (first : ℕ) → reading.first < first → find (at_first first) (reading ∷ more) ≡ find (at_first first) more
  later_found reading more first less =
      let other : (reading.first == first) ≡ false = grind (arith, nat_tests) in
      ap (λ b. cond b (Some reading) (find (at_first first) more)) other

  find_in : (contents : List Content) (some : List Reading) (from past : ℕ) → AreReadAs g shapes words contents some → Rise from past contents
      → (content : Content) → Has contents content
      → (reading : Reading) × (find (at_first content.first) some ≡ Some reading) × IsReadAs g shapes words content reading
  find_in [] some from past are rise content h = absurd h
  find_in (one ∷ contents) [] from past are rise content h = absurd are
  find_in (one ∷ contents) (reading ∷ some) from past are rise content (inl e) =
      (reading, here_found reading some content.first (are.0.first_is ∙ ap (λ (c : Content). c.first) e), subst (λ (c : Content). IsReadAs g shapes words c reading) e are.0)
  find_in (one ∷ contents) (reading ∷ some) from past are rise content (inr h) =
      let rest = find_in contents some (one.past + 1) past are.1 rise.2 content h in
      let low = rise_low (one.past + 1) past contents content rise.2 h in
      let order = rise.1 in
      let first = are.0.first_is in
      (rest.0, later_found reading some content.first (omega (arith, low, order, first)) ∙ rest.1, rest.2)

  -- the content of a cell has its reading, and stands in order
  abbrev pub HasReading : Stands → ℕ → Inside → Type 0
  HasReading on cell (CellsInside side) = Unit {0}
  HasReading on cell (ContentInside first past) = IsFound (record { cell = cell; is_new = is_new on; first = first; past = past })

  cell_reading : (on : Stands) (cell : ℕ) (inside : Inside) → ((content : Content) → Has (content_by on cell inside) content → IsFound content)
      → HasReading on cell inside
  cell_reading on cell (CellsInside side) each = tt
  cell_reading on cell (ContentInside first past) each = each _ (inl refl)

  pub cells_read : (cells : List TextCell) (contents : List Content) (from past : ℕ) → contents ≡ flat_map content_in cells
      → AreReadAs g shapes words contents readings
      → Rise from past (flat_map content_in cells) → (one : TextCell) → Has cells one → HasReading one.on one.held.cell one.held.inside
  cells_read cells contents from past same are rise one h =
      cell_reading one.on one.held.cell one.held.inside (λ content there.
      let found = find_in (flat_map content_in cells) readings from past (subst (λ (cs : List Content). AreReadAs g shapes words cs readings) same are) rise content (has_flat content_in cells one content h there) in
      record { reading = found.0; there = found.1; is = found.2 })

  -- ---- the variables of contents

  module _ (leaves : List Leaf) (stand : StandFrom 0 leaves) where
    abbrev found_of : Stands → ℕ → ℕ → Bool → Bool → Inside → List Occurrence
    found_of on cell start left right inside = found_by (productions_of g) leaves shapes readings on cell start left right inside

    content_agree : (on : Stands) (cell start first past : ℕ) (left right : Bool) → first ≤ past
        → IsFound (record { cell = cell; is_new = is_new on; first = first; past = past })
        → Agree first (past + 1) (λ l. found_of on cell start left right (ContentInside first past))
    content_agree on cell start first past left right order found =
        let kind = kind_of shapes cell in
        let count = length (productions_of g).arguments in
        let spans = reading_spans (with_content g kind) (between words first past) found.is.is.sort found.reading.shape found.is.is.only.0 in
        let short = between_short words first past order in
        subst (λ (o : Option Reading). Agree first (past + 1) (λ l. flat_map (part_occurrences (productions_of g) (drop first leaves) kind) (parts_of kind count on o))) (sym found.there)
        (agree_wider first (first + 0) (first + length (between words first past)) (past + 1) _ (omega arith) (omega (arith, short))
        (content_agrees (productions_of g) (drop first leaves) first (dropped_stand first leaves stand) kind count 0 (length (between words first past)) on found.reading.form found.reading.shape spans))

    -- the content of a cell, and those behind it
    record IsNext (from past : ℕ) (found : List Occurrence) (rest : List Content) : Type 0 where
      middle : ℕ
      order : from ≤ middle
      agree : Agree from middle (λ l. found)
      rise : Rise middle past rest

    next : (on : Stands) (cell start : ℕ) (left right : Bool) (inside : Inside) (from past : ℕ) (rest : List Content)
        → Rise from past (content_by on cell inside ++ rest) → HasReading on cell inside
        → IsNext from past (found_of on cell start left right inside) rest
    next on cell start left right (CellsInside side) from past rest rise read = record { middle = from; order = omega arith; agree = no_variables from from; rise = rise }
    next on cell start left right (ContentInside first last) from past rest rise read =
        let low = rise.0 in
        let order = rise.1 in
        record {
          middle = last + 1;
          order = omega (arith, low, order);
          agree = agree_wider from first (last + 1) (last + 1) _ low (omega arith) (content_agree on cell start first last left right rise.1 read);
          rise = rise.2;
        }

    abbrev AreAt : (ℕ → ℕ) → ℕ → ℕ → TextCell → Type 0
    AreAt f from past one = AllByRecursion (IsAt f from past) (found_in (productions_of g) leaves shapes readings one)

    -- the variables of contents have sorts by their tokens
    pub record CellsAgree (from past : ℕ) (cells : List TextCell) : Type 0 where
      pub sort_at : ℕ → ℕ
      pub each : AllByRecursion (λ (one : TextCell). AllByRecursion (IsAt sort_at from past) (found_in (productions_of g) leaves shapes readings one)) cells

    pub cells_agree : (cells : List TextCell) (from past : ℕ) → Rise from past (flat_map content_in cells)
        → ((one : TextCell) → Has cells one → HasReading one.on one.held.cell one.held.inside) → CellsAgree from past cells
    cells_agree [] from past rise read = record { sort_at = λ n. 0; each = tt }
    cells_agree (one ∷ cells) from past rise read =
        let step = next one.on one.held.cell one.held.start one.held.left_dots one.held.right_dots one.held.inside from past (flat_map content_in cells) rise (read one (inl refl)) in
        let rest = cells_agree cells step.middle past step.rise (λ other h. read other (inr h)) in
        let a = step.agree.sort_at in
        let b = rest.sort_at in
        let high = rise_order step.middle past (flat_map content_in cells) step.rise in
        record {
          sort_at = joined step.middle a b;
          each = (
            all_weaker (IsAt a from step.middle) (IsAt (joined step.middle a b) from past) (λ o is. is_before a b from step.middle past o high is)
                (found_in (productions_of g) leaves shapes readings one) (step.agree.each true),
            all_weaker (AreAt b step.middle past) (AreAt (joined step.middle a b) from past)
                (λ other all. all_weaker (IsAt b step.middle past) (IsAt (joined step.middle a b) from past) (λ o is. is_behind a b from step.middle past o step.order is)
                (found_in (productions_of g) leaves shapes readings other) all) cells rest.each,
          );
        }
