-- What is told at one token has one sort: the occurrences of variables in a content.
use Rattle.std.proofs.Common.{◌≡◌, ℕ, ◌+◌, ◌≤◌, Bool, List, [], ◌∷◌, ◌++◌, refl, arith}
use Rattle.grammar_terms.specs.declared.shape.Shape.{Shape, Leaf as LeafShape, Node' as NodeS', Items' as ItemsS', Row_of-Shape, end_of-Shape, more_of-Shape, items-the_row-Shape}
use Rattle.rule_terms.specs.declared.defs.Kind.{Kind}
use Rattle.rule_contents.specs.declared.reading.Form.{Form}
use Rattle.rule_contents.specs.declared.reading.Form.TheVariants.{Sides, Made as MadeForm, Expression}
use Rattle.rule_parts.specs.declared.argument_sorts.Productions.{Productions}
use Rattle.rule_parts.specs.declared.leaves.Leaf.{Leaf}
use Rattle.rule_parts.specs.declared.parts.Side.{Side}
use Rattle.rule_parts.specs.declared.parts.Role.{Role}
use Rattle.rule_parts.specs.declared.parts.Role.TheVariants.{Item as ItemRole, Tail as TailRole, Entry as EntryRole, Rest as RestRole, Nothing, Inner as InnerRole, Splice, Whole as WholeRole, Made as MadeRole, Value, Changed, Becomes}
use Rattle.rule_parts.specs.declared.parts.What.TheVariants.{Item, Made, Inner, Whole}
use Rattle.rule_parts.specs.declared.parts.Part.{Part}
use Rattle.rule_parts.specs.Sides.{what_occurrences}
use Rattle.rule_parts.specs.Parts.{left_of, right_of, role_of, part, nested, leaf_place, value_parts, entry_parts, lone_parts, parts_in, row_parts, inner_parts, change_parts, made_parts, form_parts}
use Rattle.sound_sequences.proofs.Spans.{Spans, RowSpans, AllSpans, row_all, spans_order, row_order, rest_order, spans_later}
use Rattle.sound_sequences.proofs.Agreeing.{StandFrom, agree_wider}
use Rattle.sound_sequences.proofs.PartsAgree.{PartsAgree, none_agree, two_agree, change_agrees, item_agrees, made_agrees, tail_agrees, rest_agrees, entry_agrees, changed_agrees}

-- the two sides of a change, and where they stand
record IsChange (from past : ℕ) (before after : Shape) : Type 0 where
  one : ℕ
  two : ℕ
  three : ℕ
  four : ℕ
  low : from ≤ one
  befores : Spans one two before
  middle : two ≤ three
  afters : Spans three four after
  high : four ≤ past

of_three : (from past : ℕ) (before arrow after : Shape) → AllSpans from past (before ∷ arrow ∷ after ∷ []) → IsChange from past before after
of_three from past before arrow after spans =
    let order = spans_order spans.0 spans.2.0 arrow spans.2.1 in
    record {
      one = from;
      two = spans.0;
      three = spans.2.0;
      four = spans.2.2.0;
      low = omega arith;
      befores = spans.1;
      middle = order;
      afters = spans.2.2.1;
      high = spans.2.2.2;
    }

of_five : (from past : ℕ) (bracket before arrow after closing : Shape) → AllSpans from past (bracket ∷ before ∷ arrow ∷ after ∷ closing ∷ [])
    → IsChange from past before after
of_five from past bracket before arrow after closing spans =
    let first = spans_order from spans.0 bracket spans.1 in
    let order = spans_order spans.2.0 spans.2.2.0 arrow spans.2.2.1 in
    let last = spans_order spans.2.2.2.0 spans.2.2.2.2.0 closing spans.2.2.2.2.1 in
    let end = spans.2.2.2.2.2 in
    record {
      one = spans.0;
      two = spans.2.0;
      three = spans.2.2.0;
      four = spans.2.2.2.0;
      low = first;
      befores = spans.2.1;
      middle = order;
      afters = spans.2.2.2.1;
      high = omega (arith, last, end);
    }

module _ (g : Productions) (leaves : List Leaf) (base : ℕ) (stand : StandFrom base leaves) (kind : Kind) (count : ℕ) where
  abbrev TheyAgree : ℕ → ℕ → List (Part Shape) → Type 0
  TheyAgree from past parts = PartsAgree g leaves base stand kind count from past parts

  nothing : (from past : ℕ) → TheyAgree from past []
  nothing from past = none_agree g leaves base stand kind count from past

  wider : (from past more : ℕ) (parts : List (Part Shape)) → past ≤ more → TheyAgree from past parts → TheyAgree from more parts
  wider from past more parts less a = agree_wider (base + from) (base + from) (base + past) (base + more) _ (omega arith) (omega (arith, less)) a

  -- ---- productions without sides in them

  value_agrees : (role : Role) (from middle past : ℕ) (side : Side) (key : Shape) (shapes : List Shape) → Spans from middle key → AllSpans middle past shapes
      → TheyAgree from past (value_parts role side key shapes)
  value_agrees Value from middle past side key (value ∷ []) keys spans =
      entry_agrees g leaves base stand kind count from middle past side key value keys (spans_later middle spans.0 past value spans.2 spans.1)
  value_agrees Changed from middle past side key (bracket ∷ before ∷ arrow ∷ after ∷ closing ∷ []) keys spans =
      let c = of_five middle past bracket before arrow after closing spans in
      changed_agrees g leaves base stand kind count (Inner (leaf_place bracket)) from middle c.one c.two c.three past side key before after (λ on. refl) keys c.low c.befores c.middle
      (spans_later c.three c.four past after c.high c.afters)
  value_agrees role from middle past side key shapes keys spans = nothing from past

  entry_parts_agree : (from middle past : ℕ) (side : Side) (key entry : Shape) → Spans from middle key → Spans middle past entry
      → TheyAgree from past (entry_parts kind count side key entry)
  unfolding Spans
  entry_parts_agree from middle past side key (LeafShape at) keys spans = nothing from past
  entry_parts_agree from middle past side key (NodeS' p s shapes) keys spans =
      value_agrees (role_of kind count p) from middle past side key (items-the_row-Shape _ shapes) keys (row_all middle past shapes spans)
  entry_parts_agree from middle past side key (ItemsS' p s shapes rest) keys spans = nothing from past

  -- a change, of what is read as its sides
  change_of : (what : _) (side : Side) (from past : ℕ) (before after : Shape) (xs ys : List (Part Shape)) (c : IsChange from past before after)
      → ((on : Bool) → what_occurrences g leaves kind on what ≡ []) → TheyAgree c.one c.two xs → TheyAgree c.three c.four ys
      → TheyAgree from past (nested what side ++ xs ++ ys)
  change_of what side from past before after xs ys c bare left right =
      let order = spans_order c.one c.two before c.befores in
      let also = spans_order c.three c.four after c.afters in
      change_agrees g leaves base stand kind count what side from c.one c.two c.three past xs ys bare c.low c.middle order (let high = c.high in omega (arith, also, high)) left
      (wider c.three c.four past ys c.high right)

  lone_agrees : (role : Role) (from past : ℕ) (side : Side) (shapes : List Shape) → AllSpans from past shapes
      → TheyAgree from past (lone_parts kind count role side shapes)
  lone_agrees ItemRole from past side (item ∷ []) spans = item_agrees g leaves base stand kind count from past side item (spans_later from spans.0 past item spans.2 spans.1)
  lone_agrees TailRole from past side (leaf ∷ []) spans = tail_agrees g leaves base stand kind count from past side leaf (spans_later from spans.0 past leaf spans.2 spans.1)
  lone_agrees RestRole from past side (leaf ∷ []) spans = rest_agrees g leaves base stand kind count from past side leaf (spans_later from spans.0 past leaf spans.2 spans.1)
  lone_agrees EntryRole from past side (key ∷ entry ∷ []) spans =
      entry_parts_agree from spans.0 past side key entry spans.1 (spans_later spans.0 spans.2.0 past entry spans.2.2 spans.2.1)
  lone_agrees Becomes from past side (before ∷ arrow ∷ after ∷ []) spans =
      let c = of_three from past before arrow after spans in
      change_of Whole side from past before after (part (left_of side) (Item before)) (part (right_of side) (Item after)) c (λ on. refl)
      (item_agrees g leaves base stand kind count c.one c.two (left_of side) before c.befores) (item_agrees g leaves base stand kind count c.three c.four (right_of side) after c.afters)
  lone_agrees role from past side shapes spans = nothing from past

  -- ---- contents

  by_role : (role : Role) (from past : ℕ) (side : Side) {n : _} (row : Row_of-Shape n) → RowSpans from past row
      → TheyAgree from past (row_parts kind count side row) → TheyAgree from past (inner_parts kind count side row)
      → TheyAgree from past (change_parts kind count side row)
      → TheyAgree from past (made_parts kind count side row)
      → TheyAgree from past (elim role [
        | Splice ↦ row_parts kind count side row
        | InnerRole ↦ inner_parts kind count side row
        | WholeRole ↦ change_parts kind count side row
        | MadeRole ↦ made_parts kind count side row
        | other ↦ lone_parts kind count other side (items-the_row-Shape n row)
      ])
  by_role Splice from past side row spans splice inner change made = splice
  by_role InnerRole from past side row spans splice inner change made = inner
  by_role WholeRole from past side row spans splice inner change made = change
  by_role MadeRole from past side row spans splice inner change made = made
  by_role ItemRole from past side row spans splice inner change made = lone_agrees ItemRole from past side (items-the_row-Shape _ row) (row_all from past row spans)
  by_role TailRole from past side row spans splice inner change made = lone_agrees TailRole from past side (items-the_row-Shape _ row) (row_all from past row spans)
  by_role EntryRole from past side row spans splice inner change made = lone_agrees EntryRole from past side (items-the_row-Shape _ row) (row_all from past row spans)
  by_role RestRole from past side row spans splice inner change made = lone_agrees RestRole from past side (items-the_row-Shape _ row) (row_all from past row spans)
  by_role Nothing from past side row spans splice inner change made = nothing from past
  by_role Value from past side row spans splice inner change made = nothing from past
  by_role Changed from past side row spans splice inner change made = nothing from past
  by_role Becomes from past side row spans splice inner change made = lone_agrees Becomes from past side (items-the_row-Shape _ row) (row_all from past row spans)

  mutual
    unfolding parts_in row_parts inner_parts change_parts made_parts Spans RowSpans

    pub shape_agrees : (from past : ℕ) (side : Side) (shape : Shape) → Spans from past shape → TheyAgree from past (parts_in kind count side shape)
    shape_agrees from past side (LeafShape at) spans = nothing from past
    shape_agrees from past side (NodeS' p s shapes) spans =
        by_role (role_of kind count p) from past side shapes spans (row_agree from past side shapes spans) (inner_agree from past side shapes spans) (change_agree from past side shapes spans)
        (made_agree from past side shapes spans)
    shape_agrees from past side (ItemsS' p s shapes rest) spans =
        wider from spans.0 past (row_parts kind count side shapes) (rest_order spans.0 past rest spans.2) (row_agree from spans.0 side shapes spans.1)

    row_agree : {n : _} (from past : ℕ) (side : Side) (row : Row_of-Shape n) → RowSpans from past row → TheyAgree from past (row_parts kind count side row)
    row_agree from past side end_of-Shape spans = nothing from past
    row_agree from past side (more_of-Shape shape shapes) spans =
        two_agree g leaves base stand kind count from spans.0 past (parts_in kind count side shape) (row_parts kind count side shapes) (spans_order from spans.0 shape spans.1)
        (row_order spans.0 past shapes spans.2) (shape_agrees from spans.0 side shape spans.1) (row_agree spans.0 past side shapes spans.2)

    inner_agree : {n : _} (from past : ℕ) (side : Side) (row : Row_of-Shape n) → RowSpans from past row → TheyAgree from past (inner_parts kind count side row)
    inner_agree from past side (more_of-Shape bracket (more_of-Shape before (more_of-Shape arrow (more_of-Shape after (more_of-Shape closing end_of-Shape))))) spans =
        let c = of_five from past bracket before arrow after closing spans in
        change_of (Inner (leaf_place bracket)) side from past before after (parts_in kind count (left_of side) before) (parts_in kind count (right_of side) after) c (λ on. refl)
        (shape_agrees c.one c.two (left_of side) before c.befores) (shape_agrees c.three c.four (right_of side) after c.afters)
    inner_agree from past side row spans = nothing from past

    change_agree : {n : _} (from past : ℕ) (side : Side) (row : Row_of-Shape n) → RowSpans from past row → TheyAgree from past (change_parts kind count side row)
    change_agree from past side (more_of-Shape before (more_of-Shape arrow (more_of-Shape after end_of-Shape))) spans =
        let c = of_three from past before arrow after spans in
        change_of Whole side from past before after (parts_in kind count (left_of side) before) (parts_in kind count (right_of side) after) c (λ on. refl)
        (shape_agrees c.one c.two (left_of side) before c.befores) (shape_agrees c.three c.four (right_of side) after c.afters)
    change_agree from past side row spans = nothing from past

    made_agree : {n : _} (from past : ℕ) (side : Side) (row : Row_of-Shape n) → RowSpans from past row → TheyAgree from past (made_parts kind count side row)
    made_agree from past side (more_of-Shape before (more_of-Shape arrow (more_of-Shape after end_of-Shape))) spans =
        let c = of_three from past before arrow after spans in
        change_of Whole side from past before after (parts_in kind count (left_of side) before) (part (right_of side) (Made after)) c (λ on. refl)
        (shape_agrees c.one c.two (left_of side) before c.befores) (made_agrees g leaves base stand kind count c.three c.four (right_of side) after c.afters)
    made_agree from past side row spans = nothing from past

  pub content_agrees : (from past : ℕ) (side : Side) (form : Form) (shape : Shape) → Spans from past shape
      → TheyAgree from past (form_parts kind count side form shape)
  content_agrees from past side Sides shape spans = shape_agrees from past side shape spans
  content_agrees from past side MadeForm shape spans = shape_agrees from past side shape spans
  content_agrees from past side Expression shape spans = made_agrees g leaves base stand kind count from past side shape spans
