-- The tokens of a shape: they stand in order, from one place up to another.
use Rattle.std.proofs.Common.{ℕ, ◌<◌, ◌≤◌, List, [], ◌∷◌, ◌++◌, Option, Some, None, sym, subst, arith}
use Rattle.grammar_terms.specs.declared.shape.Shape.{Shape, Leaf, Node, Items, Node', Items', Row_of-Shape, end_of-Shape, more_of-Shape, items-the_row-Shape, items_hidden-the_row-Shape-0}
use Rattle.grammar_terms.specs.declared.shape.Shape.TheBlock.{hidden-the_row-Shape-0}

-- a rest is the last token
abbrev pub RestSpans : ℕ → ℕ → Option ℕ → Type 0
RestSpans from past None = from ≤ past
RestSpans from past (Some at) = (from ≤ at) × (at < past)

unfoldable mutual
  pub Spans : ℕ → ℕ → Shape → Type 0
  Spans from past (Leaf at) = (from ≤ at) × (at < past)
  Spans from past (Node' p _ shapes) = RowSpans from past shapes
  Spans from past (Items' p _ shapes rest) = (at : ℕ) × RowSpans from at shapes × RestSpans at past rest

  pub RowSpans : {n : _} → ℕ → ℕ → Row_of-Shape n → Type 0
  RowSpans from past end_of-Shape = from ≤ past
  RowSpans from past (more_of-Shape shape shapes) = (at : ℕ) × Spans from at shape × RowSpans at past shapes

-- the same of a list of shapes
abbrev pub AllSpans : ℕ → ℕ → List Shape → Type 0
AllSpans from past [] = from ≤ past
AllSpans from past (shape ∷ shapes) = (at : ℕ) × Spans from at shape × AllSpans at past shapes

pub row_all : {n : _} (from past : ℕ) (row : Row_of-Shape n) → RowSpans from past row → AllSpans from past (items-the_row-Shape n row)
unfolding RowSpans
row_all from past end_of-Shape spans = spans
row_all from past (more_of-Shape shape shapes) spans = (spans.0, spans.1, row_all spans.0 past shapes spans.2)

pub all_row : {n : _} (from past : ℕ) (row : Row_of-Shape n) → AllSpans from past (items-the_row-Shape n row) → RowSpans from past row
unfolding RowSpans
all_row from past end_of-Shape spans = spans
all_row from past (more_of-Shape shape shapes) spans = (spans.0, spans.1, all_row spans.0 past shapes spans.2)

hidden_spans : (from past : ℕ) (shapes : List Shape) → AllSpans from past shapes → RowSpans from past (hidden-the_row-Shape-0 shapes)
hidden_spans from past shapes spans = all_row from past (hidden-the_row-Shape-0 shapes) (subst (AllSpans from past) (sym (items_hidden-the_row-Shape-0 shapes)) spans)

pub spans-Leaf : (from past at : ℕ) → from ≤ at → at < past → Spans from past (Leaf at)
unfolding Spans
spans-Leaf from past at low high = (low, high)

pub spans-Node : (from past p : ℕ) (shapes : List Shape) → AllSpans from past shapes → Spans from past (Node p shapes)
unfolding Spans
spans-Node from past p shapes spans = hidden_spans from past shapes spans

pub spans-Items : (from at past p : ℕ) (shapes : List Shape) (rest : Option ℕ) → AllSpans from at shapes → RestSpans at past rest
    → Spans from past (Items p shapes rest)
unfolding Spans
spans-Items from at past p shapes rest spans last = (at, hidden_spans from at shapes spans, last)

-- ---- wider ones

pub rest_order : (from past : ℕ) (rest : Option ℕ) → RestSpans from past rest → from ≤ past
rest_order from past None spans = spans
rest_order from past (Some at) spans = let low = spans.0 in let high = spans.1 in omega (arith, low, high)

rest_wider : (from past more : ℕ) (rest : Option ℕ) → past ≤ more → RestSpans from past rest → RestSpans from more rest
rest_wider from past more None less spans = omega (arith, less, spans)
rest_wider from past more (Some at) less spans = let high = spans.1 in (spans.0, omega (arith, less, high))

mutual
  unfolding Spans RowSpans

  pub spans_order : (from past : ℕ) (shape : Shape) → Spans from past shape → from ≤ past
  spans_order from past (Leaf at) spans = let low = spans.0 in let high = spans.1 in omega (arith, low, high)
  spans_order from past (Node' p _ shapes) spans = row_order from past shapes spans
  spans_order from past (Items' p _ shapes rest) spans =
      let front = row_order from spans.0 shapes spans.1 in let back = rest_order spans.0 past rest spans.2 in omega (arith, front, back)

  pub row_order : {n : _} (from past : ℕ) (row : Row_of-Shape n) → RowSpans from past row → from ≤ past
  row_order from past end_of-Shape spans = spans
  row_order from past (more_of-Shape shape shapes) spans =
      let here = spans_order from spans.0 shape spans.1 in let later = row_order spans.0 past shapes spans.2 in omega (arith, here, later)

mutual
  unfolding Spans RowSpans

  pub spans_earlier : (less from past : ℕ) (shape : Shape) → less ≤ from → Spans from past shape → Spans less past shape
  spans_earlier less from past (Leaf at) before spans = let low = spans.0 in (omega (arith, before, low), spans.1)
  spans_earlier less from past (Node' p _ shapes) before spans = row_earlier less from past shapes before spans
  spans_earlier less from past (Items' p _ shapes rest) before spans = (spans.0, row_earlier less from spans.0 shapes before spans.1, spans.2)

  row_earlier : {n : _} (less from past : ℕ) (row : Row_of-Shape n) → less ≤ from → RowSpans from past row → RowSpans less past row
  row_earlier less from past end_of-Shape before spans = omega (arith, before, spans)
  row_earlier less from past (more_of-Shape shape shapes) before spans = (spans.0, spans_earlier less from spans.0 shape before spans.1, spans.2)

mutual
  unfolding Spans RowSpans

  pub spans_later : (from past more : ℕ) (shape : Shape) → past ≤ more → Spans from past shape → Spans from more shape
  spans_later from past more (Leaf at) after spans = let high = spans.1 in (spans.0, omega (arith, after, high))
  spans_later from past more (Node' p _ shapes) after spans = row_later from past more shapes after spans
  spans_later from past more (Items' p _ shapes rest) after spans = (spans.0, spans.1, rest_wider spans.0 past more rest after spans.2)

  row_later : {n : _} (from past more : ℕ) (row : Row_of-Shape n) → past ≤ more → RowSpans from past row → RowSpans from more row
  row_later from past more end_of-Shape after spans = omega (arith, after, spans)
  row_later from past more (more_of-Shape shape shapes) after spans = (spans.0, spans.1, row_later spans.0 past more shapes after spans.2)

pub all_later : (from past more : ℕ) (shapes : List Shape) → past ≤ more → AllSpans from past shapes → AllSpans from more shapes
all_later from past more [] after spans = omega (arith, after, spans)
all_later from past more (shape ∷ shapes) after spans = (spans.0, spans.1, all_later spans.0 past more shapes after spans.2)

pub all_order : (from past : ℕ) (shapes : List Shape) → AllSpans from past shapes → from ≤ past
all_order from past [] spans = spans
all_order from past (shape ∷ shapes) spans =
    let here = spans_order from spans.0 shape spans.1 in let later = all_order spans.0 past shapes spans.2 in omega (arith, here, later)

-- with one more behind
pub spans_more : (from at past : ℕ) (shapes : List Shape) (shape : Shape) → AllSpans from at shapes → Spans at past shape → AllSpans from past (shapes ++ shape ∷ [])
spans_more from at past [] shape spans last = (past, spans_earlier from at past shape spans last, omega arith)
spans_more from at past (first ∷ shapes) shape spans last = (spans.0, spans.1, spans_more spans.0 at past shapes shape spans.2 last)
