-- What is told at one token has one sort: the occurrences of variables in a term.
use Rattle.std.proofs.Common.{◌≡◌, ℕ, ◌+◌, ◌<◌, ◌≤◌, Bool, true, false, cond, List, [], ◌∷◌, ◌++◌, Option, Some, None, refl, sym, ap, ◌∙◌, arith}
use Rattle.std.proofs.lemmas.Bool.Decides.{nat_tests}
use Rattle.std.specs.Prelude.{nat_lt, slice_get}
use Rattle.std.specs.List.{AllByRecursion}
use Rattle.grammar_terms.specs.declared.shape.Shape.{Shape, Leaf as LeafShape, Node' as NodeS', Items' as ItemsS', Row_of-Shape, end_of-Shape, more_of-Shape}
use Rattle.rule_parts.specs.declared.argument_sorts.Productions.{Productions}
use Rattle.rule_parts.specs.declared.leaves.Leaf.{Leaf}
use Rattle.rule_parts.specs.declared.leaves.LeafKind.{LeafKind}
use Rattle.rule_parts.specs.declared.leaves.LeafKind.TheVariants.{Variable, Literal, Other}
use Rattle.rule_parts.specs.declared.terms.Occurrence.{Occurrence}
use Rattle.rule_parts.specs.Terms.{sorts_of, place_sort, takes_sequence, is_sequence, is_end, occurrence_by, leaf_by, leaf_occurrence, rest_occurrence, occurrences, row_occurrences}
use Rattle.sound_sequences.proofs.Spans.{RestSpans, Spans, RowSpans, spans_order, row_order}
use Rattle.sound_sequences.proofs.Whats.{all_joined}

pub all_weaker : {X : Type 0} (P Q : X → Type 0) → ((x : X) → P x → Q x) → (xs : List X) → AllByRecursion P xs → AllByRecursion Q xs
all_weaker P Q to [] all = tt
all_weaker P Q to (x ∷ xs) all = (to x all.0, all_weaker P Q to xs all.1)

-- an occurrence within some tokens has the sort that a function gives its token
pub record IsAt (f : ℕ → ℕ) (from past : ℕ) (o : Occurrence) : Type 0 where
  pub low : from ≤ o.at
  pub high : o.at < past
  pub sort : o.sort ≡ f o.at

-- occurrences within some tokens have sorts by their tokens, whether they stand on the left or not
pub record Agree (from past : ℕ) (found : Bool → List Occurrence) : Type 0 where
  pub sort_at : ℕ → ℕ
  pub each : (left : Bool) → AllByRecursion (IsAt sort_at from past) (found left)

-- ---- two of them, one behind the other

abbrev pub joined : ℕ → (ℕ → ℕ) → (ℕ → ℕ) → ℕ → ℕ
joined middle f g at = cond (nat_lt at middle) (f at) (g at)

is_less : (at middle : ℕ) → at < middle → nat_lt at middle ≡ true
is_less at middle less = grind (arith, nat_tests)

is_not_less : (at middle : ℕ) → middle ≤ at → nat_lt at middle ≡ false
is_not_less at middle less = grind (arith, nat_tests)

pub is_before : (f g : ℕ → ℕ) (from middle past : ℕ) (o : Occurrence) → middle ≤ past → IsAt f from middle o → IsAt (joined middle f g) from past o
is_before f g from middle past o order is =
    let high = is.high in
    record { low = is.low; high = omega (arith, high, order); sort = is.sort ∙ sym (ap (λ b. cond b (f o.at) (g o.at)) (is_less o.at middle is.high)) }

pub is_behind : (f g : ℕ → ℕ) (from middle past : ℕ) (o : Occurrence) → from ≤ middle → IsAt g middle past o → IsAt (joined middle f g) from past o
is_behind f g from middle past o order is =
    let low = is.low in
    record { low = omega (arith, low, order); high = is.high; sort = is.sort ∙ sym (ap (λ b. cond b (f o.at) (g o.at)) (is_not_less o.at middle is.low)) }

pub no_variables : (from past : ℕ) → Agree from past (λ left. [])
no_variables from past = record { sort_at = λ n. 0; each = λ left. tt }

pub agree_joined : (from middle past : ℕ) (one other : Bool → List Occurrence) → from ≤ middle → middle ≤ past → Agree from middle one → Agree middle past other
    → Agree from past (λ left. one left ++ other left)
agree_joined from middle past one other low high a b = record {
  sort_at = joined middle a.sort_at b.sort_at;
  each = λ left.
      all_joined (IsAt (joined middle a.sort_at b.sort_at) from past) (one left) (other left)
      (all_weaker (IsAt a.sort_at from middle) (IsAt (joined middle a.sort_at b.sort_at) from past) (λ o is. is_before a.sort_at b.sort_at from middle past o high is) (one left) (a.each left))
      (all_weaker (IsAt b.sort_at middle past) (IsAt (joined middle a.sort_at b.sort_at) from past) (λ o is. is_behind a.sort_at b.sort_at from middle past o low is) (other left) (b.each left));
}

pub agree_wider : (less from past more : ℕ) (found : Bool → List Occurrence) → less ≤ from → past ≤ more → Agree from past found → Agree less more found
agree_wider less from past more found low high a = record {
  sort_at = a.sort_at;
  each = λ left.
      all_weaker (IsAt a.sort_at from past) (IsAt a.sort_at less more)
      (λ o is. let l = is.low in let h = is.high in record { low = omega (arith, l, low); high = omega (arith, h, high); sort = is.sort }) (found left) (a.each left);
}

-- the leaves are tokens one after another, the first of which has a number
abbrev pub StandFrom : ℕ → List Leaf → Type 0
StandFrom base leaves = (i : ℕ) (leaf : Leaf) → slice_get leaves i ≡ Some leaf → leaf.at ≡ base + i

module _ (g : Productions) (leaves : List Leaf) (base : ℕ) (stand : StandFrom base leaves) where
  kind_agrees : (at from past : ℕ) (k : LeafKind) (sort : ℕ) (whole : Bool) → from ≤ at → at < past → Agree from past (λ left. occurrence_by at k left sort whole)
  kind_agrees at from past (Variable home None) sort whole low high = record { sort_at = λ n. sort; each = λ left. (record { low = low; high = high; sort = refl }, tt) }
  kind_agrees at from past (Variable home (Some own)) sort whole low high = record { sort_at = λ n. own; each = λ left. (record { low = low; high = high; sort = refl }, tt) }
  kind_agrees at from past (Literal value) sort whole low high = no_variables from past
  kind_agrees at from past Other sort whole low high = no_variables from past

  by_leaf : (o : Option Leaf) (at from past sort : ℕ) (whole : Bool) → slice_get leaves at ≡ o → from ≤ at → at < past
      → Agree (base + from) (base + past) (λ left. leaf_by o left sort whole)
  by_leaf None at from past sort whole is low high = no_variables (base + from) (base + past)
  by_leaf (Some leaf) at from past sort whole is low high =
      let place = stand at leaf is in
      kind_agrees leaf.at (base + from) (base + past) leaf.kind sort whole (omega (arith, place, low)) (omega (arith, place, high))

  pub leaf_agrees : (at from past sort : ℕ) (whole : Bool) → from ≤ at → at < past
      → Agree (base + from) (base + past) (λ left. leaf_occurrence leaves left sort whole at)
  leaf_agrees at from past sort whole low high = by_leaf (slice_get leaves at) at from past sort whole refl low high

  rest_agrees : (rest : Option ℕ) (from past sort : ℕ) → RestSpans from past rest → Agree (base + from) (base + past) (λ left. rest_occurrence leaves left sort rest)
  rest_agrees None from past sort spans = no_variables (base + from) (base + past)
  rest_agrees (Some at) from past sort spans = leaf_agrees at from past sort true spans.0 spans.1

  rest_ordered : (rest : Option ℕ) (from past : ℕ) → RestSpans from past rest → base + from ≤ base + past
  rest_ordered None from past spans = omega (arith, spans)
  rest_ordered (Some at) from past spans = let low = spans.0 in let high = spans.1 in omega (arith, low, high)

  mutual
    unfolding occurrences row_occurrences Spans RowSpans

    pub term_agrees : (from past sort : ℕ) (whole : Bool) (shape : Shape) → Spans from past shape
        → Agree (base + from) (base + past) (λ left. occurrences g leaves left sort whole shape)
    term_agrees from past sort whole (LeafShape at) spans = leaf_agrees at from past sort whole spans.0 spans.1
    term_agrees from past sort whole (NodeS' p _ shapes) spans = row_agrees from past false false (sorts_of g p) 0 shapes spans
    term_agrees from past sort whole (ItemsS' p _ shapes rest) spans =
        let middle = spans.0 in
        let low = row_order from middle shapes spans.1 in
        agree_joined (base + from) (base + middle) (base + past) (λ left. row_occurrences g leaves left true (is_sequence p) (sorts_of g p) 0 shapes)
        (λ left. rest_occurrence leaves left (place_sort true (sorts_of g p) 0) rest) (omega (arith, low)) (rest_ordered rest middle past spans.2)
        (row_agrees from middle true (is_sequence p) (sorts_of g p) 0 shapes spans.1) (rest_agrees rest middle past (place_sort true (sorts_of g p) 0) spans.2)

    row_agrees : {n : _} (from past : ℕ) (list sequence : Bool) (sorts : List ℕ) (i : ℕ) (row : Row_of-Shape n) → RowSpans from past row
        → Agree (base + from) (base + past) (λ left. row_occurrences g leaves left list sequence sorts i row)
    row_agrees from past list sequence sorts i end_of-Shape spans = no_variables (base + from) (base + past)
    row_agrees from past list sequence sorts i (more_of-Shape shape shapes) spans =
        let middle = spans.0 in
        let low = spans_order from middle shape spans.1 in
        let high = row_order middle past shapes spans.2 in
        let sort = place_sort list sorts i in
        agree_joined (base + from) (base + middle) (base + past) (λ left. occurrences g leaves left sort (takes_sequence sequence sort (is_end shapes)) shape)
        (λ left. row_occurrences g leaves left list sequence sorts (i + 1) shapes) (omega (arith, low)) (omega (arith, high))
        (term_agrees from middle sort (takes_sequence sequence sort (is_end shapes)) shape spans.1) (row_agrees middle past list sequence sorts (i + 1) shapes spans.2)
