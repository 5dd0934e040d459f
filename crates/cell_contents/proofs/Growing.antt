-- A table with an entry more, and the table of what is left of words.
use Rattle.std.proofs.Common.{◌≡◌, ◌⊎◌, inl, inr, ℕ, zero, suc, ◌+◌, ◌-◌, ◌<◌, ◌≤◌, List, [], ◌∷◌, ◌++◌, length, take, drop, Option, Some, None, refl, sym, ap, ◌∙◌, subst, arith, length-append}
use Rattle.std.specs.Prelude.{slice_get}
use Rattle.std.proofs.lemmas.List.{append_assoc, take-append-drop, length-drop}
use Rattle.std.proofs.Math.Seq.{take-append_seam, drop-append_seam}
use Rattle.grammar_terms.specs.declared.word.Word.{Word}
use Rattle.grammar_terms.specs.Grammar.{Syntax}
use Rattle.cell_contents.specs.declared.ways.Way.{Way}
use Rattle.cell_contents.specs.declared.ways.Way.TheVariants as way
use Rattle.cell_contents.specs.declared.found.Found.{Found}
use Rattle.cell_contents.specs.declared.found.Found.TheVariants.{Zero, One}
use Rattle.cell_contents.specs.declared.table.Entry.{Entry}
use Rattle.cell_contents.specs.declared.table.Table.{Table}
use Rattle.cell_contents.specs.Tails.{Begins, mark_before, IsTail}
use Rattle.cell_contents.specs.Tables.{Finds, IsEntry, IsRow, IsTable}

pub get_before : {X : Type 0} (xs ys : List X) (n : ℕ) → n < length xs → slice_get (xs ++ ys) n ≡ slice_get xs n
get_before [] ys n less = absurd (omega (arith, less))
get_before (x ∷ xs) ys zero less = refl
get_before (x ∷ xs) ys (suc n) less = get_before xs ys n (omega (arith, less))

pub get_last : {X : Type 0} (xs : List X) (x : X) → slice_get (xs ++ x ∷ []) (length xs) ≡ Some x
get_last [] x = refl
get_last (y ∷ xs) x = get_last xs x

less_or_same : (a b : ℕ) → a < b + 1 → (a < b) ⊎ (a ≡ b)
less_or_same a b less = grind (arith, less)

begins_longer : (w : Way) (more before : List Word) → Begins w before → Begins w (more ++ before)
begins_longer w more before b = (more ++ b.0, ap (λ ws. more ++ ws) b.1 ∙ sym (append_assoc more b.0 (mark_before w)))

row_later : (g : Syntax) (more before rest : List Word) (row : Option Entry) → IsRow g (more ++ before) rest row → IsRow g before rest row
row_later g more before rest None is = is
row_later g more before rest (Some entry) is = λ w begins. is w (begins_longer w more before begins)

-- what is left of words, where that is shorter
pub table_behind : (g : Syntax) (words before rest : List Word) (size less : ℕ) (table : Table) → before ++ rest ≡ words → less ≤ size → IsTable g words size table → IsTable g rest less table
table_behind g words before rest size less table e le t = record {
  rows = λ front back s short. row_later g before front back (slice_get table.entries (length back))
      (t.rows (before ++ front) back (append_assoc before front back ∙ ap (λ ws. before ++ ws) s ∙ e) (omega (arith, short, le)));
  end_is = t.end_is;
  none_is = t.none_is;
}

pub table_empty : (g : Syntax) (words : List Word) (table : Table) → table.end ≡ One [] → table.none ≡ Zero → IsTable g words 0 table
table_empty g words table end none = record { rows = λ before rest e less. absurd (omega (arith, less)); end_is = end; none_is = none }

parts_front : (words before rest : List Word) (left : ℕ) → before ++ rest ≡ words → length rest ≡ left → take (length words - left) words ≡ before
parts_front words before rest left e same =
    let size = sym (ap length e) ∙ length-append before rest in
    let n : length words - left ≡ length before = omega (arith, size, same) in
    (λ i. take (n i) (sym e i)) ∙ take-append_seam before rest

parts_back : (words before rest : List Word) (left : ℕ) → before ++ rest ≡ words → length rest ≡ left → drop (length words - left) words ≡ rest
parts_back words before rest left e same =
    let size = sym (ap length e) ∙ length-append before rest in
    let n : length words - left ≡ length before = omega (arith, size, same) in
    (λ i. drop (n i) (sym e i)) ∙ drop-append_seam before rest

-- one entry more
pub table_more : (g : Syntax) (words : List Word) (left : ℕ) (table : Table) (entries : List Entry) (entry : Entry)
    → length table.entries ≡ left → entries ≡ table.entries ++ entry ∷ []
    → IsEntry g (take (length words - left) words) (drop (length words - left) words) entry → IsTable g words left table
    → IsTable g words (left + 1) (record table { entries = entries })
table_more g words left table entries entry count is new t = record {
  rows = λ before rest e less. elim (less_or_same (length rest) left less) [
    | inl short ↦
        let inside : length rest < length table.entries = omega (arith, short, count) in
        let same : slice_get table.entries (length rest) ≡ slice_get entries (length rest) = sym (get_before table.entries (entry ∷ []) (length rest) inside) ∙ ap (λ es. slice_get es (length rest)) (sym is) in
        subst (IsRow g before rest) same (t.rows before rest e short)
    | inr here ↦
        let found : Some entry ≡ slice_get entries (length rest) = sym (get_last table.entries entry) ∙ (λ i. slice_get (sym is i) ((count ∙ sym here) i)) in
        let P : List Word → Type 0 = λ front. IsEntry g front (drop (length words - left) words) entry in
        let Q : List Word → Type 0 = λ back. IsEntry g before back entry in
        subst (IsRow g before rest) found (subst Q (parts_back words before rest left e here) (subst P (parts_front words before rest left e here) new))
  ];
  end_is = t.end_is;
  none_is = t.none_is;
}

pub rest_table : (g : Syntax) (words : List Word) (left : ℕ) (table : Table) → left < length words → IsTable g words left table
    → IsTable g (drop (length words - left) words) (length (drop (length words - left) words)) table
rest_table g words left table less t =
    let size = length-drop (length words - left) words in
    table_behind g words (take (length words - left) words) (drop (length words - left) words) left (length (drop (length words - left) words)) table
    (take-append-drop (length words - left) words) (omega (arith, size, less)) t

-- the table of what is left, under another name
pub rest_table_by : (g : Syntax) (words rest : List Word) (left : ℕ) (table : Table) → rest ≡ drop (length words - left) words → left < length words → IsTable g words left table → IsTable g rest (length rest) table
rest_table_by g words rest left table e less t =
    let P : List Word → Type 0 = λ ws. IsTable g ws (length ws) table in
    subst P (sym e) (rest_table g words left table less t)

-- the table of what stands behind a first item
pub part_table : (g : Syntax) (words front back : List Word) (n : ℕ) (table : Table) → front ≡ take (n + 1) words → back ≡ drop (n + 1) words → n < length words
    → IsTable g words (length words) table → IsTable g back (length back + 1) table
part_table g words front back n table f b less t =
    let size = ap length b ∙ length-drop (n + 1) words in
    table_behind g words front back (length words) (length back + 1) table ((λ i. f i ++ b i) ∙ take-append-drop (n + 1) words) (omega (arith, size, less)) t

pub entry_is : (g : Syntax) (before words : List Word) (item key value member : Found)
    → (Begins way.Item before → Finds g (IsTail g way.Item words) item) → (Begins way.Key before → Finds g (IsTail g way.Key words) key)
    → (Begins way.Value before → Finds g (IsTail g way.Value words) value) → (Begins way.Member before → Finds g (IsTail g way.Member words) member)
    → IsEntry g before words (record { item = item; key = key; value = value; member = member })
entry_is g before words item key value member a b c d way.Item begins = a begins
entry_is g before words item key value member a b c d way.Key begins = b begins
entry_is g before words item key value member a b c d way.Value begins = c begins
entry_is g before words item key value member a b c d way.Member begins = d begins

pub more_count : (entries all : List Entry) (entry : Entry) (left : ℕ) → length entries ≡ left → all ≡ entries ++ entry ∷ [] → length all ≡ left + 1
more_count entries all entry left count is =
    let size = ap length is ∙ length-append entries (entry ∷ []) in
    omega (arith, size, count)

-- one entry more, under other names
pub table_step : (g : Syntax) (words before rest : List Word) (left : ℕ) (table : Table) (entries : List Entry) (entry : Entry)
    → length table.entries ≡ left → before ≡ take (length words - left) words → rest ≡ drop (length words - left) words → entries ≡ table.entries ++ entry ∷ []
    → IsEntry g before rest entry → IsTable g words left table → IsTable g words (left + 1) (record table { entries = entries })
table_step g words before rest left table entries entry count b r is new t =
    let P : List Word → Type 0 = λ ws. IsEntry g ws rest entry in
    let Q : List Word → Type 0 = λ ws. IsEntry g (take (length words - left) words) ws entry in
    table_more g words left table entries entry count is (subst Q r (subst P b new)) t

pub table_whole : (g : Syntax) (words : List Word) (left : ℕ) (table : Table) → left ≡ length words → IsTable g words left table → IsTable g words (length words) table
table_whole g words left table e t = let P : ℕ → Type 0 = λ n. IsTable g words n table in subst P e t
