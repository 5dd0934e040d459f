-- A side is defined where each of its cells is: its content, and its rest of cells.
use Rattle.std.proofs.Common.{◌≡◌, ℕ, suc, Bool, true, false, ◌&&◌, List, [], ◌∷◌, ◌++◌, map, refl, sym, ap, ◌∙◌, arith}
use Rattle.std.specs.Prelude.{Option, Some, None, is_some, Contains}
use Rattle.std.specs.Option.{option_map, option_and_then}
use Rattle.std.specs.List.{list_all}
use mathlib.Core.Former.{Count}
use Rattle.rule_terms.specs.declared.pattern.Body.{Body, Cells', Seq, Map, List as Listed, One, Made, Row_of-CellPat, end_of-CellPat, more_of-CellPat}
use Rattle.rule_terms.specs.declared.pattern.CellPat.{CellPat}
use Rattle.rule_terms.specs.Options.{each_some, joined}
use Rattle.rule_terms.specs.Substitution.{Subst, cells_of}
use Rattle.rule_terms.specs.Fill.{content_of, fill, fill_body, fill_row, plain_cell}
use Rattle.rule_terms.specs.Spots.{Spot, spots, spots_in, row_spots}
use Rattle.rule_terms.specs.Sound.{cells_rest}
use Rattle.rule_terms.proofs.Defined.{both, joins, passes}
use Rattle.right_sides.specs.Contents.{contents_of}
use Rattle.right_sides.specs.Laws.{SideIsDefined}

-- the content of a cell is defined, and its rest of cells
abbrev has_content : Subst → Spot → Bool
has_content s p = is_some (content_of p.body s)

abbrev has_rest : Subst → Spot → Bool
has_rest s p = is_some (cells_of (cells_rest p.body) s)

abbrev has_both : Subst → Spot → Bool
has_both s p = has_content s p && has_rest s p

-- ---- truth values and lists

and_true : (a : Bool) → (a && true) ≡ a
and_true true = refl
and_true false = refl

and_assoc : (a b c : Bool) → ((a && b) && c) ≡ (a && (b && c))
and_assoc true b c = refl
and_assoc false b c = refl

and_swap : (a b : Bool) → (a && b) ≡ (b && a)
and_swap true b = sym (and_true b)
and_swap false true = refl
and_swap false false = refl

-- a cell that has no cells in it
plain : (a : Bool) → a ≡ ((a && true) && true)
plain true = refl
plain false = refl

all_append : {A : Type 0} (test : A → Bool) (xs ys : List A) → list_all test (xs ++ ys) ≡ (list_all test xs && list_all test ys)
all_append test [] ys = refl
all_append test (x ∷ xs) ys = ap (λ b. test x && b) (all_append test xs ys) ∙ sym (and_assoc (test x) (list_all test xs) (list_all test ys))

mapped_some : {A B : Type 0} (f : A → B) (o : Option A) → is_some (option_map f o) ≡ is_some o
mapped_some f None = refl
mapped_some f (Some x) = refl

step_some : {A : Type 0} (o : Option A) (os : Option (List A)) → is_some (option_and_then (λ x. option_map (λ xs. x ∷ xs) os) o) ≡ (is_some o && is_some os)
step_some None os = refl
step_some (Some x) None = refl
step_some (Some x) (Some xs) = refl

joined_some : {A : Type 0} (o p : Option (List A)) → is_some (joined o p) ≡ (is_some o && is_some p)
joined_some None p = refl
joined_some (Some xs) None = refl
joined_some (Some xs) (Some ys) = refl

each_some_all : {A B : Type 0} (f : A → Option B) (xs : List A) → is_some (each_some (map f xs)) ≡ list_all (λ x. is_some (f x)) xs
each_some_all f [] = refl
each_some_all f (x ∷ xs) = step_some (f x) (each_some (map f xs)) ∙ ap (λ b. is_some (f x) && b) (each_some_all f xs)

-- ---- cells

mutual
  unfolding fill_body fill_row spots_in row_spots

  body_defined : (above cell : ℕ) (body : Body) (s : Subst)
      → is_some (fill_body cell body s) ≡ ((is_some (content_of body s) && is_some (cells_of (cells_rest body) s)) && list_all (has_both s) (spots_in above body))
  body_defined above cell (Cells' _ children rest) s =
      mapped_some (plain_cell cell _) (joined (fill_row children s) (cells_of rest s))
      ∙ joined_some (fill_row children s) (cells_of rest s)
      ∙ and_swap (is_some (fill_row children s)) (is_some (cells_of rest s))
      ∙ ap (λ b. is_some (cells_of rest s) && b) (row_defined above children s)
  body_defined above cell (Seq parts rest) s = mapped_some _ (content_of (Seq parts rest) s) ∙ plain (is_some (content_of (Seq parts rest) s))
  body_defined above cell (Map entries rest) s = mapped_some _ (content_of (Map entries rest) s) ∙ plain (is_some (content_of (Map entries rest) s))
  body_defined above cell (Listed before rest after) s = mapped_some _ (content_of (Listed before rest after) s) ∙ plain (is_some (content_of (Listed before rest after) s))
  body_defined above cell (One q) s = mapped_some _ (content_of (One q) s) ∙ plain (is_some (content_of (One q) s))
  body_defined above cell (Made q) s = mapped_some _ (content_of (Made q) s) ∙ plain (is_some (content_of (Made q) s))

  row_defined : {n : Count} (above : ℕ) (row : Row_of-CellPat n) (s : Subst) → is_some (fill_row row s) ≡ list_all (has_both s) (row_spots above row)
  row_defined above end_of-CellPat s = refl
  row_defined above (more_of-CellPat cell mark body cells) s =
      step_some (fill_body cell body s) (fill_row cells s)
      ∙ (λ k. body_defined mark cell body s k && row_defined above cells s k)
      ∙ sym (all_append (has_both s) (record { cell = cell; mark = mark; above = Some above; body = body } ∷ spots_in mark body) (row_spots above cells))

-- a side is defined where each of its cells is
side_is : (side : CellPat) (s : Subst) → is_some (fill side s) ≡ list_all (has_both s) (spots side)
side_is side s = body_defined side.mark side.cell side.body s

-- ---- each cell's content, and each cell's rest

apart : (a b c d : Bool) → ((a && b) && (c && d)) ≡ ((a && c) && (b && d))
apart true true c d = refl
apart true false true d = refl
apart true false false d = refl
apart false b c d = refl

both_all : {A : Type 0} (one other : A → Bool) (xs : List A) → list_all (λ x. one x && other x) xs ≡ (list_all one xs && list_all other xs)
both_all one other [] = refl
both_all one other (x ∷ xs) = ap (λ b. (one x && other x) && b) (both_all one other xs) ∙ apart (one x) (other x) (list_all one xs) (list_all other xs)

all_of_each : {A : Type 0} (test : A → Bool) (xs : List A) → ((x : A) → Contains xs x → test x ≡ true) → list_all test xs ≡ true
all_of_each test [] each = refl
all_of_each test (x ∷ xs) each =
    joins (test x) (list_all test xs) (each x (0, omega arith, refl)) (all_of_each test xs (λ y has. each y (suc has.0, (let lt = has.1 in omega arith), has.2)))

-- the test of each cell's content is that all are defined
contents_all : (ps : List Spot) (s : Subst) → is_some (contents_of ps s) ≡ list_all (has_content s) ps
contents_all ps s = each_some_all (λ (p : Spot). content_of p.body s) ps

pub side_defined : SideIsDefined
side_defined side s = (
  (λ some.
      let all : (list_all (has_content s) (spots side) && list_all (has_rest s) (spots side)) ≡ true = sym (side_is side s ∙ both_all (has_content s) (has_rest s) (spots side)) ∙ some in
      let parts = both (list_all (has_content s) (spots side)) (list_all (has_rest s) (spots side)) all in
      (contents_all (spots side) s ∙ parts.0, (λ p has. passes (has_rest s) (spots side) p parts.1 has))),
  (λ parts.
      side_is side s
      ∙ both_all (has_content s) (has_rest s) (spots side)
      ∙ joins (list_all (has_content s) (spots side)) (list_all (has_rest s) (spots side)) (sym (contents_all (spots side) s) ∙ parts.0) (all_of_each (has_rest s) (spots side) parts.1)),
)
