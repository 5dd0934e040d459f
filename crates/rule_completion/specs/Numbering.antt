-- The marks and the variables of the cells that a completion adds to those of a draft.
use Rattle.std.specs.Prelude.{ℕ, suc, ◌+◌, ◌*◌, ◌&&◌, nat_lt, Bool, true, List, [], ◌∷◌, Some, None}
use Rattle.std.specs.Option.{option_map_or}
use Rattle.rule_terms.specs.Sound.{cell_limit}
use Rattle.cell_completion.specs.declared.tree.Tree.{Tree, Tree', out-Tree, Row_of-Tree, end_of-Tree, more_of-Tree}

-- the marks of a draft are below this number: a rule has fewer tokens
abbrev pub mark_limit : ℕ
mark_limit = 1024

-- the declared cells and the marks of a tree are below their limits
unfoldable mutual
  pub is_few : Tree → Bool
  is_few (Tree' cell mark held inside) = nat_lt cell cell_limit && option_map_or (λ m. nat_lt m mark_limit) mark true && row_is_few inside

  pub row_is_few : {n : _} → Row_of-Tree n → Bool
  row_is_few end_of-Tree = true
  row_is_few (more_of-Tree t ts) = is_few t && row_is_few ts

-- how many cells of a tree are added
abbrev pub own_count : Tree → ℕ
own_count t = elim (out-Tree t).mark [ None ↦ 1 | Some _ ↦ 0 ]

unfoldable mutual
  pub count : Tree → ℕ
  count (Tree' cell None held inside) = suc (row_count inside)
  count (Tree' cell (Some mark) held inside) = row_count inside

  pub row_count : {n : _} → Row_of-Tree n → ℕ
  row_count end_of-Tree = 0
  row_count (more_of-Tree t ts) = count t + row_count ts

-- those of a list of trees
abbrev pub count_all : List Tree → ℕ
count_all [] = 0
count_all (t ∷ ts) = count t + count_all ts

-- Added cells are numbered from 0 on in pre-order. Their marks are behind those of a draft, and the marks of the declared
-- cells that are filled into new ones are behind these.
abbrev pub added_mark : ℕ → ℕ
added_mark number = mark_limit + number

abbrev pub default_marks : ℕ → ℕ → ℕ
default_marks total mark = mark_limit + total + mark * cell_limit
