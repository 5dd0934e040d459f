-- Which patterns and bodies are the same, and where a variable occurs.
use Rattle.std.specs.Prelude.{ℕ, Bool, true, false, ◌==◌, ◌&&◌, ◌||◌, List, [], ◌∷◌, Option, Some, None}
use Rattle.std.specs.List.{list_any}
use Rattle.std.specs.Ordering.{is_eq}
use Rattle.k_terms.specs.declared.op.Op.{Op}
use Rattle.k_terms.specs.declared.op.Op.TheVariants.{MulInt, DivInt, ModInt, AddInt, SubInt, JoinString, LtInt, LeInt, GtInt, GeInt, EqInt, NeInt, EqK, NeK, InKeys, Not, And, Or, SetKey, GetKey, SizeMap, SizeList, LengthString, IntToString}
use Rattle.k_terms.specs.Value.{value_cmp}
use Rattle.rule_terms.specs.declared.pattern.Pattern.{Pattern, Var, Lit, Node', Items', Seq', Freezer', Apply', Row_of-Pattern, end_of-Pattern, more_of-Pattern}
use Rattle.rule_terms.specs.declared.pattern.Body.{Body, Cells', Seq, Map, List as Listed, One, Made}
use Rattle.rule_terms.specs.declared.rule.Cond.{Cond}
use Rattle.rule_terms.specs.declared.rule.Cond.TheVariants.{Holds, IsSort, NotSort}

-- the place of an operator in the table
abbrev pub op_place : Op → ℕ
op_place MulInt = 0
op_place DivInt = 1
op_place ModInt = 2
op_place AddInt = 3
op_place SubInt = 4
op_place JoinString = 5
op_place LtInt = 6
op_place LeInt = 7
op_place GtInt = 8
op_place GeInt = 9
op_place EqInt = 10
op_place NeInt = 11
op_place EqK = 12
op_place NeK = 13
op_place InKeys = 14
op_place Not = 15
op_place And = 16
op_place Or = 17
op_place SetKey = 18
op_place GetKey = 19
op_place SizeMap = 20
op_place SizeList = 21
op_place LengthString = 22
op_place IntToString = 23

abbrev pub same_rest : Option ℕ → Option ℕ → Bool
same_rest None None = true
same_rest (Some x) (Some y) = x == y
same_rest _ _ = false

-- two patterns are the same
unfoldable mutual
  pub same_pattern : Pattern → Pattern → Bool
  same_pattern (Var x) (Var y) = x == y
  same_pattern (Lit v) (Lit w) = is_eq (value_cmp v w)
  same_pattern (Node' p _ ps) (Node' q _ qs) = p == q && same_row ps qs
  same_pattern (Items' p _ ps x) (Items' q _ qs y) = p == q && same_row ps qs && same_rest x y
  same_pattern (Seq' _ ps x) (Seq' _ qs y) = same_row ps qs && same_rest x y
  same_pattern (Freezer' p i _ ps) (Freezer' q j _ qs) = p == q && i == j && same_row ps qs
  same_pattern (Apply' f _ ps) (Apply' g _ qs) = op_place f == op_place g && same_row ps qs
  same_pattern _ _ = false

  pub same_row : {m n : _} → Row_of-Pattern m → Row_of-Pattern n → Bool
  same_row end_of-Pattern end_of-Pattern = true
  same_row end_of-Pattern (more_of-Pattern _ _) = false
  same_row (more_of-Pattern _ _) end_of-Pattern = false
  same_row (more_of-Pattern p ps) (more_of-Pattern q qs) = same_pattern p q && same_row ps qs

abbrev pub same_list : List Pattern → List Pattern → Bool
same_list [] [] = true
same_list (p ∷ ps) (q ∷ qs) = same_pattern p q && same_list ps qs
same_list _ _ = false

abbrev pub same_entry : Pattern × Pattern → Pattern × Pattern → Bool
same_entry e f = same_pattern e.0 f.0 && same_pattern e.1 f.1

abbrev pub same_entries : List (Pattern × Pattern) → List (Pattern × Pattern) → Bool
same_entries [] [] = true
same_entries (e ∷ es) (f ∷ fs) = same_entry e f && same_entries es fs
same_entries _ _ = false

-- two bodies have the same content: the same patterns in the same order, and the same rest
abbrev pub same_body : Body → Body → Bool
same_body (Seq ps x) (Seq qs y) = same_list ps qs && same_rest x y
same_body (Map es x) (Map fs y) = same_entries es fs && same_rest x y
same_body (Listed ps x qs) (Listed rs y ts) = same_list ps rs && same_rest x y && same_list qs ts
same_body (One p) (One q) = same_pattern p q
same_body (Made p) (Made q) = same_pattern p q
same_body _ _ = false

abbrev pub is_rest : ℕ → Option ℕ → Bool
is_rest x None = false
is_rest x (Some y) = x == y

-- the variable occurs in a pattern
unfoldable mutual
  pub mentions : ℕ → Pattern → Bool
  mentions x (Var y) = x == y
  mentions x (Lit _) = false
  mentions x (Node' _ _ ps) = row_mentions x ps
  mentions x (Items' _ _ ps rest) = row_mentions x ps || is_rest x rest
  mentions x (Seq' _ ps rest) = row_mentions x ps || is_rest x rest
  mentions x (Freezer' _ _ _ ps) = row_mentions x ps
  mentions x (Apply' _ _ ps) = row_mentions x ps

  pub row_mentions : {n : _} → ℕ → Row_of-Pattern n → Bool
  row_mentions x end_of-Pattern = false
  row_mentions x (more_of-Pattern p ps) = mentions x p || row_mentions x ps

abbrev pub cond_mentions : ℕ → Cond → Bool
cond_mentions x (Holds e) = mentions x e
cond_mentions x (IsSort y _) = x == y
cond_mentions x (NotSort y _) = x == y

-- the rest of a body
abbrev pub body_rest : Body → Option ℕ
body_rest (Cells' _ _ rest) = rest
body_rest (Seq _ rest) = rest
body_rest (Map _ rest) = rest
body_rest (Listed _ rest _) = rest
body_rest _ = None

-- the variable occurs in a body beside its rest; the cells in a body are not asked
abbrev pub parts_mention : ℕ → Body → Bool
parts_mention x (Cells' _ _ _) = false
parts_mention x (Seq ps _) = list_any (mentions x) ps
parts_mention x (Map es _) = list_any (λ e. mentions x e.0 || mentions x e.1) es
parts_mention x (Listed ps _ qs) = list_any (mentions x) ps || list_any (mentions x) qs
parts_mention x (One p) = mentions x p
parts_mention x (Made p) = mentions x p
