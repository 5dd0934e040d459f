-- How many patterns stand in a pattern, itself included.
use Rattle.std.proofs.Common.{arith, ◌≡◌, ℕ, zero, suc, ◌+◌, ◌<◌, ◌≤◌, List, [], ◌∷◌, length, get_or, refl, ap, subst, ◌∙◌}
use mathlib.Core.Former.{Count}
use Rattle.std.specs.Prelude.{Option}
use Rattle.rule_terms.specs.declared.pattern.Pattern.{Pattern, Var, Lit, Node as NodeP, Items as ItemsP, Seq as SeqP, Freezer as FreezerP, Node', Items', Seq', Freezer', Apply', Row_of-Pattern, end_of-Pattern, more_of-Pattern, items-the_row-Pattern, items_hidden-the_row-Pattern-0}
use Rattle.rule_terms.specs.declared.pattern.Pattern.TheBlock.{hidden-the_row-Pattern-0}

unfoldable mutual
  pub size : Pattern → ℕ
  size (Var _) = 1
  size (Lit _) = 1
  size (Node' _ _ parts) = suc (row_size parts)
  size (Items' _ _ parts _) = suc (row_size parts)
  size (Seq' _ parts _) = suc (row_size parts)
  size (Freezer' _ _ _ parts) = suc (row_size parts)
  size (Apply' _ _ parts) = suc (row_size parts)

  pub row_size : {n : _} → Row_of-Pattern n → ℕ
  row_size end_of-Pattern = 0
  row_size (more_of-Pattern p ps) = size p + row_size ps

abbrev pub size_all : List Pattern → ℕ
size_all [] = 0
size_all (p ∷ ps) = size p + size_all ps

row_is : {n : Count} (r : Row_of-Pattern n) → row_size r ≡ size_all (items-the_row-Pattern n r)
unfolding row_size
row_is end_of-Pattern = refl
row_is (more_of-Pattern p ps) = ap (λ n. size p + n) (row_is ps)

parts_are : (ps : List Pattern) → row_size (hidden-the_row-Pattern-0 ps) ≡ size_all ps
parts_are ps = row_is (hidden-the_row-Pattern-0 ps) ∙ ap size_all (items_hidden-the_row-Pattern-0 ps)

pub size-Node : (p : ℕ) (ps : List Pattern) → size (NodeP p ps) ≡ suc (size_all ps)
unfolding size
size-Node p ps = ap suc (parts_are ps)

pub size-Items : (p : ℕ) (ps : List Pattern) (rest : Option ℕ) → size (ItemsP p ps rest) ≡ suc (size_all ps)
unfolding size
size-Items p ps rest = ap suc (parts_are ps)

pub size-Seq : (ps : List Pattern) (rest : Option ℕ) → size (SeqP ps rest) ≡ suc (size_all ps)
unfolding size
size-Seq ps rest = ap suc (parts_are ps)

pub size-Freezer : (p i : ℕ) (ps : List Pattern) → size (FreezerP p i ps) ≡ suc (size_all ps)
unfolding size
size-Freezer p i ps = ap suc (parts_are ps)

-- none of several is larger than all
pub size_at : (ps : List Pattern) (i : ℕ) (p : Pattern) → i < length ps → p ≡ get_or ps i p → size p ≤ size_all ps
size_at [] i p within is = absurd (omega (arith, within))
size_at (q ∷ ps) zero p within is = subst (λ r. size p ≤ size r + size_all ps) is (omega arith)
size_at (q ∷ ps) (suc i) p within is = let more : size p ≤ size_all ps = size_at ps i p (omega (arith, within)) is in omega (arith, more)
