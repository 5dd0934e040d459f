-- A configuration is alike itself, so what a pattern is filled to is what the pattern is.
use Rattle.std.proofs.Common.{◌≡◌, [], refl, sym, subst}
use Rattle.std.specs.Prelude.{Some, IsSomeAnd}
use denote.Hole.Carrier.{out}
use mathlib.Core.Former.{Count}
use Rattle.rule_terms.specs.declared.plain.Plain.{Plain, Plain', out-Plain, Row_of-Plain, end_of-Plain, more_of-Plain, items-the_row-Plain, items_shown-the_row-Plain-0}
use Rattle.rule_terms.specs.declared.pattern.CellPat.{CellPat}
use Rattle.rule_terms.specs.Substitution.{Subst}
use Rattle.rule_terms.specs.Fill.{fill}
use Rattle.rule_terms.specs.Rewriting.{Alike, AllAlike, IsFilled}

mutual
  unfolding Alike AllAlike out-Plain out

  pub alike_self : (t : Plain) → Alike t t
  alike_self (Plain' cell content s children) =
      (refl, refl, subst (AllAlike children) (sym (items_shown-the_row-Plain-0 s children)) (all_alike_self children))

  pub all_alike_self : {n : Count} (row : Row_of-Plain n) → AllAlike row (items-the_row-Plain n row)
  all_alike_self end_of-Plain = refl
  all_alike_self (more_of-Plain t ts) = ([], t, items-the_row-Plain _ ts, refl, alike_self t, all_alike_self ts)

pub filled : (p : CellPat) (s : Subst) (t : Plain) → fill p s ≡ Some t → IsFilled p s t
filled p s t e = subst (λ o. IsSomeAnd o (λ u. Alike u t)) (sym e) (alike_self t)
