-- Ordinary rewriting by plain substitution: one step, a run, and what it means that no rule matches.
use Rattle.std.specs.Prelude.{◌≡◌, List, [], ◌∷◌, ◌++◌, IsSomeAnd, Contains}
use Rattle.std.specs.List.{AllByRecursion}
use Rattle.k_terms.specs.Sorts.{SortOrder}
use Rattle.rule_terms.specs.declared.plain.Plain.{Plain, Plain', out-Plain, Row_of-Plain, end_of-Plain, more_of-Plain}
use Rattle.rule_terms.specs.declared.pattern.CellPat.{CellPat}
use Rattle.rule_terms.specs.declared.rule.Rule.{Rule}
use Rattle.rule_terms.specs.Substitution.{Subst, AreOfSorts}
use Rattle.rule_terms.specs.Eval.{IsMet}
use Rattle.rule_terms.specs.Fill.{fill}
use Rattle.rule_terms.specs.Language.{Language}

-- Two configurations are equal up to the order of children: the cells and contents are equal, and the children pair off.
unfoldable mutual
  pub Alike : Plain → Plain → Type 0
  Alike (Plain' cell content _ children) u =
      (cell ≡ (out-Plain u).cell) × (content ≡ (out-Plain u).content) × AllAlike children (out-Plain u).children

  pub AllAlike : {n : _} → Row_of-Plain n → List Plain → Type 0
  AllAlike end_of-Plain us = us ≡ []
  AllAlike (more_of-Plain t ts) us =
      (before : List Plain) × (u : Plain) × (after : List Plain) × (us ≡ before ++ u ∷ after) × Alike t u × AllAlike ts (before ++ after)

-- the pattern is this configuration under the substitution
abbrev pub IsFilled : CellPat → Subst → Plain → Type 0
IsFilled p s t = IsSomeAnd (fill p s) (λ filled. Alike filled t)

-- the substitution is of the variables' sorts, and meets the conditions
pub record Suits (o : SortOrder) (r : Rule) (s : Subst) : Type 0 where
  pub sorts : AreOfSorts o r.vars s
  pub conditions : AllByRecursion (IsMet o s) r.when

-- one step of a rule: the left side is the configuration before, the right side the one after
pub record Step (o : SortOrder) (t : Plain) (r : Rule) (s : Subst) (u : Plain) : Type 0 where
  pub suits : Suits o r s
  pub before : IsFilled r.left s t
  pub after : IsFilled r.right s u

-- the steps of these rules and substitutions, in order, lead from t to u
abbrev pub Run : SortOrder → Plain → List (Rule × Subst) → Plain → Type 0
Run o t [] u = Alike t u
Run o t (p ∷ ps) u = (mid : Plain) × Step o t p.0 p.1 mid × Run o mid ps u

-- no rule matches
abbrev pub IsStuck : Language → Plain → Type 0
IsStuck d t = (r : Rule) (s : Subst) (u : Plain) → Contains d.rules r → ¬ Step d.sorts t r s u
