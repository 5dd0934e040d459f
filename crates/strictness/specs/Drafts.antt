-- The rules of heating and cooling.
use Rattle.std.specs.Prelude.{ℕ, ◌+◌, ◌-◌, ◌==◌, not, cond, List, [], ◌∷◌, ◌++◌, length, map, filter, Some}
use Rattle.std.specs.List.{flat_map, range_with_len}
use Rattle.k_terms.specs.Sorts.{sort_k, sort_kresult}
use Rattle.production_reader.specs.declared.prod.Attrs.{Attrs}
use Rattle.grammar_terms.specs.Grammar.{Syntax}
use Rattle.grammar_terms.specs.declared.production.Production.{Production}
use Rattle.rule_terms.specs.declared.pattern.Pattern.{Pattern, Var, Node, Freezer}
use Rattle.rule_terms.specs.declared.pattern.Body.{Seq}
use Rattle.rule_terms.specs.declared.pattern.CellPat.{CellPat}
use Rattle.rule_terms.specs.declared.rule.Cond.{Cond}
use Rattle.rule_terms.specs.declared.rule.Cond.TheVariants.{IsSort, NotSort}
use Rattle.rule_terms.specs.declared.rule.Origin.TheVariants.{Heat, Cool}
use Rattle.rule_terms.specs.declared.rule.Draft.{Draft}
use Rattle.strictness.specs.Places.{arguments, strict_places, declared_in}

-- The variables of n arguments are X1 to Xn, by their numbers from 0; the rest of the cell is variable n.
abbrev pub variables : ℕ → List Pattern
variables n = map Var (range_with_len 0 n)

-- all but the one of a place
abbrev pub others : ℕ → ℕ → List Pattern
others n place = map Var (filter (λ x. not (x + 1 == place)) (range_with_len 0 n))

abbrev pub sorts_of_variables : List ℕ → List ℕ
sorts_of_variables sorts = sorts ++ sort_k ∷ []

-- a cell with these parts at the front of its sequence
abbrev pub front : ℕ → ℕ → List Pattern → List CellPat
front cell rest parts = record { cell = cell; mark = 0; body = Seq parts (Some rest) } ∷ []

-- the production with its arguments
abbrev pub whole : ℕ → ℕ → List Pattern
whole p n = Node p (variables n) ∷ []

-- the argument of a place, and then the production with a hole there
abbrev pub pulled : ℕ → ℕ → ℕ → List Pattern
pulled p n place = Var (place - 1) ∷ Freezer p place (others n place) ∷ []

-- with `seqstrict` the arguments before are results
abbrev pub earlier : Attrs → ℕ → List Cond
earlier attrs place = cond attrs.seqstrict (map (λ x. IsSort x sort_kresult) (range_with_len 0 (place - 1))) []

-- the argument of a place is no result, and it is one
abbrev pub when_heated : Attrs → ℕ → List Cond
when_heated attrs place = NotSort (place - 1) sort_kresult ∷ earlier attrs place

abbrev pub when_cooled : ℕ → List Cond
when_cooled place = IsSort (place - 1) sort_kresult ∷ []

-- An argument that is no result is pulled out: production p, with arguments of these sorts, at the front of a cell.
abbrev pub heating : ℕ → ℕ → Attrs → List ℕ → ℕ → Draft
heating cell p attrs sorts place = record {
  origin = Heat p place;
  vars = sorts_of_variables sorts;
  left = front cell (length sorts) (whole p (length sorts));
  right = front cell (length sorts) (pulled p (length sorts) place);
  when = when_heated attrs place;
}

-- a result of the argument's sort is put back
abbrev pub cooling : ℕ → ℕ → List ℕ → ℕ → Draft
cooling cell p sorts place = record {
  origin = Cool p place;
  vars = sorts_of_variables sorts;
  left = front cell (length sorts) (pulled p (length sorts) place);
  right = front cell (length sorts) (whole p (length sorts));
  when = when_cooled place;
}

-- the two rules of a place
abbrev pub drafts_at : ℕ → ℕ → Production → ℕ → List Draft
drafts_at cell p production place =
    heating cell p production.attrs (arguments production) place ∷ cooling cell p (arguments production) place ∷ []

-- those of production p, place by place
abbrev pub drafts_of : ℕ → ℕ → Production → List Draft
drafts_of cell p production = flat_map (drafts_at cell p production) (strict_places production)

-- those of productions from production p on
abbrev pub drafts_from : ℕ → ℕ → List Production → List Draft
drafts_from cell p [] = []
drafts_from cell p (production ∷ productions) = drafts_of cell p production ++ drafts_from cell (p + 1) productions

-- the rules of a grammar over the cell k
abbrev pub strict_drafts : Syntax → ℕ → List Draft
strict_drafts g k = drafts_from k 1 (declared_in g)
