-- The variables of a rule have sorts in one way, or one fault.
use Rattle.std.proofs.Common.{◌≡◌, ℕ, not, cond, List, [], ◌∷◌, map, refl, sym, ap, ◌∙◌, Option, Some, None, inl, inr}
use Rattle.std.specs.Prelude.{is_some, option_map, unwrap_or, ◌⊎◌}
use Rattle.std.specs.List.{find}
use Rattle.k_terms.specs.declared.value.Symbol.{Symbol}
use Rattle.rule_tokens.specs.declared.sorts.Named.{Named}
use Rattle.rule_tokens.specs.declared.sorts.VariableFault.{VariableFault}
use Rattle.rule_tokens.specs.declared.sorts.VariableFault.TheVariants.{Unsorted, SortClash, Memory}
use Rattle.rule_tokens.specs.Variables.{is_unsorted, sorted_name, first_sort, AreSorts, IsVariableFault}

abbrev heads : List (Symbol × Option ℕ) → Symbol × Option ℕ → Symbol × Option ℕ
heads [] other = other
heads (item ∷ items) other = item

abbrev tails : List (Symbol × Option ℕ) → List (Symbol × Option ℕ)
tails [] = []
tails (item ∷ items) = items

same_entries : (one other : List (Symbol × ℕ)) → map sorted_name one ≡ map sorted_name other → one ≡ other
same_entries [] [] same = refl
same_entries [] (o ∷ other) same = absurd (cc)
same_entries (e ∷ one) [] same = absurd (cc)
same_entries (e ∷ one) (o ∷ other) same =
    let head : sorted_name e ≡ sorted_name o = ap (λ items. heads items (sorted_name e)) same in
    let name : e.0 ≡ o.0 = ap (λ (p : Symbol × Option ℕ). p.0) head in
    let sort : e.1 ≡ o.1 = ap (λ (p : Symbol × Option ℕ). unwrap_or p.1 e.1) head in
    let rest : one ≡ other = same_entries one other (ap tails same) in
    λ i. (name i, sort i) ∷ rest i

pub one_sorts : (variables : List Named) (one other : List (Symbol × ℕ)) → AreSorts variables one → AreSorts variables other → one ≡ other
one_sorts variables one other f g = same_entries one other (f.0 ∙ sym g.0)

all_sorted : (variables : List Named) (sorts : List (Symbol × ℕ)) → map sorted_name sorts ≡ map first_sort variables → find is_unsorted variables ≡ None
all_sorted [] sorts are = refl
all_sorted (variable ∷ variables) [] are = absurd (cc)
all_sorted (variable ∷ variables) (sort ∷ sorts) are =
    let head : sorted_name sort ≡ first_sort variable = ap (λ items. heads items (sorted_name sort)) are in
    let first : Some sort.1 ≡ variable.first = ap (λ (p : Symbol × Option ℕ). p.1) head in
    ap (λ o. cond (not (is_some o)) (Some variable) (find is_unsorted variables)) (sym first) ∙ all_sorted variables sorts (ap tails are)

pub sorts_or_fault : (variables : List Named) (sorts : List (Symbol × ℕ)) (fault : VariableFault) → AreSorts variables sorts → IsVariableFault variables fault → fault ≡ Memory
sorts_or_fault variables sorts (Unsorted name) are fails =
    let none : None ≡ Some name = sym (ap (option_map (λ (variable : Named). variable.name)) (all_sorted variables sorts are.0)) ∙ fails in absurd (cc)
sorts_or_fault variables sorts (SortClash name first other) are fails = absurd (let none : None ≡ Some (record { name = name; first = Some first; other = Some other }) = sym are.1 ∙ fails.1 in cc)
sorts_or_fault variables sorts Memory are fails = refl

abbrev name_in : Option Named → Option Symbol
name_in found = option_map (λ (variable : Named). variable.name) found

abbrev apart : Symbol → ℕ → ℕ → Named
apart name first other = record { name = name; first = Some first; other = Some other }

same_clash : (n m : Symbol) (a b c d : ℕ) → ◌≡◌ {A = Option Named} (Some (apart n a b)) (Some (apart m c d)) → SortClash n a b ≡ SortClash m c d
same_clash n m a b c d same =
    let name : n ≡ m = ap (λ o. (unwrap_or o (apart n a b)).name) same in
    let first : a ≡ c = ap (λ o. unwrap_or (unwrap_or o (apart n a b)).first a) same in
    let other : b ≡ d = ap (λ o. unwrap_or (unwrap_or o (apart n a b)).other b) same in
    λ i. SortClash (name i) (first i) (other i)

pub one_variable_fault : (variables : List Named) (one other : VariableFault) → IsVariableFault variables one → IsVariableFault variables other → (one ≡ Memory) ⊎ (other ≡ Memory) ⊎ (one ≡ other)
one_variable_fault variables Memory other f g = inl refl
one_variable_fault variables one Memory f g = inr (inl refl)
one_variable_fault variables (Unsorted n) (Unsorted m) f g = inr (inr (let same : n ≡ m = ap (λ o. unwrap_or o n) (sym f ∙ g) in ap (λ name. Unsorted name) same))
one_variable_fault variables (Unsorted n) (SortClash m c d) f g = absurd (let none : None ≡ Some n = sym (ap name_in g.0) ∙ f in cc)
one_variable_fault variables (SortClash n a b) (Unsorted m) f g = absurd (let none : None ≡ Some m = sym (ap name_in f.0) ∙ g in cc)
one_variable_fault variables (SortClash n a b) (SortClash m c d) f g = inr (inr (same_clash n m a b c d (sym f.1 ∙ g.1)))
