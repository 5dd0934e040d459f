-- Values as the terms that they are.
use Rattle.std.proofs.Common.{◌≡◌, ℕ, List, ◌∷◌, map, refl, ap, ◌∙◌}
use mathlib.Core.Former.{Count}
use Rattle.k_terms.specs.declared.value.Value.{Value, Node, Row_of-Value, end_of-Value, more_of-Value, items-the_row-Value, items_hidden-the_row-Value-0}
use Rattle.k_terms.specs.declared.value.Value.TheBlock.{hidden-the_row-Value-0}
use Rattle.rule_terms.specs.declared.pattern.Pattern.{Node as NodeP}
use Rattle.small_form.specs.Program.{term_of, row_terms}

row_terms_is : {n : Count} (r : Row_of-Value n) → row_terms r ≡ map term_of (items-the_row-Value n r)
unfolding row_terms
row_terms_is end_of-Value = refl
row_terms_is (more_of-Value v vs) = ap (λ t. term_of v ∷ t) (row_terms_is vs)

-- a value of production p is a term of it over the terms of its parts
pub term_of-Node : (p : ℕ) (vs : List Value) → term_of (Node p vs) ≡ NodeP p (map term_of vs)
unfolding term_of
term_of-Node p vs = ap (NodeP p) (row_terms_is (hidden-the_row-Value-0 vs) ∙ ap (map term_of) (items_hidden-the_row-Value-0 vs))
