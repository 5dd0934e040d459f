-- What it means that a content is of a kind, and that what stands for variables is well formed.
use Rattle.std.specs.Prelude.{◌≡◌, ℕ, Some, IsTrue}
use Rattle.std.specs.List.{list_all}
use Rattle.k_terms.specs.declared.value.Value.{Value, Map as Mapping}
use Rattle.k_terms.specs.declared.value.Content.{Content}
use Rattle.k_terms.specs.declared.value.Content.TheVariants.{Cells as NoContent, Seq as SeqContent, Map as MapContent, List as ListContent, One as OneContent}
use Rattle.k_terms.specs.Value.{is_well_formed}
use Rattle.k_terms.specs.Sorts.{SortOrder, Below, least_sort}
use Rattle.rule_terms.specs.declared.defs.Kind.{Kind}
use Rattle.rule_terms.specs.declared.defs.Kind.TheVariants.{Cells, Seq, Map, List as Listed, One}
use Rattle.rule_terms.specs.Substitution.{Subst, value_at}

-- A content is of a kind. The keys of each map in it rise, and a single value is of the cell's sort.
abbrev pub IsOfKind : SortOrder → Kind → Content → Type 0
IsOfKind o Cells NoContent = Unit {0}
IsOfKind o Seq (SeqContent values) = IsTrue (list_all is_well_formed values)
IsOfKind o Map (MapContent entries) = IsTrue (is_well_formed (Mapping entries))
IsOfKind o Listed (ListContent values) = IsTrue (list_all is_well_formed values)
IsOfKind o (One sort) (OneContent v) = IsTrue (is_well_formed v) × Below o (least_sort o v) sort
IsOfKind o _ _ = ⊥

-- each value that a variable stands for is well formed
abbrev pub AllFormed : Subst → Type 0
AllFormed s = (x : ℕ) (v : Value) → value_at s x ≡ Some v → IsTrue (is_well_formed v)
