-- Which rules are sound, on closed rules, by computation.
use Rattle.std.proofs.Common.{◌≡◌, ℕ, ◌<◌, Bool, true, false, ◌==◌, List, [], ◌∷◌, refl, subst, arith}
use Rattle.std.proofs.lemmas.Bool.{eqb-true}
use Rattle.std.specs.Prelude.{Some, None, Contains, codes}
use Rattle.k_terms.specs.declared.op.Op.TheVariants.{SetKey}
use Rattle.k_terms.specs.declared.value.Value.{Value, Node, Map as Mapping}
use Rattle.k_terms.specs.Sorts.{SortOrder, Below, same, subsort}
use Rattle.rule_terms.specs.declared.defs.Kind.{Kind}
use Rattle.rule_terms.specs.declared.defs.Kind.TheVariants.{Cells as CellsKind, Seq as SeqKind, Map as MapKind, List as ListKind, One as OneKind}
use Rattle.rule_terms.specs.declared.pattern.Pattern.{Pattern, Var, Lit, Node as NodeP, Freezer as FreezerP, Apply}
use Rattle.rule_terms.specs.declared.pattern.Body.{Body, Seq, Map, Made}
use Rattle.rule_terms.specs.declared.pattern.CellPat.{CellPat}
use Rattle.rule_terms.specs.declared.rule.Origin.TheVariants.{Written}
use Rattle.rule_terms.specs.declared.rule.Rule.{Rule}
use Rattle.rule_terms.specs.Spots.{Spot, spots}
use Rattle.rule_terms.specs.Sound.{IsSoundRule, IsSound, is_body_of}
use Rattle.rule_terms.specs.Language.{Language}
use Rattle.rule_terms.specs.Substitution.{Whole, AreOfSorts}
use Rattle.rule_terms.specs.Fill.{fill}
use Rattle.rule_terms.specs.Kinds.{AllFormed}
use Rattle.rule_terms.specs.Open.{open_rules}
use Rattle.rule_terms.proofs.ExamplesPar.{language, shape, around, inner, leaf, with_memory, name_x, number}
use Rattle.rule_terms.proofs.ExamplesEval.{imp_sorts, heat, cool}
use Rattle.rule_terms.proofs.Known.{has_known, row_has_known}
use Rattle.rule_terms.proofs.Sounding.{is_sound, is_sound_rule, sound_rule, sound_definition}

-- two sorts are the same: the test of the order of sorts that no definition refutes
abbrev pub is_same_sort : ℕ → ℕ → Bool
is_same_sort a b = a == b

pub same_sort : (o : SortOrder) (a b : ℕ) → is_same_sort a b ≡ true → Below o a b
same_sort o a b e = subst (Below o a) (eqb-true a b e) (same a)

language_passes : is_sound is_same_sort language ≡ true
unfolding open_rules has_known row_has_known
language_passes = refl

-- the language of threads over one memory is sound, with each of its ten rules
pub language_is_sound : IsSound language
language_is_sound = sound_definition is_same_sort language (same_sort language.sorts) language_passes

-- ---- heating, cooling, and a memory that an expression makes
abbrev in_state : List Pattern → Body → CellPat
in_state parts memory = inner 0 0 (leaf 1 1 (Seq parts (Some 3)) ∷ leaf 2 2 memory ∷ []) (Some 4)

-- rule <k> X:Id = N:Int => . ...</k> <state> M:Map => M[X <- N] </state>
abbrev assign_number : Rule
assign_number = record {
  origin = Written 0;
  vars = 6 ∷ 3 ∷ 7 ∷ 0 ∷ 9 ∷ [];
  left = in_state (NodeP 2 (Var 0 ∷ Var 1 ∷ []) ∷ []) (Map [] (Some 2));
  right = in_state [] (Made (Apply SetKey (Var 2 ∷ Var 0 ∷ Var 1 ∷ [])));
  when = [];
}

abbrev assignments : Language
assignments = record {
  sorts = imp_sorts;
  cells = shape [] None false CellsKind ∷ shape [] (Some 0) false SeqKind ∷ shape [] (Some 0) false MapKind ∷ [];
  rules = heat ∷ cool ∷ assign_number ∷ [];
  labels = codes "_+_" ∷ codes "_=_;" ∷ [];
}

assignments_pass : is_sound is_same_sort assignments ≡ true
unfolding open_rules has_known row_has_known
assignments_pass = refl

assignments_are_sound : IsSound assignments
assignments_are_sound = sound_definition is_same_sort assignments (same_sort assignments.sorts) assignments_pass

-- ---- a mark that stands twice
abbrev two_threads : CellPat
two_threads = around (inner 2 2 (leaf 3 3 (Seq [] (Some 0)) ∷ []) (Some 1) ∷ inner 2 2 [] (Some 2) ∷ []) (Some 3) [] 4

abbrev mark_twice : Rule
mark_twice = record { origin = Written 0; vars = 0 ∷ 9 ∷ 9 ∷ 9 ∷ 9 ∷ []; left = two_threads; right = two_threads; when = [] }

mark_twice_is_unsound : ¬ IsSoundRule language mark_twice
unfolding open_rules
mark_twice_is_unsound sound = let f : false ≡ true = sound.cells.left_marks in cc

-- ---- numbers that nothing has, a variable that nothing binds, and a whole sequence where an item stands

-- the sequence of one thread, in which variable 0 is the rest
abbrev of_sequence : List ℕ → List Pattern → List Pattern → Rule
of_sequence sorts left right = record {
  origin = Written 0;
  vars = 0 ∷ 9 ∷ 9 ∷ 9 ∷ sorts;
  left = with_memory (Seq left (Some 0)) (Map [] None) 1 2 3;
  right = with_memory (Seq right (Some 0)) (Map [] None) 1 2 3;
  when = [];
}

abbrev quit_ends : Rule
quit_ends = of_sequence [] (NodeP 5 [] ∷ []) []

quit_ends_is_sound : IsSoundRule language quit_ends
unfolding open_rules has_known row_has_known
quit_ends_is_sound = sound_rule is_same_sort language quit_ends (same_sort language.sorts) refl

-- there are nine productions, and the numbers begin with 1
no_production : ¬ IsSoundRule language (of_sequence [] (NodeP 10 [] ∷ []) [])
unfolding open_rules
no_production sound = let f : false ≡ true = sound.numbers.patterns in cc

no_production_zero : ¬ IsSoundRule language (of_sequence [] (Lit (Node 1 (Node 0 [] ∷ [])) ∷ []) [])
unfolding open_rules
no_production_zero sound = let f : false ≡ true = sound.numbers.patterns in cc

-- the hole of a production with one other argument is its first or its second
no_hole : ¬ IsSoundRule language (of_sequence [] (FreezerP 2 3 (Lit name_x ∷ []) ∷ []) [])
unfolding open_rules
no_hole sound = let f : false ≡ true = sound.numbers.patterns in cc

unbound_on_the_right : ¬ IsSoundRule language (of_sequence (10 ∷ []) (NodeP 5 [] ∷ []) (Var 4 ∷ []))
unfolding open_rules
unbound_on_the_right sound = let f : false ≡ true = sound.variables.bound 4 (omega arith) in cc

undeclared_on_the_right : ¬ IsSoundRule language (of_sequence [] (NodeP 5 [] ∷ []) (Var 4 ∷ []))
unfolding open_rules
undeclared_on_the_right sound = let f : 4 < 4 = sound.variables.known 4 refl in absurd (omega (arith, f))

-- a variable of sort K is the rest, or an argument, but no part of a sequence
sequence_in_front : ¬ IsSoundRule language (of_sequence (0 ∷ []) (Var 4 ∷ []) [])
unfolding open_rules
sequence_in_front sound = let f : false ≡ true = sound.patterns.forms in cc

sequence_as_key : ¬ IsSoundRule language (record {
  origin = Written 0;
  vars = 0 ∷ 9 ∷ 9 ∷ 9 ∷ 0 ∷ [];
  left = with_memory (Seq [] (Some 0)) (Map ((Var 4, Lit (number 1)) ∷ []) None) 1 2 3;
  right = with_memory (Seq [] (Some 0)) (Map ((Var 4, Lit (number 1)) ∷ []) None) 1 2 3;
  when = [];
})
unfolding open_rules
sequence_as_key sound = let f : false ≡ true = sound.patterns.forms in cc

-- a definition has a label for each production
unlabelled : ¬ IsSound (record { sorts = imp_sorts; cells = shape [] None false CellsKind ∷ []; rules = []; labels = [] })
unlabelled sound = let f : 0 ≡ 2 = sound.labels in absurd (omega (arith, f))

-- ---- a whole content that is made by a value, not by an entry put into a map
abbrev no_map : Pattern
no_map = Lit (Mapping [])

abbrev made_of_value : Rule
made_of_value = record {
  origin = Written 0;
  vars = 0 ∷ 7 ∷ 9 ∷ 9 ∷ 9 ∷ [];
  left = with_memory (Seq [] (Some 0)) (Map [] (Some 1)) 2 3 4;
  right = with_memory (Seq [] (Some 0)) (Made no_map) 2 3 4;
  when = [];
}

made_body : Spot
made_body = record { cell = 5; mark = 4; above = Some 0; body = Made no_map }

of_no_kind : (kind : Kind) → is_body_of kind (Made no_map) ≡ true → ⊥
of_no_kind CellsKind e = cc
of_no_kind SeqKind e = cc
of_no_kind MapKind e = cc
of_no_kind ListKind e = cc
of_no_kind (OneKind sort) e = cc

stands_right : Contains (spots made_of_value.right) made_body
unfolding open_rules made_body
stands_right = (4, omega arith, refl)

made_of_value_is_unsound : ¬ IsSoundRule language made_of_value
unfolding made_body
made_of_value_is_unsound sound = let placed = sound.cells.right_placed made_body stands_right in of_no_kind placed.shape.kind placed.kind

-- ---- A map of which a definition says that it is a Bag: where nothing asks that cells stand for the rest of cells, such
-- a value may stand there, and it need not be well formed.
abbrev maps_are_bags : Language
maps_are_bags = record {
  sorts = record { steps = (7, 9) ∷ []; productions = [] };
  cells = shape [] None false CellsKind ∷ [];
  rules = [];
  labels = [];
}

abbrev any_cells : Rule
any_cells = record { origin = Written 0; vars = 9 ∷ []; left = inner 0 0 [] (Some 0); right = inner 0 0 [] (Some 0); when = [] }

abbrev key_twice : Value
key_twice = Mapping ((name_x, number 1) ∷ (name_x, number 2) ∷ [])

any_cells_passes : is_sound_rule is_same_sort maps_are_bags any_cells ≡ true
unfolding open_rules has_known row_has_known
any_cells_passes = refl

any_cells_is_sound : IsSoundRule maps_are_bags any_cells
any_cells_is_sound = sound_rule is_same_sort maps_are_bags any_cells (same_sort maps_are_bags.sorts) any_cells_passes

of_sorts : AreOfSorts maps_are_bags.sorts any_cells.vars (Whole key_twice ∷ [])
unfolding open_rules
of_sorts = (subsort 7 9 (0, omega arith, refl), tt)

not_formed : ¬ AllFormed (Whole key_twice ∷ [])
unfolding open_rules
not_formed all = let f : false ≡ true = all 0 key_twice refl in cc

no_cells : fill any_cells.left (Whole key_twice ∷ []) ≡ None
unfolding open_rules
no_cells = refl
