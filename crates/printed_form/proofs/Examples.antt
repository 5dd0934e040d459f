-- The definitions tried on closed values and configurations, by computation.
use Rattle.std.proofs.Common.{◌≡◌, ℕ, true, [], ◌∷◌, refl}
use Rattle.std.specs.Prelude.{pos, negsuc, codes}
use Rattle.k_terms.specs.declared.value.Value.{Value, Int, Bool as Truth, Str, Id, Node, Items, Seq, Map as Mapping, List as Listed, Freezer}
use Rattle.k_terms.specs.declared.value.Content.TheVariants.{Cells as NoContent, Seq as SeqContent, Map as MapContent}
use Rattle.rule_terms.specs.Fill.{plain_cell}
use Rattle.printed_form.specs.Words.{Words}
use Rattle.printed_form.specs.Printed.{value_text}
use Rattle.printed_form.specs.Configurations.{configuration_text}
use Rattle.printed_form.specs.Open.{open_printed}

-- a small language: seven productions, and the words x, step and total
abbrev words : Words
words = record {
  labels = codes "_/_" ∷ codes "_+_" ∷ codes "_=_;" ∷ codes "int_;_" ∷ codes "Ids" ∷ codes "z" ∷ codes "s" ∷ [];
  symbols = codes "x" ∷ codes "step" ∷ codes "total" ∷ [];
}

abbrev word : ℕ → Value
word symbol = Id (record { 0 = symbol })

abbrev whole : ℕ → Value
whole n = Int (pos n)

-- ---- values

assignment : value_text words (Node 3 (word 0 ∷ whole 3 ∷ [])) ≡ codes "_=_;(x,3)"
unfolding open_printed
assignment = refl

list_of_a_list_sort : value_text words (Items 5 (word 0 ∷ [])) ≡ codes ".Ids[x]"
unfolding open_printed
list_of_a_list_sort = refl

no_argument : value_text words (Node 7 (Node 6 [] ∷ [])) ≡ codes "s(z())"
unfolding open_printed
no_argument = refl

program : value_text words (Node 4 (Items 5 (word 0 ∷ []) ∷ Node 3 (word 0 ∷ Node 2 (whole 1 ∷ whole 2 ∷ []) ∷ []) ∷ [])) ≡ codes "int_;_(.Ids[x],_=_;(x,_+_(1,2)))"
unfolding open_printed
program = refl

heated : value_text words (Seq (Node 1 (whole 1 ∷ whole 0 ∷ []) ∷ Freezer 3 2 (word 0 ∷ []) ∷ [])) ≡ codes "_/_(1,0) ~> #freeze(_=_;,2,x)"
unfolding open_printed
heated = refl

escapes : value_text words (Str (34 ∷ 92 ∷ 10 ∷ 9 ∷ 97 ∷ [])) ≡ 34 ∷ 92 ∷ 34 ∷ 92 ∷ 92 ∷ 92 ∷ 110 ∷ 92 ∷ 116 ∷ 97 ∷ 34 ∷ []
unfolding open_printed
escapes = refl

numbers_and_truth : value_text words (Node 1 (Int (negsuc 6) ∷ Truth true ∷ [])) ≡ codes "_/_(-7,true)"
unfolding open_printed
numbers_and_truth = refl

greatest_number : value_text words (whole 170141183460469231731687303715884105727) ≡ codes "170141183460469231731687303715884105727"
unfolding open_printed
greatest_number = refl

-- a sequence, map or list within a value stands in parentheses, unless it is empty
parts_in_parentheses : value_text words (Listed (Seq (word 0 ∷ []) ∷ Seq [] ∷ Mapping ((word 1, whole 1) ∷ []) ∷ [])) ≡ codes "ListItem((x)) ListItem(.K) ListItem((step |-> 1))"
unfolding open_printed
parts_in_parentheses = refl

no_such_word : value_text words (Node 9 (word 8 ∷ Node 0 [] ∷ [])) ≡ codes "(,())"
unfolding open_printed
no_such_word = refl

-- ---- configurations

leaf_alone : configuration_text words (codes "k" ∷ []) (plain_cell 0 (SeqContent (Node 7 (Node 6 [] ∷ []) ∷ [])) []) ≡ codes "<k> s(z()) </k>\n"
unfolding open_printed
leaf_alone = refl

-- children stand in the order in which their cells are declared
two_leaves :
    configuration_text words (codes "T" ∷ codes "k" ∷ codes "state" ∷ [])
    (plain_cell 0 NoContent (plain_cell 2 (MapContent ((word 0, whole 3) ∷ [])) [] ∷ plain_cell 1 (SeqContent []) [] ∷ []))
    ≡ codes "<T>\n  <k> .K </k>\n  <state> x |-> 3 </state>\n</T>\n"
unfolding open_printed
two_leaves = refl

-- a cell of cells that has none
no_children :
    configuration_text words (codes "T" ∷ codes "threads" ∷ codes "thread" ∷ codes "k" ∷ codes "store" ∷ [])
    (plain_cell 0 NoContent (plain_cell 1 NoContent [] ∷ plain_cell 4 (MapContent ((word 1, whole 1) ∷ (word 2, whole 36) ∷ [])) [] ∷ []))
    ≡ codes "<T>\n  <threads>\n  </threads>\n  <store> step |-> 1 total |-> 36 </store>\n</T>\n"
unfolding open_printed
no_children = refl

-- repeated cells stand by the bytes of their lines
repeated :
    configuration_text words (codes "threads" ∷ codes "thread" ∷ codes "k" ∷ [])
    (plain_cell 0 NoContent (plain_cell 1 NoContent (plain_cell 2 (SeqContent (whole 2 ∷ [])) [] ∷ []) ∷ plain_cell 1 NoContent (plain_cell 2 (SeqContent (whole 1 ∷ [])) [] ∷ []) ∷ []))
    ≡ codes "<threads>\n  <thread>\n    <k> 1 </k>\n  </thread>\n  <thread>\n    <k> 2 </k>\n  </thread>\n</threads>\n"
unfolding open_printed
repeated = refl
