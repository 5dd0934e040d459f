-- The builtin productions of a grammar for rules.
use Rattle.std.specs.Prelude.{ℕ, ◌+◌, ◌-◌, Bool, true, false, ◌&&◌, nat_lt, nat_le, cond, max, fold, List, [], ◌∷◌, ◌++◌, map, take, drop, length, codes, Option, None, slice_get}
use Rattle.std.specs.List.{range_with_len}
use Rattle.k_terms.specs.Sorts.{sort_kitem, sort_int, sort_bool, sort_string, sort_map, sort_list}
use Rattle.k_terms.specs.declared.op.Op.{Op}
use Rattle.k_terms.specs.declared.op.Op.TheVariants.{MulInt, DivInt, ModInt, AddInt, SubInt, JoinString, LtInt, LeInt, GtInt, GeInt, EqInt, NeInt, EqK, NeK, InKeys, Not, And, Or, SetKey, GetKey, SizeMap, SizeList, LengthString, IntToString}
use Rattle.production_reader.specs.declared.prod.Attrs.{Attrs}
use Rattle.production_reader.specs.declared.prod.Form.TheVariants.{Plain}
use Rattle.production_reader.specs.declared.prod.Strict.TheVariants.{No}
use Rattle.grammar_terms.specs.declared.builtin.Builtin.{Builtin}
use Rattle.grammar_terms.specs.declared.production.Part.{Part}
use Rattle.grammar_terms.specs.declared.production.Part.TheVariants.{Terminal, Sort}
use Rattle.grammar_terms.specs.declared.production.Production.{Production}
use Rattle.grammar_terms.specs.Grammar.{Syntax}

-- ---- the operators

abbrev pub attrs_of : Bool → Bool → Bool → Attrs
attrs_of left non_assoc bracket = record { left = left; right = false; non_assoc = non_assoc; bracket = bracket; strict = No; seqstrict = false }

-- The groups of operators are counted from 0, the tightest first; the last one, of a sentence of its own, is of those that have
-- no group: none of its productions has an attribute that keeps another one of it out.
abbrev pub free_group : ℕ
free_group = 6

abbrev pub binary_items : ℕ → List ℕ → List Part
binary_items sort text = Sort sort ∷ Terminal text ∷ Sort sort ∷ []

-- an operator of two arguments of a sort, which has its value there too and groups to the left
abbrev pub binary : ℕ → List ℕ → ℕ → Builtin
binary group text sort = record { sort = sort; sentence = 0; group = group; items = binary_items sort text; attrs = attrs_of true false false }

-- an operator that compares two values of a sort
abbrev pub comparison : List ℕ → ℕ → Builtin
comparison text sort = record { sort = sort_bool; sentence = 0; group = 2; items = binary_items sort text; attrs = attrs_of false true false }

-- a word with one argument in parentheses
abbrev pub call : List ℕ → ℕ → ℕ → Builtin
call word argument sort = record {
  sort = sort;
  sentence = 1;
  group = free_group;
  items = Terminal word ∷ Terminal (codes "(") ∷ Sort argument ∷ Terminal (codes ")") ∷ [];
  attrs = attrs_of false false false;
}

abbrev pub in_keys : Builtin
in_keys = record {
  sort = sort_bool;
  sentence = 0;
  group = 2;
  items = Sort sort_kitem ∷ Terminal (codes "in") ∷ Terminal (codes "keys") ∷ Terminal (codes "(") ∷ Sort sort_map ∷ Terminal (codes ")") ∷ [];
  attrs = attrs_of false true false;
}

abbrev pub negation : Builtin
negation = record { sort = sort_bool; sentence = 0; group = 3; items = Terminal (codes "notBool") ∷ Sort sort_bool ∷ []; attrs = attrs_of false false false }

abbrev pub set_key : Builtin
set_key = record {
  sort = sort_map;
  sentence = 1;
  group = free_group;
  items = Sort sort_map ∷ Terminal (codes "[") ∷ Sort sort_kitem ∷ Terminal (codes "<-") ∷ Sort sort_kitem ∷ Terminal (codes "]") ∷ [];
  attrs = attrs_of false false false;
}

abbrev pub get_key : Builtin
get_key = record {
  sort = sort_kitem;
  sentence = 1;
  group = free_group;
  items = Sort sort_map ∷ Terminal (codes "[") ∷ Sort sort_kitem ∷ Terminal (codes "]") ∷ [];
  attrs = attrs_of false false false;
}

-- how each operator is written
abbrev pub operator_form : Op → Builtin
operator_form MulInt = binary 0 (codes "*Int") sort_int
operator_form DivInt = binary 0 (codes "/Int") sort_int
operator_form ModInt = binary 0 (codes "%Int") sort_int
operator_form AddInt = binary 1 (codes "+Int") sort_int
operator_form SubInt = binary 1 (codes "-Int") sort_int
operator_form JoinString = binary 1 (codes "+String") sort_string
operator_form LtInt = comparison (codes "<Int") sort_int
operator_form LeInt = comparison (codes "<=Int") sort_int
operator_form GtInt = comparison (codes ">Int") sort_int
operator_form GeInt = comparison (codes ">=Int") sort_int
operator_form EqInt = comparison (codes "==Int") sort_int
operator_form NeInt = comparison (codes "=/=Int") sort_int
operator_form EqK = comparison (codes "==K") sort_kitem
operator_form NeK = comparison (codes "=/=K") sort_kitem
operator_form InKeys = in_keys
operator_form Not = negation
operator_form And = binary 4 (codes "andBool") sort_bool
operator_form Or = binary 5 (codes "orBool") sort_bool
operator_form SetKey = set_key
operator_form GetKey = get_key
operator_form SizeMap = call (codes "size") sort_map sort_int
operator_form SizeList = call (codes "size") sort_list sort_int
operator_form LengthString = call (codes "lengthString") sort_string sort_int
operator_form IntToString = call (codes "Int2String") sort_int sort_string

-- the operators in their order
abbrev pub operators : List Op
operators =
    MulInt ∷ DivInt ∷ ModInt ∷ AddInt ∷ SubInt ∷ JoinString ∷ LtInt ∷ LeInt ∷ GtInt ∷ GeInt ∷ EqInt ∷ NeInt ∷ EqK ∷ NeK ∷ InKeys ∷ Not ∷ And ∷ Or ∷ SetKey
    ∷ GetKey ∷ SizeMap ∷ SizeList ∷ LengthString ∷ IntToString ∷ []

-- ---- brackets

-- parentheses around what is of a sort
abbrev pub parentheses : ℕ → Builtin
parentheses sort = record {
  sort = sort;
  sentence = 1;
  group = free_group;
  items = Terminal (codes "(") ∷ Sort sort ∷ Terminal (codes ")") ∷ [];
  attrs = attrs_of false false true;
}

-- ---- the grammar

-- the first sentence, and the first group, behind those of productions
abbrev pub next_sentence : List Production → ℕ
next_sentence prods = fold (λ next production. max next (production.sentence + 1)) 0 prods

abbrev pub next_group : List Production → ℕ
next_group prods = fold (λ next production. max next (production.group + 1)) 0 prods

-- a builtin production behind productions up to a sentence and a group
abbrev pub placed : ℕ → ℕ → Builtin → Production
placed sentence group builtin = record {
  sort = builtin.sort;
  sentence = sentence + builtin.sentence;
  group = group + builtin.group;
  items = builtin.items;
  attrs = builtin.attrs;
  form = Plain;
}

-- behind a sentence and a group: the operators, and parentheses for each of so many sorts
abbrev pub operator_prods : ℕ → ℕ → List Production
operator_prods sentence group = map (λ op. placed sentence group (operator_form op)) operators

abbrev pub bracket_prods : ℕ → ℕ → ℕ → List Production
bracket_prods sentence group sorts = map (λ sort. placed sentence group (parentheses sort)) (range_with_len 0 sorts)

abbrev pub builtin_prods : ℕ → ℕ → ℕ → List Production
builtin_prods sentence group sorts = operator_prods sentence group ++ bracket_prods sentence group sorts

abbrev pub declared_prods : Syntax → List Production
declared_prods g = take g.declared g.prods

-- The grammar for rules: behind the declared productions stand the operators and, for each sort, parentheses.
abbrev pub with_builtins : Syntax → Syntax
with_builtins g = record {
  names = g.names;
  prods = declared_prods g ++ builtin_prods (next_sentence (declared_prods g)) (next_group (declared_prods g)) (length g.names);
  declared = g.declared;
}

-- the productions that are operators, where the grammar is one for rules
abbrev pub operators_in : Syntax → List Production
operators_in g = take (length operators) (drop g.declared g.prods)

-- the operator that a production is, by its number
abbrev pub operator_of : Syntax → ℕ → Option Op
operator_of g p = cond (nat_lt g.declared p && nat_le p (length g.prods)) (slice_get operators (p - 1 - g.declared)) None
