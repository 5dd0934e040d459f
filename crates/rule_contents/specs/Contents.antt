-- The grammar of contents: what a content may be, as productions behind those of a grammar for rules.
use Rattle.std.specs.Prelude.{ℕ, ◌+◌, true, false, List, [], ◌∷◌, ◌++◌, length, codes}
use Rattle.k_terms.specs.Sorts.{sort_k, sort_kitem, sort_map, sort_list}
use Rattle.production_reader.specs.declared.prod.Attrs.{Attrs}
use Rattle.production_reader.specs.declared.prod.Form.TheVariants.{Plain, UserList}
use Rattle.production_reader.specs.declared.prod.Strict.TheVariants.{No}
use Rattle.grammar_terms.specs.declared.production.Part.{Part}
use Rattle.grammar_terms.specs.declared.production.Part.TheVariants.{Terminal, Sort}
use Rattle.grammar_terms.specs.declared.production.Production.{Production}
use Rattle.grammar_terms.specs.Builtins.{attrs_of, next_sentence, next_group}
use Rattle.grammar_terms.specs.Grammar.{Syntax}
use Rattle.grammar_terms.specs.Places.{wild_place, dot_place, rewrite_place, open_place, close_place, variable_place, empty_place}
use Rattle.rule_terms.specs.declared.defs.Kind.{Kind}
use Rattle.rule_terms.specs.declared.defs.Kind.TheVariants.{Cells, Seq, Map, List as Listed, One}
use Rattle.rule_contents.specs.declared.numbers.Numbers.{Numbers}

-- ---- numbers

-- Further sorts stand behind those that have names, and all productions of contents in one sentence and one group behind all
-- others, so that none of them keeps anything out.
abbrev pub numbers_of : Syntax → Numbers
numbers_of g = record {
  sentence = next_sentence g.prods;
  group = next_group g.prods;
  element = length g.names;
  side = length g.names + 1;
  content = length g.names + 2;
  made = length g.names + 3;
  entry = length g.names + 4;
}

-- ---- productions

abbrev pub several : Numbers → ℕ → List Part → Production
several at sort items = record { sort = sort; sentence = at.sentence; group = at.group; items = items; attrs = attrs_of false false false; form = Plain }

-- The attribute of productions of one item says nothing here: with it they are no subsort steps, and have shapes.
abbrev pub kept_apart : Attrs
kept_apart = record { left = false; right = false; non_assoc = false; bracket = false; strict = No; seqstrict = true }

abbrev pub single : Numbers → ℕ → ℕ → Production
single at sort part = record { sort = sort; sentence = at.sentence; group = at.group; items = Sort part ∷ []; attrs = kept_apart; form = Plain }

-- elements, with nothing between
abbrev pub row_of_elements : Numbers → Production
row_of_elements at = record { sort = at.side; sentence = at.sentence; group = at.group; items = Sort at.element ∷ []; attrs = kept_apart; form = UserList [] }

-- What becomes something else. The arrow and the parentheses of a change have places, so that a shape tells where they stand.
abbrev pub change : ℕ → ℕ → List Part
change before after = Sort before ∷ Sort rewrite_place ∷ Sort after ∷ []

abbrev pub change_in_parentheses : ℕ → List Part
change_in_parentheses sort = Sort open_place ∷ Sort sort ∷ Sort rewrite_place ∷ Sort sort ∷ Sort close_place ∷ []

-- ---- the kinds of cells

-- a whole content: one side, two sides, or a side and an expression of a sort
abbrev pub whole_prods : Numbers → ℕ → List Production
whole_prods at sort = single at at.content at.side ∷ several at at.content (change at.side at.side) ∷ several at at.made (change at.side sort) ∷ []

-- A sequence has items joined by arrows.
abbrev pub seq_prods : Numbers → List Production
seq_prods at =
    single at at.element sort_kitem ∷ single at at.element (variable_place sort_k) ∷ single at at.element dot_place ∷ single at at.element (empty_place sort_k)
    ∷ several at at.element (change_in_parentheses at.side) ∷ single at at.side at.element
    ∷ several at at.side (Sort at.side ∷ Terminal (codes "~>") ∷ Sort at.element ∷ []) ∷ whole_prods at sort_k

-- The elements of a map or a list, beside its entries or items. A variable without a sort is a whole side: beside other elements it
-- would stand behind each entry whose value may be empty.
abbrev pub element_prods : Numbers → ℕ → List Production
element_prods at sort =
    single at at.element (variable_place sort) ∷ single at at.side wild_place ∷ single at at.element dot_place ∷ single at at.element (empty_place sort)
    ∷ several at at.element (change_in_parentheses at.side) ∷ []

-- A map has entries, in which only the value may become another one.
abbrev pub map_prods : Numbers → List Production
map_prods at =
    (several at at.element (Sort sort_kitem ∷ Terminal (codes "|->") ∷ Sort at.entry ∷ []) ∷ element_prods at sort_map)
    ++ (single at at.entry sort_kitem ∷ several at at.entry (change_in_parentheses sort_kitem) ∷ row_of_elements at ∷ whole_prods at sort_map)

abbrev pub list_prods : Numbers → List Production
list_prods at =
    (several at at.element (Terminal (codes "ListItem") ∷ Terminal (codes "(") ∷ Sort sort_kitem ∷ Terminal (codes ")") ∷ []) ∷ element_prods at sort_list)
    ++ (row_of_elements at ∷ whole_prods at sort_list)

-- one value of a sort, or one that becomes another
abbrev pub one_prods : Numbers → ℕ → List Production
one_prods at sort = single at at.content sort ∷ several at at.content (change sort sort) ∷ []

abbrev pub content_prods : Numbers → Kind → List Production
content_prods at Cells = []
content_prods at Seq = seq_prods at
content_prods at Map = map_prods at
content_prods at Listed = list_prods at
content_prods at (One sort) = one_prods at sort

-- The grammar of the contents of a kind of cell. Cells of cells have no contents of their own.
abbrev pub with_content : Syntax → Kind → Syntax
with_content g kind = record { names = g.names; prods = g.prods ++ content_prods (numbers_of g) kind; declared = g.declared }
