-- How a production goes on behind its first items.
use Rattle.std.specs.Prelude.{ℕ, ◌+◌, ◌==◌, Bool, true, false, cond, List, [], ◌∷◌, ◌++◌, length, Option, Some, None, slice_get}
use Rattle.production_reader.specs.declared.prod.Form.{Form}
use Rattle.production_reader.specs.declared.prod.Form.TheVariants.{Plain, Prefix, UserList}
use Rattle.grammar_terms.specs.declared.production.Part.{Part}
use Rattle.grammar_terms.specs.declared.production.Part.TheVariants.{Terminal, Sort}
use Rattle.grammar_terms.specs.declared.production.Production.{Production}
use Rattle.grammar_terms.specs.declared.shape.Shape.{Shape}
use Rattle.grammar_terms.specs.declared.word.Word.{Word}
use Rattle.grammar_terms.specs.Grammar.{lone_sort, step_from}
use Rattle.grammar_terms.specs.Reading.{is_lone, is_wild_leaf}
use Rattle.span_rows.specs.declared.row.Class.{Class}
use Rattle.span_rows.specs.declared.row.Class.TheVariants.{Lone, Wild, Other}
use Rattle.span_rows.specs.declared.row.Held.{Held}
use Rattle.span_rows.specs.declared.row.Held.TheVariants.{Nothing, One, More}
use Rattle.span_rows.specs.declared.sign.Sign.{Sign}
use Rattle.span_rows.specs.declared.sign.Sign.TheVariants.{Open, Node as NodeSign, Items as ItemsSign}

-- the class of a shape
abbrev pub class_in : List Word → Shape → Class
class_in words shape = cond (is_wild_leaf words shape) Wild (cond (is_lone shape) Lone Other)

-- what is held of some shapes
abbrev pub held_of : List Word → List Shape → Held
held_of words [] = Nothing
held_of words (shape ∷ []) = One (class_in words shape)
held_of words (first ∷ second ∷ shapes) = More

-- what is held with one shape more
abbrev pub held_with : Held → Class → Held
held_with Nothing class = One class
held_with (One before) class = More
held_with More class = More

abbrev pub is_nothing : Held → Bool
is_nothing Nothing = true
is_nothing (One class) = false
is_nothing More = false

abbrev pub class_of : Held → Option Class
class_of Nothing = None
class_of (One class) = Some class
class_of More = None

-- the class of a list of what is held, which is none of a variable without a sort alone
abbrev pub list_of : Held → Option Class
list_of Nothing = Some Other
list_of (One Lone) = Some Lone
list_of (One Wild) = None
list_of (One Other) = Some Lone
list_of More = Some Other

abbrev pub part_sort : Option Part → Option ℕ
part_sort None = None
part_sort (Some (Terminal text)) = None
part_sort (Some (Sort sort)) = Some sort

abbrev pub part_text : Option Part → Option (List ℕ)
part_text None = None
part_text (Some (Terminal text)) = Some text
part_text (Some (Sort sort)) = None

-- A list production has two items that come in turn: an element, and the separator, where it isn't empty. So many of the
-- items were read last in a front of a production.
abbrev pub sort_by : Form → List Part → ℕ → Option ℕ
sort_by Plain items count = part_sort (slice_get items count)
sort_by (Prefix word) items count = part_sort (slice_get items count)
sort_by (UserList separator) items count = cond (count == 0) (lone_sort items) None

-- the sort that is to be read next
abbrev pub sort_wanted : Production → ℕ → Option ℕ
sort_wanted production count = sort_by production.form production.items count

abbrev pub separator_wanted : List ℕ → ℕ → Option (List ℕ)
separator_wanted [] count = None
separator_wanted (byte ∷ bytes) count = cond (count == 0) None (Some (byte ∷ bytes))

abbrev pub text_by : Form → List Part → ℕ → Option (List ℕ)
text_by Plain items count = part_text (slice_get items count)
text_by (Prefix word) items count = part_text (slice_get items count)
text_by (UserList separator) items count = separator_wanted separator count

-- the terminal that is to be read next
abbrev pub text_wanted : Production → ℕ → Option (List ℕ)
text_wanted production count = text_by production.form production.items count

abbrev pub count_in_list : List ℕ → ℕ → ℕ
count_in_list [] count = 0
count_in_list (byte ∷ bytes) count = cond (count == 0) 1 0

abbrev pub count_by : Form → ℕ → ℕ
count_by Plain count = count + 1
count_by (Prefix word) count = count + 1
count_by (UserList separator) count = count_in_list separator count

-- how many items were read then
abbrev pub count_after : Production → ℕ → ℕ
count_after production count = count_by production.form count

abbrev pub list_class : List ℕ → ℕ → Held → Option Class
list_class [] count held = list_of held
list_class (byte ∷ bytes) count Nothing = Some Other
list_class (byte ∷ bytes) count (One class) = cond (count == 0) None (list_of (One class))
list_class (byte ∷ bytes) count More = cond (count == 0) None (Some Other)

abbrev pub plain_class : Production → ℕ → Held → Option Class
plain_class production count held = cond (count == length production.items) (cond production.attrs.bracket (class_of held) (Some Other)) None

abbrev pub class_by : Form → Production → ℕ → Held → Option Class
class_by Plain production count held = plain_class production count held
class_by (Prefix word) production count held = plain_class production count held
class_by (UserList separator) production count held = list_class separator count held

-- where a front of a production is all of it, the class of its shape
abbrev pub whole_class : Production → ℕ → Held → Option Class
whole_class production count held = class_by production.form production count held

abbrev pub plain_code : ℕ → Production → List Sign → List Sign
plain_code p production code = cond production.attrs.bracket code (Open ∷ code ++ NodeSign p ∷ [])

abbrev pub code_by : Form → ℕ → Production → List Sign → List Sign
code_by Plain p production code = plain_code p production code
code_by (Prefix word) p production code = plain_code p production code
code_by (UserList separator) p production code = Open ∷ code ++ ItemsSign p ∷ []

-- the code of the shape then
abbrev pub whole_code : ℕ → Production → List Sign → List Sign
whole_code p production code = code_by production.form p production code

abbrev pub is_some : Option ℕ → Bool
is_some None = false
is_some (Some sort) = true

abbrev pub is_none : Option ℕ → Bool
is_none None = true
is_none (Some sort) = false

abbrev pub is_read_by : Form → Production → Bool
is_read_by Plain production = is_none (step_from production)
is_read_by (Prefix word) production = is_none (step_from production)
is_read_by (UserList separator) production = is_some (lone_sort production.items)

-- the production reads tokens: it is no subsort step, and a list production has a sort of elements
abbrev pub is_read : Production → Bool
is_read production = is_read_by production.form production
