-- Where the first operator of a left side begins.
use Rattle.std.specs.Prelude.{◌≡◌, ◌⊎◌, ℕ, ◌+◌, ◌<◌, ◌&&◌, ◌||◌, nat_lt, Bool, true, false, is_some, List, [], ◌∷◌, ◌++◌, take, drop, length, Option, Some, None}
use Rattle.std.specs.List.{list_any}
use Rattle.production_reader.specs.declared.prod.Attrs.{Attrs}
use Rattle.production_reader.specs.declared.prod.Form.TheVariants.{Plain}
use Rattle.grammar_terms.specs.declared.production.Part.{Part}
use Rattle.grammar_terms.specs.declared.production.Part.TheVariants.{Terminal, Sort}
use Rattle.grammar_terms.specs.declared.production.Production.{Production}
use Rattle.grammar_terms.specs.declared.shape.Shape.{Shape, Leaf, Node', Items', Row_of-Shape, end_of-Shape, more_of-Shape, items-the_row-Shape}
use Rattle.grammar_terms.specs.declared.word.Word.{Word}
use Rattle.grammar_terms.specs.declared.word.WordKind.TheVariants.{Terminal as TerminalWord}
use Rattle.grammar_terms.specs.Builtins.{operators_in, operator_of}
use Rattle.grammar_terms.specs.Grammar.{Syntax}
use Rattle.grammar_terms.specs.Reading.{IsReading}
use Rattle.rule_terms.specs.declared.defs.Kind.{Kind}
use Rattle.rule_contents.specs.declared.reading.Form.{Form}
use Rattle.rule_contents.specs.declared.reading.Form.TheVariants.{Sides, Made, Expression}
use Rattle.rule_contents.specs.Contents.{with_content}
use Rattle.rule_contents.specs.Readings.{content_sort, made_sort}

-- ---- a mark before a term

-- A shape doesn't tell where a term begins. So a mark is put before a token, a terminal of no bytes, and behind all productions
-- stands each operator's once more, with the mark before its items.
abbrev pub mark : List ℕ
mark = []

abbrev pub mark_word : Word
mark_word = record { kind = TerminalWord mark; sort = 0; start = 0; end = 0 }

abbrev pub marked_at : ℕ → List Word → List Word
marked_at at words = take at words ++ mark_word ∷ drop at words

abbrev pub marked : Production → List Part → Production
marked operator items = record {
  sort = operator.sort;
  sentence = operator.sentence;
  group = operator.group;
  items = Terminal mark ∷ items;
  attrs = operator.attrs;
  form = Plain;
}

-- The mark takes the first place from the sort that an operator begins with. So that sort is the one item of a production of its
-- own, whose first place keeps out what the operator's does. It is its last one too: `left`, which speaks of last places alone,
-- is left out. As for contents, the other attribute keeps it from being a subsort step.
abbrev pub first_attrs : Attrs → Attrs
first_attrs attrs = record { left = false; right = attrs.right; non_assoc = attrs.non_assoc; bracket = attrs.bracket; strict = attrs.strict; seqstrict = true }

abbrev pub first_of : ℕ → Production → ℕ → Production
first_of own operator sort = record {
  sort = own;
  sentence = operator.sentence;
  group = operator.group;
  items = Sort sort ∷ [];
  attrs = first_attrs operator.attrs;
  form = Plain;
}

abbrev pub marked_by : ℕ → Production → List Part → List Production
marked_by own operator [] = marked operator [] ∷ []
marked_by own operator (Terminal text ∷ items) = marked operator (Terminal text ∷ items) ∷ []
marked_by own operator (Sort sort ∷ items) = marked operator (Sort own ∷ items) ∷ first_of own operator sort ∷ []

-- the productions of some operators, with further sorts from a number on, one for each
abbrev pub marked_prods : ℕ → List Production → List Production
marked_prods own [] = []
marked_prods own (operator ∷ operators) = marked_by own operator operator.items ++ marked_prods (own + 1) operators

-- The grammar of contents of a kind, in which operators may be marked. Its sorts are behind those of contents.
abbrev pub with_marks : Syntax → Kind → Syntax
with_marks g kind = record {
  names = g.names;
  prods = (with_content g kind).prods ++ marked_prods (length g.names + 5) (operators_in g);
  declared = g.declared;
}

-- The term of an operator begins at a place: with a mark there, the words have a reading.
abbrev pub Begins : Syntax → ℕ → List Word → ℕ → Type 0
Begins marks sort words at = (shape : Shape) × IsReading marks sort (marked_at at words) shape

-- ---- the two sides of a shape

-- the number is one of a production of contents
abbrev pub is_of_contents : Syntax → ℕ → Bool
is_of_contents g p = nat_lt (length g.prods) p

abbrev pub is_operator : Syntax → ℕ → Bool
is_operator g p = is_some (operator_of g p)

-- a place is behind the token that a shape is, or before it
unfoldable pub is_behind : ℕ → Shape → Bool
is_behind at (Leaf token) = nat_lt token at
is_behind at _ = false

unfoldable pub is_before : ℕ → Shape → Bool
is_before at (Leaf token) = nat_lt at token
is_before at _ = false

-- A place is on the right side of a change: a whole one, or one in parentheses.
abbrev pub is_right_of : ℕ → List Shape → Bool
is_right_of at (before ∷ arrow ∷ after ∷ []) = is_behind at arrow
is_right_of at (opening ∷ before ∷ arrow ∷ after ∷ closing ∷ []) = is_behind at arrow && is_before at closing
is_right_of at _ = false

-- A place is on the right side of some change in a shape.
unfoldable mutual
  pub is_on_right : Syntax → ℕ → Shape → Bool
  is_on_right g at (Leaf token) = false
  is_on_right g at (Node' p _ parts) = (is_of_contents g p && is_right_of at (items-the_row-Shape _ parts)) || any_on_right g at parts
  is_on_right g at (Items' p _ parts rest) = any_on_right g at parts

  pub any_on_right : {n : _} → Syntax → ℕ → Row_of-Shape n → Bool
  any_on_right g at end_of-Shape = false
  any_on_right g at (more_of-Shape part parts) = is_on_right g at part || any_on_right g at parts

-- of what is said of each part of a change, what is said of that before the arrow
abbrev pub said_of_left : Bool → List Bool → Bool
said_of_left true (before ∷ arrow ∷ after ∷ []) = before
said_of_left true (opening ∷ before ∷ arrow ∷ after ∷ closing ∷ []) = before
said_of_left _ parts = list_any (λ part. part) parts

-- An operator stands in a shape, in a change before its arrow.
unfoldable mutual
  pub has_operator : Syntax → Shape → Bool
  has_operator g (Leaf token) = false
  has_operator g (Node' p _ parts) = is_operator g p || said_of_left (is_of_contents g p) (each_has_operator g parts)
  has_operator g (Items' p _ parts rest) = list_any (λ part. part) (each_has_operator g parts)

  pub each_has_operator : {n : _} → Syntax → Row_of-Shape n → List Bool
  each_has_operator g end_of-Shape = []
  each_has_operator g (more_of-Shape part parts) = has_operator g part ∷ each_has_operator g parts

-- ---- the place

-- The term of an operator begins at a place that is on no right side.
pub record BeginsOnLeft (g marks : Syntax) (sort : ℕ) (words : List Word) (shape : Shape) (at : ℕ) : Type 0 where
  pub within : at < length words
  pub left : is_on_right g at shape ≡ false
  pub begins : Begins marks sort words at

-- the first such place, or 0 where there is none
abbrev pub IsFirstPlace : Syntax → Syntax → ℕ → List Word → Shape → ℕ → Type 0
IsFirstPlace g marks sort words shape at =
    (BeginsOnLeft g marks sort words shape at × ((before : ℕ) → before < at → BeginsOnLeft g marks sort words shape before → ⊥))
    ⊎ ((at ≡ 0) × ((place : ℕ) → BeginsOnLeft g marks sort words shape place → ⊥))

-- the place of the first operator on a left side, where there is one
abbrev pub IsPlaceAt : Syntax → Kind → ℕ → List Word → Shape → Option ℕ → Type 0
IsPlaceAt g kind sort words shape None = has_operator g shape ≡ false
IsPlaceAt g kind sort words shape (Some at) = (has_operator g shape ≡ true) × IsFirstPlace g (with_marks g kind) sort words shape at

-- The same in a content that was read as a form, with this shape. An expression alone has no left side.
abbrev pub IsOperatorPlace : Syntax → Kind → Form → List Word → Shape → Option ℕ → Type 0
IsOperatorPlace g kind Sides words shape found = IsPlaceAt g kind (content_sort g) words shape found
IsOperatorPlace g kind Made words shape found = IsPlaceAt g kind (made_sort g) words shape found
IsOperatorPlace g kind Expression words shape found = found ≡ None
