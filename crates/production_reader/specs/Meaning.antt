-- What written productions mean.
use Rattle.std.specs.Prelude.{ℕ, Bool, true, false, if◌then◌else◌, List, [], ◌∷◌, ◌++◌, map, codes}
use Rattle.std.specs.List.{list_any}
use Rattle.production_reader.specs.Written.{Attribute, Part, Production}
use Rattle.production_reader.specs.Written.Attribute.{Left, Right, NonAssoc, Bracket, SeqStrict, Strict, StrictAt}
use Rattle.production_reader.specs.Written.Part.{SortPart, TerminalPart}
use Rattle.production_reader.specs.Written.Production.{Plain, Prefix, UserList}
use Rattle.production_reader.specs.Allowed.{text_of_string, number_of}
use Rattle.production_reader.specs.declared.prod.Attrs.{Attrs}
use Rattle.production_reader.specs.declared.prod.Item.{Item}
use Rattle.production_reader.specs.declared.prod.Item.TheVariants as item
use Rattle.production_reader.specs.declared.prod.Form.TheVariants as form
use Rattle.production_reader.specs.declared.prod.Prod.{Prod}
use Rattle.production_reader.specs.declared.prod.Strict as strict
use Rattle.production_reader.specs.declared.prod.Strict.TheVariants as places

-- the numbers of the places of all `strict(..)`
abbrev pub strict_places : List Attribute → List ℕ
strict_places [] = []
strict_places (StrictAt texts ∷ attributes) = map number_of texts ++ strict_places attributes
strict_places (_ ∷ attributes) = strict_places attributes

abbrev pub is_strict : Attribute → Bool
is_strict Strict = true
is_strict _ = false

abbrev pub is_strict_at : Attribute → Bool
is_strict_at (StrictAt texts) = true
is_strict_at _ = false

-- `strict` names all places, also beside `strict(..)`
abbrev pub strict_of : List Attribute → strict.Strict
strict_of attributes = if list_any is_strict attributes then places.All else (if list_any is_strict_at attributes then places.Places (strict_places attributes) else places.No)

abbrev pub is_left : Attribute → Bool
is_left Left = true
is_left _ = false

abbrev pub is_right : Attribute → Bool
is_right Right = true
is_right _ = false

abbrev pub is_non_assoc : Attribute → Bool
is_non_assoc NonAssoc = true
is_non_assoc _ = false

abbrev pub is_bracket : Attribute → Bool
is_bracket Bracket = true
is_bracket _ = false

abbrev pub is_seqstrict : Attribute → Bool
is_seqstrict SeqStrict = true
is_seqstrict _ = false

abbrev pub attrs_of : List Attribute → Attrs
attrs_of attributes = record {
  left = list_any is_left attributes;
  right = list_any is_right attributes;
  non_assoc = list_any is_non_assoc attributes;
  bracket = list_any is_bracket attributes;
  strict = strict_of attributes;
  seqstrict = list_any is_seqstrict attributes;
}

abbrev pub item_of : Part → Item
item_of (SortPart sort) = item.Sort sort
item_of (TerminalPart string) = item.Terminal (text_of_string string)

-- the arguments of a prefix production after the first, with commas
abbrev pub further_items : List (List ℕ) → List Item
further_items [] = []
further_items (sort ∷ sorts) = item.Terminal (codes ",") ∷ item.Sort sort ∷ further_items sorts

abbrev pub argument_items : List (List ℕ) → List Item
argument_items [] = []
argument_items (sort ∷ sorts) = item.Sort sort ∷ further_items sorts

abbrev pub prod_of : Production → Prod
prod_of (Plain parts attributes) = record { items = map item_of parts; attrs = attrs_of attributes; form = form.Plain }
prod_of (Prefix name sorts attributes) = record {
  items = item.Terminal name ∷ item.Terminal (codes "(") ∷ argument_items sorts ++ item.Terminal (codes ")") ∷ [];
  attrs = attrs_of attributes;
  form = form.Prefix name;
}
prod_of (UserList sort separator) = record { items = item.Sort sort ∷ []; attrs = attrs_of []; form = form.UserList (text_of_string separator) }

abbrev pub groups_of : List (List Production) → List (List Prod)
groups_of groups = map (map prod_of) groups
