-- How attributes are told apart, and gathered.
use Rattle.std.specs.Prelude.{◌≡◌, ℕ, Bool, true, false, List, [], ◌∷◌, ◌++◌, map, codes}
use Rattle.production_reader.specs.Lexemes.{Lexeme, Sign, word, mark}
use Rattle.production_reader.specs.Written.{Attribute, separated, one_number, signs_of_attribute}
use Rattle.production_reader.specs.Written.Attribute.{Left, Right, NonAssoc, Bracket, SeqStrict, Strict, StrictAt}
use Rattle.production_reader.specs.Allowed.{IsPlace, IsAttribute, number_of}
use Rattle.production_reader.specs.Chains.{Several}
use Rattle.production_reader.specs.Heads.{heads, is_mark_of}
use Rattle.production_reader.specs.declared.attributes.Attr as attr
use Rattle.production_reader.specs.declared.attributes.Attr.TheVariants as attrs
use Rattle.production_reader.specs.declared.attributes.Key.{Key}
use Rattle.production_reader.specs.declared.attributes.Key.TheVariants as key
use Rattle.production_reader.specs.declared.prod.Attrs.{Attrs}
use Rattle.production_reader.specs.declared.prod.Strict as strict
use Rattle.production_reader.specs.declared.prod.Strict.TheVariants as places

abbrev pub ArePlaces : List (List ℕ) → Type 0
ArePlaces = Several (λ (s : ℕ) digits. IsPlace digits) (λ s digits. s) 0

abbrev pub signs_of_places : List (List ℕ) → List Sign
signs_of_places = separated 44 one_number

abbrev pub AreAttributes : Bool → List Attribute → Type 0
AreAttributes brackets = Several (λ (s : ℕ) attribute. IsAttribute brackets attribute) (λ s attribute. s) 0

abbrev pub signs_of_list : List Attribute → List Sign
signs_of_list = separated 44 signs_of_attribute

abbrev pub NoParenthesis : List Lexeme → Type 0
NoParenthesis lexemes = heads (is_mark_of 40) lexemes ≡ false

abbrev pub key_word : Key → List ℕ
key_word key.Left = codes "left"
key_word key.Right = codes "right"
key_word key.Non = codes "non"
key_word key.Bracket = codes "bracket"
key_word key.SeqStrict = codes "seqstrict"
key_word key.Strict = codes "strict"

-- with which word an attribute begins
abbrev pub key_of : Attribute → Key
key_of Left = key.Left
key_of Right = key.Right
key_of NonAssoc = key.Non
key_of Bracket = key.Bracket
key_of SeqStrict = key.SeqStrict
key_of Strict = key.Strict
key_of (StrictAt digits) = key.Strict

-- what follows that word
abbrev pub tail_of : Attribute → List Sign
tail_of NonAssoc = mark 45 ∷ word (codes "assoc") ∷ []
tail_of (StrictAt digits) = mark 40 ∷ signs_of_places digits ++ mark 41 ∷ []
tail_of _ = []

abbrev pub attr_of : Attribute → attr.Attr
attr_of Left = attrs.Left
attr_of Right = attrs.Right
attr_of NonAssoc = attrs.NonAssoc
attr_of Bracket = attrs.Bracket
attr_of SeqStrict = attrs.SeqStrict
attr_of Strict = attrs.Strict
attr_of (StrictAt digits) = attrs.StrictAt (map number_of digits)

abbrev pub places_with : strict.Strict → List ℕ → strict.Strict
places_with places.No numbers = places.Places numbers
places_with places.All numbers = places.All
places_with (places.Places before) numbers = places.Places (before ++ numbers)

-- with one attribute more
abbrev pub with_attr : Attrs → attr.Attr → Attrs
with_attr before attrs.Left = record before { left = true }
with_attr before attrs.Right = record before { right = true }
with_attr before attrs.NonAssoc = record before { non_assoc = true }
with_attr before attrs.Bracket = record before { bracket = true }
with_attr before attrs.SeqStrict = record before { seqstrict = true }
with_attr before attrs.Strict = record before { strict = places.All }
with_attr before (attrs.StrictAt numbers) = record before { strict = places_with before.strict numbers }
