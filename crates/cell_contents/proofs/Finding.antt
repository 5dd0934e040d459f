-- Sets of lists of items: the union of two, and an item before the lists of one.
use Rattle.std.proofs.Common.{◌≡◌, ◌⊎◌, inl, inr, ◌<◌, List, [], ◌∷◌, length, refl, sym, ap, ◌∙◌, subst}
use Rattle.k_terms.specs.Sorts.{sort_kitem}
use Rattle.k_terms.specs.declared.value.Value.{Value}
use Rattle.grammar_terms.specs.declared.shape.Shape.{Shape, Leaf}
use Rattle.grammar_terms.specs.declared.word.Word.{Word}
use Rattle.grammar_terms.specs.Grammar.{Syntax}
use Rattle.grammar_terms.specs.Reading.{IsReading}
use Rattle.grammar_terms.specs.Values.{value_of}
use Rattle.cell_contents.specs.declared.found.Found.{Found}
use Rattle.cell_contents.specs.declared.found.Found.TheVariants.{Zero, One, Many}
use Rattle.cell_contents.specs.Readings.{Item, IsItem}
use Rattle.cell_contents.specs.Tails.{Starts}
use Rattle.cell_contents.specs.Tables.{AreTwo, Finds, union, IsOnlyItem, IsFirstThen, IsFirstOfMany, IsFirstBefore}

pub finds_same : (g : Syntax) (S T : List Item → Type 0) → ((x : List Item) → S x → T x) → ((x : List Item) → T x → S x) → (f : Found) → Finds g S f → Finds g T f
finds_same g S T to from Zero none = λ x t. none x (from x t)
finds_same g S T to from (One values) alone = record {
  items = alone.items;
  has = to alone.items alone.has;
  only = λ other t. alone.only other (from other t);
  values_are = alone.values_are;
}
finds_same g S T to from Many two = record {
  one = two.one;
  other = two.other;
  has_one = to two.one two.has_one;
  has_other = to two.other two.has_other;
  differ = two.differ;
}

two_left : (S T : List Item → Type 0) → AreTwo S → AreTwo (λ x. S x ⊎ T x)
two_left S T two = record { one = two.one; other = two.other; has_one = inl two.has_one; has_other = inl two.has_other; differ = two.differ }

two_right : (S T : List Item → Type 0) → AreTwo T → AreTwo (λ x. S x ⊎ T x)
two_right S T two = record { one = two.one; other = two.other; has_one = inr two.has_one; has_other = inr two.has_other; differ = two.differ }

pub finds_union : (g : Syntax) (S T : List Item → Type 0) → ((x : List Item) → S x → T x → ⊥) → (found more : Found) → Finds g S found → Finds g T more → Finds g (λ x. S x ⊎ T x) (union found more)
finds_union g S T apart Zero more none finds =
    finds_same g T (λ x. S x ⊎ T x) (λ x t. inr t) (λ x either. elim either [ inl s ↦ absurd (none x s) | inr t ↦ t ]) more finds
finds_union g S T apart (One values) Zero alone none =
    finds_same g S (λ x. S x ⊎ T x) (λ x s. inl s) (λ x either. elim either [ inl s ↦ s | inr t ↦ absurd (none x t) ]) (One values) alone
finds_union g S T apart (One values) (One others) alone other = record {
  one = alone.items;
  other = other.items;
  has_one = inl alone.has;
  has_other = inr other.has;
  differ = λ same. apart other.items (subst S same alone.has) other.has;
}
finds_union g S T apart (One values) Many alone two = two_right S T two
finds_union g S T apart Many more two finds = two_left S T two

-- ---- an item before others

abbrev pub the_item : List Word → Shape → Item
the_item words shape = record { words = words; shape = shape }

item_is : (item : Item) (words : List Word) (shape : Shape) → item.words ≡ words → item.shape ≡ shape → item ≡ the_item words shape
item_is item words shape w s = λ i. record { words = w i; shape = s i }

abbrev tail_of : List Item → List Item
tail_of [] = []
tail_of (item ∷ items) = items

abbrev head_shape : List Item → Shape
head_shape [] = Leaf 0
head_shape (item ∷ items) = item.shape

read_at : (g : Syntax) (words : List Word) (item : Item) → item.words ≡ words → IsItem g item → IsReading g sort_kitem words item.shape
read_at g words item e is = let P : List Word → Type 0 = λ w. IsReading g sort_kitem w item.shape in subst P e is.read

is_item : (g : Syntax) (words : List Word) (shape : Shape) → 0 < length words → IsReading g sort_kitem words shape → IsItem g (the_item words shape)
is_item g words shape some reading = record { some = some; read = reading }

no_first : (g : Syntax) (F : List Item → Type 0) (words : List Word) → ((shape : Shape) → IsReading g sort_kitem words shape → ⊥) → (items : List Item) → Starts g F words items → ⊥
no_first g F words none [] s = s
no_first g F words none (item ∷ items) s = none item.shape (read_at g words item s.0 s.1)

only_first : (g : Syntax) (F : List Item → Type 0) (words : List Word) (shape : Shape) (items : List Item) → IsOnlyItem g words shape → ((other : List Item) → F other → other ≡ items)
    → (other : List Item) → Starts g F words other → other ≡ the_item words shape ∷ items
only_first g F words shape items only same [] s = absurd s
only_first g F words shape items only same (item ∷ others) s =
    let first : item ≡ the_item words shape = item_is item words shape s.0 (only.only item.shape (read_at g words item s.0 s.1)) in
    let rest : others ≡ items = same others s.2 in
    λ i. first i ∷ rest i

first_then : (g : Syntax) (F : List Item → Type 0) (words : List Word) (rest : List Value) (found : Found)
    → 0 < length words → Finds g F (One rest) → IsFirstThen g words rest found → Finds g (Starts g F words) found
first_then g F words rest Zero some alone none = no_first g F words none
first_then g F words rest (One values) some alone first = record {
  items = the_item words first.0 ∷ alone.items;
  has = (refl, is_item g words first.0 some first.1.reading, alone.has);
  only = only_first g F words first.0 alone.items first.1 alone.only;
  values_are = first.2 ∙ ap (λ vs. value_of g.prods words sort_kitem first.0 ∷ vs) alone.values_are;
}
first_then g F words rest Many some alone two = record {
  one = the_item words two.one ∷ alone.items;
  other = the_item words two.other ∷ alone.items;
  has_one = (refl, is_item g words two.one some two.is_one, alone.has);
  has_other = (refl, is_item g words two.other some two.is_other, alone.has);
  differ = λ same. two.differ (ap head_shape same);
}

first_of_many : (g : Syntax) (F : List Item → Type 0) (words : List Word) (found : Found)
    → 0 < length words → Finds g F Many → IsFirstOfMany g words found → Finds g (Starts g F words) found
first_of_many g F words Zero some two none = no_first g F words none
first_of_many g F words (One values) some two first = absurd first
first_of_many g F words Many some two first = record {
  one = the_item words first.0 ∷ two.one;
  other = the_item words first.0 ∷ two.other;
  has_one = (refl, is_item g words first.0 some first.1, two.has_one);
  has_other = (refl, is_item g words first.0 some first.1, two.has_other);
  differ = λ same. two.differ (ap tail_of same);
}

none_behind : (g : Syntax) (F : List Item → Type 0) (words : List Word) → Finds g F Zero → Finds g (Starts g F words) Zero
none_behind g F words none [] s = s
none_behind g F words none (item ∷ items) s = none items s.2

pub first_before : (g : Syntax) (F : List Item → Type 0) (words : List Word) (rest found : Found)
    → 0 < length words → Finds g F rest → IsFirstBefore g words rest found → Finds g (Starts g F words) found
first_before g F words Zero found some none first = subst (Finds g (Starts g F words)) (sym first) (none_behind g F words none)
first_before g F words (One values) found some alone first = first_then g F words values found some alone first
first_before g F words Many found some two first = first_of_many g F words found some two first
