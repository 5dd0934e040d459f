-- A reading of a program's tokens is told by its value.
use Rattle.std.proofs.Common.{arith, ℕ, suc, ◌≡◌, inl, inr, ◌+◌, ◌-◌, ◌==◌, Bool, true, false, cond, List, [], ◌∷◌, ◌++◌, length, map, take, drop, slice_get, codes, Option, Some, None, option_map, refl, sym, ap, ◌∙◌, subst, true≢false, add-one, drop-cons, zero, length-append}
use Rattle.std.proofs.Math.Seq.{take-length}
use Rattle.std.proofs.lemmas.Bool.Decides.{nat_tests}
use Rattle.std.specs.List.{AllByRecursion}
use Rattle.std.proofs.lemmas.List.{take_more, map_push}
use Rattle.std.proofs.lemmas.Option.{slice_get_within, get_or_from_slice_get}
use Rattle.k_terms.specs.Sorts.{sort_k, sort_kitem}
use Rattle.k_terms.specs.declared.value.Value.{Value, Node as NodeV, Items as ItemsV, Seq as SeqV}
use Rattle.grammar_terms.specs.declared.production.Part.{Part}
use Rattle.grammar_terms.specs.declared.production.Part.TheVariants.{Terminal, Sort}
use Rattle.grammar_terms.specs.declared.production.Production.{Production}
use Rattle.grammar_terms.specs.declared.shape.Shape.{Shape, Leaf, Node, Items}
use Rattle.grammar_terms.specs.declared.word.Word.{Word}
use Rattle.grammar_terms.specs.declared.word.WordKind.{WordKind}
use Rattle.grammar_terms.specs.declared.word.WordKind.TheVariants.{Terminal as TerminalWord, Literal, Variable, Wild, EmptyList}
use Rattle.grammar_terms.specs.Grammar.{Syntax, production_at}
use Rattle.grammar_terms.specs.Reading.{IsTerminalAt, is_leaf, is_wild, is_wild_at, IsLeafAt, IsWordAt, IsListOf, IsBetween, Reads, Parts, Elements, Child, Sequence, Joins, IsReading}
use Rattle.grammar_terms.specs.Places.{place_of_terminal, place_by, token_place, token_place_at}
use Rattle.grammar_terms.specs.Reading.Reads.{reads_plain, reads_bracket, reads_list, reads_rest, reads_empty}
use Rattle.grammar_terms.specs.Reading.Parts.{no_item, terminal_item, sort_item}
use Rattle.grammar_terms.specs.Reading.Elements.{no_element, first_element, next_element}
use Rattle.grammar_terms.specs.Reading.Child.{stands_leaf, stands_wild, stands_token, stands_reading, stands_nothing, stands_sequence}
use Rattle.grammar_terms.specs.Reading.Sequence.{one_part, next_part}
use Rattle.grammar_terms.specs.Reading.Joins.{joins_item, joins_variable}
use Rattle.grammar_terms.specs.Values.{value_of, values_by, sorts_in, sorts_of, first_or_item, list_value, at_sort, literal_at, literal_of, is_plain_value, is_of_program, AreOfProgram}
use Rattle.grammar_terms.proofs.Backward.{back, all_back, back-Node, back-Items, back_one, back_sequence, all_back_more, back_leaf}
use Rattle.grammar_terms.proofs.ShapeValues.{value-Node, value-Items, value_at_sort, values_by_more}

-- ---- lists

drop_get : {X : Type 0} (xs : List X) (at : ℕ) (x : X) → slice_get xs at ≡ Some x → drop at xs ≡ x ∷ drop (at + 1) xs
drop_get xs at x is =
    drop-cons xs at x (slice_get_within xs at x is) ∙ (λ i. get_or_from_slice_get xs at x x is i ∷ drop (sym (add-one at) i) xs)

take_get : {X : Type 0} (xs : List X) (at : ℕ) (x : X) → slice_get xs at ≡ Some x → take (at + 1) xs ≡ take at xs ++ x ∷ []
take_get xs at x is = take_more xs at x (slice_get_within xs at x is) ∙ ap (λ y. take at xs ++ y ∷ []) (get_or_from_slice_get xs at x x is)

nothing_at : {X : Type 0} (at : ℕ) (x : X) → slice_get [] at ≡ Some x → ⊥
nothing_at at x is = cc

all_at : {X : Type 0} (P : X → Type 0) (xs : List X) (at : ℕ) (x : X) → AllByRecursion P xs → slice_get xs at ≡ Some x → P x
all_at P [] at x all is = absurd (nothing_at at x is)
all_at P (y ∷ xs) zero x all is = let same : y ≡ x = cc in subst P same all.0
all_at P (y ∷ xs) (suc at) x all is = all_at P xs at x all.1 is

sorts_in_more : (xs ys : List Part) → sorts_in (xs ++ ys) ≡ sorts_in xs ++ sorts_in ys
sorts_in_more [] ys = refl
sorts_in_more (Terminal text ∷ xs) ys = sorts_in_more xs ys
sorts_in_more (Sort sort ∷ xs) ys = ap (λ sorts. sort ∷ sorts) (sorts_in_more xs ys)

-- ---- the places of literals

places_in : List Word → ℕ → List ℕ
places_in [] at = []
places_in (word ∷ words) at = cond (is_leaf word.kind) (at ∷ places_in words (at + 1)) (places_in words (at + 1))

-- the places of the literals from a place on
abbrev places : List Word → ℕ → List ℕ
places words at = places_in (drop at words) at

places_get : (words : List Word) (at : ℕ) (word : Word) → slice_get words at ≡ Some word
    → places words at ≡ cond (is_leaf word.kind) (at ∷ places words (at + 1)) (places words (at + 1))
unfolding places_in
places_get words at word is = ap (λ rest. places_in rest at) (drop_get words at word is)

kind_at : (words : List Word) (at : ℕ) (text : List ℕ) → IsTerminalAt words at text → (word : Word) × (slice_get words at ≡ Some word) × (word.kind ≡ TerminalWord text)
kind_at words at text is = elim (slice_get words at) as (λ it. it ≡ slice_get words at → (word : Word) × (slice_get words at ≡ Some word) × (word.kind ≡ TerminalWord text)) [
  | None ↦ λ e. let bad : None ≡ Some (TerminalWord text) = ap (option_map (λ (word : Word). word.kind)) e ∙ is in cc
  | Some word ↦ λ e. let same : Some word.kind ≡ Some (TerminalWord text) = ap (option_map (λ (word : Word). word.kind)) e ∙ is in (word, sym e, cc)
] refl

places_terminal : (words : List Word) (at : ℕ) (text : List ℕ) → IsTerminalAt words at text → places words at ≡ places words (at + 1)
places_terminal words at text is =
    let word = kind_at words at text is in
    places_get words at word.0 word.1 ∙ ap (λ kind. cond (is_leaf kind) (at ∷ places words (at + 1)) (places words (at + 1))) word.2

places_between : (words : List Word) (separator : List ℕ) (at next : ℕ) → IsBetween words separator at next → places words at ≡ places words next
places_between words [] at next is = ap (places words) (sym is)
places_between words (byte ∷ bytes) at next is = places_terminal words at (byte ∷ bytes) is.0 ∙ ap (places words) (sym is.1)

-- ---- literals

plain_literal : (kind : WordKind) (sort : ℕ) → is_of_program kind sort ≡ true → is_leaf kind ≡ true → is_plain_value (literal_of kind) ≡ true
plain_literal (TerminalWord text) sort of_program leaf = absurd (true≢false (sym leaf))
plain_literal (Literal value) sort of_program leaf = of_program
plain_literal Variable sort of_program leaf = cc
plain_literal Wild sort of_program leaf = cc
plain_literal EmptyList sort of_program leaf = cc

one_or_whole : (is_sequence : Bool) (v : Value) (left : List ℕ) → back (cond is_sequence (SeqV (v ∷ [])) v) left ≡ back v left
one_or_whole true v left = back_one v left
one_or_whole false v left = refl

at_sort_back : (sort : ℕ) (v : Value) (left : List ℕ) → back (at_sort sort v) left ≡ back v left
at_sort_back sort v left = one_or_whole (sort == sort_k) v left

-- the value at a place tells what that at one of items does
any_sort_back : (prods : List Production) (words : List Word) (sort : ℕ) (shape : Shape) (left : List ℕ) → back (value_of prods words sort shape) left ≡ back (value_of prods words sort_kitem shape) left
any_sort_back prods words sort shape left = elim (value_at_sort prods words sort shape) [
  | inl made ↦ ap (λ v. back v left) made ∙ at_sort_back sort (value_of prods words sort_kitem shape) left
  | inr same ↦ ap (λ v. back v left) same
]

-- ---- a program has none of the tokens of rules

no_word_at : (words : List Word) (at sort : ℕ) (kind : WordKind) → AreOfProgram words → is_of_program kind sort ≡ false → IsWordAt words at kind sort → ⊥
no_word_at words at sort kind program none word =
    true≢false (sym (all_at (λ it. is_of_program it.kind it.sort ≡ true) words at word.0 program word.1) ∙ (λ i. is_of_program (word.2 i) (word.3 i)) ∙ none)

no_wild : (kind : WordKind) (sort : ℕ) → is_of_program kind sort ≡ true → is_wild kind ≡ true → ⊥
no_wild (TerminalWord text) sort program wild = true≢false (sym wild)
no_wild (Literal value) sort program wild = true≢false (sym wild)
no_wild Variable sort program wild = true≢false (sym wild)
no_wild Wild sort program wild = true≢false (sym program)
no_wild EmptyList sort program wild = true≢false (sym wild)

no_wild_at : (words : List Word) (at : ℕ) → AreOfProgram words → is_wild_at words at ≡ true → ⊥
no_wild_at words at program wild = elim (slice_get words at) as (λ it. it ≡ slice_get words at → ⊥) [
  | None ↦ λ e. true≢false (sym wild ∙ ap (λ it. elim it [ None ↦ false | Some word ↦ is_wild word.kind ]) (sym e))
  | Some word ↦ λ e.
      no_wild word.kind word.sort (all_at (λ it. is_of_program it.kind it.sort ≡ true) words at word program (sym e))
      (ap (λ it. elim it [ None ↦ false | Some other ↦ is_wild other.kind ]) e ∙ wild)
] refl

none_some : (sort : ℕ) → None ≡ Some sort → ⊥
none_some sort same = cc

is_zero : (sort : ℕ) → (sort == 0) ≡ true → sort ≡ 0
is_zero sort program = grind (arith, nat_tests)

no_terminal : (sort place : ℕ) → (sort == 0) ≡ true → place_of_terminal sort ≡ Some place → ⊥
no_terminal sort place program is = none_some place (ap place_of_terminal (sym (is_zero sort program)) ∙ is)

no_place : (kind : WordKind) (sort bytes place : ℕ) → is_of_program kind sort ≡ true → place_by kind sort bytes ≡ Some place → ⊥
no_place (TerminalWord text) sort bytes place program is = no_terminal sort place program is
no_place (Literal value) sort bytes place program is = none_some place is
no_place Variable sort bytes place program is = true≢false (sym program)
no_place Wild sort bytes place program is = true≢false (sym program)
no_place EmptyList sort bytes place program is = true≢false (sym program)

no_place_at : (words : List Word) (at place : ℕ) → AreOfProgram words → token_place_at words at ≡ Some place → ⊥
no_place_at words at place program is = elim (slice_get words at) as (λ it. it ≡ slice_get words at → ⊥) [
  | None ↦ λ e. none_some place (ap (λ it. elim it [ None ↦ None | Some word ↦ token_place word ]) e ∙ is)
  | Some word ↦ λ e.
      no_place word.kind word.sort (word.end - word.start) place (all_at (λ it. is_of_program it.kind it.sort ≡ true) words at word program (sym e))
      (ap (λ it. elim it [ None ↦ None | Some other ↦ token_place other ]) e ∙ is)
] refl

-- ---- numbers of productions

is_numbered : (is_zero : Bool) (found : Option Production) (production : Production) → cond is_zero None found ≡ Some production → is_zero ≡ false
is_numbered true found production is = cc
is_numbered false found production is = refl

nothing_back : (left : List ℕ) → all_back [] left ≡ ([], left)
unfolding all_back
nothing_back left = refl

head_of : Shape → List Shape → Shape
head_of other [] = other
head_of other (shape ∷ shapes) = shape

append_nothing : {X : Type 0} (xs : List X) → xs ++ [] ≡ xs
append_nothing [] = refl
append_nothing (x ∷ xs) = ap (λ it. x ∷ it) (append_nothing xs)

-- ---- readings

module _ (g : Syntax) (words : List Word) (program : AreOfProgram words) where
  leaf_back : (sort at own : ℕ) (shape : Shape) → IsLeafAt words at own → shape ≡ Leaf at → back (value_of g.prods words sort shape) (places words at) ≡ (shape, places words (at + 1))
  unfolding value_of
  leaf_back sort at own shape leaf is =
      let word : Word = leaf.0 in
      let here : literal_at words at ≡ literal_of word.kind = ap (λ it. elim it [ None ↦ literal_of EmptyList | Some other ↦ literal_of other.kind ]) leaf.1 in
      let plain : is_plain_value (literal_of word.kind) ≡ true = plain_literal word.kind word.sort (all_at (λ it. is_of_program it.kind it.sort ≡ true) words at word program leaf.1) leaf.2 in
      let list : places words at ≡ at ∷ places words (at + 1) =
      places_get words at word leaf.1 ∙ ap (λ b. cond b (at ∷ places words (at + 1)) (places words (at + 1))) leaf.2 in
      ap (λ it. back (value_of g.prods words sort it) (places words at)) is
      ∙ at_sort_back sort (literal_at words at) (places words at)
      ∙ (λ i. back (here i) (list i))
      ∙ back_leaf (literal_of word.kind) at (places words (at + 1)) plain
      ∙ ap (λ it. (it, places words (at + 1))) (sym is)

  -- what is said of the first items of a production
  abbrev PartsBack : Production → ℕ → ℕ → ℕ → List Shape → Type 0
  PartsBack production count from at shapes =
      (length shapes ≡ length (sorts_in (take count production.items)))
      × (all_back (values_by g.prods words (sorts_in (take count production.items)) shapes) (places words from) ≡ (shapes, places words at))

  whole_parts : (production : Production) (from at : ℕ) (shapes : List Shape) → PartsBack production (length production.items) from at shapes → all_back (values_by g.prods words (sorts_in production.items) shapes) (places words from) ≡ (shapes, places words at)
  whole_parts production from at shapes parts =
      ap (λ items. all_back (values_by g.prods words (sorts_in items) shapes) (places words from)) (sym (take-length production.items)) ∙ parts.1

  sorts_are : (p : ℕ) (production : Production) → production_at g.prods p ≡ Some production → sorts_of g.prods p ≡ sorts_in production.items
  sorts_are p production is = ap (λ it. elim it [ None ↦ [] | Some other ↦ sorts_in other.items ]) is

  plain_back : (p from past : ℕ) (production : Production) (shapes : List Shape) (shape : Shape) → production_at g.prods p ≡ Some production
      → PartsBack production (length production.items) from past shapes → shape ≡ Node p shapes
      → back (value_of g.prods words sort_kitem shape) (places words from) ≡ (shape, places words past)
  plain_back p from past production shapes shape at parts is =
      ap (λ it. back (value_of g.prods words sort_kitem it) (places words from)) is
      ∙ ap (λ v. back v (places words from)) (value-Node g.prods words sort_kitem p shapes ∙ ap (λ sorts. NodeV p (values_by g.prods words sorts shapes)) (sorts_are p production at))
      ∙ back-Node p (values_by g.prods words (sorts_in production.items) shapes) (places words from)
      ∙ (λ i. (Node p (whole_parts production from past shapes parts i).0, (whole_parts production from past shapes parts i).1))
      ∙ ap (λ it. (it, places words past)) (sym is)

  -- one shape at one place
  one_back : (sorts : List ℕ) (shape : Shape) (left last : List ℕ) → all_back (values_by g.prods words sorts (shape ∷ [])) left ≡ (shape ∷ [], last)
      → back (value_of g.prods words sort_kitem shape) left ≡ (shape, last)
  unfolding values_by all_back head_of
  one_back [] shape left last is = λ i. (head_of shape (is i).0, (is i).1)
  one_back (sort ∷ sorts) shape left last is =
      sym (any_sort_back g.prods words sort shape left)
      ∙ (λ i. (head_of shape (is i).0, (is i).1))

  list_back : (p from past element : ℕ) (separator : List ℕ) (shapes : List Shape) (shape : Shape) → IsListOf g.prods p element separator
      → all_back (map (value_of g.prods words element) shapes) (places words from) ≡ (shapes, places words past) → shape ≡ Items p shapes None
      → back (value_of g.prods words sort_kitem shape) (places words from) ≡ (shape, places words past)
  list_back p from past element separator shapes shape list elements is =
      let sort : first_or_item (sorts_of g.prods p) ≡ element = ap first_or_item (sorts_are p list.production list.is ∙ ap sorts_in list.element) in
      ap (λ it. back (value_of g.prods words sort_kitem it) (places words from)) is
      ∙ ap (λ v. back v (places words from)) (value-Items g.prods words sort_kitem p shapes None ∙ ap (λ it. list_value sort_kitem p (map (value_of g.prods words it) shapes)) sort
      ∙ ap (λ b. cond b (SeqV (map (value_of g.prods words element) shapes)) (ItemsV p (map (value_of g.prods words element) shapes)))
      (is_numbered (p == 0) (slice_get g.prods (p - 1)) list.production list.is))
      ∙ back-Items p (map (value_of g.prods words element) shapes) (places words from)
      ∙ (λ i. (Items p (elements i).0 None, (elements i).1))
      ∙ ap (λ it. (it, places words past)) (sym is)

  terminal_back : (production : Production) (count from at : ℕ) (shapes : List Shape) (text : List ℕ) → PartsBack production count from at shapes
      → slice_get production.items count ≡ Some (Terminal text) → IsTerminalAt words at text → PartsBack production (count + 1) from (at + 1) shapes
  terminal_back production count from at shapes text parts item here =
      let same : sorts_in (take (count + 1) production.items) ≡ sorts_in (take count production.items) =
      ap sorts_in (take_get production.items count (Terminal text) item) ∙ sorts_in_more (take count production.items) (Terminal text ∷ []) ∙ append_nothing (sorts_in (take count production.items)) in (
        parts.0 ∙ ap length (sym same),
        ap (λ sorts. all_back (values_by g.prods words sorts shapes) (places words from)) same ∙ parts.1 ∙ ap (λ left. (shapes, left)) (places_terminal words at text here),
      )

  sort_back : (production : Production) (count from at past : ℕ) (shapes : List Shape) (sort : ℕ) (shape : Shape) → PartsBack production count from at shapes
      → slice_get production.items count ≡ Some (Sort sort) → back (value_of g.prods words sort shape) (places words at) ≡ (shape, places words past)
      → PartsBack production (count + 1) from past (shapes ++ shape ∷ [])
  sort_back production count from at past shapes sort shape parts item next =
      let before : List ℕ = sorts_in (take count production.items) in
      let same : sorts_in (take (count + 1) production.items) ≡ before ++ sort ∷ [] =
      ap sorts_in (take_get production.items count (Sort sort) item) ∙ sorts_in_more (take count production.items) (Sort sort ∷ []) in (
        length-append shapes (shape ∷ []) ∙ ap (λ n. n + 1) parts.0 ∙ sym (length-append before (sort ∷ [])) ∙ ap length (sym same),
        ap (λ sorts. all_back (values_by g.prods words sorts (shapes ++ shape ∷ [])) (places words from)) same
            ∙ ap (λ vs. all_back vs (places words from)) (values_by_more g.prods words before shapes sort shape parts.0)
            ∙ all_back_more (values_by g.prods words before shapes) (value_of g.prods words sort shape) (places words from) (places words at) (places words past) shapes shape parts.1 next,
      )

  element_back : (sort from at next past : ℕ) (separator : List ℕ) (shapes : List Shape) (shape : Shape)
      → all_back (map (value_of g.prods words sort) shapes) (places words from) ≡ (shapes, places words at) → places words at ≡ places words next
      → back (value_of g.prods words sort shape) (places words next) ≡ (shape, places words past)
      → all_back (map (value_of g.prods words sort) (shapes ++ shape ∷ [])) (places words from) ≡ (shapes ++ shape ∷ [], places words past)
  element_back sort from at next past separator shapes shape front between last =
      ap (λ vs. all_back vs (places words from)) (map_push (value_of g.prods words sort) shapes shape)
      ∙ all_back_more (map (value_of g.prods words sort) shapes) (value_of g.prods words sort shape) (places words from) (places words next) (places words past) shapes shape
      (front ∙ ap (λ left. (shapes, left)) between) last

  -- a sequence in parentheses
  sequence_back : (sort from at : ℕ) (first second : Shape) (shapes : List Shape) (shape : Shape) → IsTerminalAt words from (codes "(")
      → all_back (map (value_of g.prods words sort_kitem) (first ∷ second ∷ shapes)) (places words (from + 1)) ≡ (first ∷ second ∷ shapes, places words at)
      → IsTerminalAt words at (codes ")") → shape ≡ Items 0 (first ∷ second ∷ shapes) None
      → back (value_of g.prods words sort shape) (places words from) ≡ (shape, places words (at + 1))
  sequence_back sort from at first second shapes shape opens parts closes is =
      ap (λ it. back (value_of g.prods words sort it) (places words from)) is
      ∙ ap (λ v. back v (places words from)) (value-Items g.prods words sort 0 (first ∷ second ∷ shapes) None)
      ∙ back_sequence (map (value_of g.prods words sort_kitem) (first ∷ second ∷ shapes)) (places words from) (places words (at + 1)) first second shapes
      (ap (all_back (map (value_of g.prods words sort_kitem) (first ∷ second ∷ shapes))) (places_terminal words from (codes "(") opens) ∙ parts
      ∙ ap (λ left. (first ∷ second ∷ shapes, left)) (places_terminal words at (codes ")") closes))
      ∙ ap (λ it. (it, places words (at + 1))) (sym is)

  no_values : (production : Production) (from : ℕ) → all_back (values_by g.prods words (sorts_in (take 0 production.items)) []) (places words from) ≡ ([], places words from)
  unfolding values_by all_back
  no_values production from = refl

  mutual
    reads_back : {p from past : ℕ} {shape : Shape} → Reads g words p from past shape → back (value_of g.prods words sort_kitem shape) (places words from) ≡ (shape, places words past)
    reads_back (reads_plain p from past production shapes shape plain no_bracket parts is) = plain_back p from past production shapes shape plain.is (parts_back parts) is
    reads_back (reads_bracket p from past production shape plain bracket parts) =
        one_back (sorts_in production.items) shape (places words from) (places words past) (whole_parts production from past (shape ∷ []) (parts_back parts))
    reads_back (reads_list p from past element separator shapes shape list elements wild is) = list_back p from past element separator shapes shape list (elements_back elements) is
    reads_back (reads_rest p from at next element separator first shapes shape list elements between rest is) = absurd (no_word_at words next list.production.sort Variable program refl rest)
    reads_back (reads_empty p at element separator shape list empty is) = absurd (no_word_at words at list.production.sort EmptyList program refl empty)

    parts_back : {p : ℕ} {production : Production} {count from at : ℕ} {shapes : List Shape} → Parts g words p production count from at shapes → PartsBack production count from at shapes
    parts_back (no_item p production from) = (refl, no_values production from)
    parts_back (terminal_item p production count from at shapes text parts item here) = terminal_back production count from at shapes text (parts_back parts) item here
    parts_back (sort_item p production count from at past shapes sort shape parts item child) =
        sort_back production count from at past shapes sort shape (parts_back parts) item (child_back child)

    elements_back : {p sort : ℕ} {separator : List ℕ} {from past : ℕ} {shapes : List Shape} → Elements g words p sort separator from past shapes
        → all_back (map (value_of g.prods words sort) shapes) (places words from) ≡ (shapes, places words past)
    elements_back (no_element p sort separator from) = nothing_back (places words from)
    elements_back (first_element p sort separator from past shape child) = all_back_more [] (value_of g.prods words sort shape) (places words from) (places words from) (places words past) [] shape (nothing_back (places words from)) (child_back child)
    elements_back (next_element p sort separator from at next past first shapes shape elements between child) =
        element_back sort from at next past separator (first ∷ shapes) shape (elements_back elements) (places_between words separator at next between) (child_back child)

    child_back : {place : Option (ℕ × ℕ)} {sort from past : ℕ} {shape : Shape} → Child g words place sort from past shape
        → back (value_of g.prods words sort shape) (places words from) ≡ (shape, places words past)
    child_back (stands_leaf place sort at own shape leaf fits is) = leaf_back sort at own shape leaf is
    child_back (stands_wild place sort at shape wild named is) = absurd (no_wild_at words at program wild)
    child_back (stands_token place sort at shape asked is) = absurd (no_place_at words at sort program asked)
    child_back (stands_reading place sort from past p production shape reads at fits may takes) = any_sort_back g.prods words sort shape (places words from) ∙ reads_back reads
    child_back (stands_nothing place sort at shape k empty is) = absurd (no_word_at words at sort_k EmptyList program refl empty)
    child_back (stands_sequence place sort from at first second shapes shape k rules opens parts closes is) =
        sequence_back sort from at first second shapes shape opens (parts_of_sequence_back parts) closes is

    parts_of_sequence_back : {from past : ℕ} {shapes : List Shape} → Sequence g words from past shapes
        → all_back (map (value_of g.prods words sort_kitem) shapes) (places words from) ≡ (shapes, places words past)
    parts_of_sequence_back (one_part from past shape part) =
        all_back_more [] (value_of g.prods words sort_kitem shape) (places words from) (places words from) (places words past) [] shape (nothing_back (places words from)) (joins_back part)
    parts_of_sequence_back (next_part from at past shapes shape parts arrow part) =
        element_back sort_kitem from at (at + 1) past [] shapes shape (parts_of_sequence_back parts) (places_terminal words at (codes "~>") arrow) (joins_back part)

    joins_back : {from past : ℕ} {shape : Shape} → Joins g words from past shape → back (value_of g.prods words sort_kitem shape) (places words from) ≡ (shape, places words past)
    joins_back (joins_item from past shape child) = child_back child
    joins_back (joins_variable at shape word is) = absurd (no_word_at words at sort_k Variable program refl word)

-- Two readings of a program's tokens that have one value have one shape.
pub values_tell : (g : Syntax) (sort : ℕ) (words : List Word) (one other : Shape) → AreOfProgram words → IsReading g sort words one → IsReading g sort words other
    → value_of g.prods words sort one ≡ value_of g.prods words sort other → one ≡ other
values_tell g sort words one other program first second same =
    ap (λ it. it.0) (sym (child_back g words program first) ∙ ap (λ v. back v (places words 0)) same ∙ child_back g words program second)
