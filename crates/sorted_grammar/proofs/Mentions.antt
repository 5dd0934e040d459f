-- The sorts of productions are mentioned, and have numbers.
use Rattle.std.proofs.Common.{◌∙◌, arith, inl, inr, ◌≡◌, ℕ, ◌+◌, ◌<◌, ◌≤◌, true, false, not, ◌&&◌, cond, List, [], ◌∷◌, ◌++◌, length, map, Some, None, is_some, refl, sym, ap, subst, length-append, take}
use Rattle.std.specs.List.{flat_map}
use Rattle.std.specs.Prelude.{unwrap_or}
use Rattle.std.proofs.Math.Seq.{take-length, take-append_seam}
use Rattle.std.proofs.lemmas.List.{take-take}
use Rattle.k_terms.specs.Names.{number_of, with_word}
use Rattle.production_reader.specs.declared.prod.Item.{Item}
use Rattle.production_reader.specs.declared.prod.Item.TheVariants.{Terminal as TerminalItem, Sort as SortItem}
use Rattle.production_reader.specs.declared.prod.Prod.{Prod}
use Rattle.file_reader.specs.declared.sentence.Sentence.{Sentence}
use Rattle.file_reader.specs.declared.sentence.Sentence.TheVariants.{Syntax as SyntaxSentence, Config, Rule}
use Rattle.grammar_terms.specs.Cuts.{Has}
use Rattle.grammar_terms.specs.Grammar.{has_no_attribute, is_list, lone_sort, step_from, step_of, steps_of}
use Rattle.grammar_terms.specs.declared.production.Part.{Part}
use Rattle.grammar_terms.specs.declared.production.Part.TheVariants.{Terminal, Sort}
use Rattle.grammar_terms.specs.declared.production.Production.{Production}
use Rattle.grammar_terms.proofs.Cutting.{has_left, has_right, has_either, of_map}
use Rattle.sorted_grammar.specs.Naming.{built_in_names, with_sort, with_sorts, names_of, number_in, sort_in, sorts_in_prod, sorts_in_group, sorts_in_sentence, mentioned_in}
use Rattle.sorted_grammar.specs.Placing.{PlacedProd, placed_in_group, placed_in_groups, placed_in_sentence, groups_of, placed_from, placed_of, part_of, production_of, grammar_of}
use Rattle.sorted_grammar.specs.Marks.{AreInside}
use Rattle.sorted_grammar.proofs.NameLists.{within_names}
use Rattle.sorted_grammar.proofs.Members.{has_flat, of_flat}

-- ---- numbers

pub number_within : (names : List (List ℕ)) (name : List ℕ) → 0 < length names → number_in names name < length names
number_within names name some = elim (number_of names name) as (λ o. number_of names name ≡ o → unwrap_or o 0 < length names) [
  | None ↦ λ _. some
  | Some number ↦ λ e. within_names names name number (sym e)
] refl

word_longer : (names : List (List ℕ)) (word : List ℕ) → length names ≤ length (with_word names word)
word_longer names word = elim (is_some (number_of names word)) as (λ b. length names ≤ length (cond b names (names ++ word ∷ []))) [
  | true ↦ omega arith
  | false ↦ let more = length-append names (word ∷ []) in omega (arith, more)
]

sort_longer : (names : List (List ℕ)) (sentence : Sentence) → length names ≤ length (with_sort names sentence)
sort_longer names (SyntaxSentence sort groups) = word_longer names sort
sort_longer names (Config first past) = omega arith
sort_longer names (Rule at first past) = omega arith

sorts_longer : (names : List (List ℕ)) (sentences : List Sentence) → length names ≤ length (with_sorts names sentences)
sorts_longer names [] = omega arith
sorts_longer names (sentence ∷ sentences) =
    let one = sort_longer names sentence in let rest = sorts_longer (with_sort names sentence) sentences in omega (arith, one, rest)

-- the names before stand in front
sort_front : (names : List (List ℕ)) (sentence : Sentence) → take (length names) (with_sort names sentence) ≡ names
sort_front names (SyntaxSentence sort groups) = elim (is_some (number_of names sort)) as (λ b. take (length names) (cond b names (names ++ sort ∷ [])) ≡ names) [
  | true ↦ take-length names
  | false ↦ take-append_seam names (sort ∷ [])
]
sort_front names (Config first past) = take-length names
sort_front names (Rule at first past) = take-length names

sorts_front : (names : List (List ℕ)) (sentences : List Sentence) → take (length names) (with_sorts names sentences) ≡ names
sorts_front names [] = take-length names
sorts_front names (sentence ∷ sentences) =
    let more = with_sort names sentence in
    let all = with_sorts more sentences in
    let longer = sort_longer names sentence in
    sym (take-take (length names) (length more) all longer) ∙ ap (take (length names)) (sorts_front more sentences) ∙ sort_front names sentence

built_in_long : length built_in_names ≡ 10
unfolding built_in_names
built_in_long = refl

pub built_in_front : (sentences : List Sentence) → take 10 (names_of sentences) ≡ built_in_names
built_in_front sentences = ap (λ n. take n (names_of sentences)) (sym built_in_long) ∙ sorts_front built_in_names sentences

pub names_long : (sentences : List Sentence) → 10 ≤ length (names_of sentences)
names_long sentences = let more = sorts_longer built_in_names sentences in omega (arith, built_in_long, more)

-- ---- mentions

pub record IsMentioned (names : List (List ℕ)) (one : PlacedProd) : Type 0 where
  pub own : Has names one.sort
  pub inner : (name : List ℕ) → Has (sorts_in_prod one.prod) name → Has names name

abbrev IsIn : List (List ℕ) → List ℕ → PlacedProd → Type 0
IsIn names sort one = (one.sort ≡ sort) × ((name : List ℕ) → Has (sorts_in_prod one.prod) name → Has names name)

in_group : (sort : List ℕ) (sentence group : ℕ) (prods : List Prod) (one : PlacedProd) → Has (placed_in_group sort sentence group prods) one → IsIn (sorts_in_group prods) sort one
in_group sort sentence group prods one has =
    let found = of_map (λ (prod : Prod). record { sort = sort; sentence = sentence; group = group; prod = prod }) prods one has in
    (ap (λ it. it.sort) found.2, λ name inner. has_flat sorts_in_prod prods found.0 name found.1 (subst (λ it. Has (sorts_in_prod it.prod) name) found.2 inner))

in_groups : (sort : List ℕ) (sentence group : ℕ) (groups : List (List Prod)) (one : PlacedProd) → Has (placed_in_groups sort sentence group groups) one
    → IsIn (flat_map sorts_in_group groups) sort one
in_groups sort sentence group [] one has = absurd has
in_groups sort sentence group (prods ∷ groups) one has =
    elim (has_either (placed_in_group sort sentence group prods) (placed_in_groups sort sentence (group + 1) groups) one has) [
      | inl front ↦ let is = in_group sort sentence group prods one front in (is.0, λ name inner. has_left (sorts_in_group prods) (flat_map sorts_in_group groups) name (is.1 name inner))
      | inr back ↦ let is = in_groups sort sentence (group + 1) groups one back in (is.0, λ name inner. has_right (sorts_in_group prods) (flat_map sorts_in_group groups) name (is.1 name inner))
    ]

in_sentence : (place group : ℕ) (sentence : Sentence) (one : PlacedProd) → Has (placed_in_sentence place group sentence) one → IsMentioned (sorts_in_sentence sentence) one
in_sentence place group (SyntaxSentence sort groups) one has =
    let is = in_groups sort place group groups one has in record { own = inl (sym is.0); inner = λ name inner. inr (is.1 name inner) }
in_sentence place group (Config first past) one has = absurd has
in_sentence place group (Rule at first past) one has = absurd has

in_all : (place group : ℕ) (sentences : List Sentence) (one : PlacedProd) → Has (placed_from place group sentences) one → IsMentioned (mentioned_in sentences) one
in_all place group [] one has = absurd has
in_all place group (sentence ∷ sentences) one has =
    elim (has_either (placed_in_sentence place group sentence) (placed_from (place + 1) (group + length (groups_of sentence)) sentences) one has) [
      | inl front ↦
          let is = in_sentence place group sentence one front in
          record {
            own = has_left (sorts_in_sentence sentence) (mentioned_in sentences) one.sort is.own;
            inner = λ name inner. has_left (sorts_in_sentence sentence) (mentioned_in sentences) name (is.inner name inner);
          }
      | inr back ↦
          let is = in_all (place + 1) (group + length (groups_of sentence)) sentences one back in
          record {
            own = has_right (sorts_in_sentence sentence) (mentioned_in sentences) one.sort is.own;
            inner = λ name inner. has_right (sorts_in_sentence sentence) (mentioned_in sentences) name (is.inner name inner);
          }
    ]

-- ---- productions

lone_has : (items : List Part) (low : ℕ) → lone_sort items ≡ Some low → Has items (Sort low)
lone_has [] low is = absurd (cc)
lone_has (Terminal text ∷ []) low is = absurd (cc)
lone_has (Terminal text ∷ item ∷ items) low is = absurd (cc)
lone_has (Sort sort ∷ []) low is = inl (ap (λ o. Sort (unwrap_or o 0)) is)
lone_has (Sort sort ∷ item ∷ items) low is = absurd (cc)

step_lone : (production : Production) (low : ℕ) → step_from production ≡ Some low → Has production.items (Sort low)
step_lone production low is = elim (has_no_attribute production.attrs && not (is_list production.form)) as (λ b. cond b (lone_sort production.items) None ≡ Some low → Has production.items (Sort low)) [
  | true ↦ λ e. lone_has production.items low e
  | false ↦ λ e. absurd (cc)
] is

step_low : (production : Production) (low high : ℕ) → Has (step_of production) (low, high) → Has production.items (Sort low)
step_low production low high has =
    elim (step_from production) as (λ o. step_from production ≡ o → Has {X = ℕ × ℕ} (elim o [ None ↦ [] | Some sort ↦ (sort, production.sort) ∷ [] ]) (low, high) → Has production.items (Sort low)) [
      | None ↦ λ _ none. absurd none
      | Some sort ↦ λ e here. elim here [
        | inl same ↦ subst (λ x. Has production.items (Sort x)) (ap (λ y. y.0) same) (step_lone production sort e)
        | inr none ↦ absurd none
      ]
    ] refl has

-- the name of an item's sort
pub record IsNumbered (names within : List (List ℕ)) (sort : ℕ) : Type 0 where
  pub name : List ℕ
  pub has : Has within name
  pub is : sort ≡ number_in names name

part_sort : (names : List (List ℕ)) (item : Item) (sort : ℕ) → Sort sort ≡ part_of names item → IsNumbered names (sort_in item) sort
part_sort names (TerminalItem text) sort is = absurd (cc)
part_sort names (SortItem name) sort is = record { name = name; has = inl refl; is = cc }

module _ (sentences : List Sentence) where
  abbrev names : List (List ℕ)
  names = names_of sentences

  abbrev prods : List Production
  prods = map (production_of names) (placed_of sentences)

  -- the sort of a production, and those of its items, are mentioned
  pub own_mentioned : (production : Production) → Has prods production → IsNumbered names (mentioned_in sentences) production.sort
  own_mentioned production has =
      let found = of_map (production_of names) (placed_of sentences) production has in
      let is = in_all 0 0 sentences found.0 found.1 in
      record { name = found.0.sort; has = is.own; is = ap (λ it. it.sort) found.2 }

  pub item_mentioned : (production : Production) (sort : ℕ) → Has prods production → Has production.items (Sort sort) → IsNumbered names (mentioned_in sentences) sort
  item_mentioned production sort has item =
      let found = of_map (production_of names) (placed_of sentences) production has in
      let is = in_all 0 0 sentences found.0 found.1 in
      let at = of_map (part_of names) found.0.prod.items (Sort sort) (subst (λ it. Has it.items (Sort sort)) found.2 item) in
      let part = part_sort names at.0 sort at.2 in
      record { name = part.name; has = is.inner part.name (has_flat sort_in found.0.prod.items at.0 part.name at.1 part.has); is = part.is }

  pub step_mentioned : (low high : ℕ) → Has (steps_of prods) (low, high) → IsNumbered names (mentioned_in sentences) low
  step_mentioned low high has =
      let found = of_flat step_of prods (low, high) has in item_mentioned found.0 low found.1 (step_low found.0 low high found.2)

  numbered_within : (sort : ℕ) → IsNumbered names (mentioned_in sentences) sort → sort < length names
  numbered_within sort is = subst (λ n. n < length names) (sym is.is) (number_within names is.name (let long = names_long sentences in omega (arith, long)))

  pub are_inside : length names ≤ 266 → AreInside (grammar_of sentences)
  are_inside few = record {
    some = names_long sentences;
    few = few;
    sort = λ production has. numbered_within production.sort (own_mentioned production has);
    item = λ production sort has item. numbered_within sort (item_mentioned production sort has item);
  }
