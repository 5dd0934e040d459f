-- What tells a variable: the first token of its name, which gives it its sort, or a token without a name.
use Rattle.std.proofs.Common.{◌≡◌, ℕ, zero, suc, ◌+◌, Bool, true, false, cond, List, [], ◌∷◌, map, Option, Some, None, refl, sym, ap, subst, ◌∙◌, arith}
use Rattle.std.proofs.lemmas.Bool.{eqb-true}
use Rattle.std.proofs.lemmas.Option.{slice_get-map}
use Rattle.std.specs.Prelude.{slice_get, unwrap_or}
use Rattle.std.specs.Option.{option_map, option_and_then}
use Rattle.std.specs.List.{position_from}
use Rattle.k_terms.specs.declared.value.Symbol.{Symbol}
use Rattle.grammar_terms.specs.declared.word.Word.{Word}
use Rattle.grammar_terms.specs.declared.word.WordKind.{WordKind}
use Rattle.grammar_terms.specs.declared.word.WordKind.TheVariants.{Terminal as TerminalWord, Literal as LiteralWord, Variable as VariableWord, Wild, EmptyList}
use Rattle.rule_tokens.specs.declared.token.RuleKind.{RuleKind}
use Rattle.rule_tokens.specs.declared.token.RuleKind.TheVariants as kind
use Rattle.rule_tokens.specs.declared.token.RuleToken.{RuleToken}
use Rattle.rule_contents.specs.declared.words.Meant.{Meant}
use Rattle.rule_contents.specs.Words.{word_of, sort_of_name, nowhere, variable_of, dot_meant, meant}
use Rattle.rule_parts.specs.declared.leaves.Leaf.{Leaf}
use Rattle.rule_parts.specs.declared.leaves.LeafKind.{LeafKind}
use Rattle.rule_parts.specs.declared.leaves.LeafKind.TheVariants.{Variable, Literal, Other}
use Rattle.rule_parts.specs.Leaves.{name_in, is_same_name, is_of_name, named_home, home_by, leaf_kind, leaf_of, leaves_from, leaves_of}
use Rattle.sound_sequences.proofs.Agreeing.{StandFrom}

-- the own sort of a variable, where a token is one
abbrev pub own_sort : WordKind → ℕ → Option (Option ℕ)
own_sort (TerminalWord text) sort = None
own_sort (LiteralWord value) sort = None
own_sort VariableWord sort = Some (Some sort)
own_sort Wild sort = Some None
own_sort EmptyList sort = None

abbrev pub variable_in : List Word → ℕ → Option (Option ℕ)
variable_in words at = option_and_then (λ (word : Word). own_sort word.kind word.sort) (slice_get words at)

-- a leaf that is a variable is told by a token that is one with the same own sort; one without a sort is told by its own token
abbrev pub IsHome : List Word → ℕ → LeafKind → Type 0
IsHome words at (Variable home own) = (variable_in words home ≡ Some own) × (own ≡ None → home ≡ at)
IsHome words at (Literal value) = Unit {0}
IsHome words at Other = Unit {0}

-- what a token is, where a variable is told by another one
abbrev kind_by : ℕ → WordKind → ℕ → LeafKind
kind_by home k sort =
    elim k [
      | VariableWord ↦ Variable home (Some sort)
      | Wild ↦ Variable home None
      | LiteralWord value ↦ Literal value
      | TerminalWord text ↦ Other
      | EmptyList ↦ Other
    ]

-- what a name is by its sort
abbrev meant_by : Option ℕ → Meant
meant_by o = elim o [ None ↦ nowhere | Some sort ↦ variable_of sort ]

-- ---- the first token that passes a test

pub record IsPassed {X : Type 0} (test : X → Bool) (at : ℕ) (xs : List X) (found : ℕ) : Type 0 where
  pub place : ℕ
  pub found_is : found ≡ at + place
  pub item : X
  pub is : slice_get xs place ≡ Some item
  pub passes : test item ≡ true

pub passed : {X : Type 0} (test : X → Bool) (at : ℕ) (xs : List X) (found : ℕ) → position_from test at xs ≡ Some found → IsPassed test at xs found
passed test at [] found e = absurd (let f : None ≡ Some found = e in cc)
passed test at (x ∷ xs) found e =
    elim (test x) as (λ b. test x ≡ b → cond b (Some at) (position_from test (at + 1) xs) ≡ Some found → IsPassed test at (x ∷ xs) found) [
      | true ↦ λ here first. let same : at ≡ found = cc in record { place = 0; found_is = (let e : found ≡ at + 0 = omega (arith, same) in e); item = x; is = refl; passes = here }
      | false ↦ λ away later. let rest = passed test (at + 1) xs found later in let same : found ≡ at + 1 + rest.place = rest.found_is in
          record { place = suc rest.place; found_is = (let e : found ≡ at + suc rest.place = omega (arith, same) in e); item = rest.item; is = rest.is; passes = rest.passes }
    ] refl e

module _ (tokens : List RuleToken) (sorts : List (Symbol × ℕ)) where
  abbrev pub words : List Word
  words = map (word_of sorts) tokens

  word_at : (at : ℕ) (token : RuleToken) → slice_get tokens at ≡ Some token → slice_get words at ≡ Some (word_of sorts token)
  word_at at token is = slice_get-map (word_of sorts) tokens at ∙ ap (option_map (word_of sorts)) is

  -- a token of a kind
  pub variable_by : (at : ℕ) (token : RuleToken) (k : RuleKind) → slice_get tokens at ≡ Some token → token.kind ≡ k
      → variable_in words at ≡ own_sort (meant sorts k).kind (meant sorts k).sort
  variable_by at token k is same =
      ap (option_and_then (λ (word : Word). own_sort word.kind word.sort)) (word_at at token is)
      ∙ ap (λ (j : RuleKind). own_sort (meant sorts j).kind (meant sorts j).sort) same

  -- ---- variables with names

  -- a token of a name is a variable, with the sort of the name
  of_name : (k : RuleKind) (name : Symbol) (sort : ℕ) → is_same_name name (name_in k) ≡ true → sort_of_name sorts name.0 ≡ Some sort
      → own_sort (meant sorts k).kind (meant sorts k).sort ≡ Some (Some sort)
  of_name (kind.Variable (Some other) own) name sort same is =
      let e : other.0 ≡ name.0 = eqb-true other.0 name.0 same in
      ap (λ (o : Option ℕ). own_sort (meant_by o).kind (meant_by o).sort)
      (ap (sort_of_name sorts) e ∙ is)
  of_name (kind.Variable None own) name sort same is = absurd (let f : false ≡ true = same in cc)
  of_name (kind.Open cell) name sort same is = absurd (let f : false ≡ true = same in cc)
  of_name (kind.Close cell) name sort same is = absurd (let f : false ≡ true = same in cc)
  of_name kind.Rewrite name sort same is = absurd (let f : false ≡ true = same in cc)
  of_name kind.Then name sort same is = absurd (let f : false ≡ true = same in cc)
  of_name kind.MapsTo name sort same is = absurd (let f : false ≡ true = same in cc)
  of_name kind.Dots name sort same is = absurd (let f : false ≡ true = same in cc)
  of_name (kind.Dot other) name sort same is = absurd (let f : false ≡ true = same in cc)
  of_name kind.ListItem name sort same is = absurd (let f : false ≡ true = same in cc)
  of_name (kind.Terminal text) name sort same is = absurd (let f : false ≡ true = same in cc)
  of_name (kind.Literal value) name sort same is = absurd (let f : false ≡ true = same in cc)

  named_there : (at : ℕ) (token : RuleToken) (name : Symbol) (written : Option ℕ) (sort : ℕ) → slice_get tokens at ≡ Some token
      → token.kind ≡ kind.Variable (Some name) written
      → sort_of_name sorts name.0 ≡ Some sort → variable_in words (named_home tokens name at) ≡ Some (Some sort)
  named_there at token name written sort is same sorted =
      elim (position_from (is_of_name name) 0 tokens) as (λ o. position_from (is_of_name name) 0 tokens ≡ o → variable_in words (unwrap_or o at) ≡ Some (Some sort)) [
        | None ↦ λ _. variable_by at token (kind.Variable (Some name) written) is same
            ∙ ap (λ (o : Option ℕ). own_sort (meant_by o).kind (meant_by o).sort) sorted
        | Some home ↦ λ e.
            let p = passed (is_of_name name) 0 tokens home e in
            let place : p.place ≡ home = (let f : home ≡ 0 + p.place = p.found_is in omega (arith, f)) in
            ap (variable_in words) (sym place) ∙ variable_by p.place p.item p.item.kind p.is refl ∙ of_name p.item.kind name sort p.passes sorted
      ] refl

  -- ---- any token

  module _ (at : ℕ) (token : RuleToken) (is : slice_get tokens at ≡ Some token) where
    dot_home : (home : ℕ) (sort : Option ℕ) → IsHome words at (kind_by home (dot_meant sort).kind (dot_meant sort).sort)
    dot_home home None = tt
    dot_home home (Some sort) = tt

    name_home : (name : Symbol) (written : Option ℕ) (o : Option ℕ) → token.kind ≡ kind.Variable (Some name) written → sort_of_name sorts name.0 ≡ o
        → IsHome words at (kind_by (named_home tokens name at) (meant_by o).kind (meant_by o).sort)
    name_home name written None same sorted = tt
    name_home name written (Some sort) same sorted = (named_there at token name written sort is same sorted, λ none. absurd (let f : Some sort ≡ None = none in cc))

    kind_home : (k : RuleKind) → token.kind ≡ k → IsHome words at (kind_by (home_by tokens at (name_in k)) (meant sorts k).kind (meant sorts k).sort)
    kind_home (kind.Open cell) same = tt
    kind_home (kind.Close cell) same = tt
    kind_home kind.Rewrite same = tt
    kind_home kind.Then same = tt
    kind_home kind.MapsTo same = tt
    kind_home kind.Dots same = tt
    kind_home (kind.Dot sort) same = dot_home at sort
    kind_home kind.ListItem same = tt
    kind_home (kind.Terminal text) same = tt
    kind_home (kind.Literal value) same = tt
    kind_home (kind.Variable None None) same = (variable_by at token (kind.Variable None None) is same, λ none. refl)
    kind_home (kind.Variable None (Some sort)) same = (variable_by at token (kind.Variable None (Some sort)) is same, λ none. refl)
    kind_home (kind.Variable (Some name) written) same = name_home name written (sort_of_name sorts name.0) same refl

    token_home : IsHome words at (leaf_kind tokens at (word_of sorts token))
    token_home =
        subst (λ (o : Option RuleToken). IsHome words at (kind_by (elim o [ None ↦ at | Some t ↦ home_by tokens at (name_in t.kind) ]) (meant sorts token.kind).kind (meant sorts token.kind).sort)) (sym is)
        (kind_home token.kind refl)

  -- ---- leaves

  leaves_at : (from : ℕ) (some : List Word) (i : ℕ) (leaf : Leaf) → slice_get (leaves_from tokens from some) i ≡ Some leaf
      → (word : Word) × (slice_get some i ≡ Some word) × (leaf ≡ leaf_of tokens (from + i) word)
  leaves_at from [] i leaf e = absurd (let f : None ≡ Some leaf = e in cc)
  leaves_at from (word ∷ some) zero leaf e =
      let start : from ≡ from + 0 = omega arith in
      let same : leaf_of tokens from word ≡ leaf = cc in
      (word, refl, sym same ∙ ap (λ n. leaf_of tokens n word) start)
  leaves_at from (word ∷ some) (suc i) leaf e =
      let rest = leaves_at (from + 1) some i leaf e in
      let next : from + 1 + i ≡ from + suc i = omega arith in
      (rest.0, rest.1, rest.2 ∙ ap (λ n. leaf_of tokens n rest.0) next)

  map_get : (some : List RuleToken) (i : ℕ) (word : Word) → slice_get (map (word_of sorts) some) i ≡ Some word
      → (token : RuleToken) × (slice_get some i ≡ Some token) × (word_of sorts token ≡ word)
  map_get [] i word e = absurd (let f : None ≡ Some word = e in cc)
  map_get (token ∷ some) zero word e = (token, refl, cc)
  map_get (token ∷ some) (suc i) word e = map_get some i word e

  pub leaves_stand : StandFrom 0 (leaves_of tokens words)
  leaves_stand i leaf e = ap (λ (l : Leaf). l.at) (leaves_at 0 words i leaf e).2

  pub leaves_home : (i : ℕ) (leaf : Leaf) → slice_get (leaves_of tokens words) i ≡ Some leaf → IsHome words leaf.at leaf.kind
  leaves_home i leaf e =
      let l = leaves_at 0 words i leaf e in
      let t = map_get tokens i l.0 l.1 in
      let place : 0 + i ≡ i = omega arith in
      let same : leaf ≡ leaf_of tokens i (word_of sorts t.0) = l.2 ∙ (λ k. leaf_of tokens (place k) (sym t.2 k)) in
      subst (λ (it : Leaf). IsHome words it.at it.kind) (sym same) (token_home i t.0 t.1)
