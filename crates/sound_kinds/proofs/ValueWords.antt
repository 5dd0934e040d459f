-- What the words of a content are: their sorts have names, literals have their own, and leaves stand for them.
use Rattle.std.proofs.Common.{◌≡◌, ℕ, zero, suc, ◌+◌, ◌-◌, ◌<◌, List, [], ◌∷◌, map, take, drop, Option, Some, None, refl, sym, ap, subst, ◌∙◌}
use Rattle.std.specs.Prelude.{slice_get}
use Rattle.k_terms.specs.declared.value.Symbol.{Symbol}
use Rattle.grammar_terms.specs.declared.word.Word.{Word}
use Rattle.grammar_terms.specs.declared.word.WordKind.{WordKind}
use Rattle.grammar_terms.specs.declared.word.WordKind.TheVariants.{Terminal as TerminalWord, Literal as LiteralWord, Variable as VariableWord, Wild, EmptyList}
use Rattle.rule_tokens.specs.declared.token.RuleKind.{RuleKind}
use Rattle.rule_tokens.specs.declared.token.RuleKind.TheVariants.{Open, Close, Rewrite, Then, MapsTo, Dots, Dot, ListItem, Terminal, Literal, Variable}
use Rattle.rule_tokens.specs.declared.token.RuleToken.{RuleToken}
use Rattle.rule_tokens.specs.Variables.{variables, AreSorts}
use Rattle.rule_contents.specs.declared.words.Meant.{Meant}
use Rattle.rule_contents.specs.Words.{nowhere, variable_of, sort_of_name, variable_meant, dot_meant, meant, word_of, literal_sort}
use Rattle.rule_parts.specs.declared.leaves.Leaf.{Leaf}
use Rattle.rule_parts.specs.Leaves.{leaf_of, leaves_from, leaves_of}
use Rattle.rule_reader.specs.Places.{between}
use Rattle.sound_sequences.proofs.Homes.{words}
use Rattle.sound_sequences.proofs.Follows.{get_dropped}
use Rattle.sound_kinds.proofs.ValueNames.{IsLow, IsSorted, AreSorted, named_low}

-- a literal has its sort, and a variable one that has a name
abbrev pub IsGood : ℕ → WordKind → ℕ → Type 0
IsGood n (TerminalWord text) sort = Unit {0}
IsGood n (LiteralWord value) sort = sort ≡ literal_sort value
IsGood n VariableWord sort = sort < n
IsGood n Wild sort = Unit {0}
IsGood n EmptyList sort = Unit {0}

abbrev pub IsGoodWord : ℕ → Word → Type 0
IsGoodWord n word = IsGood n word.kind word.sort

-- each place of words has a good one
abbrev pub AreGood : ℕ → List Word → Type 0
AreGood n words = (at : ℕ) (word : Word) → slice_get words at ≡ Some word → IsGoodWord n word

-- a leaf stands for each word
abbrev pub AreLeaves : List RuleToken → List Word → List Leaf → Type 0
AreLeaves tokens words leaves = (at : ℕ) (word : Word) → slice_get words at ≡ Some word → (n : ℕ) × (slice_get leaves at ≡ Some (leaf_of tokens n word))

-- ---- words of tokens

module _ (n : ℕ) (tokens : List RuleToken) (sorts : List (Symbol × ℕ)) (all : AreSorted n tokens) (are : AreSorts (variables tokens) sorts) where
  abbrev IsGoodMeant : Meant → Type 0
  IsGoodMeant it = IsGood n it.kind it.sort

  named_good : (o : Option ℕ) → IsLow n o → IsGoodMeant (elim o [ None ↦ nowhere | Some sort ↦ variable_of sort ])
  named_good None low = tt
  named_good (Some sort) low = low

  variable_good : (name : Option Symbol) (sort : Option ℕ) → IsLow n sort → IsGoodMeant (variable_meant sorts name sort)
  variable_good None None low = tt
  variable_good None (Some sort) low = low
  variable_good (Some name) sort low = named_good (sort_of_name sorts name.0) (named_low n tokens sorts name.0 all are)

  dot_good : (sort : Option ℕ) → IsGoodMeant (dot_meant sort)
  dot_good None = tt
  dot_good (Some sort) = tt

  meant_good : (kind : RuleKind) → IsSorted n kind → IsGoodMeant (meant sorts kind)
  meant_good (Open cell) low = tt
  meant_good (Close cell) low = tt
  meant_good Rewrite low = tt
  meant_good Then low = tt
  meant_good MapsTo low = tt
  meant_good Dots low = tt
  meant_good (Dot sort) low = dot_good sort
  meant_good ListItem low = tt
  meant_good (Terminal text) low = tt
  meant_good (Literal value) low = refl
  meant_good (Variable name sort) low = variable_good name sort low

  some_good : (some : List RuleToken) → AreSorted n some → AreGood n (map (word_of sorts) some)
  some_good [] low at word e = absurd (let f : None ≡ Some word = e in cc)
  some_good (token ∷ some) low zero word e = let same : word_of sorts token ≡ word = cc in subst (IsGoodWord n) same (meant_good token.kind low.0)
  some_good (token ∷ some) low (suc at) word e = some_good some low.1 at word e

  pub words_good : AreGood n (words tokens sorts)
  words_good = some_good tokens all

-- ---- words between two places

taken_get : {X : Type 0} (m : ℕ) (xs : List X) (i : ℕ) (x : X) → slice_get (take m xs) i ≡ Some x → slice_get xs i ≡ Some x
taken_get zero xs i x e = absurd (let f : None ≡ Some x = e in cc)
taken_get (suc m) [] i x e = absurd (let f : None ≡ Some x = e in cc)
taken_get (suc m) (y ∷ xs) zero x e = e
taken_get (suc m) (y ∷ xs) (suc i) x e = taken_get m xs i x e

between_get : (all : List Word) (first past i : ℕ) (word : Word) → slice_get (between all first past) i ≡ Some word → slice_get all (first + i) ≡ Some word
between_get all first past i word e = sym (get_dropped first all i) ∙ taken_get (past - first) (drop first all) i word e

pub between_good : (n : ℕ) (all : List Word) (first past : ℕ) → AreGood n all → AreGood n (between all first past)
between_good n all first past good at word e = good (first + at) word (between_get all first past at word e)

leaves_get : (tokens : List RuleToken) (from : ℕ) (some : List Word) (i : ℕ) (word : Word) → slice_get some i ≡ Some word
    → (n : ℕ) × (slice_get (leaves_from tokens from some) i ≡ Some (leaf_of tokens n word))
leaves_get tokens from [] i word e = absurd (let f : None ≡ Some word = e in cc)
leaves_get tokens from (one ∷ some) zero word e = let same : one ≡ word = cc in (from, ap (λ (w : Word). Some (leaf_of tokens from w)) same)
leaves_get tokens from (one ∷ some) (suc i) word e = leaves_get tokens (from + 1) some i word e

pub between_leaves : (tokens : List RuleToken) (all : List Word) (first past : ℕ) → AreLeaves tokens (between all first past) (drop first (leaves_of tokens all))
between_leaves tokens all first past at word e =
    let found = leaves_get tokens 0 all (first + at) word (between_get all first past at word e) in
    (found.0, get_dropped first (leaves_of tokens all) at ∙ found.1)
