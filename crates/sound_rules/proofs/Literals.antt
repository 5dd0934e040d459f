-- The single values that the cells of a definition declare are literals.
use Rattle.std.proofs.Common.{◌≡◌, inl, inr, ℕ, true, false, cond, ◌==◌, List, [], ◌∷◌, map, Option, Some, None, is_some, refl, sym, ap, subst, ◌∙◌}
use Rattle.std.specs.Prelude.{slice_get, option_map}
use Rattle.std.specs.Option.{option_or}
use denote.Hole.Carrier.{out}
use Rattle.k_lexer.specs.declared.token.Token.{Token}
use Rattle.k_terms.specs.Sorts.{sort_k, sort_map}
use Rattle.k_terms.specs.declared.value.Value.{Value, Int, Bool as Truth, Str, Id, Node', Items', Seq', Map', List' as Listed', Freezer', out-Value}
use Rattle.k_terms.specs.declared.value.Content.{Content}
use Rattle.k_terms.specs.declared.value.Content.TheVariants.{Seq, Map, List as Listed, One}
use Rattle.grammar_terms.specs.Grammar.{Syntax}
use Rattle.rule_terms.specs.Fill.{put_new}
use Rattle.cell_tokens.specs.declared.token.CellToken.{CellToken}
use Rattle.cell_tokens.specs.declared.token.CellKind.{CellKind}
use Rattle.cell_tokens.specs.declared.token.CellKind.TheVariants as kind
use Rattle.cell_trees.specs.declared.declared.Declared.{Declared}
use Rattle.cell_trees.specs.declared.declared.Declared.TheVariants.{Program, Input, Fixed}
use Rattle.cell_contents.specs.Readings.{Reading, Sequence, Entries, Members, entry_value, content_of}
use Rattle.cell_contents.specs.Contents.{empty_of, literal_alone, token_alone, alone, IsDeclaredBy, IsDeclared}
use Rattle.cell_config.specs.declared.refusal.CellRefusal.TheVariants.{TwoCells, CellContent}
use Rattle.cell_config.specs.declared.division.ConfigCell.{ConfigCell}
use Rattle.cell_config.specs.declared.division.Place.{Place}
use Rattle.cell_config.specs.declared.division.Division.{Division}
use Rattle.cell_config.specs.Divisions.{between, Holds, IsCellOf, IsWhole, IsDivision}
use Rattle.cell_config.specs.Refusals.{first_some, stray_program, inside_of, bad_content, twice_in, no_k, too_many, refusal_of}
use Rattle.cell_config.specs.Cells.{AreDivided, bases_of}
use Rattle.cell_config.proofs.Lists.{some_same, none_some, none_is_some, zip_left, got_map}
use Rattle.sound_rules.specs.Laws.{CellsDeclareLiterals}

-- ---- one content

abbrev IsLiteral : Value → Type 0
IsLiteral v = is_some (literal_alone v) ≡ true

one_same : (v w : Value) → Fixed (One v) ≡ Fixed (One w) → v ≡ w
one_same v w e = cc

some_one : (one other : Declared) → Some one ≡ Some other → one ≡ other
some_one one other e = cc

-- what a literal declares is the literal itself
alone_literal : (w v : Value) → literal_alone w ≡ Some (Fixed (One v)) → w ≡ v
unfolding out-Value out
alone_literal (Int number) v e = one_same (Int number) v (some_one (Fixed (One (Int number))) (Fixed (One v)) e)
alone_literal (Truth truth) v e = one_same (Truth truth) v (some_one (Fixed (One (Truth truth))) (Fixed (One v)) e)
alone_literal (Str text) v e = one_same (Str text) v (some_one (Fixed (One (Str text))) (Fixed (One v)) e)
alone_literal (Id symbol) v e = absurd (let f : None ≡ Some (Fixed (One v)) = e in cc)
alone_literal (Node' _ _ _) v e = absurd (let f : None ≡ Some (Fixed (One v)) = e in cc)
alone_literal (Items' _ _ _) v e = absurd (let f : None ≡ Some (Fixed (One v)) = e in cc)
alone_literal (Seq' _ _) v e = absurd (let f : None ≡ Some (Fixed (One v)) = e in cc)
alone_literal (Map' _ _) v e = absurd (let f : None ≡ Some (Fixed (One v)) = e in cc)
alone_literal (Listed' _ _) v e = absurd (let f : None ≡ Some (Fixed (One v)) = e in cc)
alone_literal (Freezer' _ _ _ _) v e = absurd (let f : None ≡ Some (Fixed (One v)) = e in cc)

literal_itself : (w v : Value) → literal_alone w ≡ Some (Fixed (One v)) → IsLiteral v
literal_itself w v e = subst IsLiteral (alone_literal w v e) (ap is_some e)

not_one : (c : Content) (v : Value) → ((w : Value) → c ≡ One w → ⊥) → Some (Fixed c) ≡ Some (Fixed (One v)) → IsLiteral v
not_one c v other e = let same : c ≡ One v = cc in absurd (other v same)

sequence_other : (vs : List Value) (w : Value) → Seq vs ≡ One w → ⊥
sequence_other vs w e = cc

map_other : (es : List (Value × Value)) (w : Value) → Map es ≡ One w → ⊥
map_other es w e = cc

list_other : (vs : List Value) (w : Value) → Listed vs ≡ One w → ⊥
list_other vs w e = cc

by_sort : (a b : _) (w : Value) → cond a (Seq []) (cond b (Map []) (Listed [])) ≡ One w → ⊥
by_sort true b w e = sequence_other [] w e
by_sort false true w e = map_other [] w e
by_sort false false w e = list_other [] w e

empty_other : (sort : Option ℕ) (w : Value) → empty_of sort ≡ One w → ⊥
empty_other None w e = sequence_other [] w e
empty_other (Some sort) w e = by_sort (sort == sort_k) (sort == sort_map) w e

token_literal : (k : CellKind) (v : Value) → token_alone k ≡ Some (Fixed (One v)) → IsLiteral v
token_literal (kind.Program sort) v e = absurd (let f : Program sort ≡ Fixed (One v) = some_one (Program sort) (Fixed (One v)) e in cc)
token_literal kind.Input v e = absurd (let f : Input ≡ Fixed (One v) = some_one Input (Fixed (One v)) e in cc)
token_literal (kind.Dot sort) v e = not_one (empty_of sort) v (empty_other sort) e
token_literal (kind.Literal value) v e = literal_itself value v e
token_literal (kind.Open name many) v e = absurd (let f : None ≡ Some (Fixed (One v)) = e in cc)
token_literal (kind.Close name) v e = absurd (let f : None ≡ Some (Fixed (One v)) = e in cc)
token_literal kind.Then v e = absurd (let f : None ≡ Some (Fixed (One v)) = e in cc)
token_literal kind.MapsTo v e = absurd (let f : None ≡ Some (Fixed (One v)) = e in cc)
token_literal kind.ListItem v e = absurd (let f : None ≡ Some (Fixed (One v)) = e in cc)
token_literal kind.LeftBracket v e = absurd (let f : None ≡ Some (Fixed (One v)) = e in cc)
token_literal kind.RightBracket v e = absurd (let f : None ≡ Some (Fixed (One v)) = e in cc)
token_literal (kind.Terminal text) v e = absurd (let f : None ≡ Some (Fixed (One v)) = e in cc)
token_literal kind.Bad v e = absurd (let f : None ≡ Some (Fixed (One v)) = e in cc)

tokens_literal : (tokens : List CellToken) (v : Value) → alone tokens ≡ Some (Fixed (One v)) → IsLiteral v
tokens_literal [] v e = absurd (let f : None ≡ Some (Fixed (One v)) = e in cc)
tokens_literal (token ∷ []) v e = token_literal token.kind v e
tokens_literal (token ∷ other ∷ tokens) v e = absurd (let f : None ≡ Some (Fixed (One v)) = e in cc)

content_same : (one other : Content) → Some one ≡ Some other → one ≡ other
content_same one other e = cc

mapped_other : (o : Option (List (Value × Value))) (v : Value) → option_map (λ es. Map es) o ≡ Some (One v) → ⊥
mapped_other None v e = let f : None ≡ Some (One v) = e in cc
mapped_other (Some es) v e = map_other es v (content_same (Map es) (One v) e)

-- no reading is a single value
read_other : (g : Syntax) (reading : Reading) (v : Value) → content_of g reading ≡ Some (One v) → ⊥
read_other g (Sequence first items) v e = sequence_other _ v (content_same _ (One v) e)
read_other g (Entries first entries) v e = mapped_other (put_new (map (entry_value g) (first ∷ entries)) []) v e
read_other g (Members first items) v e = list_other _ v (content_same _ (One v) e)

declared_literal : (g : Syntax) (tokens : List CellToken) (v : Value) → IsDeclared g tokens (Fixed (One v)) → IsLiteral v
declared_literal g tokens v is = by (alone tokens) refl is
  where
    by : (o : Option Declared) → alone tokens ≡ o → IsDeclaredBy o g tokens (Fixed (One v)) → IsLiteral v
    by (Some one) found same = tokens_literal tokens v (found ∙ ap Some (sym same))
    by None found rest = absurd (read_other g rest.reading v rest.is)

-- ---- nothing is told

or_none : {A : Type 0} (one other : Option A) → option_or one other ≡ None → (one ≡ None) × (other ≡ None)
or_none None other is = (refl, is)
or_none (Some x) other is = absurd (none_some x (sym is))

map_none : {A B : Type 0} (f : A → B) (o : Option A) → option_map f o ≡ None → o ≡ None
map_none f None is = refl
map_none f (Some x) is = absurd (none_some (f x) (sym is))

inside_none : (place : Option Place) → inside_of place ≡ None → place ≡ None
inside_none None is = refl
inside_none (Some place) is = absurd (none_some place.inside (sym is))

no_place : (division : Division) → refusal_of (division ∷ []) ≡ None → division.place ≡ None
no_place division fine =
    let later = (or_none (option_map (λ name. TwoCells name) (twice_in (division ∷ []))) _ fine).1 in
    let contents = (or_none (no_k (division ∷ [])) _ later).1 in
    let told = (or_none (option_map (λ name. CellContent name) (first_some bad_content (division ∷ []))) (too_many (division ∷ [])) contents).0 in
    let bad = map_none (λ name. CellContent name) (first_some bad_content (division ∷ [])) told in
    let here = (or_none (bad_content division) None bad).0 in
    inside_none division.place (or_none (first_some stray_program division.cells) (inside_of division.place) here).1

-- ---- the cells

module _ (g : Syntax) (text : List ℕ) where
  whole_of : (base : List Token) (tokens : List CellToken) (division : Division) → IsDivision g text base tokens division → division.place ≡ None → IsWhole g tokens division
  whole_of base tokens division (inl is) none = is
  whole_of base tokens division (inr (inl is)) none = absurd (none_is_some _ _ none is.place_is)
  whole_of base tokens division (inr (inr is)) none = absurd (none_is_some _ _ none is.place_is)

  one_whole : (before after : List (List ℕ)) (bases : List (List Token)) (division : Division) → AreDivided g text before bases after (division ∷ []) → division.place ≡ None
      → (tokens : List CellToken) × IsWhole g tokens division
  one_whole before after [] division are none = absurd are
  one_whole before after (base ∷ bases) division are none = (are.1.tokens, whole_of base are.1.tokens division are.1.is none)

module _ (g : Syntax) (tokens : List CellToken) where
  held_declared : (range : Option (ℕ × ℕ)) (held : Option Declared) (declared : Declared) → held ≡ Some declared → Holds g tokens range held
      → (part : ℕ × ℕ) × IsDeclared g (between tokens part.0 part.1) declared
  held_declared None None declared is holds = absurd (none_some declared is)
  held_declared None (Some other) declared is holds = absurd holds
  held_declared (Some part) None declared is holds = absurd holds
  held_declared (Some part) (Some other) declared is holds = (part, subst (IsDeclared g (between tokens part.0 part.1)) (some_same other declared is) holds)

  cell_literal : (division : Division) (whole : IsWhole g tokens division) (number : ℕ) (v : Value)
      → slice_get (map (λ (cell : ConfigCell). cell.held) division.cells) number ≡ Some (Some (Fixed (One v))) → IsLiteral v
  cell_literal division whole number v at =
      let got = got_map (λ (cell : ConfigCell). cell.held) division.cells number (Some (Fixed (One v))) at in
      let form = zip_left (IsCellOf g tokens) whole.forms division.cells number got.0 whole.cells got.1 in
      let found = held_declared form.0.content got.0.held (Fixed (One v)) got.2 form.2.holds in
      declared_literal g (between tokens found.0.0 found.0.1) v found.1

pub declare_literals : CellsDeclareLiterals
declare_literals g before text tokens sentences after tree is number v at =
    let one = one_whole g text before after (bases_of tokens sentences) is.division is.divided (no_place is.division is.fine) in
    cell_literal g one.0 is.division one.1 number v (ap (λ helds. slice_get helds number) (sym is.is.held_are) ∙ at)
