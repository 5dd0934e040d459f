-- The strict places of a production, and those that are named in vain.
use Rattle.std.specs.Prelude.{◌≡◌, ℕ, ◌-◌, ◌<◌, ◌==◌, ◌&&◌, ◌||◌, not, Bool, true, false, cond, List, [], ◌++◌, length, filter, take, Option, Some, None, slice_get}
use Rattle.std.specs.Option.{option_map_or}
use Rattle.std.specs.List.{list_any, range_with_len}
use Rattle.k_terms.specs.Sorts.{sort_k, sort_map, sort_list}
use Rattle.production_reader.specs.Allowed.{is_empty}
use Rattle.production_reader.specs.declared.prod.Attrs.{Attrs}
use Rattle.production_reader.specs.declared.prod.Strict.{Strict}
use Rattle.production_reader.specs.declared.prod.Strict.TheVariants.{No, All as AllPlaces, Places}
use Rattle.grammar_terms.specs.Grammar.{Syntax, production_at, is_not_strict}
use Rattle.grammar_terms.specs.Values.{sorts_in}
use Rattle.grammar_terms.specs.declared.production.Production.{Production}

-- the sorts of a production's arguments, which are its items that are sorts
abbrev pub arguments : Production → List ℕ
arguments production = sorts_in production.items

-- the places of n arguments
abbrev pub places_to : ℕ → List ℕ
places_to n = range_with_len 1 n

-- the places that `strict` names, all of them, or `strict(..)`
abbrev pub named_by : Strict → ℕ → List ℕ
named_by No n = []
named_by AllPlaces n = places_to n
named_by (Places places) n = places

-- the places that attributes name; `seqstrict` names all
abbrev pub named_places : Attrs → ℕ → List ℕ
named_places attrs n = named_by attrs.strict n ++ cond attrs.seqstrict (places_to n) []

abbrev pub is_among : List ℕ → ℕ → Bool
is_among places place = list_any (λ other. other == place) places

abbrev pub is_named : Production → ℕ → Bool
is_named production place = is_among (named_places production.attrs (length (arguments production))) place

-- the strict places of a production, rising, each once
abbrev pub strict_places : Production → List ℕ
strict_places production = filter (is_named production) (places_to (length (arguments production)))

-- a value of this sort is a whole sequence, map or list, and so is none of a task's steps
abbrev pub is_whole : ℕ → Bool
is_whole sort = sort == sort_k || sort == sort_map || sort == sort_list

-- the sort at a place, counted from 1
abbrev pub sort_at : List ℕ → ℕ → Option ℕ
sort_at sorts place = cond (place == 0) None (slice_get sorts (place - 1))

-- an argument stands at a place, and is no whole sequence, map or list
abbrev pub may_heat : List ℕ → ℕ → Bool
may_heat sorts place = option_map_or (λ sort. not (is_whole sort)) (sort_at sorts place) false

-- `strict` or `seqstrict` stands among the attributes, and both do
abbrev pub is_strict : Attrs → Bool
is_strict attrs = not (is_not_strict attrs.strict) || attrs.seqstrict

abbrev pub has_both : Attrs → Bool
has_both attrs = not (is_not_strict attrs.strict) && attrs.seqstrict

-- one of them stands at a production without arguments, at a bracket, or beside the other
abbrev pub is_bad_whole : Attrs → List ℕ → Bool
is_bad_whole attrs sorts = is_strict attrs && (is_empty sorts || attrs.bracket || has_both attrs)

-- a named place may not be heated
abbrev pub is_vain : List ℕ → List ℕ → ℕ → Bool
is_vain named sorts place = is_among named place && not (may_heat sorts place)

-- A place of a production is bad: it is named in vain, or it is 0 and the production may not be strict at all.
abbrev pub is_bad : Production → ℕ → Bool
is_bad production place =
    place == 0 && is_bad_whole production.attrs (arguments production)
    || is_vain (named_places production.attrs (length (arguments production))) (arguments production) place

-- the least place that passes a test
pub record IsLeast (test : ℕ → Bool) (place : ℕ) : Type 0 where
  pub passes : test place ≡ true
  pub least : (other : ℕ) → other < place → test other ≡ false

-- no place passes
abbrev pub NonePasses : (ℕ → Bool) → Type 0
NonePasses test = (place : ℕ) → test place ≡ false

-- the declared productions of a grammar
abbrev pub declared_in : Syntax → List Production
declared_in g = take g.declared g.prods

-- no place of these productions is bad
abbrev pub HaveNoBadPlace : List Production → Type 0
HaveNoBadPlace prods =
    (p : ℕ) (production : Production) → production_at prods p ≡ Some production → NonePasses (is_bad production)

-- the least production that has a bad place, and its least one
pub record IsLeastBad (prods : List Production) (p place : ℕ) : Type 0 where
  pub production : Production
  pub is : production_at prods p ≡ Some production
  pub bad : IsLeast (is_bad production) place
  pub least : (q : ℕ) (other : Production) → q < p → production_at prods q ≡ Some other → NonePasses (is_bad other)
