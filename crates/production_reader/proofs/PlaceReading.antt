-- How places are read.
use Rattle.std.proofs.Common.{◌≡◌, ℕ, ◌+◌, ◌≤◌, Bool, true, false, List, [], ◌∷◌, ◌++◌, length, drop, map, refl, sym, subst, arith}
use Rattle.k_lexer.specs.declared.token.Kind.TheVariants.{Word, Int, Str, Mark}
use Rattle.production_reader.specs.Lexemes.{Lexeme, Is, digits}
use Rattle.production_reader.specs.Allowed.{IsPlace, number_of}
use Rattle.production_reader.specs.Written.{one_number}
use Rattle.production_reader.specs.Reading.{IsReadAs, StopsAt, Stops}
use Rattle.production_reader.specs.Attributes.{ArePlaces, signs_of_places}
use Rattle.production_reader.specs.declared.stop.Stop.{Stop}
use Rattle.production_reader.specs.Heads.{heads, is_number, is_mark_of, Anything, Begin, Stands}
use Rattle.production_reader.proofs.Fronts.{sign_read, sign_none, sign_bad, heads_apart, mark_apart}
use Rattle.production_reader.proofs.Gathering.{Awaits, Gathered, gather_begins, gather_read, gather_stops, gather_mark, gather_ends}

number_there : (bytes : List ℕ) (l : Lexeme) → Is (digits bytes) l → is_number l ≡ true
number_there bytes l is = subst (λ k. elim k as (λ _. Bool) [ Word ↦ false | Int ↦ true | Str ↦ false | Mark ↦ false ] ≡ true) is.0 refl

zero_is : IsPlace (48 ∷ [])
zero_is = omega arith

pub no_place : (all : List Lexeme) (from : ℕ) → from ≤ length all → heads is_number (drop from all) ≡ false → StopsAt IsPlace one_number Anything all from from
no_place all from within none = sign_none Int IsPlace Anything all from (48 ∷ []) is_number zero_is within (λ y l allowed is. number_there y l is) none

pub great_place : (all : List Lexeme) (from : ℕ) (bytes : List ℕ) → from ≤ length all → Stands (digits bytes) all from → (IsPlace bytes → ⊥) → StopsAt IsPlace one_number Anything all from from
great_place all from bytes within stands great = sign_bad Int IsPlace Anything all from bytes (48 ∷ []) zero_is within stands great

pub some_place : (all : List Lexeme) (from : ℕ) (bytes : List ℕ) (number : ℕ) → Stands (digits bytes) all from → IsPlace bytes → number ≡ number_of bytes
    → IsReadAs IsPlace one_number Anything number_of all from number (from + 1)
some_place all from bytes number stands allowed is = record { written = bytes; read = sign_read Int IsPlace Anything all from bytes allowed stands; means = is }

abbrev pub PlacesAwait : List Lexeme → ℕ → List ℕ → ℕ → Type 0
PlacesAwait all from found at = Awaits (λ (s : ℕ) x. IsPlace x) (λ s x. s) one_number 44 (is_mark_of 41) Anything number_of 0 all from 0 found at

abbrev pub Places : List Lexeme → ℕ → List ℕ → ℕ → Type 0
Places all from found at = Gathered (λ (s : ℕ) x. IsPlace x) (λ s x. s) one_number 44 (is_mark_of 41) Anything number_of 0 all from 0 found at

-- no comma is a closing parenthesis
pub no_comma : (ls : List Lexeme) → Begin (is_mark_of 41) ls → heads (is_mark_of 44) ls ≡ false
no_comma ls closes = heads_apart (is_mark_of 41) (is_mark_of 44) ls (mark_apart 41 44 refl) closes

pub places_begin : (all : List Lexeme) (from : ℕ) (found : List ℕ) → found ≡ [] → from ≤ length all → PlacesAwait all from found from
places_begin all from found none within =
    subst (λ t. PlacesAwait all from t from) (sym none) (gather_begins (λ (s : ℕ) x. IsPlace x) (λ s x. s) one_number 44 (is_mark_of 41) Anything number_of 0 all from within)

module _ (all : List Lexeme) (from : ℕ) (found : List ℕ) (at : ℕ) (before : PlacesAwait all from found at) where
  pub places_stop : (stop : Stop) → Stops IsPlace one_number Anything all at stop → Stops ArePlaces signs_of_places (Begin (is_mark_of 41)) all from stop
  places_stop stop none =
      gather_stops (λ (s : ℕ) x. IsPlace x) (λ s x. s) one_number 44 (is_mark_of 41) Anything number_of 0 all from no_comma (λ ls here. tt) (λ ls here. tt) 0 found at before stop none

  places_read : (v to : ℕ) (more : List ℕ) → more ≡ found ++ v ∷ [] → IsReadAs IsPlace one_number Anything number_of all at v to → Places all from more to
  places_read v to more is read =
      subst (λ t. Places all from t to) (sym is)
      (gather_read (λ (s : ℕ) x. IsPlace x) (λ s x. s) one_number 44 (is_mark_of 41) Anything number_of 0 all from no_comma (λ ls here. tt) (λ ls here. tt) 0 0 found at before v to read (λ x means. refl))

  pub places_go : (v to : ℕ) (more : List ℕ) → more ≡ found ++ v ∷ [] → IsReadAs IsPlace one_number Anything number_of all at v to → heads (is_mark_of 44) (drop to all) ≡ true → PlacesAwait all from more (to + 1)
  places_go v to more is read here =
      gather_mark (λ (s : ℕ) x. IsPlace x) (λ s x. s) one_number 44 (is_mark_of 41) Anything number_of 0 all from no_comma (λ ls here. tt) (λ ls here. tt) 0 more to (places_read v to more is read) here

  pub places_end : (v to : ℕ) (more : List ℕ) → more ≡ found ++ v ∷ [] → IsReadAs IsPlace one_number Anything number_of all at v to → heads (is_mark_of 44) (drop to all) ≡ false
      → IsReadAs ArePlaces signs_of_places (Begin (is_mark_of 41)) (map number_of) all from more to
  places_end v to more is read none =
      gather_ends (λ (s : ℕ) x. IsPlace x) (λ s x. s) one_number 44 (is_mark_of 41) Anything number_of 0 all from 0 more to (places_read v to more is read) none
