-- The one reading of the three ways together.
use Rattle.std.proofs.Common.{◌≡◌, ℕ, ◌+◌, ◌<◌, List, [], ◌∷◌, ◌++◌, length, map, take, get_or, Option, Some, None, refl, sym, ap, ◌∙◌, subst, arith}
use Rattle.std.specs.Prelude.{MatchOption}
use Rattle.std.specs.List.{AllByRecursion, flat_map}
use Rattle.std.proofs.lemmas.List.{take_more}
use Rattle.k_terms.specs.declared.value.Value.{Value}
use Rattle.k_terms.specs.declared.value.Content.{Content}
use Rattle.k_terms.specs.declared.value.Content.TheVariants.{Seq, List as Listed}
use Rattle.grammar_terms.specs.declared.word.Word.{Word}
use Rattle.grammar_terms.specs.Grammar.{Syntax}
use Rattle.cell_contents.specs.declared.ways.Way.{Way}
use Rattle.cell_contents.specs.declared.ways.Way.TheVariants as way
use Rattle.cell_contents.specs.declared.found.Found.{Found}
use Rattle.cell_contents.specs.declared.found.Found.TheVariants.{Zero, One, Many}
use Rattle.cell_contents.specs.declared.chosen.Chosen.{Chosen}
use Rattle.cell_contents.specs.declared.chosen.Chosen.TheVariants.{Sequence as TheSequence, Entries as TheEntries, Members as TheMembers}
use Rattle.cell_contents.specs.Readings.{Item, Reading, Sequence, Entries, Members, IsRead, IsOnly, item_value, entry_value, entry_values, read_values, content_of, IsShallow, IsContent}
use Rattle.cell_contents.specs.Tails.{IsTail, AreMembers}
use Rattle.cell_contents.specs.Tables.{IsAlone, AreTwo, Finds}
use Rattle.cell_contents.specs.Choices.{chosen_of, values_in, in_turn, Makes, Shows, IsShown, IsChosen}
use Rattle.cell_contents.proofs.Reading.{flat, sequence_tail, tail_sequence, members_tail, tail_members, entries_tail, tail_entries}

-- ---- a reading as its way and its items

abbrev kind : Reading → Way
kind (Sequence first items) = way.Item
kind (Entries first entries) = way.Key
kind (Members first items) = way.Member

abbrev items_in : Reading → List Item
items_in (Sequence first items) = first ∷ items
items_in (Entries first entries) = flat (first ∷ entries)
items_in (Members first items) = first ∷ items

abbrev number : Way → ℕ
number way.Item = 0
number way.Key = 1
number way.Value = 2
number way.Member = 3

abbrev unflat : List Item → List (Item × Item)
unflat [] = []
unflat (key ∷ []) = []
unflat (key ∷ value ∷ items) = (key, value) ∷ unflat items

unflat_flat : (entries : List (Item × Item)) → unflat (flat entries) ≡ entries
unflat_flat [] = refl
unflat_flat (entry ∷ entries) = ap (λ es. entry ∷ es) (unflat_flat entries)

abbrev sequence_by : Reading → List Item → Reading
sequence_by none [] = none
sequence_by none (first ∷ items) = Sequence first items

abbrev members_by : Reading → List Item → Reading
members_by none [] = none
members_by none (first ∷ items) = Members first items

abbrev entries_by : Reading → List (Item × Item) → Reading
entries_by none [] = none
entries_by none (first ∷ entries) = Entries first entries

same_reading : (one other : Reading) → kind one ≡ kind other → items_in one ≡ items_in other → one ≡ other
same_reading (Sequence first items) (Sequence other others) k e = ap (sequence_by (Sequence first items)) e
same_reading (Sequence first items) (Entries other others) k e = let n = ap number k in absurd (omega (arith, n))
same_reading (Sequence first items) (Members other others) k e = let n = ap number k in absurd (omega (arith, n))
same_reading (Entries first entries) (Sequence other others) k e = let n = ap number k in absurd (omega (arith, n))
same_reading (Entries first entries) (Entries other others) k e =
    ap (entries_by (Entries first entries)) (sym (unflat_flat (first ∷ entries)) ∙ ap unflat e ∙ unflat_flat (other ∷ others))
same_reading (Entries first entries) (Members other others) k e = let n = ap number k in absurd (omega (arith, n))
same_reading (Members first items) (Sequence other others) k e = let n = ap number k in absurd (omega (arith, n))
same_reading (Members first items) (Entries other others) k e = let n = ap number k in absurd (omega (arith, n))
same_reading (Members first items) (Members other others) k e = ap (members_by (Members first items)) e

pub map_flat : {Y : Type 0} (f : Item → Y) (entries : List (Item × Item)) → map f (flat entries) ≡ flat_map (λ (entry : Item × Item). f entry.0 ∷ f entry.1 ∷ []) entries
map_flat f [] = refl
map_flat f (entry ∷ entries) = ap (λ ys. f entry.0 ∷ f entry.1 ∷ ys) (map_flat f entries)

module _ (g : Syntax) (words : List Word) where
  abbrev TailsOf : Way → List Item → Type 0
  TailsOf way.Item items = IsTail g way.Item words items
  TailsOf way.Key items = IsTail g way.Key words items
  TailsOf way.Value items = ⊥
  TailsOf way.Member items = AreMembers g words items

  to_tails : (r : Reading) → IsRead g words r → TailsOf (kind r) (items_in r)
  to_tails (Sequence first items) is = sequence_tail g words first items is
  to_tails (Entries first entries) is = entries_tail g words first entries is
  to_tails (Members first items) is = members_tail g words first items is

  record IsFrom (w : Way) (items : List Item) : Type 0 where
    reading : Reading
    read : IsRead g words reading
    kind_is : kind reading ≡ w
    items_are : items_in reading ≡ items

  from_tails : (w : Way) (items : List Item) → TailsOf w items → IsFrom w items
  from_tails way.Item [] t = absurd t
  from_tails way.Item (first ∷ items) t = record { reading = Sequence first items; read = tail_sequence g words first items t; kind_is = refl; items_are = refl }
  from_tails way.Key items t =
      let m = tail_entries g words items t in
      record { reading = Entries m.first m.entries; read = m.read; kind_is = refl; items_are = sym m.are }
  from_tails way.Value items t = absurd t
  from_tails way.Member [] t = absurd t.2
  from_tails way.Member (first ∷ items) t = record { reading = Members first items; read = tail_members g words first items t; kind_is = refl; items_are = refl }

  -- ---- no only reading

  abbrev HasNoOnly : Type 0
  HasNoOnly = (reading : Reading) → IsOnly g words reading → ⊥

  two_in : (w : Way) → AreTwo (TailsOf w) → HasNoOnly
  two_in w two reading only =
      let a = from_tails w two.one two.has_one in
      let b = from_tails w two.other two.has_other in
      two.differ (sym a.items_are ∙ ap items_in (only.only a.reading a.read ∙ sym (only.only b.reading b.read)) ∙ b.items_are)

  both_in : (w v : Way) → (number w ≡ number v → ⊥) → (items others : List Item) → TailsOf w items → TailsOf v others → HasNoOnly
  both_in w v apart items others s t reading only =
      let a = from_tails w items s in
      let b = from_tails v others t in
      apart (ap number (sym a.kind_is ∙ ap kind (only.only a.reading a.read ∙ sym (only.only b.reading b.read)) ∙ b.kind_is))

  none_in : ((items : List Item) → TailsOf way.Item items → ⊥) → ((items : List Item) → TailsOf way.Key items → ⊥) → ((items : List Item) → TailsOf way.Member items → ⊥) → HasNoOnly
  none_in a b c (Sequence first items) only = a (first ∷ items) (sequence_tail g words first items only.is)
  none_in a b c (Entries first entries) only = b (flat (first ∷ entries)) (entries_tail g words first entries only.is)
  none_in a b c (Members first items) only = c (first ∷ items) (members_tail g words first items only.is)

  -- ---- one

  abbrev AreAllOf : Way → Type 0
  AreAllOf w = (other : Reading) → IsRead g words other → kind other ≡ w

  only_of : (w : Way) (items : List Item) (from : IsFrom w items) → ((other : List Item) → TailsOf w other → other ≡ items) → AreAllOf w → IsOnly g words from.reading
  only_of w items from only all = record {
    is = from.read;
    only = λ other o.
        let P : Way → Type 0 = λ v. TailsOf v (items_in other) in
        same_reading other from.reading (all other o ∙ sym from.kind_is) (only (items_in other) (subst P (all other o) (to_tails other o)) ∙ sym from.items_are);
  }

  shows_sequence : (r : Reading) (values : List Value) → kind r ≡ way.Item → values ≡ map (item_value g) (items_in r) → Shows g r (TheSequence values)
  shows_sequence (Sequence first items) values k e = e
  shows_sequence (Entries first entries) values k e = let n = ap number k in omega (arith, n)
  shows_sequence (Members first items) values k e = let n = ap number k in omega (arith, n)

  shows_entries : (r : Reading) (values : List Value) → kind r ≡ way.Key → values ≡ map (item_value g) (items_in r) → Shows g r (TheEntries values)
  shows_entries (Sequence first items) values k e = let n = ap number k in omega (arith, n)
  shows_entries (Entries first entries) values k e = e ∙ map_flat (item_value g) (first ∷ entries)
  shows_entries (Members first items) values k e = let n = ap number k in omega (arith, n)

  shows_members : (r : Reading) (values : List Value) → kind r ≡ way.Member → values ≡ map (item_value g) (items_in r) → Shows g r (TheMembers values)
  shows_members (Sequence first items) values k e = let n = ap number k in omega (arith, n)
  shows_members (Entries first entries) values k e = let n = ap number k in omega (arith, n)
  shows_members (Members first items) values k e = e

  values_from : (w : Way) (values : List Value) (alone : IsAlone g (TailsOf w) values) → values ≡ map (item_value g) (items_in (from_tails w alone.items alone.has).reading)
  values_from w values alone = alone.values_are ∙ ap (map (item_value g)) (sym (from_tails w alone.items alone.has).items_are)

  sequence_shown : (values : List Value) → IsAlone g (TailsOf way.Item) values → AreAllOf way.Item → IsShown g words (TheSequence values)
  sequence_shown values alone all =
      let from = from_tails way.Item alone.items alone.has in
      record { reading = from.reading; only = only_of way.Item alone.items from alone.only all; shows = shows_sequence from.reading values from.kind_is (values_from way.Item values alone) }

  entries_shown : (values : List Value) → IsAlone g (TailsOf way.Key) values → AreAllOf way.Key → IsShown g words (TheEntries values)
  entries_shown values alone all =
      let from = from_tails way.Key alone.items alone.has in
      record { reading = from.reading; only = only_of way.Key alone.items from alone.only all; shows = shows_entries from.reading values from.kind_is (values_from way.Key values alone) }

  members_shown : (values : List Value) → IsAlone g (TailsOf way.Member) values → AreAllOf way.Member → IsShown g words (TheMembers values)
  members_shown values alone all =
      let from = from_tails way.Member alone.items alone.has in
      record { reading = from.reading; only = only_of way.Member alone.items from alone.only all; shows = shows_members from.reading values from.kind_is (values_from way.Member values alone) }

  all_sequences : ((items : List Item) → TailsOf way.Key items → ⊥) → ((items : List Item) → TailsOf way.Member items → ⊥) → AreAllOf way.Item
  all_sequences b c (Sequence first items) is = refl
  all_sequences b c (Entries first entries) is = absurd (b (flat (first ∷ entries)) (entries_tail g words first entries is))
  all_sequences b c (Members first items) is = absurd (c (first ∷ items) (members_tail g words first items is))

  all_entries : ((items : List Item) → TailsOf way.Item items → ⊥) → ((items : List Item) → TailsOf way.Member items → ⊥) → AreAllOf way.Key
  all_entries a c (Sequence first items) is = absurd (a (first ∷ items) (sequence_tail g words first items is))
  all_entries a c (Entries first entries) is = refl
  all_entries a c (Members first items) is = absurd (c (first ∷ items) (members_tail g words first items is))

  all_members : ((items : List Item) → TailsOf way.Item items → ⊥) → ((items : List Item) → TailsOf way.Key items → ⊥) → AreAllOf way.Member
  all_members a b (Sequence first items) is = absurd (a (first ∷ items) (sequence_tail g words first items is))
  all_members a b (Entries first entries) is = absurd (b (flat (first ∷ entries)) (entries_tail g words first entries is))
  all_members a b (Members first items) is = refl

  apart_01 : number way.Item ≡ number way.Key → ⊥
  apart_01 e = omega (arith, e)

  apart_03 : number way.Item ≡ number way.Member → ⊥
  apart_03 e = omega (arith, e)

  apart_13 : number way.Key ≡ number way.Member → ⊥
  apart_13 e = omega (arith, e)

  pub is_chosen : (a b c : Found) → Finds g (TailsOf way.Item) a → Finds g (TailsOf way.Key) b → Finds g (TailsOf way.Member) c → IsChosen g words (chosen_of a b c)
  is_chosen Zero Zero Zero p q r = none_in p q r
  is_chosen Zero Zero (One values) p q r = members_shown values r (all_members p q)
  is_chosen Zero Zero Many p q r = two_in way.Member r
  is_chosen Zero (One values) Zero p q r = entries_shown values q (all_entries p r)
  is_chosen Zero (One values) (One others) p q r = both_in way.Key way.Member apart_13 q.items r.items q.has r.has
  is_chosen Zero (One values) Many p q r = two_in way.Member r
  is_chosen Zero Many c p q r = two_in way.Key q
  is_chosen (One values) Zero Zero p q r = sequence_shown values p (all_sequences q r)
  is_chosen (One values) Zero (One others) p q r = both_in way.Item way.Member apart_03 p.items r.items p.has r.has
  is_chosen (One values) Zero Many p q r = two_in way.Member r
  is_chosen (One values) (One others) c p q r = both_in way.Item way.Key apart_01 p.items q.items p.has q.has
  is_chosen (One values) Many c p q r = two_in way.Key q
  is_chosen Many b c p q r = two_in way.Item p

-- the same over the sets as contracts name them
pub chosen_by : (g : Syntax) (words : List Word) (a b c : Found) → Finds g (IsTail g way.Item words) a → Finds g (IsTail g way.Key words) b → Finds g (AreMembers g words) c → IsChosen g words (chosen_of a b c)
chosen_by g words a b c p q r = is_chosen g words a b c p q r

-- ---- the content

shown_values : (g : Syntax) (r : Reading) (chosen : Chosen) → Shows g r chosen → values_in chosen ≡ read_values g r
shown_values g (Sequence first items) (TheSequence values) s = s
shown_values g (Sequence first items) (TheEntries values) s = absurd s
shown_values g (Sequence first items) (TheMembers values) s = absurd s
shown_values g (Entries first entries) (TheSequence values) s = absurd s
shown_values g (Entries first entries) (TheEntries values) s = s
shown_values g (Entries first entries) (TheMembers values) s = absurd s
shown_values g (Members first items) (TheSequence values) s = absurd s
shown_values g (Members first items) (TheEntries values) s = absurd s
shown_values g (Members first items) (TheMembers values) s = s

turn_values : (g : Syntax) (entries : List (Item × Item)) → in_turn (map (entry_value g) entries) ≡ flat_map (entry_values g) entries
turn_values g [] = refl
turn_values g (entry ∷ entries) = ap (λ vs. item_value g entry.0 ∷ item_value g entry.1 ∷ vs) (turn_values g entries)

made : (g : Syntax) (r : Reading) (chosen : Chosen) (found : Option Content) → Shows g r chosen → Makes chosen found → found ≡ content_of g r
made g (Sequence first items) (TheSequence values) found s m = m ∙ ap (λ vs. Some (Seq vs)) s
made g (Sequence first items) (TheEntries values) found s m = absurd s
made g (Sequence first items) (TheMembers values) found s m = absurd s
made g (Entries first entries) (TheSequence values) found s m = absurd s
made g (Entries first entries) (TheEntries values) found s m = m (map (entry_value g) (first ∷ entries)) (s ∙ sym (turn_values g (first ∷ entries)))
made g (Entries first entries) (TheMembers values) found s m = absurd s
made g (Members first items) (TheSequence values) found s m = absurd s
made g (Members first items) (TheEntries values) found s m = absurd s
made g (Members first items) (TheMembers values) found s m = m ∙ ap (λ vs. Some (Listed vs)) s

pub no_content : (g : Syntax) (words : List Word) → IsChosen g words None → (content : Content) → IsContent g words content → ⊥
no_content g words none content is = none is.reading is.only

same_as_shown : (g : Syntax) (words : List Word) (chosen : Chosen) (shown : IsShown g words chosen) (content : Content) (is : IsContent g words content) → is.reading ≡ shown.reading
same_as_shown g words chosen shown content is = shown.only.only is.reading is.only.is

pub too_deep : (g : Syntax) (words : List Word) (chosen : Chosen) → IsShown g words chosen → (AllByRecursion IsShallow (values_in chosen) → ⊥) → (content : Content) → IsContent g words content → ⊥
too_deep g words chosen shown deep content is =
    let same : read_values g is.reading ≡ values_in chosen = ap (read_values g) (same_as_shown g words chosen shown content is) ∙ sym (shown_values g shown.reading chosen shown.shows) in
    deep (subst (AllByRecursion IsShallow) same is.shallow)

abbrev holds_some : Option Content → Type 0
holds_some None = ⊥
holds_some (Some content) = Unit {0}

pub content_made : (g : Syntax) (words : List Word) (chosen : Chosen) (found : Option Content) → IsShown g words chosen → AllByRecursion IsShallow (values_in chosen) → Makes chosen found
    → MatchOption found ((content : Content) → IsContent g words content → ⊥) (IsContent g words)
content_made g words chosen (Some content) shown shallow makes = record {
  reading = shown.reading;
  only = shown.only;
  shallow = subst (AllByRecursion IsShallow) (shown_values g shown.reading chosen shown.shows) shallow;
  is = sym (made g shown.reading chosen (Some content) shown.shows makes);
}
content_made g words chosen None shown shallow makes = λ content is.
    let same : Some content ≡ None = sym is.is ∙ ap (content_of g) (same_as_shown g words chosen shown content is) ∙ sym (made g shown.reading chosen None shown.shows makes) in
    subst holds_some same tt

-- ---- a property of each value

pub all_more : (P : Value → Type 0) (xs : List Value) (x : Value) → AllByRecursion P xs → P x → AllByRecursion P (xs ++ x ∷ [])
all_more P [] x all p = (p, tt)
all_more P (y ∷ xs) x all p = (all.0, all_more P xs x all.1 p)

pub all_to : (P : Value → Type 0) (xs : List Value) (i : ℕ) (d : Value) → i < length xs → AllByRecursion P (take i xs) → P (get_or xs i d) → AllByRecursion P (take (i + 1) xs)
all_to P xs i d less all p = subst (AllByRecursion P) (sym (take_more xs i d less)) (all_more P (take i xs) (get_or xs i d) all p)
