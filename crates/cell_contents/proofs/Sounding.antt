-- What is declared is sound.
use denote.Hole.Carrier.{out}
use Rattle.std.proofs.Common.{◌≡◌, ℕ, zero, suc, ◌≤◌, Bool, true, false, cond, ◌==◌, List, [], ◌∷◌, ◌++◌, length, map, Option, Some, None, refl, sym, ap, subst, ◌∙◌}
use Rattle.std.specs.Prelude.{is_some}
use Rattle.std.specs.Option.{option_map, option_and_then}
use Rattle.std.specs.List.{AllByRecursion, list_all, flat_map}
use Rattle.std.specs.declared.cmp.Ordering.TheVariants.{Less, Equal, Greater}
use Rattle.std.specs.FinMap.{find, put}
use Rattle.std.specs.FinMap.Entries.{by_order}
use Rattle.k_terms.specs.Sorts.{SortOrder, sort_k, sort_kitem, sort_map, same}
use Rattle.k_terms.specs.declared.value.Value.{Value, Int, Bool as Truth, Str, Id, Node', Items', Seq', Map', List' as Listed', Freezer', out-Value}
use Rattle.k_terms.specs.declared.value.Content.{Content}
use Rattle.k_terms.specs.declared.value.Content.TheVariants.{Seq, Map, List as Listed}
use Rattle.k_terms.specs.Value.{value_cmp, is_well_formed}
use Rattle.k_terms.proofs.WellFormed.{is_well_formed-Map}
use Rattle.grammar_terms.specs.declared.word.Word.{Word}
use Rattle.grammar_terms.specs.declared.word.WordKind.{WordKind}
use Rattle.grammar_terms.specs.declared.word.WordKind.TheVariants.{Terminal, Literal, Variable, Wild, EmptyList}
use Rattle.grammar_terms.specs.Grammar.{Syntax, order_of}
use Rattle.grammar_terms.specs.Values.{literal_of, literal_at, is_plain_value}
use Rattle.rule_terms.specs.Fill.{put_new}
use Rattle.rule_terms.specs.InRange.{is_value_in_range}
use Rattle.rule_terms.proofs.Defined.{both, joins, same_some}
use Rattle.rule_terms.proofs.Layers.{are_formed_entries, put_formed}
use Rattle.cell_tokens.specs.declared.token.CellKind.{CellKind}
use Rattle.cell_tokens.specs.declared.token.CellKind.TheVariants as kind
use Rattle.cell_tokens.specs.declared.token.CellToken.{CellToken}
use Rattle.cell_trees.specs.declared.declared.Declared.{Declared}
use Rattle.cell_trees.specs.declared.declared.Declared.TheVariants.{Program, Input, Fixed}
use Rattle.cell_contents.specs.declared.ways.Way.{Way}
use Rattle.cell_contents.specs.declared.ways.Way.TheVariants as way
use Rattle.cell_contents.specs.Words.{word_of, words_of}
use Rattle.cell_contents.specs.Readings.{Item, IsItem, Reading, Sequence, Entries, Members, IsRead, item_value, entry_value, entry_values, read_values, content_of}
use Rattle.cell_contents.specs.Contents.{empty_of, alone, token_alone, IsDeclaredBy}
use Rattle.cell_contents.specs.Soundness.{has_plain_literal, HavePlainLiterals, entry_in_range, IsSoundContent, ContentsAreSound}
use Rattle.cell_contents.specs.Tails.{list_item, opening, next_way, link, Follows, IsTail, AreMembers}
use Rattle.cell_contents.proofs.Reading.{flat, sequence_tail, members_tail, entries_tail}
use Rattle.cell_contents.proofs.Choosing.{map_flat}
use Rattle.cell_contents.proofs.Valuing.{IsSoundValue, all_formed, all_in_range, sound_seq, reading_good}

-- ---- words

part_left : {X : Type 0} (P : X → Type 0) (xs ys : List X) → AllByRecursion P (xs ++ ys) → AllByRecursion P xs
part_left P [] ys all = tt
part_left P (x ∷ xs) ys all = (all.0, part_left P xs ys all.1)

part_right : {X : Type 0} (P : X → Type 0) (xs ys : List X) → AllByRecursion P (xs ++ ys) → AllByRecursion P ys
part_right P [] ys all = all
part_right P (x ∷ xs) ys all = part_right P xs ys all.1

abbrev is_plain_kind : WordKind → Bool
is_plain_kind (Literal value) = is_plain_value value
is_plain_kind (Terminal text) = true
is_plain_kind Variable = true
is_plain_kind Wild = true
is_plain_kind EmptyList = true

abbrev ArePlain : List Word → Type 0
ArePlain words = AllByRecursion (λ (word : Word). is_plain_kind word.kind ≡ true) words

kind_plain : (k : CellKind) → has_plain_literal k ≡ true → is_plain_kind (word_of k).kind ≡ true
kind_plain (kind.Literal value) h = h
kind_plain (kind.Open name many) h = refl
kind_plain (kind.Close name) h = refl
kind_plain (kind.Program sort) h = refl
kind_plain kind.Input h = refl
kind_plain kind.Then h = refl
kind_plain kind.MapsTo h = refl
kind_plain (kind.Dot sort) h = refl
kind_plain kind.ListItem h = refl
kind_plain kind.LeftBracket h = refl
kind_plain kind.RightBracket h = refl
kind_plain (kind.Terminal text) h = refl
kind_plain kind.Bad h = refl

words_plain : (tokens : List CellToken) → HavePlainLiterals tokens → ArePlain (words_of tokens)
words_plain [] all = tt
words_plain (token ∷ tokens) all = (kind_plain token.kind all.0, words_plain tokens all.1)

plain_sound : (o : SortOrder) (v : Value) → is_plain_value v ≡ true → IsSoundValue o v
unfolding is_well_formed is_value_in_range
plain_sound o (Int z) h = record { formed = refl; in_range = refl }
plain_sound o (Truth b) h = record { formed = refl; in_range = refl }
plain_sound o (Str text) h = record { formed = refl; in_range = refl }
plain_sound o (Id symbol) h = record { formed = refl; in_range = refl }
plain_sound o (Node' _ _ _) h = cc
plain_sound o (Items' _ _ _) h = cc
plain_sound o (Seq' _ _) h = cc
plain_sound o (Map' _ _) h = cc
plain_sound o (Listed' _ _) h = cc
plain_sound o (Freezer' _ _ _ _) h = cc

kind_sound : (o : SortOrder) (k : WordKind) → is_plain_kind k ≡ true → IsSoundValue o (literal_of k)
kind_sound o (Literal value) h = plain_sound o value h
kind_sound o (Terminal text) h = sound_seq o [] tt
kind_sound o Variable h = sound_seq o [] tt
kind_sound o Wild h = sound_seq o [] tt
kind_sound o EmptyList h = sound_seq o [] tt

literal_sound : (o : SortOrder) (words : List Word) → ArePlain words → (at : ℕ) → IsSoundValue o (literal_at words at)
literal_sound o [] all at = sound_seq o [] tt
literal_sound o (word ∷ words) all zero = kind_sound o word.kind all.0
literal_sound o (word ∷ words) all (suc at) = literal_sound o words all.1 at

-- ---- items and readings

module _ (g : Syntax) (all_declared : length g.prods ≤ g.declared) where
  abbrev S : Value → Type 0
  S v = IsSoundValue (order_of g) v

  item_sound : (item : Item) → ArePlain item.words → IsItem g item → S (item_value g item)
  item_sound item plain is =
      reading_good g item.words all_declared (literal_sound (order_of g) item.words plain) sort_kitem (length item.words) item.shape is.read sort_kitem

  follows_sound : (w : Way) (words : List Word) (items : List Item) → ArePlain words → Follows g w words items → AllByRecursion S (map (item_value g) items)
  follows_sound w words [] plain f = tt
  follows_sound w words (item ∷ items) plain f =
      let start : ArePlain f.0 = part_right _ (link w) f.0 (subst ArePlain f.1 plain) in
      let parts : ArePlain (item.words ++ f.2.0) = subst ArePlain f.2.1 start in
      (item_sound item (part_left _ item.words f.2.0 parts) f.2.2, follows_sound (next_way w) f.2.0 items (part_right _ item.words f.2.0 parts) f.2.3)

  tail_sound : (w : Way) (words : List Word) (items : List Item) → ArePlain words → IsTail g w words items → AllByRecursion S (map (item_value g) items)
  tail_sound w words [] plain t = absurd t
  tail_sound w words (item ∷ items) plain t =
      let parts : ArePlain (item.words ++ t.0) = subst ArePlain t.1 plain in
      (item_sound item (part_left _ item.words t.0 parts) t.2, follows_sound w t.0 items (part_right _ item.words t.0 parts) t.3)

  members_sound : (words : List Word) (items : List Item) → ArePlain words → AreMembers g words items → AllByRecursion S (map (item_value g) items)
  members_sound words items plain are =
      tail_sound way.Member are.0 items (part_right _ (list_item ∷ opening ∷ []) are.0 (subst ArePlain are.1 plain)) are.2

  read_sound : (words : List Word) (r : Reading) → ArePlain words → IsRead g words r → AllByRecursion S (read_values g r)
  read_sound words (Sequence first items) plain is = tail_sound way.Item words (first ∷ items) plain (sequence_tail g words first items is)
  read_sound words (Entries first entries) plain is =
      subst (AllByRecursion S) (map_flat (item_value g) (first ∷ entries)) (tail_sound way.Key words (flat (first ∷ entries)) plain (entries_tail g words first entries is))
  read_sound words (Members first items) plain is = members_sound words (first ∷ items) plain (members_tail g words first items is)

-- ---- entries

abbrev Pairs : Type 0
Pairs = List (Value × Value)

abbrev IsSoundEntry : SortOrder → Value × Value → Type 0
IsSoundEntry o entry = IsSoundValue o entry.0 × IsSoundValue o entry.1

put_in_range : (o : SortOrder) (key value : Value) (es : Pairs) → is_value_in_range o key ≡ true → is_value_in_range o value ≡ true → list_all (entry_in_range o) es ≡ true
    → list_all (entry_in_range o) (put value_cmp key value es) ≡ true
put_in_range o key value [] k v h = joins _ _ (joins _ _ k v) refl
put_in_range o key value (entry ∷ es) k v h =
    elim (value_cmp key entry.0) as (λ r. list_all (entry_in_range o) (by_order r ((key, value) ∷ entry ∷ es) ((entry.0, value) ∷ es) (entry ∷ put value_cmp key value es)) ≡ true) [
      | Less ↦ joins _ _ (joins _ _ k v) h
      | Equal ↦ joins _ _ (joins _ _ (both _ _ (both _ _ h).0).0 v) (both _ _ h).1
      | Greater ↦ joins _ _ (both _ _ h).0 (put_in_range o key value es k v (both _ _ h).1)
    ]

record AreSoundEntries (o : SortOrder) (es : Pairs) : Type 0 where
  formed : are_formed_entries es ≡ true
  in_range : list_all (entry_in_range o) es ≡ true

one_put : (o : SortOrder) (e : Value × Value) (b : Bool) (more out : Pairs) → IsSoundEntry o e → AreSoundEntries o more → cond b None (Some (put value_cmp e.0 e.1 more)) ≡ Some out → AreSoundEntries o out
one_put o e true more out is are h = cc
one_put o e false more out is are h = subst (AreSoundEntries o) (same_some (put value_cmp e.0 e.1 more) out h) (record {
  formed = put_formed e.0 e.1 more is.0.formed is.1.formed are.formed;
  in_range = put_in_range o e.0 e.1 more is.0.in_range is.1.in_range are.in_range;
})

put_all : (o : SortOrder) (es out : Pairs) → AllByRecursion (IsSoundEntry o) es → put_new es [] ≡ Some out → AreSoundEntries o out
put_all o [] out all h = subst (AreSoundEntries o) (same_some [] out h) (record { formed = refl; in_range = refl })
put_all o (e ∷ es) out all h =
    elim (put_new es []) as (λ (more : Option Pairs). put_new es [] ≡ more
    → option_and_then (λ more. cond (is_some (find value_cmp e.0 more)) None (Some (put value_cmp e.0 e.1 more))) more ≡ Some out → AreSoundEntries o out) [
      | None ↦ λ is d. cc
      | Some more ↦ λ is d. one_put o e (is_some (find value_cmp e.0 more)) more out all.0 (put_all o es more all.1 is) d
    ] refl h

entries_from : (g : Syntax) (o : SortOrder) (es : List (Item × Item)) → AllByRecursion (IsSoundValue o) (flat_map (entry_values g) es) → AllByRecursion (IsSoundEntry o) (map (entry_value g) es)
entries_from g o [] all = tt
entries_from g o (e ∷ es) all = ((all.0, all.1.0), entries_from g o es all.1.1)

-- ---- contents

list_sound : (o : SortOrder) (values : List Value) → AllByRecursion (IsSoundValue o) values → IsSoundContent o (Listed values)
list_sound o values all = record { of_kind = all_formed o values all; in_range = all_in_range o values all }

sequence_sound : (o : SortOrder) (values : List Value) → AllByRecursion (IsSoundValue o) values → IsSoundContent o (Seq values)
sequence_sound o values all = record { of_kind = all_formed o values all; in_range = all_in_range o values all }

map_sound : (o : SortOrder) (es : Pairs) → AreSoundEntries o es → IsSoundContent o (Map es)
map_sound o es are = record { of_kind = is_well_formed-Map es ∙ are.formed; in_range = are.in_range }

made_map : (o : SortOrder) (made : Option Pairs) (content : Content) → ((es : Pairs) → made ≡ Some es → AreSoundEntries o es) → option_map (λ es. Map es) made ≡ Some content → IsSoundContent o content
made_map o None content sound h = cc
made_map o (Some es) content sound h = subst (IsSoundContent o) (same_some (Map es) content h) (map_sound o es (sound es refl))

made_sound : (g : Syntax) (o : SortOrder) (r : Reading) (content : Content) → AllByRecursion (IsSoundValue o) (read_values g r) → content_of g r ≡ Some content → IsSoundContent o content
made_sound g o (Sequence first items) content all h = subst (IsSoundContent o) (same_some (Seq (read_values g (Sequence first items))) content h) (sequence_sound o (read_values g (Sequence first items)) all)
made_sound g o (Entries first entries) content all h =
    made_map o (put_new (map (entry_value g) (first ∷ entries)) []) content
    (λ es is. put_all o (map (entry_value g) (first ∷ entries)) es (entries_from g o (first ∷ entries) all) is) h
made_sound g o (Members first items) content all h = subst (IsSoundContent o) (same_some (Listed (read_values g (Members first items))) content h) (list_sound o (read_values g (Members first items)) all)

-- ---- one token

abbrev AloneIsSound : SortOrder → Option Declared → Type 0
AloneIsSound o None = Unit {0}
AloneIsSound o (Some (Fixed content)) = IsSoundContent o content
AloneIsSound o (Some (Program sort)) = Unit {0}
AloneIsSound o (Some Input) = Unit {0}

either_sound : (o : SortOrder) (b : Bool) (one other : Content) → IsSoundContent o one → IsSoundContent o other → IsSoundContent o (cond b one other)
either_sound o true one other is also = is
either_sound o false one other is also = also

empty_sound : (o : SortOrder) (sort : Option ℕ) → IsSoundContent o (empty_of sort)
empty_sound o None = sequence_sound o [] tt
empty_sound o (Some sort) =
    either_sound o (sort == sort_k) (Seq []) (cond (sort == sort_map) (Map []) (Listed [])) (sequence_sound o [] tt)
    (either_sound o (sort == sort_map) (Map []) (Listed []) (map_sound o [] (record { formed = refl; in_range = refl })) (list_sound o [] tt))

one_sound : (o : SortOrder) (v : Value) → IsSoundValue o v → AloneIsSound o (token_alone (kind.Literal v))
unfolding is_well_formed is_value_in_range out-Value out
one_sound o (Int z) is = record { of_kind = (refl, same _); in_range = refl }
one_sound o (Truth b) is = record { of_kind = (refl, same _); in_range = refl }
one_sound o (Str text) is = record { of_kind = (refl, same _); in_range = refl }
one_sound o (Id symbol) is = tt
one_sound o (Node' _ _ _) is = tt
one_sound o (Items' _ _ _) is = tt
one_sound o (Seq' _ _) is = tt
one_sound o (Map' _ _) is = tt
one_sound o (Listed' _ _) is = tt
one_sound o (Freezer' _ _ _ _) is = tt

token_sound : (o : SortOrder) (k : CellKind) → has_plain_literal k ≡ true → AloneIsSound o (token_alone k)
token_sound o (kind.Literal value) h = one_sound o value (plain_sound o value h)
token_sound o (kind.Open name many) h = tt
token_sound o (kind.Close name) h = tt
token_sound o (kind.Program sort) h = tt
token_sound o kind.Input h = tt
token_sound o kind.Then h = tt
token_sound o kind.MapsTo h = tt
token_sound o (kind.Dot sort) h = empty_sound o sort
token_sound o kind.ListItem h = tt
token_sound o kind.LeftBracket h = tt
token_sound o kind.RightBracket h = tt
token_sound o (kind.Terminal text) h = tt
token_sound o kind.Bad h = tt

alone_sound : (o : SortOrder) (tokens : List CellToken) → HavePlainLiterals tokens → AloneIsSound o (alone tokens)
alone_sound o [] all = tt
alone_sound o (token ∷ []) all = token_sound o token.kind all.0
alone_sound o (token ∷ other ∷ tokens) all = tt

by_alone : (g : Syntax) (tokens : List CellToken) (content : Content) (found : Option Declared) → length g.prods ≤ g.declared → HavePlainLiterals tokens
    → AloneIsSound (order_of g) found → IsDeclaredBy found g tokens (Fixed content) → IsSoundContent (order_of g) content
by_alone g tokens content (Some it) all plain sound is = subst (AloneIsSound (order_of g)) (ap Some (sym is)) sound
by_alone g tokens content None all plain sound is =
    made_sound g (order_of g) is.reading content (read_sound g all (words_of tokens) is.reading (words_plain tokens plain) is.only.is) is.is

pub contents_are_sound : ContentsAreSound
contents_are_sound g tokens content all plain is = by_alone g tokens content (alone tokens) all plain (alone_sound (order_of g) tokens plain) is
