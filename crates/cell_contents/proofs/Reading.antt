-- Readings of a content as items, with what follows each of them.
use Rattle.std.proofs.Common.{◌≡◌, List, [], ◌∷◌, ◌++◌, refl, sym, ap, ◌∙◌}
use Rattle.std.specs.List.{AllByRecursion, flat_map}
use Rattle.std.proofs.lemmas.List.{append_assoc}
use Rattle.grammar_terms.specs.declared.word.Word.{Word}
use Rattle.grammar_terms.specs.Grammar.{Syntax}
use Rattle.cell_contents.specs.declared.ways.Way.TheVariants as way
use Rattle.cell_contents.specs.Readings.{Item, IsItem, Sequence, Entries, Members, behind_arrow, entry_words, member_words, IsEntry, IsRead}
use Rattle.cell_contents.specs.Tails.{arrow, maps_to, list_item, opening, closing, Follows, IsTail, AreMembers}

-- ---- sequences

sequence_follows : (g : Syntax) (items : List Item) → AllByRecursion (IsItem g) items → Follows g way.Item (flat_map behind_arrow items) items
sequence_follows g [] all = refl
sequence_follows g (item ∷ items) all =
    (item.words ++ flat_map behind_arrow items, refl, (flat_map behind_arrow items, refl, all.0, sequence_follows g items all.1))

follows_sequence : (g : Syntax) (words : List Word) (items : List Item) → Follows g way.Item words items → AllByRecursion (IsItem g) items × (flat_map behind_arrow items ≡ words)
follows_sequence g words [] f = (tt, sym f)
follows_sequence g words (item ∷ items) f =
    let back = follows_sequence g f.2.0 items f.2.3 in
    ((f.2.2, back.0), ap (λ ws. arrow ∷ (item.words ++ ws)) back.1 ∙ ap (λ ws. arrow ∷ ws) (sym f.2.1) ∙ sym f.1)

pub sequence_tail : (g : Syntax) (words : List Word) (first : Item) (items : List Item) → IsRead g words (Sequence first items) → IsTail g way.Item words (first ∷ items)
sequence_tail g words first items is = (flat_map behind_arrow items, sym is.is, is.parts.0, sequence_follows g items is.parts.1)

pub tail_sequence : (g : Syntax) (words : List Word) (first : Item) (items : List Item) → IsTail g way.Item words (first ∷ items) → IsRead g words (Sequence first items)
tail_sequence g words first items t =
    let back = follows_sequence g t.0 items t.3 in
    record { parts = (t.2, back.0); is = ap (λ ws. first.words ++ ws) back.1 ∙ sym t.1 }

-- ---- members

member_split : (item : Item) (more : List Word) → (item.words ++ closing ∷ []) ++ more ≡ item.words ++ closing ∷ more
member_split item more = append_assoc item.words (closing ∷ []) more

members_follow : (g : Syntax) (items : List Item) → AllByRecursion (IsItem g) items → Follows g way.Member (closing ∷ flat_map member_words items) items
members_follow g [] all = refl
members_follow g (item ∷ items) all =
    let more = flat_map member_words items in
    (item.words ++ closing ∷ more, ap (λ ws. closing ∷ list_item ∷ opening ∷ ws) (member_split item more), (closing ∷ more, refl, all.0, members_follow g items all.1))

follow_members : (g : Syntax) (words : List Word) (items : List Item) → Follows g way.Member words items → AllByRecursion (IsItem g) items × (closing ∷ flat_map member_words items ≡ words)
follow_members g words [] f = (tt, sym f)
follow_members g words (item ∷ items) f =
    let back = follow_members g f.2.0 items f.2.3 in (
      (f.2.2, back.0),
      ap (λ ws. closing ∷ list_item ∷ opening ∷ ws) (member_split item (flat_map member_words items) ∙ ap (λ ws. item.words ++ ws) back.1 ∙ sym f.2.1) ∙ sym f.1,
    )

pub members_tail : (g : Syntax) (words : List Word) (first : Item) (items : List Item) → IsRead g words (Members first items) → AreMembers g words (first ∷ items)
members_tail g words first items is =
    let more = flat_map member_words items in (
      first.words ++ closing ∷ more,
      sym is.is ∙ ap (λ ws. list_item ∷ opening ∷ ws) (member_split first more),
      (closing ∷ more, refl, is.parts.0, members_follow g items is.parts.1),
    )

pub tail_members : (g : Syntax) (words : List Word) (first : Item) (items : List Item) → AreMembers g words (first ∷ items) → IsRead g words (Members first items)
tail_members g words first items are =
    let t = are.2 in
    let back = follow_members g t.0 items t.3 in
    record {
      parts = (t.2, back.0);
      is = ap (λ ws. list_item ∷ opening ∷ ws) (member_split first (flat_map member_words items) ∙ ap (λ ws. first.words ++ ws) back.1 ∙ sym t.1) ∙ sym are.1;
    }

-- ---- entries

-- keys and values in turn
abbrev pub flat : List (Item × Item) → List Item
flat [] = []
flat (entry ∷ entries) = entry.0 ∷ entry.1 ∷ flat entries

entry_split : (entry : Item × Item) (more : List Word) → entry_words entry ++ more ≡ entry.0.words ++ (maps_to ∷ (entry.1.words ++ more))
entry_split entry more = append_assoc entry.0.words (maps_to ∷ entry.1.words) more

entries_follow : (g : Syntax) (entries : List (Item × Item)) → AllByRecursion (IsEntry g) entries → Follows g way.Value (flat_map entry_words entries) (flat entries)
entries_follow g [] all = refl
entries_follow g (entry ∷ entries) all =
    let more = flat_map entry_words entries in (
      entry_words entry ++ more,
      refl,
      (
        maps_to ∷ (entry.1.words ++ more),
        entry_split entry more,
        all.0.0,
        (entry.1.words ++ more, refl, (more, refl, all.0.1, entries_follow g entries all.1)),
      ),
    )

-- items that are entries
pub record AreEntries (g : Syntax) (words : List Word) (items : List Item) : Type 0 where
  pub entries : List (Item × Item)
  pub are : items ≡ flat entries
  pub all : AllByRecursion (IsEntry g) entries
  pub is : flat_map entry_words entries ≡ words

follow_entries : (g : Syntax) (words : List Word) (items : List Item) → Follows g way.Value words items → AreEntries g words items
follow_entries g words [] f = record { entries = []; are = refl; all = tt; is = sym f }
follow_entries g words (key ∷ []) f = absurd f.2.3
follow_entries g words (key ∷ value ∷ items) f =
    let deep = f.2.3 in
    let back = follow_entries g deep.2.0 items deep.2.3 in
    record {
      entries = (key, value) ∷ back.entries;
      are = ap (λ is. key ∷ value ∷ is) back.are;
      all = ((f.2.2, deep.2.2), back.all);
      is =
          entry_split (key, value) (flat_map entry_words back.entries)
          ∙ ap (λ ws. key.words ++ (maps_to ∷ ws)) (ap (λ ws. value.words ++ ws) back.is ∙ sym deep.2.1)
          ∙ ap (λ ws. key.words ++ ws) (sym deep.1) ∙ sym f.2.1 ∙ sym f.1;
    }

pub entries_tail : (g : Syntax) (words : List Word) (first : Item × Item) (entries : List (Item × Item)) → IsRead g words (Entries first entries) → IsTail g way.Key words (flat (first ∷ entries))
entries_tail g words first entries is =
    let more = flat_map entry_words entries in (
      maps_to ∷ (first.1.words ++ more),
      sym is.is ∙ entry_split first more,
      is.parts.0.0,
      (first.1.words ++ more, refl, (more, refl, is.parts.0.1, entries_follow g entries is.parts.1)),
    )

-- items that are one entry or more
pub record IsMap (g : Syntax) (words : List Word) (items : List Item) : Type 0 where
  pub first : Item × Item
  pub entries : List (Item × Item)
  pub are : items ≡ flat (first ∷ entries)
  pub read : IsRead g words (Entries first entries)

pub tail_entries : (g : Syntax) (words : List Word) (items : List Item) → IsTail g way.Key words items → IsMap g words items
tail_entries g words [] t = absurd t
tail_entries g words (key ∷ []) t = absurd t.3
tail_entries g words (key ∷ value ∷ items) t =
    let deep = t.3 in
    let back = follow_entries g deep.2.0 items deep.2.3 in
    record {
      first = (key, value);
      entries = back.entries;
      are = ap (λ is. key ∷ value ∷ is) back.are;
      read = record {
        parts = ((t.2, deep.2.2), back.all);
        is =
            entry_split (key, value) (flat_map entry_words back.entries)
            ∙ ap (λ ws. key.words ++ (maps_to ∷ ws)) (ap (λ ws. value.words ++ ws) back.is ∙ sym deep.2.1)
            ∙ ap (λ ws. key.words ++ ws) (sym deep.1) ∙ sym t.1;
      };
    }
