-- What is found behind an item.
use Rattle.std.proofs.Common.{◌≡◌, ℕ, ◌+◌, ◌<◌, List, [], ◌∷◌, ◌++◌, length, Some, None, refl, sym, ap, ◌∙◌, subst, arith, length-append}
use Rattle.std.specs.Prelude.{slice_get}
use Rattle.std.proofs.lemmas.List.{append_cancel_left}
use Rattle.grammar_terms.specs.declared.word.Word.{Word}
use Rattle.grammar_terms.specs.Grammar.{Syntax}
use Rattle.cell_contents.specs.declared.ways.Way.{Way}
use Rattle.cell_contents.specs.declared.ways.Way.TheVariants as way
use Rattle.cell_contents.specs.declared.found.Found.{Found}
use Rattle.cell_contents.specs.declared.found.Found.TheVariants.{Zero, One}
use Rattle.cell_contents.specs.declared.table.Entry.{Entry}
use Rattle.cell_contents.specs.declared.table.Table.{Table}
use Rattle.cell_contents.specs.Marks.{terminal}
use Rattle.cell_contents.specs.Readings.{Item}
use Rattle.cell_contents.specs.Tails.{closing, list_item, opening, next_way, link, IsEnd, Follows, IsTail, OpensList, AreMembers, Begins}
use Rattle.cell_contents.specs.Tables.{Finds, IsTable, IsRow, found_in}
use Rattle.cell_contents.proofs.Finding.{finds_same}

-- ---- the end, nothing, or further items

longer : (w : Way) (words start rest : List Word) (item : Item) → words ≡ link w ++ start → start ≡ item.words ++ rest → 0 < length item.words → IsEnd w words → ⊥
longer way.Item words start rest item e s some end = let a = ap length end in let b = ap length e in omega (arith, a, b)
longer way.Key words start rest item e s some end = end
longer way.Value words start rest item e s some end =
    let a = ap length end in let b = ap length e in let d = ap length s ∙ length-append item.words rest in omega (arith, a, b, d, some)
longer way.Member words start rest item e s some end = let a = ap length end in let b = ap length e in omega (arith, a, b)

only_end : (g : Syntax) (w : Way) (words : List Word) → IsEnd w words → (other : List Item) → Follows g w words other → other ≡ []
only_end g w words end [] f = refl
only_end g w words end (item ∷ items) f = absurd (longer w words f.0 f.2.0 item f.1 f.2.1 f.2.2.some end)

pub ends : (g : Syntax) (w : Way) (words : List Word) → IsEnd w words → Finds g (Follows g w words) (One [])
ends g w words end = record { items = []; has = end; only = only_end g w words end; values_are = refl }

pub stops : (g : Syntax) (w : Way) (words : List Word) → (IsEnd w words → ⊥) → ((start : List Word) → words ≡ link w ++ start → ⊥) → Finds g (Follows g w words) Zero
stops g w words no_end no_link [] f = no_end f
stops g w words no_end no_link (item ∷ items) f = no_link f.0 f.1

goes_to : (g : Syntax) (w : Way) (words rest : List Word) → words ≡ link w ++ rest → (items : List Item) → IsTail g (next_way w) rest items → Follows g w words items
goes_to g w words rest e [] t = absurd t
goes_to g w words rest e (item ∷ items) t = (rest, e, t)

goes_from : (g : Syntax) (w : Way) (words rest : List Word) → words ≡ link w ++ rest → (IsEnd w words → ⊥) → (items : List Item) → Follows g w words items → IsTail g (next_way w) rest items
goes_from g w words rest e no_end [] f = no_end f
goes_from g w words rest e no_end (item ∷ items) f =
    let same : f.0 ≡ rest = append_cancel_left (link w) f.0 rest (sym f.1 ∙ e) in
    let P : List Word → Type 0 = λ start. IsTail g (next_way w) start (item ∷ items) in
    subst P same f.2

pub goes : (g : Syntax) (w : Way) (words rest : List Word) → words ≡ link w ++ rest → (IsEnd w words → ⊥) → (f : Found) → Finds g (IsTail g (next_way w) rest) f → Finds g (Follows g w words) f
goes g w words rest e no_end f finds = finds_same g (IsTail g (next_way w) rest) (Follows g w words) (goes_to g w words rest e) (goes_from g w words rest e no_end) f finds

-- ---- the table

pub row_found : (g : Syntax) (w : Way) (words : List Word) (table : Table) (entry : Entry) → slice_get table.entries (length words) ≡ Some entry
    → (before : List Word) (size : ℕ) → Begins w before → length words < size → IsTable g (before ++ words) size table → Finds g (IsTail g w words) (found_in w entry)
row_found g w words table entry is before size begins less t = subst (IsRow g before words) is (t.rows before words refl less) w begins

pub row_there : (g : Syntax) (words : List Word) (table : Table) → slice_get table.entries (length words) ≡ None
    → (before : List Word) (size : ℕ) → length words < size → IsTable g (before ++ words) size table → ⊥
row_there g words table none before size less t = subst (IsRow g before words) none (t.rows before words refl less)

-- what is found where these words are left
abbrev pub FindsAt : Way → List Word → Table → Found → Type 0
FindsAt w words table found =
    (g : Syntax) (before : List Word) (size : ℕ) → Begins w before → length words < size → IsTable g (before ++ words) size table → Finds g (IsTail g w words) found

abbrev pub FindsBehind : Way → List Word → Table → Found → Type 0
FindsBehind w words table found = (g : Syntax) → IsTable g words (length words + 1) table → Finds g (Follows g w words) found

pub behind_end : (w : Way) (words : List Word) (table : Table) → IsEnd w words → FindsBehind w words table table.end
behind_end w words table end g t = subst (Finds g (Follows g w words)) (sym t.end_is) (ends g w words end)

pub behind_stop : (w : Way) (words : List Word) (table : Table) → (IsEnd w words → ⊥) → ((start : List Word) → words ≡ link w ++ start → ⊥) → FindsBehind w words table table.none
behind_stop w words table no_end no_link g t = subst (Finds g (Follows g w words)) (sym t.none_is) (stops g w words no_end no_link)

link_begins : (w : Way) → Begins (next_way w) (link w)
link_begins way.Item = ([], refl)
link_begins way.Key = ([], refl)
link_begins way.Value = ([], refl)
link_begins way.Member = (closing ∷ list_item ∷ [], refl)

pub behind_more : (w : Way) (words rest : List Word) (table : Table) (found : Found) → words ≡ link w ++ rest → (IsEnd w words → ⊥) → FindsAt (next_way w) rest table found → FindsBehind w words table found
behind_more w words rest table found e no_end finds g t =
    let size = ap length e ∙ length-append (link w) rest in
    let less : length rest < length words + 1 = omega (arith, size) in
    let P : List Word → Type 0 = λ ws. IsTable g ws (length words + 1) table in
    goes g w words rest e no_end found (finds g (link w) (length words + 1) (link_begins w) less (subst P e t))

-- ---- each way

pub empty_not : (words rest : List Word) (word : Word) → words ≡ word ∷ rest → words ≡ [] → ⊥
empty_not words rest word e none = let a = ap length e in let b = ap length none in omega (arith, a, b)

pub member_ends : (words further : List Word) → words ≡ closing ∷ further → further ≡ [] → words ≡ closing ∷ []
member_ends words further e none = e ∙ ap (λ ws. closing ∷ ws) none

pub member_not_end : (words further : List Word) → words ≡ closing ∷ further → (further ≡ [] → ⊥) → words ≡ closing ∷ [] → ⊥
member_not_end words further e some end = some (append_cancel_left (closing ∷ []) further [] (sym e ∙ end))

pub member_further : (words further rest : List Word) → words ≡ closing ∷ further → OpensList further rest → words ≡ link way.Member ++ rest
member_further words further rest e opens = e ∙ ap (λ ws. closing ∷ ws) opens

pub member_stops : (words further : List Word) → words ≡ closing ∷ further → ((rest : List Word) → OpensList further rest → ⊥) → (start : List Word) → words ≡ link way.Member ++ start → ⊥
member_stops words further e none start s = none start (append_cancel_left (closing ∷ []) further (list_item ∷ opening ∷ start) (sym e ∙ s))

-- ---- members of a list

opening_same : (words rest start : List Word) → OpensList words rest → OpensList words start → start ≡ rest
opening_same words rest start e s = append_cancel_left (list_item ∷ opening ∷ []) start rest (sym s ∙ e)

members_from : (g : Syntax) (words rest : List Word) → OpensList words rest → (items : List Item) → AreMembers g words items → IsTail g way.Member rest items
members_from g words rest e items are =
    let P : List Word → Type 0 = λ start. IsTail g way.Member start items in
    subst P (opening_same words rest are.0 e are.1) are.2

pub members_found : (g : Syntax) (words rest : List Word) (table : Table) (found : Found) → OpensList words rest → FindsAt way.Member rest table found → IsTable g words (length words) table → Finds g (AreMembers g words) found
members_found g words rest table found e finds t =
    let size = ap length e in
    let less : length rest < length words = omega (arith, size) in
    let P : List Word → Type 0 = λ ws. IsTable g ws (length words) table in
    finds_same g (IsTail g way.Member rest) (AreMembers g words) (λ items tail. (rest, e, tail)) (members_from g words rest e) found
    (finds g (list_item ∷ opening ∷ []) (length words) (list_item ∷ [], refl) less (subst P e t))

pub no_members : (g : Syntax) (words : List Word) → ((rest : List Word) → OpensList words rest → ⊥) → Finds g (AreMembers g words) Zero
no_members g words none items are = none are.0 are.1

-- ---- marks

pub mark_some : (text mark : List ℕ) (words rest : List Word) → text ≡ mark → words ≡ terminal text ∷ rest → words ≡ terminal mark ∷ rest
mark_some text mark words rest same e = e ∙ ap (λ t. terminal t ∷ rest) same

pub mark_none : (text mark : List ℕ) (words : List Word) → text ≡ mark → ((rest : List Word) → words ≡ terminal text ∷ rest → ⊥) → (rest : List Word) → words ≡ terminal mark ∷ rest → ⊥
mark_none text mark words same none rest e = none rest (e ∙ ap (λ t. terminal t ∷ rest) (sym same))

pub no_length : {X : Type 0} (xs : List X) → length xs ≡ 0 → xs ≡ []
no_length [] e = refl
no_length (x ∷ xs) e = absurd (omega (arith, e))

pub some_length : {X : Type 0} (xs : List X) → 0 < length xs → xs ≡ [] → ⊥
some_length xs some e = let none = ap length e in omega (arith, some, none)
