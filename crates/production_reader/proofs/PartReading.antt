-- How the items of a production are read.
use Rattle.std.proofs.Common.{◌≡◌, ℕ, ◌+◌, ◌≤◌, ◌<◌, Bool, true, false, ◌||◌, IsTrue, List, [], ◌∷◌, ◌++◌, length, drop, map, refl, sym, ap, ◌∙◌, subst, arith, append_assoc, append-nil, length-drop}
use Rattle.std.specs.List.{AllByRecursion}
use Rattle.std.proofs.Math.Bool.{or-true}
use Rattle.production_reader.proofs.Gathering.{map_more}
use Rattle.k_lexer.specs.declared.token.Kind.TheVariants.{Word, Str}
use Rattle.production_reader.specs.Lexemes.{Lexeme, Sign, Is, Reads, AreAlike, word, quoted, mark}
use Rattle.production_reader.specs.Written.{Attribute, Part, sign_of_part, signs_of_parts, signs_of_attributes, signs_of_attribute, separated}
use Rattle.production_reader.specs.Written.Part.{SortPart, TerminalPart}
use Rattle.production_reader.specs.Allowed.{IsPart, IsTerminal, IsAttribute, is_item_sort, may_bracket, text_of_string}
use Rattle.production_reader.specs.Heads.{heads, is_any_word, is_word_of, is_text, is_part_start, ends_parts, ends_production, Anything, Begin, Stands}
use Rattle.production_reader.specs.Items.{one_part, items_after, sorts_of_items, IsRest, signs_of_rest, prod_of_rest}
use Rattle.production_reader.specs.Meaning.{item_of, attrs_of}
use Rattle.production_reader.specs.Reading.{IsRead, IsReadAs, StopsAt, Stops}
use Rattle.production_reader.specs.declared.prod.Item.{Item}
use Rattle.production_reader.specs.declared.prod.Item.TheVariants as item
use Rattle.production_reader.specs.declared.prod.Attrs.{Attrs}
use Rattle.production_reader.specs.declared.prod.Form.TheVariants as form
use Rattle.production_reader.specs.declared.stop.Stop.{Stop}
use Rattle.production_reader.specs.declared.stop.Stop.TheVariants.{Expected, Memory}
use Rattle.production_reader.proofs.Lexemes.{alike_less, reads-length}
use Rattle.production_reader.proofs.Leading.{Leads, Rest, leads_all, leads_choose, leads_done, leads_read, leads_stops, leads_over, leads_stops_first}
use Rattle.production_reader.proofs.Fronts.{heads_alike, heads_apart, heads_more, reads_heads, is_mark, is_word_by, stands_alike, stands_reads, stands_within, ends_production_part, ends_parts_start, text_there}

-- ---- one item

pub part_same : (y p : Part) → (sign_of_part y).kind ≡ (sign_of_part p).kind → (sign_of_part y).bytes ≡ (sign_of_part p).bytes → y ≡ p
part_same (SortPart s) (SortPart t) kind bytes = ap SortPart bytes
part_same (SortPart s) (TerminalPart t) kind bytes = absurd (cc)
part_same (TerminalPart s) (SortPart t) kind bytes = absurd (cc)
part_same (TerminalPart s) (TerminalPart t) kind bytes = ap TerminalPart bytes

pub part_read : (p : Part) (all : List Lexeme) (at : ℕ) → IsPart p → Stands (sign_of_part p) all at → IsRead IsPart one_part Anything all at p (at + 1)
part_read p all at allowed stands = record {
  order = omega arith;
  within = stands_within _ all at stands;
  allowed = allowed;
  reads = stands;
  only = λ other y after alike allows reads ends.
      let here = stands_alike (sign_of_part p) at other all (alike_less at (at + 1) other all (omega arith) alike) stands in
      let b = stands_reads (sign_of_part p) (sign_of_part y) [] other at after here reads in
      (part_same y p b.kind b.bytes, sym b.reads);
}

stops_part : (all : List Lexeme) (at : ℕ) → at ≤ length all → ((other : List Lexeme) (y : Part) (after : List Lexeme) → AreAlike at other all → IsPart y → Reads (one_part y) (drop at other) after → ⊥)
    → StopsAt IsPart one_part Anything all at at
stops_part all at within none = record {
  order = omega arith;
  within = within;
  none = λ other y after alike allowed reads ends. none other y after alike allowed reads;
  begun = SortPart (65 ∷ []);
  allowed = refl;
  done = [];
  left = one_part (SortPart (65 ∷ []));
  parts = refl;
  reads = refl;
}

neither : (at : ℕ) (other : List Lexeme) (y : Part) (after : List Lexeme) → heads is_any_word (drop at other) ≡ false → heads is_text (drop at other) ≡ false → Reads (one_part y) (drop at other) after → ⊥
neither at other (SortPart s) after none text reads = let there = reads_heads is_any_word (word s) [] (drop at other) after (is_word_by (λ bytes. true) s) reads in cc
neither at other (TerminalPart s) after none text reads = let there = reads_heads is_text (quoted s) [] (drop at other) after (text_there s) reads in cc

pub no_part : (all : List Lexeme) (at : ℕ) → at ≤ length all → heads is_any_word (drop at all) ≡ false → heads is_text (drop at all) ≡ false → StopsAt IsPart one_part Anything all at at
no_part all at within none text = stops_part all at within (λ other y after alike allowed reads.
    neither at other y after (heads_alike is_any_word at other all alike ∙ none) (heads_alike is_text at other all alike ∙ text) reads)

no_sort : (bytes : List ℕ) (y : Part) → is_item_sort bytes ≡ false → IsPart y → (sign_of_part y).kind ≡ Word → (sign_of_part y).bytes ≡ bytes → ⊥
no_sort bytes (SortPart s) none allowed kind same = let e : is_item_sort s ≡ is_item_sort bytes = ap is_item_sort same in cc
no_sort bytes (TerminalPart s) none allowed kind same = cc

pub other_word : (bytes : List ℕ) (all : List Lexeme) (at : ℕ) → at ≤ length all → Stands (word bytes) all at → is_item_sort bytes ≡ false → StopsAt IsPart one_part Anything all at at
other_word bytes all at within stands none = stops_part all at within (λ other y after alike allowed reads.
    let b = stands_reads (word bytes) (sign_of_part y) [] other at after (stands_alike (word bytes) at other all alike stands) reads in
    no_sort bytes y none allowed b.kind b.bytes)

no_terminal : (bytes : List ℕ) (y : Part) → (IsTerminal (text_of_string bytes) → ⊥) → IsPart y → (sign_of_part y).kind ≡ Str → (sign_of_part y).bytes ≡ bytes → ⊥
no_terminal bytes (SortPart s) none allowed kind same = cc
no_terminal bytes (TerminalPart s) none allowed kind same = none (subst (λ t. IsTerminal (text_of_string t)) same allowed)

pub other_text : (bytes : List ℕ) (all : List Lexeme) (at : ℕ) → at ≤ length all → Stands (quoted bytes) all at → (IsTerminal (text_of_string bytes) → ⊥) → StopsAt IsPart one_part Anything all at at
other_text bytes all at within stands none = stops_part all at within (λ other y after alike allowed reads.
    let b = stands_reads (quoted bytes) (sign_of_part y) [] other at after (stands_alike (quoted bytes) at other all alike stands) reads in
    no_terminal bytes y none allowed b.kind b.bytes)

-- as the code has it: a text that means the string, and a test that tells whether it is a terminal
pub refused_text : (bytes text : List ℕ) (test : Bool) (all : List Lexeme) (at : ℕ) → at ≤ length all → Stands (quoted bytes) all at → text ≡ text_of_string bytes
    → (IsTrue test → IsTerminal text) × (IsTerminal text → IsTrue test) → test ≡ false → StopsAt IsPart one_part Anything all at at
refused_text bytes text test all at within stands is tells none =
    other_text bytes all at within stands (λ terminal. let passed = tells.1 (subst IsTerminal (sym is) terminal) in cc)

pub sort_part : (bytes text : List ℕ) (all : List Lexeme) (at : ℕ) → Stands (word bytes) all at → text ≡ bytes → is_item_sort bytes ≡ true
    → IsReadAs IsPart one_part Anything item_of all at (item.Sort text) (at + 1)
sort_part bytes text all at stands is allowed = record { written = SortPart bytes; read = part_read (SortPart bytes) all at allowed stands; means = ap item.Sort is }

pub text_part : (bytes text : List ℕ) (test : Bool) (all : List Lexeme) (at : ℕ) → Stands (quoted bytes) all at → text ≡ text_of_string bytes
    → (IsTrue test → IsTerminal text) × (IsTerminal text → IsTrue test) → test ≡ true → IsReadAs IsPart one_part Anything item_of all at (item.Terminal text) (at + 1)
text_part bytes text test all at stands is tells passed = record {
  written = TerminalPart bytes;
  read = part_read (TerminalPart bytes) all at (subst IsTerminal is (tells.0 passed)) stands;
  means = ap item.Terminal is;
}

-- ---- items one after another

sort_starts : (s : List ℕ) (l : Lexeme) → is_item_sort s ≡ true → Is (word s) l → is_part_start l ≡ true
sort_starts s l allowed is = ap (λ t. is_text l || t) (is_word_by is_item_sort s l is ∙ allowed) ∙ or-true (is_text l)

pub part_starts : (y : Part) (signs : List Sign) (before after : List Lexeme) → IsPart y → Reads (sign_of_part y ∷ signs) before after → heads is_part_start before ≡ true
part_starts (SortPart s) signs before after allowed reads = reads_heads is_part_start (word s) signs before after (λ l is. sort_starts s l allowed is) reads
part_starts (TerminalPart s) signs before after allowed reads = reads_heads is_part_start (quoted s) signs before after (λ l is. ap (λ t. t || is_word_of is_item_sort l) (text_there s l is)) reads

module _ (all : List Lexeme) (from : ℕ) where
  abbrev pub PartLeads : List Part → ℕ → ℕ → Type 0
  PartLeads xs at seen = Leads (AllByRecursion IsPart) signs_of_parts (AllByRecursion IsPart) signs_of_parts (λ more. xs ++ more) (Begin ends_parts) all from at seen

  -- these items were read, and put behind others
  pub record PartsRead (before items : List Item) (at : ℕ) : Type 0 where
    pub written : List Part
    pub values : items ≡ before ++ map item_of written
    pub leads : PartLeads written at at

  pub parts_begin : (before : List Item) → from ≤ length all → PartsRead before before from
  parts_begin before within = record { written = []; values = sym (append-nil before); leads = leads_all (AllByRecursion IsPart) signs_of_parts (Begin ends_parts) all from within }

  abbrev pub PartThen : Part × List Part → Type 0
  PartThen p = IsPart p.0 × AllByRecursion IsPart p.1

  abbrev pub part_then : Part × List Part → List Sign
  part_then p = one_part p.0 ++ signs_of_parts p.1

  some_parts : (z : List Part) (before after : List Lexeme) → heads is_part_start before ≡ true → AllByRecursion IsPart z → Reads (signs_of_parts z) before after → Begin ends_parts after
      → Rest PartThen part_then (λ p. p.0 ∷ p.1) before z after
  some_parts [] before after here allowed reads ends =
      let no = heads_apart ends_parts is_part_start before ends_parts_start (subst (λ t. Begin ends_parts t) (sym reads) ends) in absurd (cc)
  some_parts (p ∷ ps) before after here allowed reads ends = record { left = (p, ps); is = refl; allowed = allowed; reads = reads }

  no_parts : (z : List Part) (before after : List Lexeme) → heads is_part_start before ≡ false → AllByRecursion IsPart z → Reads (signs_of_parts z) before after → (z ≡ []) × (after ≡ before)
  no_parts [] before after none allowed reads = (refl, sym reads)
  no_parts (p ∷ ps) before after none allowed reads = let there = part_starts p (signs_of_parts ps) before after allowed.0 reads in absurd (cc)

  part_pair : (xs : List Part) (at : ℕ) → PartLeads xs at at → heads is_part_start (drop at all) ≡ true
      → Leads (AllByRecursion IsPart) signs_of_parts PartThen part_then (λ p. xs ++ (p.0 ∷ p.1)) (Begin ends_parts) all from at at
  part_pair xs at leads here =
      leads_choose (AllByRecursion IsPart) signs_of_parts (AllByRecursion IsPart) signs_of_parts (λ more. xs ++ more) (Begin ends_parts) all from at at leads PartThen part_then (λ p. p.0 ∷ p.1) at (omega arith)
      (λ p allowed. (allowed, refl)) (λ other z after alike allowed reads ends. some_parts z (drop at other) after (heads_alike is_part_start at other all alike ∙ here) allowed reads ends)

  pub parts_more : (before items more : List Item) (at : ℕ) → PartsRead before items at → heads is_part_start (drop at all) ≡ true → (v : Item) (to : ℕ)
      → IsReadAs IsPart one_part Anything item_of all at v to → more ≡ items ++ v ∷ [] → PartsRead before more to
  parts_more before items more at parts here v to read is =
      let order : at ≤ to = read.read.order in
      let next = leads_over (AllByRecursion IsPart) signs_of_parts IsPart one_part (λ y ys. AllByRecursion IsPart ys) signs_of_parts (λ p. parts.written ++ (p.0 ∷ p.1)) Anything (Begin ends_parts)
      all from at at read.written to (part_pair parts.written at parts.leads here) (omega arith) read.read (λ z w before after allowed reads ends. tt) in
      record {
        written = parts.written ++ read.written ∷ [];
        values = is ∙ ap (λ t. t ++ v ∷ []) parts.values ∙ append_assoc before (map item_of parts.written) (v ∷ []) ∙ ap (λ t. before ++ (map item_of parts.written ++ t ∷ [])) read.means
            ∙ ap (λ t. before ++ t) (sym (map_more item_of parts.written read.written));
        leads = subst (λ (m : List Part → List Part). Leads (AllByRecursion IsPart) signs_of_parts (AllByRecursion IsPart) signs_of_parts m (Begin ends_parts) all from to to)
            (λ i more. sym (append_assoc parts.written (read.written ∷ []) more) i) next;
      }

  pub parts_stop : (before items : List Item) (at : ℕ) → PartsRead before items at → heads is_part_start (drop at all) ≡ true → (stop : Stop) → Stops IsPart one_part Anything all at stop
      → Stops (AllByRecursion IsPart) signs_of_parts (Begin ends_parts) all from stop
  parts_stop before items at parts here Memory stop = tt
  parts_stop before items at parts here (Expected to) stop =
      let order : at ≤ to = stop.order in
      leads_stops_first (AllByRecursion IsPart) signs_of_parts IsPart one_part (λ y ys. AllByRecursion IsPart ys) signs_of_parts (λ p. parts.written ++ (p.0 ∷ p.1)) Anything (Begin ends_parts)
      all from at at to (part_pair parts.written at parts.leads here) (omega arith) stop (λ z allowed. ([], tt)) (λ z w before after allowed reads ends. tt)

  pub parts_end : (before items : List Item) (at : ℕ) → PartsRead before items at → heads is_part_start (drop at all) ≡ false
      → IsReadAs (AllByRecursion IsPart) signs_of_parts (Begin ends_parts) (items_after before) all from items at
  parts_end before items at parts none = record {
    written = parts.written;
    read = subst (λ t. IsRead (AllByRecursion IsPart) signs_of_parts (Begin ends_parts) all from t at) (append-nil parts.written)
        (leads_done (AllByRecursion IsPart) signs_of_parts (AllByRecursion IsPart) signs_of_parts (λ more. parts.written ++ more) (Begin ends_parts) all from at at parts.leads [] tt refl (omega arith)
        (λ other w after alike allowed reads ends. no_parts w (drop at other) after (heads_alike is_part_start at other all alike ∙ none) allowed reads));
    means = parts.values;
  }

-- ---- items and attributes

attributes_fit : (w : List Attribute) (before after : List Lexeme) → Reads (signs_of_attributes w) before after → Begin ends_production after → Begin ends_parts before
attributes_fit [] before after reads ends = heads_more ends_production ends_parts before ends_production_part (subst (λ t. Begin ends_production t) (sym reads) ends)
attributes_fit (y ∷ ys) before after reads ends =
    reads_heads ends_parts (mark 91) (separated 44 signs_of_attribute (y ∷ ys) ++ mark 93 ∷ []) before after (λ l is. ap (λ t. t || ends_production l) (is_mark 91 l is)) reads

module _ (first : Item) (all : List Lexeme) (from : ℕ) where
  abbrev pub AreFor : List Part → List Attribute → Type 0
  AreFor ps w = AllByRecursion (IsAttribute (may_bracket (sorts_of_items (first ∷ map item_of ps)))) w

  rest_all : from ≤ length all → Leads (IsRest first) signs_of_rest (λ p. AllByRecursion IsPart p.0 × AreFor p.0 p.1) (λ p. signs_of_parts p.0 ++ signs_of_attributes p.1) (λ p. p) (Begin ends_production) all from from from
  rest_all within = leads_all (IsRest first) signs_of_rest (Begin ends_production) all from within

  pub rest_no_parts : from ≤ length all → (stop : Stop) → Stops (AllByRecursion IsPart) signs_of_parts (Begin ends_parts) all from stop → Stops (IsRest first) signs_of_rest (Begin ends_production) all from stop
  rest_no_parts within Memory stop = tt
  rest_no_parts within (Expected to) stop =
      leads_stops_first (IsRest first) signs_of_rest (AllByRecursion IsPart) signs_of_parts AreFor signs_of_attributes (λ p. p) (Begin ends_parts) (Begin ends_production) all from from from to
      (rest_all within) stop.order stop (λ z allowed. ([], tt)) (λ z w before after allowed reads ends. attributes_fit w before after reads ends)

  module _ (within : from ≤ length all) (items : List Item) (mid : ℕ) (read : IsReadAs (AllByRecursion IsPart) signs_of_parts (Begin ends_parts) (items_after (first ∷ [])) all from items mid) where
    after_parts : Leads (IsRest first) signs_of_rest (AreFor read.written) signs_of_attributes (λ w. (read.written, w)) (Begin ends_production) all from mid mid
    after_parts =
        leads_over (IsRest first) signs_of_rest (AllByRecursion IsPart) signs_of_parts AreFor signs_of_attributes (λ p. p) (Begin ends_parts) (Begin ends_production) all from from from read.written mid
        (rest_all within) read.read.order read.read (λ z w before after allowed reads ends. attributes_fit w before after reads ends)

    pub rest_no_attributes : (b : Bool) → b ≡ may_bracket (sorts_of_items items) → (stop : Stop)
        → Stops (AllByRecursion (IsAttribute b)) signs_of_attributes (Begin ends_production) all mid stop → Stops (IsRest first) signs_of_rest (Begin ends_production) all from stop
    rest_no_attributes b is Memory stop = tt
    rest_no_attributes b is (Expected to) stop =
        leads_stops (IsRest first) signs_of_rest (AreFor read.written) signs_of_attributes (λ w. (read.written, w)) (Begin ends_production) all from mid mid after_parts to stop.order
        (subst (λ v. StopsAt (AllByRecursion (IsAttribute v)) signs_of_attributes (Begin ends_production) all mid to) (is ∙ ap (λ t. may_bracket (sorts_of_items t)) read.means) stop)

    pub rest_read : (b : Bool) → b ≡ may_bracket (sorts_of_items items) → (attrs : Attrs) (to : ℕ)
        → IsReadAs (AllByRecursion (IsAttribute b)) signs_of_attributes (Begin ends_production) attrs_of all mid attrs to
        → IsReadAs (IsRest first) signs_of_rest (Begin ends_production) (prod_of_rest first) all from (record { items = items; attrs = attrs; form = form.Plain }) to
    rest_read b is attrs to more = record {
      written = (read.written, more.written);
      read = leads_read (IsRest first) signs_of_rest (AreFor read.written) signs_of_attributes (λ w. (read.written, w)) (Begin ends_production) all from mid mid after_parts more.written to more.read.order
          (subst (λ v. IsRead (AllByRecursion (IsAttribute v)) signs_of_attributes (Begin ends_production) all mid more.written to) (is ∙ ap (λ t. may_bracket (sorts_of_items t)) read.means) more.read);
      means = (λ i. record { items = read.means i; attrs = more.means i; form = form.Plain });
    }

-- one item takes one lexeme
pub part_less : (all : List Lexeme) (at : ℕ) (v : Item) (to : ℕ) → IsReadAs IsPart one_part Anything item_of all at v to → at < to
part_less all at v to read =
    let size = reads-length (one_part read.written) (drop at all) (drop to all) read.read.reads in
    let within : to ≤ length all = read.read.within in
    let order : at ≤ to = read.read.order in
    omega (arith, size, length-drop at all, length-drop to all)
