-- How one production is read.
use Rattle.std.proofs.Common.{◌≡◌, ℕ, ◌+◌, ◌≤◌, Bool, true, false, ◌||◌, ◌&&◌, not, IsTrue, List, [], ◌∷◌, ◌++◌, length, drop, map, Option, Some, None, refl, sym, ap, ◌∙◌, subst, arith, append_assoc}
use Rattle.std.specs.Prelude.{codes, is_some}
use Rattle.std.specs.List.{AllByRecursion}
use Rattle.production_reader.specs.Lexemes.{Lexeme, Sign, Reads, AreAlike, word, quoted, mark}
use Rattle.production_reader.specs.Written.{Attribute, Part, Production, sign_of_part, signs_of_parts, signs_of_attributes, signs_of_attribute, signs_of_production, separated, one_word}
use Rattle.production_reader.specs.Written.Part.{SortPart, TerminalPart}
use Rattle.production_reader.specs.Written.Production.{Plain, Prefix, UserList}
use Rattle.production_reader.specs.Allowed.{IsPart, IsTerminal, IsAttribute, is_item_sort, is_among, reserved, may_bracket, may_join, suits, is_subsort, sorts_of_parts, text_of_string, same_text}
use Rattle.production_reader.specs.Heads.{heads, is_any_word, is_text, is_mark_of, ends_production, Anything, Begin, Stands}
use Rattle.production_reader.specs.Items.{sorts_of_items, IsRest, signs_of_rest, prod_of_rest, IsItemSort, signs_of_sorts, IsCall, signs_of_call, prod_of_call, IsList, signs_of_user_list, prod_of_list}
use Rattle.production_reader.specs.Meaning.{item_of, prod_of, attrs_of}
use Rattle.production_reader.specs.Next.{IsNext, IsFree, IsSub, Goes, begins_list}
use Rattle.production_reader.specs.Reading.{IsRead, IsReadAs, StopsAt, Stops}
use Rattle.production_reader.specs.declared.prod.Item.{Item}
use Rattle.production_reader.specs.declared.prod.Item.TheVariants as item
use Rattle.production_reader.specs.declared.prod.Prod.{Prod}
use Rattle.production_reader.specs.declared.prod.Attrs.{Attrs}
use Rattle.production_reader.specs.declared.prod.Form.TheVariants as form
use Rattle.production_reader.specs.declared.stop.Stop.{Stop}
use Rattle.production_reader.specs.declared.stop.Stop.TheVariants.{Expected, Memory}
use Rattle.std.proofs.lemmas.Bool.{and_parts}
use Rattle.production_reader.proofs.Lexemes.{alike_less}
use Rattle.production_reader.proofs.Leading.{Leads, Rest, leads_all, leads_choose, leads_read, leads_stops, leads_none}
use Rattle.production_reader.proofs.Fronts.{heads_alike, heads_apart, reads_heads, is_mark, is_word_by, stands_mark, stands_alike, stands_reads, stands_within, text_there, mark_apart, ends_apart, among_none, leads_sign_seen, same_bytes, bytes_same, word_no_mark, text_no_mark, both_true}
use Rattle.production_reader.proofs.PartReading.{part_same}

-- ---- the same for other ways to say what is allowed

read_allowed : {X : Type 0} (A B : X → Type 0) (f : X → List Sign) (Ends : List Lexeme → Type 0) (all : List Lexeme) (from : ℕ) (x : X) (to : ℕ) → ((y : X) → A y → B y) → ((y : X) → B y → A y)
    → IsRead A f Ends all from x to → IsRead B f Ends all from x to
read_allowed A B f Ends all from x to give back read = record {
  order = read.order;
  within = read.within;
  allowed = give x read.allowed;
  reads = read.reads;
  only = λ other y after alike allowed reads ends. read.only other y after alike (back y allowed) reads ends;
}

stops_allowed : {X : Type 0} (A B : X → Type 0) (f : X → List Sign) (Ends : List Lexeme → Type 0) (all : List Lexeme) (from : ℕ) → ((y : X) → A y → B y) → ((y : X) → B y → A y)
    → (stop : Stop) → Stops A f Ends all from stop → Stops B f Ends all from stop
stops_allowed A B f Ends all from give back Memory stop = tt
stops_allowed A B f Ends all from give back (Expected at) stop = record {
  order = stop.order;
  within = stop.within;
  none = λ other y after alike allowed reads ends. stop.none other y after alike (back y allowed) reads ends;
  begun = stop.begun;
  allowed = give stop.begun stop.allowed;
  done = stop.done;
  left = stop.left;
  parts = stop.parts;
  reads = stop.reads;
}

any_read : {X : Type 0} (A : X → Type 0) (f : X → List Sign) (Ends : List Lexeme → Type 0) (all : List Lexeme) (from : ℕ) (x : X) (to : ℕ) → IsRead A f Anything all from x to → IsRead A f Ends all from x to
any_read A f Ends all from x to read = record {
  order = read.order;
  within = read.within;
  allowed = read.allowed;
  reads = read.reads;
  only = λ other y after alike allowed reads ends. read.only other y after alike allowed reads tt;
}

any_stops : {X : Type 0} (A : X → Type 0) (f : X → List Sign) (Ends : List Lexeme → Type 0) (all : List Lexeme) (from : ℕ) (at : ℕ) → StopsAt A f Anything all from at → StopsAt A f Ends all from at
any_stops A f Ends all from at stop = record {
  order = stop.order;
  within = stop.within;
  none = λ other y after alike allowed reads ends. stop.none other y after alike allowed reads tt;
  begun = stop.begun;
  allowed = stop.allowed;
  done = stop.done;
  left = stop.left;
  parts = stop.parts;
  reads = stop.reads;
}

-- ---- productions of KResult

sub_make : (p : Production) → IsSub p → (before after : List Lexeme) → Reads (signs_of_production p) before after → Rest IsItemSort one_word (λ s. Plain (SortPart s ∷ []) []) before p after
sub_make (Plain [] w) allowed before after reads = absurd (let e = allowed.1 in cc)
sub_make (Plain (SortPart s ∷ []) []) allowed before after reads = record { left = s; is = refl; allowed = allowed.0.1.0; reads = reads }
sub_make (Plain (SortPart s ∷ []) (y ∷ w)) allowed before after reads = absurd (let e = allowed.1 in cc)
sub_make (Plain (SortPart s ∷ p ∷ ps) w) allowed before after reads = absurd (let e = allowed.1 in cc)
sub_make (Plain (TerminalPart s ∷ ps) w) allowed before after reads = absurd (let e = allowed.1 in cc)
sub_make (Prefix name sorts w) allowed before after reads = absurd (let e = allowed.1 in cc)
sub_make (UserList s string) allowed before after reads = absurd (let e = allowed.1 in cc)

module _ (all : List Lexeme) (from : ℕ) (within : from ≤ length all) where
  sub_leads : Leads IsSub signs_of_production IsItemSort one_word (λ s. Plain (SortPart s ∷ []) []) (Begin ends_production) all from from from
  sub_leads =
      leads_choose IsSub signs_of_production IsSub signs_of_production (λ p. p) (Begin ends_production) all from from from (leads_all IsSub signs_of_production (Begin ends_production) all from within)
      IsItemSort one_word (λ s. Plain (SortPart s ∷ []) []) from (omega arith) (λ s allowed. (((refl, (allowed, tt), tt), refl), refl))
      (λ other z after alike allowed reads ends. sub_make z allowed (drop from other) after reads)

  pub sub_stops : (stop : Stop) → Stops IsItemSort one_word Anything all from stop → Stops IsSub signs_of_production (Begin ends_production) all from stop
  sub_stops Memory stop = tt
  sub_stops (Expected to) stop =
      leads_stops IsSub signs_of_production IsItemSort one_word (λ s. Plain (SortPart s ∷ []) []) (Begin ends_production) all from from from sub_leads to stop.order
      (any_stops IsItemSort one_word (Begin ends_production) all from to stop)

  pub sub_read : (sort : List ℕ) (to : ℕ) → IsReadAs IsItemSort one_word Anything (λ s. s) all from sort to → (items : List Item) → items ≡ item.Sort sort ∷ [] → (attrs : Attrs) → attrs ≡ attrs_of []
      → IsReadAs IsSub signs_of_production (Begin ends_production) prod_of all from (record { items = items; attrs = attrs; form = form.Plain }) to
  sub_read sort to read items one attrs none = record {
    written = Plain (SortPart read.written ∷ []) [];
    read = leads_read IsSub signs_of_production IsItemSort one_word (λ s. Plain (SortPart s ∷ []) []) (Begin ends_production) all from from from sub_leads read.written to read.read.order
        (any_read IsItemSort one_word (Begin ends_production) all from read.written to read.read);
    means = (λ i. record { items = (one ∙ ap (λ s. item.Sort s ∷ []) read.means) i; attrs = none i; form = form.Plain });
  }

pub plain_joins : (had : Option Bool) → Goes had → (ps : List Part) (w : List Attribute) → may_join had (Plain ps w) ≡ true
plain_joins None goes ps w = refl
plain_joins (Some true) goes ps w = absurd (goes refl)
plain_joins (Some false) goes ps w = refl

prefix_joins : (had : Option Bool) → Goes had → (name : List ℕ) (sorts : List (List ℕ)) (w : List Attribute) → may_join had (Prefix name sorts w) ≡ true
prefix_joins None goes name sorts w = refl
prefix_joins (Some true) goes name sorts w = absurd (goes refl)
prefix_joins (Some false) goes name sorts w = refl

list_joins : (had : Option Bool) (s string : List ℕ) → may_join had (UserList s string) ≡ true → is_some had ≡ false
list_joins None s string joins = refl
list_joins (Some true) s string joins = absurd (cc)
list_joins (Some false) s string joins = absurd (cc)

sub_joins : (had : Option Bool) → Goes had → (p : Production) → is_subsort p ≡ true → may_join had p ≡ true
sub_joins had goes (Plain ps w) is = plain_joins had goes ps w
sub_joins had goes (Prefix name sorts w) is = absurd (cc)
sub_joins had goes (UserList s string) is = absurd (cc)

suits_sub : (sort : List ℕ) (p : Production) → same_text sort (codes "KResult") ≡ true → suits sort p ≡ true → is_subsort p ≡ true
suits_sub sort p is fits = sym (ap (λ t. not t || is_subsort p) is) ∙ fits

sub_suits : (sort : List ℕ) (p : Production) → same_text sort (codes "KResult") ≡ true → is_subsort p ≡ true → suits sort p ≡ true
sub_suits sort p is sub = ap (λ t. not t || is_subsort p) is ∙ sub

pub next_sub : (sort : List ℕ) (had : Option Bool) → Goes had → same_text sort (codes "KResult") ≡ true → (all : List Lexeme) (from : ℕ) (v : Prod) (to : ℕ)
    → IsReadAs IsSub signs_of_production (Begin ends_production) prod_of all from v to → IsReadAs (IsNext sort had) signs_of_production (Begin ends_production) prod_of all from v to
next_sub sort had goes is all from v to read = record {
  written = read.written;
  read = read_allowed IsSub (IsNext sort had) signs_of_production (Begin ends_production) all from read.written to
      (λ p allowed. (allowed.0, sub_joins had goes p allowed.1, sub_suits sort p is allowed.1)) (λ p allowed. (allowed.0, suits_sub sort p is allowed.2)) read.read;
  means = read.means;
}

pub next_no_sub : (sort : List ℕ) (had : Option Bool) → Goes had → same_text sort (codes "KResult") ≡ true → (all : List Lexeme) (from : ℕ) (stop : Stop)
    → Stops IsSub signs_of_production (Begin ends_production) all from stop → Stops (IsNext sort had) signs_of_production (Begin ends_production) all from stop
next_no_sub sort had goes is all from stop none =
    stops_allowed IsSub (IsNext sort had) signs_of_production (Begin ends_production) all from
    (λ p allowed. (allowed.0, sub_joins had goes p allowed.1, sub_suits sort p is allowed.1)) (λ p allowed. (allowed.0, suits_sub sort p is allowed.2)) stop none

all_suit : (sort : List ℕ) (p : Production) → same_text sort (codes "KResult") ≡ false → suits sort p ≡ true
all_suit sort p other = ap (λ t. not t || is_subsort p) other

pub next_free : (sort : List ℕ) (had : Option Bool) → same_text sort (codes "KResult") ≡ false → (all : List Lexeme) (from : ℕ) (v : Prod) (to : ℕ)
    → IsReadAs (IsFree had) signs_of_production (Begin ends_production) prod_of all from v to → IsReadAs (IsNext sort had) signs_of_production (Begin ends_production) prod_of all from v to
next_free sort had other all from v to read = record {
  written = read.written;
  read = read_allowed (IsFree had) (IsNext sort had) signs_of_production (Begin ends_production) all from read.written to
      (λ p allowed. (allowed.0, allowed.1, all_suit sort p other)) (λ p allowed. (allowed.0, allowed.1)) read.read;
  means = read.means;
}

pub next_no_free : (sort : List ℕ) (had : Option Bool) → same_text sort (codes "KResult") ≡ false → (all : List Lexeme) (from : ℕ) (stop : Stop)
    → Stops (IsFree had) signs_of_production (Begin ends_production) all from stop → Stops (IsNext sort had) signs_of_production (Begin ends_production) all from stop
next_no_free sort had other all from stop none =
    stops_allowed (IsFree had) (IsNext sort had) signs_of_production (Begin ends_production) all from
    (λ p allowed. (allowed.0, allowed.1, all_suit sort p other)) (λ p allowed. (allowed.0, allowed.1)) stop none

abbrev pub arguments_tail : List (List ℕ) → List Attribute → List Sign
arguments_tail sorts w = signs_of_sorts sorts ++ (mark 41 ∷ signs_of_attributes w)

abbrev pub prefix_tail : List (List ℕ) → List Attribute → List Sign
prefix_tail sorts w = mark 40 ∷ arguments_tail sorts w

abbrev pub brace_tail : List ℕ → List ℕ → List Sign
brace_tail s string = word s ∷ mark 44 ∷ quoted string ∷ mark 125 ∷ []

abbrev pub list_tail : List ℕ → List ℕ → List Sign
list_tail s string = mark 123 ∷ brace_tail s string

-- ---- what stands behind the first item

opened : (p : Part) (ps : List Part) (w : List Attribute) (before after : List Lexeme) (byte : ℕ) → same_text (91 ∷ []) (byte ∷ []) ≡ false → same_text (124 ∷ []) (byte ∷ []) ≡ false
    → same_text (62 ∷ []) (byte ∷ []) ≡ false → Reads (sign_of_part p ∷ (signs_of_parts ps ++ signs_of_attributes w)) before after → heads (is_mark_of byte) before ≡ false
opened (SortPart s) ps w before after byte bracket bar more reads =
    let there = reads_heads is_any_word (word s) (signs_of_parts ps ++ signs_of_attributes w) before after (is_word_by (λ bytes. true) s) reads in
    heads_apart is_any_word (is_mark_of byte) before (word_no_mark byte) there
opened (TerminalPart s) ps w before after byte bracket bar more reads =
    let there = reads_heads is_text (quoted s) (signs_of_parts ps ++ signs_of_attributes w) before after (text_there s) reads in
    heads_apart is_text (is_mark_of byte) before (text_no_mark byte) there

pub plain_next : (ps : List Part) (w : List Attribute) (before after : List Lexeme) (byte : ℕ) → same_text (91 ∷ []) (byte ∷ []) ≡ false → same_text (124 ∷ []) (byte ∷ []) ≡ false
    → same_text (62 ∷ []) (byte ∷ []) ≡ false → Reads (signs_of_parts ps ++ signs_of_attributes w) before after → Begin ends_production after → heads (is_mark_of byte) before ≡ false
plain_next [] [] before after byte bracket bar more reads ends = heads_apart ends_production (is_mark_of byte) before (ends_apart byte bar more) (subst (λ t. Begin ends_production t) (sym reads) ends)
plain_next [] (y ∷ ys) before after byte bracket bar more reads ends =
    let there = reads_heads (is_mark_of 91) (mark 91) (separated 44 signs_of_attribute (y ∷ ys) ++ mark 93 ∷ []) before after (is_mark 91) reads in
    heads_apart (is_mark_of 91) (is_mark_of byte) before (mark_apart 91 byte bracket) there
plain_next (p ∷ ps) w before after byte bracket bar more reads ends = opened p ps w before after byte bracket bar more reads

sorts_same : (ps : List Part) → sorts_of_items (map item_of ps) ≡ sorts_of_parts ps
sorts_same [] = refl
sorts_same (SortPart s ∷ ps) = ap (λ t. s ∷ t) (sorts_same ps)
sorts_same (TerminalPart s ∷ ps) = sorts_same ps

-- ---- productions by what they begin with

module _ (had : Option Bool) (goes : Goes had) (all : List Lexeme) (from : ℕ) (within : from ≤ length all) where
  free_all : Leads (IsFree had) signs_of_production (IsFree had) signs_of_production (λ p. p) (Begin ends_production) all from from from
  free_all = leads_all (IsFree had) signs_of_production (Begin ends_production) all from within

  -- an item
  module _ (first : Part) (allowed_first : IsPart first) (stands : Stands (sign_of_part first) all from) (saw : ℕ) (before : from ≤ saw) (soon : saw ≤ from + 1)
      (no_prefix : (other : List Lexeme) (name : List ℕ) (sorts : List (List ℕ)) (w : List Attribute) (after : List Lexeme) → AreAlike saw other all
      → Reads (signs_of_production (Prefix name sorts w)) (drop from other) after → ⊥)
      (no_list : (other : List Lexeme) (s string : List ℕ) (after : List Lexeme) → AreAlike saw other all → may_join had (UserList s string) ≡ true
      → Reads (signs_of_production (UserList s string)) (drop from other) after → ⊥) where
    abbrev pub plain_of : List Part × List Attribute → Production
    plain_of p = Plain (first ∷ p.0) p.1

    plain_rest : (z : Production) (other after : List Lexeme) → AreAlike saw other all → IsFree had z → Reads (signs_of_production z) (drop from other) after
        → Rest (IsRest (item_of first)) (λ p. sign_of_part first ∷ signs_of_rest p) plain_of (drop from other) z after
    plain_rest (Plain [] w) other after alike allowed reads = absurd (let e = allowed.0.0 in cc)
    plain_rest (Plain (q ∷ qs) w) other after alike allowed reads =
        let b = stands_reads (sign_of_part first) (sign_of_part q) (signs_of_parts qs ++ signs_of_attributes w) other from after
        (stands_alike (sign_of_part first) from other all (alike_less from saw other all before alike) stands) reads in
        let same : q ≡ first = part_same q first b.kind b.bytes in
        record {
          left = (qs, w);
          is = ap (λ p. Plain (p ∷ qs) w) (sym same);
          allowed = (allowed.0.1.1, subst (λ t. AllByRecursion (IsAttribute (may_bracket t)) w) (sym (sorts_same (q ∷ qs)) ∙ ap (λ p. sorts_of_items (map item_of (p ∷ qs))) same) allowed.0.2);
          reads = subst (λ p. Reads (sign_of_part p ∷ (signs_of_parts qs ++ signs_of_attributes w)) (drop from other) after) same reads;
        }
    plain_rest (Prefix name sorts w) other after alike allowed reads = absurd (no_prefix other name sorts w after alike reads)
    plain_rest (UserList s string) other after alike allowed reads = absurd (no_list other s string after alike allowed.1 reads)

    plain_leads : Leads (IsFree had) signs_of_production (IsRest (item_of first)) signs_of_rest plain_of (Begin ends_production) all from (from + 1) saw
    plain_leads =
        leads_sign_seen (IsFree had) signs_of_production (IsRest (item_of first)) (λ p. sign_of_part first ∷ signs_of_rest p) signs_of_rest plain_of (Begin ends_production) all from from saw
        (leads_choose (IsFree had) signs_of_production (IsFree had) signs_of_production (λ p. p) (Begin ends_production) all from from from free_all
        (IsRest (item_of first)) (λ p. sign_of_part first ∷ signs_of_rest p) plain_of saw before
        (λ p allowed. (((refl, (allowed_first, allowed.0), subst (λ t. AllByRecursion (IsAttribute (may_bracket t)) p.1) (sorts_same (first ∷ p.0)) allowed.1), plain_joins had goes (first ∷ p.0) p.1), refl))
        (λ other z after alike allowed reads ends. plain_rest z other after alike allowed reads))
        (sign_of_part first) (λ p allowed. refl) before stands

    pub plain_stops : (v : Item) → v ≡ item_of first → (stop : Stop) → Stops (IsRest v) signs_of_rest (Begin ends_production) all (from + 1) stop
        → Stops (IsFree had) signs_of_production (Begin ends_production) all from stop
    plain_stops v is Memory stop = tt
    plain_stops v is (Expected to) stop =
        let later : from + 1 ≤ to = stop.order in
        leads_stops (IsFree had) signs_of_production (IsRest (item_of first)) signs_of_rest plain_of (Begin ends_production) all from (from + 1) saw plain_leads to (omega arith)
        (subst (λ t. StopsAt (IsRest t) signs_of_rest (Begin ends_production) all (from + 1) to) is stop)

    pub plain_read : (v : Item) → v ≡ item_of first → (prod : Prod) (to : ℕ) → IsReadAs (IsRest v) signs_of_rest (Begin ends_production) (prod_of_rest v) all (from + 1) prod to
        → IsReadAs (IsFree had) signs_of_production (Begin ends_production) prod_of all from prod to
    plain_read v is prod to read =
        let later : from + 1 ≤ to = read.read.order in
        record {
          written = plain_of read.written;
          read = leads_read (IsFree had) signs_of_production (IsRest (item_of first)) signs_of_rest plain_of (Begin ends_production) all from (from + 1) saw plain_leads read.written to (omega arith)
              (subst (λ t. IsRead (IsRest t) signs_of_rest (Begin ends_production) all (from + 1) read.written to) is read.read);
          means = read.means ∙ ap (λ t. prod_of_rest t read.written) is;
        }

  -- a word
  module _ (name : List ℕ) (stands : Stands (word name) all from) where
    paren_there : (other after : List Lexeme) (n : List ℕ) (sorts : List (List ℕ)) (w : List Attribute) → AreAlike from other all → Reads (signs_of_production (Prefix n sorts w)) (drop from other) after
        → (n ≡ name) × (heads (is_mark_of 40) (drop (from + 1) other) ≡ true)
    paren_there other after n sorts w alike reads =
        let b = stands_reads (word name) (word n) (prefix_tail sorts w) other from after (stands_alike (word name) from other all alike stands) reads in
        (b.bytes, reads_heads (is_mark_of 40) (mark 40) (arguments_tail sorts w) (drop (from + 1) other) after (is_mark 40) b.reads)

    brace_there : (other after : List Lexeme) (s string : List ℕ) → AreAlike from other all → Reads (signs_of_production (UserList s string)) (drop from other) after
        → (codes "List" ≡ name) × (heads (is_mark_of 123) (drop (from + 1) other) ≡ true)
    brace_there other after s string alike reads =
        let b = stands_reads (word name) (word (codes "List")) (list_tail s string) other from after (stands_alike (word name) from other all alike stands) reads in
        (b.bytes, reads_heads (is_mark_of 123) (mark 123) (brace_tail s string) (drop (from + 1) other) after (is_mark 123) b.reads)

    behind_first : (other after : List Lexeme) (q : Part) (qs : List Part) (w : List Attribute) → AreAlike from other all → Reads (signs_of_production (Plain (q ∷ qs) w)) (drop from other) after
        → Reads (signs_of_parts qs ++ signs_of_attributes w) (drop (from + 1) other) after
    behind_first other after q qs w alike reads =
        let b = stands_reads (word name) (sign_of_part q) (signs_of_parts qs ++ signs_of_attributes w) other from after (stands_alike (word name) from other all alike stands) reads in b.reads

    -- that is reserved
    reserved_none : is_among reserved name ≡ true → (z : Production) (other after : List Lexeme) → AreAlike from other all → IsFree had z → Reads (signs_of_production z) (drop from other) after → ⊥
    reserved_none is (Plain [] w) other after alike allowed reads = (let e = allowed.0.0 in cc)
    reserved_none is (Plain (SortPart s ∷ qs) w) other after alike allowed reads =
        let b = stands_reads (word name) (word s) (signs_of_parts qs ++ signs_of_attributes w) other from after (stands_alike (word name) from other all alike stands) reads in
        let none : is_item_sort name ≡ false = among_none is_item_sort reserved name refl is in
        let some : is_item_sort s ≡ true = allowed.0.1.0 in
        let same : is_item_sort s ≡ is_item_sort name = ap is_item_sort b.bytes in
        cc
    reserved_none is (Plain (TerminalPart s ∷ qs) w) other after alike allowed reads =
        let b = stands_reads (word name) (quoted s) (signs_of_parts qs ++ signs_of_attributes w) other from after (stands_alike (word name) from other all alike stands) reads in
        let e = b.kind in cc
    reserved_none is (Prefix n sorts w) other after alike allowed reads =
        let same = paren_there other after n sorts w alike reads in
        let none : is_among reserved n ≡ false = allowed.0.0 in
        let same2 : is_among reserved n ≡ is_among reserved name = ap (λ t. is_among reserved t) same.0 in
        cc
    reserved_none is (UserList s string) other after alike allowed reads =
        let same = brace_there other after s string alike reads in
        let same2 : is_among reserved (codes "List") ≡ is_among reserved name = ap (λ t. is_among reserved t) same.0 in
        cc

    pub no_reserved : is_among reserved name ≡ true → StopsAt (IsFree had) signs_of_production (Begin ends_production) all from from
    no_reserved is =
        leads_none (IsFree had) signs_of_production (IsFree had) signs_of_production (λ p. p) (Begin ends_production) all from from from free_all
        (Plain (SortPart (65 ∷ []) ∷ []) []) ((refl, (refl, tt), tt), plain_joins had goes (SortPart (65 ∷ []) ∷ []) []) (omega arith)
        (λ other z after alike allowed reads ends. reserved_none is z other after alike allowed reads)

    -- and a parenthesis
    module _ (free : is_among reserved name ≡ false) (here : heads (is_mark_of 40) (drop (from + 1) all) ≡ true) where
      abbrev pub prefix_of : List (List ℕ) × List Attribute → Production
      prefix_of p = Prefix name p.0 p.1

      call_signs : (sorts : List (List ℕ)) (w : List Attribute) → signs_of_call (sorts, w) ≡ signs_of_sorts sorts ++ (mark 41 ∷ signs_of_attributes w)
      call_signs sorts w = append_assoc (signs_of_sorts sorts) (mark 41 ∷ []) (signs_of_attributes w)

      prefix_rest : (z : Production) (other after : List Lexeme) → AreAlike (from + 1) other all → IsFree had z → Reads (signs_of_production z) (drop from other) after → Begin ends_production after
          → Rest IsCall (λ p. word name ∷ mark 40 ∷ signs_of_call p) prefix_of (drop from other) z after
      prefix_rest (Plain [] w) other after alike allowed reads ends = absurd (let e = allowed.0.0 in cc)
      prefix_rest (Plain (q ∷ qs) w) other after alike allowed reads ends =
          let none = plain_next qs w (drop (from + 1) other) after 40 refl refl refl (behind_first other after q qs w (alike_less from (from + 1) other all (omega arith) alike) reads) ends in
          let some = heads_alike (is_mark_of 40) (from + 1) other all alike ∙ here in
          absurd (cc)
      prefix_rest (Prefix n sorts w) other after alike allowed reads ends =
          let same = paren_there other after n sorts w (alike_less from (from + 1) other all (omega arith) alike) reads in
          record {
            left = (sorts, w);
            is = ap (λ t. Prefix t sorts w) (sym same.0);
            allowed = (allowed.0.1, allowed.0.2);
            reads = subst (λ t. Reads (word t ∷ mark 40 ∷ signs_of_call (sorts, w)) (drop from other) after) same.0
                (subst (λ t. Reads (word n ∷ mark 40 ∷ t) (drop from other) after) (sym (call_signs sorts w)) reads);
          }
      prefix_rest (UserList s string) other after alike allowed reads ends =
          let brace = brace_there other after s string (alike_less from (from + 1) other all (omega arith) alike) reads in
          let none = heads_apart (is_mark_of 123) (is_mark_of 40) (drop (from + 1) other) (mark_apart 123 40 refl) brace.1 in
          let some = heads_alike (is_mark_of 40) (from + 1) other all alike ∙ here in
          absurd (cc)

      prefix_leads : Leads (IsFree had) signs_of_production IsCall signs_of_call prefix_of (Begin ends_production) all from (from + 1 + 1) (from + 1)
      prefix_leads =
          leads_sign_seen (IsFree had) signs_of_production IsCall (λ p. mark 40 ∷ signs_of_call p) signs_of_call prefix_of (Begin ends_production) all from (from + 1) (from + 1)
          (leads_sign_seen (IsFree had) signs_of_production IsCall (λ p. word name ∷ mark 40 ∷ signs_of_call p) (λ p. mark 40 ∷ signs_of_call p) prefix_of (Begin ends_production) all from from (from + 1)
          (leads_choose (IsFree had) signs_of_production (IsFree had) signs_of_production (λ p. p) (Begin ends_production) all from from from free_all
          IsCall (λ p. word name ∷ mark 40 ∷ signs_of_call p) prefix_of (from + 1) (omega arith)
          (λ p allowed. (((free, allowed.0, allowed.1), prefix_joins had goes name p.0 p.1), ap (λ t. word name ∷ mark 40 ∷ t) (sym (call_signs p.0 p.1))))
          (λ other z after alike allowed reads ends. prefix_rest z other after alike allowed reads ends))
          (word name) (λ p allowed. refl) (omega arith) stands)
          (mark 40) (λ p allowed. refl) (omega arith) (stands_mark 40 all (from + 1) here)

      pub prefix_stops : (stop : Stop) → Stops IsCall signs_of_call (Begin ends_production) all (from + 1 + 1) stop → Stops (IsFree had) signs_of_production (Begin ends_production) all from stop
      prefix_stops Memory stop = tt
      prefix_stops (Expected to) stop =
          let later : from + 1 + 1 ≤ to = stop.order in
          leads_stops (IsFree had) signs_of_production IsCall signs_of_call prefix_of (Begin ends_production) all from (from + 1 + 1) (from + 1) prefix_leads to (omega arith) stop

      pub prefix_read : (prod : Prod) (to : ℕ) → IsReadAs IsCall signs_of_call (Begin ends_production) (prod_of_call name) all (from + 1 + 1) prod to
          → IsReadAs (IsFree had) signs_of_production (Begin ends_production) prod_of all from prod to
      prefix_read prod to read =
          let later : from + 1 + 1 ≤ to = read.read.order in
          record {
            written = prefix_of read.written;
            read = leads_read (IsFree had) signs_of_production IsCall signs_of_call prefix_of (Begin ends_production) all from (from + 1 + 1) (from + 1) prefix_leads read.written to (omega arith) read.read;
            means = read.means;
          }

    -- and no parenthesis
    module _ (none : heads (is_mark_of 40) (drop (from + 1) all) ≡ false) where
      not_prefix : (other : List Lexeme) (n : List ℕ) (sorts : List (List ℕ)) (w : List Attribute) (after : List Lexeme) → AreAlike (from + 1) other all
          → Reads (signs_of_production (Prefix n sorts w)) (drop from other) after → ⊥
      not_prefix other n sorts w after alike reads =
          let some = (paren_there other after n sorts w (alike_less from (from + 1) other all (omega arith) alike) reads).1 in
          let same = heads_alike (is_mark_of 40) (from + 1) other all alike in
          cc

      -- but a brace behind `List`
      module _ (opens : begins_list had name all (from + 1) ≡ true) where
        brace : heads (is_mark_of 123) (drop (from + 1) all) ≡ true
        brace = (and_parts (not (is_some had) && same_text name (codes "List")) (heads (is_mark_of 123) (drop (from + 1) all)) opens).1

        firsts : (not (is_some had) ≡ true) × (same_text name (codes "List") ≡ true)
        firsts = and_parts (not (is_some had)) (same_text name (codes "List"))
            (and_parts (not (is_some had) && same_text name (codes "List")) (heads (is_mark_of 123) (drop (from + 1) all)) opens).0

        list_may_join : (h : Option Bool) (s string : List ℕ) → not (is_some h) ≡ true → may_join h (UserList s string) ≡ true
        list_may_join None s string is = refl
        list_may_join (Some b) s string is = absurd (cc)

        list_rest : (z : Production) (other after : List Lexeme) → AreAlike (from + 1) other all → IsFree had z → Reads (signs_of_production z) (drop from other) after → Begin ends_production after
            → Rest IsList (λ p. word name ∷ mark 123 ∷ signs_of_user_list p) (λ p. UserList p.0 p.1) (drop from other) z after
        list_rest (Plain [] w) other after alike allowed reads ends = absurd (let e = allowed.0.0 in cc)
        list_rest (Plain (q ∷ qs) w) other after alike allowed reads ends =
            let missing = plain_next qs w (drop (from + 1) other) after 123 refl refl refl (behind_first other after q qs w (alike_less from (from + 1) other all (omega arith) alike) reads) ends in
            let some = heads_alike (is_mark_of 123) (from + 1) other all alike ∙ brace in
            absurd (cc)
        list_rest (Prefix n sorts w) other after alike allowed reads ends = absurd (not_prefix other n sorts w after alike reads)
        list_rest (UserList s string) other after alike allowed reads ends =
            let same = brace_there other after s string (alike_less from (from + 1) other all (omega arith) alike) reads in
            record { left = (s, string); is = refl; allowed = allowed.0; reads = subst (λ t. Reads (word t ∷ mark 123 ∷ signs_of_user_list (s, string)) (drop from other) after) same.0 reads }

        list_leads : Leads (IsFree had) signs_of_production IsList signs_of_user_list (λ p. UserList p.0 p.1) (Begin ends_production) all from (from + 1 + 1) (from + 1)
        list_leads =
            leads_sign_seen (IsFree had) signs_of_production IsList (λ p. mark 123 ∷ signs_of_user_list p) signs_of_user_list (λ p. UserList p.0 p.1) (Begin ends_production) all from (from + 1) (from + 1)
            (leads_sign_seen (IsFree had) signs_of_production IsList (λ p. word name ∷ mark 123 ∷ signs_of_user_list p) (λ p. mark 123 ∷ signs_of_user_list p) (λ p. UserList p.0 p.1) (Begin ends_production)
            all from from (from + 1)
            (leads_choose (IsFree had) signs_of_production (IsFree had) signs_of_production (λ p. p) (Begin ends_production) all from from from free_all
            IsList (λ p. word name ∷ mark 123 ∷ signs_of_user_list p) (λ p. UserList p.0 p.1) (from + 1) (omega arith)
            (λ p allowed. ((allowed, list_may_join had p.0 p.1 firsts.0), ap (λ t. word t ∷ mark 123 ∷ signs_of_user_list p) (sym (bytes_same name (codes "List") firsts.1))))
            (λ other z after alike allowed reads ends. list_rest z other after alike allowed reads ends))
            (word name) (λ p allowed. refl) (omega arith) stands)
            (mark 123) (λ p allowed. refl) (omega arith) (stands_mark 123 all (from + 1) brace)

        pub list_stops : (stop : Stop) → Stops IsList signs_of_user_list Anything all (from + 1 + 1) stop → Stops (IsFree had) signs_of_production (Begin ends_production) all from stop
        list_stops Memory stop = tt
        list_stops (Expected to) stop =
            let later : from + 1 + 1 ≤ to = stop.order in
            leads_stops (IsFree had) signs_of_production IsList signs_of_user_list (λ p. UserList p.0 p.1) (Begin ends_production) all from (from + 1 + 1) (from + 1) list_leads to (omega arith)
            (any_stops IsList signs_of_user_list (Begin ends_production) all (from + 1 + 1) to stop)

        pub list_read : (prod : Prod) (to : ℕ) → IsReadAs IsList signs_of_user_list Anything prod_of_list all (from + 1 + 1) prod to
            → IsReadAs (IsFree had) signs_of_production (Begin ends_production) prod_of all from prod to
        list_read prod to read =
            let later : from + 1 + 1 ≤ to = read.read.order in
            record {
              written = UserList read.written.0 read.written.1;
              read = leads_read (IsFree had) signs_of_production IsList signs_of_user_list (λ p. UserList p.0 p.1) (Begin ends_production) all from (from + 1 + 1) (from + 1) list_leads read.written to (omega arith)
                  (any_read IsList signs_of_user_list (Begin ends_production) all (from + 1 + 1) read.written to read.read);
              means = read.means;
            }

      -- and no such brace
      module _ (opens : begins_list had name all (from + 1) ≡ false) where
        not_list : (other : List Lexeme) (s string : List ℕ) (after : List Lexeme) → AreAlike (from + 1) other all → may_join had (UserList s string) ≡ true
            → Reads (signs_of_production (UserList s string)) (drop from other) after → ⊥
        not_list other s string after alike joins reads =
            let there = brace_there other after s string (alike_less from (from + 1) other all (omega arith) alike) reads in
            let one : not (is_some had) ≡ true = ap not (list_joins had s string joins) in
            let two : same_text name (codes "List") ≡ true = same_bytes name (codes "List") (sym there.0) in
            let three : heads (is_mark_of 123) (drop (from + 1) all) ≡ true = sym (heads_alike (is_mark_of 123) (from + 1) other all alike) ∙ there.1 in
            let all_three = both_true (not (is_some had) && same_text name (codes "List")) (heads (is_mark_of 123) (drop (from + 1) all)) (both_true (not (is_some had)) (same_text name (codes "List")) one two) three in
            cc

        not_sort : is_item_sort name ≡ false → (z : Production) (other after : List Lexeme) → AreAlike (from + 1) other all → IsFree had z → Reads (signs_of_production z) (drop from other) after → ⊥
        not_sort missing (Plain [] w) other after alike allowed reads = (let e = allowed.0.0 in cc)
        not_sort missing (Plain (SortPart s ∷ qs) w) other after alike allowed reads =
            let b = stands_reads (word name) (word s) (signs_of_parts qs ++ signs_of_attributes w) other from after (stands_alike (word name) from other all (alike_less from (from + 1) other all (omega arith) alike) stands) reads in
            let some : is_item_sort s ≡ true = allowed.0.1.0 in
            let same : is_item_sort s ≡ is_item_sort name = ap is_item_sort b.bytes in
            cc
        not_sort missing (Plain (TerminalPart s ∷ qs) w) other after alike allowed reads =
            let b = stands_reads (word name) (quoted s) (signs_of_parts qs ++ signs_of_attributes w) other from after (stands_alike (word name) from other all (alike_less from (from + 1) other all (omega arith) alike) stands) reads in
            let e = b.kind in cc
        not_sort missing (Prefix n sorts w) other after alike allowed reads = not_prefix other n sorts w after alike reads
        not_sort missing (UserList s string) other after alike allowed reads = not_list other s string after alike allowed.1 reads

        -- a word that is no sort wants a parenthesis
        pub no_paren : is_among reserved name ≡ false → is_item_sort name ≡ false → StopsAt (IsFree had) signs_of_production (Begin ends_production) all from (from + 1)
        no_paren free missing = record {
          order = omega arith;
          within = stands_within (word name) all from stands;
          none = λ other y after alike allowed reads ends. not_sort missing y other after alike allowed reads;
          begun = Prefix name [] [];
          allowed = ((free, tt, tt), prefix_joins had goes name [] []);
          done = word name ∷ [];
          left = mark 40 ∷ mark 41 ∷ [];
          parts = refl;
          reads = stands;
        }

        pub sort_stops : (sort : List ℕ) → sort ≡ name → is_item_sort name ≡ true → (stop : Stop) → Stops (IsRest (item.Sort sort)) signs_of_rest (Begin ends_production) all (from + 1) stop
            → Stops (IsFree had) signs_of_production (Begin ends_production) all from stop
        sort_stops sort is allowed stop rest =
            plain_stops (SortPart name) allowed stands (from + 1) (omega arith) (omega arith) not_prefix not_list (item.Sort sort) (ap item.Sort is) stop rest

        pub sort_read : (sort : List ℕ) → sort ≡ name → is_item_sort name ≡ true → (prod : Prod) (to : ℕ)
            → IsReadAs (IsRest (item.Sort sort)) signs_of_rest (Begin ends_production) (prod_of_rest (item.Sort sort)) all (from + 1) prod to
            → IsReadAs (IsFree had) signs_of_production (Begin ends_production) prod_of all from prod to
        sort_read sort is allowed prod to rest =
            plain_read (SortPart name) allowed stands (from + 1) (omega arith) (omega arith) not_prefix not_list (item.Sort sort) (ap item.Sort is) prod to rest

  -- a string
  begins_by : (z : Production) (before after : List Lexeme) → IsFree had z → heads is_any_word before ≡ false → heads is_text before ≡ false → Reads (signs_of_production z) before after → ⊥
  begins_by (Plain [] w) before after allowed missing none reads = (let e = allowed.0.0 in cc)
  begins_by (Plain (SortPart s ∷ qs) w) before after allowed missing none reads = let there = reads_heads is_any_word (word s) (signs_of_parts qs ++ signs_of_attributes w) before after (is_word_by (λ bytes. true) s) reads in cc
  begins_by (Plain (TerminalPart s ∷ qs) w) before after allowed missing none reads = let there = reads_heads is_text (quoted s) (signs_of_parts qs ++ signs_of_attributes w) before after (text_there s) reads in cc
  begins_by (Prefix name sorts w) before after allowed missing none reads = let there = reads_heads is_any_word (word name) (prefix_tail sorts w) before after (is_word_by (λ bytes. true) name) reads in cc
  begins_by (UserList s string) before after allowed missing none reads = let there = reads_heads is_any_word (word (codes "List")) (list_tail s string) before after (is_word_by (λ bytes. true) (codes "List")) reads in cc

  pub no_text : heads is_any_word (drop from all) ≡ false → heads is_text (drop from all) ≡ false → StopsAt (IsFree had) signs_of_production (Begin ends_production) all from from
  no_text missing none =
      leads_none (IsFree had) signs_of_production (IsFree had) signs_of_production (λ p. p) (Begin ends_production) all from from from free_all
      (Plain (SortPart (65 ∷ []) ∷ []) []) ((refl, (refl, tt), tt), plain_joins had goes (SortPart (65 ∷ []) ∷ []) []) (omega arith)
      (λ other z after alike allowed reads ends.
      begins_by z (drop from other) after allowed (heads_alike is_any_word from other all alike ∙ missing) (heads_alike is_text from other all alike ∙ none) reads)

  module _ (string text : List ℕ) (test : Bool) (stands : Stands (quoted string) all from) (is : text ≡ text_of_string string)
      (tells : (IsTrue test → IsTerminal text) × (IsTerminal text → IsTrue test)) where
    text_none : test ≡ false → (z : Production) (other after : List Lexeme) → AreAlike from other all → IsFree had z → Reads (signs_of_production z) (drop from other) after → ⊥
    text_none missing (Plain [] w) other after alike allowed reads = (let e = allowed.0.0 in cc)
    text_none missing (Plain (SortPart s ∷ qs) w) other after alike allowed reads =
        let b = stands_reads (quoted string) (word s) (signs_of_parts qs ++ signs_of_attributes w) other from after (stands_alike (quoted string) from other all alike stands) reads in
        let e = b.kind in cc
    text_none missing (Plain (TerminalPart s ∷ qs) w) other after alike allowed reads =
        let b = stands_reads (quoted string) (quoted s) (signs_of_parts qs ++ signs_of_attributes w) other from after (stands_alike (quoted string) from other all alike stands) reads in
        let terminal : IsTerminal text = subst IsTerminal (ap text_of_string b.bytes ∙ sym is) allowed.0.1.0 in
        let passed = tells.1 terminal in cc
    text_none missing (Prefix name sorts w) other after alike allowed reads =
        let b = stands_reads (quoted string) (word name) (prefix_tail sorts w) other from after (stands_alike (quoted string) from other all alike stands) reads in
        let e = b.kind in cc
    text_none missing (UserList s between) other after alike allowed reads =
        let b = stands_reads (quoted string) (word (codes "List")) (list_tail s between) other from after (stands_alike (quoted string) from other all alike stands) reads in
        let e = b.kind in cc

    pub no_terminal : test ≡ false → StopsAt (IsFree had) signs_of_production (Begin ends_production) all from from
    no_terminal missing =
        leads_none (IsFree had) signs_of_production (IsFree had) signs_of_production (λ p. p) (Begin ends_production) all from from from free_all
        (Plain (SortPart (65 ∷ []) ∷ []) []) ((refl, (refl, tt), tt), plain_joins had goes (SortPart (65 ∷ []) ∷ []) []) (omega arith)
        (λ other z after alike allowed reads ends. text_none missing z other after alike allowed reads)

    text_prefix : (other : List Lexeme) (name : List ℕ) (sorts : List (List ℕ)) (w : List Attribute) (after : List Lexeme) → AreAlike from other all
        → Reads (signs_of_production (Prefix name sorts w)) (drop from other) after → ⊥
    text_prefix other name sorts w after alike reads =
        let b = stands_reads (quoted string) (word name) (prefix_tail sorts w) other from after (stands_alike (quoted string) from other all alike stands) reads in
        let e = b.kind in cc

    text_list : (other : List Lexeme) (s between : List ℕ) (after : List Lexeme) → AreAlike from other all → may_join had (UserList s between) ≡ true
        → Reads (signs_of_production (UserList s between)) (drop from other) after → ⊥
    text_list other s between after alike joins reads =
        let b = stands_reads (quoted string) (word (codes "List")) (list_tail s between) other from after (stands_alike (quoted string) from other all alike stands) reads in
        let e = b.kind in cc

    pub text_stops : test ≡ true → (stop : Stop) → Stops (IsRest (item.Terminal text)) signs_of_rest (Begin ends_production) all (from + 1) stop
        → Stops (IsFree had) signs_of_production (Begin ends_production) all from stop
    text_stops passed stop rest =
        plain_stops (TerminalPart string) (subst IsTerminal is (tells.0 passed)) stands from (omega arith) (omega arith) text_prefix text_list (item.Terminal text) (ap item.Terminal is) stop rest

    pub text_read : test ≡ true → (prod : Prod) (to : ℕ)
        → IsReadAs (IsRest (item.Terminal text)) signs_of_rest (Begin ends_production) (prod_of_rest (item.Terminal text)) all (from + 1) prod to
        → IsReadAs (IsFree had) signs_of_production (Begin ends_production) prod_of all from prod to
    text_read passed prod to rest =
        plain_read (TerminalPart string) (subst IsTerminal is (tells.0 passed)) stands from (omega arith) (omega arith) text_prefix text_list (item.Terminal text) (ap item.Terminal is) prod to rest
