-- What stands first in lists of lexemes.
use Rattle.std.proofs.Common.{◌≡◌, ℕ, ◌+◌, ◌≤◌, Bool, true, false, ◌||◌, ◌&&◌, List, [], ◌∷◌, ◌++◌, length, take, drop, refl, sym, ap, ◌∙◌, subst, arith, length-drop, append_assoc}
use Rattle.std.proofs.lemmas.List.{drop-drop}
use Rattle.std.specs.Prelude.{codes}
use Rattle.std.specs.List.{list_any}
use Rattle.std.proofs.Math.Bool.{or-true}
use Rattle.std.specs.Cmp.Lexicographic.{bytes_decides}
use Rattle.k_lexer.specs.declared.token.Kind.{Kind}
use Rattle.k_lexer.specs.declared.token.Kind.TheVariants.{Word, Int, Str, Mark}
use Rattle.production_reader.specs.Lexemes.{Lexeme, Sign, Is, Reads, AreAlike, mark, word, quoted}
use Rattle.production_reader.specs.Reading.{IsRead, StopsAt}
use Rattle.production_reader.specs.Allowed.{same_text, is_among, is_item_sort, is_word_among, sentence_words}
use Rattle.production_reader.specs.Heads.{heads, is_mark_of, is_word_of, is_any_word, is_text, is_part_start, ends_group, ends_production, ends_parts, Stands}
use Rattle.production_reader.proofs.Lexemes.{alike_head, alike_less, reads_join}
use Rattle.production_reader.proofs.Leading.{Leads, leads_none, leads_done}

heads_one : (test : Lexeme → Bool) (one other : List Lexeme) → take 1 one ≡ take 1 other → heads test one ≡ heads test other
heads_one test [] [] same = refl
heads_one test [] (l ∷ ls) same = absurd (cc)
heads_one test (l ∷ ls) [] same = absurd (cc)
heads_one test (l ∷ ls) (m ∷ ms) same = let e : l ≡ m = cc in ap test e

-- what stands at a place is the same
pub heads_alike : (test : Lexeme → Bool) (at : ℕ) (one other : List Lexeme) → AreAlike at one other → heads test (drop at one) ≡ heads test (drop at other)
heads_alike test at one other alike = heads_one test (drop at one) (drop at other) (alike_head at one other alike)

-- a sign that is read first passes each test that such lexemes pass
pub reads_heads : (test : Lexeme → Bool) (sign : Sign) (signs : List Sign) (before after : List Lexeme) → ((l : Lexeme) → Is sign l → test l ≡ true)
    → Reads (sign ∷ signs) before after → heads test before ≡ true
reads_heads test sign signs [] after passes read = absurd read
reads_heads test sign signs (l ∷ ls) after passes read = passes l read.0

-- what passes one test doesn't pass another
pub heads_apart : (test other : Lexeme → Bool) (ls : List Lexeme) → ((l : Lexeme) → test l ≡ true → other l ≡ false) → heads test ls ≡ true → heads other ls ≡ false
heads_apart test other [] apart passed = refl
heads_apart test other (l ∷ ls) apart passed = apart l passed

pub heads_more : (test other : Lexeme → Bool) (ls : List Lexeme) → ((l : Lexeme) → test l ≡ true → other l ≡ true) → heads test ls ≡ true → heads other ls ≡ true
heads_more test other [] more passed = absurd (cc)
heads_more test other (l ∷ ls) more passed = more l passed

drop_next : (at : ℕ) (all : List Lexeme) → drop 1 (drop at all) ≡ drop (at + 1) all
drop_next at all = drop-drop 1 at all

stands_one : (sign : Sign) (ls : List Lexeme) → ((l : Lexeme) (rest : List Lexeme) → ls ≡ l ∷ rest → Is sign l) → heads (λ l. true) ls ≡ true → Reads (sign ∷ []) ls (drop 1 ls)
stands_one sign [] is some = absurd (cc)
stands_one sign (l ∷ ls) is some = (is l ls refl, refl)

stands_by : (sign : Sign) (test : Lexeme → Bool) (ls : List Lexeme) → ((l : Lexeme) → test l ≡ true → Is sign l) → heads test ls ≡ true → Reads (sign ∷ []) ls (drop 1 ls)
stands_by sign test [] is passed = absurd (cc)
stands_by sign test (l ∷ ls) is passed = (is l passed, refl)

-- a lexeme that passes the test of a sign is read
pub stands_test : (sign : Sign) (test : Lexeme → Bool) (all : List Lexeme) (at : ℕ) → ((l : Lexeme) → test l ≡ true → Is sign l) → heads test (drop at all) ≡ true → Stands sign all at
stands_test sign test all at is passed = subst (λ t. Reads (sign ∷ []) (drop at all) t) (drop_next at all) (stands_by sign test (drop at all) is passed)

pub bytes_same : (a b : List ℕ) → same_text a b ≡ true → a ≡ b
bytes_same a b same = (bytes_decides a b).0 same

pub same_bytes : (a b : List ℕ) → a ≡ b → same_text a b ≡ true
same_bytes a b same = (bytes_decides a b).1 same

mark_by : (byte : ℕ) (kind : Kind) (bytes : List ℕ) (joined : Bool) → is_mark_of byte (record { kind = kind; bytes = bytes; joined = joined }) ≡ true
    → Is (mark byte) (record { kind = kind; bytes = bytes; joined = joined })
mark_by byte Word bytes joined passed = absurd (cc)
mark_by byte Int bytes joined passed = absurd (cc)
mark_by byte Str bytes joined passed = absurd (cc)
mark_by byte Mark bytes joined passed = (refl, sym (bytes_same bytes (byte ∷ []) passed), λ no. absurd (cc))

pub mark_is : (byte : ℕ) (l : Lexeme) → is_mark_of byte l ≡ true → Is (mark byte) l
mark_is byte l passed = mark_by byte l.kind l.bytes l.joined passed

pub is_mark : (byte : ℕ) (l : Lexeme) → Is (mark byte) l → is_mark_of byte l ≡ true
is_mark byte l is = subst (λ k. elim k as (λ _. Bool) [ Word ↦ false | Int ↦ false | Str ↦ false | Mark ↦ same_text l.bytes (byte ∷ []) ] ≡ true) is.0 (same_bytes l.bytes (byte ∷ []) (sym is.1))

pub is_word_by : (test : List ℕ → Bool) (bytes : List ℕ) (l : Lexeme) → Is (word bytes) l → is_word_of test l ≡ test bytes
is_word_by test bytes l is = subst (λ k. elim k as (λ _. Bool) [ Word ↦ test l.bytes | Int ↦ false | Str ↦ false | Mark ↦ false ] ≡ test bytes) is.0 (ap test (sym is.1))

pub stands_mark : (byte : ℕ) (all : List Lexeme) (at : ℕ) → heads (is_mark_of byte) (drop at all) ≡ true → Stands (mark byte) all at
stands_mark byte all at passed = stands_test (mark byte) (is_mark_of byte) all at (mark_is byte) passed

some_there : (sign : Sign) (ls after : List Lexeme) → Reads (sign ∷ []) ls after → 1 ≤ length ls
some_there sign [] after read = absurd read
some_there sign (l ∷ ls) after read = omega arith

pub stands_within : (sign : Sign) (all : List Lexeme) (at : ℕ) → Stands sign all at → at + 1 ≤ length all
stands_within sign all at stands =
    let some = some_there sign (drop at all) (drop (at + 1) all) stands in omega (arith, length-drop at all)

reads_one : (sign : Sign) (one other : List Lexeme) → take 1 one ≡ take 1 other → Reads (sign ∷ []) one (drop 1 one) → Reads (sign ∷ []) other (drop 1 other)
reads_one sign [] other same read = absurd read
reads_one sign (l ∷ ls) [] same read = absurd (cc)
reads_one sign (l ∷ ls) (m ∷ ms) same read = let e : l ≡ m = cc in (subst (λ t. Is sign t) e read.0, refl)

-- what stands in one list stands in a list that is alike
pub stands_alike : (sign : Sign) (at : ℕ) (other all : List Lexeme) → AreAlike at other all → Stands sign all at → Stands sign other at
stands_alike sign at other all alike stands =
    subst (λ t. Reads (sign ∷ []) (drop at other) t) (drop_next at other)
    (reads_one sign (drop at all) (drop at other) (sym (alike_head at other all alike)) (subst (λ t. Reads (sign ∷ []) (drop at all) t) (sym (drop_next at all)) stands))

-- what is read where a sign stands begins with one like it
pub record Begun (sign first : Sign) (signs : List Sign) (all : List Lexeme) (at : ℕ) (after : List Lexeme) : Type 0 where
  pub kind : first.kind ≡ sign.kind
  pub bytes : first.bytes ≡ sign.bytes
  pub reads : Reads signs (drop (at + 1) all) after

begun : (sign first : Sign) (signs : List Sign) (ls rest after : List Lexeme) → Reads (sign ∷ []) ls rest → Reads (first ∷ signs) ls after
    → (first.kind ≡ sign.kind) × (first.bytes ≡ sign.bytes) × Reads signs rest after
begun sign first signs [] rest after stands read = absurd read
begun sign first signs (l ∷ ls) rest after stands read = (read.0.0 ∙ sym stands.0.0, read.0.1 ∙ sym stands.0.1, subst (λ t. Reads signs t after) stands.1 read.1)

pub stands_reads : (sign first : Sign) (signs : List Sign) (all : List Lexeme) (at : ℕ) (after : List Lexeme) → Stands sign all at → Reads (first ∷ signs) (drop at all) after
    → Begun sign first signs all at after
stands_reads sign first signs all at after stands read =
    let b = begun sign first signs (drop at all) (drop (at + 1) all) after stands read in
    record { kind = b.0; bytes = b.1; reads = b.2 }

heads_by : (test : Lexeme → Bool) (sign : Sign) (value : Bool) (ls after : List Lexeme) → ((l : Lexeme) → Is sign l → test l ≡ value) → Reads (sign ∷ []) ls after → heads test ls ≡ value
heads_by test sign value [] after is read = absurd read
heads_by test sign value (l ∷ ls) after is read = is l read.0

-- a test where a sign stands
pub stands_heads : (test : Lexeme → Bool) (sign : Sign) (value : Bool) (all : List Lexeme) (at : ℕ) → ((l : Lexeme) → Is sign l → test l ≡ value) → Stands sign all at → heads test (drop at all) ≡ value
stands_heads test sign value all at is stands = heads_by test sign value (drop at all) (drop (at + 1) all) is stands

-- where a word stands
pub word_heads : (test : List ℕ → Bool) (bytes : List ℕ) (all : List Lexeme) (at : ℕ) → Stands (word bytes) all at → heads (is_word_of test) (drop at all) ≡ test bytes
word_heads test bytes all at stands = stands_heads (is_word_of test) (word bytes) (test bytes) all at (is_word_by test bytes) stands

-- one lexeme alone, with bytes that are allowed
abbrev pub one_sign : Kind → List ℕ → List Sign
one_sign kind bytes = record { kind = kind; bytes = bytes; joined = false } ∷ []

pub sign_read : (kind : Kind) (C : List ℕ → Type 0) (Ends : List Lexeme → Type 0) (all : List Lexeme) (at : ℕ) (bytes : List ℕ) → C bytes
    → Stands (record { kind = kind; bytes = bytes; joined = false }) all at → IsRead C (one_sign kind) Ends all at bytes (at + 1)
sign_read kind C Ends all at bytes allowed stands = record {
  order = omega arith;
  within = stands_within _ all at stands;
  allowed = allowed;
  reads = stands;
  only = λ other y after alike allows reads ends.
      let here = stands_alike _ at other all (alike_less at (at + 1) other all (omega arith) alike) stands in
      let b = stands_reads _ _ [] other at after here reads in
      (b.bytes, sym b.reads);
}

-- no lexeme of the kind with bytes that are allowed
pub sign_none : (kind : Kind) (C : List ℕ → Type 0) (Ends : List Lexeme → Type 0) (all : List Lexeme) (at : ℕ) (bytes : List ℕ) (test : Lexeme → Bool) → C bytes → at ≤ length all
    → ((y : List ℕ) (l : Lexeme) → C y → Is (record { kind = kind; bytes = y; joined = false }) l → test l ≡ true)
    → heads test (drop at all) ≡ false → StopsAt C (one_sign kind) Ends all at at
sign_none kind C Ends all at bytes test allowed within passes none = record {
  order = omega arith;
  within = within;
  none = λ other y after alike allows reads ends.
      let passed : heads test (drop at other) ≡ true = reads_heads test _ [] (drop at other) after (λ l is. passes y l allows is) reads in
      let same : heads test (drop at other) ≡ heads test (drop at all) = heads_alike test at other all alike in
      absurd (cc);
  begun = bytes;
  allowed = allowed;
  done = [];
  left = one_sign kind bytes;
  parts = refl;
  reads = refl;
}

module _ {X Z : Type 0} (A : X → Type 0) (f : X → List Sign) (B : Z → Type 0) (g k : Z → List Sign) (make : Z → X) (Ends : List Lexeme → Type 0)
    (all : List Lexeme) (from at seen : ℕ) (leads : Leads A f B g make Ends all from at seen) (before : seen ≤ at) (sign : Sign) (part : (z : Z) → B z → g z ≡ sign ∷ k z) where
  -- a sign that must follow is there
  pub leads_sign : Stands sign all at → Leads A f B k make Ends all from (at + 1) at
  leads_sign stands = record {
    order = (let a : from ≤ at = leads.order in omega arith);
    within = stands_within sign all at stands;
    done = leads.done ++ sign ∷ [];
    reads = reads_join leads.done (sign ∷ []) (drop from all) (drop at all) (drop (at + 1) all) leads.reads stands;
    allow = leads.allow;
    same = λ z allowed. leads.same z allowed ∙ ap (λ t. leads.done ++ t) (part z allowed) ∙ sym (append_assoc leads.done (sign ∷ []) (k z));
    only = λ other y after alike allowed reads ends.
        let rest = leads.only other y after (alike_less seen at other all before alike) allowed reads ends in
        let b = stands_reads sign sign (k rest.left) other at after (stands_alike sign at other all alike stands) (subst (λ t. Reads t (drop at other) after) (part rest.left rest.allowed) rest.reads) in
        record { left = rest.left; is = rest.is; allowed = rest.allowed; reads = b.reads };
  }

  -- and is not there
  pub leads_no_sign : (z : Z) → B z → (test : Lexeme → Bool) → ((l : Lexeme) → Is sign l → test l ≡ true) → heads test (drop at all) ≡ false → StopsAt A f Ends all from at
  leads_no_sign z allowed test passes none =
      leads_none A f B g make Ends all from at seen leads z allowed before (λ other w after alike allows reads ends.
      let passed : heads test (drop at other) ≡ true = reads_heads test sign (k w) (drop at other) after passes (subst (λ t. Reads t (drop at other) after) (part w allows) reads) in
      let same : heads test (drop at other) ≡ heads test (drop at all) = heads_alike test at other all alike in
      absurd (cc))

-- a lexeme of the kind stands there, with bytes that are not allowed
pub sign_bad : (kind : Kind) (C : List ℕ → Type 0) (Ends : List Lexeme → Type 0) (all : List Lexeme) (at : ℕ) (bytes good : List ℕ) → C good → at ≤ length all
    → Stands (record { kind = kind; bytes = bytes; joined = false }) all at → (C bytes → ⊥) → StopsAt C (one_sign kind) Ends all at at
sign_bad kind C Ends all at bytes good allowed within stands bad = record {
  order = omega arith;
  within = within;
  none = λ other y after alike allows reads ends.
      let b = stands_reads _ _ [] other at after (stands_alike _ at other all alike stands) reads in
      bad (subst C b.bytes allows);
  begun = good;
  allowed = allowed;
  done = [];
  left = one_sign kind good;
  parts = refl;
  reads = refl;
}

-- one sign closes the whole
module _ {X : Type 0} (A : X → Type 0) (f : X → List Sign) (make : Unit {0} → X) (Ends : List Lexeme → Type 0) (all : List Lexeme) (from at seen : ℕ) (sign : Sign)
    (leads : Leads A f (λ w. Unit {0}) (λ w. sign ∷ []) make Ends all from at seen) (before : seen ≤ at) where
  pub leads_closed : Stands sign all at → IsRead A f Ends all from (make tt) (at + 1)
  leads_closed stands =
      leads_done A f (λ w. Unit {0}) (λ w. []) make Ends all from (at + 1) at
      (leads_sign A f (λ w. Unit {0}) (λ w. sign ∷ []) (λ w. []) make Ends all from at seen leads before sign (λ z allowed. refl) stands)
      tt tt refl (omega arith) (λ other w after alike allowed reads ends. (refl, sym reads))

  pub leads_not_closed : (test : Lexeme → Bool) → ((l : Lexeme) → Is sign l → test l ≡ true) → heads test (drop at all) ≡ false → StopsAt A f Ends all from at
  leads_not_closed test passes none =
      leads_no_sign A f (λ w. Unit {0}) (λ w. sign ∷ []) (λ w. []) make Ends all from at seen leads before sign (λ z allowed. refl) tt tt test passes none

mark_apart_by : (byte other : ℕ) → same_text (byte ∷ []) (other ∷ []) ≡ false → (kind : Kind) (bytes : List ℕ) (joined : Bool)
    → is_mark_of byte (record { kind = kind; bytes = bytes; joined = joined }) ≡ true → is_mark_of other (record { kind = kind; bytes = bytes; joined = joined }) ≡ false
mark_apart_by byte other apart Word bytes joined passed = refl
mark_apart_by byte other apart Int bytes joined passed = refl
mark_apart_by byte other apart Str bytes joined passed = refl
mark_apart_by byte other apart Mark bytes joined passed = ap (λ t. same_text t (other ∷ [])) (bytes_same bytes (byte ∷ []) passed) ∙ apart

-- one mark is not another
pub mark_apart : (byte other : ℕ) → same_text (byte ∷ []) (other ∷ []) ≡ false → (l : Lexeme) → is_mark_of byte l ≡ true → is_mark_of other l ≡ false
mark_apart byte other apart l passed = mark_apart_by byte other apart l.kind l.bytes l.joined passed

neither_first : (a b : Bool) → (a || b) ≡ false → a ≡ false
neither_first true b none = none
neither_first false b none = refl

neither_second : (a b : Bool) → (a || b) ≡ false → b ≡ false
neither_second true b none = absurd (cc)
neither_second false b none = none

or_cases : (a b : Bool) (P : Type 0) → (a || b) ≡ true → (a ≡ true → P) → (b ≡ true → P) → P
or_cases true b P passed one other = one refl
or_cases false b P passed one other = other passed

sentence_apart_by : (byte : ℕ) (kind : Kind) (bytes : List ℕ) (joined : Bool) → is_word_among sentence_words (record { kind = kind; bytes = bytes; joined = joined }) ≡ true
    → is_mark_of byte (record { kind = kind; bytes = bytes; joined = joined }) ≡ false
sentence_apart_by byte Word bytes joined passed = refl
sentence_apart_by byte Int bytes joined passed = refl
sentence_apart_by byte Str bytes joined passed = refl
sentence_apart_by byte Mark bytes joined passed = absurd (cc)

-- what ends a production is no other mark
pub ends_apart : (byte : ℕ) → same_text (124 ∷ []) (byte ∷ []) ≡ false → same_text (62 ∷ []) (byte ∷ []) ≡ false → (l : Lexeme) → ends_production l ≡ true → is_mark_of byte l ≡ false
ends_apart byte bar more l passed =
    or_cases (is_mark_of 124 l) (ends_group l) (is_mark_of byte l ≡ false) passed (λ here. mark_apart 124 byte bar l here)
    (λ rest. or_cases (is_mark_of 62 l) (is_word_among sentence_words l) (is_mark_of byte l ≡ false) rest (λ here. mark_apart 62 byte more l here)
    (λ here. sentence_apart_by byte l.kind l.bytes l.joined here))

pub production_apart : (l : Lexeme) → ends_production l ≡ true → is_mark_of 91 l ≡ false
production_apart l passed = ends_apart 91 refl refl l passed

pub text_there : (bytes : List ℕ) (l : Lexeme) → Is (quoted bytes) l → is_text l ≡ true
text_there bytes l is = subst (λ k. elim k as (λ _. Bool) [ Word ↦ false | Int ↦ false | Str ↦ true | Mark ↦ false ] ≡ true) is.0 refl

pub ends_production_part : (l : Lexeme) → ends_production l ≡ true → ends_parts l ≡ true
ends_production_part l passed = ap (λ t. is_mark_of 91 l || t) passed ∙ or-true (is_mark_of 91 l)

-- a mark begins no item
mark_no_part : (byte : ℕ) (kind : Kind) (bytes : List ℕ) (joined : Bool) → is_mark_of byte (record { kind = kind; bytes = bytes; joined = joined }) ≡ true
    → is_part_start (record { kind = kind; bytes = bytes; joined = joined }) ≡ false
mark_no_part byte Word bytes joined passed = absurd (cc)
mark_no_part byte Int bytes joined passed = absurd (cc)
mark_no_part byte Str bytes joined passed = absurd (cc)
mark_no_part byte Mark bytes joined passed = refl

either_word : (bytes one : List ℕ) (words : List (List ℕ)) (P : Type 0) → is_among (one ∷ words) bytes ≡ true → (bytes ≡ one → P) → (is_among words bytes ≡ true → P) → P
either_word bytes one words P passed here later = or_cases (same_text bytes one) (is_among words bytes) P passed (λ same. here (bytes_same bytes one same)) later

-- a word of a sentence is no item
pub sentence_no_sort : (bytes : List ℕ) → is_among sentence_words bytes ≡ true → is_item_sort bytes ≡ false
sentence_no_sort bytes passed =
    let is : (one : List ℕ) → is_item_sort one ≡ false → bytes ≡ one → is_item_sort bytes ≡ false = λ one none same. ap is_item_sort same ∙ none in
    either_word bytes (codes "endmodule") (codes "imports" ∷ codes "syntax" ∷ codes "configuration" ∷ codes "rule" ∷ []) (is_item_sort bytes ≡ false) passed (is (codes "endmodule") refl)
    (λ passed. either_word bytes (codes "imports") (codes "syntax" ∷ codes "configuration" ∷ codes "rule" ∷ []) (is_item_sort bytes ≡ false) passed (is (codes "imports") refl)
    (λ passed. either_word bytes (codes "syntax") (codes "configuration" ∷ codes "rule" ∷ []) (is_item_sort bytes ≡ false) passed (is (codes "syntax") refl)
    (λ passed. either_word bytes (codes "configuration") (codes "rule" ∷ []) (is_item_sort bytes ≡ false) passed (is (codes "configuration") refl)
    (λ passed. either_word bytes (codes "rule") [] (is_item_sort bytes ≡ false) passed (is (codes "rule") refl) (λ no. absurd (cc))))))

sentence_no_part : (kind : Kind) (bytes : List ℕ) (joined : Bool) → is_word_among sentence_words (record { kind = kind; bytes = bytes; joined = joined }) ≡ true
    → is_part_start (record { kind = kind; bytes = bytes; joined = joined }) ≡ false
sentence_no_part Word bytes joined passed = sentence_no_sort bytes passed
sentence_no_part Int bytes joined passed = absurd (cc)
sentence_no_part Str bytes joined passed = absurd (cc)
sentence_no_part Mark bytes joined passed = absurd (cc)

pub ends_parts_start : (l : Lexeme) → ends_parts l ≡ true → is_part_start l ≡ false
ends_parts_start l passed =
    or_cases (is_mark_of 91 l) (ends_production l) (is_part_start l ≡ false) passed (λ here. mark_no_part 91 l.kind l.bytes l.joined here)
    (λ rest. or_cases (is_mark_of 124 l) (ends_group l) (is_part_start l ≡ false) rest (λ here. mark_no_part 124 l.kind l.bytes l.joined here)
    (λ rest. or_cases (is_mark_of 62 l) (is_word_among sentence_words l) (is_part_start l ≡ false) rest (λ here. mark_no_part 62 l.kind l.bytes l.joined here)
    (λ here. sentence_no_part l.kind l.bytes l.joined here)))

mark_no_word_by : (byte : ℕ) (kind : Kind) (bytes : List ℕ) (joined : Bool) → is_mark_of byte (record { kind = kind; bytes = bytes; joined = joined }) ≡ true
    → is_any_word (record { kind = kind; bytes = bytes; joined = joined }) ≡ false
mark_no_word_by byte Word bytes joined passed = absurd (cc)
mark_no_word_by byte Int bytes joined passed = absurd (cc)
mark_no_word_by byte Str bytes joined passed = absurd (cc)
mark_no_word_by byte Mark bytes joined passed = refl

-- a mark is no word
pub mark_no_word : (byte : ℕ) (l : Lexeme) → is_mark_of byte l ≡ true → is_any_word l ≡ false
mark_no_word byte l passed = mark_no_word_by byte l.kind l.bytes l.joined passed

-- a test that none of these words passes
pub among_none : (test : List ℕ → Bool) (words : List (List ℕ)) (bytes : List ℕ) → list_any test words ≡ false → is_among words bytes ≡ true → test bytes ≡ false
among_none test [] bytes none passed = absurd (cc)
among_none test (one ∷ words) bytes none passed =
    or_cases (same_text bytes one) (is_among words bytes) (test bytes ≡ false) passed
    (λ same. ap test (bytes_same bytes one same) ∙ neither_first (test one) (list_any test words) none)
    (λ later. among_none test words bytes (neither_second (test one) (list_any test words) none) later)

-- a sign that must follow is there, where more was seen
module _ {X Z : Type 0} (A : X → Type 0) (f : X → List Sign) (B : Z → Type 0) (g k : Z → List Sign) (make : Z → X) (Ends : List Lexeme → Type 0)
    (all : List Lexeme) (from at seen : ℕ) (leads : Leads A f B g make Ends all from at seen) (sign : Sign) (part : (z : Z) → B z → g z ≡ sign ∷ k z) where
  pub leads_sign_seen : at ≤ seen → Stands sign all at → Leads A f B k make Ends all from (at + 1) seen
  leads_sign_seen before stands = record {
    order = (let a : from ≤ at = leads.order in omega arith);
    within = stands_within sign all at stands;
    done = leads.done ++ sign ∷ [];
    reads = reads_join leads.done (sign ∷ []) (drop from all) (drop at all) (drop (at + 1) all) leads.reads stands;
    allow = leads.allow;
    same = λ z allowed. leads.same z allowed ∙ ap (λ t. leads.done ++ t) (part z allowed) ∙ sym (append_assoc leads.done (sign ∷ []) (k z));
    only = λ other y after alike allowed reads ends.
        let rest = leads.only other y after alike allowed reads ends in
        let b = stands_reads sign sign (k rest.left) other at after (stands_alike sign at other all (alike_less at seen other all before alike) stands)
        (subst (λ t. Reads t (drop at other) after) (part rest.left rest.allowed) rest.reads) in
        record { left = rest.left; is = rest.is; allowed = rest.allowed; reads = b.reads };
  }

pub both_true : (a b : Bool) → a ≡ true → b ≡ true → (a && b) ≡ true
both_true true b one two = two
both_true false b one two = absurd (cc)

word_no_mark_by : (byte : ℕ) (kind : Kind) (bytes : List ℕ) (joined : Bool) → is_any_word (record { kind = kind; bytes = bytes; joined = joined }) ≡ true
    → is_mark_of byte (record { kind = kind; bytes = bytes; joined = joined }) ≡ false
word_no_mark_by byte Word bytes joined passed = refl
word_no_mark_by byte Int bytes joined passed = refl
word_no_mark_by byte Str bytes joined passed = refl
word_no_mark_by byte Mark bytes joined passed = absurd (cc)

pub word_no_mark : (byte : ℕ) (l : Lexeme) → is_any_word l ≡ true → is_mark_of byte l ≡ false
word_no_mark byte l passed = word_no_mark_by byte l.kind l.bytes l.joined passed

text_no_mark_by : (byte : ℕ) (kind : Kind) (bytes : List ℕ) (joined : Bool) → is_text (record { kind = kind; bytes = bytes; joined = joined }) ≡ true
    → is_mark_of byte (record { kind = kind; bytes = bytes; joined = joined }) ≡ false
text_no_mark_by byte Word bytes joined passed = refl
text_no_mark_by byte Int bytes joined passed = refl
text_no_mark_by byte Str bytes joined passed = refl
text_no_mark_by byte Mark bytes joined passed = absurd (cc)

pub text_no_mark : (byte : ℕ) (l : Lexeme) → is_text l ≡ true → is_mark_of byte l ≡ false
text_no_mark byte l passed = text_no_mark_by byte l.kind l.bytes l.joined passed

-- a word of a sentence is no mark
pub more_apart : (byte : ℕ) (l : Lexeme) → is_word_among sentence_words l ≡ true → is_mark_of byte l ≡ false
more_apart byte l passed = sentence_apart_by byte l.kind l.bytes l.joined passed

-- what ends a group is no bar
pub bar_apart : (l : Lexeme) → ends_group l ≡ true → is_mark_of 124 l ≡ false
bar_apart l passed =
    or_cases (is_mark_of 62 l) (is_word_among sentence_words l) (is_mark_of 124 l ≡ false) passed (λ here. mark_apart 62 124 refl l here) (λ here. more_apart 124 l here)
