-- A text has tokens or a fault, and not two of them.
use Rattle.std.proofs.Common.{◌≡◌, ℕ, ◌+◌, ◌<◌, ◌≤◌, List, [], ◌∷◌, length, take, drop, refl, sym, ap, subst, ◌∙◌, arith, slice_index, get_or, inl, inr, ◌⊎◌, ⊎_elim, add-zero, Result, Ok, Err, IfErr, MatchResult, Option, Some, None, MatchOption}
use Rattle.std.specs.Str.{IsUtf8, IsValidUpTo}
use Rattle.std.proofs.lemmas.Bool.{cases_lt}
use Rattle.std.proofs.lemmas.List.{get_or-drop, drop_all, take_all, take_more}
use Rattle.std.proofs.lemmas.Str.{IsUtf8-append, IsUtf8-encode, encode_ascii}
use lib.Utf8.{low_scalar}
use Rattle.k_lexer.specs.declared.token.Token.{Token}
use Rattle.k_lexer.specs.declared.fault.LexFault.{LexFault}
use Rattle.k_lexer.specs.declared.fault.LexFault.TheVariants.{BadByte, OpenString, OpenComment, Memory}
use Rattle.k_lexer.specs.Laws.{IsReached, HasTokens}
use Rattle.k_lexer.specs.Lexing.{Reaches, AreTokens, Stops, IsStop, IsBadSequence, IsAnyFault, IsFault, place}
use Rattle.k_lexer.proofs.Taking.{slash_first}
use Rattle.k_lexer.proofs.Steps.{one_end, one_stop, one_whole, end_blocked, stop_blocked}

-- ---- bytes that are no UTF-8

one_bad : (text : List ℕ) (m n : ℕ) → IsValidUpTo text m → IsValidUpTo text n → m ≡ n
one_bad text m n f g =
    let most : n ≤ m = ⊎_elim (λ (less : m < n). absurd (f.longest n less g.front)) (λ (le : n ≤ m). le) (cases_lt m n) in
    let least : m ≤ n = ⊎_elim (λ (less : n < m). absurd (g.longest m less f.front)) (λ (le : m ≤ n). le) (cases_lt n m) in
    omega arith

good_or_bad : (text : List ℕ) (n : ℕ) → IsUtf8 text → IsValidUpTo text n → ⊥
good_or_bad text n good bad = bad.longest (length text) bad.short (subst IsUtf8 (sym (take_all (length text) text (omega arith))) good)

-- no ASCII character stands where the text stops being UTF-8
bad_is_high : (text : List ℕ) (n : ℕ) → IsValidUpTo text n → slice_index (drop n text) 0 < 128 → ⊥
bad_is_high text n bad low =
    let byte : slice_index (drop n text) 0 ≡ get_or text n 0 = get_or-drop n text 0 0 ∙ ap (λ k. get_or text k 0) (add-zero n) in
    let low2 : get_or text n 0 < 128 = omega arith in
    let one : IsUtf8 (get_or text n 0 ∷ []) = subst IsUtf8 (encode_ascii (get_or text n 0) low2) (IsUtf8-encode (get_or text n 0) (low_scalar (get_or text n 0) (omega arith))) in
    bad.longest (n + 1) (omega arith) (subst IsUtf8 (sym (take_more text n 0 bad.short)) (IsUtf8-append (take n text) (get_or text n 0 ∷ []) bad.front one))

-- a stop there is a byte with which nothing begins
bad_stop : (text : List ℕ) (fault : LexFault) → IsStop text fault → IsValidUpTo text (place fault) → fault ≡ BadByte (place fault)
bad_stop text (BadByte at) stop bad = refl
bad_stop text (OpenString at) stop bad = absurd (bad_is_high text at bad (let quote = stop.stops.0 in omega arith))
bad_stop text (OpenComment at) stop bad = absurd (bad_is_high text at bad (let slash = slash_first 42 (drop at text) stop.stops.0 in omega arith))
bad_stop text Memory stop bad = absurd (stop.stops)

-- ---- a text with tokens has no fault

no_stop_nil : (fault : LexFault) → Stops [] fault → ⊥
no_stop_nil (BadByte at) stops = let some : 0 < 0 = stops.0 in absurd (omega arith)
no_stop_nil (OpenString at) stops = let quote : slice_index [] 0 ≡ 34 = stops.0 in absurd (omega arith)
no_stop_nil (OpenComment at) stops = let slash : slice_index [] 0 ≡ 47 = slash_first 42 [] stops.0 in absurd (omega (arith, slash))
no_stop_nil Memory stops = stops

stop_place : (text : List ℕ) (tokens : List Token) (fault : LexFault) → Reaches text tokens (length text) → IsStop text fault → place fault ≡ length text
stop_place text tokens fault whole stop =
    (one_end text stop.tokens tokens (place fault) (length text) stop.reached whole (stop_blocked text fault stop) (end_blocked text)).1

whole_or_stop : (text : List ℕ) (tokens : List Token) (fault : LexFault) → Reaches text tokens (length text) → IsStop text fault → ⊥
whole_or_stop text tokens fault whole stop =
    no_stop_nil fault (subst (λ t. Stops t fault) (ap (λ p. drop p text) (stop_place text tokens fault whole stop) ∙ drop_all (length text) text (omega arith)) stop.stops)

pub tokens_or_fault : (text : List ℕ) (tokens : List Token) (fault : LexFault) → AreTokens text tokens → IsFault text fault → ⊥
tokens_or_fault text tokens fault are is =
    ⊎_elim (λ (stop : IsStop text fault). whole_or_stop text tokens fault are.whole stop) (λ (bad : IsBadSequence text fault). good_or_bad text (place fault) are.utf8 bad.0) is.is

pub one_tokens : (text : List ℕ) (ms ns : List Token) → AreTokens text ms → AreTokens text ns → ms ≡ ns
one_tokens text ms ns first second = one_whole text ms ns first.whole second.whole

bad_named : (text : List ℕ) (f : LexFault) → IsAnyFault text f → IsValidUpTo text (place f) → f ≡ BadByte (place f)
bad_named text f is bad = ⊎_elim (λ (stop : IsStop text f). bad_stop text f stop bad) (λ (other : IsBadSequence text f). other.1) is

both_bad : (text : List ℕ) (f g : LexFault) → place f ≡ place g → IsAnyFault text f → IsAnyFault text g → IsValidUpTo text (place f) → f ≡ g
both_bad text f g same first second bad =
    bad_named text f first bad ∙ ap BadByte same ∙ sym (bad_named text g second (subst (λ p. IsValidUpTo text p) same bad))

pub one_fault : (text : List ℕ) (f g : LexFault) → IsFault text f → IsFault text g → f ≡ g
one_fault text f g first second =
    let most = first.least g second.is in
    let least = second.least f first.is in
    let same : place f ≡ place g = omega arith in
    ⊎_elim
    (λ (stop : IsStop text f).
    ⊎_elim (λ (other : IsStop text g). one_stop text f g stop other)
    (λ (bad : IsBadSequence text g). both_bad text f g same first.is second.is (subst (λ p. IsValidUpTo text p) (sym same) bad.0)) second.is)
    (λ (bad : IsBadSequence text f). both_bad text f g same first.is second.is bad.0)
    first.is

-- ---- what the scan found, with the first byte that is no UTF-8

abbrev pub IsStopped : List ℕ → LexFault → Type 0
IsStopped text fault = (fault ≡ Memory) ⊎ IsStop text fault

abbrev pub IsFaulted : List ℕ → LexFault → Type 0
IsFaulted text fault = (fault ≡ Memory) ⊎ IsFault text fault

stop_least : (text : List ℕ) (fault other : LexFault) → IsStop text fault → IsStop text other → place fault ≤ place other
stop_least text fault other stop next = let same = ap place (one_stop text fault other stop next) in omega arith

pub fault_of_utf8 : (text : List ℕ) (fault : LexFault) → IsUtf8 text → IsStopped text fault → IsFaulted text fault
fault_of_utf8 text fault good (inl memory) = inl memory
fault_of_utf8 text fault good (inr stop) = inr (record {
  is = inl stop;
  least = λ other any. ⊎_elim (λ (next : IsStop text other). stop_least text fault other stop next) (λ (bad : IsBadSequence text other). absurd (good_or_bad text (place other) good bad.0)) any;
})

bad_least : (text : List ℕ) (at : ℕ) (other : LexFault) → IsValidUpTo text at → IsBadSequence text other → at ≤ place other
bad_least text at other bad next = let same = one_bad text at (place other) bad next.0 in omega arith

pub bad_of_whole : (text : List ℕ) (at : ℕ) (tokens : List Token) → IsValidUpTo text at → Reaches text tokens (length text) → IsFaulted text (BadByte at)
bad_of_whole text at tokens bad whole = inr (record {
  is = inr (bad, refl);
  least = λ other any. ⊎_elim (λ (stop : IsStop text other). absurd (whole_or_stop text tokens other whole stop)) (λ (next : IsBadSequence text other). bad_least text at other bad next) any;
})

pub fault_before_bad : (text : List ℕ) (at : ℕ) (fault : LexFault) → IsValidUpTo text at → IsStopped text fault → place fault < at → IsFaulted text fault
fault_before_bad text at fault bad (inl memory) less = inl memory
fault_before_bad text at fault bad (inr stop) less = inr (record {
  is = inl stop;
  least = λ other any.
      ⊎_elim (λ (next : IsStop text other). stop_least text fault other stop next)
      (λ (later : IsBadSequence text other). (let le = bad_least text at other bad later in omega arith)) any;
})

pub bad_before_fault : (text : List ℕ) (at : ℕ) (fault : LexFault) → IsValidUpTo text at → IsStopped text fault → at ≤ place fault → IsFaulted text (BadByte at)
bad_before_fault text at fault bad stopped le = inr (record {
  is = inr (bad, refl);
  least = λ other any.
      ⊎_elim (λ (next : IsStop text other).
      ⊎_elim (λ (memory : fault ≡ Memory). (let none = ap place memory in omega arith)) (λ (stop : IsStop text fault). (let first = stop_least text fault other stop next in omega arith)) stopped)
      (λ (later : IsBadSequence text other). bad_least text at other bad later) any;
})

-- ---- the answer is the only one

pub no_tokens : (text : List ℕ) (fault : LexFault) → IsFaulted text fault → (found : List Token) → AreTokens text found → fault ≡ Memory
no_tokens text fault (inl memory) found are = memory
no_tokens text fault (inr is) found are = absurd (tokens_or_fault text found fault are is)

pub only_fault : (text : List ℕ) (fault : LexFault) → IsFaulted text fault → (other : LexFault) → IsFault text other → (fault ≡ Memory) ⊎ (fault ≡ other)
only_fault text fault (inl memory) other is = inl memory
only_fault text fault (inr first) other is = inr (one_fault text fault other first is)

pub utf8_answer : {V : Type 0} (items : V → List Token) (text : List ℕ) (r : Result V LexFault) → IsUtf8 text
    → MatchResult r (λ v. Reaches text (items v) (length text)) (λ fault. IsStopped text fault) → IfErr r (λ fault. IsFaulted text fault)
utf8_answer items text (Ok v) good scanned = tt
utf8_answer items text (Err fault) good scanned = fault_of_utf8 text fault good scanned

pub utf8_tokens : {V : Type 0} (items : V → List Token) (text : List ℕ) (r : Result V LexFault) → IsUtf8 text
    → MatchResult r (λ v. Reaches text (items v) (length text)) (λ fault. IsStopped text fault)
    → (found : List Token) → AreTokens text found → MatchResult r (λ v. items v ≡ found) (λ fault. fault ≡ Memory)
utf8_tokens items text (Ok v) good scanned found are = one_whole text (items v) found scanned are.whole
utf8_tokens items text (Err fault) good scanned found are = no_tokens text fault (fault_of_utf8 text fault good scanned) found are

pub utf8_fault : {V : Type 0} (items : V → List Token) (text : List ℕ) (r : Result V LexFault) → IsUtf8 text
    → MatchResult r (λ v. Reaches text (items v) (length text)) (λ fault. IsStopped text fault)
    → (other : LexFault) → IsFault text other → MatchResult r (λ v. ⊥) (λ fault. (fault ≡ Memory) ⊎ (fault ≡ other))
utf8_fault items text (Ok v) good scanned other is = tokens_or_fault text (items v) other (record { utf8 = good; whole = scanned }) is
utf8_fault items text (Err fault) good scanned other is = only_fault text fault (fault_of_utf8 text fault good scanned) other is

-- ---- without the list

pub fault_without_memory : (text : List ℕ) (fault : LexFault) → (fault ≡ Memory → ⊥) → IsFaulted text fault → IsFault text fault
fault_without_memory text fault other (inl memory) = absurd (other memory)
fault_without_memory text fault other (inr is) = is

stop_no_memory : (text : List ℕ) (fault : LexFault) → IsStop text fault → fault ≡ Memory → ⊥
stop_no_memory text (BadByte at) stop is = cc
stop_no_memory text (OpenString at) stop is = cc
stop_no_memory text (OpenComment at) stop is = cc
stop_no_memory text Memory stop is = stop.stops

bad_no_memory : (at : ℕ) → BadByte at ≡ Memory → ⊥
bad_no_memory at is = cc

pub found_in_utf8 : (text : List ℕ) (r : Option LexFault) → IsUtf8 text → MatchOption r (IsReached text (length text)) (λ fault. IsStop text fault)
    → MatchOption r (HasTokens text) (λ fault. IsFault text fault)
found_in_utf8 text None good whole = record { tokens = whole.tokens; are = record { utf8 = good; whole = whole.reached } }
found_in_utf8 text (Some fault) good stop = fault_without_memory text fault (stop_no_memory text fault stop) (fault_of_utf8 text fault good (inr stop))

pub found_bad : (text : List ℕ) (at : ℕ) → IsValidUpTo text at → IsReached text (length text) → IsFault text (BadByte at)
found_bad text at bad whole = fault_without_memory text (BadByte at) (bad_no_memory at) (bad_of_whole text at whole.tokens bad whole.reached)

pub found_before_bad : (text : List ℕ) (at : ℕ) (fault : LexFault) → IsValidUpTo text at → IsStop text fault → place fault < at → IsFault text fault
found_before_bad text at fault bad stop less = fault_without_memory text fault (stop_no_memory text fault stop) (fault_before_bad text at fault bad (inr stop) less)

pub found_bad_first : (text : List ℕ) (at : ℕ) (fault : LexFault) → IsValidUpTo text at → IsStop text fault → at ≤ place fault → IsFault text (BadByte at)
found_bad_first text at fault bad stop le = fault_without_memory text (BadByte at) (bad_no_memory at) (bad_before_fault text at fault bad (inr stop) le)
