-- Two readings of one text: what begins a text, and where its first piece ends, is determined.
use Rattle.std.proofs.Common.{◌≡◌, ℕ, zero, suc, Bool, true, false, ◌&&◌, List, [], ◌∷◌, ◌++◌, take, drop, length, refl, sym, ap, ◌∙◌, subst, nat_eq, ◌<◌, ◌≤◌, ◌-◌, get_or, arith}
use Rattle.std.specs.Prelude.{IsTrue, not, Some, slice_get, ◌||◌}
use Rattle.std.specs.Option.{option_map_or}
use Rattle.std.specs.List.{list_all}
use Rattle.std.specs.Cmp.Lexicographic.{pointwise, bytes_decides}
use Rattle.std.proofs.lemmas.Bool.Decides.{nat_tests}
use Rattle.std.proofs.lemmas.List.{append_cancel_left}
use Rattle.std.proofs.Math.Seq.{take-append_seam, drop-append_seam}
use Rattle.small_form.specs.Pieces.{is_blank, starts_word, continues_word, is_word, begins_in_word, ends_in_word, is_apart, is_solid, Reads}

-- ---- tests

pub first_true : (a b : Bool) → IsTrue (a && b) → IsTrue a
first_true true b p = refl
first_true false b p = p

pub second_true : (a b : Bool) → IsTrue (a && b) → IsTrue b
second_true true b p = p
second_true false b p = cc

pub both_true : (a b : Bool) → IsTrue a → IsTrue b → IsTrue (a && b)
both_true true b p q = q
both_true false b p q = p

not_both_ways : (a b : Bool) → a ≡ false → IsTrue (a && b) → ⊥
not_both_ways true b e h = cc
not_both_ways false b e h = cc

untrue : (a : Bool) → IsTrue (not a) → a ≡ false
untrue true h = cc
untrue false h = refl

either_true : (a b : Bool) → IsTrue a → IsTrue (a || b)
either_true true b h = refl
either_true false b h = cc

-- ---- fronts of a list

-- the first item, if there is one, passes the test
abbrev pub begins : (ℕ → Bool) → List ℕ → Bool
begins test text = option_map_or test (slice_get text 0) false

-- a front that passes a test ends where the first item stands that doesn't pass it
cut : (test : ℕ → Bool) (xs zs : List ℕ) (n : ℕ) → IsTrue (list_all test xs) → begins test zs ≡ false → n ≤ length (xs ++ zs)
    → IsTrue (list_all test (take n (xs ++ zs))) → (n < length (xs ++ zs) → test (get_or (xs ++ zs) n 0) ≡ false) → n ≡ length xs
cut test [] [] n all stop within passed next = omega arith
cut test [] (z ∷ zs) zero all stop within passed next = refl
cut test [] (z ∷ zs) (suc n) all stop within passed next = absurd (not_both_ways (test z) _ stop passed)
cut test (x ∷ xs) zs zero all stop within passed next = absurd (not_both_ways (test x) _ (next (omega arith)) all)
cut test (x ∷ xs) zs (suc n) all stop within passed next =
    ap suc (cut test xs zs n (second_true (test x) _ all) stop (omega arith) (second_true (test x) _ passed) (λ h. next (omega arith)))

-- two fronts that pass a test, up to where an item stands that doesn't pass it, are one
pub same_cut : (test : ℕ → Bool) (xs ys us vs : List ℕ) → IsTrue (list_all test xs) → IsTrue (list_all test ys)
    → begins test us ≡ false → begins test vs ≡ false → xs ++ us ≡ ys ++ vs → xs ≡ ys
same_cut test [] [] us vs all every stop ends e = refl
same_cut test [] (y ∷ ys) us vs all every stop ends e = absurd (not_both_ways (test y) _ (sym (ap (begins test) e) ∙ stop) every)
same_cut test (x ∷ xs) [] us vs all every stop ends e = absurd (not_both_ways (test x) _ (ap (begins test) e ∙ ends) all)
same_cut test (x ∷ xs) (y ∷ ys) us vs all every stop ends e =
    let head : x ≡ y = cc in
    let tail : xs ++ us ≡ ys ++ vs = cc in
    (λ i. head i ∷ same_cut test xs ys us vs (second_true (test x) _ all) (second_true (test y) _ every) stop ends tail i)

-- ---- blanks before a piece

solid_stops : (piece after : List ℕ) → IsTrue (is_solid piece) → begins is_blank (piece ++ after) ≡ false
solid_stops [] after solid = absurd (cc)
solid_stops (b ∷ bs) after solid = untrue (is_blank b) solid

-- what stands after the blanks at the front of a text
pub record IsStart (text start : List ℕ) : Type 0 where
  pub count : ℕ
  pub within : count ≤ length text
  pub blanks : IsTrue (list_all is_blank (take count text))
  pub next : count < length text → is_blank (get_or text count 0) ≡ false
  pub is : start ≡ drop count text

-- the start of a text that is the other of two names of it
pub start_of : (inside text start : List ℕ) (n : ℕ) → inside ≡ text → n ≤ length inside → IsTrue (list_all is_blank (take n inside))
    → (n < length inside → is_blank (get_or inside n 0) ≡ false) → start ≡ drop n inside → IsStart text start
start_of inside text start n same within blanks next is =
    subst (λ t. IsStart t start) same (record { count = n; within = within; blanks = blanks; next = next; is = is })

-- where a piece is read, the start begins with it
pub at_piece : (piece : List ℕ) (pieces : List (List ℕ)) (text start rest : List ℕ) → IsStart text start → IsTrue (is_solid piece)
    → (read : Reads (piece ∷ pieces) text rest) → start ≡ piece ++ read.1
at_piece piece pieces text start rest s solid read =
    let front = read.0 in
    let tail = piece ++ read.1 in
    let count : s.count ≡ length front = cut is_blank front tail s.count read.3 (solid_stops piece read.1 solid)
    (subst (λ t. s.count ≤ length t) read.2 s.within) (subst (λ t. IsTrue (list_all is_blank (take s.count t))) read.2 s.blanks)
    (subst (λ t. s.count < length t → is_blank (get_or t s.count 0) ≡ false) read.2 s.next) in
    s.is ∙ (λ i. drop (count i) (read.2 i)) ∙ drop-append_seam front tail

-- two solid pieces that are read at one place: the texts from there on are one
pub same_front : (p q : List ℕ) (ps qs : List (List ℕ)) (text a b : List ℕ) → IsTrue (is_solid p) → IsTrue (is_solid q)
    → (one : Reads (p ∷ ps) text a) (other : Reads (q ∷ qs) text b) → p ++ one.1 ≡ q ++ other.1
same_front p q ps qs text a b solid firm one other =
    let joined : one.0 ++ (p ++ one.1) ≡ other.0 ++ (q ++ other.1) = sym one.2 ∙ other.2 in
    let blanks : one.0 ≡ other.0 = same_cut is_blank one.0 other.0 (p ++ one.1) (q ++ other.1) one.3 other.3 (solid_stops p one.1 solid) (solid_stops q other.1 firm) joined in
    append_cancel_left one.0 (p ++ one.1) (q ++ other.1) (joined ∙ ap (λ t. t ++ (q ++ other.1)) (sym blanks))

-- ---- a piece that is given

-- what is left after a piece that is read
pub left_after : (piece after : List ℕ) (pieces : List (List ℕ)) (text start rest : List ℕ) → IsStart text start → IsTrue (is_solid piece)
    → Reads (piece ∷ pieces) text rest → start ≡ piece ++ after → Reads pieces after rest
left_after piece after pieces text start rest s solid read front =
    let same : read.1 ≡ after = append_cancel_left piece read.1 after (sym (at_piece piece pieces text start rest s solid read) ∙ front) in
    subst (λ t. Reads pieces t rest) same read.5

-- a text that goes on otherwise is not read by the piece
pub other_piece : (piece : List ℕ) (pieces : List (List ℕ)) (text start rest : List ℕ) → IsStart text start → IsTrue (is_solid piece)
    → Reads (piece ∷ pieces) text rest → pointwise nat_eq (take (length piece) start) piece ≡ false → ⊥
other_piece piece pieces text start rest s solid read other =
    let front : take (length piece) start ≡ piece =
    ap (take (length piece)) (at_piece piece pieces text start rest s solid read) ∙ take-append_seam piece read.1 in
    let same : pointwise nat_eq (take (length piece) start) piece ≡ true = (bytes_decides (take (length piece) start) piece).1 front in
    cc

-- a piece that is not apart from what follows is not read
pub not_apart : (piece after : List ℕ) (pieces : List (List ℕ)) (text start rest : List ℕ) → IsStart text start → IsTrue (is_solid piece)
    → Reads (piece ∷ pieces) text rest → start ≡ piece ++ after → is_apart piece after ≡ false → ⊥
not_apart piece after pieces text start rest s solid read front joined =
    let same : read.1 ≡ after = append_cancel_left piece read.1 after (sym (at_piece piece pieces text start rest s solid read) ∙ front) in
    let apart : is_apart piece after ≡ true = subst (λ t. IsTrue (is_apart piece t)) same read.4 in
    cc

-- ---- words

pub word_passes : (w : List ℕ) → IsTrue (is_word w) → IsTrue (list_all continues_word w)
word_passes [] h = absurd (cc)
word_passes (b ∷ bs) h = both_true (continues_word b) _ (either_true (starts_word b) _ (first_true (starts_word b) _ h)) (second_true (starts_word b) _ h)

last_passes : (test : ℕ → Bool) (b : ℕ) (bs : List ℕ) → IsTrue (list_all test (b ∷ bs)) → option_map_or test (slice_get (b ∷ bs) (length bs)) false ≡ true
last_passes test b [] all = first_true (test b) _ all
last_passes test b (c ∷ cs) all = last_passes test c cs (second_true (test b) _ all)

pub word_ends : (w : List ℕ) → IsTrue (is_word w) → ends_in_word w ≡ true
word_ends [] h = absurd (cc)
word_ends (b ∷ bs) h =
    let place : length (b ∷ bs) - 1 ≡ length bs = omega arith in
    ap (λ n. option_map_or continues_word (slice_get (b ∷ bs) n) false) place ∙ last_passes continues_word b bs (word_passes (b ∷ bs) h)

apart_stops : (a b : Bool) → IsTrue (not (a && b)) → a ≡ true → b ≡ false
apart_stops true true h e = cc
apart_stops true false h e = refl
apart_stops false b h e = absurd (cc)

-- what follows a word doesn't go on with it
pub word_stops : (w after : List ℕ) → IsTrue (is_word w) → IsTrue (is_apart w after) → begins_in_word after ≡ false
word_stops w after word apart = apart_stops (ends_in_word w) (begins_in_word after) apart (word_ends w word)

word_byte : (b : ℕ) → IsTrue (starts_word b) → IsTrue (not (is_blank b))
word_byte b h = grind (arith, nat_tests)

pub word_solid : (w : List ℕ) → IsTrue (is_word w) → IsTrue (is_solid w)
word_solid [] h = h
word_solid (b ∷ bs) h = word_byte b (first_true (starts_word b) _ h)

-- how far the word goes at a start
pub record IsFront (start front after : List ℕ) : Type 0 where
  pub count : ℕ
  pub within : count ≤ length start
  pub word : IsTrue (list_all continues_word (take count start))
  pub next : count < length start → continues_word (get_or start count 0) ≡ false
  pub front_is : front ≡ take count start
  pub after_is : after ≡ drop count start

-- where a word is read, it is the front, and what follows is left
pub word_cut : (w : List ℕ) (pieces : List (List ℕ)) (text start rest front after : List ℕ) → IsStart text start → IsFront start front after
    → IsTrue (is_word w) → (read : Reads (w ∷ pieces) text rest) → (front ≡ w) × (after ≡ read.1)
word_cut w pieces text start rest front after s f word read =
    let is : start ≡ w ++ read.1 = at_piece w pieces text start rest s (word_solid w word) read in
    let count : f.count ≡ length w = cut continues_word w read.1 f.count (word_passes w word) (word_stops w read.1 word read.4)
    (subst (λ t. f.count ≤ length t) is f.within) (subst (λ t. IsTrue (list_all continues_word (take f.count t))) is f.word)
    (subst (λ t. f.count < length t → continues_word (get_or t f.count 0) ≡ false) is f.next) in
    (f.front_is ∙ (λ i. take (count i) (is i)) ∙ take-append_seam w read.1, f.after_is ∙ (λ i. drop (count i) (is i)) ∙ drop-append_seam w read.1)

-- a front that is no word, or is not apart from what follows, is not read
pub no_word : (w : List ℕ) (pieces : List (List ℕ)) (text start rest front after : List ℕ) → IsStart text start → IsFront start front after
    → IsTrue (is_word w) → Reads (w ∷ pieces) text rest → is_word front ≡ false → ⊥
no_word w pieces text start rest front after s f word read none =
    let same : is_word front ≡ is_word w = ap is_word (word_cut w pieces text start rest front after s f word read).0 in
    cc

pub word_not_apart : (w : List ℕ) (pieces : List (List ℕ)) (text start rest front after : List ℕ) → IsStart text start → IsFront start front after
    → IsTrue (is_word w) → Reads (w ∷ pieces) text rest → is_apart front after ≡ false → ⊥
word_not_apart w pieces text start rest front after s f word read joined =
    let both = word_cut w pieces text start rest front after s f word read in
    let same : is_apart front after ≡ is_apart w read.1 = (λ i. is_apart (both.0 i) (both.1 i)) in
    let apart : is_apart w read.1 ≡ true = read.4 in
    cc

-- the word that is read, and what is left
pub word_read : (w : List ℕ) (pieces : List (List ℕ)) (text start rest front after : List ℕ) → IsStart text start → IsFront start front after
    → IsTrue (is_word w) → Reads (w ∷ pieces) text rest → (Some front ≡ Some w) × Reads pieces after rest
word_read w pieces text start rest front after s f word read =
    let both = word_cut w pieces text start rest front after s f word read in
    (ap Some both.0, subst (λ t. Reads pieces t rest) (sym both.1) read.5)

-- two words that are read at one place are one
pub same_word : (v w : List ℕ) (ps qs : List (List ℕ)) (text a b : List ℕ) → IsTrue (is_word v) → IsTrue (is_word w)
    → Reads (v ∷ ps) text a → Reads (w ∷ qs) text b → v ≡ w
same_word v w ps qs text a b word other one two =
    same_cut continues_word v w one.1 two.1 (word_passes v word) (word_passes w other) (word_stops v one.1 word one.4) (word_stops w two.1 other two.4)
    (same_front v w ps qs text a b (word_solid v word) (word_solid w other) one two)
