-- The pieces of a rule's left side, and the names among them.
use Rattle.std.proofs.Common.{◌≡◌, ℕ, suc, Bool, true, false, ◌&&◌, List, [], ◌∷◌, ◌++◌, length, refl, sym, ap, ◌∙◌, subst, append_assoc, length-append, ◌≤◌, ◌+◌, ◌-◌, arith}
use Rattle.std.specs.Prelude.{IsTrue, codes, not, Some, None, Option, ◌||◌, slice_get}
use Rattle.std.specs.Option.{option_to_list, option_map_or}
use Rattle.std.specs.Cmp.Lexicographic.{bytes_decides}
use Rattle.std.proofs.lemmas.Bool.Decides.{nat_tests}
use Rattle.std.proofs.lemmas.List.{append-nil}
use Rattle.small_form.specs.Pieces.{is_word, is_solid, is_capital, is_small, ends_in_word, begins_in_word, starts_word, continues_word, Reads}
use Rattle.small_form.specs.Small.{is_label, is_variable, is_sort, is_among, same_text, typed, IsLeftPiece, HasNames}
use Rattle.small_form.proofs.Unique.{first_true, second_true, same_front, word_solid}
use Rattle.small_form.proofs.Nodes.{label_word}

-- ---- the parts of a variable with its sort

pub variable_word : (name : List ℕ) → IsTrue (is_variable name) → IsTrue (is_word name)
variable_word name h = first_true (is_word name) _ h

pub sort_word : (sort : List ℕ) → IsTrue (is_sort sort) → IsTrue (is_word sort)
sort_word sort h = first_true (is_word sort) _ (first_true (is_variable sort) _ h)

last_but_one : (xs : List ℕ) (y : ℕ) (ys : List ℕ) → suc (length (xs ++ y ∷ ys)) - 1 ≡ suc (length (xs ++ y ∷ ys) - 1)
last_but_one xs y ys = omega (arith, length-append xs (y ∷ ys))

ends_later : (xs : List ℕ) (y : ℕ) (ys : List ℕ) → ends_in_word (xs ++ y ∷ ys) ≡ ends_in_word (y ∷ ys)
ends_later [] y ys = refl
ends_later (x ∷ xs) y ys =
    let size : length (x ∷ (xs ++ y ∷ ys)) - 1 ≡ suc (length (xs ++ y ∷ ys) - 1) = last_but_one xs y ys in
    ap (λ n. option_map_or continues_word (slice_get (x ∷ (xs ++ y ∷ ys)) n) false) size ∙ ends_later xs y ys

apart_never : (a : Bool) → IsTrue (not (a && false))
apart_never true = refl
apart_never false = refl

-- a variable with its sort is read as three pieces too
pub typed_parts : (sort name : List ℕ) (pieces : List (List ℕ)) (text rest : List ℕ) → IsTrue (is_sort sort) → Reads (typed sort name ∷ pieces) text rest
    → Reads (name ∷ codes ":" ∷ sort ∷ pieces) text rest
typed_parts [] name pieces text rest is read = absurd (cc)
typed_parts (s ∷ ss) name pieces text rest is read =
    let sort = s ∷ ss in
    let after = read.1 in
    let grouped : typed sort name ++ after ≡ name ++ (codes ":" ++ (sort ++ after)) = append_assoc name (codes ":" ++ sort) after in
    let ends : ends_in_word (typed sort name) ≡ ends_in_word sort = ends_later name 58 sort ∙ ends_later (58 ∷ []) s ss in (
      read.0,
      codes ":" ++ (sort ++ after),
      read.2 ∙ ap (λ t. read.0 ++ t) grouped,
      read.3,
      apart_never (ends_in_word name),
      (
        [],
        sort ++ after,
        refl,
        refl,
        refl,
        ([], after, refl, refl, sym (ap (λ b. not (b && begins_in_word after)) ends) ∙ read.4, read.5),
      ),
    )

-- ---- marks

tested : (P : List ℕ → Type 0) (piece mark : List ℕ) (more : Bool) → P mark → (b : Bool) → same_text piece mark ≡ b → IsTrue (b || more) → (IsTrue more → P piece) → P piece
tested P piece mark more at true e h later = subst P (sym ((bytes_decides piece mark).0 e)) at
tested P piece mark more at false e h later = later h

by_test : (P : List ℕ → Type 0) (piece mark : List ℕ) (more : Bool) → P mark → IsTrue (same_text piece mark || more) → (IsTrue more → P piece) → P piece
by_test P piece mark more at h later = tested P piece mark more at (same_text piece mark) refl h later

-- a mark is one of three
pub mark_by : (P : List ℕ → Type 0) → P (codes "(") → P (codes ",") → P (codes ")") → (piece : List ℕ)
    → IsTrue (is_among (codes "(" ∷ codes "," ∷ codes ")" ∷ []) piece) → P piece
mark_by P opening comma closing piece h =
    by_test P piece (codes "(") _ opening h
    (λ h2. by_test P piece (codes ",") _ comma h2
    (λ h3. by_test P piece (codes ")") _ closing h3 (λ none. absurd (cc))))

-- ---- the scan

-- what is still to be read of a left side, with the names that are found so far
pub record IsScan (sort : List ℕ) (done names pieces : List (List ℕ)) (text rest : List ℕ) : Type 0 where
  pub todo : List (List ℕ)
  pub left : List (List ℕ)
  pub is : names ≡ done ++ left
  pub named : HasNames sort todo left
  pub read : Reads (todo ++ codes "=>" ∷ pieces) text rest

-- the next piece of it
pub record HasPiece (sort : List ℕ) (done names pieces : List (List ℕ)) (text rest : List ℕ) : Type 0 where
  pub piece : List ℕ
  pub name : Option (List ℕ)
  pub todo : List (List ℕ)
  pub left : List (List ℕ)
  pub kind : IsLeftPiece sort piece name
  pub is : names ≡ done ++ (option_to_list name ++ left)
  pub named : HasNames sort todo left
  pub read : Reads (piece ∷ (todo ++ codes "=>" ∷ pieces)) text rest

pub scan_begins : (sort : List ℕ) (done left names pieces : List (List ℕ)) (text rest : List ℕ) → done ≡ [] → HasNames sort left names
    → Reads (left ++ codes "=>" ∷ pieces) text rest → IsScan sort done names pieces text rest
scan_begins sort done left names pieces text rest none named read = record {
  todo = left;
  left = names;
  is = ap (λ t. t ++ names) (sym none);
  named = named;
  read = read;
}

-- ---- which piece is read

small_or_capital : (b : ℕ) → IsTrue (is_small b) → IsTrue (is_capital b) → ⊥
small_or_capital b h e = grind (arith, nat_tests)

label_or_variable : (w : List ℕ) → IsTrue (is_label w) → IsTrue (is_variable w) → ⊥
label_or_variable [] h e = cc
label_or_variable (b ∷ bs) h e =
    small_or_capital b (second_true (is_word (b ∷ bs)) _ (first_true (is_word (b ∷ bs) && is_small b) _ h)) (second_true (is_word (b ∷ bs)) _ e)

-- a word begins otherwise than a mark
pub word_or_other : (w : List ℕ) (m : ℕ) (ms a b : List ℕ) → starts_word m ≡ false → IsTrue (is_word w) → w ++ a ≡ (m ∷ ms) ++ b → ⊥
word_or_other [] m ms a b other word e = cc
word_or_other (x ∷ xs) m ms a b other word e =
    let head : x ≡ m = cc in
    let starts : starts_word m ≡ true = subst (λ t. IsTrue (starts_word t)) head (first_true (starts_word x) _ word) in
    cc

pub no_mark : (w piece : List ℕ) (ps qs : List (List ℕ)) (text a b : List ℕ) → IsTrue (is_among (codes "(" ∷ codes "," ∷ codes ")" ∷ []) piece) → IsTrue (is_word w)
    → Reads (w ∷ ps) text a → Reads (piece ∷ qs) text b → ⊥
no_mark w piece ps qs text a b is word one other =
    mark_by (λ m. Reads (m ∷ qs) text b → ⊥)
    (λ r. word_or_other w 40 [] one.1 r.1 refl word (same_front w (codes "(") ps qs text a b (word_solid w word) refl one r))
    (λ r. word_or_other w 44 [] one.1 r.1 refl word (same_front w (codes ",") ps qs text a b (word_solid w word) refl one r))
    (λ r. word_or_other w 41 [] one.1 r.1 refl word (same_front w (codes ")") ps qs text a b (word_solid w word) refl one r))
    piece is other

-- two marks are not read at one place
pub two_marks : (m n : ℕ) (ps qs : List (List ℕ)) (text a b : List ℕ) → IsTrue (is_solid (m ∷ [])) → IsTrue (is_solid (n ∷ [])) → (m ≡ n → ⊥)
    → Reads ((m ∷ []) ∷ ps) text a → Reads ((n ∷ []) ∷ qs) text b → ⊥
two_marks m n ps qs text a b solid firm different one other =
    let front : (m ∷ []) ++ one.1 ≡ (n ∷ []) ++ other.1 = same_front (m ∷ []) (n ∷ []) ps qs text a b solid firm one other in
    let head : m ≡ n = cc in
    different head

either_by : (C : Type 0) (a b : Bool) → IsTrue (a || b) → (IsTrue a → C) → (IsTrue b → C) → C
either_by C true b h left right = left refl
either_by C false b h left right = right h

-- the piece is a label, a mark or a variable with its sort
pub left_by : (sort : List ℕ) (P : List ℕ → Option (List ℕ) → Type 0) → ((label : List ℕ) → IsTrue (is_label label) → P label None)
    → ((mark : List ℕ) → IsTrue (is_among (codes "(" ∷ codes "," ∷ codes ")" ∷ []) mark) → P mark None)
    → ((name : List ℕ) → IsTrue (is_variable name) → P (typed sort name) (Some name))
    → (piece : List ℕ) (name : Option (List ℕ)) → IsLeftPiece sort piece name → P piece name
left_by sort P label mark variable piece None kind = either_by (P piece None) (is_label piece) _ kind (label piece) (mark piece)
left_by sort P label mark variable piece (Some name) kind = subst (λ p. P p (Some name)) (sym kind.1) (variable name kind.0)

-- where no word stands, the piece is a mark
pub mark_left : (sort piece : List ℕ) (name : Option (List ℕ)) (pieces : List (List ℕ)) (text rest : List ℕ) → IsTrue (is_sort sort) → IsLeftPiece sort piece name
    → ((w : List ℕ) (ps : List (List ℕ)) (r : List ℕ) → IsTrue (is_word w) → Reads (w ∷ ps) text r → ⊥) → Reads (piece ∷ pieces) text rest
    → IsTrue (is_among (codes "(" ∷ codes "," ∷ codes ")" ∷ []) piece) × (None ≡ name)
mark_left sort piece name pieces text rest is kind none read =
    left_by sort (λ p n. Reads (p ∷ pieces) text rest → IsTrue (is_among (codes "(" ∷ codes "," ∷ codes ")" ∷ []) p) × (None ≡ n))
    (λ label h r. absurd (none label pieces rest (label_word label h) r))
    (λ mark h r. (h, refl))
    (λ v h r. absurd (none v (codes ":" ∷ sort ∷ pieces) rest (variable_word v h) (typed_parts sort v pieces text rest is r)))
    piece name kind read

-- where a word stands that is no variable, it is the piece
pub label_left : (sort piece w : List ℕ) (name : Option (List ℕ)) (pieces : List (List ℕ)) (text mid rest : List ℕ) → IsTrue (is_sort sort) → IsLeftPiece sort piece name
    → IsTrue (is_word w) → Reads (w ∷ []) text mid → is_variable w ≡ false
    → ((v : List ℕ) (ps : List (List ℕ)) (r : List ℕ) → IsTrue (is_word v) → Reads (v ∷ ps) text r → (Some w ≡ Some v) × Reads ps mid r) → Reads (piece ∷ pieces) text rest
    → (None ≡ name) × Reads pieces mid rest
label_left sort piece w name pieces text mid rest is kind word there other exact read =
    left_by sort (λ p n. Reads (p ∷ pieces) text rest → (None ≡ n) × Reads pieces mid rest)
    (λ label h r. (refl, (exact label pieces rest (label_word label h) r).1))
    (λ mark h r. absurd (no_mark w mark [] pieces text mid rest h word there r))
    (λ v h r.
    let both = exact v (codes ":" ∷ sort ∷ pieces) rest (variable_word v h) (typed_parts sort v pieces text rest is r) in
    let same : is_variable w ≡ is_variable v = (let e : w ≡ v = cc in ap is_variable e) in
    absurd (cc))
    piece name kind read

-- where a variable stands, the piece is that variable with its sort
pub variable_left : (sort piece w : List ℕ) (name : Option (List ℕ)) (pieces : List (List ℕ)) (text mid rest : List ℕ) → IsTrue (is_sort sort) → IsLeftPiece sort piece name
    → IsTrue (is_word w) → Reads (w ∷ []) text mid → is_variable w ≡ true
    → ((v : List ℕ) (ps : List (List ℕ)) (r : List ℕ) → IsTrue (is_word v) → Reads (v ∷ ps) text r → (Some w ≡ Some v) × Reads ps mid r) → Reads (piece ∷ pieces) text rest
    → (Some w ≡ name) × Reads (codes ":" ∷ sort ∷ pieces) mid rest
variable_left sort piece w name pieces text mid rest is kind word there variable exact read =
    left_by sort (λ p n. Reads (p ∷ pieces) text rest → (Some w ≡ n) × Reads (codes ":" ∷ sort ∷ pieces) mid rest)
    (λ label h r.
    let both = exact label pieces rest (label_word label h) r in
    let same : w ≡ label = cc in
    absurd (label_or_variable label h (subst (λ t. IsTrue (is_variable t)) same variable)))
    (λ mark h r. absurd (no_mark w mark [] pieces text mid rest h word there r))
    (λ v h r. exact v (codes ":" ∷ sort ∷ pieces) rest (variable_word v h) (typed_parts sort v pieces text rest is r))
    piece name kind read

-- ---- the steps of the scan

arrow_or_mark : (m : ℕ) (ps qs : List (List ℕ)) (text a b : List ℕ) → IsTrue (is_solid (m ∷ [])) → (61 ≡ m → ⊥)
    → Reads (codes "=>" ∷ ps) text a → Reads ((m ∷ []) ∷ qs) text b → ⊥
arrow_or_mark m ps qs text a b solid different arrow other =
    let front : codes "=>" ++ arrow.1 ≡ (m ∷ []) ++ other.1 = same_front (codes "=>") (m ∷ []) ps qs text a b refl solid arrow other in
    let head : 61 ≡ m = cc in
    different head

-- a piece of a left side is no arrow
arrow_left : (sort piece : List ℕ) (name : Option (List ℕ)) (ps qs : List (List ℕ)) (text a b : List ℕ) → IsTrue (is_sort sort) → IsLeftPiece sort piece name
    → Reads (codes "=>" ∷ ps) text a → Reads (piece ∷ qs) text b → ⊥
arrow_left sort piece name ps qs text a b is kind arrow read =
    left_by sort (λ p n. Reads (p ∷ qs) text b → ⊥)
    (λ label h r. word_or_other label 61 (62 ∷ []) r.1 arrow.1 refl (label_word label h)
    (same_front label (codes "=>") qs ps text b a (word_solid label (label_word label h)) refl r arrow))
    (λ mark h r. mark_by (λ m. Reads (m ∷ qs) text b → ⊥)
    (λ m. arrow_or_mark 40 ps qs text a b refl (λ e. absurd (omega arith)) arrow m) (λ m. arrow_or_mark 44 ps qs text a b refl (λ e. absurd (omega arith)) arrow m)
    (λ m. arrow_or_mark 41 ps qs text a b refl (λ e. absurd (omega arith)) arrow m) mark h r)
    (λ v h r.
    let three = typed_parts sort v qs text b is r in
    word_or_other v 61 (62 ∷ []) three.1 arrow.1 refl (variable_word v h)
    (same_front v (codes "=>") (codes ":" ∷ sort ∷ qs) ps text b a (word_solid v (variable_word v h)) refl three arrow))
    piece name kind read

ended : (sort : List ℕ) (done names pieces : List (List ℕ)) (text after rest : List ℕ) → IsTrue (is_sort sort) → Reads (codes "=>" ∷ []) text after
    → (todo left : List (List ℕ)) → names ≡ done ++ left → HasNames sort todo left → Reads (todo ++ codes "=>" ∷ pieces) text rest → done ≡ names
ended sort done names pieces text after rest is arrow [] left all named read = sym (all ∙ ap (λ t. done ++ t) named ∙ append-nil done)
ended sort done names pieces text after rest is arrow (p ∷ ps) left all named read =
    absurd (arrow_left sort p named.0 [] (ps ++ codes "=>" ∷ pieces) text after rest is named.2 arrow read)

goes_on : (sort : List ℕ) (done names pieces : List (List ℕ)) (text rest : List ℕ)
    → ((ps : List (List ℕ)) (r : List ℕ) → Reads (codes "=>" ∷ ps) text r → ⊥)
    → (todo left : List (List ℕ)) → names ≡ done ++ left → HasNames sort todo left → Reads (todo ++ codes "=>" ∷ pieces) text rest → HasPiece sort done names pieces text rest
goes_on sort done names pieces text rest none [] left all named read = absurd (none pieces rest read)
goes_on sort done names pieces text rest none (p ∷ ps) left all named read = record {
  piece = p;
  name = named.0;
  todo = ps;
  left = named.1;
  kind = named.2;
  is = all ∙ ap (λ t. done ++ t) named.3;
  named = named.4;
  read = read;
}

-- where the arrow is read, all names are found
pub scan_ends : (sort : List ℕ) (done names pieces : List (List ℕ)) (text after rest : List ℕ) → IsTrue (is_sort sort) → Reads (codes "=>" ∷ []) text after
    → IsScan sort done names pieces text rest → done ≡ names
scan_ends sort done names pieces text after rest is arrow s = ended sort done names pieces text after rest is arrow s.todo s.left s.is s.named s.read

-- where it is not, a piece stands
pub scan_goes : (sort : List ℕ) (done names pieces : List (List ℕ)) (text rest : List ℕ)
    → ((ps : List (List ℕ)) (r : List ℕ) → Reads (codes "=>" ∷ ps) text r → ⊥) → IsScan sort done names pieces text rest → HasPiece sort done names pieces text rest
scan_goes sort done names pieces text rest none s = goes_on sort done names pieces text rest none s.todo s.left s.is s.named s.read

pub scan_more : (sort : List ℕ) (done now names pieces : List (List ℕ)) (name : Option (List ℕ)) (todo left : List (List ℕ)) (text rest : List ℕ)
    → now ≡ done ++ option_to_list name → names ≡ done ++ (option_to_list name ++ left) → HasNames sort todo left → Reads (todo ++ codes "=>" ∷ pieces) text rest
    → IsScan sort now names pieces text rest
scan_more sort done now names pieces name todo left text rest grown is named read = record {
  todo = todo;
  left = left;
  is = is ∙ sym (append_assoc done (option_to_list name) left) ∙ ap (λ t. t ++ left) (sym grown);
  named = named;
  read = read;
}

pub one_more_name : (done now : List (List ℕ)) (name : Option (List ℕ)) → now ≡ done ++ option_to_list name → length now ≤ length done + 1
one_more_name done now None grown =
    let size : length now ≡ length done + 0 = ap length grown ∙ length-append done [] in
    omega arith
one_more_name done now (Some n) grown =
    let size : length now ≡ length done + 1 = ap length grown ∙ length-append done (n ∷ []) in
    omega arith
