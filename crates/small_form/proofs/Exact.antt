-- What is read is the one thing that can be read: steps of the readers over plain variables.
use Rattle.std.proofs.Common.{◌≡◌, ℕ, zero, suc, Bool, true, false, ◌&&◌, List, [], ◌∷◌, ◌++◌, map, length, refl, sym, ap, ◌∙◌, subst, append_assoc, ◌<◌, ◌+◌, get_or, arith, add-one, length-append}
use Rattle.std.specs.Prelude.{IsTrue, codes, not, ◌||◌}
use Rattle.std.specs.Option.{unwrap_or}
use Rattle.std.proofs.lemmas.Option.{slice_get-get_or}
use Rattle.std.proofs.lemmas.Bool.Decides.{nat_tests}
use Rattle.std.specs.List.{list_all, list_any}
use Rattle.std.specs.Cmp.Lexicographic.{bytes_decides}
use Rattle.std.proofs.lemmas.List.{append-nil, length-map}
use Rattle.std.proofs.lemmas.List.Folds.{list_all-append}
use Rattle.small_form.specs.declared.small.Production.{Production}
use Rattle.small_form.specs.Pieces.{is_blank, is_solid, is_capital, Reads}
use Rattle.small_form.specs.Small.{separated, at_number, same_text, is_among, are_different, begins_by, labels_of, comma_before, AreVariables}
use Rattle.small_form.proofs.Unique.{first_true, second_true}

-- ---- a list of items with commas between

-- items, each with its comma before, from a place on
abbrev pub marked : {X : Type 0} → (X → List (List ℕ)) → ℕ → List X → List (List ℕ)
marked f i [] = []
marked f i (x ∷ xs) = comma_before i ++ (f x ++ marked f (suc i) xs)

separated_marked : {X : Type 0} (f : X → List (List ℕ)) (x : X) (xs : List X) (i : ℕ) → separated (codes ",") (f x ∷ map f xs) ≡ f x ++ marked f (suc i) xs
separated_marked f x [] i = sym (append-nil (f x))
separated_marked f x (y ∷ ys) i = ap (λ t. f x ++ codes "," ∷ t) (separated_marked f y ys (suc i))

all_marked : {X : Type 0} (f : X → List (List ℕ)) (xs : List X) → separated (codes ",") (map f xs) ≡ marked f 0 xs
all_marked f [] = refl
all_marked f (x ∷ xs) = separated_marked f x xs 0

-- the items that are still to be read
pub record IsLeft {X : Type 0} (f : X → List (List ℕ)) (done all : List X) (place : ℕ) (pieces : List (List ℕ)) (text rest : List ℕ) : Type 0 where
  pub left : List X
  pub is : all ≡ done ++ left
  pub read : Reads (marked f place left ++ pieces) text rest

-- the next of them
pub record HasNext {X : Type 0} (f : X → List (List ℕ)) (done all : List X) (place : ℕ) (pieces : List (List ℕ)) (text rest : List ℕ) : Type 0 where
  pub item : X
  pub left : List X
  pub is : all ≡ done ++ item ∷ left
  pub read : Reads (comma_before place ++ (f item ++ (marked f (place + 1) left ++ pieces))) text rest

pub all_left : {X : Type 0} (f : X → List (List ℕ)) (done all : List X) (pieces : List (List ℕ)) (text rest : List ℕ) → done ≡ []
    → Reads (separated (codes ",") (map f all) ++ pieces) text rest → IsLeft f done all 0 pieces text rest
all_left f done all pieces text rest none read = record {
  left = all;
  is = ap (λ t. t ++ all) (sym none);
  read = subst (λ t. Reads (t ++ pieces) text rest) (all_marked f all) read;
}

next_read : {X : Type 0} (f : X → List (List ℕ)) (done all : List X) (place count : ℕ) (pieces : List (List ℕ)) (text rest : List ℕ)
    → length done ≡ place → place < count → length all ≡ count → (left : List X) → all ≡ done ++ left → Reads (marked f place left ++ pieces) text rest
    → HasNext f done all place pieces text rest
next_read f done all place count pieces text rest so_far more whole [] is read =
    let size : length all ≡ length done = ap length (is ∙ append-nil done) in
    absurd (omega arith)
next_read f done all place count pieces text rest so_far more whole (x ∷ xs) is read =
    let grouped : (comma_before place ++ (f x ++ marked f (suc place) xs)) ++ pieces ≡ comma_before place ++ (f x ++ (marked f (suc place) xs ++ pieces)) =
    append_assoc (comma_before place) (f x ++ marked f (suc place) xs) pieces ∙ ap (λ t. comma_before place ++ t) (append_assoc (f x) (marked f (suc place) xs) pieces) in
    record {
      item = x;
      left = xs;
      is = is;
      read = subst (λ n. Reads (comma_before place ++ (f x ++ (marked f n xs ++ pieces))) text rest) (sym (add-one place)) (subst (λ t. Reads t text rest) grouped read);
    }

pub next_of : {X : Type 0} (f : X → List (List ℕ)) (done all : List X) (place count : ℕ) (pieces : List (List ℕ)) (text rest : List ℕ)
    → length done ≡ place → place < count → length all ≡ count → IsLeft f done all place pieces text rest → HasNext f done all place pieces text rest
next_of f done all place count pieces text rest so_far more whole l = next_read f done all place count pieces text rest so_far more whole l.left l.is l.read

-- after the next one
pub left_more : {X : Type 0} (f : X → List (List ℕ)) (done all now : List X) (place : ℕ) (item : X) (left : List X) (pieces : List (List ℕ)) (text rest : List ℕ)
    → now ≡ done ++ item ∷ [] → all ≡ done ++ item ∷ left → Reads (marked f (place + 1) left ++ pieces) text rest → IsLeft f now all (place + 1) pieces text rest
left_more f done all now place item left pieces text rest grown is read = record {
  left = left;
  is = is ∙ sym (append_assoc done (item ∷ []) left) ∙ ap (λ t. t ++ left) (sym grown);
  read = read;
}

none_read : {X : Type 0} (f : X → List (List ℕ)) (done all : List X) (place : ℕ) (pieces : List (List ℕ)) (text rest : List ℕ)
    → length done ≡ length all → (left : List X) → all ≡ done ++ left → Reads (marked f place left ++ pieces) text rest → (done ≡ all) × Reads pieces text rest
none_read f done all place pieces text rest so_far [] is read = (sym (is ∙ append-nil done), read)
none_read f done all place pieces text rest so_far (x ∷ xs) is read =
    let size : length all ≡ length done + length (x ∷ xs) = ap length is ∙ length-append done (x ∷ xs) in
    absurd (omega arith)

-- all are read
pub none_left : {X : Type 0} (f : X → List (List ℕ)) (done all : List X) (place : ℕ) (pieces : List (List ℕ)) (text rest : List ℕ)
    → length done ≡ length all → IsLeft f done all place pieces text rest → (done ≡ all) × Reads pieces text rest
none_left f done all place pieces text rest so_far l = none_read f done all place pieces text rest so_far l.left l.is l.read

pub one_of_all : {X : Type 0} (p : X → Bool) (done all : List X) (item : X) (left : List X) → all ≡ done ++ item ∷ left → IsTrue (list_all p all) → IsTrue (p item)
one_of_all p done all item left is holds =
    first_true (p item) _ (second_true (list_all p done) _ (sym (list_all-append p done (item ∷ left)) ∙ ap (list_all p) (sym is) ∙ holds))

-- ---- texts that differ

either : (a b : Bool) → IsTrue a → IsTrue (a || b)
either true b h = refl
either false b h = cc

or_else : (a b : Bool) → IsTrue b → IsTrue (a || b)
or_else true b h = refl
or_else false b h = h

not_and_so : (a b : Bool) → IsTrue (not a && b) → IsTrue a → ⊥
not_and_so true b h so = cc
not_and_so false b h so = cc

any_at : (p : List ℕ → Bool) (ts : List (List ℕ)) (i : ℕ) → i < length ts → IsTrue (p (at_number ts i)) → IsTrue (list_any p ts)
any_at p [] i within h = absurd (omega arith)
any_at p (t ∷ ts) zero within h = either (p t) _ h
any_at p (t ∷ ts) (suc i) within h = or_else (p t) _ (any_at p ts i (omega arith) h)

same_texts : (a b : List ℕ) → a ≡ b → IsTrue (same_text a b)
same_texts a b e = (bytes_decides a b).1 e

-- in a list of different texts a text has one place
pub same_place : (ts : List (List ℕ)) (i j : ℕ) → IsTrue (are_different ts) → i < length ts → j < length ts → at_number ts i ≡ at_number ts j → i ≡ j
same_place [] i j different one other e = absurd (omega arith)
same_place (t ∷ ts) zero zero different one other e = refl
same_place (t ∷ ts) zero (suc j) different one other e =
    absurd (not_and_so (is_among ts t) _ different (any_at (same_text t) ts j (omega arith) (same_texts t (at_number ts j) e)))
same_place (t ∷ ts) (suc i) zero different one other e =
    absurd (not_and_so (is_among ts t) _ different (any_at (same_text t) ts i (omega arith) (same_texts t (at_number ts i) (sym e))))
same_place (t ∷ ts) (suc i) (suc j) different one other e = ap suc (same_place ts i j (second_true (not (is_among ts t)) _ different) (omega arith) (omega arith) e)

pub same_label : (productions : List Production) (i j : ℕ) (label : List ℕ) → IsTrue (are_different (labels_of productions)) → i < length productions → j < length productions
    → at_number (labels_of productions) i ≡ label → at_number (labels_of productions) j ≡ label → i ≡ j
same_label productions i j label different one other here there =
    let count : length (labels_of productions) ≡ length productions = length-map productions (λ (p : Production). p.label) in
    same_place (labels_of productions) i j different (omega arith) (omega arith) (here ∙ sym there)

-- ---- variables

pub all_at : (p : List ℕ → Bool) (ts : List (List ℕ)) (i : ℕ) → i < length ts → IsTrue (list_all p ts) → IsTrue (p (at_number ts i))
all_at p [] i within h = absurd (omega arith)
all_at p (t ∷ ts) zero within h = first_true (p t) _ h
all_at p (t ∷ ts) (suc i) within h = all_at p ts i (omega arith) (second_true (p t) _ h)

pub text_at : (texts : List (List ℕ)) (i : ℕ) (text : List ℕ) → i < length texts → text ≡ get_or texts i text → at_number texts i ≡ text
text_at texts i text within is = ap (λ o. unwrap_or o []) (slice_get-get_or texts i text within) ∙ sym is

capital_solid : (b : ℕ) → IsTrue (is_capital b) → IsTrue (not (is_blank b))
capital_solid b h = grind (arith, nat_tests)

begins_solid : (w : List ℕ) → IsTrue (begins_by is_capital w) → IsTrue (is_solid w)
begins_solid [] h = h
begins_solid (b ∷ bs) h = capital_solid b h

-- a variable is a solid piece
pub variable_solid : (variables : List (List ℕ)) (i : ℕ) → AreVariables variables → i < length variables → IsTrue (is_solid (at_number variables i))
variable_solid variables i v within = begins_solid (at_number variables i) (all_at (begins_by is_capital) variables i within v.capitals)

-- the first piece alone
pub first_read : (piece : List ℕ) (pieces : List (List ℕ)) (text rest : List ℕ) → (read : Reads (piece ∷ pieces) text rest) → Reads (piece ∷ []) text read.1
first_read piece pieces text rest read = (read.0, read.1, read.2, read.3, read.4, refl)

-- the variable that is read is the one
pub one_variable : (variables : List (List ℕ)) (i x : ℕ) (pieces : List (List ℕ)) (text after rest : List ℕ) → AreVariables variables
    → i < length variables → x < length variables → Reads (at_number variables i ∷ []) text after → Reads (at_number variables x ∷ pieces) text rest → i ≡ x
one_variable variables i x pieces text after rest v within known one other =
    v.apart i x text after other.1 within known one (first_read (at_number variables x) pieces text rest other)

pub comma_later : (place : ℕ) → 0 < place → comma_before place ≡ codes "," ∷ []
comma_later zero h = absurd (omega arith)
comma_later (suc place) h = refl
