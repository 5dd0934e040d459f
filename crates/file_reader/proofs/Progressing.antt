-- How the modules of a file are read one after another.
use Rattle.std.proofs.Common.{◌≡◌, ℕ, Bool, true, false, ◌||◌, ◌&&◌, List, [], ◌∷◌, ◌++◌, refl, sym, ap, ◌∙◌, append_assoc, append-nil}
use Rattle.std.specs.Prelude.{not}
use Rattle.std.specs.Cmp.Lexicographic.{bytes_decides}
use Rattle.production_reader.specs.Allowed.{same_text, is_among}
use Rattle.file_reader.specs.Written.{Sentence, Module, signs_of_module, signs_of_modules}
use Rattle.file_reader.specs.Files.{Context, AreSentences, AreModules, after, after_all, are_different}
use Rattle.file_reader.specs.Reads.{SameHad}
use Rattle.file_reader.specs.Progress.{after_modules}
use Rattle.file_reader.proofs.Heads.{no_true}
use Rattle.file_reader.proofs.Embodied.{after_same, sentence_same}

-- one more module
pub modules_join : (c : Context) (xs ys : List Module) → AreModules c xs → AreModules (after_modules c xs) ys → AreModules c (xs ++ ys)
modules_join c [] ys one other = other
modules_join c (x ∷ xs) ys one other = (one.0, modules_join (after_all c x.sentences) xs ys one.1 other)

pub modules_rest : (c : Context) (xs ys : List Module) → AreModules c (xs ++ ys) → AreModules (after_modules c xs) ys
modules_rest c [] ys are = are
modules_rest c (x ∷ xs) ys are = modules_rest (after_all c x.sentences) xs ys are.1

pub after_modules-more : (c : Context) (xs : List Module) (one : Module) → after_modules c (xs ++ one ∷ []) ≡ after_all (after_modules c xs) one.sentences
after_modules-more c [] one = refl
after_modules-more c (x ∷ xs) one = after_modules-more (after_all c x.sentences) xs one

pub signs_of_modules-append : (xs ys : List Module) → signs_of_modules (xs ++ ys) ≡ signs_of_modules xs ++ signs_of_modules ys
signs_of_modules-append [] ys = refl
signs_of_modules-append (x ∷ xs) ys = ap (λ t. signs_of_module x ++ t) (signs_of_modules-append xs ys) ∙ sym (append_assoc (signs_of_module x) (signs_of_modules xs) (signs_of_modules ys))

pub one_module : (one : Module) → signs_of_modules (one ∷ []) ≡ signs_of_module one
one_module one = append-nil (signs_of_module one)

pub all_same : (one other : Context) (xs : List Sentence) → SameHad one other → SameHad (after_all one xs) (after_all other xs)
all_same one other [] same = same
all_same one other (x ∷ xs) same = all_same (after one x) (after other x) xs (after_same one other x same)

pub sentences_same : (one other : Context) (xs : List Sentence) → SameHad one other → AreSentences one xs → AreSentences other xs
sentences_same one other [] same are = tt
sentences_same one other (x ∷ xs) same are = (sentence_same one other x same are.0, sentences_same (after one x) (after other x) xs (after_same one other x same) are.1)

-- names that differ
or_false_left : (a b : Bool) → (a || b) ≡ false → a ≡ false
or_false_left true b is = is
or_false_left false b is = refl

or_false_right : (a b : Bool) → (a || b) ≡ false → b ≡ false
or_false_right true b is = absurd (no_true (sym is))
or_false_right false b is = is

or_false : (a b : Bool) → a ≡ false → b ≡ false → (a || b) ≡ false
or_false a b x y = λ i. x i || y i

or_true_right : (a b : Bool) → b ≡ true → (a || b) ≡ true
or_true_right true b is = refl
or_true_right false b is = is

and_left : (a b : Bool) → (a && b) ≡ true → a ≡ true
and_left true b is = refl
and_left false b is = is

and_right : (a b : Bool) → (a && b) ≡ true → b ≡ true
and_right true b is = is
and_right false b is = absurd (no_true is)

not_false : (b : Bool) → not b ≡ true → b ≡ false
not_false true is = absurd (no_true is)
not_false false is = refl

decided : (b : Bool) → (b ≡ true → ⊥) → b ≡ false
decided true none = absurd (none refl)
decided false none = refl

apart_turn : (a b : List ℕ) → same_text a b ≡ false → same_text b a ≡ false
apart_turn a b apart = decided (same_text b a) (λ is. no_true (sym apart ∙ (bytes_decides a b).1 (sym ((bytes_decides b a).0 is))))

among_end : (ns : List (List ℕ)) (n a : List ℕ) → is_among ns a ≡ false → same_text a n ≡ false → is_among (ns ++ n ∷ []) a ≡ false
among_end [] n a none apart = or_false (same_text a n) false apart refl
among_end (m ∷ ns) n a none apart =
    or_false (same_text a m) (is_among (ns ++ n ∷ []) a) (or_false_left (same_text a m) (is_among ns a) none) (among_end ns n a (or_false_right (same_text a m) (is_among ns a) none) apart)

pub among_middle : (front bs : List (List ℕ)) (n a : List ℕ) → n ≡ a → is_among (front ++ n ∷ bs) a ≡ true
among_middle [] bs n a same = (λ i. same_text a (same i) || is_among bs a) ∙ ap (λ t. t || is_among bs a) ((bytes_decides a a).1 refl)
among_middle (m ∷ front) bs n a same = or_true_right (same_text a m) (is_among (front ++ n ∷ bs) a) (among_middle front bs n a same)

pub different_more : (ns : List (List ℕ)) (n : List ℕ) → are_different ns ≡ true → is_among ns n ≡ false → are_different (ns ++ n ∷ []) ≡ true
different_more [] n different none = refl
different_more (a ∷ ns) n different none =
    let apart : same_text a n ≡ false = apart_turn n a (or_false_left (same_text n a) (is_among ns n) none) in
    let free : is_among ns a ≡ false = not_false (is_among ns a) (and_left (not (is_among ns a)) (are_different ns) different) in
    (λ i. not (among_end ns n a free apart i) && different_more ns n (and_right (not (is_among ns a)) (are_different ns) different) (or_false_right (same_text n a) (is_among ns n) none) i)

front_by : (a : List ℕ) (front bs : List (List ℕ)) (n : List ℕ) → are_different (a ∷ front ++ n ∷ bs) ≡ true → (are_different (front ++ n ∷ bs) ≡ true → is_among front n ≡ true → ⊥)
    → (b : Bool) → same_text n a ≡ b → (b || is_among front n) ≡ true → ⊥
front_by a front bs n different later true same among =
    no_true (sym (not_false (is_among (front ++ n ∷ bs) a) (and_left (not (is_among (front ++ n ∷ bs) a)) (are_different (front ++ n ∷ bs)) different))
    ∙ among_middle front bs n a ((bytes_decides n a).0 same))
front_by a front bs n different later false same among = later (and_right (not (is_among (front ++ n ∷ bs) a)) (are_different (front ++ n ∷ bs)) different) among

pub different_front : (front bs : List (List ℕ)) (n : List ℕ) → are_different (front ++ n ∷ bs) ≡ true → is_among front n ≡ true → ⊥
different_front [] bs n different among = no_true among
different_front (a ∷ front) bs n different among = front_by a front bs n different (different_front front bs n) (same_text n a) refl among
