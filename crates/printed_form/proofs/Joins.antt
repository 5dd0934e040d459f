-- One more text in a joined text.
use Rattle.std.proofs.Common.{◌≡◌, ℕ, suc, ◌+◌, ◌<◌, ◌==◌, cond, List, [], ◌∷◌, ◌++◌, map, length, take, get_or, sym, ap, ◌∙◌, append_assoc, arith}
use Prim.Native.Nat.compare
use Rattle.std.specs.Prelude.{Result, OnOk}
use Rattle.std.proofs.lemmas.List.{take_more, append-nil, map-append, length-map, length-take-le}
use Rattle.std.proofs.lemmas.Grind.{flat_map-append}
use Rattle.std.proofs.lemmas.Result.{IfOk-equal}
use Rattle.printed_form.specs.Pieces.{each_after, joined_by}

pub each_after-push : (separator : List ℕ) (texts : List (List ℕ)) (text : List ℕ) → each_after separator (texts ++ text ∷ []) ≡ each_after separator texts ++ (separator ++ text)
each_after-push separator texts text = flat_map-append _ texts (text ∷ []) ∙ ap (λ more. each_after separator texts ++ more) (append-nil (separator ++ text))

-- what stands before the text at this place
abbrev pub before_text : ℕ → List ℕ → List ℕ
before_text place separator = cond (place == 0) [] separator

before_text-suc : (n : ℕ) (separator : List ℕ) → before_text (suc n) separator ≡ separator
before_text-suc n separator = simp compare.suc-zero

pub joined_by-push : (separator : List ℕ) (texts : List (List ℕ)) (text : List ℕ) → joined_by separator (texts ++ text ∷ []) ≡ joined_by separator texts ++ (before_text (length texts) separator ++ text)
joined_by-push separator [] text = append-nil text
joined_by-push separator (first ∷ texts) text =
    ap (λ more. first ++ more) (each_after-push separator texts text) ∙ sym (append_assoc first _ _) ∙ ap (λ s. first ++ each_after separator texts ++ (s ++ text)) (sym (before_text-suc (length texts) separator))

pub joined_by-more : {A : Type 0} (f : A → List ℕ) (separator : List ℕ) (xs : List A) (i : ℕ) (x : A) → i < length xs → x ≡ get_or xs i x → joined_by separator (map f (take (i + 1) xs)) ≡ joined_by separator (map f (take i xs)) ++ (before_text i separator ++ f x)
joined_by-more f separator xs i x h is =
    let front : List (List ℕ) = map f (take i xs) in
    ap (λ ys. joined_by separator (map f ys)) (take_more xs i x h) ∙ ap (joined_by separator) (map-append f (take i xs) (get_or xs i x ∷ [])) ∙ joined_by-push separator front (f (get_or xs i x))
    ∙ ap (λ n. joined_by separator front ++ (before_text n separator ++ f (get_or xs i x))) (length-map (take i xs) f ∙ length-take-le i xs (omega arith))
    ∙ ap (λ y. joined_by separator front ++ (before_text i separator ++ f y)) (sym is)

-- a loop's step: a separator, but not before the first, and the text
pub joined_step : {A : Type 0} (f : A → List ℕ) (separator : List ℕ) (xs : List A) (i : ℕ) (x : A) (old before between after : List ℕ) → i < length xs → x ≡ get_or xs i x → before ≡ old ++ joined_by separator (map f (take i xs)) → between ≡ before ++ before_text i separator → after ≡ between ++ f x → after ≡ old ++ joined_by separator (map f (take (i + 1) xs))
joined_step f separator xs i x old before between after h is p q r =
    let front : List ℕ = joined_by separator (map f (take i xs)) in
    r ∙ ap (λ ys. ys ++ f x) (q ∙ ap (λ ys. ys ++ before_text i separator) p) ∙ append_assoc (old ++ front) (before_text i separator) (f x) ∙ append_assoc old front (before_text i separator ++ f x)
    ∙ ap (λ ys. old ++ ys) (sym (joined_by-more f separator xs i x h is))

-- ---- what a call appended

pub appended : {R E : Type 0} (r : Result R E) (new old t u : List ℕ) → OnOk r (new ≡ old ++ t) → t ≡ u → OnOk r (new ≡ old ++ u)
appended r new old t u h e = IfOk-equal r new (old ++ t) (old ++ u) h (ap (λ s. old ++ s) e)

pub appended_next : {R E : Type 0} (r : Result R E) (new mid old s t u : List ℕ) → mid ≡ old ++ s → OnOk r (new ≡ mid ++ t) → s ++ t ≡ u → OnOk r (new ≡ old ++ u)
appended_next r new mid old s t u p h e = IfOk-equal r new (mid ++ t) (old ++ u) h (ap (λ ys. ys ++ t) p ∙ append_assoc old s t ∙ ap (λ ys. old ++ ys) e)

pub three_appended : (a b c d x y z : List ℕ) → b ≡ a ++ x → c ≡ b ++ y → d ≡ c ++ z → d ≡ a ++ (x ++ y ++ z)
three_appended a b c d x y z p q r = r ∙ ap (λ ys. ys ++ z) (q ∙ ap (λ ys. ys ++ y) p) ∙ simp append_assoc
