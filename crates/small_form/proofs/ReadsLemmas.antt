-- How pieces that are read one after another are read together.
use Rattle.std.proofs.Common.{◌≡◌, ℕ, List, [], ◌∷◌, ◌++◌, take, drop, length, refl, sym, ap, ◌∙◌, subst, append_assoc, true, nat_eq, ◌<◌, ◌+◌, arith, map, zero, suc, add-one}
use Rattle.std.specs.Prelude.{IsTrue, codes, replicate}
use Rattle.std.specs.List.{AllByRecursion}
use Rattle.small_form.specs.declared.small.SmallRule.{SmallRule}
use Rattle.std.proofs.lemmas.List.{append-nil}
use Rattle.std.specs.List.{list_all}
use Rattle.std.specs.Cmp.Lexicographic.{pointwise, bytes_decides}
use Rattle.std.proofs.lemmas.List.{take-append-drop}
use Rattle.std.proofs.lemmas.List.{map-append}
use Rattle.small_form.specs.Pieces.{is_blank, is_apart, Reads}
use Rattle.small_form.specs.Small.{separated, applied, rule_pieces, rules_pieces}

-- blanks, a piece, and what is left
pub reads_piece : (text piece after : List ℕ) (n : ℕ)
    → drop n text ≡ piece ++ after → IsTrue (list_all is_blank (take n text)) → IsTrue (is_apart piece after) → Reads (piece ∷ []) text after
reads_piece text piece after n front blanks apart =
    (take n text, after, sym (take-append-drop n text) ∙ ap (λ t. take n text ++ t) front, blanks, apart, refl)

-- one after the other
pub Reads-append : (ps qs : List (List ℕ)) (a b c : List ℕ) → Reads ps a b → Reads qs b c → Reads (ps ++ qs) a c
Reads-append [] qs a b c first second = subst (λ t. Reads qs t c) (sym first) second
Reads-append (p ∷ ps) qs a b c first second =
    (first.0, first.1, first.2, first.3, first.4, Reads-append ps qs first.1 b c first.5 second)

-- a text that begins with a piece
pub front_is : (text piece after : List ℕ) → pointwise nat_eq (take (length piece) text) piece ≡ true → after ≡ drop (length piece) text → text ≡ piece ++ after
front_is text piece after same rest =
    sym (take-append-drop (length piece) text) ∙ (λ i. (bytes_decides (take (length piece) text) piece).0 same i ++ sym rest i)

-- a label, an opening parenthesis, the arguments and a closing one
pub reads_applied : (label : List ℕ) (arguments : List (List (List ℕ))) (a b c d e : List ℕ)
    → Reads (label ∷ []) a b → Reads (codes "(" ∷ []) b c → Reads (separated (codes ",") arguments) c d → Reads (codes ")" ∷ []) d e
    → Reads (applied label arguments) a e
reads_applied label arguments a b c d e name opening inner closing =
    Reads-append (label ∷ codes "(" ∷ separated (codes ",") arguments) (codes ")" ∷ []) a d e
    (Reads-append (label ∷ []) (codes "(" ∷ separated (codes ",") arguments) a b d name
    (Reads-append (codes "(" ∷ []) (separated (codes ",") arguments) b c d opening inner))
    closing

-- one more argument, after a comma where there are others
pub separated-more : (mark : List ℕ) (x : List (List ℕ)) (xs : List (List (List ℕ))) (y : List (List ℕ))
    → separated mark ((x ∷ xs) ++ y ∷ []) ≡ separated mark (x ∷ xs) ++ mark ∷ y
separated-more mark x [] y = refl
separated-more mark x (w ∷ xs) y =
    ap (λ t. x ++ mark ∷ t) (separated-more mark w xs y) ∙ sym (append_assoc x (mark ∷ separated mark (w ∷ xs)) (mark ∷ y))

pub reads_more : {X : Type 0} (f : X → List (List ℕ)) (mark : List ℕ) (xs : List X) (y : X) (a b c e : List ℕ) (i : ℕ)
    → length xs ≡ i → Reads (separated mark (map f xs)) a b → (i ≡ 0 → c ≡ b) → (0 < i → Reads (mark ∷ []) b c) → Reads (f y) c e
    → Reads (separated mark (map f (xs ++ y ∷ []))) a e
reads_more f mark [] y a b c e i count before first later next =
    subst (λ t. Reads (f y) t e) (first (sym count) ∙ sym before) next
reads_more f mark (x ∷ xs) y a b c e i count before first later next =
    let some : 0 < i = omega arith in
    let pieces : separated mark (map f ((x ∷ xs) ++ y ∷ [])) ≡ separated mark (f x ∷ map f xs) ++ mark ∷ f y =
    ap (λ t. separated mark (f x ∷ t)) (map-append f xs (y ∷ [])) ∙ separated-more mark (f x) (map f xs) (f y) in
    subst (λ ps. Reads ps a e) (sym pieces)
    (Reads-append (separated mark (f x ∷ map f xs)) (mark ∷ f y) a b e before
    (Reads-append (mark ∷ []) (f y) b c e (later some) next))

-- a rule: its word, its left side, the arrow and its right side
pub reads_rule : (word arrow : List ℕ) (left right : List (List ℕ)) (a b c d e : List ℕ)
    → Reads (word ∷ []) a b → Reads left b c → Reads (arrow ∷ []) c d → Reads right d e → Reads (word ∷ left ++ arrow ∷ right) a e
reads_rule word arrow left right a b c d e first second third fourth =
    Reads-append (word ∷ left) (arrow ∷ right) a c e (Reads-append (word ∷ []) left a b c first second) (Reads-append (arrow ∷ []) right c d e third fourth)

replicate_more : {X : Type 0} (n : ℕ) (x : X) → replicate (suc n) x ≡ replicate n x ++ x ∷ []
replicate_more zero x = refl
replicate_more (suc n) x = ap (λ t. x ∷ t) (replicate_more n x)

-- one more sort of a production
pub reads_sort : (sort : List ℕ) (count : ℕ) (a b e : List ℕ)
    → Reads (separated (codes ",") (replicate count (sort ∷ []))) a b
    → (count ≡ 0 → Reads (sort ∷ []) b e) → (0 < count → Reads (codes "," ∷ sort ∷ []) b e)
    → Reads (separated (codes ",") (replicate (count + 1) (sort ∷ []))) a e
reads_sort sort zero a b e before first later =
    rw (add-one zero) (subst (λ t. Reads (sort ∷ []) t e) (sym before) (first refl))
reads_sort sort (suc n) a b e before first later =
    let pieces : separated (codes ",") (replicate (suc n + 1) (sort ∷ [])) ≡ separated (codes ",") (replicate (suc n) (sort ∷ [])) ++ codes "," ∷ sort ∷ [] =
    ap (λ m. separated (codes ",") (replicate m (sort ∷ []))) (add-one (suc n))
    ∙ ap (separated (codes ",")) (replicate_more (suc n) (sort ∷ []))
    ∙ separated-more (codes ",") (sort ∷ []) (replicate n (sort ∷ [])) (sort ∷ []) in
    subst (λ ps. Reads ps a e) (sym pieces)
    (Reads-append (separated (codes ",") (replicate (suc n) (sort ∷ []))) (codes "," ∷ sort ∷ []) a b e before (later (omega arith)))

-- one more rule
pub rules_pieces-append : (labels : List (List ℕ)) (sort : List ℕ) (rs : List SmallRule) (r : SmallRule)
    → rules_pieces labels sort (rs ++ r ∷ []) ≡ rules_pieces labels sort rs ++ rule_pieces labels sort r
rules_pieces-append labels sort [] r = append-nil (rule_pieces labels sort r)
rules_pieces-append labels sort (q ∷ rs) r =
    ap (λ t. rule_pieces labels sort q ++ t) (rules_pieces-append labels sort rs r)
    ∙ sym (append_assoc (rule_pieces labels sort q) (rules_pieces labels sort rs) (rule_pieces labels sort r))

pub each_more : {X : Type 0} (P : X → Type 0) (xs : List X) (y : X) → AllByRecursion P xs → P y → AllByRecursion P (xs ++ y ∷ [])
each_more P [] y all last = (last, tt)
each_more P (x ∷ xs) y all last = (all.0, each_more P xs y all.1 last)

-- a production: its label, an opening parenthesis, and its sorts up to the closing one
pub reads_production : (label : List ℕ) (inner : List (List ℕ)) (a b c e : List ℕ)
    → Reads (label ∷ []) a b → Reads (codes "(" ∷ []) b c → Reads (inner ++ codes ")" ∷ []) c e
    → Reads (label ∷ codes "(" ∷ inner ++ codes ")" ∷ []) a e
reads_production label inner a b c e name opening rest =
    Reads-append (label ∷ []) (codes "(" ∷ inner ++ codes ")" ∷ []) a b e name (Reads-append (codes "(" ∷ []) (inner ++ codes ")" ∷ []) b c e opening rest)

-- four pieces
pub reads_four : (p q r s : List ℕ) (a b c d e : List ℕ)
    → Reads (p ∷ []) a b → Reads (q ∷ []) b c → Reads (r ∷ []) c d → Reads (s ∷ []) d e → Reads (p ∷ q ∷ r ∷ s ∷ []) a e
reads_four p q r s a b c d e first second third fourth =
    Reads-append (p ∷ []) (q ∷ r ∷ s ∷ []) a b e first
    (Reads-append (q ∷ []) (r ∷ s ∷ []) b c e second (Reads-append (r ∷ []) (s ∷ []) c d e third fourth))
