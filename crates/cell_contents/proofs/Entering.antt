-- Entries by rising keys.
use Rattle.std.proofs.Common.{◌≡◌, ℕ, suc, ◌+◌, ◌<◌, ◌≤◌, Bool, true, false, cond, List, [], ◌∷◌, ◌++◌, length, get_or, drop, Option, Some, None, refl, sym, ap, ◌∙◌, subst, arith, length-append, drop-cons}
use Rattle.std.specs.Prelude.{is_some}
use Rattle.std.specs.List.{insert}
use Rattle.std.specs.Option.{option_and_then}
use Rattle.std.specs.Ordering.{is_eq}
use Rattle.std.specs.declared.cmp.Ordering.{Ordering}
use Rattle.std.specs.declared.cmp.Ordering.TheVariants.{Less, Equal, Greater}
use Rattle.std.specs.FinMap.{find, put}
use Rattle.std.specs.FinMap.Entries.{by_order}
use Rattle.k_terms.specs.Value.{value_cmp}
use Rattle.k_terms.specs.declared.value.Value.{Value}
use Rattle.rule_terms.specs.Fill.{put_new}
use Rattle.cell_contents.specs.Choices.{in_turn, place_in}

abbrev Entry : Type 0
Entry = Value × Value

rest_of : (es : List Entry) (i : ℕ) (d : Entry) → i < length es → drop i es ≡ get_or es i d ∷ drop (i + 1) es
rest_of es i d less =
    let one : suc i ≡ i + 1 = omega arith in
    drop-cons es i d less ∙ ap (λ n. get_or es i d ∷ drop n es) one

-- ---- whether a key is there

abbrev found_by : Ordering → Entry → Option Value → Option Value
found_by o entry more = cond (is_eq o) (Some entry.1) more

pub has_here : (key : Value) (es : List Entry) (i : ℕ) (d : Entry) → i < length es → value_cmp key (get_or es i d).0 ≡ Equal → find value_cmp key (drop i es) ≡ Some (get_or es i d).1
has_here key es i d less same = ap (find value_cmp key) (rest_of es i d less) ∙ ap (λ o. found_by o (get_or es i d) (find value_cmp key (drop (i + 1) es))) same

pub has_later : (key : Value) (es : List Entry) (i : ℕ) (d : Entry) (o : Ordering) → i < length es → value_cmp key (get_or es i d).0 ≡ o → is_eq o ≡ false → find value_cmp key (drop i es) ≡ find value_cmp key (drop (i + 1) es)
has_later key es i d o less same other =
    ap (find value_cmp key) (rest_of es i d less)
    ∙ ap (λ o. found_by o (get_or es i d) (find value_cmp key (drop (i + 1) es))) same
    ∙ ap (λ b. cond b (Some (get_or es i d).1) (find value_cmp key (drop (i + 1) es))) other

-- ---- the place of a new key

pub place_here : (key : Value) (es : List Entry) (i : ℕ) (d : Entry) → i < length es → value_cmp key (get_or es i d).0 ≡ Less → place_in key (drop i es) ≡ 0
place_here key es i d less same =
    ap (place_in key) (rest_of es i d less) ∙ ap (λ o. by_order o 0 (suc (place_in key (drop (i + 1) es))) (suc (place_in key (drop (i + 1) es)))) same

later : (o : Ordering) (n : ℕ) → (o ≡ Less → ⊥) → by_order o 0 (suc n) (suc n) ≡ suc n
later Less n other = absurd (other refl)
later Equal n other = refl
later Greater n other = refl

pub place_later : (key : Value) (es : List Entry) (i : ℕ) (d : Entry) → i < length es → (value_cmp key (get_or es i d).0 ≡ Less → ⊥) → place_in key (drop i es) ≡ suc (place_in key (drop (i + 1) es))
place_later key es i d less other = ap (place_in key) (rest_of es i d less) ∙ later (value_cmp key (get_or es i d).0) (place_in key (drop (i + 1) es)) other

order_within : (o : Ordering) (n m : ℕ) → n ≤ m → by_order o 0 (suc n) (suc n) ≤ suc m
order_within Less n m within = omega arith
order_within Equal n m within = omega (arith, within)
order_within Greater n m within = omega (arith, within)

pub place_within : (key : Value) (es : List Entry) → place_in key es ≤ length es
place_within key [] = omega arith
place_within key (e ∷ es) = order_within (value_cmp key e.0) (place_in key es) (length es) (place_within key es)

abbrev Holds : Bool → Type 0
Holds true = Unit {0}
Holds false = ⊥

some_not_none : {X : Type 0} (x : X) → Some x ≡ None → ⊥
some_not_none x e = subst Holds (ap is_some e) tt

cond_none : {X : Type 0} (b : Bool) (x : X) (rest : Option X) → cond b (Some x) rest ≡ None → (b ≡ false) × (rest ≡ None)
cond_none true x rest e = absurd (some_not_none x e)
cond_none false x rest e = (refl, e)

put_step : (o : Ordering) (entry new : Entry) (es rest : List Entry) (n : ℕ) → is_eq o ≡ false → insert es n new ≡ rest
    → insert (entry ∷ es) (by_order o 0 (suc n) (suc n)) new ≡ by_order o (new ∷ entry ∷ es) ((entry.0, new.1) ∷ es) (entry ∷ rest)
put_step Less entry new es rest n other e = refl
put_step Equal entry new es rest n other e = absurd (subst Holds other tt)
put_step Greater entry new es rest n other e = ap (λ xs. entry ∷ xs) e

pub put_at : (key value : Value) (es : List Entry) → find value_cmp key es ≡ None → insert es (place_in key es) (key, value) ≡ put value_cmp key value es
put_at key value [] none = refl
put_at key value (e ∷ es) none =
    let parts = cond_none (is_eq (value_cmp key e.0)) e.1 (find value_cmp key es) none in
    put_step (value_cmp key e.0) e (key, value) es (put value_cmp key value es) (place_in key es) parts.0 (put_at key value es parts.1)

-- ---- the last of several entries

abbrev put_one : Entry → List Entry → Option (List Entry)
put_one e more = cond (is_some (find value_cmp e.0 more)) None (Some (put value_cmp e.0 e.1 more))

put_last : (front : List Entry) (e : Entry) (entries : List Entry) → put_one e entries ≡ None → put_new (front ++ e ∷ []) entries ≡ None
put_last [] e entries none = none
put_last (f ∷ front) e entries none = ap (option_and_then (put_one f)) (put_last front e entries none)

put_last_new : (front : List Entry) (e : Entry) (entries more : List Entry) → put_one e entries ≡ Some more → put_new (front ++ e ∷ []) entries ≡ put_new front more
put_last_new [] e entries more some = some
put_last_new (f ∷ front) e entries more some = ap (option_and_then (put_one f)) (put_last_new front e entries more some)

abbrev head_or : Value → List Value → Value
head_or d [] = d
head_or d (v ∷ vs) = v

-- values in turn of which a key and a value are the last
record EndsWith (pairs : List Entry) (key value : Value) (rest : List Value) : Type 0 where
  front : List Entry
  is : pairs ≡ front ++ (key, value) ∷ []
  rest_is : rest ≡ in_turn front

none_longer : {X : Type 0} (xs : List X) (x : X) → [] ≡ xs ++ x ∷ [] → ⊥
none_longer xs x e = let size = ap length e ∙ length-append xs (x ∷ []) in omega (arith, size)

nothing_in : (pairs : List Entry) → in_turn pairs ≡ [] → pairs ≡ []
nothing_in [] e = refl
nothing_in (pair ∷ pairs) e = let size = ap length e in absurd (omega (arith, size))

not_one : (pairs : List Entry) (v : Value) → in_turn pairs ≡ v ∷ [] → ⊥
not_one [] v e = let size = ap length e in omega (arith, size)
not_one (pair ∷ pairs) v e = let size = ap length e in omega (arith, size)

last_pair : (pairs : List Entry) (key value : Value) (rest : List Value) → in_turn pairs ≡ (rest ++ key ∷ []) ++ value ∷ [] → EndsWith pairs key value rest
last_pair [] key value rest e = absurd (none_longer (rest ++ key ∷ []) value e)
last_pair (pair ∷ pairs) key value [] e =
    let k : pair.0 ≡ key = ap (head_or key) e in
    let v : pair.1 ≡ value = ap (λ vs. head_or value (drop 1 vs)) e in
    let none : pairs ≡ [] = nothing_in pairs (ap (drop 2) e) in
    record { front = []; is = λ i. (k i, v i) ∷ none i; rest_is = refl }
last_pair (pair ∷ pairs) key value (one ∷ []) e = absurd (not_one pairs value (ap (drop 2) e))
last_pair (pair ∷ pairs) key value (one ∷ other ∷ rest) e =
    let k : pair.0 ≡ one = ap (head_or key) e in
    let v : pair.1 ≡ other = ap (λ vs. head_or value (drop 1 vs)) e in
    let deep = last_pair pairs key value rest (ap (drop 2) e) in
    record { front = pair ∷ deep.front; is = ap (λ ps. pair ∷ ps) deep.is; rest_is = λ i. sym k i ∷ sym v i ∷ deep.rest_is i }

-- ---- what is left to be put

pub record LeftOf (pairs : List Entry) (values : List Value) (entries : List Entry) : Type 0 where
  pub left : List Entry
  pub are : values ≡ in_turn left
  pub same : put_new pairs [] ≡ put_new left entries

abbrev pub IsLeft : List Value → List Value → List Entry → Type 0
IsLeft all values entries = (pairs : List Entry) → all ≡ in_turn pairs → LeftOf pairs values entries

pub left_first : (all values : List Value) (entries : List Entry) → values ≡ all → entries ≡ [] → IsLeft all values entries
left_first all values entries same none pairs e = record { left = pairs; are = same ∙ e; same = ap (put_new pairs) (sym none) }

pub left_odd : (all values rest : List Value) (entries : List Entry) (value : Value) → IsLeft all values entries → values ≡ rest ++ value ∷ [] → rest ≡ [] → (pairs : List Entry) → all ≡ in_turn pairs → ⊥
left_odd all values rest entries value left e none pairs is =
    let l = left pairs is in
    not_one l.left value (sym l.are ∙ e ∙ ap (λ vs. vs ++ value ∷ []) none)

two_last : (values rest more : List Value) (key value : Value) → values ≡ rest ++ value ∷ [] → rest ≡ more ++ key ∷ [] → values ≡ (more ++ key ∷ []) ++ value ∷ []
two_last values rest more key value e d = e ∙ ap (λ vs. vs ++ value ∷ []) d

pub left_twice : (all values rest more : List Value) (entries : List Entry) (key value : Value) → IsLeft all values entries → values ≡ rest ++ value ∷ [] → rest ≡ more ++ key ∷ []
    → is_some (find value_cmp key entries) ≡ true → (pairs : List Entry) → all ≡ in_turn pairs → None ≡ put_new pairs []
left_twice all values rest more entries key value left e d has pairs is =
    let l = left pairs is in
    let last = last_pair l.left key value more (sym l.are ∙ two_last values rest more key value e d) in
    let none : put_one (key, value) entries ≡ None = ap (λ b. cond b None (Some (put value_cmp key value entries))) has in
    sym (l.same ∙ ap (λ ps. put_new ps entries) last.is ∙ put_last last.front (key, value) entries none)

pub left_more : (all values rest more : List Value) (entries after : List Entry) (key value : Value) → IsLeft all values entries → values ≡ rest ++ value ∷ [] → rest ≡ more ++ key ∷ []
    → is_some (find value_cmp key entries) ≡ false → after ≡ put value_cmp key value entries → IsLeft all more after
left_more all values rest more entries after key value left e d has put_is pairs is =
    let l = left pairs is in
    let last = last_pair l.left key value more (sym l.are ∙ two_last values rest more key value e d) in
    let new : put_one (key, value) entries ≡ Some after = ap (λ b. cond b None (Some (put value_cmp key value entries))) has ∙ ap (λ es. Some es) (sym put_is) in
    record {
      left = last.front;
      are = last.rest_is;
      same = l.same ∙ ap (λ ps. put_new ps entries) last.is ∙ put_last_new last.front (key, value) entries after new;
    }

pub left_end : (all values : List Value) (entries : List Entry) → IsLeft all values entries → values ≡ [] → (pairs : List Entry) → all ≡ in_turn pairs → Some entries ≡ put_new pairs []
left_end all values entries left none pairs is =
    let l = left pairs is in
    sym (l.same ∙ ap (λ ps. put_new ps entries) (nothing_in l.left (sym l.are ∙ none)))

pub none_found : {X : Type 0} (o : Option X) → is_some o ≡ false → o ≡ None
none_found None e = refl
none_found (Some x) e = absurd (subst Holds e tt)
