-- How a code is read back.
use Rattle.std.proofs.Common.{ℕ, ◌+◌, ◌<◌, ◌≤◌, ◌≡◌, List, [], ◌∷◌, ◌++◌, length, get_or, drop, reverse, Some, None, sym, ap, ◌∙◌, arith, drop-cons, add-one, length-append}
use Rattle.std.proofs.lemmas.List.{drop_all}
use Rattle.grammar_terms.specs.declared.shape.Shape.{Shape}
use Rattle.span_table.specs.declared.codes.Parts.{Parts}
use Rattle.span_rows.specs.declared.sign.Sign.{Sign}
use Rattle.span_table.specs.Codes.{read_back, IsCode}
use Rattle.span_table.specs.ReadBack.{from_parts, IsReadOn}
use Rattle.span_table.proofs.Coding.{read_back_code}

drop_here : (code : List Sign) (i : ℕ) (d : Sign) → i < length code → drop i code ≡ get_or code i d ∷ drop (i + 1) code
drop_here code i d within = drop-cons code i d within ∙ ap (λ n. get_or code i d ∷ drop n code) (sym (add-one i))

some_same : {X : Type 0} (x y : X) → Some x ≡ Some y → x ≡ y
some_same x y same = cc

some_none : (shapes : List Shape) → Some shapes ≡ None → ⊥
some_none shapes same = cc

-- a sign of a code stands where it is
pub code_goes_on : (code : List Sign) (i : ℕ) (d : Sign) (parts : Parts) → i < length code → IsCode code → read_back code [] [] ≡ from_parts (drop i code) parts
    → IsReadOn (get_or code i d) parts None → ⊥
code_goes_on code i d parts within is before stops =
    some_none (is.shape ∷ []) (sym (read_back_code is.shape) ∙ ap (λ signs. read_back signs [] []) (sym is.is) ∙ before ∙ ap (λ signs. from_parts signs parts) (drop_here code i d within) ∙ stops (drop (i + 1) code))

pub read_more : (code : List Sign) (i : ℕ) (d : Sign) (before after : Parts) → i < length code → read_back code [] [] ≡ from_parts (drop i code) before
    → IsReadOn (get_or code i d) before (Some after) → read_back code [] [] ≡ from_parts (drop (i + 1) code) after
read_more code i d before after within is on = is ∙ ap (λ signs. from_parts signs before) (drop_here code i d within) ∙ on (drop (i + 1) code)

at_end : (shapes : List Shape) (outers : List (List Shape)) (shape : Shape) → read_back [] shapes outers ≡ Some (shape ∷ []) → shapes ≡ shape ∷ []
at_end shapes [] shape is = some_same shapes (shape ∷ []) is
at_end shapes (outer ∷ outers) shape is = absurd (some_none (shape ∷ []) (sym is))

-- all of a code was read
pub code_ends : (code : List Sign) (i : ℕ) (parts : Parts) → length code ≤ i → (is : IsCode code) → read_back code [] [] ≡ from_parts (drop i code) parts → parts.shapes ≡ is.shape ∷ []
code_ends code i parts past is before =
    at_end parts.shapes (reverse parts.outers.items) is.shape
    (ap (λ signs. from_parts signs parts) (sym (drop_all i code past)) ∙ sym before ∙ ap (λ signs. read_back signs [] []) is.is ∙ read_back_code is.shape)

head_or : Shape → List Shape → Shape
head_or other [] = other
head_or other (shape ∷ shapes) = shape

-- the last of one
pub last_of_one : (front : List Shape) (one last : Shape) → one ∷ [] ≡ front ++ last ∷ [] → one ≡ last
unfolding head_or
last_of_one [] one last same = ap (head_or one) same
last_of_one (first ∷ front) one last same =
    let long : length (one ∷ []) ≡ length ((first ∷ front) ++ last ∷ []) = ap length same in
    absurd (omega (arith, long, length-append front (last ∷ [])))
