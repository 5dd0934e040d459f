-- The productions that read marked operators, one operator more.
use Rattle.std.proofs.Common.{ℕ, suc, ◌≡◌, ◌+◌, ◌<◌, List, [], ◌∷◌, ◌++◌, take, length, get_or, sym, ap, ◌∙◌, arith}
use Rattle.std.proofs.lemmas.List.{take_more, append_assoc, append-nil, length-take-le}
use Rattle.grammar_terms.specs.declared.production.Production.{Production}
use Rattle.rule_contents.specs.Operators.{marked_by, marked_prods}

none : (own : ℕ) → own ≡ own + 0
none own = omega arith

later : (own n : ℕ) → own + 1 + n ≡ own + suc n
later own n = omega arith

marks_behind : (own : ℕ) (operators : List Production) (operator : Production)
    → marked_prods own (operators ++ operator ∷ []) ≡ marked_prods own operators ++ marked_by (own + length operators) operator operator.items
marks_behind own [] operator = append-nil (marked_by own operator operator.items) ∙ ap (λ n. marked_by n operator operator.items) (none own)
marks_behind own (first ∷ operators) operator =
    ap (λ prods. marked_by own first first.items ++ prods) (marks_behind (own + 1) operators operator)
    ∙ ap (λ n. marked_by own first first.items ++ (marked_prods (own + 1) operators ++ marked_by n operator operator.items)) (later own (length operators))
    ∙ sym (append_assoc (marked_by own first first.items) (marked_prods (own + 1) operators) (marked_by (own + length (first ∷ operators)) operator operator.items))

pub marks_more : (own : ℕ) (operators : List Production) (at : ℕ) (operator : Production) → at < length operators
    → marked_prods own (take (at + 1) operators)
    ≡ marked_prods own (take at operators) ++ marked_by (own + at) (get_or operators at operator) (get_or operators at operator).items
marks_more own operators at operator within =
    ap (marked_prods own) (take_more operators at operator within) ∙ marks_behind own (take at operators) (get_or operators at operator)
    ∙ ap (λ n. marked_prods own (take at operators) ++ marked_by (own + n) (get_or operators at operator) (get_or operators at operator).items) (length-take-le at operators (omega (arith, within)))

pub one_later : (own at sort next : ℕ) → sort ≡ own + at → next ≡ sort + 1 → next ≡ own + (at + 1)
one_later own at sort next is more = omega (arith, is, more)
