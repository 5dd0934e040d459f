-- Terms by their parts: how a term of a production is written, and what it asks.
use Rattle.std.proofs.Common.{◌≡◌, ℕ, suc, Bool, true, ◌&&◌, List, [], ◌∷◌, ◌++◌, map, length, refl, sym, ap, ◌∙◌, ◌<◌, ◌+◌, get_or, add-one}
use Rattle.std.specs.Prelude.{IsTrue, Some, ◌==◌}
use Rattle.std.proofs.Common.{rules, false}
use Rattle.std.proofs.lemmas.Bool.Decides.{nat_tests}
use Rattle.std.specs.Option.{option_map}
use Rattle.std.proofs.lemmas.Option.{unwrap_or-slice_get, slice_get-get_or}
use Rattle.std.proofs.lemmas.List.{get_or-map, map-append}
use Rattle.std.specs.List.{list_all}
use Rattle.std.proofs.Common.{zero, ◌≢◌, arith, take}
use Rattle.std.proofs.lemmas.List.{take_more}
use Rattle.std.specs.List.{flat_map}
use mathlib.Core.Former.{Count, arity, this}
use denote.Hole.Carrier.{out, roll}
use Rattle.k_terms.specs.formers.many.Many.{the_former}
use Rattle.rule_terms.specs.declared.pattern.Pattern.{Pattern, Var, Lit, Node, Node', Items', Seq', Freezer', Apply', out-Pattern, roll-Pattern, roll-out-Pattern, Row_of-Pattern, end_of-Pattern, more_of-Pattern, items-the_row-Pattern, items_hidden-the_row-Pattern-0}
use Rattle.rule_terms.specs.declared.pattern.Pattern.TheBlock.{hidden-the_row-Pattern-0, shown-the_row-Pattern-0}
use Rattle.small_form.specs.declared.small.Production.{Production}
use Rattle.small_form.specs.Small.{applied, at_number, labels_of, label_of, term_pieces, row_pieces, arity_of, has_arity, is_term, row_is_term, row_length, variables_of, row_variables, numbers_from}

module _ (labels variables : List (List ℕ)) where
  row_pieces_is : {n : Count} (r : Row_of-Pattern n) → row_pieces labels variables r ≡ map (term_pieces labels variables) (items-the_row-Pattern n r)
  unfolding row_pieces
  row_pieces_is end_of-Pattern = refl
  row_pieces_is (more_of-Pattern p ps) = ap (λ t. term_pieces labels variables p ∷ t) (row_pieces_is ps)

  -- a term of production p is written as its label and its arguments
  pub term_pieces-Node : (p : ℕ) (ps : List Pattern)
      → term_pieces labels variables (Node p ps) ≡ applied (label_of labels p) (map (term_pieces labels variables) ps)
  unfolding term_pieces
  term_pieces-Node p ps =
      ap (applied (label_of labels p)) (row_pieces_is (hidden-the_row-Pattern-0 ps) ∙ ap (map (term_pieces labels variables)) (items_hidden-the_row-Pattern-0 ps))

row_length_is : {n : Count} (r : Row_of-Pattern n) → row_length r ≡ length (items-the_row-Pattern n r)
row_length_is end_of-Pattern = refl
row_length_is (more_of-Pattern p ps) = ap suc (row_length_is ps)

module _ (productions : List Production) (variables : ℕ) where
  row_is_term_is : {n : Count} (r : Row_of-Pattern n) → row_is_term productions variables r ≡ list_all (is_term productions variables) (items-the_row-Pattern n r)
  unfolding row_is_term
  row_is_term_is end_of-Pattern = refl
  row_is_term_is (more_of-Pattern p ps) = ap (λ b. is_term productions variables p && b) (row_is_term_is ps)

  -- a term of production p has its number of arguments, which are terms
  pub is_term-Node : (p : ℕ) (ps : List Pattern)
      → is_term productions variables (Node p ps) ≡ (has_arity (arity_of productions p) (length ps) && list_all (is_term productions variables) ps)
  unfolding is_term
  is_term-Node p ps =
      let shown = items_hidden-the_row-Pattern-0 ps in
      let row = hidden-the_row-Pattern-0 ps in
      let count : row_length row ≡ length ps = row_length_is row ∙ ap length shown in
      let terms : row_is_term productions variables row ≡ list_all (is_term productions variables) ps =
      row_is_term_is row ∙ ap (list_all (is_term productions variables)) shown in
      λ i. has_arity (arity_of productions p) (count i) && terms i

both : (a b : Bool) → IsTrue a → IsTrue b → IsTrue (a && b)
both true b p q = q
both false b p q = p

first_of : (a b : Bool) → IsTrue (a && b) → IsTrue a
first_of true b p = refl
first_of false b p = p

second_of : (a b : Bool) → IsTrue (a && b) → IsTrue b
second_of true b p = p
second_of false b p = cc

same_number : (m n : ℕ) → m ≡ n → IsTrue (m == n)
same_number m n e = search (rules, nat_tests)

-- the label and the number of arguments of a production by its place, from 0
pub label_at : (productions : List Production) (i : ℕ) (d : Production) → i < length productions → d ≡ get_or productions i d
    → at_number (labels_of productions) i ≡ d.label
label_at productions i d within is =
    unwrap_or-slice_get (labels_of productions) i [] ∙ get_or-map (λ (p : Production). p.label) productions i d [] within
    ∙ ap (λ (p : Production). p.label) (sym is)

pub label_of-next : (labels : List (List ℕ)) (n i : ℕ) → n ≡ i + 1 → label_of labels n ≡ at_number labels i
label_of-next labels n i e = ap (label_of labels) (e ∙ add-one i)

arity_of-next : (productions : List Production) (n i : ℕ) (d : Production) → n ≡ i + 1 → i < length productions → d ≡ get_or productions i d
    → arity_of productions n ≡ Some d.arity
arity_of-next productions n i d e within is =
    ap (arity_of productions) (e ∙ add-one i)
    ∙ ap (option_map (λ (q : Production). q.arity)) (slice_get-get_or productions i d within ∙ ap Some (sym is))

-- terms as the arguments of a production, as many as it has
pub node_is_term : (productions : List Production) (variables n i : ℕ) (d : Production) (ps : List Pattern)
    → n ≡ i + 1 → i < length productions → d ≡ get_or productions i d → length ps ≡ d.arity
    → IsTrue (list_all (is_term productions variables) ps) → IsTrue (is_term productions variables (Node n ps))
node_is_term productions variables n i d ps e within is count terms =
    rw (is_term-Node productions variables n ps, arity_of-next productions n i d e within is) (both (d.arity == length ps) _ (same_number d.arity (length ps) (sym count)) terms)

-- how such a term is written
pub node_pieces : (productions : List Production) (variables : List (List ℕ)) (n i : ℕ) (label : List ℕ) (ps : List Pattern)
    → n ≡ i + 1 → at_number (labels_of productions) i ≡ label
    → term_pieces (labels_of productions) variables (Node n ps) ≡ applied label (map (term_pieces (labels_of productions) variables) ps)
node_pieces productions variables n i label ps e is =
    term_pieces-Node (labels_of productions) variables n ps
    ∙ ap (λ l. applied l (map (term_pieces (labels_of productions) variables) ps)) (label_of-next (labels_of productions) n i e ∙ is)

-- one more item that passes the test
pub all_more : {X : Type 0} (p : X → Bool) (xs : List X) (y : X) → IsTrue (list_all p xs) → IsTrue (p y) → IsTrue (list_all p (xs ++ y ∷ []))
all_more p [] y all last = both (p y) true last refl
all_more p (x ∷ xs) y all last = both (p x) _ (first_of (p x) _ all) (all_more p xs y (second_of (p x) _ all) last)

-- ---- variables

row_variables_is : {n : Count} (r : Row_of-Pattern n) → row_variables r ≡ flat_map variables_of (items-the_row-Pattern n r)
unfolding row_variables
row_variables_is end_of-Pattern = refl
row_variables_is (more_of-Pattern p ps) = ap (λ t. variables_of p ++ t) (row_variables_is ps)

pub variables_of-Var : (x : ℕ) → variables_of (Var x) ≡ x ∷ []
unfolding variables_of
variables_of-Var x = refl

pub variables_of-Node : (p : ℕ) (ps : List Pattern) → variables_of (Node p ps) ≡ flat_map variables_of ps
unfolding variables_of
variables_of-Node p ps = row_variables_is (hidden-the_row-Pattern-0 ps) ∙ ap (flat_map variables_of) (items_hidden-the_row-Pattern-0 ps)

pub node_shown : (p : ℕ) (s : (the_former this).Shape) (r : Row_of-Pattern (arity (the_former this) s)) → Node p (shown-the_row-Pattern-0 s r) ≡ Node' p s r
unfolding out-Pattern roll-Pattern out roll
node_shown p s r = roll-out-Pattern (Node' p s r)

-- a pattern that is neither a variable nor a term of a production has no variables here
pub variables_of-other : (q : Pattern) → ((x : ℕ) → q ≢ Var x) → ((p : ℕ) (ps : List Pattern) → q ≢ Node p ps) → variables_of q ≡ []
unfolding variables_of
variables_of-other (Var x) no_variable no_node = absurd (no_variable x refl)
variables_of-other (Node' p s r) no_variable no_node = absurd (no_node p (shown-the_row-Pattern-0 s r) (sym (node_shown p s r)))
variables_of-other (Lit _) no_variable no_node = refl
variables_of-other (Items' _ _ _ _) no_variable no_node = refl
variables_of-other (Seq' _ _ _) no_variable no_node = refl
variables_of-other (Freezer' _ _ _ _) no_variable no_node = refl
variables_of-other (Apply' _ _ _) no_variable no_node = refl

pub numbers_from-more : (first n : ℕ) → numbers_from first (suc n) ≡ numbers_from first n ++ (first + n) ∷ []
numbers_from-more first zero = ap (λ m. m ∷ []) (omega arith)
numbers_from-more first (suc n) = ap (λ t. first ∷ t) (numbers_from-more (suc first) n ∙ ap (λ m. numbers_from (suc first) n ++ m ∷ []) (omega arith))

pub get_or-numbers_from : (first n k d : ℕ) → k < n → get_or (numbers_from first n) k d ≡ first + k
get_or-numbers_from first zero k d h = absurd (omega arith)
get_or-numbers_from first (suc n) zero d h = omega arith
get_or-numbers_from first (suc n) (suc k) d h = get_or-numbers_from (suc first) n k d (omega arith) ∙ omega arith

pub length-numbers_from : (first n : ℕ) → length (numbers_from first n) ≡ n
length-numbers_from first zero = refl
length-numbers_from first (suc n) = ap suc (length-numbers_from (suc first) n)

-- the front of a list counts up one further
pub counts_further : (ns : List ℕ) (i : ℕ) → i < length ns → take i ns ≡ numbers_from 0 i → get_or ns i 0 ≡ i → take (i + 1) ns ≡ numbers_from 0 (i + 1)
counts_further ns i within before here =
    take_more ns i 0 within ∙ (λ j. before j ++ here j ∷ []) ∙ ap (λ m. numbers_from 0 i ++ m ∷ []) (omega arith) ∙ sym (numbers_from-more 0 i)
    ∙ ap (numbers_from 0) (sym (add-one i))

-- a list with another number at one place doesn't count up
pub counts_not : (ns : List ℕ) (i : ℕ) → i < length ns → (get_or ns i 0 ≡ i → ⊥) → ns ≡ numbers_from 0 (length ns) → ⊥
counts_not ns i within other e = other (ap (λ l. get_or l i 0) e ∙ get_or-numbers_from 0 (length ns) i 0 within ∙ omega arith)

pub labels_of-more : (ps : List Production) (p : Production) → labels_of (ps ++ p ∷ []) ≡ labels_of ps ++ p.label ∷ []
labels_of-more ps p = map-append (λ (q : Production). q.label) ps (p ∷ [])
