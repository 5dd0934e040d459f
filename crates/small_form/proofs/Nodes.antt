-- Terms of a production, as they are read.
use Rattle.std.proofs.Common.{◌≡◌, ℕ, zero, suc, ◌&&◌, List, [], ◌∷◌, ◌++◌, map, length, refl, sym, ap, ◌∙◌, subst, append_assoc, ◌<◌, ◌+◌, get_or, arith, add-one}
use Rattle.std.specs.Prelude.{IsTrue, codes, Some, ◌==◌, slice_get}
use Rattle.std.specs.Option.{option_map}
use Rattle.std.specs.List.{list_all}
use Rattle.std.proofs.lemmas.List.{length-map}
use Rattle.std.proofs.lemmas.Bool.Decides.{nat_tests}
use Rattle.rule_terms.specs.declared.pattern.Pattern.{Pattern, Var, Lit, Node, Node', Items', Seq', Freezer', Apply'}
use Rattle.rule_terms.specs.declared.pattern.Pattern.TheBlock.{shown-the_row-Pattern-0}
use Rattle.small_form.specs.declared.small.Production.{Production}
use Rattle.small_form.specs.Pieces.{is_word, is_capital, is_small, Reads}
use Rattle.small_form.specs.Small.{separated, applied, at_number, is_label, begins_by, labels_of, label_of, term_pieces, is_term, arity_of, has_arity, AreVariables, HaveLabels}
use Rattle.small_form.proofs.Terms.{is_term-Node, term_pieces-Node, node_shown}
use Rattle.small_form.proofs.Unique.{first_true, second_true, same_front, word_solid}
use Rattle.small_form.proofs.Exact.{all_at, variable_solid}

-- ---- a term is a variable or a term of a production

variable_within : (x k : ℕ) (productions : List Production) → IsTrue (is_term productions k (Var x)) → x < k
unfolding is_term
variable_within x k productions h = grind (arith, nat_tests)

module _ (productions : List Production) (k : ℕ) (P : Pattern → Type 0) (variable : (x : ℕ) → x < k → P (Var x))
    (node : (n : ℕ) (ps : List Pattern) → IsTrue (is_term productions k (Node n ps)) → P (Node n ps)) where
  pub term_by : (p : Pattern) → IsTrue (is_term productions k p) → P p
  unfolding is_term
  term_by (Var x) h = variable x (variable_within x k productions h)
  term_by (Node' n s r) h =
      subst P (node_shown n s r) (node n (shown-the_row-Pattern-0 s r) (subst (λ q. IsTrue (is_term productions k q)) (sym (node_shown n s r)) h))
  term_by (Lit _) h = cc
  term_by (Items' _ _ _ _) h = cc
  term_by (Seq' _ _ _) h = cc
  term_by (Freezer' _ _ _ _) h = cc
  term_by (Apply' _ _ _) h = cc

pub variable_pieces : (labels variables : List (List ℕ)) (x : ℕ) → term_pieces labels variables (Var x) ≡ at_number variables x ∷ []
unfolding term_pieces
variable_pieces labels variables x = refl

-- ---- a term of a production

same_count : (m n : ℕ) → IsTrue (m == n) → m ≡ n
same_count m n h = grind (arith, nat_tests)

pub has_place : (productions : List Production) (place n : ℕ) → IsTrue (has_arity (option_map (λ (q : Production). q.arity) (slice_get productions place)) n)
    → (place < length productions) × ((d : Production) → d ≡ get_or productions place d → d.arity ≡ n)
has_place [] place n h = absurd (cc)
has_place (q ∷ qs) zero n h = (omega arith, λ d is. ap (λ (e : Production). e.arity) is ∙ same_count q.arity n h)
has_place (q ∷ qs) (suc place) n h =
    let later = has_place qs place n h in
    let within : place < length qs = later.0 in
    (omega arith, later.1)

abbrev pub label_text : List Production → ℕ → List ℕ
label_text productions place = at_number (labels_of productions) place

-- the arguments, the closing parenthesis and what follows
abbrev pub inner_pieces : List Production → List (List ℕ) → List Pattern → List (List ℕ) → List (List ℕ)
inner_pieces productions variables ps pieces = separated (codes ",") (map (term_pieces (labels_of productions) variables) ps) ++ codes ")" ∷ pieces

-- how a term of a production stands at the front of a text
pub record IsOpened (productions : List Production) (variables : List (List ℕ)) (n : ℕ) (ps : List Pattern) (pieces : List (List ℕ)) (text rest : List ℕ) : Type 0 where
  pub place : ℕ
  pub is : n ≡ place + 1
  pub within : place < length productions
  pub arity : (d : Production) → d ≡ get_or productions place d → d.arity ≡ length ps
  pub terms : IsTrue (list_all (is_term productions (length variables)) ps)
  pub label : IsTrue (is_label (label_text productions place))
  pub read : Reads (label_text productions place ∷ codes "(" ∷ inner_pieces productions variables ps pieces) text rest

opened_at : (productions : List Production) (variables : List (List ℕ)) (n : ℕ) (ps : List Pattern) (pieces : List (List ℕ)) (text rest : List ℕ) → HaveLabels productions
    → IsTrue (has_arity (arity_of productions n) (length ps)) → IsTrue (list_all (is_term productions (length variables)) ps)
    → Reads (applied (label_of (labels_of productions) n) (map (term_pieces (labels_of productions) variables) ps) ++ pieces) text rest
    → IsOpened productions variables n ps pieces text rest
opened_at productions variables zero ps pieces text rest l arity terms read = absurd (cc)
opened_at productions variables (suc place) ps pieces text rest l arity terms read =
    let found = has_place productions place (length ps) arity in
    let within : place < length productions = found.0 in
    let count : length (labels_of productions) ≡ length productions = length-map productions (λ (p : Production). p.label) in
    let inner = separated (codes ",") (map (term_pieces (labels_of productions) variables) ps) in
    record {
      place = place;
      is = sym (add-one place);
      within = within;
      arity = found.1;
      terms = terms;
      label = all_at is_label (labels_of productions) place (omega arith) l.labels;
      read = subst (λ t. Reads (at_number (labels_of productions) place ∷ codes "(" ∷ t) text rest) (append_assoc inner (codes ")" ∷ []) pieces) read;
    }

pub opened : (productions : List Production) (variables : List (List ℕ)) (n : ℕ) (ps : List Pattern) (pieces : List (List ℕ)) (text rest : List ℕ) → HaveLabels productions
    → IsTrue (is_term productions (length variables) (Node n ps)) → Reads (term_pieces (labels_of productions) variables (Node n ps) ++ pieces) text rest
    → IsOpened productions variables n ps pieces text rest
opened productions variables n ps pieces text rest l holds read =
    let both : IsTrue (has_arity (arity_of productions n) (length ps) && list_all (is_term productions (length variables)) ps) = sym (is_term-Node productions (length variables) n ps) ∙ holds in
    opened_at productions variables n ps pieces text rest l (first_true (has_arity (arity_of productions n) (length ps)) _ both) (second_true (has_arity (arity_of productions n) (length ps)) _ both)
    (subst (λ t. Reads (t ++ pieces) text rest) (term_pieces-Node (labels_of productions) variables n ps) read)

pub label_word : (label : List ℕ) → IsTrue (is_label label) → IsTrue (is_word label)
label_word label h = first_true (is_word label) _ (first_true (is_word label && begins_by is_small label) _ h)

label_small : (label : List ℕ) → IsTrue (is_label label) → IsTrue (begins_by is_small label)
label_small label h = second_true (is_word label) _ (first_true (is_word label && begins_by is_small label) _ h)

-- ---- a label is no variable

small_capital : (b : ℕ) → IsTrue (is_small b) → IsTrue (is_capital b) → ⊥
small_capital b h e = grind (arith, nat_tests)

small_not_capital : (v w a b : List ℕ) → IsTrue (begins_by is_capital v) → IsTrue (begins_by is_small w) → v ++ a ≡ w ++ b → ⊥
small_not_capital [] w a b h e same = cc
small_not_capital (x ∷ xs) [] a b h e same = cc
small_not_capital (x ∷ xs) (y ∷ ys) a b h e same =
    let head : x ≡ y = cc in
    small_capital y e (subst (λ t. IsTrue (is_capital t)) head h)

pub no_label : (variables : List (List ℕ)) (v : ℕ) (label : List ℕ) (ps qs : List (List ℕ)) (text a b : List ℕ) → AreVariables variables → v < length variables
    → IsTrue (is_label label) → Reads (at_number variables v ∷ ps) text a → Reads (label ∷ qs) text b → ⊥
no_label variables v label ps qs text a b vs within is one other =
    small_not_capital (at_number variables v) label one.1 other.1 (all_at (begins_by is_capital) variables v within vs.capitals) (label_small label is)
    (same_front (at_number variables v) label ps qs text a b (variable_solid variables v vs within) (word_solid label (label_word label is)) one other)

-- ---- a variable is read

pub variable_read : (productions : List Production) (variables : List (List ℕ)) (v : ℕ) (text after : List ℕ) → HaveLabels productions → AreVariables variables
    → v < length variables → Reads (at_number variables v ∷ []) text after
    → ((x : ℕ) (pieces : List (List ℕ)) (rest : List ℕ) → AreVariables variables → x < length variables → Reads (at_number variables x ∷ pieces) text rest
    → (Some v ≡ Some x) × Reads pieces after rest)
    → (p : Pattern) (pieces : List (List ℕ)) (rest : List ℕ) → IsTrue (is_term productions (length variables) p)
    → Reads (term_pieces (labels_of productions) variables p ++ pieces) text rest → (Some (Var v) ≡ Some p) × Reads pieces after rest
variable_read productions variables v text after l vs within known exact p pieces rest holds read =
    term_by productions (length variables)
    (λ q. Reads (term_pieces (labels_of productions) variables q ++ pieces) text rest → (Some (Var v) ≡ Some q) × Reads pieces after rest)
    (λ x less r.
    let both = exact x pieces rest vs less (subst (λ t. Reads (t ++ pieces) text rest) (variable_pieces (labels_of productions) variables x) r) in
    let same : v ≡ x = cc in
    (ap (λ y. Some (Var y)) same, both.1))
    (λ n ps is r.
    let o = opened productions variables n ps pieces text rest l is r in
    absurd (no_label variables v (at_number (labels_of productions) o.place) [] (codes "(" ∷ inner_pieces productions variables ps pieces) text after rest vs within o.label known o.read))
    p holds read
