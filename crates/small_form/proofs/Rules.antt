-- Rules as they are read: their names, their left sides and what tells their variables apart.
use Rattle.std.proofs.Common.{◌≡◌, ℕ, zero, suc, Bool, true, false, List, [], ◌∷◌, ◌++◌, map, length, refl, sym, ap, ◌∙◌, subst, append_assoc, length-append, ◌<◌, ◌≤◌, ◌^◌, arith}
use Rattle.std.specs.Prelude.{IsTrue, codes, Some, None, ◌||◌, nat_lt}
use Rattle.std.specs.Option.{option_to_list}
use Rattle.std.specs.List.{list_all}
use Rattle.std.proofs.lemmas.List.{append-nil, length-map, map-append}
use Rattle.std.proofs.lemmas.Bool.Decides.{nat_tests}
use Rattle.rule_terms.specs.declared.pattern.Pattern.{Pattern, Var, Lit, Node', Items', Seq', Freezer', Apply', Row_of-Pattern, end_of-Pattern, more_of-Pattern}
use Rattle.small_form.specs.declared.small.Production.{Production}
use Rattle.small_form.specs.declared.small.SmallRule.{SmallRule}
use Rattle.small_form.specs.Pieces.{is_word, is_solid, is_capital, continues_word, Reads}
use Rattle.small_form.specs.Small.{is_label, is_variable, is_among, are_different, begins_by, at_number, label_of, labels_of, arity_of, has_arity, separated, applied, typed, term_pieces, row_pieces, is_term, row_is_term, row_length, variables_of, row_variables, numbers_from, rule_pieces, HasNames, AreVariables, HaveLabels, IsSmallRule, unplaced_rule}
use Rattle.small_form.proofs.Unique.{first_true, second_true, both_true, same_front, same_cut, word_passes, word_stops, word_solid}
use Rattle.small_form.proofs.Exact.{all_at, same_place}
use Rattle.small_form.proofs.Nodes.{has_place}
use Rattle.small_form.proofs.Left.{variable_word}

-- ---- names among pieces that stand one after the other

names_append : (sort : List ℕ) (ps qs ns ms : List (List ℕ)) → HasNames sort ps ns → HasNames sort qs ms → HasNames sort (ps ++ qs) (ns ++ ms)
names_append sort [] qs ns ms one two = subst (λ t. HasNames sort qs (t ++ ms)) (sym one) two
names_append sort (p ∷ ps) qs ns ms one two =
    (one.0, one.1 ++ ms, one.2, ap (λ t. t ++ ms) one.3 ∙ append_assoc (option_to_list one.0) one.1 ms, names_append sort ps qs one.1 ms one.4 two)

-- a piece without a name
no_name : (sort piece : List ℕ) (ps ns : List (List ℕ)) → IsTrue (is_label piece || is_among (codes "(" ∷ codes "," ∷ codes ")" ∷ []) piece) → HasNames sort ps ns
    → HasNames sort (piece ∷ ps) ns
no_name sort piece ps ns kind named = (None, ns, kind, refl, named)

label_kind : (a b : Bool) → IsTrue a → IsTrue (a || b)
label_kind true b h = refl
label_kind false b h = cc

-- a label with its arguments
applied_names : (sort label : List ℕ) (arguments : List (List (List ℕ))) (ns : List (List ℕ)) → IsTrue (is_label label)
    → HasNames sort (separated (codes ",") arguments) ns → HasNames sort (applied label arguments) ns
applied_names sort label arguments ns is named =
    no_name sort label (codes "(" ∷ separated (codes ",") arguments ++ codes ")" ∷ []) ns (label_kind (is_label label) _ is)
    (no_name sort (codes "(") (separated (codes ",") arguments ++ codes ")" ∷ []) ns refl
    (subst (λ t. HasNames sort (separated (codes ",") arguments ++ codes ")" ∷ []) t) (append-nil ns)
    (names_append sort (separated (codes ",") arguments) (codes ")" ∷ []) ns [] named (no_name sort (codes ")") [] [] refl refl))))

-- ---- the names of a left side

at_map : (f : List ℕ → List ℕ) (ts : List (List ℕ)) (i : ℕ) → i < length ts → at_number (map f ts) i ≡ f (at_number ts i)
at_map f [] i within = absurd (omega arith)
at_map f (t ∷ ts) zero within = refl
at_map f (t ∷ ts) (suc i) within = at_map f ts i (omega arith)

variable_less : (x k : ℕ) → IsTrue (nat_lt x k) → x < k
variable_less x k h = grind (arith, nat_tests)

known_label : (productions : List Production) (p n : ℕ) → IsTrue (list_all is_label (labels_of productions)) → IsTrue (has_arity (arity_of productions p) n)
    → IsTrue (is_label (label_of (labels_of productions) p))
known_label productions zero n labels h = absurd (cc)
known_label productions (suc place) n labels h =
    let found = has_place productions place n h in
    let within : place < length productions = found.0 in
    let count : length (labels_of productions) ≡ length productions = length-map productions (λ (p : Production). p.label) in
    all_at is_label (labels_of productions) place (omega arith) labels

module _ (productions : List Production) (sort : List ℕ) (names : List (List ℕ)) (labels : IsTrue (list_all is_label (labels_of productions)))
    (variables : IsTrue (list_all is_variable names)) where
  mutual
    unfolding term_pieces row_pieces is_term row_is_term variables_of row_variables

    pub term_names : (p : Pattern) → IsTrue (is_term productions (length names) p)
        → HasNames sort (term_pieces (labels_of productions) (map (typed sort) names) p) (map (at_number names) (variables_of p))
    term_names (Var x) h =
        let within : x < length names = variable_less x (length names) h in
        (Some (at_number names x), [], (all_at is_variable names x within variables, at_map (typed sort) names x within), refl, refl)
    term_names (Node' p s r) h =
        applied_names sort (label_of (labels_of productions) p) (row_pieces (labels_of productions) (map (typed sort) names) r) (map (at_number names) (row_variables r))
        (known_label productions p (row_length r) labels (first_true (has_arity (arity_of productions p) (row_length r)) _ h))
        (row_names r (second_true (has_arity (arity_of productions p) (row_length r)) _ h))
    term_names (Lit _) h = absurd (cc)
    term_names (Items' _ _ _ _) h = absurd (cc)
    term_names (Seq' _ _ _) h = absurd (cc)
    term_names (Freezer' _ _ _ _) h = absurd (cc)
    term_names (Apply' _ _ _) h = absurd (cc)

    row_names : {n : _} (r : Row_of-Pattern n) → IsTrue (row_is_term productions (length names) r)
        → HasNames sort (separated (codes ",") (row_pieces (labels_of productions) (map (typed sort) names) r)) (map (at_number names) (row_variables r))
    row_names end_of-Pattern h = refl
    row_names (more_of-Pattern p end_of-Pattern) h =
        subst (λ t. HasNames sort (term_pieces (labels_of productions) (map (typed sort) names) p) t) (ap (map (at_number names)) (sym (append-nil (variables_of p))))
        (term_names p (first_true (is_term productions (length names) p) _ h))
    row_names (more_of-Pattern p (more_of-Pattern q qs)) h =
        let first = term_names p (first_true (is_term productions (length names) p) _ h) in
        let later = row_names (more_of-Pattern q qs) (second_true (is_term productions (length names) p) _ h) in
        subst (λ t. HasNames sort (separated (codes ",") (row_pieces (labels_of productions) (map (typed sort) names) (more_of-Pattern p (more_of-Pattern q qs)))) t)
        (sym (map-append (at_number names) (variables_of p) (row_variables (more_of-Pattern q qs))))
        (names_append sort (term_pieces (labels_of productions) (map (typed sort) names) p)
        (codes "," ∷ separated (codes ",") (row_pieces (labels_of productions) (map (typed sort) names) (more_of-Pattern q qs)))
        (map (at_number names) (variables_of p)) (map (at_number names) (row_variables (more_of-Pattern q qs))) first
        (no_name sort (codes ",") _ (map (at_number names) (row_variables (more_of-Pattern q qs))) refl later))

at_seam : (before : List (List ℕ)) (n : List ℕ) (ns : List (List ℕ)) → at_number (before ++ n ∷ ns) (length before) ≡ n
at_seam [] n ns = refl
at_seam (b ∷ bs) n ns = at_seam bs n ns

all_names : (before names : List (List ℕ)) → map (at_number (before ++ names)) (numbers_from (length before) (length names)) ≡ names
all_names before [] = refl
all_names before (n ∷ ns) =
    let here : at_number (before ++ n ∷ ns) (length before) ≡ n = at_seam before n ns in
    let shifted : before ++ n ∷ ns ≡ (before ++ n ∷ []) ++ ns = sym (append_assoc before (n ∷ []) ns) in
    let size : length (before ++ n ∷ []) ≡ suc (length before) = length-append before (n ∷ []) ∙ omega arith in
    (λ i. here i ∷ map (at_number (shifted i)) (numbers_from (sym size i) (length ns))) ∙ ap (λ t. n ∷ t) (all_names (before ++ n ∷ []) ns)

-- the names of a rule's left side
pub left_names : (productions : List Production) (sort : List ℕ) (r : SmallRule) → HaveLabels productions → IsSmallRule productions r
    → HasNames sort (term_pieces (labels_of productions) (map (typed sort) r.names) r.left) r.names
left_names productions sort r l is =
    subst (λ t. HasNames sort (term_pieces (labels_of productions) (map (typed sort) r.names) r.left) t)
    (ap (map (at_number r.names)) is.once ∙ all_names [] r.names)
    (term_names productions sort r.names l.labels is.names r.left is.left)

-- ---- variables that are told apart

different_at : (names : List (List ℕ)) (i j : ℕ) → IsTrue (are_different names) → i < length names → j < length names → at_number names i ≡ at_number names j → i ≡ j
different_at names i j different one other e = same_place names i j different one other e

all_capitals : (names : List (List ℕ)) → IsTrue (list_all is_variable names) → IsTrue (list_all (begins_by is_capital) names)
all_capitals [] h = refl
all_capitals (n ∷ ns) h =
    both_true (begins_by is_capital n) _ (second_true (is_word n) _ (first_true (is_variable n) _ h)) (all_capitals ns (second_true (is_variable n) _ h))

typed_capital : (sort name : List ℕ) → IsTrue (begins_by is_capital name) → IsTrue (begins_by is_capital (typed sort name))
typed_capital sort [] h = absurd (cc)
typed_capital sort (b ∷ bs) h = h

typed_capitals : (sort : List ℕ) (names : List (List ℕ)) → IsTrue (list_all is_variable names) → IsTrue (list_all (begins_by is_capital) (map (typed sort) names))
typed_capitals sort [] h = refl
typed_capitals sort (n ∷ ns) h =
    both_true (begins_by is_capital (typed sort n)) _ (typed_capital sort n (second_true (is_word n) _ (first_true (is_variable n) _ h)))
    (typed_capitals sort ns (second_true (is_variable n) _ h))

capital_solid_word : (w : List ℕ) → IsTrue (is_variable w) → IsTrue (is_solid w)
capital_solid_word w h = word_solid w (variable_word w h)

typed_solid : (sort name : List ℕ) → IsTrue (is_variable name) → IsTrue (is_solid (typed sort name))
typed_solid sort [] h = absurd (cc)
typed_solid sort (b ∷ bs) h = capital_solid_word (b ∷ bs) h

-- the names of a rule, as they are written on the right
pub names_apart : (names : List (List ℕ)) → IsTrue (list_all is_variable names) → IsTrue (are_different names) → length names ≤ 2 ^ 32 → AreVariables names
names_apart names variables different few = record {
  capitals = all_capitals names variables;
  apart = λ i j text a b one other first second.
      let v = at_number names i in
      let w = at_number names j in
      let is = all_at is_variable names i one variables in
      let so = all_at is_variable names j other variables in
      same_place names i j different one other
      (same_cut continues_word v w first.1 second.1 (word_passes v (variable_word v is)) (word_passes w (variable_word w so))
      (word_stops v first.1 (variable_word v is) first.4) (word_stops w second.1 (variable_word w so) second.4)
      (same_front v w [] [] text a b (capital_solid_word v is) (capital_solid_word w so) first second));
  few = few;
}

-- and with their sorts, as they are written on the left
pub typed_apart : (sort : List ℕ) (names : List (List ℕ)) → IsTrue (list_all is_variable names) → IsTrue (are_different names) → length names ≤ 2 ^ 32
    → AreVariables (map (typed sort) names)
typed_apart sort names variables different few = record {
  capitals = typed_capitals sort names variables;
  apart = λ i j text a b one other first second.
      let size : length (map (typed sort) names) ≡ length names = length-map names (typed sort) in
      let within : i < length names = omega arith in
      let known : j < length names = omega arith in
      let v = at_number names i in
      let w = at_number names j in
      let is = all_at is_variable names i within variables in
      let so = all_at is_variable names j known variables in
      let left = subst (λ t. Reads (t ∷ []) text a) (at_map (typed sort) names i within) first in
      let right = subst (λ t. Reads (t ∷ []) text b) (at_map (typed sort) names j known) second in
      let front : typed sort v ++ left.1 ≡ typed sort w ++ right.1 = same_front (typed sort v) (typed sort w) [] [] text a b (typed_solid sort v is) (typed_solid sort w so) left right in
      same_place names i j different within known
      (same_cut continues_word v w ((codes ":" ++ sort) ++ left.1) ((codes ":" ++ sort) ++ right.1) (word_passes v (variable_word v is)) (word_passes w (variable_word w so))
      refl refl (sym (append_assoc v (codes ":" ++ sort) left.1) ∙ front ∙ append_assoc w (codes ":" ++ sort) right.1));
  few = (let size : length (map (typed sort) names) ≡ length names = length-map names (typed sort) in omega arith);
}

-- ---- a rule, phase by phase

abbrev pub left_pieces : List Production → List ℕ → SmallRule → List (List ℕ)
left_pieces productions sort r = term_pieces (labels_of productions) (map (typed sort) r.names) r.left

abbrev pub right_pieces : List Production → SmallRule → List (List ℕ)
right_pieces productions r = term_pieces (labels_of productions) r.names r.right

pub rule_read : (productions : List Production) (sort : List ℕ) (r : SmallRule) (pieces : List (List ℕ)) (text rest : List ℕ)
    → Reads (rule_pieces (labels_of productions) sort r ++ pieces) text rest
    → Reads (codes "rule" ∷ (left_pieces productions sort r ++ codes "=>" ∷ (right_pieces productions r ++ pieces))) text rest
rule_read productions sort r pieces text rest read =
    subst (λ t. Reads (codes "rule" ∷ t) text rest) (append_assoc (left_pieces productions sort r) (codes "=>" ∷ right_pieces productions r) pieces) read

-- what the reader of terms asks for a side whose variables are written so
pub record IsSide (productions : List Production) (written : List (List ℕ)) (p : Pattern) (pieces : List (List ℕ)) (text rest : List ℕ) : Type 0 where
  pub variables : AreVariables written
  pub term : IsTrue (is_term productions (length written) p)
  pub read : Reads (term_pieces (labels_of productions) written p ++ pieces) text rest

pub left_side : (productions : List Production) (sort : List ℕ) (r : SmallRule) (written pieces : List (List ℕ)) (text rest : List ℕ) → written ≡ map (typed sort) r.names
    → IsSmallRule productions r → length r.names ≤ 2 ^ 32 → Reads (left_pieces productions sort r ++ pieces) text rest → IsSide productions written r.left pieces text rest
left_side productions sort r written pieces text rest same is few read =
    subst (λ vs. IsSide productions vs r.left pieces text rest) (sym same)
    (record {
      variables = typed_apart sort r.names is.names is.different few;
      term = subst (λ n. IsTrue (is_term productions n r.left)) (sym (length-map r.names (typed sort))) is.left;
      read = read;
    })

pub right_side : (productions : List Production) (r : SmallRule) (written pieces : List (List ℕ)) (text rest : List ℕ) → written ≡ r.names
    → IsSmallRule productions r → length r.names ≤ 2 ^ 32 → Reads (right_pieces productions r ++ pieces) text rest → IsSide productions written r.right pieces text rest
right_side productions r written pieces text rest same is few read =
    subst (λ vs. IsSide productions vs r.right pieces text rest) (sym same)
    (record { variables = names_apart r.names is.names is.different few; term = is.right; read = read })

pub same_rule : (r : SmallRule) (names : List (List ℕ)) (left right : Pattern) → names ≡ r.names → left ≡ r.left → right ≡ r.right
    → Some (unplaced_rule (record { at = 0; names = names; left = left; right = right })) ≡ Some (unplaced_rule r)
same_rule r names left right first second third = λ i. Some (record { at = 0; names = first i; left = second i; right = third i })
