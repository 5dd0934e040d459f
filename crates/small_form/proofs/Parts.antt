-- The parts of a definition as they are read: sorts, productions, rules.
use Rattle.std.proofs.Common.{◌≡◌, ℕ, zero, suc, List, [], ◌∷◌, ◌++◌, map, length, refl, sym, ap, ◌∙◌, subst, append_assoc, length-append, ◌<◌, ◌≤◌, ◌+◌, add-one, arith}
use Rattle.std.specs.Prelude.{IsTrue, codes, Some, replicate}
use Rattle.std.specs.List.{list_all, AllByRecursion}
use Rattle.std.proofs.lemmas.List.{append-nil, map-append}
use Rattle.small_form.specs.declared.small.Production.{Production}
use Rattle.small_form.specs.declared.small.SmallRule.{SmallRule}
use Rattle.small_form.specs.declared.small.Small.{Small}
use Rattle.small_form.specs.Pieces.{is_solid, Reads}
use Rattle.small_form.specs.Small.{is_label, is_sort, separated, labels_of, production_pieces, head_pieces, configuration_pieces, rule_pieces, rules_pieces, pieces_of, comma_before, unplaced, unplaced_rule, HaveLabels, IsSmallRule, IsSmallText}
use Rattle.small_form.proofs.Unique.{first_true, second_true, same_front, word_solid}
use Rattle.small_form.proofs.Left.{sort_word, word_or_other}

-- two pieces that begin otherwise are not read at one place
pub other_pieces : (p q : ℕ) (ps qs : List ℕ) (us vs : List (List ℕ)) (text a b : List ℕ) → IsTrue (is_solid (p ∷ ps)) → IsTrue (is_solid (q ∷ qs)) → (p ≡ q → ⊥)
    → Reads ((p ∷ ps) ∷ us) text a → Reads ((q ∷ qs) ∷ vs) text b → ⊥
other_pieces p q ps qs us vs text a b solid firm different one other =
    let front : (p ∷ ps) ++ one.1 ≡ (q ∷ qs) ++ other.1 = same_front (p ∷ ps) (q ∷ qs) us vs text a b solid firm one other in
    let head : p ≡ q = cc in
    different head

pub sort_solid : (sort : List ℕ) → IsTrue (is_sort sort) → IsTrue (is_solid sort)
sort_solid sort is = word_solid sort (sort_word sort is)

pub sort_some : (sort : List ℕ) → IsTrue (is_solid sort) → 0 < length sort
sort_some [] h = absurd (cc)
sort_some (b ∷ bs) h = omega arith

-- ---- the sorts of a production

-- so many sorts, each with its comma before, from a place on
abbrev pub sorts_from : List ℕ → ℕ → ℕ → List (List ℕ)
sorts_from sort place zero = []
sorts_from sort place (suc n) = comma_before place ++ sort ∷ sorts_from sort (suc place) n

sorts_later : (sort : List ℕ) (place n : ℕ) → separated (codes ",") ((sort ∷ []) ∷ replicate n (sort ∷ [])) ≡ sort ∷ sorts_from sort (suc place) n
sorts_later sort place zero = refl
sorts_later sort place (suc n) = ap (λ t. sort ∷ codes "," ∷ t) (sorts_later sort (suc place) n)

all_sorts : (sort : List ℕ) (n : ℕ) → separated (codes ",") (replicate n (sort ∷ [])) ≡ sorts_from sort 0 n
all_sorts sort zero = refl
all_sorts sort (suc n) = sorts_later sort 0 n

pub record IsSorts (sort : List ℕ) (count place : ℕ) (pieces : List (List ℕ)) (text rest : List ℕ) : Type 0 where
  pub left : ℕ
  pub is : count ≡ place + left
  pub read : Reads (sorts_from sort place left ++ codes ")" ∷ pieces) text rest

pub record NextSort (sort : List ℕ) (count place : ℕ) (pieces : List (List ℕ)) (text rest : List ℕ) : Type 0 where
  pub left : ℕ
  pub is : count ≡ (place + 1) + left
  pub read : Reads (comma_before place ++ sort ∷ (sorts_from sort (place + 1) left ++ codes ")" ∷ pieces)) text rest

pub sorts_begin : (sort : List ℕ) (count : ℕ) (pieces : List (List ℕ)) (text rest : List ℕ)
    → Reads (separated (codes ",") (replicate count (sort ∷ [])) ++ codes ")" ∷ pieces) text rest → IsSorts sort count 0 pieces text rest
sorts_begin sort count pieces text rest read =
    record { left = count; is = omega arith; read = subst (λ t. Reads (t ++ codes ")" ∷ pieces) text rest) (all_sorts sort count) read }

sort_or_closing : (sort : List ℕ) (place n : ℕ) (ps pieces : List (List ℕ)) (text after rest : List ℕ) → IsTrue (is_sort sort) → Reads (codes ")" ∷ ps) text after
    → Reads (comma_before place ++ sort ∷ pieces) text rest → ⊥
sort_or_closing sort zero n ps pieces text after rest is closing read =
    word_or_other sort 41 [] read.1 closing.1 refl (sort_word sort is) (same_front sort (codes ")") pieces ps text rest after (sort_solid sort is) refl read closing)
sort_or_closing sort (suc place) n ps pieces text after rest is closing read =
    other_pieces 41 44 [] [] ps (sort ∷ pieces) text after rest refl refl (λ e. absurd (omega arith)) closing read

regroup_sorts : (sort : List ℕ) (place n : ℕ) (pieces : List (List ℕ)) (text rest : List ℕ) → Reads ((comma_before place ++ sort ∷ sorts_from sort (suc place) n) ++ pieces) text rest
    → Reads (comma_before place ++ sort ∷ (sorts_from sort (place + 1) n ++ pieces)) text rest
regroup_sorts sort place n pieces text rest read =
    subst (λ m. Reads (comma_before place ++ sort ∷ (sorts_from sort m n ++ pieces)) text rest) (sym (add-one place))
    (subst (λ t. Reads t text rest) (append_assoc (comma_before place) (sort ∷ sorts_from sort (suc place) n) pieces) read)

closing_sorts : (sort : List ℕ) (count place : ℕ) (pieces : List (List ℕ)) (text after rest : List ℕ) → IsTrue (is_sort sort) → Reads (codes ")" ∷ []) text after
    → (left : ℕ) → count ≡ place + left → Reads (sorts_from sort place left ++ codes ")" ∷ pieces) text rest → (place ≡ count) × Reads (codes ")" ∷ pieces) text rest
closing_sorts sort count place pieces text after rest sort_is closing zero is read = (omega arith, read)
closing_sorts sort count place pieces text after rest sort_is closing (suc n) is read =
    absurd (sort_or_closing sort place n [] (sorts_from sort (place + 1) n ++ codes ")" ∷ pieces) text after rest sort_is closing (regroup_sorts sort place n (codes ")" ∷ pieces) text rest read))

-- where the closing parenthesis is read, all sorts are read
pub sorts_end : (sort : List ℕ) (count place : ℕ) (pieces : List (List ℕ)) (text after rest : List ℕ) → IsTrue (is_sort sort) → Reads (codes ")" ∷ []) text after
    → IsSorts sort count place pieces text rest → (place ≡ count) × Reads (codes ")" ∷ pieces) text rest
sorts_end sort count place pieces text after rest sort_is closing s = closing_sorts sort count place pieces text after rest sort_is closing s.left s.is s.read

next_sort : (sort : List ℕ) (count place : ℕ) (pieces : List (List ℕ)) (text rest : List ℕ) → ((ps : List (List ℕ)) (r : List ℕ) → Reads (codes ")" ∷ ps) text r → ⊥)
    → (left : ℕ) → count ≡ place + left → Reads (sorts_from sort place left ++ codes ")" ∷ pieces) text rest → NextSort sort count place pieces text rest
next_sort sort count place pieces text rest none zero is read = absurd (none pieces rest read)
next_sort sort count place pieces text rest none (suc n) is read = record { left = n; is = omega arith; read = regroup_sorts sort place n (codes ")" ∷ pieces) text rest read }

-- where it is not, a sort stands
pub sorts_go : (sort : List ℕ) (count place : ℕ) (pieces : List (List ℕ)) (text rest : List ℕ) → ((ps : List (List ℕ)) (r : List ℕ) → Reads (codes ")" ∷ ps) text r → ⊥)
    → IsSorts sort count place pieces text rest → NextSort sort count place pieces text rest
sorts_go sort count place pieces text rest none s = next_sort sort count place pieces text rest none s.left s.is s.read

-- ---- productions

pub production_read : (sort : List ℕ) (p : Production) (pieces : List (List ℕ)) (text rest : List ℕ) → Reads (production_pieces sort p ++ pieces) text rest
    → Reads (p.label ∷ codes "(" ∷ (separated (codes ",") (replicate p.arity (sort ∷ [])) ++ codes ")" ∷ pieces)) text rest
production_read sort p pieces text rest read =
    subst (λ t. Reads (p.label ∷ codes "(" ∷ t) text rest) (append_assoc (separated (codes ",") (replicate p.arity (sort ∷ []))) (codes ")" ∷ []) pieces) read

pub same_production : (p : Production) (label : List ℕ) (arity : ℕ) → label ≡ p.label → arity ≡ p.arity → Some (record { label = label; arity = arity }) ≡ Some p
same_production p label arity first second = λ i. Some (record { label = first i; arity = second i })

-- further productions, each with the mark before
abbrev pub further : List ℕ → List Production → List (List ℕ)
further sort [] = []
further sort (p ∷ ps) = codes "|" ∷ (production_pieces sort p ++ further sort ps)

separated_further : (sort : List ℕ) (p : Production) (ps : List Production)
    → separated (codes "|") (production_pieces sort p ∷ map (production_pieces sort) ps) ≡ production_pieces sort p ++ further sort ps
separated_further sort p [] = sym (append-nil (production_pieces sort p))
separated_further sort p (q ∷ qs) = ap (λ t. production_pieces sort p ++ codes "|" ∷ t) (separated_further sort q qs)

-- the productions that are still to be read
pub record IsFurther (sort : List ℕ) (done all : List Production) (pieces : List (List ℕ)) (text rest : List ℕ) : Type 0 where
  pub left : List Production
  pub is : all ≡ done ++ left
  pub read : Reads (further sort left ++ codes "configuration" ∷ pieces) text rest

pub record NextProduction (sort : List ℕ) (done all : List Production) (pieces : List (List ℕ)) (text rest : List ℕ) : Type 0 where
  pub item : Production
  pub left : List Production
  pub is : all ≡ done ++ item ∷ left
  pub label : IsTrue (is_label item.label)
  pub read : Reads (production_pieces sort item ++ (further sort left ++ codes "configuration" ∷ pieces)) text rest

-- the first of them
pub first_production : (sort : List ℕ) (all : List Production) (pieces : List (List ℕ)) (text rest : List ℕ) → 0 < length all → IsTrue (list_all is_label (labels_of all))
    → Reads (separated (codes "|") (map (production_pieces sort) all) ++ codes "configuration" ∷ pieces) text rest → NextProduction sort [] all pieces text rest
first_production sort [] pieces text rest some labels read = absurd (omega arith)
first_production sort (p ∷ ps) pieces text rest some labels read = record {
  item = p;
  left = ps;
  is = refl;
  label = first_true (is_label p.label) _ labels;
  read = subst (λ t. Reads t text rest) (append_assoc (production_pieces sort p) (further sort ps) (codes "configuration" ∷ pieces))
      (subst (λ t. Reads (t ++ codes "configuration" ∷ pieces) text rest) (separated_further sort p ps) read);
}

label_within : (done : List Production) (item : Production) (left : List Production) → IsTrue (list_all is_label (labels_of (done ++ item ∷ left))) → IsTrue (is_label item.label)
label_within [] item left h = first_true (is_label item.label) _ h
label_within (p ∷ ps) item left h = label_within ps item left (second_true (is_label p.label) _ h)

one_label : (done all : List Production) (item : Production) (left : List Production) → all ≡ done ++ item ∷ left → IsTrue (list_all is_label (labels_of all))
    → IsTrue (is_label item.label)
one_label done all item left is labels =
    label_within done item left (subst (λ t. IsTrue (list_all is_label (labels_of t))) is labels)

next_production : (sort : List ℕ) (done all : List Production) (pieces : List (List ℕ)) (text mid after rest : List ℕ) → IsTrue (list_all is_label (labels_of all))
    → Reads (codes "|" ∷ []) text after → ((ps : List (List ℕ)) (r : List ℕ) → Reads (codes "|" ∷ ps) text r → Reads ps mid r)
    → (left : List Production) → all ≡ done ++ left → Reads (further sort left ++ codes "configuration" ∷ pieces) text rest → NextProduction sort done all pieces mid rest
next_production sort done all pieces text mid after rest labels mark goes [] is read =
    absurd (other_pieces 124 99 [] (codes "onfiguration") [] pieces text after rest refl refl (λ e. absurd (omega arith)) mark read)
next_production sort done all pieces text mid after rest labels mark goes (p ∷ ps) is read = record {
  item = p;
  left = ps;
  is = is;
  label = one_label done all p ps is labels;
  read = goes (production_pieces sort p ++ (further sort ps ++ codes "configuration" ∷ pieces)) rest
      (subst (λ t. Reads (codes "|" ∷ t) text rest) (append_assoc (production_pieces sort p) (further sort ps) (codes "configuration" ∷ pieces)) read);
}

-- where the mark is read, a production stands after it
pub productions_go : (sort : List ℕ) (done all : List Production) (pieces : List (List ℕ)) (text mid after rest : List ℕ) → IsTrue (list_all is_label (labels_of all))
    → Reads (codes "|" ∷ []) text after → ((ps : List (List ℕ)) (r : List ℕ) → Reads (codes "|" ∷ ps) text r → Reads ps mid r)
    → IsFurther sort done all pieces text rest → NextProduction sort done all pieces mid rest
productions_go sort done all pieces text mid after rest labels mark goes f = next_production sort done all pieces text mid after rest labels mark goes f.left f.is f.read

no_further : (sort : List ℕ) (done all : List Production) (pieces : List (List ℕ)) (text rest : List ℕ) → ((ps : List (List ℕ)) (r : List ℕ) → Reads (codes "|" ∷ ps) text r → ⊥)
    → (left : List Production) → all ≡ done ++ left → Reads (further sort left ++ codes "configuration" ∷ pieces) text rest
    → (done ≡ all) × Reads (codes "configuration" ∷ pieces) text rest
no_further sort done all pieces text rest none [] is read = (sym (is ∙ append-nil done), read)
no_further sort done all pieces text rest none (p ∷ ps) is read =
    absurd (none ((production_pieces sort p ++ further sort ps) ++ codes "configuration" ∷ pieces) rest read)

-- where it is not, all productions are read
pub productions_end : (sort : List ℕ) (done all : List Production) (pieces : List (List ℕ)) (text rest : List ℕ) → ((ps : List (List ℕ)) (r : List ℕ) → Reads (codes "|" ∷ ps) text r → ⊥)
    → IsFurther sort done all pieces text rest → (done ≡ all) × Reads (codes "configuration" ∷ pieces) text rest
productions_end sort done all pieces text rest none f = no_further sort done all pieces text rest none f.left f.is f.read

pub further_more : (sort : List ℕ) (done now all : List Production) (item : Production) (left : List Production) (pieces : List (List ℕ)) (text rest : List ℕ)
    → now ≡ done ++ item ∷ [] → all ≡ done ++ item ∷ left → Reads (further sort left ++ codes "configuration" ∷ pieces) text rest → IsFurther sort now all pieces text rest
further_more sort done now all item left pieces text rest grown is read = record {
  left = left;
  is = is ∙ sym (append_assoc done (item ∷ []) left) ∙ ap (λ t. t ++ left) (sym grown);
  read = read;
}

-- ---- rules

-- the rules that are still to be read
pub record AreRulesLeft (productions : List Production) (sort : List ℕ) (done all : List SmallRule) (pieces : List (List ℕ)) (text rest : List ℕ) : Type 0 where
  pub left : List SmallRule
  pub is : map unplaced_rule all ≡ map unplaced_rule done ++ map unplaced_rule left
  pub small : AllByRecursion (IsSmallRule productions) left
  pub read : Reads (rules_pieces (labels_of productions) sort left ++ codes "endmodule" ∷ pieces) text rest

pub record NextRule (productions : List Production) (sort : List ℕ) (done all : List SmallRule) (pieces : List (List ℕ)) (text rest : List ℕ) : Type 0 where
  pub item : SmallRule
  pub left : List SmallRule
  pub is : map unplaced_rule all ≡ map unplaced_rule done ++ unplaced_rule item ∷ map unplaced_rule left
  pub rule : IsSmallRule productions item
  pub small : AllByRecursion (IsSmallRule productions) left
  pub read : Reads (rule_pieces (labels_of productions) sort item ++ (rules_pieces (labels_of productions) sort left ++ codes "endmodule" ∷ pieces)) text rest

pub rules_begin : (productions : List Production) (sort : List ℕ) (done all : List SmallRule) (pieces : List (List ℕ)) (text rest : List ℕ) → done ≡ []
    → AllByRecursion (IsSmallRule productions) all → Reads (rules_pieces (labels_of productions) sort all ++ codes "endmodule" ∷ pieces) text rest
    → AreRulesLeft productions sort done all pieces text rest
rules_begin productions sort done all pieces text rest none small read = record {
  left = all;
  is = ap (λ t. map unplaced_rule t ++ map unplaced_rule all) (sym none);
  small = small;
  read = read;
}

ended_rules : (productions : List Production) (sort : List ℕ) (done all : List SmallRule) (pieces : List (List ℕ)) (text after rest : List ℕ)
    → Reads (codes "endmodule" ∷ []) text after → (left : List SmallRule) → map unplaced_rule all ≡ map unplaced_rule done ++ map unplaced_rule left
    → Reads (rules_pieces (labels_of productions) sort left ++ codes "endmodule" ∷ pieces) text rest
    → (map unplaced_rule done ≡ map unplaced_rule all) × Reads (codes "endmodule" ∷ pieces) text rest
ended_rules productions sort done all pieces text after rest last [] is read = (sym (is ∙ append-nil (map unplaced_rule done)), read)
ended_rules productions sort done all pieces text after rest last (r ∷ rs) is read =
    absurd (other_pieces 101 114 (codes "ndmodule") (codes "ule") [] _ text after rest refl refl (λ e. absurd (omega arith)) last read)

pub rules_end : (productions : List Production) (sort : List ℕ) (done all : List SmallRule) (pieces : List (List ℕ)) (text after rest : List ℕ)
    → Reads (codes "endmodule" ∷ []) text after → AreRulesLeft productions sort done all pieces text rest
    → (map unplaced_rule done ≡ map unplaced_rule all) × Reads (codes "endmodule" ∷ pieces) text rest
rules_end productions sort done all pieces text after rest last l = ended_rules productions sort done all pieces text after rest last l.left l.is l.read

next_rule : (productions : List Production) (sort : List ℕ) (done all : List SmallRule) (pieces : List (List ℕ)) (text rest : List ℕ)
    → ((ps : List (List ℕ)) (r : List ℕ) → Reads (codes "endmodule" ∷ ps) text r → ⊥) → (left : List SmallRule)
    → map unplaced_rule all ≡ map unplaced_rule done ++ map unplaced_rule left → AllByRecursion (IsSmallRule productions) left
    → Reads (rules_pieces (labels_of productions) sort left ++ codes "endmodule" ∷ pieces) text rest → NextRule productions sort done all pieces text rest
next_rule productions sort done all pieces text rest none [] is small read = absurd (none pieces rest read)
next_rule productions sort done all pieces text rest none (r ∷ rs) is small read = record {
  item = r;
  left = rs;
  is = is;
  rule = small.0;
  small = small.1;
  read = subst (λ t. Reads t text rest) (append_assoc (rule_pieces (labels_of productions) sort r) (rules_pieces (labels_of productions) sort rs) (codes "endmodule" ∷ pieces)) read;
}

pub rules_go : (productions : List Production) (sort : List ℕ) (done all : List SmallRule) (pieces : List (List ℕ)) (text rest : List ℕ)
    → ((ps : List (List ℕ)) (r : List ℕ) → Reads (codes "endmodule" ∷ ps) text r → ⊥) → AreRulesLeft productions sort done all pieces text rest
    → NextRule productions sort done all pieces text rest
rules_go productions sort done all pieces text rest none l = next_rule productions sort done all pieces text rest none l.left l.is l.small l.read

pub rules_more : (productions : List Production) (sort : List ℕ) (done now all : List SmallRule) (read_rule item : SmallRule) (left : List SmallRule) (pieces : List (List ℕ)) (text rest : List ℕ)
    → now ≡ done ++ read_rule ∷ [] → unplaced_rule read_rule ≡ unplaced_rule item
    → map unplaced_rule all ≡ map unplaced_rule done ++ unplaced_rule item ∷ map unplaced_rule left → AllByRecursion (IsSmallRule productions) left
    → Reads (rules_pieces (labels_of productions) sort left ++ codes "endmodule" ∷ pieces) text rest → AreRulesLeft productions sort now all pieces text rest
rules_more productions sort done now all read_rule item left pieces text rest grown same is small read = record {
  left = left;
  is = is ∙ sym (append_assoc (map unplaced_rule done) (unplaced_rule item ∷ []) (map unplaced_rule left))
      ∙ ap (λ x. (map unplaced_rule done ++ x ∷ []) ++ map unplaced_rule left) (sym same)
      ∙ ap (λ t. t ++ map unplaced_rule left) (sym (ap (map unplaced_rule) grown ∙ map-append unplaced_rule done (read_rule ∷ [])));
  small = small;
  read = read;
}

-- ---- the whole definition

pub definition_read : (d : Small) (text rest : List ℕ) → Reads (pieces_of d) text rest
    → Reads (head_pieces d.name d.sort ++ (separated (codes "|") (map (production_pieces d.sort) d.productions)
    ++ (configuration_pieces d.sort ++ (rules_pieces (labels_of d.productions) d.sort d.rules ++ codes "endmodule" ∷ [])))) text rest
definition_read d text rest read =
    let head = head_pieces d.name d.sort in
    let productions = separated (codes "|") (map (production_pieces d.sort) d.productions) in
    let configuration = configuration_pieces d.sort in
    let rules = rules_pieces (labels_of d.productions) d.sort d.rules in
    let last = codes "endmodule" ∷ [] in
    subst (λ t. Reads t text rest)
    (append_assoc ((head ++ productions) ++ configuration) rules last
    ∙ append_assoc (head ++ productions) configuration (rules ++ last)
    ∙ append_assoc head productions (configuration ++ (rules ++ last)))
    read

-- ---- how long a text is at least

weight : List (List ℕ) → ℕ
weight [] = 0
weight (p ∷ ps) = length p + weight ps

weight-append : (ps qs : List (List ℕ)) → weight (ps ++ qs) ≡ weight ps + weight qs
unfolding weight
weight-append [] qs = omega arith
weight-append (p ∷ ps) qs = let rest : weight (ps ++ qs) ≡ weight ps + weight qs = weight-append ps qs in omega arith

reads_weight : (ps : List (List ℕ)) (text rest : List ℕ) → Reads ps text rest → weight ps ≤ length text
unfolding weight
reads_weight [] text rest read = omega arith
reads_weight (p ∷ ps) text rest read =
    let size : length text ≡ length read.0 + (length p + length read.1) =
    ap length read.2 ∙ length-append read.0 (p ++ read.1) ∙ ap (λ n. length read.0 + n) (length-append p read.1) in
    let later : weight ps ≤ length read.1 = reads_weight ps read.1 rest read.5 in
    omega arith

further_weight : (sort : List ℕ) (ps : List Production) → length ps ≤ weight (further sort ps)
unfolding weight
further_weight sort [] = omega arith
further_weight sort (p ∷ ps) =
    let later : length ps ≤ weight (further sort ps) = further_weight sort ps in
    let sum : weight (production_pieces sort p ++ further sort ps) ≡ weight (production_pieces sort p) + weight (further sort ps) = weight-append (production_pieces sort p) (further sort ps) in
    omega arith

productions_weight : (sort : List ℕ) (ps : List Production) → length ps ≤ weight (separated (codes "|") (map (production_pieces sort) ps))
unfolding weight
productions_weight sort [] = omega arith
productions_weight sort (p ∷ ps) =
    let later : length ps ≤ weight (further sort ps) = further_weight sort ps in
    let sum : weight (production_pieces sort p ++ further sort ps) ≡ weight (production_pieces sort p) + weight (further sort ps) = weight-append (production_pieces sort p) (further sort ps) in
    let all : weight (separated (codes "|") (production_pieces sort p ∷ map (production_pieces sort) ps)) ≡ weight (production_pieces sort p ++ further sort ps) = ap weight (separated_further sort p ps) in
    let one : 1 ≤ weight (production_pieces sort p) = omega arith in
    omega arith

-- a definition has at most as many productions as its text has bytes
pub few_productions : (text : List ℕ) (d : Small) → IsSmallText text d → length d.productions ≤ 4096
few_productions text d is =
    let head = head_pieces d.name d.sort in
    let productions = separated (codes "|") (map (production_pieces d.sort) d.productions) in
    let others = configuration_pieces d.sort ++ (rules_pieces (labels_of d.productions) d.sort d.rules ++ codes "endmodule" ∷ []) in
    let all : weight (head ++ (productions ++ others)) ≤ length text = reads_weight (head ++ (productions ++ others)) text is.spelled.0 (definition_read d text is.spelled.0 is.spelled.1) in
    let sum : weight (head ++ (productions ++ others)) ≡ weight head + weight (productions ++ others) = weight-append head (productions ++ others) in
    let more : weight (productions ++ others) ≡ weight productions + weight others = weight-append productions others in
    let count : length d.productions ≤ weight productions = productions_weight d.sort d.productions in
    let short = is.short in
    omega arith

-- the labels of a definition are labels and differ, and there are few of them
pub have_labels : (text : List ℕ) (d : Small) → IsSmallText text d → HaveLabels d.productions
have_labels text d is =
    let few : length d.productions ≤ 4096 = few_productions text d is in
    record { labels = is.small.labels; different = is.small.different; few = omega arith }

-- what follows the rules' mark and what follows the head, for a sort
abbrev pub after_configuration : Small → List ℕ → List (List ℕ)
after_configuration d sort = rules_pieces (labels_of d.productions) sort d.rules ++ codes "endmodule" ∷ []

abbrev pub after_productions : Small → List ℕ → List (List ℕ)
after_productions d sort = codes "<k>" ∷ (codes "$PGM:" ++ sort) ∷ codes "</k>" ∷ after_configuration d sort

abbrev pub after_head : Small → List ℕ → List (List ℕ)
after_head d sort = separated (codes "|") (map (production_pieces sort) d.productions) ++ codes "configuration" ∷ after_productions d sort

-- how a definition stands in its text
pub text_read : (d : Small) (text own : List ℕ) → own ≡ text → (is : IsSmallText text d) → Reads (head_pieces d.name d.sort ++ after_head d d.sort) own is.spelled.0
text_read d text own same is = subst (λ t. Reads (head_pieces d.name d.sort ++ after_head d d.sort) t is.spelled.0) (sym same) (definition_read d text is.spelled.0 is.spelled.1)

-- what the reader of rules asks, for the productions under another name
pub record AreRules (productions : List Production) (sort : List ℕ) (rules : List SmallRule) (text rest : List ℕ) : Type 0 where
  pub labels : HaveLabels productions
  pub small : AllByRecursion (IsSmallRule productions) rules
  pub read : Reads (rules_pieces (labels_of productions) sort rules ++ codes "endmodule" ∷ []) text rest

pub are_rules : (d : Small) (text : List ℕ) (productions : List Production) (sort : List ℕ) (now rest : List ℕ) → IsSmallText text d → productions ≡ d.productions
    → Reads (after_configuration d sort) now rest → AreRules productions sort d.rules now rest
are_rules d text productions sort now rest is same read =
    subst (λ ps. AreRules ps sort d.rules now rest) (sym same) (record { labels = have_labels text d is; small = is.small.rules; read = read })

pub same_small : (d : Small) (name sort : List ℕ) (productions : List Production) (rules : List SmallRule) → name ≡ d.name → sort ≡ d.sort → productions ≡ d.productions
    → map unplaced_rule rules ≡ map unplaced_rule d.rules → Some (unplaced (record { name = name; sort = sort; productions = productions; rules = rules })) ≡ Some (unplaced d)
same_small d name sort productions rules first second third fourth =
    λ i. Some (record { name = first i; sort = second i; productions = third i; rules = fourth i })

-- definitions that differ only in where their rules stand have the same productions
pub same_productions : (d e : Small) → unplaced d ≡ unplaced e → d.productions ≡ e.productions
same_productions d e same = ap (λ (s : Small). s.productions) same
