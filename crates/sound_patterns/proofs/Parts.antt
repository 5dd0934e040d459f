-- The parts of a content: their terms are terms, and on the left without operators, as far as the content has none and no change stands in another.
use Rattle.std.proofs.Common.{◌≡◌, ℕ, ◌<◌, Bool, true, false, ◌||◌, List, [], ◌∷◌, ◌++◌, map, refl, ap}
use Rattle.std.specs.List.{AllByRecursion}
use Rattle.grammar_terms.specs.declared.shape.Shape.{Shape, Leaf, Node', Items', Node, items_hidden-the_row-Shape-0}
use Rattle.grammar_terms.specs.Grammar.{Syntax}
use Rattle.rule_terms.specs.declared.defs.Kind.{Kind}
use Rattle.rule_contents.specs.Operators.{said_of_left, has_operator}
use Rattle.rule_parts.specs.declared.parts.Part.{Part}
use Rattle.rule_parts.specs.declared.parts.Role.{Role}
use Rattle.rule_parts.specs.declared.parts.Role.TheVariants.{Item as ItemRole, Tail as TailRole, Entry as EntryRole, Rest as RestRole, Inner as InnerRole, Splice, Whole as WholeRole, Made as MadeRole, Value, Changed, Becomes}
use Rattle.rule_parts.specs.declared.parts.Side.{Side as Stands}
use Rattle.rule_parts.specs.declared.parts.Side.TheVariants.{Both, Left, Right}
use Rattle.rule_parts.specs.declared.parts.What.{What}
use Rattle.rule_parts.specs.declared.parts.What.TheVariants.{Item, Tail, Entry, Rest, Made, Inner, Whole}
use Rattle.rule_parts.specs.Parts.{left_of, right_of, role_of, part, nested, inner_at, leaf_part, value_parts, entry_parts, parts_in, parts_by}
use Rattle.rule_parts.specs.Sides.{is_left}
use Rattle.sound_patterns.proofs.Bodies.{EachTerm, IsNotMade}
use Rattle.sound_patterns.proofs.Roles.{IsPartSort, entry_sort, Suits, suits_item, suits_tail, suits_entry, suits_rest, suits_nothing, suits_inner, suits_part, suits_parts, suits_whole, suits_made, suits_value, suits_changed, suits_becomes}

-- ---- no change in another

abbrev pub IsNotNested : What Shape → Type 0
IsNotNested (Item shape) = Unit {0}
IsNotNested (Tail at) = Unit {0}
IsNotNested (Entry key value) = Unit {0}
IsNotNested (Rest at) = Unit {0}
IsNotNested (Made shape) = Unit {0}
IsNotNested (Inner at) = ⊥
IsNotNested Whole = ⊥

abbrev pub NoneNested : List (Part Shape) → Type 0
NoneNested parts = AllByRecursion (λ (it : Part Shape). IsNotNested it.what) parts

-- ---- lists

pub front_of : {X : Type 0} (P : X → Type 0) (xs ys : List X) → AllByRecursion P (xs ++ ys) → AllByRecursion P xs
front_of P [] ys all = tt
front_of P (x ∷ xs) ys all = (all.0, front_of P xs ys all.1)

pub behind_of : {X : Type 0} (P : X → Type 0) (xs ys : List X) → AllByRecursion P (xs ++ ys) → AllByRecursion P ys
behind_of P [] ys all = all
behind_of P (x ∷ xs) ys all = behind_of P xs ys all.1

pub both_of : {X : Type 0} (P : X → Type 0) (xs ys : List X) → AllByRecursion P xs → AllByRecursion P ys → AllByRecursion P (xs ++ ys)
both_of P [] ys one other = other
both_of P (x ∷ xs) ys one other = (one.0, both_of P xs ys one.1 other)

pub first_false : (a b : Bool) → (a || b) ≡ false → a ≡ false
first_false true b e = absurd (let f : true ≡ false = e in cc)
first_false false b e = refl

pub second_false : (a b : Bool) → (a || b) ≡ false → b ≡ false
second_false true b e = absurd (let f : true ≡ false = e in cc)
second_false false b e = e

without_last : (a b : Bool) → (a || (b || false)) ≡ false → (a || b) ≡ false
without_last true b e = absurd (let f : true ≡ false = e in cc)
without_last false true e = absurd (let f : true ≡ false = e in cc)
without_last false false e = refl

-- shapes that are known by the sorts that they stand at
abbrev pub Children : (ℕ → Shape → Type 0) → List ℕ → List Shape → Type 0
Children P [] [] = Unit {0}
Children P (sort ∷ sorts) (shape ∷ shapes) = P sort shape × Children P sorts shapes
Children P [] (shape ∷ shapes) = ⊥
Children P (sort ∷ sorts) [] = ⊥

module _ (P : ℕ → Shape → Type 0) where
  no_child : (shapes : List Shape) → Children P [] shapes → (Q : List Shape → Type 0) → Q [] → Q shapes
  no_child [] known Q is = is
  no_child (shape ∷ shapes) known Q is = absurd known

  next_child : (sort : ℕ) (sorts : List ℕ) (shapes : List Shape) → Children P (sort ∷ sorts) shapes → (Q : List Shape → Type 0)
      → ((shape : Shape) (more : List Shape) → P sort shape → Children P sorts more → Q (shape ∷ more)) → Q shapes
  next_child sort sorts [] known Q is = absurd known
  next_child sort sorts (shape ∷ shapes) known Q is = is shape shapes known.0 known.1

  one_child : (sort : ℕ) (shapes : List Shape) → Children P (sort ∷ []) shapes → (Q : List Shape → Type 0) → ((a : Shape) → P sort a → Q (a ∷ [])) → Q shapes
  one_child sort shapes known Q is = next_child sort [] shapes known Q (λ a more p last. no_child more last (λ rest. Q (a ∷ rest)) (is a p))

  two_children : (first second : ℕ) (shapes : List Shape) → Children P (first ∷ second ∷ []) shapes → (Q : List Shape → Type 0)
      → ((a b : Shape) → P first a → P second b → Q (a ∷ b ∷ [])) → Q shapes
  two_children first second shapes known Q is =
      next_child first (second ∷ []) shapes known Q (λ a more p later. one_child second more later (λ rest. Q (a ∷ rest)) (λ b q. is a b p q))

  three_children : (first second third : ℕ) (shapes : List Shape) → Children P (first ∷ second ∷ third ∷ []) shapes → (Q : List Shape → Type 0)
      → ((a b c : Shape) → P first a → P second b → P third c → Q (a ∷ b ∷ c ∷ [])) → Q shapes
  three_children first second third shapes known Q is =
      next_child first (second ∷ third ∷ []) shapes known Q (λ a more p later. two_children second third more later (λ rest. Q (a ∷ rest)) (λ b c q r. is a b c p q r))

  five_children : (first second third fourth fifth : ℕ) (shapes : List Shape) → Children P (first ∷ second ∷ third ∷ fourth ∷ fifth ∷ []) shapes → (Q : List Shape → Type 0)
      → ((a b c d e : Shape) → P second b → P fourth d → Q (a ∷ b ∷ c ∷ d ∷ e ∷ [])) → Q shapes
  five_children first second third fourth fifth shapes known Q is =
      next_child first (second ∷ third ∷ fourth ∷ fifth ∷ []) shapes known Q (λ a more p later.
      next_child second (third ∷ fourth ∷ fifth ∷ []) more later (λ rest. Q (a ∷ rest)) (λ b more q later.
      three_children third fourth fifth more later (λ rest. Q (a ∷ b ∷ rest)) (λ c d e r s t. is a b c d e q s)))

module _ (g : Syntax) (kind : Kind) (n count : ℕ) (Term : Shape → Type 0) where
  abbrev pub IsFree : Shape → Type 0
  IsFree shape = has_operator g shape ≡ false

  -- a part has terms, and on the left no operators and no expression
  abbrev pub IsGoodPart : Part Shape → Type 0
  IsGoodPart it = EachTerm Term it.what × (is_left it.side ≡ true → EachTerm IsFree it.what × IsNotMade it.what)

  -- parts of what stands on a side, which has operators on the left or not
  pub record AreGood (on : Stands) (operator : Bool) (parts : List (Part Shape)) : Type 0 where
    pub all : (is_left on ≡ true → operator ≡ false) → NoneNested parts → AllByRecursion IsGoodPart parts

  -- what is known of a shape that stands at a sort
  pub record IsKnown (sort : ℕ) (shape : Shape) : Type 0 where
    pub term : sort < n → Term shape
    pub parts : IsPartSort n sort → (on : Stands) → AreGood on (has_operator g shape) (parts_in kind count on shape)
    pub entry : sort ≡ entry_sort n → (on : Stands) (key : Shape) → Term key → AreGood on (has_operator g key || has_operator g shape) (entry_parts kind count on key shape)

  -- ---- parts together

  pub none_good : (on : Stands) (operator : Bool) → AreGood on operator []
  none_good on operator = record { all = λ no none. tt }

  pub two_good : (on : Stands) (one other : Bool) (xs ys : List (Part Shape)) → AreGood on one xs → AreGood on other ys → AreGood on (one || other) (xs ++ ys)
  two_good on one other xs ys first second = record {
    all = λ no none.
        both_of IsGoodPart xs ys
        (first.all (λ here. first_false one other (no here)) (front_of (λ (it : Part Shape). IsNotNested it.what) xs ys none))
        (second.all (λ here. second_false one other (no here)) (behind_of (λ (it : Part Shape). IsNotNested it.what) xs ys none));
  }

  pub more_good : (on : Stands) (one other : Bool) (parts : List (Part Shape)) → AreGood on other parts → AreGood on (one || other) parts
  more_good on one other parts good = record { all = λ no none. good.all (λ here. second_false one other (no here)) none }

  -- a change: on both sides its parts are of one side each, and else it stands in another
  change_good : (on : Stands) (operator other : Bool) (mark : What Shape) (before after : Stands → List (Part Shape)) → (IsNotNested mark → ⊥)
      → AreGood Left operator (before Left) → AreGood Right other (after Right) → AreGood on operator (nested mark on ++ before (left_of on) ++ after (right_of on))
  change_good Both operator other mark before after marks first second = record {
    all = λ no none.
        both_of IsGoodPart (before Left) (after Right)
        (first.all (λ here. no refl) (front_of (λ (it : Part Shape). IsNotNested it.what) (before Left) (after Right) none))
        (second.all (λ here. absurd (let f : false ≡ true = here in cc)) (behind_of (λ (it : Part Shape). IsNotNested it.what) (before Left) (after Right) none));
  }
  change_good Left operator other mark before after marks first second = record { all = λ no none. absurd (marks none.0) }
  change_good Right operator other mark before after marks first second = record { all = λ no none. absurd (marks none.0) }

  -- ---- one part

  item_good : (on : Stands) (shape : Shape) → Term shape → AreGood on (has_operator g shape) (part on (Item shape))
  item_good on shape term = record { all = λ no none. ((term, λ here. (no here, tt)), tt) }

  entry_good : (on : Stands) (key value : Shape) → Term key → Term value → AreGood on (has_operator g key || has_operator g value) (part on (Entry key value))
  entry_good on key value first second = record {
    all = λ no none. (
      ((first, second), λ here. ((first_false (has_operator g key) (has_operator g value) (no here), second_false (has_operator g key) (has_operator g value) (no here)), tt)),
      tt,
    );
  }

  made_good : (operator : Bool) (shape : Shape) → Term shape → AreGood Right operator (part Right (Made shape))
  made_good operator shape term = record { all = λ no none. ((term, λ here. absurd (let f : false ≡ true = here in cc)), tt) }

  tail_good : (on : Stands) (operator : Bool) (shape : Shape) → AreGood on operator (leaf_part Tail on shape)
  tail_good on operator (Leaf at) = record { all = λ no none. ((tt, λ here. (tt, tt)), tt) }
  tail_good on operator (Node' p s shapes) = none_good on operator
  tail_good on operator (Items' p s shapes rest) = none_good on operator

  rest_good : (on : Stands) (operator : Bool) (shape : Shape) → AreGood on operator (leaf_part Rest on shape)
  rest_good on operator (Leaf at) = record { all = λ no none. ((tt, λ here. (tt, tt)), tt) }
  rest_good on operator (Node' p s shapes) = none_good on operator
  rest_good on operator (Items' p s shapes rest) = none_good on operator

  pub weaker : (on : Stands) (one other : Bool) (parts : List (Part Shape)) → (other ≡ false → one ≡ false) → AreGood on one parts → AreGood on other parts
  weaker on one other parts less good = record { all = λ no none. good.all (λ here. less (no here)) none }

  -- ---- by the role of a production

  abbrev IsGoodBy : Role → Stands → List Shape → Type 0
  IsGoodBy role on shapes = AreGood on (said_of_left true (map (has_operator g) shapes)) (parts_by kind count role on shapes)

  tails_good : (on : Stands) (shapes : List Shape) → IsGoodBy TailRole on shapes
  tails_good on [] = none_good on _
  tails_good on (shape ∷ []) = tail_good on _ shape
  tails_good on (one ∷ other ∷ shapes) = none_good on _

  rests_good : (on : Stands) (shapes : List Shape) → IsGoodBy RestRole on shapes
  rests_good on [] = none_good on _
  rests_good on (shape ∷ []) = rest_good on _ shape
  rests_good on (one ∷ other ∷ shapes) = none_good on _

  -- a change of one side to another
  whole_good : (on : Stands) (operator other : Bool) (before after : Stands → List (Part Shape)) → AreGood Left operator (before Left) → AreGood Right other (after Right)
      → AreGood on operator (nested Whole on ++ before (left_of on) ++ after (right_of on))
  whole_good on operator other before after first second = change_good on operator other Whole before after (λ is. is) first second

  inner_good : (on : Stands) (operator other : Bool) (bracket : Shape) (before after : Stands → List (Part Shape)) → AreGood Left operator (before Left) → AreGood Right other (after Right)
      → AreGood on operator (nested (inner_at bracket) on ++ before (left_of on) ++ after (right_of on))
  inner_good on operator other bracket before after first second = change_good on operator other (inner_at bracket) before after (λ is. is) first second

  pub role_good : {role : Role} {sorts : List ℕ} → Suits n role sorts → (on : Stands) (shapes : List Shape) → Children IsKnown sorts shapes → IsGoodBy role on shapes
  role_good (suits_item item low) on shapes known =
      one_child IsKnown item shapes known (IsGoodBy ItemRole on) (λ a p.
      weaker on (has_operator g a) _ (part on (Item a)) (λ e. first_false (has_operator g a) false e) (item_good on a (p.term low)))
  role_good (suits_tail sorts) on shapes known = tails_good on shapes
  role_good (suits_entry key entry low same) on shapes known =
      two_children IsKnown key entry shapes known (IsGoodBy EntryRole on) (λ a b p q.
      weaker on (has_operator g a || has_operator g b) _ (entry_parts kind count on a b) (λ e. without_last (has_operator g a) (has_operator g b) e) (q.entry same on a (p.term low)))
  role_good (suits_rest sorts) on shapes known = rests_good on shapes
  role_good (suits_nothing sorts) on shapes known = none_good on _
  role_good (suits_inner opening before arrow after closing first second) on shapes known =
      five_children IsKnown opening before arrow after closing shapes known (IsGoodBy InnerRole on) (λ a b c d e p q.
      inner_good on (has_operator g b) (has_operator g d) a (λ side. parts_in kind count side b) (λ side. parts_in kind count side d) (p.parts first Left) (q.parts second Right))
  role_good (suits_part sort is) on shapes known =
      one_child IsKnown sort shapes known (IsGoodBy Splice on) (λ a p.
      two_good on (has_operator g a) false (parts_in kind count on a) [] (p.parts is on) (none_good on false))
  role_good (suits_parts sort other is also) on shapes known =
      two_children IsKnown sort other shapes known (IsGoodBy Splice on) (λ a b p q.
      two_good on (has_operator g a) (has_operator g b || false) (parts_in kind count on a) (parts_in kind count on b ++ []) (p.parts is on)
      (two_good on (has_operator g b) false (parts_in kind count on b) [] (q.parts also on) (none_good on false)))
  role_good (suits_whole before arrow after first second) on shapes known =
      three_children IsKnown before arrow after shapes known (IsGoodBy WholeRole on) (λ a b c p q r.
      whole_good on (has_operator g a) (has_operator g c) (λ side. parts_in kind count side a) (λ side. parts_in kind count side c) (p.parts first Left) (r.parts second Right))
  role_good (suits_made before arrow after first second) on shapes known =
      three_children IsKnown before arrow after shapes known (IsGoodBy MadeRole on) (λ a b c p q r.
      whole_good on (has_operator g a) (has_operator g c) (λ side. parts_in kind count side a) (λ side. part side (Made c)) (p.parts first Left) (made_good (has_operator g c) c (r.term second)))
  role_good (suits_value value low) on shapes known = none_good on _
  role_good (suits_changed opening before arrow after closing first second) on shapes known = none_good on _
  role_good (suits_becomes before arrow after first second) on shapes known =
      three_children IsKnown before arrow after shapes known (IsGoodBy Becomes on) (λ a b c p q r.
      whole_good on (has_operator g a) (has_operator g c) (λ side. part side (Item a)) (λ side. part side (Item c)) (item_good Left a (p.term first)) (item_good Right c (r.term second)))

  -- ---- behind a key

  abbrev IsGoodValue : Role → Stands → Shape → List Shape → Type 0
  IsGoodValue role on key shapes = AreGood on (has_operator g key || said_of_left true (map (has_operator g) shapes)) (value_parts role on key shapes)

  pub value_good : {role : Role} {sorts : List ℕ} → Suits n role sorts → (on : Stands) (key : Shape) → Term key → (shapes : List Shape) → Children IsKnown sorts shapes
      → IsGoodValue role on key shapes
  value_good (suits_item item low) on key term shapes known = none_good on _
  value_good (suits_tail sorts) on key term shapes known = none_good on _
  value_good (suits_entry other entry low same) on key term shapes known = none_good on _
  value_good (suits_rest sorts) on key term shapes known = none_good on _
  value_good (suits_nothing sorts) on key term shapes known = none_good on _
  value_good (suits_inner opening before arrow after closing first second) on key term shapes known = none_good on _
  value_good (suits_part sort is) on key term shapes known = none_good on _
  value_good (suits_parts sort other is also) on key term shapes known = none_good on _
  value_good (suits_whole before arrow after first second) on key term shapes known = none_good on _
  value_good (suits_made before arrow after first second) on key term shapes known = none_good on _
  value_good (suits_value value low) on key term shapes known =
      one_child IsKnown value shapes known (IsGoodValue Value on key) (λ a p.
      weaker on (has_operator g key || has_operator g a) _ (part on (Entry key a)) (λ e. without_last (has_operator g key) (has_operator g a) e) (entry_good on key a term (p.term low)))
  value_good (suits_changed opening before arrow after closing first second) on key term shapes known =
      five_children IsKnown opening before arrow after closing shapes known (IsGoodValue Changed on key) (λ a b c d e p q.
      inner_good on (has_operator g key || has_operator g b) (has_operator g key || has_operator g d) a (λ side. part side (Entry key b)) (λ side. part side (Entry key d))
      (entry_good Left key b term (p.term first)) (entry_good Right key d term (q.term second)))
  value_good (suits_becomes before arrow after first second) on key term shapes known = none_good on _

  pub entry-Node : (on : Stands) (key : Shape) (p : ℕ) (shapes : List Shape) → entry_parts kind count on key (Node p shapes) ≡ value_parts (role_of kind count p) on key shapes
  entry-Node on key p shapes = ap (value_parts (role_of kind count p) on key) (items_hidden-the_row-Shape-0 shapes)
