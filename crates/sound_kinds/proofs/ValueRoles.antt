-- The parts of a content by the role of a production: each item and each whole expression is of its sort.
use Rattle.std.proofs.Common.{◌≡◌, ℕ, zero, suc, ◌+◌, ◌-◌, ◌≤◌, true, cond, List, [], ◌∷◌, ◌++◌, Option, Some, None, refl, sym, ap, subst, ◌∙◌, arith}
use Rattle.std.proofs.lemmas.Bool.Decides.{nat_tests}
use Rattle.std.specs.Prelude.{slice_get, nat_lt}
use Rattle.std.specs.List.{AllByRecursion}
use Rattle.k_terms.specs.Sorts.{sort_map, sort_list}
use Rattle.grammar_terms.specs.declared.production.Production.{Production}
use Rattle.grammar_terms.specs.declared.shape.Shape.{Shape, Leaf, Node', Items', items-the_row-Shape}
use Rattle.grammar_terms.specs.Grammar.{Syntax}
use Rattle.grammar_terms.specs.Values.{sorts_in}
use Rattle.rule_terms.specs.declared.defs.Kind.{Kind}
use Rattle.rule_terms.specs.declared.defs.Kind.TheVariants.{Cells as CellsKind, Seq as SeqKind, Map as MapKind, List as ListKind, One as OneKind}
use Rattle.rule_contents.specs.Contents.{numbers_of, content_prods}
use Rattle.rule_parts.specs.declared.parts.Part.{Part}
use Rattle.rule_parts.specs.declared.parts.Role.{Role}
use Rattle.rule_parts.specs.declared.parts.Role.TheVariants.{Item as ItemRole, Tail as TailRole, Entry as EntryRole, Rest as RestRole, Nothing, Inner as InnerRole, Splice, Whole as WholeRole, Made as MadeRole, Value, Changed, Becomes}
use Rattle.rule_parts.specs.declared.parts.Side.{Side as Stands}
use Rattle.rule_parts.specs.declared.parts.Side.TheVariants.{Both, Left, Right}
use Rattle.rule_parts.specs.declared.parts.What.{What}
use Rattle.rule_parts.specs.declared.parts.What.TheVariants.{Item, Tail, Entry, Rest, Made, Inner, Whole}
use Rattle.rule_parts.specs.Parts.{left_of, right_of, roles, role_among, role_of, part, nested, inner_at, leaf_part, value_parts, entry_parts, parts_in, parts_by}
use Rattle.sound_patterns.proofs.Parts.{Children, both_of}
use Rattle.sound_patterns.proofs.Roles.{Suits, suits_item, suits_tail, suits_entry, suits_rest, suits_nothing, suits_inner, suits_part, suits_parts, suits_whole, suits_made, suits_value, suits_changed, suits_becomes}
use Rattle.sound_kinds.proofs.BaseSorts.{IsBase}

-- ---- sorts that are asked for

-- the sort of an item that is a single value, and that of an expression for a whole map or list
abbrev pub item_want : Kind → Option ℕ
item_want CellsKind = None
item_want SeqKind = None
item_want MapKind = None
item_want ListKind = None
item_want (OneKind sort) = Some sort

abbrev pub made_want : Kind → Option ℕ
made_want CellsKind = None
made_want SeqKind = None
made_want MapKind = Some sort_map
made_want ListKind = Some sort_list
made_want (OneKind sort) = None

abbrev pub IsPlace : Option ℕ → ℕ → Type 0
IsPlace None sort = Unit {0}
IsPlace (Some own) sort = sort ≡ own

-- a role has items of these sorts
abbrev pub IsExact : Kind → Role → List ℕ → Type 0
IsExact kind ItemRole (item ∷ []) = IsPlace (item_want kind) item
IsExact kind Becomes (before ∷ arrow ∷ after ∷ []) = IsPlace (item_want kind) before × IsPlace (item_want kind) after
IsExact kind MadeRole (before ∷ arrow ∷ after ∷ []) = IsPlace (made_want kind) after
IsExact kind role sorts = Unit {0}

-- a role of a single value or of one that becomes another
abbrev pub IsLone : Role → List ℕ → Type 0
IsLone ItemRole (item ∷ []) = Unit {0}
IsLone Becomes (before ∷ arrow ∷ after ∷ []) = Unit {0}
IsLone role sorts = ⊥

-- ---- roles and productions in their order

abbrev pub PairedBy : (Role → List ℕ → Type 0) → List Role → List Production → Type 0
PairedBy P [] [] = Unit {0}
PairedBy P (role ∷ all) (production ∷ productions) = P role (sorts_in production.items) × PairedBy P all productions
PairedBy P [] (production ∷ productions) = ⊥
PairedBy P (role ∷ all) [] = ⊥

pub paired_by : (P : Role → List ℕ → Type 0) (all : List Role) (productions : List Production) (i : ℕ) (production : Production) → PairedBy P all productions
    → slice_get productions i ≡ Some production → P (role_among all i) (sorts_in production.items)
paired_by P [] [] i production paired e = absurd (let f : None ≡ Some production = e in cc)
paired_by P [] (one ∷ productions) i production paired e = absurd paired
paired_by P (role ∷ all) [] i production paired e = absurd paired
paired_by P (role ∷ all) (one ∷ productions) zero production paired e = let same : one ≡ production = cc in subst (λ (it : Production). P role (sorts_in it.items)) same paired.0
paired_by P (role ∷ all) (one ∷ productions) (suc i) production paired e = paired_by P all productions i production paired.1 e

pub exact_paired : (g : Syntax) (kind : Kind) → PairedBy (IsExact kind) (roles kind) (content_prods (numbers_of g) kind)
exact_paired g CellsKind = tt
exact_paired g SeqKind = (tt, (tt, (tt, (tt, (tt, (tt, (tt, (tt, (tt, (tt, tt))))))))))
exact_paired g MapKind = (tt, (tt, (tt, (tt, (tt, (tt, (tt, (tt, (tt, (tt, (tt, (refl, tt))))))))))))
exact_paired g ListKind = (tt, (tt, (tt, (tt, (tt, (tt, (tt, (tt, (tt, (refl, tt))))))))))
exact_paired g (OneKind sort) = (refl, ((refl, refl), tt))

pub lone_paired : (g : Syntax) (sort : ℕ) → PairedBy IsLone (roles (OneKind sort)) (content_prods (numbers_of g) (OneKind sort))
lone_paired g sort = (tt, (tt, tt))

pub role_is : (kind : Kind) (count p j : ℕ) → p ≡ count + j + 1 → role_of kind count p ≡ role_among (roles kind) j
role_is kind count p j place =
    let behind : nat_lt count p ≡ true = grind (arith, nat_tests) in
    let same : p - count - 1 ≡ j = omega (arith, place) in
    ap (λ b. cond b (role_among (roles kind) (p - count - 1)) Nothing) behind ∙ ap (role_among (roles kind)) same

-- ---- children

module _ (P : ℕ → Shape → Type 0) where
  no_child : (shapes : List Shape) → Children P [] shapes → (Q : List Shape → Type 0) → Q [] → Q shapes
  no_child [] known Q is = is
  no_child (shape ∷ shapes) known Q is = absurd known

  next_child : (sort : ℕ) (sorts : List ℕ) (shapes : List Shape) → Children P (sort ∷ sorts) shapes → (Q : List Shape → Type 0)
      → ((shape : Shape) (more : List Shape) → P sort shape → Children P sorts more → Q (shape ∷ more)) → Q shapes
  next_child sort sorts [] known Q is = absurd known
  next_child sort sorts (shape ∷ shapes) known Q is = is shape shapes known.0 known.1

  pub one_child : (sort : ℕ) (shapes : List Shape) → Children P (sort ∷ []) shapes → (Q : List Shape → Type 0) → ((a : Shape) → P sort a → Q (a ∷ [])) → Q shapes
  one_child sort shapes known Q is = next_child sort [] shapes known Q (λ a more p last. no_child more last (λ rest. Q (a ∷ rest)) (is a p))

  two_children : (first second : ℕ) (shapes : List Shape) → Children P (first ∷ second ∷ []) shapes → (Q : List Shape → Type 0)
      → ((a b : Shape) → P first a → P second b → Q (a ∷ b ∷ [])) → Q shapes
  two_children first second shapes known Q is =
      next_child first (second ∷ []) shapes known Q (λ a more p later. one_child second more later (λ rest. Q (a ∷ rest)) (λ b q. is a b p q))

  pub three_children : (first second third : ℕ) (shapes : List Shape) → Children P (first ∷ second ∷ third ∷ []) shapes → (Q : List Shape → Type 0)
      → ((a b c : Shape) → P first a → P second b → P third c → Q (a ∷ b ∷ c ∷ [])) → Q shapes
  three_children first second third shapes known Q is =
      next_child first (second ∷ third ∷ []) shapes known Q (λ a more p later. two_children second third more later (λ rest. Q (a ∷ rest)) (λ b c q r. is a b c p q r))

  five_children : (first second third fourth fifth : ℕ) (shapes : List Shape) → Children P (first ∷ second ∷ third ∷ fourth ∷ fifth ∷ []) shapes → (Q : List Shape → Type 0)
      → ((a b c d e : Shape) → P second b → P fourth d → Q (a ∷ b ∷ c ∷ d ∷ e ∷ [])) → Q shapes
  five_children first second third fourth fifth shapes known Q is =
      next_child first (second ∷ third ∷ fourth ∷ fifth ∷ []) shapes known Q (λ a more p later.
      next_child second (third ∷ fourth ∷ fifth ∷ []) more later (λ rest. Q (a ∷ rest)) (λ b more q later.
      three_children third fourth fifth more later (λ rest. Q (a ∷ b ∷ rest)) (λ c d e r s t. is a b c d e q s)))

-- ---- parts that are right

module _ (Val : ℕ → Shape → Type 0) (kind : Kind) (n count : ℕ) (items_base : (sort : ℕ) → item_want kind ≡ Some sort → IsBase sort)
    (made_base : (sort : ℕ) → made_want kind ≡ Some sort → IsBase sort) where
  abbrev pub IsWanted : Option ℕ → Shape → Type 0
  IsWanted None shape = Unit {0}
  IsWanted (Some sort) shape = Val sort shape

  -- a part's item or expression is of its sort
  abbrev pub IsRight : What Shape → Type 0
  IsRight (Item shape) = IsWanted (item_want kind) shape
  IsRight (Tail at) = Unit {0}
  IsRight (Entry key value) = Unit {0}
  IsRight (Rest at) = Unit {0}
  IsRight (Made shape) = IsWanted (made_want kind) shape
  IsRight (Inner at) = Unit {0}
  IsRight Whole = Unit {0}

  abbrev pub AreRight : List (Part Shape) → Type 0
  AreRight parts = AllByRecursion (λ (it : Part Shape). IsRight it.what) parts

  -- what is known of a shape that stands at a sort
  pub record IsKnown (sort : ℕ) (shape : Shape) : Type 0 where
    pub value : IsBase sort → Val sort shape
    pub parts : n ≤ sort → (on : Stands) → AreRight (parts_in kind count on shape)

  two_right : (xs ys : List (Part Shape)) → AreRight xs → AreRight ys → AreRight (xs ++ ys)
  two_right xs ys one other = both_of (λ (it : Part Shape). IsRight it.what) xs ys one other

  nested_right : (mark : What Shape) (on : Stands) → IsRight mark → AreRight (nested mark on)
  nested_right mark Both is = tt
  nested_right mark Left is = (is, tt)
  nested_right mark Right is = (is, tt)

  change_right : (mark : What Shape) (on : Stands) (xs ys : List (Part Shape)) → IsRight mark → AreRight xs → AreRight ys → AreRight (nested mark on ++ xs ++ ys)
  change_right mark on xs ys is one other = two_right (nested mark on ++ xs) ys (two_right (nested mark on) xs (nested_right mark on is) one) other

  wanted : (o : Option ℕ) (sort : ℕ) (shape : Shape) → ((own : ℕ) → o ≡ Some own → IsBase own) → IsPlace o sort → IsKnown sort shape → IsWanted o shape
  wanted None sort shape based place known = tt
  wanted (Some own) sort shape based place known = subst (λ s. Val s shape) place (known.value (subst IsBase (sym place) (based own refl)))

  tail_right : (on : Stands) (shape : Shape) → AreRight (leaf_part Tail on shape)
  tail_right on (Leaf at) = (tt, tt)
  tail_right on (Node' p s shapes) = tt
  tail_right on (Items' p s shapes rest) = tt

  rest_right : (on : Stands) (shape : Shape) → AreRight (leaf_part Rest on shape)
  rest_right on (Leaf at) = (tt, tt)
  rest_right on (Node' p s shapes) = tt
  rest_right on (Items' p s shapes rest) = tt

  value_right : (role : Role) (on : Stands) (key : Shape) (shapes : List Shape) → AreRight (value_parts role on key shapes)
  value_right Value on key (value ∷ []) = (tt, tt)
  value_right Changed on key (bracket ∷ before ∷ arrow ∷ after ∷ closing ∷ []) =
      change_right (inner_at bracket) on (part (left_of on) (Entry key before)) (part (right_of on) (Entry key after)) tt (tt, tt) (tt, tt)
  value_right role on key shapes = tt

  entry_right : (on : Stands) (key entry : Shape) → AreRight (entry_parts kind count on key entry)
  entry_right on key (Leaf at) = tt
  entry_right on key (Node' p s shapes) = value_right (role_of kind count p) on key (items-the_row-Shape _ shapes)
  entry_right on key (Items' p s shapes rest) = tt

  abbrev IsRightBy : Role → Stands → List Shape → Type 0
  IsRightBy role on shapes = AreRight (parts_by kind count role on shapes)

  tails_right : (on : Stands) (shapes : List Shape) → IsRightBy TailRole on shapes
  tails_right on [] = tt
  tails_right on (shape ∷ []) = tail_right on shape
  tails_right on (one ∷ other ∷ shapes) = tt

  rests_right : (on : Stands) (shapes : List Shape) → IsRightBy RestRole on shapes
  rests_right on [] = tt
  rests_right on (shape ∷ []) = rest_right on shape
  rests_right on (one ∷ other ∷ shapes) = tt

  pub role_right : {role : Role} {sorts : List ℕ} → Suits n role sorts → IsExact kind role sorts → (on : Stands) (shapes : List Shape) → Children IsKnown sorts shapes
      → IsRightBy role on shapes
  role_right (suits_item item low) exact on shapes known =
      one_child IsKnown item shapes known (IsRightBy ItemRole on) (λ a p. (wanted (item_want kind) item a items_base exact p, tt))
  role_right (suits_tail sorts) exact on shapes known = tails_right on shapes
  role_right (suits_entry key entry low same) exact on shapes known =
      two_children IsKnown key entry shapes known (IsRightBy EntryRole on) (λ a b p q. entry_right on a b)
  role_right (suits_rest sorts) exact on shapes known = rests_right on shapes
  role_right (suits_nothing sorts) exact on shapes known = tt
  role_right (suits_inner opening before arrow after closing first second) exact on shapes known =
      five_children IsKnown opening before arrow after closing shapes known (IsRightBy InnerRole on) (λ a b c d e p q.
      change_right (inner_at a) on (parts_in kind count (left_of on) b) (parts_in kind count (right_of on) d) tt (p.parts first.0 (left_of on)) (q.parts second.0 (right_of on)))
  role_right (suits_part sort is) exact on shapes known =
      one_child IsKnown sort shapes known (IsRightBy Splice on) (λ a p. two_right (parts_in kind count on a) [] (p.parts is.0 on) tt)
  role_right (suits_parts sort other is also) exact on shapes known =
      two_children IsKnown sort other shapes known (IsRightBy Splice on) (λ a b p q.
      two_right (parts_in kind count on a) (parts_in kind count on b ++ []) (p.parts is.0 on) (two_right (parts_in kind count on b) [] (q.parts also.0 on) tt))
  role_right (suits_whole before arrow after first second) exact on shapes known =
      three_children IsKnown before arrow after shapes known (IsRightBy WholeRole on) (λ a b c p q r.
      change_right Whole on (parts_in kind count (left_of on) a) (parts_in kind count (right_of on) c) tt (p.parts first.0 (left_of on)) (r.parts second.0 (right_of on)))
  role_right (suits_made before arrow after first second) exact on shapes known =
      three_children IsKnown before arrow after shapes known (IsRightBy MadeRole on) (λ a b c p q r.
      change_right Whole on (parts_in kind count (left_of on) a) (part (right_of on) (Made c)) tt (p.parts first.0 (left_of on)) (wanted (made_want kind) after c made_base exact r, tt))
  role_right (suits_value value low) exact on shapes known = tt
  role_right (suits_changed opening before arrow after closing first second) exact on shapes known = tt
  role_right (suits_becomes before arrow after first second) exact on shapes known =
      three_children IsKnown before arrow after shapes known (IsRightBy Becomes on) (λ a b c p q r.
      change_right Whole on (part (left_of on) (Item a)) (part (right_of on) (Item c)) tt (wanted (item_want kind) before a items_base exact.0 p, tt)
      (wanted (item_want kind) after c items_base exact.1 r, tt))
