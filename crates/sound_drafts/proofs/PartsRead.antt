-- The parts of a content that is read: each stands at a sort of its kind, and on the left is no expression of a whole, where no change stands in another.
use Rattle.std.proofs.Common.{◌≡◌, ℕ, true, false, List, [], ◌∷◌, ◌++◌, ap, subst}
use Rattle.std.specs.List.{AllByRecursion}
use Rattle.k_terms.specs.Sorts.{sort_kitem}
use Rattle.grammar_terms.specs.declared.shape.Shape.{Shape, Leaf, Node', Items', Node, items_hidden-the_row-Shape-0}
use Rattle.rule_terms.specs.declared.defs.Kind.{Kind}
use Rattle.rule_parts.specs.declared.parts.Part.{Part}
use Rattle.rule_parts.specs.declared.parts.Role.{Role}
use Rattle.rule_parts.specs.declared.parts.Role.TheVariants.{Item as ItemRole, Tail as TailRole, Entry as EntryRole, Rest as RestRole, Inner as InnerRole, Splice, Whole as WholeRole, Made as MadeRole, Value, Changed, Becomes}
use Rattle.rule_parts.specs.declared.parts.Side.{Side as Stands}
use Rattle.rule_parts.specs.declared.parts.Side.TheVariants.{Both, Left, Right}
use Rattle.rule_parts.specs.declared.parts.What.{What}
use Rattle.rule_parts.specs.declared.parts.What.TheVariants.{Item, Tail, Entry, Rest, Made, Inner, Whole}
use Rattle.rule_parts.specs.Parts.{left_of, right_of, role_of, part, nested, inner_at, leaf_part, value_parts, entry_parts, parts_in, parts_by}
use Rattle.rule_parts.specs.Sides.{is_left, item_sort, whole_sort}
use Rattle.sound_drafts.proofs.PartRoles.{has_items, has_tails, has_entries, has_rests, Suits, suits_item, suits_tail, suits_entry, suits_rest, suits_nothing, suits_inner, suits_part, suits_parts, suits_whole, suits_made, suits_value, suits_changed, suits_becomes}

-- ---- no change in another

abbrev pub IsNotNested : What Shape → Type 0
IsNotNested (Item shape) = Unit {0}
IsNotNested (Tail at) = Unit {0}
IsNotNested (Entry key value) = Unit {0}
IsNotNested (Rest at) = Unit {0}
IsNotNested (Made shape) = Unit {0}
IsNotNested (Inner at) = ⊥
IsNotNested Whole = ⊥

abbrev pub NoneNested : List (Part Shape) → Type 0
NoneNested parts = AllByRecursion (λ (it : Part Shape). IsNotNested it.what) parts

abbrev pub IsNotMade : What Shape → Type 0
IsNotMade (Item shape) = Unit {0}
IsNotMade (Tail at) = Unit {0}
IsNotMade (Entry key value) = Unit {0}
IsNotMade (Rest at) = Unit {0}
IsNotMade (Made shape) = ⊥
IsNotMade (Inner at) = Unit {0}
IsNotMade Whole = Unit {0}

-- ---- lists

pub front_of : {X : Type 0} (P : X → Type 0) (xs ys : List X) → AllByRecursion P (xs ++ ys) → AllByRecursion P xs
front_of P [] ys all = tt
front_of P (x ∷ xs) ys all = (all.0, front_of P xs ys all.1)

pub behind_of : {X : Type 0} (P : X → Type 0) (xs ys : List X) → AllByRecursion P (xs ++ ys) → AllByRecursion P ys
behind_of P [] ys all = all
behind_of P (x ∷ xs) ys all = behind_of P xs ys all.1

pub both_of : {X : Type 0} (P : X → Type 0) (xs ys : List X) → AllByRecursion P xs → AllByRecursion P ys → AllByRecursion P (xs ++ ys)
both_of P [] ys one other = other
both_of P (x ∷ xs) ys one other = (one.0, both_of P xs ys one.1 other)

-- shapes that are known by the sorts that they stand at
abbrev pub Children : (ℕ → Shape → Type 0) → List ℕ → List Shape → Type 0
Children P [] [] = Unit {0}
Children P (sort ∷ sorts) (shape ∷ shapes) = P sort shape × Children P sorts shapes
Children P [] (shape ∷ shapes) = ⊥
Children P (sort ∷ sorts) [] = ⊥

module _ (P : ℕ → Shape → Type 0) where
  no_child : (shapes : List Shape) → Children P [] shapes → (Q : List Shape → Type 0) → Q [] → Q shapes
  no_child [] known Q is = is
  no_child (shape ∷ shapes) known Q is = absurd known

  next_child : (sort : ℕ) (sorts : List ℕ) (shapes : List Shape) → Children P (sort ∷ sorts) shapes → (Q : List Shape → Type 0)
      → ((shape : Shape) (more : List Shape) → P sort shape → Children P sorts more → Q (shape ∷ more)) → Q shapes
  next_child sort sorts [] known Q is = absurd known
  next_child sort sorts (shape ∷ shapes) known Q is = is shape shapes known.0 known.1

  pub one_child : (sort : ℕ) (shapes : List Shape) → Children P (sort ∷ []) shapes → (Q : List Shape → Type 0) → ((a : Shape) → P sort a → Q (a ∷ [])) → Q shapes
  one_child sort shapes known Q is = next_child sort [] shapes known Q (λ a more p last. no_child more last (λ rest. Q (a ∷ rest)) (is a p))

  two_children : (first second : ℕ) (shapes : List Shape) → Children P (first ∷ second ∷ []) shapes → (Q : List Shape → Type 0)
      → ((a b : Shape) → P first a → P second b → Q (a ∷ b ∷ [])) → Q shapes
  two_children first second shapes known Q is =
      next_child first (second ∷ []) shapes known Q (λ a more p later. one_child second more later (λ rest. Q (a ∷ rest)) (λ b q. is a b p q))

  pub three_children : (first second third : ℕ) (shapes : List Shape) → Children P (first ∷ second ∷ third ∷ []) shapes → (Q : List Shape → Type 0)
      → ((a b c : Shape) → P first a → P second b → P third c → Q (a ∷ b ∷ c ∷ [])) → Q shapes
  three_children first second third shapes known Q is =
      next_child first (second ∷ third ∷ []) shapes known Q (λ a more p later. two_children second third more later (λ rest. Q (a ∷ rest)) (λ b c q r. is a b c p q r))

  five_children : (first second third fourth fifth : ℕ) (shapes : List Shape) → Children P (first ∷ second ∷ third ∷ fourth ∷ fifth ∷ []) shapes → (Q : List Shape → Type 0)
      → ((a b c d e : Shape) → P second b → P fourth d → Q (a ∷ b ∷ c ∷ d ∷ e ∷ [])) → Q shapes
  five_children first second third fourth fifth shapes known Q is =
      next_child first (second ∷ third ∷ fourth ∷ fifth ∷ []) shapes known Q (λ a more p later.
      next_child second (third ∷ fourth ∷ fifth ∷ []) more later (λ rest. Q (a ∷ rest)) (λ b more q later.
      three_children third fourth fifth more later (λ rest. Q (a ∷ b ∷ rest)) (λ c d e r s t. is a b c d e q s)))

-- ---- parts, where what is read at a sort is told

module _ (kind : Kind) (count : ℕ) (ReadAt : ℕ → Shape → Type 0) where
  abbrev pub IsReadWhat : What Shape → Type 0
  IsReadWhat (Item shape) = (has_items kind ≡ true) × ReadAt (item_sort kind) shape
  IsReadWhat (Tail at) = has_tails kind ≡ true
  IsReadWhat (Entry key value) = (has_entries kind ≡ true) × ReadAt sort_kitem key × ReadAt sort_kitem value
  IsReadWhat (Rest at) = has_rests kind ≡ true
  IsReadWhat (Made shape) = ReadAt (whole_sort kind) shape
  IsReadWhat (Inner at) = Unit {0}
  IsReadWhat Whole = Unit {0}

  abbrev pub IsReadPart : Part Shape → Type 0
  IsReadPart it = IsReadWhat it.what × (is_left it.side ≡ true → IsNotMade it.what)

  -- where no change stands in another
  pub record AreReadParts (parts : List (Part Shape)) : Type 0 where
    pub all : NoneNested parts → AllByRecursion IsReadPart parts

  -- what is known of a shape that stands at a sort
  pub record IsKnown (sort : ℕ) (shape : Shape) : Type 0 where
    pub read : ReadAt sort shape
    pub parts : (on : Stands) → AreReadParts (parts_in kind count on shape)
    pub entry : (on : Stands) (key : Shape) → has_entries kind ≡ true → ReadAt sort_kitem key → AreReadParts (entry_parts kind count on key shape)

  pub no_parts : AreReadParts []
  no_parts = record { all = λ none. tt }

  pub two_read : (xs ys : List (Part Shape)) → AreReadParts xs → AreReadParts ys → AreReadParts (xs ++ ys)
  two_read xs ys first second = record {
    all = λ none.
        both_of IsReadPart xs ys (first.all (front_of (λ (it : Part Shape). IsNotNested it.what) xs ys none)) (second.all (behind_of (λ (it : Part Shape). IsNotNested it.what) xs ys none));
  }

  -- a change: on both sides its parts are of one side each, and else it stands in another
  change_read : (on : Stands) (mark : What Shape) (before after : Stands → List (Part Shape)) → (IsNotNested mark → ⊥) → AreReadParts (before Left) → AreReadParts (after Right)
      → AreReadParts (nested mark on ++ before (left_of on) ++ after (right_of on))
  change_read Both mark before after marks first second = two_read (before Left) (after Right) first second
  change_read Left mark before after marks first second = record { all = λ none. absurd (marks none.0) }
  change_read Right mark before after marks first second = record { all = λ none. absurd (marks none.0) }

  whole_read : (on : Stands) (before after : Stands → List (Part Shape)) → AreReadParts (before Left) → AreReadParts (after Right)
      → AreReadParts (nested Whole on ++ before (left_of on) ++ after (right_of on))
  whole_read on before after first second = change_read on Whole before after (λ is. is) first second

  inner_read : (on : Stands) (bracket : Shape) (before after : Stands → List (Part Shape)) → AreReadParts (before Left) → AreReadParts (after Right)
      → AreReadParts (nested (inner_at bracket) on ++ before (left_of on) ++ after (right_of on))
  inner_read on bracket before after first second = change_read on (inner_at bracket) before after (λ is. is) first second

  -- ---- one part

  item_read : (on : Stands) (shape : Shape) → has_items kind ≡ true → ReadAt (item_sort kind) shape → AreReadParts (part on (Item shape))
  item_read on shape may read = record { all = λ none. (((may, read), λ here. tt), tt) }

  entry_read : (on : Stands) (key value : Shape) → has_entries kind ≡ true → ReadAt sort_kitem key → ReadAt sort_kitem value → AreReadParts (part on (Entry key value))
  entry_read on key value may first second = record { all = λ none. (((may, first, second), λ here. tt), tt) }

  made_read : (shape : Shape) → ReadAt (whole_sort kind) shape → AreReadParts (part Right (Made shape))
  made_read shape read = record { all = λ none. ((read, λ here. absurd (let f : false ≡ true = here in cc)), tt) }

  tail_read : (on : Stands) (shape : Shape) → has_tails kind ≡ true → AreReadParts (leaf_part Tail on shape)
  tail_read on (Leaf at) may = record { all = λ none. ((may, λ here. tt), tt) }
  tail_read on (Node' p s shapes) may = no_parts
  tail_read on (Items' p s shapes rest) may = no_parts

  rest_read : (on : Stands) (shape : Shape) → has_rests kind ≡ true → AreReadParts (leaf_part Rest on shape)
  rest_read on (Leaf at) may = record { all = λ none. ((may, λ here. tt), tt) }
  rest_read on (Node' p s shapes) may = no_parts
  rest_read on (Items' p s shapes rest) may = no_parts

  -- ---- by the role of a production

  abbrev IsReadBy : Role → Stands → List Shape → Type 0
  IsReadBy role on shapes = AreReadParts (parts_by kind count role on shapes)

  tails_read : (on : Stands) (shapes : List Shape) → has_tails kind ≡ true → IsReadBy TailRole on shapes
  tails_read on [] may = no_parts
  tails_read on (shape ∷ []) may = tail_read on shape may
  tails_read on (one ∷ other ∷ shapes) may = no_parts

  rests_read : (on : Stands) (shapes : List Shape) → has_rests kind ≡ true → IsReadBy RestRole on shapes
  rests_read on [] may = no_parts
  rests_read on (shape ∷ []) may = rest_read on shape may
  rests_read on (one ∷ other ∷ shapes) may = no_parts

  at_sort : (one other : ℕ) (shape : Shape) → one ≡ other → IsKnown one shape → ReadAt other shape
  at_sort one other shape same known = subst (λ (sort : ℕ). ReadAt sort shape) same known.read

  pub role_read : {role : Role} {sorts : List ℕ} → Suits kind role sorts → (on : Stands) (shapes : List Shape) → Children IsKnown sorts shapes → IsReadBy role on shapes
  role_read (suits_item item may same) on shapes known = one_child IsKnown item shapes known (IsReadBy ItemRole on) (λ a p. item_read on a may (at_sort item (item_sort kind) a same p))
  role_read (suits_tail sorts may) on shapes known = tails_read on shapes may
  role_read (suits_entry key entry may same) on shapes known =
      two_children IsKnown key entry shapes known (IsReadBy EntryRole on) (λ a b p q. q.entry on a may (at_sort key sort_kitem a same p))
  role_read (suits_rest sorts may) on shapes known = rests_read on shapes may
  role_read (suits_nothing sorts) on shapes known = no_parts
  role_read (suits_inner opening before arrow after closing) on shapes known =
      five_children IsKnown opening before arrow after closing shapes known (IsReadBy InnerRole on) (λ a b c d e p q.
      inner_read on a (λ side. parts_in kind count side b) (λ side. parts_in kind count side d) (p.parts Left) (q.parts Right))
  role_read (suits_part sort) on shapes known =
      one_child IsKnown sort shapes known (IsReadBy Splice on) (λ a p. two_read (parts_in kind count on a) [] (p.parts on) no_parts)
  role_read (suits_parts sort other) on shapes known =
      two_children IsKnown sort other shapes known (IsReadBy Splice on) (λ a b p q.
      two_read (parts_in kind count on a) (parts_in kind count on b ++ []) (p.parts on) (two_read (parts_in kind count on b) [] (q.parts on) no_parts))
  role_read (suits_whole before arrow after) on shapes known =
      three_children IsKnown before arrow after shapes known (IsReadBy WholeRole on) (λ a b c p q r.
      whole_read on (λ side. parts_in kind count side a) (λ side. parts_in kind count side c) (p.parts Left) (r.parts Right))
  role_read (suits_made before arrow after same) on shapes known =
      three_children IsKnown before arrow after shapes known (IsReadBy MadeRole on) (λ a b c p q r.
      whole_read on (λ side. parts_in kind count side a) (λ side. part side (Made c)) (p.parts Left) (made_read c (at_sort after (whole_sort kind) c same r)))
  role_read (suits_value value may same) on shapes known = no_parts
  role_read (suits_changed opening before arrow after closing may first second) on shapes known = no_parts
  role_read (suits_becomes before arrow after may first second) on shapes known =
      three_children IsKnown before arrow after shapes known (IsReadBy Becomes on) (λ a b c p q r.
      whole_read on (λ side. part side (Item a)) (λ side. part side (Item c)) (item_read Left a may (at_sort before (item_sort kind) a first p))
      (item_read Right c may (at_sort after (item_sort kind) c second r)))

  -- ---- behind a key

  abbrev IsReadValue : Role → Stands → Shape → List Shape → Type 0
  IsReadValue role on key shapes = AreReadParts (value_parts role on key shapes)

  pub value_read : {role : Role} {sorts : List ℕ} → Suits kind role sorts → (on : Stands) (key : Shape) → has_entries kind ≡ true → ReadAt sort_kitem key → (shapes : List Shape)
      → Children IsKnown sorts shapes → IsReadValue role on key shapes
  value_read (suits_item item may same) on key has read shapes known = no_parts
  value_read (suits_tail sorts may) on key has read shapes known = no_parts
  value_read (suits_entry other entry may same) on key has read shapes known = no_parts
  value_read (suits_rest sorts may) on key has read shapes known = no_parts
  value_read (suits_nothing sorts) on key has read shapes known = no_parts
  value_read (suits_inner opening before arrow after closing) on key has read shapes known = no_parts
  value_read (suits_part sort) on key has read shapes known = no_parts
  value_read (suits_parts sort other) on key has read shapes known = no_parts
  value_read (suits_whole before arrow after) on key has read shapes known = no_parts
  value_read (suits_made before arrow after same) on key has read shapes known = no_parts
  value_read (suits_value value may same) on key has read shapes known =
      one_child IsKnown value shapes known (IsReadValue Value on key) (λ a p. entry_read on key a may read (at_sort value sort_kitem a same p))
  value_read (suits_changed opening before arrow after closing may first second) on key has read shapes known =
      five_children IsKnown opening before arrow after closing shapes known (IsReadValue Changed on key) (λ a b c d e p q.
      inner_read on a (λ side. part side (Entry key b)) (λ side. part side (Entry key d)) (entry_read Left key b may read (at_sort before sort_kitem b first p))
      (entry_read Right key d may read (at_sort after sort_kitem d second q)))
  value_read (suits_becomes before arrow after may first second) on key has read shapes known = no_parts

  pub entry-Node : (on : Stands) (key : Shape) (p : ℕ) (shapes : List Shape) → entry_parts kind count on key (Node p shapes) ≡ value_parts (role_of kind count p) on key shapes
  entry-Node on key p shapes = ap (value_parts (role_of kind count p) on key) (items_hidden-the_row-Shape-0 shapes)
