-- Sets that are cut to a few members.
use Rattle.std.proofs.Common.{ℕ, ◌≡◌, ◌⊎◌, inl, inr, List, [], ◌∷◌, ◌++◌, map, refl, sym, ap, ◌∙◌, subst}
use Rattle.std.proofs.lemmas.List.{append_cancel_left, append_cancel_right}
use Rattle.grammar_terms.specs.declared.shape.Shape.{Shape, Shape-F, Node, out-Shape}
use Rattle.grammar_terms.specs.declared.shape.Shape.TheVariants.{outs-Node}
use Rattle.grammar_terms.specs.declared.shape.Shape.TheOpen.{Leaf as Leaf-F, Node as Node-F, Items as Items-F}
use Rattle.grammar_terms.specs.Cuts.{Has, HasTwo, Cuts, IsJoined, joined, IsImage}

pub has_left : {X : Type 0} (xs ys : List X) (x : X) → Has xs x → Has (xs ++ ys) x
has_left [] ys x has = elim has [ ]
has_left (y ∷ xs) ys x (inl same) = inl same
has_left (y ∷ xs) ys x (inr has) = inr (has_left xs ys x has)

pub has_right : {X : Type 0} (xs ys : List X) (x : X) → Has ys x → Has (xs ++ ys) x
has_right [] ys x has = has
has_right (y ∷ xs) ys x has = inr (has_right xs ys x has)

pub has_either : {X : Type 0} (xs ys : List X) (x : X) → Has (xs ++ ys) x → Has xs x ⊎ Has ys x
has_either [] ys x has = inr has
has_either (y ∷ xs) ys x (inl same) = inl (inl same)
has_either (y ∷ xs) ys x (inr has) = elim (has_either xs ys x has) [ inl front ↦ inl (inr front) | inr back ↦ inr back ]

pub has_map : {X Y : Type 0} (f : X → Y) (xs : List X) (x : X) → Has xs x → Has (map f xs) (f x)
has_map f [] x has = elim has [ ]
has_map f (y ∷ xs) x (inl same) = inl (ap f same)
has_map f (y ∷ xs) x (inr has) = inr (has_map f xs x has)

pub of_map : {X Y : Type 0} (f : X → Y) (xs : List X) (y : Y) → Has (map f xs) y → (x : X) × Has xs x × (y ≡ f x)
of_map f [] y has = elim has [ ]
of_map f (x ∷ xs) y (inl same) = (x, inl refl, sym same)
of_map f (x ∷ xs) y (inr has) = let found = of_map f xs y has in (found.0, inr found.1, found.2)

-- two different members of a list are two of a longer one
pub two_in : {X : Type 0} (xs ys : List X) → ((x : X) → Has xs x → Has ys x) → HasTwo xs → HasTwo ys
two_in xs ys into two = record {
  one = two.one;
  other = two.other;
  has_one = into two.one two.has_one;
  has_other = into two.other two.has_other;
  differ = two.differ;
}

pub cuts_again : {X : Type 0} (S : X → Type 0) (kept fewer : List X) → Cuts S kept → Cuts (Has kept) fewer → Cuts S fewer
cuts_again S kept fewer cut again = record {
  within = λ x has. cut.within x (again.within x has);
  enough = λ x is. elim (cut.enough x is) [
    | inl has ↦ again.enough x has
    | inr two ↦ elim (again.enough two.one two.has_one) [
      | inl one ↦ elim (again.enough two.other two.has_other) [
        | inl other ↦ inr (record { one = two.one; other = two.other; has_one = one; has_other = other; differ = two.differ })
        | inr both ↦ inr both
      ]
      | inr both ↦ inr both
    ]
  ];
}

pub cuts_unions : {X : Type 0} (S T : X → Type 0) (kept other : List X) → Cuts S kept → Cuts T other → Cuts (λ x. S x ⊎ T x) (kept ++ other)
cuts_unions S T kept other cut also = record {
  within = λ x has. elim (has_either kept other x has) [ inl front ↦ inl (cut.within x front) | inr back ↦ inr (also.within x back) ];
  enough = λ x is. elim is [
    | inl first ↦ elim (cut.enough x first) [ inl has ↦ inl (has_left kept other x has) | inr two ↦ inr (two_in kept (kept ++ other) (has_left kept other) two) ]
    | inr second ↦ elim (also.enough x second) [ inl has ↦ inl (has_right kept other x has) | inr two ↦ inr (two_in other (kept ++ other) (has_right kept other) two) ]
  ];
}

pub cuts_images : {X Y : Type 0} (f : X → Y) (S : X → Type 0) (kept : List X) → ((x y : X) → f x ≡ f y → x ≡ y) → Cuts S kept → Cuts (IsImage f S) (map f kept)
cuts_images f S kept apart cut = record {
  within = λ y has. let found = of_map f kept y has in record { x = found.0; is_member = cut.within found.0 found.1; is = found.2 };
  enough = λ y image. elim (cut.enough image.x image.is_member) [
    | inl has ↦ inl (subst (Has (map f kept)) (sym image.is) (has_map f kept image.x has))
    | inr two ↦ inr (record {
      one = f two.one;
      other = f two.other;
      has_one = has_map f kept two.one two.has_one;
      has_other = has_map f kept two.other two.has_other;
      differ = λ same. two.differ (apart two.one two.other same);
    })
  ];
}

-- the lists that one list makes with each of some shapes
abbrev with_each : List Shape → List Shape → List (List Shape)
with_each lasts front = map (λ last. front ++ last ∷ []) lasts

has_joined : (fronts : List (List Shape)) (lasts : List Shape) (front : List Shape) (last : Shape) → Has fronts front → Has lasts last → Has (joined fronts lasts) (front ++ last ∷ [])
has_joined [] lasts front last has also = elim has [ ]
has_joined (f ∷ fronts) lasts front last (inl same) also =
    subst (λ it. Has (joined (f ∷ fronts) lasts) (it ++ last ∷ [])) same (has_left (with_each lasts f) (joined fronts lasts) (f ++ last ∷ []) (has_map (λ it. f ++ it ∷ []) lasts last also))
has_joined (f ∷ fronts) lasts front last (inr has) also = has_right (with_each lasts f) (joined fronts lasts) (front ++ last ∷ []) (has_joined fronts lasts front last has also)

abbrev head_of : List Shape → Shape → Shape
head_of [] other = other
head_of (shape ∷ shapes) other = shape

same_last : (front : List Shape) (one other : Shape) → front ++ one ∷ [] ≡ front ++ other ∷ [] → one ≡ other
same_last front one other same = ap (λ shapes. head_of shapes one) (append_cancel_left front (one ∷ []) (other ∷ []) same)

-- a list that fronts and lasts make
record IsMade (fronts : List (List Shape)) (lasts shapes : List Shape) : Type 0 where
  pub front : List Shape
  pub last : Shape
  pub has_front : Has fronts front
  pub has_last : Has lasts last
  pub is : shapes ≡ front ++ last ∷ []

of_joined : (fronts : List (List Shape)) (lasts shapes : List Shape) → Has (joined fronts lasts) shapes → IsMade fronts lasts shapes
of_joined [] lasts shapes has = elim has [ ]
of_joined (f ∷ fronts) lasts shapes has = elim (has_either (with_each lasts f) (joined fronts lasts) shapes has) [
  | inl here ↦ let found = of_map (λ it. f ++ it ∷ []) lasts shapes here in record { front = f; last = found.0; has_front = inl refl; has_last = found.1; is = found.2 }
  | inr there ↦ let made = of_joined fronts lasts shapes there in record { front = made.front; last = made.last; has_front = inr made.has_front; has_last = made.has_last; is = made.is }
]

-- two different fronts make two different lists with one shape behind
two_fronts : (fronts : List (List Shape)) (lasts : List Shape) → HasTwo fronts → (last : Shape) → Has lasts last → HasTwo (joined fronts lasts)
two_fronts fronts lasts two last has_last = record {
  one = two.one ++ last ∷ [];
  other = two.other ++ last ∷ [];
  has_one = has_joined fronts lasts two.one last two.has_one has_last;
  has_other = has_joined fronts lasts two.other last two.has_other has_last;
  differ = λ same. two.differ (append_cancel_right two.one two.other (last ∷ []) same);
}

pub cuts_joined : (S : List Shape → Type 0) (T : Shape → Type 0) (fronts : List (List Shape)) (lasts : List Shape)
    → Cuts S fronts → Cuts T lasts → Cuts (IsJoined S T) (joined fronts lasts)
cuts_joined S T fronts lasts cut also = record {
  within = λ shapes has. let made = of_joined fronts lasts shapes has in
      record { front = made.front; last = made.last; is_front = cut.within made.front made.has_front; is_last = also.within made.last made.has_last; is = made.is };
  enough = λ shapes join. elim (cut.enough join.front join.is_front) [
    | inl has ↦ elim (also.enough join.last join.is_last) [
      | inl has_last ↦ inl (subst (Has (joined fronts lasts)) (sym join.is) (has_joined fronts lasts join.front join.last has has_last))
      | inr two ↦ inr (record {
        one = join.front ++ two.one ∷ [];
        other = join.front ++ two.other ∷ [];
        has_one = has_joined fronts lasts join.front two.one has two.has_one;
        has_other = has_joined fronts lasts join.front two.other has two.has_other;
        differ = λ same. two.differ (same_last join.front two.one two.other same);
      })
    ]
    | inr two ↦ elim (also.enough join.last join.is_last) [
      | inl has_last ↦ inr (two_fronts fronts lasts two join.last has_last)
      | inr lasts_two ↦ inr (two_fronts fronts lasts two lasts_two.one lasts_two.has_one)
    ]
  ];
}

abbrev parts_of : Shape-F Shape → List Shape
parts_of (Leaf-F at) = []
parts_of (Node-F p shapes) = shapes
parts_of (Items-F p shapes rest) = shapes

-- the shape of a production has the shapes of its items
pub node_tells : (p : ℕ) (xs ys : List Shape) → Node p xs ≡ Node p ys → xs ≡ ys
node_tells p xs ys same = ap parts_of (sym (outs-Node p xs) ∙ ap out-Shape same ∙ outs-Node p ys)
