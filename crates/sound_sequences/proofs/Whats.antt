-- The parts of a content that stand on a side, with their variables settled.
use Rattle.std.proofs.Common.{◌≡◌, Bool, true, false, cond, List, [], ◌∷◌, ◌++◌, refl, ap, ◌∙◌}
use Rattle.std.proofs.lemmas.Bool.{and_parts}
use Rattle.std.specs.List.{list_all, AllByRecursion, flat_map}
use Rattle.grammar_terms.specs.declared.shape.Shape.{Shape}
use Rattle.rule_terms.specs.declared.defs.Kind.{Kind}
use Rattle.rule_parts.specs.declared.argument_sorts.Productions.{Productions}
use Rattle.rule_parts.specs.declared.leaves.Leaf.{Leaf}
use Rattle.rule_parts.specs.declared.parts.Part.{Part}
use Rattle.rule_parts.specs.declared.parts.What.{What}
use Rattle.rule_parts.specs.declared.terms.Occurrence.{Occurrence}
use Rattle.rule_parts.specs.Sides.{is_left, stands, what_occurrences, part_occurrences, on_side, of_side}
use Rattle.sound_sequences.proofs.Fronts.{both_pass}
use Rattle.sound_sequences.proofs.Told.{IsSettled, AreSettled}
use Rattle.sound_sequences.proofs.Terms.{left_of_all, right_of_all}

-- ---- lists

pub all_pass_joined : {X : Type 0} (test : X → Bool) (xs ys : List X) → list_all test xs ≡ true → list_all test ys ≡ true → list_all test (xs ++ ys) ≡ true
all_pass_joined test [] ys one other = other
all_pass_joined test (x ∷ xs) ys one other =
    let p = and_parts (test x) (list_all test xs) one in
    both_pass (test x) (list_all test (xs ++ ys)) p.0 (all_pass_joined test xs ys p.1 other)

pub all_joined : {X : Type 0} (P : X → Type 0) (xs ys : List X) → AllByRecursion P xs → AllByRecursion P ys → AllByRecursion P (xs ++ ys)
all_joined P [] ys one other = other
all_joined P (x ∷ xs) ys one other = (one.0, all_joined P xs ys one.1 other)

-- ---- the parts on a side

abbrev alone : What Shape → List (What Shape)
alone what = what ∷ []

abbrev pub whats : Bool → List (Part Shape) → List (What Shape)
whats left parts = of_side left alone parts

side_is : {X : Type 0} (f : What Shape → List X) (b : Bool) (what : What Shape) (more : List (What Shape))
    → cond b (f what) [] ++ flat_map f more ≡ flat_map f (cond b (what ∷ []) [] ++ more)
side_is f true what more = refl
side_is f false what more = refl

-- what a function makes of them
pub of_side_is : {X : Type 0} (left : Bool) (f : What Shape → List X) (parts : List (Part Shape)) → of_side left f parts ≡ flat_map f (whats left parts)
of_side_is left f [] = refl
of_side_is left f (part ∷ parts) =
    ap (λ xs. on_side left f part ++ xs) (of_side_is left f parts) ∙ side_is f (stands left part.side) part.what (whats left parts)

pub made_of_each : {X : Type 0} (P : X → Type 0) (f : What Shape → List X) (Q : What Shape → Type 0) → ((what : What Shape) → Q what → AllByRecursion P (f what))
    → (some : List (What Shape)) → AllByRecursion Q some → AllByRecursion P (flat_map f some)
made_of_each P f Q each [] all = tt
made_of_each P f Q each (what ∷ some) all = all_joined P (f what) (flat_map f some) (each what all.0) (made_of_each P f Q each some all.1)

pub each_passes : {X : Type 0} (test : X → Bool) (f : What Shape → List X) (Q : What Shape → Type 0) → ((what : What Shape) → Q what → list_all test (f what) ≡ true)
    → (some : List (What Shape)) → AllByRecursion Q some → list_all test (flat_map f some) ≡ true
each_passes test f Q each [] all = refl
each_passes test f Q each (what ∷ some) all = all_pass_joined test (f what) (flat_map f some) (each what all.0) (each_passes test f Q each some all.1)

module _ (g : Productions) (leaves : List Leaf) (vars : List Occurrence) (kind : Kind) where
  -- the variables of a part are settled
  abbrev pub IsSettledWhat : What Shape → Type 0
  IsSettledWhat what = (on : Bool) × AreSettled vars (what_occurrences g leaves kind on what)

  side_settled : (b : Bool) (what : What Shape) (more : List (What Shape)) → IsSettledWhat what → AllByRecursion IsSettledWhat more
      → AllByRecursion IsSettledWhat (cond b (what ∷ []) [] ++ more)
  side_settled true what more here later = (here, later)
  side_settled false what more here later = later

  pub whats_settled : (left : Bool) (parts : List (Part Shape)) → AreSettled vars (flat_map (part_occurrences g leaves kind) parts)
      → AllByRecursion IsSettledWhat (whats left parts)
  whats_settled left [] all = tt
  whats_settled left (part ∷ parts) all =
      side_settled (stands left part.side) part.what (whats left parts)
      (is_left part.side, left_of_all (IsSettled vars) (part_occurrences g leaves kind part) (flat_map (part_occurrences g leaves kind) parts) all)
      (whats_settled left parts (right_of_all (IsSettled vars) (part_occurrences g leaves kind part) (flat_map (part_occurrences g leaves kind) parts) all))
