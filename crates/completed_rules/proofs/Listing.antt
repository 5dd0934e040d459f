-- Joined lists of numbers that differ.
use Rattle.std.proofs.Common.{◌≡◌, inl, inr, ℕ, List, [], ◌∷◌, ◌++◌, map, refl, sym, ap, ◌∙◌, append_assoc}
use Rattle.std.proofs.lemmas.List.{map-append}
use Rattle.std.specs.List.{flat_map}
use Rattle.rule_terms.specs.Spots.{Spot}
use Rattle.live_config.proofs.Members.{Has, Apart, map_has}
use Rattle.live_config.proofs.SpotTree.{marks}
use Rattle.cell_completion.proofs.Cutting.{flat_has}
use Rattle.cell_completion.proofs.Marks.{apart_joined}

module _ {X : Type 0} (f : X → List ℕ) where
  -- none of one is another's
  abbrev pub Parted : List X → Type 0
  Parted [] = Unit {0}
  Parted (x ∷ xs) = ((y : X) → Has xs y → (k : ℕ) → Has (f x) k → Has (f y) k → ⊥) × Parted xs

  pub flat_apart : (xs : List X) → ((x : X) → Has xs x → Apart (f x)) → Parted xs → Apart (flat_map f xs)
  flat_apart [] each parted = tt
  flat_apart (x ∷ xs) each parted =
      apart_joined (f x) (flat_map f xs) (each x (inl refl)) (flat_apart xs (λ y h. each y (inr h)) parted.1)
      (λ k h g. let r = flat_has f xs k g in parted.0 r.0 r.1 k h r.2)

pub flat_mapped : {X Y Z : Type 0} (g : X → Y) (f : Y → List Z) (xs : List X) → flat_map f (map g xs) ≡ flat_map (λ x. f (g x)) xs
flat_mapped g f [] = refl
flat_mapped g f (x ∷ xs) = ap (λ zs. f (g x) ++ zs) (flat_mapped g f xs)

pub flat_joined : {X Y : Type 0} (f : X → List Y) (xs ys : List X) → flat_map f (xs ++ ys) ≡ flat_map f xs ++ flat_map f ys
flat_joined f [] ys = refl
flat_joined f (x ∷ xs) ys = ap (λ zs. f x ++ zs) (flat_joined f xs ys) ∙ sym (append_assoc (f x) (flat_map f xs) (flat_map f ys))

pub flat_twice : {X Y Z : Type 0} (g : X → List Y) (f : Y → List Z) (xs : List X) → flat_map f (flat_map g xs) ≡ flat_map (λ x. flat_map f (g x)) xs
flat_twice g f [] = refl
flat_twice g f (x ∷ xs) = flat_joined f (g x) (flat_map g xs) ∙ ap (λ zs. flat_map f (g x) ++ zs) (flat_twice g f xs)

pub marks_flat : {X : Type 0} (f : X → List Spot) (xs : List X) → marks (flat_map f xs) ≡ flat_map (λ x. marks (f x)) xs
marks_flat f [] = refl
marks_flat f (x ∷ xs) = map-append (λ (p : Spot). p.mark) (f x) (flat_map f xs) ∙ ap (λ ms. marks (f x) ++ ms) (marks_flat f xs)

pub marks_has : (ps : List Spot) (k : ℕ) → Has (marks ps) k → (p : Spot) × Has ps p × (p.mark ≡ k)
marks_has ps k h = map_has (λ (p : Spot). p.mark) ps k h
