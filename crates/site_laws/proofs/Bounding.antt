-- The substitution in which each rest of cells stands for the further children in the configuration's order, and that a side
-- whose cells stand at their numbers is matched there under it.
use Rattle.std.proofs.Common.{◌≡◌, inl, inr, ℕ, List, [], ◌∷◌, map, Option, Some, None, refl, sym, ap, subst, ◌∙◌}
use Rattle.std.specs.Prelude.{slice_get}
use Rattle.std.specs.Option.{option_and_then}
use Rattle.rule_terms.specs.declared.plain.Plain.{Plain}
use Rattle.rule_terms.specs.declared.pattern.Body.{Body, Cells', Seq, Map, List as Listed, One, Made}
use Rattle.rule_terms.specs.Sound.{cells_rest}
use Rattle.rule_terms.specs.Substitution.{Subst, Bag, bag_of}
use Rattle.rule_terms.specs.Spots.{Spot}
use Rattle.live_config.specs.Configuration.{Configuration, level_limit, tree}
use Rattle.live_config.specs.Firing.{further, HasFurther, IsMatched, AreMatched}
use Rattle.live_config.specs.Steps.{SubstAlike}
use Rattle.live_config.proofs.AlikeCells.{subst_alike_self}
use Rattle.live_config.proofs.Members.{Has, has_map, Apart}
use Rattle.live_config.proofs.SpotTree.{marks}
use Rattle.site_laws.proofs.SameValues.{same_values, content_same}
use Rattle.site_laws.proofs.Rebinding.{rebound, rebound_alike, rebound_here, rebound_other}
use Rattle.site_laws.proofs.Numbered.{Beside, beside_has}
use Rattle.site_laws.proofs.Placing.{OthersFit, SpotFits, AllFit}

-- cells with the same rest are one
abbrev pub HasOwnRests : List Spot → Type 0
HasOwnRests ps = (p q : Spot) → Has ps p → Has ps q → (x : ℕ) → cells_rest p.body ≡ Some x → cells_rest q.body ≡ Some x → p.mark ≡ q.mark

-- the rest, where there is one, stands for these cells
abbrev with_rest : Option ℕ → List Plain → Subst → Subst
with_rest None cells t = t
with_rest (Some x) cells t = rebound t x cells

module _ (c : Configuration) (s : Subst) (sides : List Spot) (numbers : List ℕ) where
  -- the trees of the further children of a cell
  abbrev trees_beside : Spot → ℕ → List Plain
  trees_beside q m = map (tree level_limit c) (further c sides numbers q.body m)

  -- each rest of these cells stands for the trees of the further children
  abbrev pub bound_of : List Spot → List ℕ → Subst
  bound_of [] ms = s
  bound_of (q ∷ qs) [] = s
  bound_of (q ∷ qs) (m ∷ ms) = with_rest (cells_rest q.body) (map (tree level_limit c) (further c sides numbers q.body m)) (bound_of qs ms)

  rest_alike : (t : Subst) (body : Body) (others : List ℕ) → OthersFit c s body others → SubstAlike s t
      → SubstAlike s (with_rest (cells_rest body) (map (tree level_limit c) others) t)
  rest_alike t (Cells' shape children None) others fits like = like
  rest_alike t (Cells' shape children (Some x)) others fits like = rebound_alike s t x fits.0 (map (tree level_limit c) others) like fits.1 fits.2
  rest_alike t (Seq parts rest) others fits like = like
  rest_alike t (Map entries rest) others fits like = like
  rest_alike t (Listed before rest after) others fits like = like
  rest_alike t (One p) others fits like = like
  rest_alike t (Made p) others fits like = like

  -- the substitutions are equal up to the order of cells in a rest
  pub bound_alike : (qs : List Spot) (ms : List ℕ) → AllFit c s sides numbers qs ms → SubstAlike s (bound_of qs ms)
  bound_alike [] ms all = subst_alike_self s
  bound_alike (q ∷ qs) [] all = subst_alike_self s
  bound_alike (q ∷ qs) (m ∷ ms) all = rest_alike (bound_of qs ms) q.body (further c sides numbers q.body m) all.0.others (bound_alike qs ms all.1)

  rest_here : (t : Subst) (body : Body) (others : List ℕ) (x : ℕ) → OthersFit c s body others → SubstAlike s t → cells_rest body ≡ Some x
      → slice_get (with_rest (cells_rest body) (map (tree level_limit c) others) t) x ≡ Some (Bag (map (tree level_limit c) others))
  rest_here t (Cells' shape children None) others x fits like e = absurd (let f : None ≡ Some x = e in cc)
  rest_here t (Cells' shape children (Some y)) others x fits like e =
      let same : y ≡ x = (let f : Some y ≡ Some x = e in cc) in
      ap (slice_get (rebound t y (map (tree level_limit c) others))) (sym same) ∙ rebound_here s t y (Bag fits.0) (map (tree level_limit c) others) like fits.1
  rest_here t (Seq parts rest) others x fits like e = absurd (let f : None ≡ Some x = e in cc)
  rest_here t (Map entries rest) others x fits like e = absurd (let f : None ≡ Some x = e in cc)
  rest_here t (Listed before rest after) others x fits like e = absurd (let f : None ≡ Some x = e in cc)
  rest_here t (One p) others x fits like e = absurd (let f : None ≡ Some x = e in cc)
  rest_here t (Made p) others x fits like e = absurd (let f : None ≡ Some x = e in cc)

  rest_other : (t : Subst) (rest : Option ℕ) (cells : List Plain) (x : ℕ) → ((y : ℕ) → rest ≡ Some y → y ≡ x → ⊥)
      → slice_get (with_rest rest cells t) x ≡ slice_get t x
  rest_other t None cells x differ = refl
  rest_other t (Some y) cells x differ = rebound_other t y x cells (differ y refl)

  later_rests : (p : Spot) (ps : List Spot) → HasOwnRests (p ∷ ps) → HasOwnRests ps
  later_rests p ps own a b h g = own a b (inr h) (inr g)

  -- a rest stands for the further children of its cell
  bound_at : (qs : List Spot) (ms : List ℕ) → AllFit c s sides numbers qs ms → Apart (marks qs) → HasOwnRests qs → (q : Spot) (m : ℕ)
      → Beside qs ms q m → (x : ℕ) → cells_rest q.body ≡ Some x → slice_get (bound_of qs ms) x ≡ Some (Bag (trees_beside q m))
  bound_at [] ms all apart own q m b x e = absurd b
  bound_at (p ∷ qs) [] all apart own q m b x e = absurd b
  bound_at (p ∷ qs) (k ∷ ms) all apart own q m (inl (same, same_number)) x e =
      rest_here (bound_of qs ms) p.body (further c sides numbers p.body k) x all.0.others (bound_alike qs ms all.1) (ap (λ (y : Spot). cells_rest y.body) same ∙ e)
      ∙ (λ i. Some (Bag (trees_beside (same i) (same_number i))))
  bound_at (p ∷ qs) (k ∷ ms) all apart own q m (inr b) x e =
      let there = beside_has qs ms q m b in
      rest_other (bound_of qs ms) (cells_rest p.body) (trees_beside p k) x (λ y r same.
      apart.0 (subst (Has (marks qs)) (sym (own p q (inl refl) (inr there) x (r ∙ ap Some same) e)) (has_map (λ (z : Spot). z.mark) qs q there)))
      ∙ bound_at qs ms all.1 apart.1 (later_rests p qs own) q m b x e

  -- ---- the cells are matched

  module _ (bound : Subst) (like : SubstAlike s bound) where
    has_further : (body : Body) (m : ℕ) → OthersFit c s body (further c sides numbers body m)
        → ((x : ℕ) → cells_rest body ≡ Some x → slice_get bound x ≡ Some (Bag (map (tree level_limit c) (further c sides numbers body m))))
        → HasFurther c sides numbers bound body m
    has_further (Cells' shape children None) m fits at = ap (λ ks. Some (map (tree level_limit c) ks)) (sym fits)
    has_further (Cells' shape children (Some x)) m fits at = ap (option_and_then bag_of) (at x refl)
    has_further (Seq parts rest) m fits at = tt
    has_further (Map entries rest) m fits at = tt
    has_further (Listed before rest after) m fits at = tt
    has_further (One p) m fits at = tt
    has_further (Made p) m fits at = tt

    is_matched : (q : Spot) (m : ℕ) → SpotFits c s sides numbers q m
        → ((x : ℕ) → cells_rest q.body ≡ Some x → slice_get bound x ≡ Some (Bag (trees_beside q m))) → IsMatched c sides numbers bound q m
    is_matched q m spot at = record {
      cell = spot.fits.cell;
      there = spot.fits.there;
      kind = spot.fits.kind_is;
      parent = spot.fits.parent;
      content = sym (content_same s bound (same_values s bound like) q.body) ∙ spot.fits.content;
      others = has_further q.body m spot.others at;
    }

    are_matched : (qs : List Spot) (ms : List ℕ) → AllFit c s sides numbers qs ms
        → ((q : Spot) (m : ℕ) → Beside qs ms q m → (x : ℕ) → cells_rest q.body ≡ Some x → slice_get bound x ≡ Some (Bag (trees_beside q m)))
        → AreMatched c sides numbers bound qs ms
    are_matched [] [] all at = tt
    are_matched [] (m ∷ ms) all at = absurd all
    are_matched (q ∷ qs) [] all at = absurd all
    are_matched (q ∷ qs) (m ∷ ms) all at = (is_matched q m all.0 (at q m (inl (refl, refl))), are_matched qs ms all.1 (λ p k b. at p k (inr b)))

  pub all_matched : AllFit c s sides numbers sides numbers → Apart (marks sides) → HasOwnRests sides
      → AreMatched c sides numbers (bound_of sides numbers) sides numbers
  all_matched all apart own =
      are_matched (bound_of sides numbers) (bound_alike sides numbers all) sides numbers all (bound_at sides numbers all apart own)
