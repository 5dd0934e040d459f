-- An entry at its place.
use Rattle.std.proofs.Common.{arith, ◌≡◌, ℕ, suc, ◌≤◌, true, false, List, [], ◌∷◌, length, refl, sym, ap, subst, ◌∙◌, get_or, set}
use Rattle.std.specs.declared.cmp.Ordering.{Ordering}
use Rattle.std.specs.declared.cmp.Ordering.TheVariants.{Less, Equal, Greater}
use Rattle.std.specs.Ordering.{is_eq}
use Rattle.std.specs.List.{insert}
use Rattle.std.specs.FinMap.{put}
use Rattle.std.specs.FinMap.Entries.{by_order}
use Rattle.k_terms.specs.declared.value.Value.{Value}
use Rattle.k_terms.specs.Value.{value_cmp}
use Rattle.builtins.specs.Places.{place_at, is_tied_at}

order_within : (o : Ordering) (n size : ℕ) → n ≤ size → by_order o 0 0 (suc n) ≤ suc size
order_within Less n size within = omega arith
order_within Equal n size within = omega arith
order_within Greater n size within = omega (arith, within)

-- the place is within the entries, or behind them
pub place_within : (key : Value) (es : List (Value × Value)) → place_at key es ≤ length es
place_within key [] = omega arith
place_within key (e ∷ es) = order_within (value_cmp key e.0) (place_at key es) (length es) (place_within key es)

insert_step : (o : Ordering) (key value : Value) (e : Value × Value) (es rest : List (Value × Value)) (n : ℕ)
    → (o ≡ value_cmp key e.0) → is_tied_at key (e ∷ es) (by_order o 0 0 (suc n)) ≡ false → (is_tied_at key es n ≡ false → insert es n (key, value) ≡ rest)
    → insert (e ∷ es) (by_order o 0 0 (suc n)) (key, value) ≡ by_order o ((key, value) ∷ e ∷ es) ((e.0, value) ∷ es) (e ∷ rest)
insert_step Less key value e es rest n is untied step = refl
insert_step Equal key value e es rest n is untied step = let no : true ≡ false = ap is_eq is ∙ untied in cc
insert_step Greater key value e es rest n is untied step = ap (λ more. e ∷ more) (step untied)

-- where the key is not there, the entry is inserted at its place
pub inserted : (key value : Value) (es : List (Value × Value)) → is_tied_at key es (place_at key es) ≡ false
    → insert es (place_at key es) (key, value) ≡ put value_cmp key value es
inserted key value [] untied = refl
inserted key value (e ∷ es) untied = insert_step (value_cmp key e.0) key value e es (put value_cmp key value es) (place_at key es) refl untied (inserted key value es)

set_step : (o : Ordering) (key value : Value) (e old d : Value × Value) (es rest : List (Value × Value)) (n : ℕ)
    → (o ≡ value_cmp key e.0) → is_tied_at key (e ∷ es) (by_order o 0 0 (suc n)) ≡ true
    → old ≡ get_or (e ∷ es) (by_order o 0 0 (suc n)) d
    → (is_tied_at key es n ≡ true → old ≡ get_or es n d → set es n (old.0, value) ≡ rest)
    → set (e ∷ es) (by_order o 0 0 (suc n)) (old.0, value) ≡ by_order o ((key, value) ∷ e ∷ es) ((e.0, value) ∷ es) (e ∷ rest)
set_step Less key value e old d es rest n is tied old_is step = let no : false ≡ true = ap is_eq is ∙ tied in cc
set_step Equal key value e old d es rest n is tied old_is step = ap (λ (f : Value × Value). (f.0, value) ∷ es) old_is
set_step Greater key value e old d es rest n is tied old_is step = ap (λ more. e ∷ more) (step tied old_is)

-- where it is there, its value is set
pub set_there : (key value : Value) (es : List (Value × Value)) (old d : Value × Value) → is_tied_at key es (place_at key es) ≡ true
    → old ≡ get_or es (place_at key es) d → set es (place_at key es) (old.0, value) ≡ put value_cmp key value es
set_there key value [] old d tied old_is = cc
set_there key value (e ∷ es) old d tied old_is =
    set_step (value_cmp key e.0) key value e old d es (put value_cmp key value es) (place_at key es) refl tied old_is (set_there key value es old d)

-- ---- at a number that is the place

module _ (key value : Value) (es : List (Value × Value)) (n : ℕ) (is : n ≡ place_at key es) where
  pub inserted_at : is_tied_at key es n ≡ false → insert es n (key, value) ≡ put value_cmp key value es
  inserted_at = subst (λ m. is_tied_at key es m ≡ false → insert es m (key, value) ≡ put value_cmp key value es) (sym is) (inserted key value es)

  pub set_at : (old : Value × Value) → is_tied_at key es n ≡ true → old ≡ get_or es n old → set es n (old.0, value) ≡ put value_cmp key value es
  set_at old =
      subst (λ m. is_tied_at key es m ≡ true → old ≡ get_or es m old → set es m (old.0, value) ≡ put value_cmp key value es) (sym is) (set_there key value es old old)
