-- An entry whose key is new, at its place.
use Rattle.std.proofs.Common.{arith, ◌≡◌, ℕ, suc, ◌≤◌, Bool, true, false, cond, List, [], ◌∷◌, length, refl, sym, ap, ◌∙◌}
use Rattle.std.specs.Prelude.{Option, Some, None, is_some}
use Rattle.std.specs.declared.cmp.Ordering.{Ordering}
use Rattle.std.specs.declared.cmp.Ordering.TheVariants.{Less, Equal, Greater}
use Rattle.std.specs.Ordering.{is_eq}
use Rattle.std.specs.List.{insert}
use Rattle.std.specs.FinMap.{find, put}
use Rattle.std.specs.FinMap.Entries.{by_order}
use Rattle.k_terms.specs.declared.value.Value.{Value}
use Rattle.k_terms.specs.Value.{value_cmp}
use Rattle.builtins.specs.Places.{place_at}
use Rattle.right_sides.specs.Entries.{put_one}

order_within : (o : Ordering) (n size : ℕ) → n ≤ size → by_order o 0 0 (suc n) ≤ suc size
order_within Less n size within = omega arith
order_within Equal n size within = omega arith
order_within Greater n size within = omega (arith, within)

-- the place is within the entries, or behind them
pub place_within : (key : Value) (es : List (Value × Value)) → place_at key es ≤ length es
place_within key [] = omega arith
place_within key (e ∷ es) = order_within (value_cmp key e.0) (place_at key es) (length es) (place_within key es)

insert_step : (o : Ordering) (key value : Value) (e : Value × Value) (es rest : List (Value × Value)) (n : ℕ) (found : Option Value)
    → is_some (cond (is_eq o) (Some e.1) found) ≡ false → (is_some found ≡ false → insert es n (key, value) ≡ rest)
    → insert (e ∷ es) (by_order o 0 0 (suc n)) (key, value) ≡ by_order o ((key, value) ∷ e ∷ es) ((e.0, value) ∷ es) (e ∷ rest)
insert_step Less key value e es rest n found absent step = refl
insert_step Equal key value e es rest n found absent step = let no : true ≡ false = absent in cc
insert_step Greater key value e es rest n found absent step = ap (λ more. e ∷ more) (step absent)

inserted : (key value : Value) (es : List (Value × Value)) → is_some (find value_cmp key es) ≡ false → insert es (place_at key es) (key, value) ≡ put value_cmp key value es
inserted key value [] absent = refl
inserted key value (e ∷ es) absent =
    insert_step (value_cmp key e.0) key value e es (put value_cmp key value es) (place_at key es) (find value_cmp key es) absent (inserted key value es)

-- where no entry has its key, it is inserted at its place
pub put_in : (e : Value × Value) (es looked_at placed_in after : List (Value × Value)) (found : Bool) (place : ℕ)
    → looked_at ≡ es → found ≡ is_some (find value_cmp e.0 looked_at) → found ≡ false → placed_in ≡ es → place ≡ place_at e.0 placed_in → after ≡ insert es place e
    → Some after ≡ put_one e es
put_in e es looked_at placed_in after found place lent is absent lent_too is_place made =
    let none : is_some (find value_cmp e.0 es) ≡ false = ap (λ fs. is_some (find value_cmp e.0 fs)) (sym lent) ∙ sym is ∙ absent in
    ap Some (made ∙ ap (λ n. insert es n e) (is_place ∙ ap (place_at e.0) lent_too) ∙ inserted e.0 e.1 es none)
    ∙ ap (λ b. cond b None (Some (put value_cmp e.0 e.1 es))) (sym none)
