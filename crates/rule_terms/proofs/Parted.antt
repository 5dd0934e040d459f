-- What stood in entries before new ones were put into them.
use Rattle.std.proofs.Common.{◌≡◌, true, false, cond, ◌&&◌, [], ◌∷◌, refl, ap, ◌∙◌}
use Rattle.std.specs.Prelude.{Some, None, is_some}
use Rattle.std.specs.declared.cmp.Ordering.TheVariants.{Less, Equal, Greater}
use Rattle.std.specs.Ordering.{is_eq}
use Rattle.std.specs.FinMap.{find, put, is_sorted}
use Rattle.std.specs.FinMap.Entries.{by_order, below_all}
use Rattle.k_terms.specs.declared.value.Value.{Value}
use Rattle.k_terms.specs.Value.{value_cmp, is_well_formed}
use Rattle.k_terms.specs.Parts.{entries_are_well_formed}
use Rattle.rule_terms.specs.Fill.{put_new}
use Rattle.rule_terms.proofs.Defined.{both, joins, same_some, not_held, and_then_gives}
use Rattle.rule_terms.proofs.Layers.{Entries, are_formed_entries}

module _ (key value : Value) where
  abbrev IsNew : Entries → Type 0
  IsNew es = is_some (find value_cmp key es) ≡ false

  below_before : (low : Value) (es : Entries) → IsNew es → below_all value_cmp low (put value_cmp key value es) ≡ true → below_all value_cmp low es ≡ true
  below_before low [] new h = refl
  below_before low (e ∷ es) new h = elim (value_cmp key e.0) as (λ r. is_some (cond (is_eq r) (Some e.1) (find value_cmp key es)) ≡ false → below_all value_cmp low (by_order r ((key, value) ∷ e ∷ es) ((e.0, value) ∷ es) (e ∷ put value_cmp key value es)) ≡ true → below_all value_cmp low (e ∷ es) ≡ true) [
    | Less ↦ λ n k. (both _ _ k).1
    | Equal ↦ λ n k. cc
    | Greater ↦ λ n k. joins _ _ (both _ _ k).0 (below_before low es n (both _ _ k).1)
  ] new h

  sorted_before : (es : Entries) → IsNew es → is_sorted value_cmp (put value_cmp key value es) ≡ true → is_sorted value_cmp es ≡ true
  sorted_before [] new h = refl
  sorted_before (e ∷ es) new h = elim (value_cmp key e.0) as (λ r. is_some (cond (is_eq r) (Some e.1) (find value_cmp key es)) ≡ false → is_sorted value_cmp (by_order r ((key, value) ∷ e ∷ es) ((e.0, value) ∷ es) (e ∷ put value_cmp key value es)) ≡ true → is_sorted value_cmp (e ∷ es) ≡ true) [
    | Less ↦ λ n k. (both _ _ k).1
    | Equal ↦ λ n k. cc
    | Greater ↦ λ n k. joins _ _ (below_before e.0 es n (both _ _ k).0) (sorted_before es n (both _ _ k).1)
  ] new h

  -- the entry that was put and the others
  abbrev AreParts : Entries → Type 0
  AreParts es = ((is_well_formed key && is_well_formed value) ≡ true) × (entries_are_well_formed es ≡ true)

  parts_before : (es : Entries) → IsNew es → entries_are_well_formed (put value_cmp key value es) ≡ true → AreParts es
  parts_before [] new h = both _ _ h
  parts_before (e ∷ es) new h = elim (value_cmp key e.0) as (λ r. is_some (cond (is_eq r) (Some e.1) (find value_cmp key es)) ≡ false → entries_are_well_formed (by_order r ((key, value) ∷ e ∷ es) ((e.0, value) ∷ es) (e ∷ put value_cmp key value es)) ≡ true → AreParts (e ∷ es)) [
    | Less ↦ λ n k. both _ _ k
    | Equal ↦ λ n k. cc
    | Greater ↦ λ n k. let rest = parts_before es n (both _ _ k).1 in (rest.0, joins _ _ (both _ _ k).0 rest.1)
  ] new h

-- new entries that were put into others, and the others
pub put_new_before : (news others entries : Entries) → put_new news others ≡ Some entries → are_formed_entries entries ≡ true → (entries_are_well_formed news ≡ true) × (are_formed_entries others ≡ true)
put_new_before [] others entries e h = (refl, ap are_formed_entries (same_some others entries e) ∙ h)
put_new_before (entry ∷ news) others entries e h =
    let g = and_then_gives (λ more. cond (is_some (find value_cmp entry.0 more)) None (Some (put value_cmp entry.0 entry.1 more))) (put_new news others) entries e in
    let put_in = not_held (is_some (find value_cmp entry.0 g.0)) (put value_cmp entry.0 entry.1 g.0) entries g.2 in
    let formed = both _ _ (ap are_formed_entries put_in.1 ∙ h) in
    let parts = parts_before entry.0 entry.1 g.0 put_in.0 formed.1 in
    let rest = put_new_before news others g.0 g.1 (joins _ _ (sorted_before entry.0 entry.1 g.0 put_in.0 formed.0) parts.1) in
    (joins _ _ parts.0 rest.0, rest.1)
