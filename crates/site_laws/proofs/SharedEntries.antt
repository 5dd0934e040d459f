-- What new entries are put into, and the entries, where their keys and the outcome are the same.
use Rattle.std.proofs.Common.{◌≡◌, inl, inr, ℕ, true, false, cond, ◌&&◌, ◌||◌, T, List, [], ◌∷◌, map, Option, Some, None, refl, sym, ap, subst, ◌∙◌}
use Rattle.std.specs.Prelude.{is_some}
use Rattle.std.specs.Option.{option_map}
use Rattle.std.specs.List.{list_all, list_any}
use Rattle.std.proofs.lemmas.Bool.{cases_Bool}
use Rattle.std.specs.declared.cmp.Ordering.{Ordering}
use Rattle.std.specs.declared.cmp.Ordering.TheVariants.{Less, Equal, Greater}
use Rattle.std.specs.Ordering.{is_eq, eq_by_cmp}
use Rattle.std.specs.FinMap.{find, put, is_sorted}
use Rattle.std.specs.FinMap.Entries.{find-put, same_entries}
use Rattle.k_terms.specs.declared.value.Value.{Value}
use Rattle.k_terms.specs.Value.{value_cmp}
use Rattle.k_terms.proofs.OrderLaws.{value_cmp_total, value_cmp_ties, value_cmp_itself}
use Rattle.rule_terms.specs.declared.pattern.Pattern.{Pattern}
use Rattle.rule_terms.specs.Eval.{eval, eval_entry, eval_entries}
use Rattle.rule_terms.specs.Fill.{put_new}
use Rattle.rule_terms.specs.Patterns.{mentions}
use Rattle.rule_terms.specs.Sound.{has_no_operator}
use Rattle.rule_terms.specs.Substitution.{Subst}
use Rattle.rule_terms.proofs.Defined.{both, one_of, same_some, not_held, and_then_gives, map_gives}
use Rattle.rule_terms.proofs.Layers.{Entries, are_formed_entries}
use Rattle.rule_terms.proofs.Contents.{entry_gives}
use Rattle.rule_terms.proofs.Parted.{put_new_before}
use Rattle.live_config.proofs.Members.{Has}
use Rattle.site_laws.proofs.Shared.{IsShared, pattern_tells}

-- ---- one entry that is put into others

not_found : (o : Option Value) → is_some o ≡ false → o ≡ None
not_found None e = refl
not_found (Some v) e = absurd (let f : true ≡ false = e in cc)

tied : (o : Ordering) → is_eq o ≡ true → o ≡ Equal
tied Less e = absurd (let f : false ≡ true = e in cc)
tied Equal e = refl
tied Greater e = absurd (let f : false ≡ true = e in cc)

module _ (key : Value) where
  found_put : (value : Value) (es : Entries) → find value_cmp key (put value_cmp key value es) ≡ Some value
  found_put value es = find-put value_cmp value_cmp_total key key value es ∙ ap (λ o. cond (is_eq o) (Some value) (find value_cmp key es)) (value_cmp_itself key)

  other_put : (q value : Value) (es : Entries) → eq_by_cmp value_cmp q key ≡ false → find value_cmp q (put value_cmp key value es) ≡ find value_cmp q es
  other_put q value es differ = find-put value_cmp value_cmp_total q key value es ∙ ap (λ b. cond b (Some value) (find value_cmp q es)) differ

  found_same : (v w : Value) (es fs : Entries) → find value_cmp key es ≡ None → find value_cmp key fs ≡ None
      → put value_cmp key v es ≡ put value_cmp key w fs → (q : Value) → find value_cmp q es ≡ find value_cmp q fs
  found_same v w es fs none_left none_right same q =
      elim (cases_Bool (eq_by_cmp value_cmp q key)) [
        | inl t ↦
            let is : q ≡ key = value_cmp_ties q key (tied (value_cmp q key) t) in
            ap (λ k. find value_cmp k es) is ∙ none_left ∙ sym none_right ∙ ap (λ k. find value_cmp k fs) (sym is)
        | inr differ ↦ sym (other_put q v es differ) ∙ ap (find value_cmp q) same ∙ other_put q w fs differ
      ]

  -- what is put, and what it is put into
  put_once : (v w : Value) (es fs : Entries) → is_some (find value_cmp key es) ≡ false → is_some (find value_cmp key fs) ≡ false
      → put value_cmp key v es ≡ put value_cmp key w fs → is_sorted value_cmp es ≡ true → is_sorted value_cmp fs ≡ true
      → (v ≡ w) × (es ≡ fs)
  put_once v w es fs new other_new same sorted other_sorted =
      let first : Some v ≡ Some w = sym (found_put v es) ∙ ap (find value_cmp key) same ∙ found_put w fs in (
        same_some v w first,
        same_entries value_cmp value_cmp_total value_cmp_ties es fs (subst T (sym sorted) tt) (subst T (sym other_sorted) tt)
            (found_same v w es fs (not_found (find value_cmp key es) new) (not_found (find value_cmp key fs) other_new) same),
      )

-- ---- entries that are put into others

abbrev keys : Entries → List Value
keys es = map (λ e. e.0) es

-- what was put first, and what it was put into
record WasPut (e : Value × Value) (news others entries : Entries) : Type 0 where
  more : Entries
  before : put_new news others ≡ Some more
  new : is_some (find value_cmp e.0 more) ≡ false
  is : put value_cmp e.0 e.1 more ≡ entries
  formed : are_formed_entries more ≡ true

was_put : (e : Value × Value) (news others entries : Entries) → put_new (e ∷ news) others ≡ Some entries → are_formed_entries entries ≡ true
    → WasPut e news others entries
was_put e news others entries made formed =
    let g = and_then_gives (λ more. cond (is_some (find value_cmp e.0 more)) None (Some (put value_cmp e.0 e.1 more))) (put_new news others) entries made in
    let p = not_held (is_some (find value_cmp e.0 g.0)) (put value_cmp e.0 e.1 g.0) entries g.2 in
    record { more = g.0; before = g.1; new = p.0; is = p.1; formed = (put_new_before (e ∷ []) g.0 entries g.2 formed).1 }

put_alike : (e f : Value × Value) (es fs : Entries) → e.0 ≡ f.0 → is_some (find value_cmp e.0 es) ≡ false
    → is_some (find value_cmp f.0 fs) ≡ false → put value_cmp e.0 e.1 es ≡ put value_cmp f.0 f.1 fs → are_formed_entries es ≡ true
    → are_formed_entries fs ≡ true → (e ≡ f) × (es ≡ fs)
put_alike e f es fs key new other_new same formed other_formed =
    let both_are = put_once e.0 e.1 f.1 es fs new
    (ap (λ k. is_some (find value_cmp k fs)) key ∙ other_new) (same ∙ ap (λ k. put value_cmp k f.1 fs) (sym key)) (both _ _ formed).0 (both _ _ other_formed).0 in
    ((λ i. (key i, both_are.0 i)), both_are.1)

-- where the keys and the outcome are the same, so are the entries and what they were put into
pub put_new_tells : (news later_news others rest entries : Entries) → keys news ≡ keys later_news → put_new news others ≡ Some entries
    → put_new later_news rest ≡ Some entries → are_formed_entries entries ≡ true → (news ≡ later_news) × (others ≡ rest)
put_new_tells [] [] others rest entries same e f formed = (refl, same_some others entries e ∙ sym (same_some rest entries f))
put_new_tells [] (n ∷ later_news) others rest entries same e f formed = absurd (let g : [] ≡ n.0 ∷ keys later_news = same in cc)
put_new_tells (m ∷ news) [] others rest entries same e f formed = absurd (let g : m.0 ∷ keys news ≡ [] = same in cc)
put_new_tells (m ∷ news) (n ∷ later_news) others rest entries same e f formed =
    let g : m.0 ∷ keys news ≡ n.0 ∷ keys later_news = same in
    let key : m.0 ≡ n.0 = cc in
    let later : keys news ≡ keys later_news = cc in
    let one = was_put m news others entries e formed in
    let other = was_put n later_news rest entries f formed in
    let first = put_alike m n one.more other.more key one.new other.new (one.is ∙ sym other.is) one.formed other.formed in
    let all = put_new_tells news later_news others rest one.more later one.before (other.before ∙ ap Some (sym first.1)) one.formed in
    ((λ i. first.0 i ∷ all.0 i), all.1)

-- ---- the entries of a pattern

first_entry : (d e : Value × Value) (ds es : Entries) → d ∷ ds ≡ e ∷ es → (d ≡ e) × (ds ≡ es)
first_entry d e ds es same = (cc, cc)

module _ (s t : Subst) where
  pub same_keys : (es : List (Pattern × Pattern)) (news others : Entries)
      → ((q : Pattern) → Has (map (λ e. e.0) es) q → eval q s ≡ eval q t) → eval_entries es s ≡ Some news → eval_entries es t ≡ Some others
      → keys news ≡ keys others
  same_keys [] news others same e f = ap keys (sym (same_some [] news e) ∙ same_some [] others f)
  same_keys (p ∷ es) news others same e f =
      let g = and_then_gives (λ u. option_map (λ us. u ∷ us) (eval_entries es s)) (eval_entry p s) news e in
      let k = map_gives (λ us. g.0 ∷ us) (eval_entries es s) news g.2 in
      let h = and_then_gives (λ u. option_map (λ us. u ∷ us) (eval_entries es t)) (eval_entry p t) others f in
      let l = map_gives (λ us. h.0 ∷ us) (eval_entries es t) others h.2 in
      let one = entry_gives p s g.0 g.1 in
      let other = entry_gives p t h.0 h.1 in
      let key : g.0.0 ≡ h.0.0 = same_some g.0.0 h.0.0 (sym one.0 ∙ same p.0 (inl refl) ∙ other.0) in
      ap keys (sym k.2) ∙ (λ i. key i ∷ same_keys es k.0 l.0 (λ q m. same q (inr m)) k.1 l.1 i) ∙ ap keys l.2

  module _ (x : ℕ) where
    entry_tells : (p : Pattern × Pattern) (entry : Value × Value) → (has_no_operator p.0 && has_no_operator p.1) ≡ true
        → (mentions x p.0 || mentions x p.1) ≡ true → eval_entry p s ≡ Some entry → eval_entry p t ≡ Some entry → IsShared s t x
    entry_tells p entry o m e f =
        let one = entry_gives p s entry e in
        let other = entry_gives p t entry f in
        elim (one_of (mentions x p.0) (mentions x p.1) m) [
          | inl here ↦ pattern_tells s t x p.0 entry.0 (both _ _ o).0 here one.0 other.0
          | inr there ↦ pattern_tells s t x p.1 entry.1 (both _ _ o).1 there one.1 other.1
        ]

    pub entries_tell : (es : List (Pattern × Pattern)) (news : Entries)
        → list_all (λ e. has_no_operator e.0 && has_no_operator e.1) es ≡ true → list_any (λ e. mentions x e.0 || mentions x e.1) es ≡ true
        → eval_entries es s ≡ Some news → eval_entries es t ≡ Some news → IsShared s t x
    entries_tell [] news o m e f = absurd (let g : false ≡ true = m in cc)
    entries_tell (p ∷ es) news o m e f =
        let g = and_then_gives (λ u. option_map (λ us. u ∷ us) (eval_entries es s)) (eval_entry p s) news e in
        let k = map_gives (λ us. g.0 ∷ us) (eval_entries es s) news g.2 in
        let h = and_then_gives (λ u. option_map (λ us. u ∷ us) (eval_entries es t)) (eval_entry p t) news f in
        let l = map_gives (λ us. h.0 ∷ us) (eval_entries es t) news h.2 in
        let parts = first_entry h.0 g.0 l.0 k.0 (l.2 ∙ sym k.2) in
        elim (one_of (mentions x p.0 || mentions x p.1) (list_any (λ e. mentions x e.0 || mentions x e.1) es) m) [
          | inl here ↦ entry_tells p g.0 (both _ _ o).0 here g.1 (h.1 ∙ ap Some parts.0)
          | inr there ↦ entries_tell es k.0 (both _ _ o).1 there k.1 (l.1 ∙ ap Some parts.1)
        ]
