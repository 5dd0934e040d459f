-- Cells of a text, each in one before it, are cells that may be completed.
use Rattle.std.proofs.Common.{◌≡◌, inl, inr, ⊎_elim, ℕ, ◌+◌, ◌<◌, ◌≤◌, ◌==◌, ◌&&◌, not, Bool, true, false, cond, List, [], ◌∷◌, ◌++◌, map, filter, length, append-nil, Some, None, refl, sym, ap, subst, ◌∙◌, append_assoc, arith, Contains}
use Rattle.std.proofs.lemmas.List.{map-append}
use Rattle.std.proofs.lemmas.List.Elements.{filter-append}
use Rattle.std.proofs.lemmas.Bool.{eqb-true, eq-eqb, cases_Bool, and_parts, not-true}
use Rattle.std.specs.List.{flat_map}
use Rattle.rule_terms.specs.declared.defs.CellShape.{CellShape}
use Rattle.rule_terms.specs.declared.rule.Draft.{Draft}
use Rattle.rule_terms.specs.Numbers.{all_different}
use Rattle.rule_parts.specs.Sides.{stands}
use Rattle.live_config.proofs.Members.{Has, has-contains, contains-has, has_left, has_right, has_either, kept, keeps, any_has, has_any, has_map, map_has, lacks_number, Apart, Rises, rises-apart}
use Rattle.cell_completion.specs.declared.tree.Written.{Written}
use Rattle.cell_completion.specs.Listed.{AreWritten}
use Rattle.cell_trees.specs.Trees.{Tree as Declaration}
use Rattle.rule_completion.specs.Numbering.{mark_limit}
use Rattle.rule_completion.specs.Rules.{IsWrittenDraft}
use Rattle.rule_completion.specs.Writing.{cells_at, is_among, beside_others, written}
use Rattle.rule_completion.proofs.Written.{written_is}
use Rattle.draft_laws.proofs.Tags.{Rise}
use Rattle.draft_laws.proofs.WrittenCells.{TextCell, tag_of, Each, each-append, each_at, IsAround, IsEnclosed, StandsIn, AreEnclosed}
use Rattle.draft_laws.proofs.Sides.{is_on, lone, image}

abbrev pub mark_in : TextCell → ℕ
mark_in one = one.mark

abbrev mark_of_written : Written → ℕ
mark_of_written w = w.mark

-- ---- marks that rise

pub rise_least : (m : ℕ) (cells : List TextCell) (one : TextCell) → Rise m (map tag_of cells) → Has cells one → m ≤ one.mark
rise_least m [] one rise h = absurd h
rise_least m (c ∷ cells) one rise (inl e) = let same : c.mark ≡ one.mark = ap mark_in e in let here : m ≤ c.mark = rise.0 in omega (arith, same, here)
rise_least m (c ∷ cells) one rise (inr h) =
    let here : m ≤ c.mark = rise.0 in let later : c.mark + 1 ≤ one.mark = rise_least (c.mark + 1) cells one rise.1 h in omega (arith, here, later)

-- a mark tells a cell
pub one_cell : (m : ℕ) (cells : List TextCell) (one other : TextCell) → Rise m (map tag_of cells) → Has cells one → Has cells other → one.mark ≡ other.mark → one ≡ other
one_cell m [] one other rise h k same = absurd h
one_cell m (c ∷ cells) one other rise (inl e) (inl d) same = sym e ∙ d
one_cell m (c ∷ cells) one other rise (inl e) (inr k) same =
    let here : c.mark ≡ one.mark = ap mark_in e in let later : c.mark + 1 ≤ other.mark = rise_least (c.mark + 1) cells other rise.1 k in absurd (omega (arith, here, later, same))
one_cell m (c ∷ cells) one other rise (inr h) (inl d) same =
    let here : c.mark ≡ other.mark = ap mark_in d in let later : c.mark + 1 ≤ one.mark = rise_least (c.mark + 1) cells one rise.1 h in absurd (omega (arith, here, later, same))
one_cell m (c ∷ cells) one other rise (inr h) (inr k) same = one_cell (c.mark + 1) cells one other rise.1 h k same

pub marks_rise : (m : ℕ) (cells : List TextCell) → Rise m (map tag_of cells) → Rises (map mark_in cells)
marks_rise m [] rise = tt
marks_rise m (c ∷ cells) rise = (
  (λ n h. let t = map_has mark_in cells n h in let later : c.mark + 1 ≤ t.0.mark = rise_least (c.mark + 1) cells t.0 rise.1 t.1 in
      let is : t.0.mark ≡ n = t.2 in omega (arith, later, is)),
  marks_rise (c.mark + 1) cells rise.1,
)

-- ---- numbers that differ

pub kept_apart : {X : Type 0} (f : X → ℕ) (p : X → Bool) (xs : List X) → Apart (map f xs) → Apart (map f (filter p xs))
kept_apart f p [] apart = tt
kept_apart f p (x ∷ xs) apart =
    elim (p x) as (λ b. Apart (map f (cond b (x ∷ filter p xs) (filter p xs)))) [
      | true ↦ ((λ h. let t = map_has f (filter p xs) (f x) h in apart.0 (subst (Has (map f xs)) t.2 (has_map f xs t.0 (kept p xs t.0 t.1).0))), kept_apart f p xs apart.1)
      | false ↦ kept_apart f p xs apart.1
    ]

apart_append : (ns ms : List ℕ) → Apart ns → Apart ms → ((n : ℕ) → Has ns n → Has ms n → ⊥) → Apart (ns ++ ms)
apart_append [] ms one other differ = other
apart_append (n ∷ ns) ms one other differ = (
  (λ h. ⊎_elim (λ (k : Has ns n). one.0 k) (λ (k : Has ms n). differ n (inl refl) k) (has_either ns ms n h)),
  apart_append ns ms one.1 other (λ m h k. differ m (inr h) k),
)

pub apart_different : (ns : List ℕ) → Apart ns → all_different ns ≡ true
apart_different [] apart = refl
apart_different (n ∷ ns) apart = λ i. not (lacks_number ns n apart.0 i) && apart_different ns apart.1 i

pub map_twice : {X Y Z : Type 0} (g : Y → Z) (f : X → Y) (h : X → Z) → ((x : X) → g (f x) ≡ h x) → (xs : List X) → map g (map f xs) ≡ map h xs
map_twice g f h same [] = refl
map_twice g f h same (x ∷ xs) = λ i. same x i ∷ map_twice g f h same xs i

filter_of_map : {X Y : Type 0} (f : X → Y) (p : X → Bool) (q : Y → Bool) (xs : List X) → filter q (map f (filter p xs)) ≡ map f (filter (λ x. p x && q (f x)) xs)
filter_of_map f p q [] = refl
filter_of_map f p q (x ∷ xs) =
    let rest = filter_of_map f p q xs in
    elim (p x) as (λ b. filter q (map f (cond b (x ∷ filter p xs) (filter p xs))) ≡ map f (cond (b && q (f x)) (x ∷ filter (λ y. p y && q (f y)) xs) (filter (λ y. p y && q (f y)) xs))) [
      | true ↦ elim (q (f x)) as (λ b. cond b (f x ∷ filter q (map f (filter p xs))) (filter q (map f (filter p xs))) ≡ map f (cond b (x ∷ filter (λ y. p y && q (f y)) xs) (filter (λ y. p y && q (f y)) xs))) [
        | true ↦ ap (λ ys. f x ∷ ys) rest
        | false ↦ rest
      ]
      | false ↦ rest
    ]

-- ---- the list

module _ (cells : List TextCell) (rise : Rise 0 (map tag_of cells)) where
  abbrev pub side : Bool → List Written
  side left = image left cells

  -- a mark is among those of a side where its cell stands on it
  pub stands_there : (left : Bool) (one : TextCell) → Has cells one → is_among (side left) one.mark ≡ is_on left one
  stands_there left one has =
      ⊎_elim
      (λ (here : is_on left one ≡ true). has_any (λ (w : Written). w.mark == one.mark) (side left) (lone one) (has_map lone (filter (is_on left) cells) one (keeps (is_on left) cells one has here)) (eq-eqb one.mark one.mark refl) ∙ sym here)
      (λ (away : is_on left one ≡ false).
      ⊎_elim
      (λ (found : is_among (side left) one.mark ≡ true).
      let a = any_has (λ (w : Written). w.mark == one.mark) (side left) found in
      let t = map_has lone (filter (is_on left) cells) a.0 a.1 in
      let k = kept (is_on left) cells t.0 t.1 in
      let mark : t.0.mark ≡ one.mark = ap mark_of_written t.2 ∙ eqb-true a.0.mark one.mark a.2 in
      let same : t.0 ≡ one = one_cell 0 cells t.0 one rise k.0 has mark in
      found ∙ sym (sym (ap (is_on left) same) ∙ k.1))
      (λ (none : is_among (side left) one.mark ≡ false). none ∙ sym away)
      (cases_Bool (is_among (side left) one.mark)))
      (cases_Bool (is_on left one))

  -- those of the left side, and the new ones
  abbrev staying : TextCell → Written
  staying one = beside_others (side false) (lone one)

  abbrev fresh : Written → Bool
  fresh w = not (is_among (side true) w.mark)

  abbrev is_fresh : TextCell → Bool
  is_fresh one = is_on false one && fresh (lone one)

  abbrev lefts : List TextCell → List Written
  lefts some = map staying (filter (is_on true) some)

  abbrev news : List TextCell → List Written
  news some = map lone (filter is_fresh some)

  abbrev pub listing : List Written
  listing = lefts cells ++ news cells

  -- ---- each is a cell of the text

  record IsOf (w : Written) : Type 0 where
    one : TextCell
    has : Has cells one
    mark_is : one.mark ≡ w.mark
    cell_is : one.held.cell ≡ w.cell

  is_of : (w : Written) → Has listing w → IsOf w
  is_of w h =
      ⊎_elim
      (λ (l : Has (lefts cells) w). let t = map_has staying (filter (is_on true) cells) w l in
      record { one = t.0; has = (kept (is_on true) cells t.0 t.1).0; mark_is = ap mark_of_written t.2; cell_is = ap (λ (v : Written). v.cell) t.2 })
      (λ (r : Has (news cells) w). let t = map_has lone (filter is_fresh cells) w r in
      record { one = t.0; has = (kept is_fresh cells t.0 t.1).0; mark_is = ap mark_of_written t.2; cell_is = ap (λ (v : Written). v.cell) t.2 })
      (has_either (lefts cells) (news cells) w h)

  -- ---- their marks differ

  pub all_apart : Apart (map mark_in cells)
  all_apart = rises-apart (map mark_in cells) (marks_rise 0 cells rise)

  left_marks : map mark_of_written (lefts cells) ≡ map mark_in (filter (is_on true) cells)
  left_marks = map_twice mark_of_written staying mark_in (λ one. refl) (filter (is_on true) cells)

  new_marks : map mark_of_written (news cells) ≡ map mark_in (filter is_fresh cells)
  new_marks = map_twice mark_of_written lone mark_in (λ one. refl) (filter is_fresh cells)

  both_are : (n : ℕ) → Has (map mark_in (filter (is_on true) cells)) n → Has (map mark_in (filter is_fresh cells)) n → ⊥
  both_are n h k =
      let a = map_has mark_in (filter (is_on true) cells) n h in
      let b = map_has mark_in (filter is_fresh cells) n k in
      let l = kept (is_on true) cells a.0 a.1 in
      let r = kept is_fresh cells b.0 b.1 in
      let same : a.0 ≡ b.0 = one_cell 0 cells a.0 b.0 rise l.0 r.0 (a.2 ∙ sym b.2) in
      let none : is_among (side true) b.0.mark ≡ false = not-true (is_among (side true) b.0.mark) (and_parts (is_on false b.0) (fresh (lone b.0)) r.1).1 in
      let here : is_among (side true) b.0.mark ≡ true = stands_there true b.0 r.0 ∙ sym (ap (is_on true) same) ∙ l.1 in
      let f : false ≡ true = sym none ∙ here in
      cc

  marks_differ : all_different (map mark_of_written listing) ≡ true
  marks_differ =
      ap all_different (map-append mark_of_written (lefts cells) (news cells) ∙ (λ i. left_marks i ++ new_marks i))
      ∙ apart_different _
      (apart_append (map mark_in (filter (is_on true) cells)) (map mark_in (filter is_fresh cells)) (kept_apart mark_in (is_on true) cells all_apart) (kept_apart mark_in is_fresh cells all_apart) both_are)

  -- ---- each stands in one before it

  abbrev HasOuter : List Written → Written → Type 0
  HasOuter before w = (mark : ℕ) → w.above ≡ Some mark → (outer : Written) × Contains before outer × (outer.mark ≡ mark) × (w.both ≡ true → outer.both ≡ true)

  around_at : (before : List TextCell) (one : TextCell) (mark : ℕ) → StandsIn before one → one.above ≡ Some mark → IsAround before one.on mark
  around_at before one mark stands e = subst (IsEnclosed before one.on) e stands

  left_outer : (before : List TextCell) (one : TextCell) → ((some : TextCell) → Has before some → Has cells some) → Has cells one → is_on true one ≡ true → StandsIn before one
      → HasOuter (lefts before) (staying one)
  left_outer before one within has here stands mark e =
      let a = around_at before one mark stands e in (
        staying a.outer,
        has-contains (lefts before) (staying a.outer) (has_map staying (filter (is_on true) before) a.outer (keeps (is_on true) before a.outer a.is (a.sides true here))),
        a.mark_is,
        λ both. stands_there false a.outer (within a.outer a.is) ∙ a.sides false (sym (stands_there false one has) ∙ both),
      )

  kept_push : (p : TextCell → Bool) (f : TextCell → Written) (before : List TextCell) (one : TextCell) → p one ≡ true → map f (filter p (before ++ one ∷ [])) ≡ map f (filter p before) ++ f one ∷ []
  kept_push p f before one here =
      ap (map f) (filter-append p before (one ∷ [])) ∙ map-append f (filter p before) (filter p (one ∷ [])) ∙ ap (λ b. map f (filter p before) ++ map f (cond b (one ∷ []) [])) here

  dropped_push : (p : TextCell → Bool) (f : TextCell → Written) (before : List TextCell) (one : TextCell) → p one ≡ false → map f (filter p (before ++ one ∷ [])) ≡ map f (filter p before)
  dropped_push p f before one away =
      ap (map f) (filter-append p before (one ∷ [])) ∙ map-append f (filter p before) (filter p (one ∷ [])) ∙ ap (λ b. map f (filter p before) ++ map f (cond b (one ∷ []) [])) away
      ∙ append-nil (map f (filter p before))

  pushed_within : (before : List TextCell) (one : TextCell) → ((some : TextCell) → Has before some → Has cells some) → Has cells one → (some : TextCell) → Has (before ++ one ∷ []) some → Has cells some
  pushed_within before one within has some h =
      ⊎_elim (λ (k : Has before some). within some k) (λ (k : Has (one ∷ []) some). ⊎_elim (λ (e : one ≡ some). subst (Has cells) e has) (λ (n : ⊥). absurd n) k) (has_either before (one ∷ []) some h)

  lefts_stand : (before rest : List TextCell) → ((some : TextCell) → Has before some → Has cells some) → ((some : TextCell) → Has rest some → Has cells some) → AreEnclosed before rest
      → Each HasOuter (lefts before) (lefts rest)
  lefts_stand before [] within later each = tt
  lefts_stand before (one ∷ rest) within later each =
      let has : Has cells one = later one (inl refl) in
      let next = lefts_stand (before ++ one ∷ []) rest (pushed_within before one within has) (λ some h. later some (inr h)) each.1 in
      elim (is_on true one) as (λ b. is_on true one ≡ b → Each HasOuter (lefts before) (map staying (cond b (one ∷ filter (is_on true) rest) (filter (is_on true) rest)))) [
        | true ↦ λ here. (left_outer before one within has here each.0, subst (λ ws. Each HasOuter ws (lefts rest)) (kept_push (is_on true) staying before one here) next)
        | false ↦ λ away. subst (λ ws. Each HasOuter ws (lefts rest)) (dropped_push (is_on true) staying before one away) next
      ] refl

  new_outer : (before : List TextCell) (one : TextCell) → ((some : TextCell) → Has before some → Has cells some) → is_fresh one ≡ true → StandsIn before one
      → HasOuter (lefts cells ++ news before) (lone one)
  new_outer before one within here stands mark e =
      let a = around_at before one mark stands e in
      let on_right : is_on false a.outer ≡ true = a.sides false (and_parts (is_on false one) (fresh (lone one)) here).0 in
      let has : Has cells a.outer = within a.outer a.is in
      ⊎_elim
      (λ (left : is_among (side true) a.outer.mark ≡ true).
      let outer : Has (lefts cells) (staying a.outer) = has_map staying (filter (is_on true) cells) a.outer (keeps (is_on true) cells a.outer has (sym (stands_there true a.outer has) ∙ left)) in
      (staying a.outer, has-contains (lefts cells ++ news before) (staying a.outer) (has_left (lefts cells) (news before) (staying a.outer) outer), a.mark_is, λ both. absurd (let f : false ≡ true = both in cc)))
      (λ (none : is_among (side true) a.outer.mark ≡ false).
      let new : is_fresh a.outer ≡ true = λ i. on_right i && not (none i) in
      let outer : Has (news before) (lone a.outer) = has_map lone (filter is_fresh before) a.outer (keeps is_fresh before a.outer a.is new) in
      (lone a.outer, has-contains (lefts cells ++ news before) (lone a.outer) (has_right (lefts cells) (news before) (lone a.outer) outer), a.mark_is, λ both. absurd (let f : false ≡ true = both in cc)))
      (cases_Bool (is_among (side true) a.outer.mark))

  news_stand : (before rest : List TextCell) → ((some : TextCell) → Has before some → Has cells some) → ((some : TextCell) → Has rest some → Has cells some) → AreEnclosed before rest
      → Each HasOuter (lefts cells ++ news before) (news rest)
  news_stand before [] within later each = tt
  news_stand before (one ∷ rest) within later each =
      let next = news_stand (before ++ one ∷ []) rest (pushed_within before one within (later one (inl refl))) (λ some h. later some (inr h)) each.1 in
      elim (is_fresh one) as (λ b. is_fresh one ≡ b → Each HasOuter (lefts cells ++ news before) (map lone (cond b (one ∷ filter is_fresh rest) (filter is_fresh rest)))) [
        | true ↦ λ here. (
          new_outer before one within here each.0,
          subst (λ ws. Each HasOuter ws (news rest)) (ap (λ ws. lefts cells ++ ws) (kept_push is_fresh lone before one here) ∙ sym (append_assoc (lefts cells) (news before) (lone one ∷ []))) next,
        )
        | false ↦ λ away. subst (λ ws. Each HasOuter ws (news rest)) (ap (λ ws. lefts cells ++ ws) (dropped_push is_fresh lone before one away)) next
      ] refl

  all_stand : AreEnclosed [] cells → Each HasOuter [] listing
  all_stand each =
      each-append HasOuter [] (lefts cells) (news cells) (lefts_stand [] cells (λ some h. absurd h) (λ some h. h) each)
      (subst (λ ws. Each HasOuter ws (news cells)) (append-nil (lefts cells)) (news_stand [] cells (λ some h. absurd h) (λ some h. h) each))

  -- ---- what is written

  listed_are : (draft : Draft) → flat_map (cells_at None) draft.left ≡ side true → flat_map (cells_at None) draft.right ≡ side false → listing ≡ written draft
  listed_are draft left_is right_is =
      written_is draft (side true) (side false) listing (lefts cells) (sym left_is) (sym right_is)
      (sym (map_twice (beside_others (side false)) lone staying (λ one. refl) (filter (is_on true) cells)))
      (ap (λ ws. lefts cells ++ ws) (sym (filter_of_map lone (is_on false) fresh cells)))

-- what is asked of the cells of a text so that a draft with them on its sides may be completed
pub record AreDrawn (n : ℕ) (cells : List TextCell) (draft : Draft) : Type 0 where
  pub left : flat_map (cells_at None) draft.left ≡ image true cells
  pub right : flat_map (cells_at None) draft.right ≡ image false cells
  pub rise : Rise 0 (map tag_of cells)
  pub enclosed : AreEnclosed [] cells
  pub declared : (one : TextCell) → Has cells one → one.held.cell < n
  pub few : (one : TextCell) → Has cells one → one.mark < mark_limit

are_written : (shapes : List CellShape) (cells : List TextCell) (draft : Draft) → AreDrawn (length shapes) cells draft → (rise : Rise 0 (map tag_of cells)) → AreWritten shapes (listing cells rise)
are_written shapes cells draft drawn rise = record {
  declared = λ w has. let one = is_of cells rise w (contains-has (listing cells rise) w has) in subst (λ n. n < length shapes) one.cell_is (drawn.declared one.one one.has);
  different = marks_differ cells rise;
  enclosed = λ before after w mark is above.
      each_at (HasOuter cells rise) [] before w after (subst (Each (HasOuter cells rise) []) is (all_stand cells rise drawn.enclosed)) mark above;
}

pub written_draft : (d : Declaration) (cells : List TextCell) (draft : Draft) → AreDrawn (length d.shapes) cells draft → IsWrittenDraft d draft
written_draft d cells draft drawn =
    let same = listed_are cells drawn.rise draft drawn.left drawn.right in
    record {
      cells = subst (AreWritten d.shapes) same (are_written d.shapes cells draft drawn drawn.rise);
      few_marks = λ w has.
          let one = is_of cells drawn.rise w (contains-has (listing cells drawn.rise) w (subst (λ ws. Contains ws w) (sym same) has)) in
          subst (λ n. n < mark_limit) one.mark_is (drawn.few one.one one.has);
    }
