-- What a firing leaves alone: a cell that does not go and that the rule does not match stays with all below it.
use Rattle.std.proofs.Common.{arith, inl, inr, ◌⊎◌, ◌≡◌, ℕ, suc, zero, ◌<◌, true, false, not, ◌==◌, ◌||◌, List, [], ◌∷◌, map, filter, Option, Some, None, refl, sym, ap, subst, ◌∙◌}
use Rattle.std.specs.Option.{option_map, option_and_then}
use Rattle.std.proofs.lemmas.Bool.{cases_eq, cases_Bool, or_parts, or_from, not_from_false, not-true, eqb-true, eq-eqb}
use Rattle.rule_terms.specs.Numbers.{has_number}
use Rattle.rule_terms.specs.Fill.{plain_cell, content_of}
use Rattle.rule_terms.specs.Sound.{IsSameCell}
use Rattle.rule_terms.specs.Spots.{Spot, has_mark}
use Rattle.live_config.specs.declared.cell.CellNo.{CellNo}
use Rattle.live_config.specs.declared.cell.Cell.{Cell}
use Rattle.live_config.specs.Configuration.{cell_at, parent_number, below, tree, no_cell}
use Rattle.live_config.proofs.Members.{Has, has-contains, has_map, map_has, kept, keeps, any_has, has_any, has_the_number, lacks_number, same_rising}
use Rattle.live_config.proofs.Children.{IsChild, child_below, below_child, below_rises}
use Rattle.live_config.proofs.Levels.{map_same, parent_of, goes_step, goes_top}
use Rattle.live_config.proofs.SpotTree.{marks, spot_stands}
use Rattle.live_config.proofs.Numbering.{numbers_of-is, numbered_has, has_numbered}
use Rattle.live_config.proofs.Binding.{tidy, sound_rule, left, left_number, left_once, matched_number}
use Rattle.live_config.proofs.After.{Firing, IsPut, the_cell, right, number, gone, goes_away, right_cases, left_is_right, birth_free, NotRight, right_put, after_sorted, after_right, after_gone, after_kept}

-- ---- marks that a list of cells has

pub mark_there : (ps : List Spot) (mark : ℕ) → has_mark ps mark ≡ true → (p : Spot) × Has ps p × (p.mark ≡ mark)
mark_there ps mark e = let a = any_has (λ (p : Spot). p.mark == mark) ps e in (a.0, a.1, eqb-true a.0.mark mark a.2)

pub has_the_mark : (ps : List Spot) (p : Spot) → Has ps p → has_mark ps p.mark ≡ true
has_the_mark ps p h = has_any (λ (q : Spot). q.mark == p.mark) ps p h (eq-eqb p.mark p.mark refl)

-- a number that comes from the mark above
pub above_number : (number : ℕ → Option ℕ) (above : Option ℕ) (n : ℕ) → option_and_then number above ≡ Some n → (mark : ℕ) × (above ≡ Some mark) × (number mark ≡ Some n)
above_number number None n e = absurd (let f : None ≡ Some n = e in cc)
above_number number (Some mark) n e = (mark, refl, e)

module _ (f : Firing) where
  -- ---- numbers

  -- no left cell is matched at this number
  abbrev pub NotLeft : ℕ → Type 0
  NotLeft n = (mark : ℕ) → ¬ (left_number f.b mark ≡ Some n)

  -- a right cell with this number
  pub record RightAt (n : ℕ) : Type 0 where
    pub spot : Spot
    pub there : Has (right f) spot
    pub is : number f spot.mark ≡ Some n

  -- a cell of these has the number, or none has
  abbrev Search : List Spot → ℕ → Type 0
  Search ps n = RightAt n ⊎ ((p : Spot) → Has ps p → ¬ (number f p.mark ≡ Some n))

  search_later : (q : Spot) (ps : List Spot) (n : ℕ) → ¬ (number f q.mark ≡ Some n) → Search ps n → Search (q ∷ ps) n
  search_later q ps n differs (inl r) = inl r
  search_later q ps n differs (inr none) = inr (λ p h e. elim h [ inl s ↦ differs (ap (λ (x : Spot). number f x.mark) s ∙ e) | inr g ↦ none p g e ])

  right_or_not_of : (ps : List Spot) (n : ℕ) → ((p : Spot) → Has ps p → Has (right f) p) → Search ps n
  right_or_not_of [] n within = inr (λ p h e. h)
  right_or_not_of (q ∷ ps) n within =
      let rest = right_or_not_of ps n (λ p h. within p (inr h)) in
      elim (number f q.mark) as (λ o. number f q.mark ≡ o → Search (q ∷ ps) n) [
        | None ↦ λ e. search_later q ps n (λ g. let h : None ≡ Some n = sym e ∙ g in absurd cc) rest
        | Some k ↦ λ e. elim (cases_eq k n) [
          | inl s ↦ inl (record { spot = q; there = within q (inl refl); is = e ∙ ap Some s })
          | inr d ↦ search_later q ps n (λ g. let h : Some k ≡ Some n = sym e ∙ g in d cc) rest
        ]
      ] refl

  -- a number is that of a right cell, or of none
  pub right_or_not : (n : ℕ) → RightAt n ⊎ NotRight f n
  right_or_not n = right_or_not_of (right f) n (λ p h. h)

  -- ---- what is removed

  -- a removed number is that of a left cell whose mark is not on the right
  pub record RemovedAt (n : ℕ) : Type 0 where
    pub spot : Spot
    pub there : Has (left f.b) spot
    pub absent : has_mark (right f) spot.mark ≡ false
    pub is : left_number f.b spot.mark ≡ Some n

  removed_has : (n : ℕ) → Has (gone f) n → RemovedAt n
  removed_has n h =
      let g = numbered_has (left_number f.b) (marks (filter (λ (p : Spot). not (has_mark (right f) p.mark)) (left f.b))) n
      (subst (λ ns. Has ns n) (numbers_of-is (left f.b) f.b.site.cells (marks (filter (λ (p : Spot). not (has_mark (right f) p.mark)) (left f.b)))) h) in
      let m = map_has (λ (p : Spot). p.mark) (filter (λ (p : Spot). not (has_mark (right f) p.mark)) (left f.b)) g.0 g.1 in
      let k = kept (λ (p : Spot). not (has_mark (right f) p.mark)) (left f.b) m.0 m.1 in
      record { spot = m.0; there = k.0; absent = not-true (has_mark (right f) m.0.mark) k.1; is = ap (left_number f.b) m.2 ∙ g.2 }

  has_removed : (p : Spot) → Has (left f.b) p → has_mark (right f) p.mark ≡ false → (n : ℕ) → left_number f.b p.mark ≡ Some n → Has (gone f) n
  has_removed p h absent n e =
      let ms = marks (filter (λ (p : Spot). not (has_mark (right f) p.mark)) (left f.b)) in
      subst (λ ns. Has ns n) (sym (numbers_of-is (left f.b) f.b.site.cells ms))
      (has_numbered (left_number f.b) ms p.mark n (has_map (λ (q : Spot). q.mark) (filter (λ (q : Spot). not (has_mark (right f) q.mark)) (left f.b)) p (keeps (λ (q : Spot). not (has_mark (right f) q.mark)) (left f.b) p h (not_from_false _ absent))) e)

  -- what is not matched is not removed
  pub not_removed : (n : ℕ) → NotLeft n → has_number (gone f) n ≡ false
  not_removed n none = lacks_number (gone f) n (λ h. let r = removed_has n h in none r.spot.mark r.is)

  staying_not_removed : (mark n : ℕ) → left_number f.b mark ≡ Some n → has_mark (right f) mark ≡ true → has_number (gone f) n ≡ false
  staying_not_removed mark n e on_right =
      lacks_number (gone f) n (λ h.
      let r = removed_has n h in
      let same : r.spot.mark ≡ mark = left_once f.b r.spot.mark mark n r.is e in
      let t : has_mark (right f) r.spot.mark ≡ true = ap (has_mark (right f)) same ∙ on_right in
      let a = r.absent in
      let z : true ≡ false = sym t ∙ a in
      cc)

  -- ---- what goes

  pub goes_child : (n : ℕ) (cell : Cell) (m : ℕ) → cell_at f.b.c n ≡ Some cell → parent_number cell ≡ Some m → goes_away f n ≡ (has_number (gone f) n || goes_away f m)
  goes_child n cell m there parent = goes_step f.b.d f.b.c (tidy f.b) (gone f) n cell m there parent

  -- what is removed goes
  pub removed_goes : (n : ℕ) (cell : Cell) → cell_at f.b.c n ≡ Some cell → has_number (gone f) n ≡ true → goes_away f n ≡ true
  removed_goes n cell there e =
      elim (parent_number cell) as (λ o. parent_number cell ≡ o → goes_away f n ≡ true) [
        | None ↦ λ parent. goes_top f.b.d f.b.c (tidy f.b) (gone f) n cell there parent ∙ ap (λ b. b || false) e
        | Some m ↦ λ parent. goes_child n cell m there parent ∙ ap (λ b. b || goes_away f m) e
      ] refl

  -- a left cell and the right cell with its mark are one cell
  pub one_cell : (p q : Spot) → Has (left f.b) p → Has (right f) q → p.mark ≡ q.mark → IsSameCell p q
  one_cell p q h k e = (sound_rule f.b).cells.staying p q (has-contains (left f.b) p h) (has-contains (right f) q k) e

  -- the mark around a left cell that stays is on the right too
  stays_above : (p : Spot) → Has (left f.b) p → has_mark (right f) p.mark ≡ true → (a : ℕ) → p.above ≡ Some a → has_mark (right f) a ≡ true
  stays_above p h on_right a above =
      let q = mark_there (right f) p.mark on_right in
      let same = one_cell p q.0 h q.1 (sym q.2) in
      elim (spot_stands f.b.r.right q.0 q.1) [
        | inl e ↦ absurd (let g : None ≡ Some a = ap (λ (x : Spot). x.above) e ∙ sym same.above ∙ above in cc)
        | inr s ↦
            let g : Some s.outer.mark ≡ Some a = sym s.above ∙ sym same.above ∙ above in
            let t : s.outer.mark ≡ a = cc in
            subst (λ m. has_mark (right f) m ≡ true) t (has_the_mark (right f) s.outer s.there)
      ]

  stays_at : (levels mark n : ℕ) → left_number f.b mark ≡ Some n → has_mark (right f) mark ≡ true → (cell : Cell) → cell_at f.b.c n ≡ Some cell → cell.kind < levels → goes_away f n ≡ false
  stays_at zero mark n e on_right cell there low = absurd (omega (arith, low))
  stays_at (suc levels) mark n e on_right cell there low =
      let p = matched_number f.b mark n e in
      let same : p.matched.cell ≡ cell = let g : Some p.matched.cell ≡ Some cell = sym p.matched.there ∙ there in cc in
      let parent : parent_number cell ≡ option_and_then (left_number f.b) p.spot.above = ap parent_number (sym same) ∙ p.matched.parent in
      let not_here = staying_not_removed mark n e on_right in
      elim (parent_number cell) as (λ o. parent_number cell ≡ o → goes_away f n ≡ false) [
        | None ↦ λ top. goes_top f.b.d f.b.c (tidy f.b) (gone f) n cell there top ∙ ap (λ b. b || false) not_here
        | Some m ↦ λ under.
            let a = above_number (left_number f.b) p.spot.above m (sym parent ∙ under) in
            let up = parent_of f.b.d f.b.c (tidy f.b) n cell m there under in
            let l = up.lower in
            let above_stays = stays_above p.spot p.there (ap (has_mark (right f)) p.mark_is ∙ on_right) a.0 a.1 in
            goes_child n cell m there under ∙ or_from _ _ not_here (stays_at levels a.0 m a.2 above_stays up.above up.there (omega (arith, l, low)))
      ] refl

  -- a left cell whose mark is on the right does not go
  pub stays : (mark n : ℕ) → left_number f.b mark ≡ Some n → has_mark (right f) mark ≡ true → goes_away f n ≡ false
  stays mark n e on_right =
      let p = matched_number f.b mark n e in
      stays_at (suc p.matched.cell.kind) mark n e on_right p.matched.cell p.matched.there (omega arith)

  -- the cell above one that does not go does not go
  pub above_stays : (n : ℕ) (cell : Cell) (m : ℕ) → cell_at f.b.c n ≡ Some cell → parent_number cell ≡ Some m → goes_away f n ≡ false → goes_away f m ≡ false
  above_stays n cell m there parent e = (or_parts (has_number (gone f) n) (goes_away f m) (sym (goes_child n cell m there parent) ∙ e)).1

  -- a left cell at a number that no right cell has goes
  pub unmatched : (n : ℕ) → NotRight f n → goes_away f n ≡ false → NotLeft n
  unmatched n none remains mark e =
      let p = matched_number f.b mark n e in
      elim (cases_Bool (has_mark (right f) mark)) [
        | inl t ↦ let q = mark_there (right f) mark t in none q.0 q.1 (ap (number f) q.2 ∙ left_is_right f mark n e)
        | inr a ↦
            let h = has_removed p.spot p.there (ap (has_mark (right f)) p.mark_is ∙ a) n (ap (left_number f.b) p.mark_is ∙ e) in
            let t = removed_goes n p.matched.cell p.matched.there (has_the_number (gone f) n h) in
            let z : true ≡ false = sym t ∙ remains in
            cc
      ]

  -- ---- a cell that is left alone

  pub record IsUntouched (n : ℕ) : Type 0 where
    pub cell : Cell
    pub there : cell_at f.b.c n ≡ Some cell
    pub remains : goes_away f n ≡ false
    pub unmatched : NotLeft n

  -- no mark has its number
  pub no_number : (n : ℕ) → IsUntouched n → (mark : ℕ) → ¬ (number f mark ≡ Some n)
  no_number n u mark e = elim (right_cases f mark n e) [
    | inl l ↦ u.unmatched mark l
    | inr r ↦ let g : Some u.cell ≡ None = sym u.there ∙ birth_free f mark n r.1 in absurd cc
  ]

  pub untouched_after : (n : ℕ) → IsUntouched n → cell_at f.after n ≡ cell_at f.b.c n
  untouched_after n u = after_kept f n (λ p h. no_number n u p.mark) u.remains

  -- neither is a child of it
  pub untouched_child : (n : ℕ) → IsUntouched n → (m : ℕ) → IsChild f.b.c n m → IsUntouched m
  untouched_child n u m child =
      let free : NotLeft m = λ mark e.
      let p = matched_number f.b mark m e in
      let same : p.matched.cell ≡ child.cell = (let g : Some p.matched.cell ≡ Some child.cell = sym p.matched.there ∙ child.there in cc) in
      let a = above_number (left_number f.b) p.spot.above n (sym p.matched.parent ∙ ap parent_number same ∙ child.parent) in
      u.unmatched a.0 a.2 in
      record {
        cell = child.cell;
        there = child.there;
        remains = goes_child m child.cell n child.there child.parent ∙ or_from _ _ (not_removed m free) u.remains;
        unmatched = free;
      }

  -- the parent of a cell that is put
  pub put_parent : (p : Spot) (is : IsPut (number f) f.b.s p) → parent_number (the_cell (number f) f.b.s p is.content) ≡ option_and_then (number f) p.above
  put_parent p is = elim (option_and_then (number f) p.above) as (λ o. option_map (λ (q : CellNo). q.0) (option_map (λ m. record { 0 = m }) o) ≡ o) [ None ↦ refl | Some m ↦ refl ]

  -- the cell that is put for a right cell
  pub record RightCell (p : Spot) (n : ℕ) : Type 0 where
    pub cell : Cell
    pub there : cell_at f.after n ≡ Some cell
    pub kind : cell.kind ≡ p.cell
    pub parent : parent_number cell ≡ option_and_then (number f) p.above
    pub content : content_of p.body f.b.s ≡ Some cell.content

  pub right_cell : (p : Spot) → Has (right f) p → (n : ℕ) → number f p.mark ≡ Some n → RightCell p n
  right_cell p h n e =
      let is = right_put f p h in
      record {
        cell = the_cell (number f) f.b.s p is.content;
        there = after_right f p h n e ∙ ap (option_map (the_cell (number f) f.b.s p)) is.content_is;
        kind = refl;
        parent = put_parent p is;
        content = is.content_is;
      }

  -- a child in the configuration after, of which no right cell has the number, was one before
  pub child_before : (n m : ℕ) → IsChild f.after n m → NotRight f m → IsChild f.b.c n m × (goes_away f m ≡ false)
  child_before n m child none =
      elim (cases_Bool (goes_away f m)) [
        | inl t ↦ absurd (let g : None ≡ Some child.cell = sym (after_gone f m none t) ∙ child.there in cc)
        | inr e ↦ (record { cell = child.cell; there = sym (after_kept f m none e) ∙ child.there; parent = child.parent }, e)
      ]

  -- the mark above a right cell that is a child has the parent's number
  pub right_above : (n m : ℕ) (child : IsChild f.after n m) (p : Spot) → Has (right f) p → number f p.mark ≡ Some m → (mark : ℕ) × (p.above ≡ Some mark) × (number f mark ≡ Some n)
  right_above n m child p h e =
      let r = right_cell p h m e in
      let same : r.cell ≡ child.cell = let g : Some r.cell ≡ Some child.cell = sym r.there ∙ child.there in cc in
      above_number (number f) p.above n (sym r.parent ∙ ap parent_number same ∙ child.parent)

  untouched_child_before : (n : ℕ) → IsUntouched n → (m : ℕ) → IsChild f.after n m → IsChild f.b.c n m
  untouched_child_before n u m child =
      elim (right_or_not m) [
        | inl r ↦ let a = right_above n m child r.spot r.there r.is in absurd (no_number n u a.0 a.2)
        | inr none ↦ (child_before n m child none).0
      ]

  pub untouched_child_after : (n m : ℕ) → IsUntouched m → IsChild f.b.c n m → IsChild f.after n m
  untouched_child_after n m u child = record { cell = child.cell; there = untouched_after m u ∙ child.there; parent = child.parent }

  untouched_below : (n : ℕ) → IsUntouched n → below f.after n ≡ below f.b.c n
  untouched_below n u =
      same_rising (below f.after n) (below f.b.c n) (below_rises f.after (after_sorted f) n) (below_rises f.b.c (tidy f.b).rising n)
      (λ m h. child_below f.b.c n m (untouched_child_before n u m (below_child f.after (after_sorted f) n m h)))
      (λ m h. let child = below_child f.b.c (tidy f.b).rising n m h in child_below f.after n m (untouched_child_after n m (untouched_child n u m child) child))

  -- the tree of a cell that is left alone stays
  pub untouched_tree : (levels n : ℕ) → IsUntouched n → tree levels f.after n ≡ tree levels f.b.c n
  unfolding tree
  untouched_tree zero n u = refl
  untouched_tree (suc levels) n u =
      let step : map (tree levels f.after) (below f.b.c n) ≡ map (tree levels f.b.c) (below f.b.c n) = map_same (tree levels f.after) (tree levels f.b.c) (below f.b.c n) (λ m h.
      untouched_tree levels m (untouched_child n u m (below_child f.b.c (tidy f.b).rising n m h))) in
      (λ i. elim (untouched_after n u i) [ None ↦ no_cell | Some cell ↦ plain_cell cell.kind cell.content (map (tree levels f.after) (untouched_below n u i)) ])
      ∙ ap (λ ts. elim (cell_at f.b.c n) [ None ↦ no_cell | Some cell ↦ plain_cell cell.kind cell.content ts ]) step
