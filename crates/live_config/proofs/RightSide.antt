-- After a firing the right side stands in the configuration.
use Rattle.std.proofs.Common.{inl, inr, ◌≡◌, ℕ, true, not, List, [], map, filter, Some, None, sym, ap, subst, ◌∙◌}
use Rattle.std.specs.Option.{option_and_then}
use Rattle.std.proofs.lemmas.Bool.{not_from_false, not-true, or_from}
use Rattle.rule_terms.specs.Numbers.{has_number}
use Rattle.rule_terms.specs.Substitution.{cells_of}
use Rattle.rule_terms.specs.Sound.{cells_rest}
use Rattle.rule_terms.specs.Spots.{Spot, has_mark, new_spots, number_of, child_marks}
use Rattle.live_config.specs.Configuration.{parent_number, below, level_limit, tree}
use Rattle.live_config.specs.Firing.{further, numbers_of}
use Rattle.live_config.proofs.Members.{Has, has-contains, map_has, kept, keeps, lacks_number, number_lacks, rises-apart, rises-filter, same_rising, Leaves, leaves_others}
use Rattle.live_config.proofs.Children.{IsChild, child_below, below_child, below_rises}
use Rattle.live_config.proofs.Levels.{map_same, parent_of}
use Rattle.live_config.proofs.SpotTree.{spot_stands, spot_children, children_apart, same_spot}
use Rattle.live_config.proofs.Standing.{numbered, Stands}
use Rattle.live_config.proofs.Numbering.{numbers_of-is, numbered_has, has_numbered, numbered_apart, number_marked}
use Rattle.live_config.proofs.Binding.{tidy, sound_rule, left, left_number, left_once, left_apart, matched_number, left_rest, no_members}
use Rattle.live_config.proofs.After.{Firing, right, number, right_cases, right_apart, right_once, right_put, birth_free, after_sorted}
use Rattle.live_config.proofs.Untouched.{IsUntouched, right_or_not, right_cell, right_above, child_before, unmatched, above_number, goes_child, not_removed, stays, no_number, untouched_child_after, untouched_tree, has_the_mark, one_cell, NotLeft}

module _ (f : Firing) where
  -- the children of a right cell beside those of its body
  abbrev pub others_after : Spot → ℕ → List ℕ
  others_after q n = filter (λ m. not (has_number (numbered (number f) (child_marks q.body)) m)) (below f.after n)

  -- a right cell that stands in another is its child
  inner_child : (q : Spot) → Has (right f) q → (n : ℕ) → number f q.mark ≡ Some n → (mark m : ℕ) → Has (child_marks q.body) mark → number f mark ≡ Some m → IsChild f.after n m
  inner_child q h n e mark m child is =
      let u = spot_children f.b.r.right q h mark child in
      let r = right_cell f u.inner u.there m (ap (number f) u.mark_is ∙ is) in
      record { cell = r.cell; there = r.there; parent = r.parent ∙ ap (option_and_then (number f)) u.above_is ∙ e }

  -- a right cell whose mark above has the number of another right cell stands in it
  inner_mark : (q : Spot) → Has (right f) q → (n : ℕ) → number f q.mark ≡ Some n → (p : Spot) → Has (right f) p → (a : ℕ) → p.above ≡ Some a → number f a ≡ Some n → Has (child_marks q.body) p.mark
  inner_mark q h n e p k a above is =
      elim (spot_stands f.b.r.right p k) [
        | inl s ↦ absurd (let g : None ≡ Some a = ap (λ (x : Spot). x.above) s ∙ above in cc)
        | inr s ↦
            let g : Some s.outer.mark ≡ Some a = sym s.above ∙ above in
            let t : s.outer.mark ≡ a = cc in
            let same = same_spot (right f) (right_apart f) s.outer q s.there h (right_once f s.outer.mark q.mark n (ap (number f) t ∙ is) e) in
            subst (λ (x : Spot). Has (child_marks x.body) p.mark) same s.child
      ]

  -- the same on the left
  left_inner_mark : (q : Spot) → Has (left f.b) q → (n : ℕ) → left_number f.b q.mark ≡ Some n → (p : Spot) → Has (left f.b) p → (a : ℕ) → p.above ≡ Some a → left_number f.b a ≡ Some n → Has (child_marks q.body) p.mark
  left_inner_mark q h n e p k a above is =
      elim (spot_stands f.b.r.left p k) [
        | inl s ↦ absurd (let g : None ≡ Some a = ap (λ (x : Spot). x.above) s ∙ above in cc)
        | inr s ↦
            let g : Some s.outer.mark ≡ Some a = sym s.above ∙ above in
            let t : s.outer.mark ≡ a = cc in
            let same = same_spot (left f.b) (left_apart f.b) s.outer q s.there h (left_once f.b s.outer.mark q.mark n (ap (left_number f.b) t ∙ is) e) in
            subst (λ (x : Spot). Has (child_marks x.body) p.mark) same s.child
      ]

  -- another child is left alone, and was a child before
  record IsOther (n m : ℕ) : Type 0 where
    before : IsChild f.b.c n m
    untouched : IsUntouched f m

  other_child : (q : Spot) → Has (right f) q → (n : ℕ) → number f q.mark ≡ Some n → (m : ℕ) → Has (others_after q n) m → IsOther n m
  other_child q h n e m g =
      let k = kept (λ m. not (has_number (numbered (number f) (child_marks q.body)) m)) (below f.after n) m g in
      let child = below_child f.after (after_sorted f) n m k.0 in
      let apart = number_lacks (numbered (number f) (child_marks q.body)) m (not-true _ k.1) in
      elim (right_or_not f m) [
        | inl r ↦
            let a = right_above f n m child r.spot r.there r.is in
            absurd (apart (has_numbered (number f) (child_marks q.body) r.spot.mark m (inner_mark q h n e r.spot r.there a.0 a.1 a.2) r.is))
        | inr none ↦
            let b = child_before f n m child none in
            record {
              before = b.0;
              untouched = record { cell = b.0.cell; there = b.0.there; remains = b.1; unmatched = unmatched f m none b.1 };
            }
      ]

  -- ---- a right cell that was there before

  -- a further child of a left cell that stays is left alone
  further_untouched : (p : Spot) → Has (left f.b) p → (n : ℕ) → left_number f.b p.mark ≡ Some n → has_mark (right f) p.mark ≡ true → (m : ℕ) → Has (further f.b.c (left f.b) f.b.site.cells p.body n) m → IsOther n m
  further_untouched p h n e on_right m g =
      let k = kept (λ m. not (has_number (numbers_of (left f.b) f.b.site.cells (child_marks p.body)) m)) (below f.b.c n) m g in
      let child = below_child f.b.c (tidy f.b).rising n m k.0 in
      let apart = number_lacks (numbers_of (left f.b) f.b.site.cells (child_marks p.body)) m (not-true _ k.1) in
      let free : NotLeft f m = λ mark is.
      let q = matched_number f.b mark m is in
      let same : q.matched.cell ≡ child.cell = (let j : Some q.matched.cell ≡ Some child.cell = sym q.matched.there ∙ child.there in cc) in
      let a = above_number (left_number f.b) q.spot.above n (sym q.matched.parent ∙ ap parent_number same ∙ child.parent) in
      apart (subst (λ ns. Has ns m) (sym (numbers_of-is (left f.b) f.b.site.cells (child_marks p.body)))
      (has_numbered (left_number f.b) (child_marks p.body) q.spot.mark m (left_inner_mark p h n e q.spot q.there a.0 a.1 a.2) (ap (left_number f.b) q.mark_is ∙ is))) in
      record {
        before = child;
        untouched = record {
          cell = child.cell;
          there = child.there;
          remains = goes_child f m child.cell n child.there child.parent ∙ or_from _ _ (not_removed f m free) (stays f p.mark n e on_right);
          unmatched = free;
        };
      }

  same_others : (p q : Spot) → Has (left f.b) p → Has (right f) q → p.mark ≡ q.mark → (n : ℕ) → left_number f.b p.mark ≡ Some n → number f q.mark ≡ Some n → others_after q n ≡ further f.b.c (left f.b) f.b.site.cells p.body n
  same_others p q h k same n e is =
      let on_right : has_mark (right f) p.mark ≡ true = ap (has_mark (right f)) same ∙ has_the_mark (right f) q k in
      same_rising (others_after q n) (further f.b.c (left f.b) f.b.site.cells p.body n)
      (rises-filter _ (below f.after n) (below_rises f.after (after_sorted f) n))
      (rises-filter _ (below f.b.c n) (below_rises f.b.c (tidy f.b).rising n))
      (λ m g.
      let o = other_child q k n is m g in
      keeps (λ m. not (has_number (numbers_of (left f.b) f.b.site.cells (child_marks p.body)) m)) (below f.b.c n) m (child_below f.b.c n m o.before)
      (not_from_false _ (lacks_number _ m (λ j.
      let x = numbered_has (left_number f.b) (child_marks p.body) m (subst (λ ns. Has ns m) (numbers_of-is (left f.b) f.b.site.cells (child_marks p.body)) j) in
      o.untouched.unmatched x.0 x.2))))
      (λ m g.
      let o = further_untouched p h n e on_right m g in
      keeps (λ m. not (has_number (numbered (number f) (child_marks q.body)) m)) (below f.after n) m (child_below f.after n m (untouched_child_after f n m o.untouched o.before))
      (not_from_false _ (lacks_number _ m (λ j. let x = numbered_has (number f) (child_marks q.body) m j in no_number f m o.untouched x.0 x.2))))

  same_trees : (q : Spot) → Has (right f) q → (n : ℕ) → number f q.mark ≡ Some n → map (tree level_limit f.after) (others_after q n) ≡ map (tree level_limit f.b.c) (others_after q n)
  same_trees q h n e = map_same (tree level_limit f.after) (tree level_limit f.b.c) (others_after q n) (λ m g. untouched_tree f level_limit m (other_child q h n e m g).untouched)

  staying_rest : (q : Spot) → Has (right f) q → (n : ℕ) → number f q.mark ≡ Some n → left_number f.b q.mark ≡ Some n → cells_of (cells_rest q.body) f.b.s ≡ Some (map (tree level_limit f.after) (others_after q n))
  staying_rest q h n e on_left =
      let p = matched_number f.b q.mark n on_left in
      let is = ap (left_number f.b) p.mark_is ∙ on_left in
      ap (λ o. cells_of o f.b.s) (sym (one_cell f p.spot q p.there h p.mark_is).rest)
      ∙ left_rest f.b p.spot p.there n p.matched
      ∙ ap (λ ns. Some (map (tree level_limit f.b.c) ns)) (sym (same_others p.spot q p.there h p.mark_is n is e))
      ∙ ap Some (sym (same_trees q h n e))

  -- ---- a new right cell

  -- a right cell whose number is a birth is new
  new_spot : (q : Spot) → Has (right f) q → (n : ℕ) → number_of (new_spots f.b.r) f.births q.mark ≡ Some n → Has (new_spots f.b.r) q
  new_spot q h n e =
      let m = map_has (λ (p : Spot). p.mark) (new_spots f.b.r) q.mark (number_marked (new_spots f.b.r) f.births q.mark n e) in
      let k = kept (λ (p : Spot). not (has_mark (left f.b) p.mark)) (right f) m.0 m.1 in
      subst (Has (new_spots f.b.r)) (same_spot (right f) (right_apart f) m.0 q k.0 h m.2) m.1

  new_rest : (q : Spot) → Has (right f) q → (n : ℕ) → number f q.mark ≡ Some n → number_of (new_spots f.b.r) f.births q.mark ≡ Some n → cells_of (cells_rest q.body) f.b.s ≡ Some (map (tree level_limit f.after) (others_after q n))
  new_rest q h n e born =
      let none : others_after q n ≡ [] = no_members (others_after q n) (λ m g.
      let o = other_child q h n e m g in
      let up = parent_of f.b.d f.b.c (tidy f.b) m o.before.cell n o.before.there o.before.parent in
      let z : Some up.above ≡ None = sym up.there ∙ birth_free f q.mark n born in
      absurd cc) in
      ap (λ o. cells_of o f.b.s) ((sound_rule f.b).cells.new_closed q (has-contains (new_spots f.b.r) q (new_spot q h n born)))
      ∙ ap (λ ns. Some (map (tree level_limit f.after) ns)) (sym none)

  -- ---- the right side

  right_children : (q : Spot) → Has (right f) q → (n : ℕ) → number f q.mark ≡ Some n → Leaves (numbered (number f) (child_marks q.body)) (below f.after n) (others_after q n)
  right_children q h n e =
      leaves_others (numbered (number f) (child_marks q.body)) (below f.after n)
      (numbered_apart (number f) (right_once f) (child_marks q.body) (children_apart f.b.r.right (right_apart f) q h))
      (rises-apart (below f.after n) (below_rises f.after (after_sorted f) n))
      (λ m g. let k = numbered_has (number f) (child_marks q.body) m g in child_below f.after n m (inner_child q h n e k.0 m k.1 k.2))

  pub right_stands : (q : Spot) → Has (right f) q → Stands f.after (number f) f.b.s q
  right_stands q h =
      let is = right_put f q h in
      let n = is.place in
      let r = right_cell f q h n is.number_is in (
        n,
        is.number_is,
        record {
          cell = r.cell;
          there = r.there;
          kind = r.kind;
          content = r.content;
          others = others_after q n;
          children = right_children q h n is.number_is;
          rest = elim (right_cases f q.mark n is.number_is) [ inl l ↦ staying_rest q h n is.number_is l | inr b ↦ new_rest q h n is.number_is b.1 ];
        },
      )
