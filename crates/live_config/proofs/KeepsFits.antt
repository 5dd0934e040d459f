-- After a firing the configuration fits, and the right side is the plain configuration.
use Rattle.std.proofs.Common.{inl, inr, ◌≡◌, ℕ, false, List, [], ◌∷◌, Some, None, refl, sym, ap, subst, ◌∙◌}
use Rattle.std.specs.Prelude.{slice_get}
use Rattle.std.specs.Option.{option_map, option_and_then}
use Rattle.std.proofs.lemmas.Bool.{cases_Bool, eq-eqb, ne_eqb}
use Rattle.rule_terms.specs.Rewriting.{IsFilled, Step}
use Rattle.rule_terms.specs.Sound.{IsPlaced, cell_of_mark}
use Rattle.rule_terms.specs.Spots.{Spot}
use Rattle.live_config.specs.declared.cell.Cell.{Cell}
use Rattle.live_config.specs.Configuration.{cell_at, kind_at, parent_number, plain}
use Rattle.live_config.specs.Fits.{IsLawful, Fits}
use Rattle.live_config.specs.Laws.{MakesKinds}
use Rattle.live_config.proofs.Members.{Has, has-contains, has_map, Apart}
use Rattle.live_config.proofs.Levels.{IsTidy, AllLawful, parent_of, rooted_all}
use Rattle.live_config.proofs.SpotTree.{marks, outermost, spot_stands}
use Rattle.live_config.proofs.Standing.{side_filled, root_is, plain_is}
use Rattle.live_config.proofs.Binding.{tidy, sound_rule, left_root, matched_number, left_filled}
use Rattle.live_config.proofs.After.{Firing, right, number, goes_away, right_cases, left_is_right, right_apart, right_put, birth_free, NotRight, after_sorted, after_gone, after_kept}
use Rattle.live_config.proofs.Untouched.{right_or_not, RightCell, right_cell, above_stays, one_cell}
use Rattle.live_config.proofs.RightSide.{right_stands}

-- the declared cell of a cell's mark
mark_cell : (ps : List Spot) → Apart (marks ps) → (p : Spot) → Has ps p → cell_of_mark ps p.mark ≡ Some p.cell
mark_cell [] apart p h = absurd h
mark_cell (q ∷ ps) apart p (inl e) = rw (eq-eqb q.mark p.mark (ap (λ (x : Spot). x.mark) e)) (ap (λ (x : Spot). Some x.cell) e)
mark_cell (q ∷ ps) apart p (inr h) =
    rw (ne_eqb q.mark p.mark (λ e. apart.0 (subst (Has (marks ps)) (sym e) (has_map (λ (x : Spot). x.mark) ps p h)))) (mark_cell ps apart.1 p h)

-- the contents that the rule makes are of their cells' kinds
abbrev pub Makes : Firing → Type 0
Makes f = MakesKinds f.b.d f.b.r f.b.s

module _ (f : Firing) where
  right_placed : (p : Spot) → Has (right f) p → IsPlaced f.b.d f.b.r.vars (right f) p
  right_placed p h = (sound_rule f.b).cells.right_placed p (has-contains (right f) p h)

  -- the declared cell at the number of a right cell
  kind_right : (p : Spot) → Has (right f) p → (n : ℕ) → number f p.mark ≡ Some n → kind_at f.after n ≡ Some p.cell
  kind_right p h n e = let r = right_cell f p h n e in ap (option_map (λ (cell : Cell). cell.kind)) r.there ∙ ap Some r.kind

  -- the declared cell around a right cell is that at the number above
  kind_above : (p : Spot) → Has (right f) p → option_map (kind_at f.after) (option_and_then (number f) p.above) ≡ option_map (cell_of_mark (right f)) p.above
  kind_above p h =
      elim (spot_stands f.b.r.right p h) [
        | inl e ↦ subst (λ (x : Spot). option_map (kind_at f.after) (option_and_then (number f) x.above) ≡ option_map (cell_of_mark (right f)) x.above) e refl
        | inr s ↦
            let is = right_put f s.outer s.there in
            ap (λ o. option_map (kind_at f.after) (option_and_then (number f) o)) s.above
            ∙ ap (option_map (kind_at f.after)) is.number_is
            ∙ ap Some (kind_right s.outer s.there is.place is.number_is ∙ sym (mark_cell (right f) (right_apart f) s.outer s.there))
            ∙ sym (ap (option_map (cell_of_mark (right f))) s.above)
      ]

  right_lawful : Makes f → (p : Spot) → Has (right f) p → (n : ℕ) → number f p.mark ≡ Some n → (cell : Cell) → cell_at f.after n ≡ Some cell → IsLawful f.b.d f.after cell
  right_lawful makes p h n e cell there =
      let r = right_cell f p h n e in
      let placed = right_placed p h in
      let same : r.cell ≡ cell = let g : Some r.cell ≡ Some cell = sym r.there ∙ there in cc in
      subst (IsLawful f.b.d f.after) same (record {
        shape = placed.shape;
        declared = ap (slice_get f.b.d.cells) r.kind ∙ placed.declared;
        parent = ap (option_map (kind_at f.after)) r.parent ∙ kind_above p h ∙ placed.parent;
        content = makes p (has-contains (right f) p h) placed.shape placed.declared r.cell.content r.content;
      })

  -- ---- a cell that stays

  -- at a number that does not go and where a cell stood, a cell of the same declared cell stands
  kind_stays : (m : ℕ) (above : Cell) → cell_at f.b.c m ≡ Some above → goes_away f m ≡ false → kind_at f.after m ≡ kind_at f.b.c m
  kind_stays m above there remains =
      elim (right_or_not f m) [
        | inr none ↦ ap (option_map (λ (cell : Cell). cell.kind)) (after_kept f m none remains)
        | inl r ↦ elim (right_cases f r.spot.mark m r.is) [
          | inr b ↦ absurd (let g : Some above ≡ None = sym there ∙ birth_free f r.spot.mark m b.1 in cc)
          | inl l ↦
              let p = matched_number f.b r.spot.mark m l in
              kind_right r.spot r.there m r.is ∙ ap Some (sym (one_cell f p.spot r.spot p.there r.there p.mark_is).cell ∙ sym p.matched.kind)
              ∙ sym (ap (option_map (λ (cell : Cell). cell.kind)) p.matched.there)
        ]
      ]

  kept_lawful : (n : ℕ) (cell : Cell) → cell_at f.b.c n ≡ Some cell → goes_away f n ≡ false → IsLawful f.b.d f.after cell
  kept_lawful n cell there remains =
      let law = f.b.fits.lawful n cell there in
      let same : option_map (kind_at f.after) (parent_number cell) ≡ option_map (kind_at f.b.c) (parent_number cell) =
      elim (parent_number cell) as (λ o. parent_number cell ≡ o → option_map (kind_at f.after) o ≡ option_map (kind_at f.b.c) o) [
        | None ↦ λ _. refl
        | Some m ↦ λ parent.
            let up = parent_of f.b.d f.b.c (tidy f.b) n cell m there parent in
            ap Some (kind_stays m up.above up.there (above_stays f n cell m there parent remains))
      ] refl in
      record { shape = law.shape; declared = law.declared; parent = same ∙ law.parent; content = law.content }

  -- a cell of the configuration after that is no right cell is one that stayed
  kept_before : (n : ℕ) → NotRight f n → (cell : Cell) → cell_at f.after n ≡ Some cell → (goes_away f n ≡ false) × (cell_at f.b.c n ≡ Some cell)
  kept_before n none cell there =
      elim (cases_Bool (goes_away f n)) [
        | inl t ↦ absurd (let g : None ≡ Some cell = sym (after_gone f n none t) ∙ there in cc)
        | inr e ↦ (e, sym (after_kept f n none e) ∙ there)
      ]

  all_lawful : Makes f → AllLawful f.b.d f.after
  all_lawful makes n cell there =
      elim (right_or_not f n) [
        | inl r ↦ right_lawful makes r.spot r.there n r.is cell there
        | inr none ↦ let k = kept_before n none cell there in kept_lawful n cell k.1 k.0
      ]

  tidy_after : Makes f → IsTidy f.b.d f.after
  tidy_after makes = record { sound = f.b.sound; rising = after_sorted f; lawful = all_lawful makes }

  -- ---- the root

  root_number : number f f.b.r.right.mark ≡ Some f.b.fits.root
  root_number = ap (number f) (sym (sound_rule f.b).cells.one_root) ∙ left_is_right f f.b.r.left.mark f.b.fits.root (left_root f.b)

  root_right : RightCell f (outermost f.b.r.right) f.b.fits.root
  root_right = right_cell f (outermost f.b.r.right) (inl refl) f.b.fits.root root_number

  root_kind : f.b.r.right.cell ≡ 0
  root_kind =
      let p = matched_number f.b f.b.r.left.mark f.b.fits.root (left_root f.b) in
      let same : p.matched.cell ≡ f.b.fits.root_cell = let g : Some p.matched.cell ≡ Some f.b.fits.root_cell = sym p.matched.there ∙ f.b.fits.root_there in cc in
      sym (one_cell f p.spot (outermost f.b.r.right) p.there (inl refl) (p.mark_is ∙ (sound_rule f.b).cells.one_root)).cell
      ∙ sym p.matched.kind ∙ ap (λ (x : Cell). x.kind) same ∙ f.b.fits.root_declared

  one_root_after : (n : ℕ) (cell : Cell) → cell_at f.after n ≡ Some cell → parent_number cell ≡ None → n ≡ f.b.fits.root
  one_root_after n cell there top =
      elim (right_or_not f n) [
        | inr none ↦ let k = kept_before n none cell there in f.b.fits.one_root n cell k.1 top
        | inl r ↦
            let c = right_cell f r.spot r.there n r.is in
            let same : c.cell ≡ cell = let g : Some c.cell ≡ Some cell = sym c.there ∙ there in cc in
            let above : option_and_then (number f) r.spot.above ≡ None = sym c.parent ∙ ap parent_number same ∙ top in
            elim (spot_stands f.b.r.right r.spot r.there) [
              | inl e ↦ let g : Some n ≡ Some f.b.fits.root = sym r.is ∙ ap (λ (x : Spot). number f x.mark) (sym e) ∙ root_number in cc
              | inr s ↦
                  let is = right_put f s.outer s.there in
                  absurd (let g : Some is.place ≡ None = sym (ap (option_and_then (number f)) s.above ∙ is.number_is) ∙ above in cc)
            ]
      ]

  -- a firing keeps that the configuration fits
  pub fits_after : Makes f → Fits f.b.d f.after
  fits_after makes = record {
    rising = after_sorted f;
    root = f.b.fits.root;
    root_cell = root_right.cell;
    root_there = root_right.there;
    root_on_top = root_right.parent;
    root_declared = root_right.kind ∙ root_kind;
    one_root = one_root_after;
    lawful = all_lawful makes;
    rooted = rooted_all f.b.d f.after (tidy_after makes);
  }

  -- the right side is the plain configuration after
  pub right_filled : Makes f → IsFilled f.b.r.right f.b.s (plain f.after)
  right_filled makes =
      let root = root_is f.b.d f.after (tidy_after makes) f.b.fits.root root_right.cell root_right.there root_right.parent one_root_after in
      subst (IsFilled f.b.r.right f.b.s) (sym (plain_is f.after f.b.fits.root root))
      (side_filled f.b.d f.after (tidy_after makes) (number f) f.b.s f.b.r.right (right_stands f) f.b.fits.root root_number)

  -- a firing is a step
  pub is_step : Makes f → Step f.b.d.sorts (plain f.b.c) f.b.r f.b.s (plain f.after)
  is_step makes = record { suits = f.b.binds.suits; before = left_filled f.b; after = right_filled makes }
