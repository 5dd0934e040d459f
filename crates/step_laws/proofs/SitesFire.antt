-- A site at which a rule binds fires with any births that are free: each right cell has a number and a content.
use Rattle.std.proofs.Common.{◌≡◌, inl, inr, ℕ, not, List, [], ◌∷◌, length, filter, Option, Some, None, refl, sym, ap, ◌∙◌}
use Rattle.std.proofs.lemmas.Bool.{cases_Bool}
use Rattle.std.specs.Prelude.{IsTrue}
use Rattle.std.specs.Option.{option_and_then}
use Rattle.std.specs.List.{list_all}
use Rattle.std.specs.Ordering.{nat_cmp}
use Rattle.std.specs.FinMap.{put}
use Rattle.k_terms.specs.declared.value.Content.{Content}
use Rattle.rule_terms.specs.Fill.{content_of}
use Rattle.rule_terms.specs.Numbers.{all_different}
use Rattle.rule_terms.specs.Spots.{Spot, spots, has_mark, new_spots, number_of}
use Rattle.rule_terms.specs.Substitution.{Subst}
use Rattle.live_config.specs.declared.cell.Cell.{Cell}
use Rattle.live_config.specs.Configuration.{Configuration}
use Rattle.live_config.specs.Firing.{Fires, put_spots, goes, removed, right_number, is_free}
use Rattle.live_config.proofs.Members.{Has, has_map, keeps}
use Rattle.live_config.proofs.Numbering.{number_given}
use Rattle.live_config.proofs.Binding.{Binding, left_number, matched_spot}
use Rattle.live_config.proofs.After.{IsPut, the_cell}
use Rattle.live_config.proofs.Untouched.{mark_there}
use Rattle.site_laws.proofs.SameFilled.{IsDefined, map_defined}
use Rattle.step_laws.specs.Laws.{SitesFire}
use Rattle.step_laws.proofs.Filling.{side_contents}

-- where each cell has a number and a content, all are put
module _ (number : ℕ → Option ℕ) (s : Subst) where
  put_defined : (ps : List Spot) → ((p : Spot) → Has ps p → IsPut number s p) → (cells : List (ℕ × Cell)) → IsDefined (put_spots number s ps cells)
  put_defined [] given cells = (cells, refl)
  put_defined (p ∷ ps) given cells =
      let is = given p (inl refl) in
      let rest = put_defined ps (λ q h. given q (inr h)) (put nat_cmp is.place (the_cell number s p is.content) cells) in
      let more : ℕ → Content → Option (List (ℕ × Cell)) = λ n content. put_spots number s ps (put nat_cmp n (the_cell number s p content) cells) in (
        rest.0,
        ap (option_and_then (λ n. option_and_then (more n) (content_of p.body s))) is.number_is ∙ ap (option_and_then (more is.place)) is.content_is ∙ rest.1,
      )

-- a number that is given, and else another
given_or : (o other : Option ℕ) → IsDefined other → IsDefined (elim o [ Some n ↦ Some n | None ↦ other ])
given_or None other d = d
given_or (Some n) other d = (n, refl)

module _ (b : Binding) (births : List ℕ) (count : length births ≡ length (new_spots b.r)) where
  abbrev number : ℕ → Option ℕ
  number = right_number b.r b.site.cells births

  -- each right cell has a number: that of the left cell with its mark, or its birth
  numbered : (p : Spot) → Has (spots b.r.right) p → IsDefined (number p.mark)
  numbered p h =
      elim (cases_Bool (has_mark (spots b.r.left) p.mark)) [
        | inl old ↦
            let q = mark_there (spots b.r.left) p.mark old in
            let m = matched_spot b q.0 q.1 in
            (m.number, ap (λ o. elim o [ Some n ↦ Some n | None ↦ number_of (new_spots b.r) births p.mark ]) (ap (left_number b) (sym q.2) ∙ m.is))
        | inr new ↦
            let made : Has (new_spots b.r) p = keeps (λ (x : Spot). not (has_mark (spots b.r.left) x.mark)) (spots b.r.right) p h (ap not new) in
            let n = number_given (new_spots b.r) births p.mark count (has_map (λ (x : Spot). x.mark) (new_spots b.r) p made) in
            given_or (left_number b p.mark) (number_of (new_spots b.r) births p.mark) (n.0, n.1)
      ]

  is_put : (p : Spot) → Has (spots b.r.right) p → IsPut number b.s p
  is_put p h =
      let n = numbered p h in
      let content = side_contents b.s b.r.right b.binds.right_defined p h in
      record { place = n.0; number_is = n.1; content = content.0; content_is = content.1 }

  gives : IsTrue (all_different births) → IsTrue (list_all (is_free b.c) births) → (after : Configuration) × Fires b.d b.c b.site births b.r b.s after
  gives different free =
      let staying = filter (λ e. not (goes b.c (removed b.r b.site.cells) e.0)) b.c.cells in
      let put = put_defined number b.s (spots b.r.right) is_put staying in
      let after = map_defined (λ cells. record { cells = cells }) (put_spots number b.s (spots b.r.right) staying) put in
      (after.0, record { binds = b.binds; count = count; different = different; free = free; gives = after.1 })

pub sites_fire : SitesFire
sites_fire d c site r s births sound fits binds count different free =
    gives (record { d = d; c = c; site = site; r = r; s = s; sound = sound; fits = fits; binds = binds }) births count different free
