-- Each match of ordinary rewriting has a site.
use Rattle.std.proofs.Common.{◌≡◌, inl, inr, ℕ, List, [], ◌∷◌, Option, Some, None, Contains, refl, sym, subst, ◌∙◌}
use Rattle.std.specs.Prelude.{IsSome, IsSomeAnd}
use Rattle.rule_terms.specs.declared.plain.Plain.{Plain}
use Rattle.rule_terms.specs.declared.rule.Rule.{Rule}
use Rattle.rule_terms.specs.Fill.{content_of, fill}
use Rattle.rule_terms.specs.Language.{Language}
use Rattle.rule_terms.specs.Rewriting.{Alike, Suits, IsFilled}
use Rattle.rule_terms.specs.Sound.{IsSound, IsSoundRule}
use Rattle.rule_terms.specs.Spots.{Spot, spots, spots_in, number_of}
use Rattle.rule_terms.specs.Substitution.{Subst}
use Rattle.live_config.specs.Configuration.{Configuration, below, level_limit, tree, plain}
use Rattle.live_config.specs.Fits.{Fits}
use Rattle.live_config.specs.Steps.{SubstAlike}
use Rattle.live_config.proofs.Members.{Has, Apart, different-apart, rises-apart}
use Rattle.live_config.proofs.Children.{below_rises}
use Rattle.live_config.proofs.Levels.{IsTidy}
use Rattle.live_config.proofs.SpotTree.{marks, outermost}
use Rattle.live_config.proofs.Standing.{root_is, plain_is}
use Rattle.site_laws.specs.Laws.{HasMatch, MatchesHaveSites}
use Rattle.site_laws.proofs.SameValues.{same_values, content_same, all_met_same, sorts_same}
use Rattle.site_laws.proofs.SameFilled.{IsDefined, fill_defined}
use Rattle.site_laws.proofs.Walk.{BodyFits, body_walk}
use Rattle.site_laws.proofs.Apartness.{apart-different}
use Rattle.site_laws.proofs.Branches.{side_apart}
use Rattle.site_laws.proofs.Numbered.{Marked, beside_number, marked_first, marked_later}
use Rattle.site_laws.proofs.Placing.{AllFit, spot_fits, inner_all}
use Rattle.site_laws.proofs.Bounding.{bound_of, bound_alike, all_matched}
use Rattle.site_laws.proofs.Keys.{keys_defined}
use Rattle.site_laws.proofs.OwnRests.{own_rests, rule_number}

-- a side that is filled to a tree like this one
record IsFilledTo (filled : Option Plain) (u : Plain) : Type 0 where
  tree : Plain
  is : filled ≡ Some tree
  like : Alike tree u

filled_to : (filled : Option Plain) (u : Plain) → IsSomeAnd filled (λ t. Alike t u) → IsFilledTo filled u
filled_to None u h = absurd h
filled_to (Some t) u h = record { tree = t; is = refl; like = h }

module _ (d : Language) (c : Configuration) (r : Rule) (s : Subst) (sound : IsSound d) (fits : Fits d c)
    (contained : Contains d.rules r) (suits : Suits d.sorts r s) (filled : IsFilled r.left s (plain c)) (right : IsSome (fill r.right s)) where
  tidy : IsTidy d c
  tidy = record { sound = sound; rising = fits.rising; lawful = fits.lawful }

  sound_rule : IsSoundRule d r
  sound_rule = sound.rules r contained

  abbrev left : List Spot
  left = spots r.left

  left_apart : Apart (marks left)
  left_apart = different-apart (marks left) sound_rule.cells.left_marks

  root_plain : plain c ≡ tree level_limit c fits.root
  root_plain = plain_is c fits.root (root_is d c tidy fits.root fits.root_cell fits.root_there fits.root_on_top fits.one_root)

  walk : BodyFits d c tidy s None r.left.cell r.left.body fits.root
  walk =
      let f = filled_to (fill r.left s) (plain c) filled in
      body_walk d c tidy s None r.left.cell r.left.body fits.root fits.root_cell fits.root_there fits.root_on_top f.tree f.is
      (subst (Alike f.tree) root_plain f.like)

  -- the numbers of the left cells, in pre-order
  abbrev numbers : List ℕ
  numbers = fits.root ∷ walk.inner

  numbers_apart : Apart numbers
  numbers_apart = side_apart d c tidy s fits.root r.left.body walk.inner walk.inner_fits

  marked : Marked (number_of left numbers) left numbers
  marked = beside_number left numbers left_apart

  all_fit : AllFit c s left numbers left numbers
  all_fit =
      let below_apart : (n : ℕ) → Apart (below c n) = λ n. rises-apart (below c n) (below_rises c fits.rising n) in
      let inside = marked_later (number_of left numbers) (outermost r.left) (spots_in r.left.mark r.left.body) fits.root walk.inner marked in (
        spot_fits c s left numbers below_apart (outermost r.left) None fits.root walk.inner refl walk.fits walk.inner_fits inside,
        inner_all c s left numbers below_apart fits.root r.left.mark r.left.body walk.inner
            (marked_first (number_of left numbers) (outermost r.left) (spots_in r.left.mark r.left.body) fits.root walk.inner marked) walk.inner_fits inside,
      )

  -- the substitution with the rests of cells in the configuration's order
  abbrev bound : Subst
  bound = bound_of c s left numbers left numbers

  like : SubstAlike s bound
  like = bound_alike c s left numbers left numbers all_fit

  bound_suits : Suits d.sorts r bound
  bound_suits = record {
    sorts = sorts_same d.sorts r.vars s bound like suits.sorts;
    conditions = all_met_same s bound (same_values s bound like) d.sorts r.when suits.conditions;
  }

  contents_defined : (qs : List Spot) (ms : List ℕ) → AllFit c s left numbers qs ms → (q : Spot) → Has qs q → IsDefined (content_of q.body bound)
  contents_defined [] ms all q h = absurd h
  contents_defined (p ∷ qs) [] all q h = absurd all
  contents_defined (p ∷ qs) (m ∷ ms) all q (inl e) =
      let here = all.0.fits in
      subst (λ (x : Spot). IsDefined (content_of x.body bound)) e (here.cell.content, sym (content_same s bound (same_values s bound like) p.body) ∙ here.content)
  contents_defined (p ∷ qs) (m ∷ ms) all q (inr h) = contents_defined qs ms all.1 q h

  has_match : HasMatch d c r s
  has_match =
      let number = rule_number d r contained in
      let keys = keys_defined bound left (contents_defined left numbers all_fit) in
      record {
        site = record { rule = number.0; cells = numbers; keys = keys.0 };
        bound = bound;
        same = like;
        binds = record {
          rule = number.1;
          suits = bound_suits;
          different = apart-different numbers numbers_apart;
          matched = all_matched c s left numbers all_fit left_apart (own_rests d r sound_rule);
          keys = keys.1;
          right_defined = fill_defined s bound like r.right right;
        };
      }

pub matches_have_sites : MatchesHaveSites
matches_have_sites d c r s sound fits contained suits filled right = has_match d c r s sound fits contained suits filled right
