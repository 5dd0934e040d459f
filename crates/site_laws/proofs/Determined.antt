-- A site determines its rule and its substitution.
use Rattle.std.proofs.Common.{arith, ◌≡◌, ℕ, suc, ◌<◌, true, not, ◌&&◌, List, [], ◌∷◌, length, Some, refl, sym, ap, subst, ◌∙◌}
use Rattle.k_terms.specs.Sorts.{SortOrder}
use Rattle.rule_terms.specs.declared.rule.Rule.{Rule}
use Rattle.rule_terms.specs.Language.{Language}
use Rattle.rule_terms.specs.Sound.{IsSound, all_patterns, has_no_operator, is_made, body_mentions}
use Rattle.rule_terms.specs.Spots.{Spot, spots, key_patterns}
use Rattle.rule_terms.specs.Substitution.{Bound, Subst, AreOfSorts}
use Rattle.rule_terms.proofs.Defined.{both}
use Rattle.live_config.specs.declared.site.Site.{Site}
use Rattle.live_config.specs.declared.cell.Cell.{Cell}
use Rattle.live_config.specs.Configuration.{Configuration}
use Rattle.live_config.specs.Firing.{Binds, IsMatched}
use Rattle.live_config.specs.Fits.{Fits}
use Rattle.live_config.proofs.Binding.{Binding, matched_spot, sound_rule}
use Rattle.live_config.proofs.Members.{Has, any_has, all_has}
use Rattle.site_laws.specs.Laws.{SitesDetermine}
use Rattle.site_laws.proofs.Shared.{IsShared}
use Rattle.site_laws.proofs.SharedBodies.{body_tells}
use Rattle.site_laws.proofs.SharedKeys.{each_same, key_among, further_shared, rising_of_kind}

-- ---- substitutions with as many variables that share each

first_bound : (b c e : Bound) → Some b ≡ Some e → Some c ≡ Some e → b ≡ c
first_bound b c e f g = let h : Some b ≡ Some c = f ∙ sym g in cc

all_shared : (s t : Subst) → length s ≡ length t → ((x : ℕ) → x < length s → IsShared s t x) → s ≡ t
all_shared [] [] same shared = refl
all_shared [] (c ∷ t) same shared = absurd (omega (arith, same))
all_shared (b ∷ s) [] same shared = absurd (omega (arith, same))
all_shared (b ∷ s) (c ∷ t) same shared =
    let here = shared 0 (omega arith) in
    let first : b ≡ c = first_bound b c here.0 here.1 here.2 in
    let rest = all_shared s t (omega (arith, same)) (λ x within. shared (suc x) (omega (arith, within))) in
    λ i. first i ∷ rest i

sorts_length : (o : SortOrder) (sorts : List ℕ) (s : Subst) → AreOfSorts o sorts s → length sorts ≡ length s
sorts_length o [] [] are = refl
sorts_length o [] (b ∷ s) are = absurd are
sorts_length o (sort ∷ sorts) [] are = absurd are
sorts_length o (sort ∷ sorts) (b ∷ s) are = ap suc (sorts_length o sorts s are.1)

-- ---- one rule that binds at a site under two substitutions

module _ (d : Language) (c : Configuration) (site : Site) (r : Rule) (s t : Subst)
    (sound : IsSound d) (fits : Fits d c) (one : Binds d c site r s) (other : Binds d c site r t) where
  abbrev first_binding : Binding
  first_binding = record { d = d; c = c; site = site; r = r; s = s; sound = sound; fits = fits; binds = one }

  abbrev other_binding : Binding
  other_binding = record { d = d; c = c; site = site; r = r; s = t; sound = sound; fits = fits; binds = other }

  abbrev left : List Spot
  left = spots r.left

  -- what stands in a cell that is matched at one number under both
  matched_tells : (p : Spot) → Has left p → (n : ℕ) → IsMatched c left site.cells s p n → IsMatched c left site.cells t p n → (x : ℕ)
      → body_mentions x p.body ≡ true → IsShared s t x
  matched_tells p has n m k x stands =
      let law = fits.lawful n m.cell m.there in
      let same : k.cell ≡ m.cell = (let e : Some k.cell ≡ Some m.cell = sym k.there ∙ m.there in cc) in
      let plain = both (all_patterns has_no_operator p.body) (not (is_made p.body))
      (all_has (λ (q : Spot). all_patterns has_no_operator q.body && not (is_made q.body)) left p (sound_rule first_binding).patterns.no_operator has) in
      body_tells s t x p.body m.cell.content plain.0 plain.1 stands m.content (k.content ∙ ap (λ (a : Cell). Some a.content) same)
      (rising_of_kind d.sorts m.cell.content law.shape.kind law.content)
      (further_shared c left site.cells s t p.body n m.others k.others)
      (λ q key. each_same s t (key_patterns left) site.keys one.keys other.keys q (key_among left p has q key))

  spot_tells : (p : Spot) → Has left p → (x : ℕ) → body_mentions x p.body ≡ true → IsShared s t x
  spot_tells p has x stands =
      let m = matched_spot first_binding p has in
      let k = matched_spot other_binding p has in
      let same : k.number ≡ m.number = (let e : Some k.number ≡ Some m.number = sym k.is ∙ m.is in cc) in
      matched_tells p has m.number m.matched (subst (IsMatched c left site.cells t p) same k.matched) x stands

  variable_shared : (x : ℕ) → x < length r.vars → IsShared s t x
  variable_shared x within =
      let stands = any_has (λ (p : Spot). body_mentions x p.body) left ((sound_rule first_binding).variables.bound x within) in
      spot_tells stands.0 stands.1 x stands.2

  one_substitution : s ≡ t
  one_substitution =
      let count = sorts_length d.sorts r.vars s one.suits.sorts in
      let others = sorts_length d.sorts r.vars t other.suits.sorts in
      all_shared s t (sym count ∙ others) (λ x within. variable_shared x (subst (λ n. x < n) (sym count) within))

pub sites_determine : SitesDetermine
sites_determine d c site r other s t sound fits one two =
    let same : r ≡ other = (let e : Some r ≡ Some other = sym one.rule ∙ two.rule in cc) in
    (same, one_substitution d c site r s t sound fits one (subst (λ q. Binds d c site q t) (sym same) two))
