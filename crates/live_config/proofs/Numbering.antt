-- The numbers of the cells of a side, by their marks.
use Rattle.std.proofs.Common.{arith, inl, inr, ◌⊎◌, ◌≡◌, ℕ, List, [], ◌∷◌, length, Option, Some, None, refl, sym, ap, subst, ◌∙◌}
use Rattle.std.proofs.lemmas.Bool.{eq-eqb, ne_eqb, cases_eq}
use Rattle.rule_terms.specs.Spots.{Spot, number_of}
use Rattle.live_config.specs.Firing.{numbers_of}
use Rattle.live_config.proofs.Members.{Has, Apart}
use Rattle.live_config.proofs.SpotTree.{marks}
use Rattle.live_config.proofs.Standing.{numbered}

pub numbers_of-is : (ps : List Spot) (ns ms : List ℕ) → numbers_of ps ns ms ≡ numbered (number_of ps ns) ms
numbers_of-is ps ns [] = refl
numbers_of-is ps ns (m ∷ ms) = ap (λ rest. elim (number_of ps ns m) [ None ↦ rest | Some n ↦ n ∷ rest ]) (numbers_of-is ps ns ms)

-- ---- a list of numbers by marks

numbered_some : (number : ℕ → Option ℕ) (mark n : ℕ) (ms : List ℕ) → number mark ≡ Some n → numbered number (mark ∷ ms) ≡ n ∷ numbered number ms
numbered_some number mark n ms e = ap (λ o. elim o [ None ↦ numbered number ms | Some n ↦ n ∷ numbered number ms ]) e

pub numbered_has : (number : ℕ → Option ℕ) (ms : List ℕ) (n : ℕ) → Has (numbered number ms) n → (mark : ℕ) × Has ms mark × (number mark ≡ Some n)
numbered_has number [] n h = absurd h
numbered_has number (m ∷ ms) n h =
    elim (number m) as (λ o. number m ≡ o → Has (elim o [ None ↦ numbered number ms | Some k ↦ k ∷ numbered number ms ]) n → (mark : ℕ) × Has (m ∷ ms) mark × (number mark ≡ Some n)) [
      | None ↦ λ _ g. let r = numbered_has number ms n g in (r.0, inr r.1, r.2)
      | Some k ↦ λ e g. elim g [ inl s ↦ (m, inl refl, e ∙ ap Some s) | inr j ↦ let r = numbered_has number ms n j in (r.0, inr r.1, r.2) ]
    ] refl h

pub has_numbered : (number : ℕ → Option ℕ) (ms : List ℕ) (mark n : ℕ) → Has ms mark → number mark ≡ Some n → Has (numbered number ms) n
has_numbered number [] mark n h e = absurd h
has_numbered number (m ∷ ms) mark n (inl s) e = subst (λ ns. Has ns n) (sym (numbered_some number m n ms (ap number s ∙ e))) (inl refl)
has_numbered number (m ∷ ms) mark n (inr h) e =
    elim (number m) as (λ o. Has (elim o [ None ↦ numbered number ms | Some k ↦ k ∷ numbered number ms ]) n) [
      | None ↦ has_numbered number ms mark n h e
      | Some k ↦ inr (has_numbered number ms mark n h e)
    ]

-- two marks with one number are the same
abbrev pub Once : (ℕ → Option ℕ) → Type 0
Once number = (a b n : ℕ) → number a ≡ Some n → number b ≡ Some n → a ≡ b

pub numbered_apart : (number : ℕ → Option ℕ) → Once number → (ms : List ℕ) → Apart ms → Apart (numbered number ms)
numbered_apart number once [] a = tt
numbered_apart number once (m ∷ ms) a =
    elim (number m) as (λ o. number m ≡ o → Apart (elim o [ None ↦ numbered number ms | Some k ↦ k ∷ numbered number ms ])) [
      | None ↦ λ _. numbered_apart number once ms a.1
      | Some k ↦ λ e. ((λ h. let r = numbered_has number ms k h in a.0 (subst (Has ms) (once r.0 m k r.2 e) r.1)), numbered_apart number once ms a.1)
    ] refl

-- ---- the numbers that stand beside the cells of a side

number_here : (p : Spot) (ps : List Spot) (n : ℕ) (ns : List ℕ) (mark : ℕ) → p.mark ≡ mark → number_of (p ∷ ps) (n ∷ ns) mark ≡ Some n
number_here p ps n ns mark e = rw (eq-eqb p.mark mark e) refl

pub number_later : (p : Spot) (ps : List Spot) (n : ℕ) (ns : List ℕ) (mark : ℕ) → (p.mark ≡ mark → ⊥) → number_of (p ∷ ps) (n ∷ ns) mark ≡ number_of ps ns mark
number_later p ps n ns mark d = rw (ne_eqb p.mark mark d) refl

-- where a number comes from: from the first of the list, or from a later one
pub number_cases : (p : Spot) (ps : List Spot) (n : ℕ) (ns : List ℕ) (mark m : ℕ) → number_of (p ∷ ps) (n ∷ ns) mark ≡ Some m → ((p.mark ≡ mark) × (n ≡ m)) ⊎ (number_of ps ns mark ≡ Some m)
number_cases p ps n ns mark m e =
    elim (cases_eq p.mark mark) [
      | inl s ↦ inl (s, let f : Some n ≡ Some m = sym (number_here p ps n ns mark s) ∙ e in cc)
      | inr d ↦ inr (sym (number_later p ps n ns mark d) ∙ e)
    ]

pub number_within : (ps : List Spot) (ns : List ℕ) (mark n : ℕ) → number_of ps ns mark ≡ Some n → Has ns n
number_within [] ns mark n e = absurd (let f : None ≡ Some n = e in cc)
number_within (p ∷ ps) [] mark n e = absurd (let f : None ≡ Some n = e in cc)
number_within (p ∷ ps) (k ∷ ns) mark n e = elim (number_cases p ps k ns mark n e) [ inl s ↦ inl s.1 | inr f ↦ inr (number_within ps ns mark n f) ]

pub number_marked : (ps : List Spot) (ns : List ℕ) (mark n : ℕ) → number_of ps ns mark ≡ Some n → Has (marks ps) mark
number_marked [] ns mark n e = absurd (let f : None ≡ Some n = e in cc)
number_marked (p ∷ ps) [] mark n e = absurd (let f : None ≡ Some n = e in cc)
number_marked (p ∷ ps) (k ∷ ns) mark n e = elim (number_cases p ps k ns mark n e) [ inl s ↦ inl s.0 | inr f ↦ inr (number_marked ps ns mark n f) ]

pub number_once : (ps : List Spot) (ns : List ℕ) → Apart ns → Once (number_of ps ns)
number_once [] ns apart a b n e f = absurd (let g : None ≡ Some n = e in cc)
number_once (p ∷ ps) [] apart a b n e f = absurd (let g : None ≡ Some n = e in cc)
number_once (p ∷ ps) (k ∷ ns) apart a b n e f =
    elim (number_cases p ps k ns a n e) [
      | inl s ↦ elim (number_cases p ps k ns b n f) [
        | inl t ↦ sym s.0 ∙ t.0
        | inr t ↦ absurd (apart.0 (subst (Has ns) (sym s.1) (number_within ps ns b n t)))
      ]
      | inr s ↦ elim (number_cases p ps k ns b n f) [
        | inl t ↦ absurd (apart.0 (subst (Has ns) (sym t.1) (number_within ps ns a n s)))
        | inr t ↦ number_once ps ns apart.1 a b n s t
      ]
    ]

pub number_given : (ps : List Spot) (ns : List ℕ) (mark : ℕ) → length ns ≡ length ps → Has (marks ps) mark → (n : ℕ) × (number_of ps ns mark ≡ Some n)
number_given [] ns mark e h = absurd h
number_given (p ∷ ps) [] mark e h = absurd (omega (arith, e))
number_given (p ∷ ps) (k ∷ ns) mark e h =
    elim (cases_eq p.mark mark) [
      | inl s ↦ (k, number_here p ps k ns mark s)
      | inr d ↦ elim h [
        | inl s ↦ absurd (d s)
        | inr g ↦ let r = number_given ps ns mark (omega (arith, e)) g in (r.0, number_later p ps k ns mark d ∙ r.1)
      ]
    ]
