-- The variables of a rule have their sorts by what tells them, so that each is settled where it stands.
use Rattle.std.proofs.Common.{◌≡◌, inl, inr, ℕ, zero, suc, ◌+◌, Bool, true, false, List, [], ◌∷◌, drop, Option, Some, None, refl, sym, ap, subst, ◌∙◌, arith}
use Rattle.std.specs.Prelude.{slice_get}
use Rattle.std.specs.Option.{option_map}
use Rattle.std.specs.List.{AllByRecursion}
use Rattle.grammar_terms.specs.declared.word.Word.{Word}
use Rattle.live_config.proofs.Members.{Has}
use Rattle.rule_parts.specs.declared.leaves.Leaf.{Leaf}
use Rattle.rule_parts.specs.declared.leaves.LeafKind.{LeafKind}
use Rattle.rule_parts.specs.declared.leaves.LeafKind.TheVariants.{Variable, Literal, Other}
use Rattle.rule_parts.specs.declared.terms.Occurrence.{Occurrence}
use Rattle.rule_parts.specs.Terms.{occurrence_by, leaf_by, leaf_occurrence}
use Rattle.rule_drafts.specs.Drafts.{is_known, variables}
use Rattle.sound_sequences.proofs.Agreeing.{IsAt, StandFrom}
use Rattle.sound_sequences.proofs.Homes.{variable_in, IsHome}
use Rattle.sound_sequences.proofs.Numbers.{was_found, is_variable, numbered}
use Rattle.sound_sequences.proofs.Told.{IsSettled}

-- ---- lists

pub all_from : {X : Type 0} (P : X → Type 0) (xs : List X) → ((x : X) → Has xs x → P x) → AllByRecursion P xs
all_from P [] each = tt
all_from P (x ∷ xs) each = (each x (inl refl), all_from P xs (λ y h. each y (inr h)))

pub all_member : {X : Type 0} (P : X → Type 0) (xs : List X) (x : X) → AllByRecursion P xs → Has xs x → P x
all_member P [] x all h = absurd h
all_member P (y ∷ xs) x all (inl e) = subst P e all.0
all_member P (y ∷ xs) x all (inr h) = all_member P xs x all.1 h

pub both_all : {X : Type 0} (P Q R : X → Type 0) → ((x : X) → P x → Q x → R x) → (xs : List X) → AllByRecursion P xs → AllByRecursion Q xs → AllByRecursion R xs
both_all P Q R to [] one other = tt
both_all P Q R to (x ∷ xs) one other = (to x one.0 other.0, both_all P Q R to xs one.1 other.1)

pub get_dropped : {X : Type 0} (n : ℕ) (xs : List X) (i : ℕ) → slice_get (drop n xs) i ≡ slice_get xs (n + i)
get_dropped zero xs i = let e : i ≡ 0 + i = omega arith in ap (slice_get xs) e
get_dropped (suc n) [] i = refl
get_dropped (suc n) (x ∷ xs) i = let e : suc (n + i) ≡ suc n + i = omega arith in get_dropped n xs i ∙ ap (slice_get (x ∷ xs)) e

pub dropped_stand : (n : ℕ) (leaves : List Leaf) → StandFrom 0 leaves → StandFrom n (drop n leaves)
dropped_stand n leaves stand i leaf e = let place = stand (n + i) leaf (sym (get_dropped n leaves i) ∙ e) in omega (arith, place)

-- ---- variables that are told by tokens

module _ (words : List Word) where
  -- the sort of a variable is its own, or else it is told by its own token
  abbrev pub SortBy : Option ℕ → Occurrence → Type 0
  SortBy None o = o.home ≡ o.at
  SortBy (Some sort) o = o.sort ≡ sort

  pub record IsOfVariable (o : Occurrence) : Type 0 where
    pub own : Option ℕ
    pub told : variable_in words o.home ≡ Some own
    pub sort : SortBy own o

  -- where a variable is told, it has its own sort, or else the one that a function gives the token
  abbrev pub sort_by : (ℕ → ℕ) → Option ℕ → ℕ → ℕ
  sort_by f None home = f home
  sort_by f (Some sort) home = sort

  abbrev pub Follows : (ℕ → ℕ) → Occurrence → Type 0
  Follows f o = (own : Option ℕ) → variable_in words o.home ≡ Some own → o.sort ≡ sort_by f own o.home

  follows_by : (f : ℕ → ℕ) (o : Occurrence) (own : Option ℕ) → SortBy own o → o.sort ≡ f o.at → o.sort ≡ sort_by f own o.home
  follows_by f o None home sort = sort ∙ ap f (sym home)
  follows_by f o (Some own) same sort = same

  pub follows : (f : ℕ → ℕ) (from past : ℕ) (o : Occurrence) → IsAt f from past o → IsOfVariable o → Follows f o
  follows f from past o at is own told =
      let same : is.own ≡ own = (let e : Some is.own ≡ Some own = sym is.told ∙ told in cc) in
      subst (λ (it : Option ℕ). o.sort ≡ sort_by f it o.home) same (follows_by f o is.own is.sort at.sort)

  pub not_told : (f : ℕ → ℕ) (o : Occurrence) → variable_in words o.home ≡ None → Follows f o
  not_told f o none own told = absurd (let e : None ≡ Some own = sym none ∙ told in cc)

  -- ---- leaves

  of_kind : (at : ℕ) (k : LeafKind) (left : Bool) (sort : ℕ) (whole : Bool) → IsHome words at k → AllByRecursion IsOfVariable (occurrence_by at k left sort whole)
  of_kind at (Variable home None) left sort whole home_is = (record { own = None; told = home_is.0; sort = home_is.1 refl }, tt)
  of_kind at (Variable home (Some own)) left sort whole home_is = (record { own = Some own; told = home_is.0; sort = refl }, tt)
  of_kind at (Literal value) left sort whole home_is = tt
  of_kind at Other left sort whole home_is = tt

  abbrev pub AreAtHome : List Leaf → Type 0
  AreAtHome leaves = (i : ℕ) (leaf : Leaf) → slice_get leaves i ≡ Some leaf → IsHome words leaf.at leaf.kind

  of_leaf : (o : Option Leaf) (left : Bool) (sort : ℕ) (whole : Bool) → ((leaf : Leaf) → o ≡ Some leaf → IsHome words leaf.at leaf.kind)
      → AllByRecursion IsOfVariable (leaf_by o left sort whole)
  of_leaf None left sort whole each = tt
  of_leaf (Some leaf) left sort whole each = of_kind leaf.at leaf.kind left sort whole (each leaf refl)

  pub leaf_told : (leaves : List Leaf) (n : ℕ) → AreAtHome leaves → (left : Bool) (sort : ℕ) (whole : Bool) (at : ℕ)
      → AllByRecursion IsOfVariable (leaf_occurrence (drop n leaves) left sort whole at)
  leaf_told leaves n home left sort whole at =
      of_leaf (slice_get (drop n leaves) at) left sort whole (λ leaf e. home (n + at) leaf (sym (get_dropped n leaves at) ∙ e))

  -- ---- each variable is settled

  module _ (found vars : List Occurrence) (f : ℕ → ℕ) (all : AllByRecursion (Follows f) found) (placed : AllByRecursion (λ (o : Occurrence). o.is_stray ≡ false) found)
      (are : vars ≡ variables found) where
    abbrev pub Settles : Occurrence → Type 0
    Settles o = IsOfVariable o → IsSettled vars o

    settled : (o : Occurrence) → Has found o → Settles o
    settled o h is =
        let known : is_known vars o.home ≡ true = ap (λ vs. is_known vs o.home) are ∙ is_variable found o h in
        let v = numbered vars o.home known in
        let there : Has found v.variable = was_found found v.variable (subst (λ vs. Has vs v.variable) are v.has) in
        let first : v.variable.sort ≡ sort_by f is.own v.variable.home = all_member (Follows f) found v.variable all there is.own (ap (variable_in words) v.home_is ∙ is.told) in
        let here : o.sort ≡ sort_by f is.own o.home = all_member (Follows f) found o all h is.own is.told in
        let same : v.variable.sort ≡ o.sort = first ∙ ap (sort_by f is.own) v.home_is ∙ sym here in
        record {
          known = ap (option_map (λ (it : Occurrence). it.sort)) v.is ∙ ap Some same;
          placed = all_member (λ (it : Occurrence). it.is_stray ≡ false) found o placed h;
        }

    pub all_settle : AllByRecursion Settles found
    all_settle = all_from Settles found settled
