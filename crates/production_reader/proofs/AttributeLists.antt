-- How attributes are gathered, and read in brackets.
use Rattle.std.proofs.Common.{◌≡◌, ℕ, ◌+◌, ◌≤◌, Bool, true, false, ◌||◌, if◌then◌else◌, List, [], ◌∷◌, ◌++◌, length, drop, map, refl, sym, ap, ◌∙◌, subst, arith, append_assoc, append-nil}
use Rattle.std.specs.List.{AllByRecursion, list_any}
use Rattle.std.proofs.Math.Bool.{or-true, or-false, or_assoc}
use Rattle.production_reader.specs.Lexemes.{Lexeme, Sign, Reads, mark}
use Rattle.production_reader.specs.Written.{Attribute, signs_of_attribute, signs_of_attributes}
use Rattle.production_reader.specs.Written.Attribute.{Left, Right, NonAssoc, Bracket, SeqStrict, Strict, StrictAt}
use Rattle.production_reader.specs.Allowed.{IsAttribute, number_of}
use Rattle.production_reader.specs.Attributes.{AreAttributes, signs_of_list, NoParenthesis, attr_of, with_attr, places_with}
use Rattle.production_reader.specs.Meaning.{attrs_of, strict_of, strict_places, is_strict, is_strict_at, is_left, is_right, is_non_assoc, is_bracket, is_seqstrict}
use Rattle.production_reader.specs.Chains.{Chain}
use Rattle.production_reader.specs.Heads.{heads, is_mark_of, Begin, ends_production}
use Rattle.production_reader.specs.Reading.{IsRead, IsReadAs, StopsAt, Stops}
use Rattle.production_reader.specs.declared.attributes.Attr as attr
use Rattle.production_reader.specs.declared.prod.Attrs.{Attrs}
use Rattle.production_reader.specs.declared.prod.Strict as strict
use Rattle.production_reader.specs.declared.prod.Strict.TheVariants as places
use Rattle.production_reader.specs.declared.stop.Stop.{Stop}
use Rattle.production_reader.specs.declared.stop.Stop.TheVariants.{Expected, Memory}
use Rattle.production_reader.proofs.Leading.{Leads, Rest, leads_all, leads_choose, leads_done, leads_over, leads_stops_first}
use Rattle.production_reader.proofs.Fronts.{heads_alike, heads_apart, reads_heads, is_mark, mark_apart, production_apart, stands_mark, leads_sign, leads_closed, leads_not_closed}
use Rattle.production_reader.proofs.Gathering.{Awaits, Gathered, gather_begins, gather_read, gather_stops, gather_mark, gather_ends}

-- ---- one attribute more

any_more : (test : Attribute → Bool) (xs : List Attribute) (x : Attribute) → list_any test (xs ++ x ∷ []) ≡ (list_any test xs || test x)
any_more test [] x = or-false (test x)
any_more test (y ∷ xs) x = ap (λ t. test y || t) (any_more test xs x) ∙ sym (or_assoc (test y) (list_any test xs) (test x))

not_more : (test : Attribute → Bool) (xs : List Attribute) (x : Attribute) → test x ≡ false → list_any test (xs ++ x ∷ []) ≡ list_any test xs
not_more test xs x none = any_more test xs x ∙ ap (λ t. list_any test xs || t) none ∙ or-false (list_any test xs)

one_more : (test : Attribute → Bool) (xs : List Attribute) (x : Attribute) → test x ≡ true → list_any test (xs ++ x ∷ []) ≡ true
one_more test xs x some = any_more test xs x ∙ ap (λ t. list_any test xs || t) some ∙ or-true (list_any test xs)

strict_by : Bool → Bool → List ℕ → strict.Strict
strict_by s a ps = if s then places.All else (if a then places.Places ps else places.No)

places_more : (xs : List Attribute) (x : Attribute) → strict_places (xs ++ x ∷ []) ≡ strict_places xs ++ strict_places (x ∷ [])
places_more [] x = refl
places_more (StrictAt digits ∷ xs) x = ap (λ t. map number_of digits ++ t) (places_more xs x) ∙ sym (append_assoc (map number_of digits) (strict_places xs) (strict_places (x ∷ [])))
places_more (Left ∷ xs) x = places_more xs x
places_more (Right ∷ xs) x = places_more xs x
places_more (NonAssoc ∷ xs) x = places_more xs x
places_more (Bracket ∷ xs) x = places_more xs x
places_more (SeqStrict ∷ xs) x = places_more xs x
places_more (Strict ∷ xs) x = places_more xs x

no_places : (xs : List Attribute) → list_any is_strict_at xs ≡ false → strict_places xs ≡ []
no_places [] none = refl
no_places (StrictAt digits ∷ xs) none = absurd (cc)
no_places (Left ∷ xs) none = no_places xs none
no_places (Right ∷ xs) none = no_places xs none
no_places (NonAssoc ∷ xs) none = no_places xs none
no_places (Bracket ∷ xs) none = no_places xs none
no_places (SeqStrict ∷ xs) none = no_places xs none
no_places (Strict ∷ xs) none = no_places xs none

same_strict : (xs : List Attribute) (x : Attribute) → is_strict x ≡ false → is_strict_at x ≡ false → strict_places (x ∷ []) ≡ [] → strict_of (xs ++ x ∷ []) ≡ strict_of xs
unfolding strict_by
same_strict xs x plain other none =
    let one = not_more is_strict xs x plain in
    let two = not_more is_strict_at xs x other in
    let three = places_more xs x ∙ ap (λ t. strict_places xs ++ t) none ∙ append-nil (strict_places xs) in
    (λ i. strict_by (one i) (two i) (three i))

all_strict : (xs : List Attribute) → strict_of (xs ++ Strict ∷ []) ≡ places.All
unfolding strict_by
all_strict xs = ap (λ t. strict_by t (list_any is_strict_at (xs ++ Strict ∷ [])) (strict_places (xs ++ Strict ∷ []))) (one_more is_strict xs Strict refl)

by_places : (s a : Bool) (ps ns : List ℕ) → (a ≡ false → ps ≡ []) → strict_by s true (ps ++ ns) ≡ places_with (strict_by s a ps) ns
unfolding strict_by
by_places true a ps ns none = refl
by_places false true ps ns none = refl
by_places false false ps ns none = ap (λ t. places.Places (t ++ ns)) (none refl)

more_strict : (xs : List Attribute) (digits : List (List ℕ)) → strict_of (xs ++ StrictAt digits ∷ []) ≡ places_with (strict_of xs) (map number_of digits)
unfolding strict_by
more_strict xs digits =
    let one = not_more is_strict xs (StrictAt digits) refl in
    let two = one_more is_strict_at xs (StrictAt digits) refl in
    let three = places_more xs (StrictAt digits) ∙ ap (λ t. strict_places xs ++ t) (append-nil (map number_of digits)) in
    let joined : strict_of (xs ++ StrictAt digits ∷ []) ≡ strict_by (list_any is_strict xs) true (strict_places xs ++ map number_of digits) = (λ i. strict_by (one i) (two i) (three i)) in
    joined ∙ by_places (list_any is_strict xs) (list_any is_strict_at xs) (strict_places xs) (map number_of digits) (no_places xs)

pub attrs_more : (xs : List Attribute) (x : Attribute) → attrs_of (xs ++ x ∷ []) ≡ with_attr (attrs_of xs) (attr_of x)
attrs_more xs Left =
    let l = one_more is_left xs (Left) refl in
    let r = not_more is_right xs (Left) refl in
    let n = not_more is_non_assoc xs (Left) refl in
    let b = not_more is_bracket xs (Left) refl in
    let q = not_more is_seqstrict xs (Left) refl in
    let s = same_strict xs Left refl refl refl in
    (λ i. record { left = l i; right = r i; non_assoc = n i; bracket = b i; strict = s i; seqstrict = q i })
attrs_more xs Right =
    let l = not_more is_left xs (Right) refl in
    let r = one_more is_right xs (Right) refl in
    let n = not_more is_non_assoc xs (Right) refl in
    let b = not_more is_bracket xs (Right) refl in
    let q = not_more is_seqstrict xs (Right) refl in
    let s = same_strict xs Right refl refl refl in
    (λ i. record { left = l i; right = r i; non_assoc = n i; bracket = b i; strict = s i; seqstrict = q i })
attrs_more xs NonAssoc =
    let l = not_more is_left xs (NonAssoc) refl in
    let r = not_more is_right xs (NonAssoc) refl in
    let n = one_more is_non_assoc xs (NonAssoc) refl in
    let b = not_more is_bracket xs (NonAssoc) refl in
    let q = not_more is_seqstrict xs (NonAssoc) refl in
    let s = same_strict xs NonAssoc refl refl refl in
    (λ i. record { left = l i; right = r i; non_assoc = n i; bracket = b i; strict = s i; seqstrict = q i })
attrs_more xs Bracket =
    let l = not_more is_left xs (Bracket) refl in
    let r = not_more is_right xs (Bracket) refl in
    let n = not_more is_non_assoc xs (Bracket) refl in
    let b = one_more is_bracket xs (Bracket) refl in
    let q = not_more is_seqstrict xs (Bracket) refl in
    let s = same_strict xs Bracket refl refl refl in
    (λ i. record { left = l i; right = r i; non_assoc = n i; bracket = b i; strict = s i; seqstrict = q i })
attrs_more xs SeqStrict =
    let l = not_more is_left xs (SeqStrict) refl in
    let r = not_more is_right xs (SeqStrict) refl in
    let n = not_more is_non_assoc xs (SeqStrict) refl in
    let b = not_more is_bracket xs (SeqStrict) refl in
    let q = one_more is_seqstrict xs (SeqStrict) refl in
    let s = same_strict xs SeqStrict refl refl refl in
    (λ i. record { left = l i; right = r i; non_assoc = n i; bracket = b i; strict = s i; seqstrict = q i })
attrs_more xs Strict =
    let l = not_more is_left xs (Strict) refl in
    let r = not_more is_right xs (Strict) refl in
    let n = not_more is_non_assoc xs (Strict) refl in
    let b = not_more is_bracket xs (Strict) refl in
    let q = not_more is_seqstrict xs (Strict) refl in
    let s = all_strict xs in
    (λ i. record { left = l i; right = r i; non_assoc = n i; bracket = b i; strict = s i; seqstrict = q i })
attrs_more xs (StrictAt digits) =
    let l = not_more is_left xs (StrictAt digits) refl in
    let r = not_more is_right xs (StrictAt digits) refl in
    let n = not_more is_non_assoc xs (StrictAt digits) refl in
    let b = not_more is_bracket xs (StrictAt digits) refl in
    let q = not_more is_seqstrict xs (StrictAt digits) refl in
    let s = more_strict xs digits in
    (λ i. record { left = l i; right = r i; non_assoc = n i; bracket = b i; strict = s i; seqstrict = q i })

-- ---- the list

-- of these attributes the ones read so far, and a further one must follow
pub record AttrsAwait (b : Bool) (all : List Lexeme) (from : ℕ) (attrs : Attrs) (at : ℕ) : Type 0 where
  pub found : List Attribute
  pub is : attrs ≡ attrs_of found
  pub awaits : Awaits (λ (s : ℕ) y. IsAttribute b y) (λ s y. s) signs_of_attribute 44 (is_mark_of 93) NoParenthesis (λ y. y) 0 all from 0 found at

ends_apart : (ls : List Lexeme) → Begin (is_mark_of 93) ls → heads (is_mark_of 44) ls ≡ false
ends_apart ls ends = heads_apart (is_mark_of 93) (is_mark_of 44) ls (mark_apart 93 44 refl) ends

comma_fits : (ls : List Lexeme) → heads (is_mark_of 44) ls ≡ true → NoParenthesis ls
comma_fits ls here = heads_apart (is_mark_of 44) (is_mark_of 40) ls (mark_apart 44 40 refl) here

end_fits : (ls : List Lexeme) → Begin (is_mark_of 93) ls → NoParenthesis ls
end_fits ls here = heads_apart (is_mark_of 93) (is_mark_of 40) ls (mark_apart 93 40 refl) here

map_id : (xs : List Attribute) → map (λ y. y) xs ≡ xs
map_id [] = refl
map_id (x ∷ xs) = ap (λ t. x ∷ t) (map_id xs)

module _ (b : Bool) (all : List Lexeme) (from : ℕ) where
  pub attrs_begin : (attrs : Attrs) → attrs ≡ attrs_of [] → from ≤ length all → AttrsAwait b all from attrs from
  attrs_begin attrs is within = record {
    found = [];
    is = is;
    awaits = gather_begins (λ (s : ℕ) y. IsAttribute b y) (λ s y. s) signs_of_attribute 44 (is_mark_of 93) NoParenthesis (λ y. y) 0 all from within;
  }

  module _ (attrs : Attrs) (at : ℕ) (before : AttrsAwait b all from attrs at) where
    pub attrs_stop : (stop : Stop) → Stops (IsAttribute b) signs_of_attribute NoParenthesis all at stop → Stops (AreAttributes b) signs_of_list (Begin (is_mark_of 93)) all from stop
    attrs_stop stop none =
        gather_stops (λ (s : ℕ) y. IsAttribute b y) (λ s y. s) signs_of_attribute 44 (is_mark_of 93) NoParenthesis (λ y. y) 0 all from ends_apart comma_fits end_fits 0 before.found at before.awaits stop none

    module _ (attr : attr.Attr) (to : ℕ) (more : Attrs) (is : more ≡ with_attr attrs attr) (read : IsReadAs (IsAttribute b) signs_of_attribute NoParenthesis attr_of all at attr to) where
      gathered : Gathered (λ (s : ℕ) y. IsAttribute b y) (λ s y. s) signs_of_attribute 44 (is_mark_of 93) NoParenthesis (λ y. y) 0 all from 0 (before.found ++ read.written ∷ []) to
      gathered =
          gather_read (λ (s : ℕ) y. IsAttribute b y) (λ s y. s) signs_of_attribute 44 (is_mark_of 93) NoParenthesis (λ y. y) 0 all from ends_apart comma_fits end_fits 0 0 before.found at before.awaits
          read.written to (record { written = read.written; read = read.read; means = refl }) (λ x means. refl)

      more_is : more ≡ attrs_of (before.found ++ read.written ∷ [])
      more_is = is ∙ ap (λ t. with_attr t attr) before.is ∙ ap (λ t. with_attr (attrs_of before.found) t) read.means ∙ sym (attrs_more before.found read.written)

      pub attrs_go : heads (is_mark_of 44) (drop to all) ≡ true → AttrsAwait b all from more (to + 1)
      attrs_go here = record {
        found = before.found ++ read.written ∷ [];
        is = more_is;
        awaits = gather_mark (λ (s : ℕ) y. IsAttribute b y) (λ s y. s) signs_of_attribute 44 (is_mark_of 93) NoParenthesis (λ y. y) 0 all from ends_apart comma_fits end_fits 0
            (before.found ++ read.written ∷ []) to gathered here;
      }

      pub attrs_end : heads (is_mark_of 44) (drop to all) ≡ false → IsReadAs (AreAttributes b) signs_of_list (Begin (is_mark_of 93)) attrs_of all from more to
      attrs_end none =
          let whole = gather_ends (λ (s : ℕ) y. IsAttribute b y) (λ s y. s) signs_of_attribute 44 (is_mark_of 93) NoParenthesis (λ y. y) 0 all from 0 (before.found ++ read.written ∷ []) to gathered none in
          record { written = whole.written; read = whole.read; means = more_is ∙ ap attrs_of (whole.means ∙ map_id whole.written) }

  -- ---- in brackets

  chain_all : (ys : List Attribute) → Chain (λ (s : ℕ) y. IsAttribute b y) (λ s y. s) 0 ys → AllByRecursion (IsAttribute b) ys
  chain_all [] each = tt
  chain_all (y ∷ ys) each = (each.0, chain_all ys each.1)

  all_chain : (ys : List Attribute) → AllByRecursion (IsAttribute b) ys → Chain (λ (s : ℕ) y. IsAttribute b y) (λ s y. s) 0 ys
  all_chain [] each = tt
  all_chain (y ∷ ys) each = (each.0, all_chain ys each.1)

  none_signs : (w : List Attribute) (before after : List Lexeme) → heads (is_mark_of 91) before ≡ false → Reads (signs_of_attributes w) before after → (w ≡ []) × (after ≡ before)
  none_signs [] before after none reads = (refl, sym reads)
  none_signs (y ∷ ys) before after none reads =
      let there = reads_heads (is_mark_of 91) (mark 91) (signs_of_list (y ∷ ys) ++ mark 93 ∷ []) before after (is_mark 91) reads in absurd (cc)

  -- there are none
  pub no_attributes : from ≤ length all → heads (is_mark_of 91) (drop from all) ≡ false → IsRead (AllByRecursion (IsAttribute b)) signs_of_attributes (Begin ends_production) all from [] from
  no_attributes within none =
      leads_done (AllByRecursion (IsAttribute b)) signs_of_attributes (AllByRecursion (IsAttribute b)) signs_of_attributes (λ y. y) (Begin ends_production) all from from from
      (leads_all (AllByRecursion (IsAttribute b)) signs_of_attributes (Begin ends_production) all from within) [] tt refl (omega arith)
      (λ other w after alike allowed reads ends. none_signs w (drop from other) after (heads_alike (is_mark_of 91) from other all alike ∙ none) reads)

  abbrev pub ListThen : List Attribute × Unit {0} → Type 0
  ListThen p = AreAttributes b p.0 × Unit {0}

  abbrev pub list_then : List Attribute × Unit {0} → List Sign
  list_then p = signs_of_list p.0 ++ mark 93 ∷ []

  give_list : (ys : List Attribute) → AreAttributes b ys → AllByRecursion (IsAttribute b) ys × (signs_of_attributes ys ≡ mark 91 ∷ (signs_of_list ys ++ mark 93 ∷ []))
  give_list [] allowed = absurd (let e = allowed.0 in cc)
  give_list (y ∷ ys) allowed = (chain_all (y ∷ ys) allowed.1, refl)

  given : (p : List Attribute × Unit {0}) → ListThen p → AllByRecursion (IsAttribute b) p.0 × (signs_of_attributes p.0 ≡ mark 91 ∷ list_then p)
  given p allowed = give_list p.0 allowed.0

  some_list : (w : List Attribute) (before after : List Lexeme) → heads (is_mark_of 91) before ≡ true → AllByRecursion (IsAttribute b) w → Reads (signs_of_attributes w) before after
      → Begin ends_production after → Rest ListThen (λ p. mark 91 ∷ list_then p) (λ p. p.0) before w after
  some_list [] before after here allowed reads ends =
      let no = heads_apart ends_production (is_mark_of 91) before production_apart (subst (λ t. Begin ends_production t) (sym reads) ends) in absurd (cc)
  some_list (y ∷ ys) before after here allowed reads ends = record { left = (y ∷ ys, tt); is = refl; allowed = ((refl, all_chain (y ∷ ys) allowed), tt); reads = reads }

  list_leads : from ≤ length all → heads (is_mark_of 91) (drop from all) ≡ true
      → Leads (AllByRecursion (IsAttribute b)) signs_of_attributes ListThen list_then (λ p. p.0) (Begin ends_production) all from (from + 1) from
  list_leads within here =
      leads_sign (AllByRecursion (IsAttribute b)) signs_of_attributes ListThen (λ p. mark 91 ∷ list_then p) list_then (λ p. p.0) (Begin ends_production) all from from from
      (leads_choose (AllByRecursion (IsAttribute b)) signs_of_attributes (AllByRecursion (IsAttribute b)) signs_of_attributes (λ y. y) (Begin ends_production) all from from from
      (leads_all (AllByRecursion (IsAttribute b)) signs_of_attributes (Begin ends_production) all from within) ListThen (λ p. mark 91 ∷ list_then p) (λ p. p.0) from (omega arith) given
      (λ other w after alike allowed reads ends. some_list w (drop from other) after (heads_alike (is_mark_of 91) from other all alike ∙ here) allowed reads ends))
      (omega arith) (mark 91) (λ p allowed. refl) (stands_mark 91 all from here)

  closing : (before after : List Lexeme) → Reads (mark 93 ∷ []) before after → Begin (is_mark_of 93) before
  closing before after reads = reads_heads (is_mark_of 93) (mark 93) [] before after (is_mark 93) reads

  pub list_stops : (stop : Stop) → from ≤ length all → heads (is_mark_of 91) (drop from all) ≡ true → Stops (AreAttributes b) signs_of_list (Begin (is_mark_of 93)) all (from + 1) stop
      → Stops (AllByRecursion (IsAttribute b)) signs_of_attributes (Begin ends_production) all from stop
  list_stops Memory within here stop = tt
  list_stops (Expected at) within here stop =
      let later : from + 1 ≤ at = stop.order in
      leads_stops_first (AllByRecursion (IsAttribute b)) signs_of_attributes (AreAttributes b) signs_of_list (λ z w. Unit {0}) (λ (w : Unit {0}). mark 93 ∷ []) (λ p. p.0) (Begin (is_mark_of 93)) (Begin ends_production)
      all from (from + 1) from at (list_leads within here) (omega arith) stop (λ z allowed. (tt, tt)) (λ z w before after allowed reads ends. closing before after reads)

  ended_leads : (ys : List Attribute) (mid : ℕ) → from ≤ length all → heads (is_mark_of 91) (drop from all) ≡ true → IsRead (AreAttributes b) signs_of_list (Begin (is_mark_of 93)) all (from + 1) ys mid
      → Leads (AllByRecursion (IsAttribute b)) signs_of_attributes (λ (w : Unit {0}). Unit {0}) (λ w. mark 93 ∷ []) (λ w. ys) (Begin ends_production) all from mid mid
  ended_leads ys mid within here read =
      let later : from + 1 ≤ mid = read.order in
      leads_over (AllByRecursion (IsAttribute b)) signs_of_attributes (AreAttributes b) signs_of_list (λ z w. Unit {0}) (λ (w : Unit {0}). mark 93 ∷ []) (λ p. p.0) (Begin (is_mark_of 93)) (Begin ends_production)
      all from (from + 1) from ys mid (list_leads within here) (omega arith) read (λ z w before after allowed reads ends. closing before after reads)

  pub list_open : (attrs : Attrs) (mid : ℕ) → from ≤ length all → heads (is_mark_of 91) (drop from all) ≡ true
      → IsReadAs (AreAttributes b) signs_of_list (Begin (is_mark_of 93)) attrs_of all (from + 1) attrs mid → heads (is_mark_of 93) (drop mid all) ≡ false
      → StopsAt (AllByRecursion (IsAttribute b)) signs_of_attributes (Begin ends_production) all from mid
  list_open attrs mid within here read none =
      leads_not_closed (AllByRecursion (IsAttribute b)) signs_of_attributes (λ w. read.written) (Begin ends_production) all from mid mid (mark 93) (ended_leads read.written mid within here read.read) (omega arith)
      (is_mark_of 93) (is_mark 93) none

  pub list_closed : (attrs : Attrs) (mid : ℕ) → from ≤ length all → heads (is_mark_of 91) (drop from all) ≡ true
      → IsReadAs (AreAttributes b) signs_of_list (Begin (is_mark_of 93)) attrs_of all (from + 1) attrs mid → heads (is_mark_of 93) (drop mid all) ≡ true
      → IsReadAs (AllByRecursion (IsAttribute b)) signs_of_attributes (Begin ends_production) attrs_of all from attrs (mid + 1)
  list_closed attrs mid within here read there = record {
    written = read.written;
    read = leads_closed (AllByRecursion (IsAttribute b)) signs_of_attributes (λ w. read.written) (Begin ends_production) all from mid mid (mark 93) (ended_leads read.written mid within here read.read) (omega arith)
        (stands_mark 93 all mid there);
    means = read.means;
  }
