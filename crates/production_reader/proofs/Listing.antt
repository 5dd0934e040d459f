-- Lists with a mark between their things.
use Rattle.std.proofs.Common.{◌≡◌, ℕ, ◌+◌, ◌≤◌, Bool, true, false, List, [], ◌∷◌, ◌++◌, length, drop, refl, sym, ◌∙◌, subst, arith, append_assoc, append-nil}
use Rattle.production_reader.specs.Lexemes.{Lexeme, Sign, Reads, AreAlike, mark}
use Rattle.production_reader.specs.Written.{further, separated}
use Rattle.production_reader.specs.Chains.{Chain, state, Several}
use Rattle.production_reader.specs.Reading.{IsRead, Stops}
use Rattle.production_reader.specs.declared.stop.Stop.{Stop}
use Rattle.production_reader.specs.declared.stop.Stop.TheVariants.{Expected, Memory}
use Rattle.production_reader.specs.Heads.{heads, is_mark_of, Begin}
use Rattle.production_reader.proofs.Leading.{Leads, Rest, leads_all, leads_choose, leads_over, leads_stops_first, leads_done}
use Rattle.production_reader.proofs.Fronts.{heads_alike, reads_heads, is_mark, stands_mark, leads_sign}

pub state_more : {S X : Type 0} (next : S → X → S) (s : S) (xs : List X) (x : X) → state next s (xs ++ x ∷ []) ≡ next (state next s xs) x
state_more next s [] x = refl
state_more next s (y ∷ xs) x = state_more next (next s y) xs x

module _ {S X : Type 0} (C : S → X → Type 0) (next : S → X → S) (h : X → List Sign) (byte : ℕ) (test : Lexeme → Bool) (Mid : List Lexeme → Type 0) (s : S) (all : List Lexeme) (from : ℕ) where
  -- these were read, and further ones may follow
  abbrev pub Listing : List X → ℕ → Type 0
  Listing xs at = Leads (Several C next s) (separated byte h) (Chain C next (state next s xs)) (further byte h) (λ more. xs ++ more) (Begin test) all from at at

  abbrev pub Pair : S → X × List X → Type 0
  Pair now p = C now p.0 × Chain C next (next now p.0) p.1

  abbrev pub pair_signs : X × List X → List Sign
  pair_signs p = h p.0 ++ further byte h p.1

  -- these were read, and a further one must follow
  pub record Pending (xs : List X) (at : ℕ) : Type 0 where
    pub seen : ℕ
    pub before : seen ≤ at
    pub leads : Leads (Several C next s) (separated byte h) (Pair (state next s xs)) pair_signs (λ p. xs ++ (p.0 ∷ p.1)) (Begin test) all from at seen

  split : (other : List Lexeme) (z : List X) (after : List Lexeme) (at : ℕ) → Several C next s z → Reads (separated byte h z) (drop at other) after
      → Rest (Pair s) pair_signs (λ p. p.0 ∷ p.1) (drop at other) z after
  split other [] after at allowed reads = absurd (let e = allowed.0 in cc)
  split other (x ∷ xs) after at allowed reads = record { left = (x, xs); is = refl; allowed = allowed.1; reads = reads }

  first_pending : from ≤ length all → Leads (Several C next s) (separated byte h) (Pair s) pair_signs (λ p. p.0 ∷ p.1) (Begin test) all from from from
  first_pending within =
      leads_choose (Several C next s) (separated byte h) (Several C next s) (separated byte h) (λ x. x) (Begin test) all from from from
      (leads_all (Several C next s) (separated byte h) (Begin test) all from within) (Pair s) pair_signs (λ p. p.0 ∷ p.1) from (omega arith)
      (λ p allowed. ((refl, allowed), refl)) (λ other z after alike allowed reads ends. split other z after from allowed reads)

  -- the first one is left
  pub list_begins : from ≤ length all → Pending [] from
  list_begins within = record { seen = from; before = omega arith; leads = first_pending within }

  mark_heads : (x : X) (xs : List X) (before after : List Lexeme) → Reads (further byte h (x ∷ xs)) before after → heads (is_mark_of byte) before ≡ true
  mark_heads x xs before after reads = reads_heads (is_mark_of byte) (mark byte) (h x ++ further byte h xs) before after (is_mark byte) reads

  module _ (apart : (ls : List Lexeme) → Begin test ls → heads (is_mark_of byte) ls ≡ false) (fits_mark : (ls : List Lexeme) → heads (is_mark_of byte) ls ≡ true → Mid ls)
      (fits_end : (ls : List Lexeme) → Begin test ls → Mid ls) where
    fits : (more : List X) (before after : List Lexeme) → Reads (further byte h more) before after → Begin test after → Mid before
    fits [] before after reads ends = fits_end before (subst (λ t. Begin test t) (sym reads) ends)
    fits (x ∷ xs) before after reads ends = fits_mark before (mark_heads x xs before after reads)

    -- one is there
    pub list_read : (xs : List X) (at : ℕ) → Pending xs at → (x : X) (to : ℕ) → IsRead (C (state next s xs)) h Mid all at x to → Listing (xs ++ x ∷ []) to
    list_read xs at pending x to read =
        let order : at ≤ to = read.order in
        let before : pending.seen ≤ at = pending.before in
        let more = leads_over (Several C next s) (separated byte h) (C (state next s xs)) h (λ x more. Chain C next (next (state next s xs) x) more) (further byte h) (λ p. xs ++ (p.0 ∷ p.1))
        Mid (Begin test) all from at pending.seen x to pending.leads (omega arith) read (λ z w before after allowed reads ends. fits w before after reads ends) in
        let turned = subst (λ n. Leads (Several C next s) (separated byte h) (Chain C next n) (further byte h) (λ more. xs ++ (x ∷ more)) (Begin test) all from to to)
        (sym (state_more next s xs x)) more in
        subst (λ (m : List X → List X). Leads (Several C next s) (separated byte h) (Chain C next (state next s (xs ++ x ∷ []))) (further byte h) m (Begin test) all from to to)
        (λ i more. sym (append_assoc xs (x ∷ []) more) i) turned

    -- and is not there
    pub list_stops : (xs : List X) (at : ℕ) → Pending xs at → (stop : Stop) → Stops (C (state next s xs)) h Mid all at stop → Stops (Several C next s) (separated byte h) (Begin test) all from stop
    list_stops xs at pending (Expected to) stop =
        let order : at ≤ to = stop.order in
        let before : pending.seen ≤ at = pending.before in
        leads_stops_first (Several C next s) (separated byte h) (C (state next s xs)) h (λ x more. Chain C next (next (state next s xs) x) more) (further byte h) (λ p. xs ++ (p.0 ∷ p.1))
        Mid (Begin test) all from at pending.seen to pending.leads (omega arith) stop (λ z allowed. ([], tt))
        (λ z w before after allowed reads ends. fits w before after reads ends)
    list_stops xs at pending Memory stop = tt

    split_more : (xs : List X) (other : List Lexeme) (z : List X) (after : List Lexeme) (at : ℕ) → heads (is_mark_of byte) (drop at other) ≡ true → Chain C next (state next s xs) z
        → Reads (further byte h z) (drop at other) after → Begin test after → Rest (Pair (state next s xs)) (λ p. mark byte ∷ pair_signs p) (λ p. p.0 ∷ p.1) (drop at other) z after
    split_more xs other [] after at here allowed reads ends =
        let no = apart (drop at other) (subst (λ t. Begin test t) (sym reads) ends) in absurd (cc)
    split_more xs other (x ∷ more) after at here allowed reads ends = record { left = (x, more); is = refl; allowed = allowed; reads = reads }

    -- after the mark a further one is left
    pub list_mark : (xs : List X) (at : ℕ) → Listing xs at → heads (is_mark_of byte) (drop at all) ≡ true → Pending xs (at + 1)
    list_mark xs at listing here = record {
      seen = at;
      before = omega arith;
      leads = leads_sign (Several C next s) (separated byte h) (Pair (state next s xs)) (λ p. mark byte ∷ pair_signs p) pair_signs (λ p. xs ++ (p.0 ∷ p.1)) (Begin test) all from at at
          (leads_choose (Several C next s) (separated byte h) (Chain C next (state next s xs)) (further byte h) (λ more. xs ++ more) (Begin test) all from at at listing
          (Pair (state next s xs)) (λ p. mark byte ∷ pair_signs p) (λ p. p.0 ∷ p.1) at (omega arith) (λ p allowed. (allowed, refl))
          (λ other z after alike allowed reads ends.
          split_more xs other z after at (heads_alike (is_mark_of byte) at other all alike ∙ here) allowed reads ends))
          (omega arith) (mark byte) (λ p allowed. refl) (stands_mark byte all at here);
    }

  last : (xs : List X) (at : ℕ) (other : List Lexeme) (z : List X) (after : List Lexeme) → ((x : X) (more : List X) → z ≡ x ∷ more → ⊥) → Reads (further byte h z) (drop at other) after
      → (z ≡ []) × (after ≡ drop at other)
  last xs at other [] after none reads = (refl, sym reads)
  last xs at other (x ∷ more) after none reads = absurd (none x more refl)

  all_read : (xs : List X) (at : ℕ) → Listing xs at
      → ((other : List Lexeme) (w : List X) (after : List Lexeme) → AreAlike at other all → Chain C next (state next s xs) w → Reads (further byte h w) (drop at other) after → Begin test after
      → (w ≡ []) × (after ≡ drop at other))
      → IsRead (Several C next s) (separated byte h) (Begin test) all from xs at
  all_read xs at listing unique =
      subst (λ t. IsRead (Several C next s) (separated byte h) (Begin test) all from t at) (append-nil xs)
      (leads_done (Several C next s) (separated byte h) (Chain C next (state next s xs)) (further byte h) (λ more. xs ++ more) (Begin test) all from at at listing [] tt refl (omega arith) unique)

  no_mark : (x : X) (more z : List X) (before after : List Lexeme) → z ≡ x ∷ more → Reads (further byte h z) before after → heads (is_mark_of byte) before ≡ false → ⊥
  no_mark x more z before after is reads none =
      let here = mark_heads x more before after (subst (λ t. Reads (further byte h t) before after) is reads) in absurd (cc)

  -- no mark stands behind them
  pub list_ends : (xs : List X) (at : ℕ) → Listing xs at → heads (is_mark_of byte) (drop at all) ≡ false → IsRead (Several C next s) (separated byte h) (Begin test) all from xs at
  list_ends xs at listing none =
      all_read xs at listing (λ other w after alike allowed reads ends.
      last xs at other w after (λ x more is. no_mark x more w (drop at other) after is reads (heads_alike (is_mark_of byte) at other all alike ∙ none)) reads)

  -- none is allowed after them
  pub list_closed : (xs : List X) (at : ℕ) → Listing xs at → ((x : X) → C (state next s xs) x → ⊥) → IsRead (Several C next s) (separated byte h) (Begin test) all from xs at
  list_closed xs at listing none =
      all_read xs at listing (λ other w after alike allowed reads ends.
      last xs at other w after (λ x more is. let one = subst (λ t. Chain C next (state next s xs) t) is allowed in none x one.0) reads)
