-- The opening tags among the tokens of a body, and the marks of their cells.
use Rattle.std.proofs.Common.{◌≡◌, ℕ, zero, suc, ◌+◌, ◌≤◌, Bool, true, false, cond, List, [], ◌∷◌, ◌++◌, map, length, take, filter, append-nil, refl, sym, ap, subst, ◌∙◌, append_assoc, arith}
use Rattle.std.proofs.lemmas.List.{map-append, length-map}
use Rattle.std.specs.List.{AllByRecursion}
use Rattle.rule_tokens.specs.declared.token.RuleKind.{RuleKind}
use Rattle.rule_tokens.specs.declared.token.RuleKind.TheVariants as kind
use Rattle.rule_tokens.specs.declared.token.RuleToken.{RuleToken}
use Rattle.rule_drafts.specs.Cells.{is_open, mark_of}

-- ---- opening tags, each by its cell and the number of its token

abbrev pub opens_with : ℕ → RuleKind → List (ℕ × ℕ)
opens_with at (kind.Open cell) = (cell, at) ∷ []
opens_with at (kind.Close cell) = []
opens_with at kind.Rewrite = []
opens_with at kind.Then = []
opens_with at kind.MapsTo = []
opens_with at kind.Dots = []
opens_with at (kind.Dot sort) = []
opens_with at kind.ListItem = []
opens_with at (kind.Terminal text) = []
opens_with at (kind.Literal value) = []
opens_with at (kind.Variable name sort) = []

abbrev pub opens : ℕ → List RuleToken → List (ℕ × ℕ)
opens at [] = []
opens at (token ∷ tokens) = opens_with at token.kind ++ opens (at + 1) tokens

pub opens-append : (at : ℕ) (xs ys : List RuleToken) → opens at (xs ++ ys) ≡ opens at xs ++ opens (at + length xs) ys
opens-append at [] ys = let e : at ≡ at + 0 = omega arith in ap (λ (n : ℕ). opens n ys) e
opens-append at (x ∷ xs) ys =
    let e : at + 1 + length xs ≡ at + suc (length xs) = omega arith in
    ap (λ ps. opens_with at x.kind ++ ps) (opens-append (at + 1) xs ys ∙ ap (λ (n : ℕ). opens (at + 1) xs ++ opens n ys) e)
    ∙ sym (append_assoc (opens_with at x.kind) (opens (at + 1) xs) (opens (at + suc (length xs)) ys))

-- ---- tokens that are these signs

module _ {M : Type 0} (sign : RuleToken → M) where
  -- the tokens are some and then others
  pub record Parted (tokens : List RuleToken) (xs ys : List M) : Type 0 where
    pub front : List RuleToken
    pub back : List RuleToken
    pub whole : tokens ≡ front ++ back
    pub front_is : map sign front ≡ xs
    pub back_is : map sign back ≡ ys

  pub parted : (tokens : List RuleToken) (xs ys : List M) → map sign tokens ≡ xs ++ ys → Parted tokens xs ys
  parted tokens [] ys e = record { front = []; back = tokens; whole = refl; front_is = refl; back_is = e }
  parted [] (x ∷ xs) ys e = absurd (cc)
  parted (t ∷ ts) (x ∷ xs) ys e =
      let head : sign t ≡ x = cc in
      let tail : map sign ts ≡ xs ++ ys = cc in
      let rest = parted ts xs ys tail in
      record {
        front = t ∷ rest.front;
        back = rest.back;
        whole = ap (λ us. t ∷ us) rest.whole;
        front_is = λ i. head i ∷ rest.front_is i;
        back_is = rest.back_is;
      }

  -- or one and then others
  pub record Led (tokens : List RuleToken) (x : M) (ys : List M) : Type 0 where
    pub first : RuleToken
    pub rest : List RuleToken
    pub whole : tokens ≡ first ∷ rest
    pub first_is : sign first ≡ x
    pub rest_is : map sign rest ≡ ys

  pub led : (tokens : List RuleToken) (x : M) (ys : List M) → map sign tokens ≡ x ∷ ys → Led tokens x ys
  led [] x ys e = absurd (cc)
  led (t ∷ ts) x ys e =
      let head : sign t ≡ x = cc in
      let tail : map sign ts ≡ ys = cc in
      record { first = t; rest = ts; whole = refl; first_is = head; rest_is = tail }

  nothing_left : (tokens : List RuleToken) → map sign tokens ≡ [] → tokens ≡ []
  nothing_left [] e = refl
  nothing_left (t ∷ ts) e = absurd (cc)

  -- a sign that is no opening tag, and one that is the tag of a cell
  abbrev pub Shut : M → Type 0
  Shut x = (t : RuleToken) → sign t ≡ x → (at : ℕ) → opens_with at t.kind ≡ []

  abbrev pub OpensCell : M → ℕ → Type 0
  OpensCell x cell = (t : RuleToken) → sign t ≡ x → (at : ℕ) → opens_with at t.kind ≡ (cell, at) ∷ []

  abbrev pub AllShut : List M → Type 0
  AllShut xs = (tokens : List RuleToken) → map sign tokens ≡ xs → (at : ℕ) → opens at tokens ≡ []

  pub all_shut : (xs : List M) → AllByRecursion Shut xs → AllShut xs
  all_shut [] all tokens e at = ap (opens at) (nothing_left tokens e)
  all_shut (x ∷ xs) all tokens e at =
      let l = led tokens x xs e in
      ap (opens at) l.whole ∙ (λ i. all.0 l.first l.first_is at i ++ all_shut xs all.1 l.rest l.rest_is (at + 1) i)

  same_length : (tokens : List RuleToken) (xs : List M) → map sign tokens ≡ xs → length tokens ≡ length xs
  same_length tokens xs e = sym (length-map tokens sign) ∙ ap length e

  -- the tags of tokens that are two parts
  pub record Two (tokens : List RuleToken) (xs ys : List M) (at p q : ℕ) : Type 0 where
    pub front : List RuleToken
    pub back : List RuleToken
    pub front_is : map sign front ≡ xs
    pub back_is : map sign back ≡ ys
    pub tags : opens at tokens ≡ opens p front ++ opens q back

  pub tags_beside : (tokens : List RuleToken) (xs ys : List M) (at : ℕ) → map sign tokens ≡ xs ++ ys → Two tokens xs ys at at (at + length xs)
  tags_beside tokens xs ys at e =
      let p = parted tokens xs ys e in
      record {
        front = p.front;
        back = p.back;
        front_is = p.front_is;
        back_is = p.back_is;
        tags = ap (opens at) p.whole ∙ opens-append at p.front p.back ∙ ap (λ (n : ℕ). opens at p.front ++ opens (at + n) p.back) (same_length p.front xs p.front_is);
      }

  behind_shut : (tokens : List RuleToken) (x : M) (ys : List M) (at : ℕ) → Shut x → map sign tokens ≡ x ∷ ys → (rest : List RuleToken) × (map sign rest ≡ ys) × (opens at tokens ≡ opens (at + 1) rest)
  behind_shut tokens x ys at shut e =
      let l = led tokens x ys e in
      (l.rest, l.rest_is, ap (opens at) l.whole ∙ ap (λ ps. ps ++ opens (at + 1) l.rest) (shut l.first l.first_is at))

  pub tags_changed : (tokens : List RuleToken) (xs ys : List M) (arrow : M) (at : ℕ) → Shut arrow → map sign tokens ≡ xs ++ arrow ∷ ys → Two tokens xs ys at at (at + length xs + 1)
  tags_changed tokens xs ys arrow at shut e =
      let t = tags_beside tokens xs (arrow ∷ ys) at e in
      let b = behind_shut t.back arrow ys (at + length xs) shut t.back_is in
      record { front = t.front; back = b.0; front_is = t.front_is; back_is = b.1; tags = t.tags ∙ ap (λ ps. opens at t.front ++ ps) b.2 }

  -- without what stands behind and is shut
  pub before_shut : (tokens : List RuleToken) (xs ys : List M) (at : ℕ) → AllShut ys → map sign tokens ≡ xs ++ ys
      → (front : List RuleToken) × (map sign front ≡ xs) × (opens at tokens ≡ opens at front)
  before_shut tokens xs ys at shut e =
      let t = tags_beside tokens xs ys at e in
      (t.front, t.front_is, t.tags ∙ ap (λ ps. opens at t.front ++ ps) (shut t.back t.back_is (at + length xs)) ∙ append-nil (opens at t.front))

  pub tags_in_brackets : (tokens : List RuleToken) (xs ys : List M) (bracket arrow closing : M) (at : ℕ) → Shut bracket → Shut arrow → Shut closing
      → map sign tokens ≡ (bracket ∷ (xs ++ arrow ∷ ys)) ++ closing ∷ [] → Two tokens xs ys at (at + 1) (at + 1 + length xs + 1)
  tags_in_brackets tokens xs ys bracket arrow closing at begins between ends e =
      let b = before_shut tokens (bracket ∷ (xs ++ arrow ∷ ys)) (closing ∷ []) at (all_shut (closing ∷ []) (ends, tt)) e in
      let r = behind_shut b.0 bracket (xs ++ arrow ∷ ys) at begins b.1 in
      let c = tags_changed r.0 xs ys arrow (at + 1) between r.1 in
      record { front = c.front; back = c.back; front_is = c.front_is; back_is = c.back_is; tags = b.2 ∙ r.2 ∙ c.tags }

  -- the tags of a cell
  pub record Tagged (tokens : List RuleToken) (cell : ℕ) (xs : List M) (at p : ℕ) : Type 0 where
    pub inner : List RuleToken
    pub inner_is : map sign inner ≡ xs
    pub tags : opens at tokens ≡ (cell, at) ∷ opens p inner

  pub tags_of_cell : (tokens : List RuleToken) (xs before after : List M) (opening closing : M) (cell at : ℕ) → OpensCell opening cell → Shut closing → AllShut before → AllShut after
      → map sign tokens ≡ (opening ∷ ((before ++ xs) ++ after)) ++ closing ∷ [] → Tagged tokens cell xs at (at + 1 + length before)
  tags_of_cell tokens xs before after opening closing cell at begins ends left right e =
      let b = before_shut tokens (opening ∷ ((before ++ xs) ++ after)) (closing ∷ []) at (all_shut (closing ∷ []) (ends, tt)) e in
      let l = led b.0 opening ((before ++ xs) ++ after) b.1 in
      let a = before_shut l.rest (before ++ xs) after (at + 1) right l.rest_is in
      let t = tags_beside a.0 before xs (at + 1) a.1 in
      record {
        inner = t.back;
        inner_is = t.back_is;
        tags =
            b.2
            ∙ ap (opens at) l.whole
            ∙ ap (λ ps. ps ++ opens (at + 1) l.rest) (begins l.first l.first_is at)
            ∙ ap (λ (ps : List (ℕ × ℕ)). (cell, at) ∷ ps) (a.2 ∙ t.tags ∙ ap (λ ps. ps ++ opens (at + 1 + length before) t.back) (left t.front t.front_is (at + 1)));
      }

-- ---- marks

-- a number is given to each token, which rises behind each opening tag
abbrev pub Counts : (ℕ → ℕ) → ℕ → List RuleToken → Type 0
Counts f at [] = Unit {0}
Counts f at (token ∷ tokens) = (f (at + 1) ≡ f at + cond (is_open token.kind) 1 0) × Counts f (at + 1) tokens

abbrev pub by_mark : (ℕ → ℕ) → ℕ × ℕ → ℕ × ℕ
by_mark f tag = (tag.0, f tag.1)

-- marks rise, from one on
abbrev pub Rise : ℕ → List (ℕ × ℕ) → Type 0
Rise m [] = Unit {0}
Rise m (tag ∷ tags) = (m ≤ tag.1) × Rise (tag.1 + 1) tags

rise_sooner : (m n : ℕ) (tags : List (ℕ × ℕ)) → n ≤ m → Rise m tags → Rise n tags
rise_sooner m n [] less rise = tt
rise_sooner m n (tag ∷ tags) less rise = (let here = rise.0 in omega (arith, less, here), rise.1)

rises_on : (f : ℕ → ℕ) (at : ℕ) (tags : List (ℕ × ℕ)) → f (at + 1) ≡ f at + 0 → Rise (f (at + 1)) tags → Rise (f at) tags
rises_on f at tags step rise = rise_sooner (f (at + 1)) (f at) tags (omega (arith, step)) rise

rises_by : (k : RuleKind) (f : ℕ → ℕ) (at : ℕ) (tags : List (ℕ × ℕ)) → f (at + 1) ≡ f at + cond (is_open k) 1 0 → Rise (f (at + 1)) tags
    → Rise (f at) (map (by_mark f) (opens_with at k) ++ tags)
rises_by (kind.Open cell) f at tags step rise = (omega arith, subst (λ m. Rise m tags) step rise)
rises_by (kind.Close cell) f at tags step rise = rises_on f at tags step rise
rises_by kind.Rewrite f at tags step rise = rises_on f at tags step rise
rises_by kind.Then f at tags step rise = rises_on f at tags step rise
rises_by kind.MapsTo f at tags step rise = rises_on f at tags step rise
rises_by kind.Dots f at tags step rise = rises_on f at tags step rise
rises_by (kind.Dot sort) f at tags step rise = rises_on f at tags step rise
rises_by kind.ListItem f at tags step rise = rises_on f at tags step rise
rises_by (kind.Terminal text) f at tags step rise = rises_on f at tags step rise
rises_by (kind.Literal value) f at tags step rise = rises_on f at tags step rise
rises_by (kind.Variable name sort) f at tags step rise = rises_on f at tags step rise

pub opens_rise : (f : ℕ → ℕ) (at : ℕ) (tokens : List RuleToken) → Counts f at tokens → Rise (f at) (map (by_mark f) (opens at tokens))
opens_rise f at [] counts = tt
opens_rise f at (token ∷ tokens) counts =
    subst (Rise (f at)) (sym (map-append (by_mark f) (opens_with at token.kind) (opens (at + 1) tokens)))
    (rises_by token.kind f at (map (by_mark f) (opens (at + 1) tokens)) counts.0 (opens_rise f (at + 1) tokens counts.1))

-- ---- the mark of a token is the number of opening tags before it

counted : {X : Type 0} (b : Bool) (x : X) (xs : List X) → length (cond b (x ∷ xs) xs) ≡ cond b 1 0 + length xs
counted true x xs = let e : suc (length xs) ≡ 1 + length xs = omega arith in e
counted false x xs = let e : length xs ≡ 0 + length xs = omega arith in e

abbrev before_token : List RuleToken → ℕ → List RuleToken
before_token tokens i = filter (λ (token : RuleToken). is_open token.kind) (take i tokens)

one_more : (token : RuleToken) (tokens : List RuleToken) (i : ℕ) → mark_of (token ∷ tokens) (i + 1) ≡ cond (is_open token.kind) 1 0 + mark_of tokens i
one_more token tokens i =
    let next : i + 1 ≡ suc i = omega arith in
    ap (λ (n : ℕ). mark_of (token ∷ tokens) n) next ∙ counted (is_open token.kind) token (before_token tokens i)

shifted : (f g : ℕ → ℕ) (c at : ℕ) (tokens : List RuleToken) → ((i : ℕ) → g (i + 1) ≡ c + f i) → Counts f at tokens → Counts g (at + 1) tokens
shifted f g c at [] same counts = tt
shifted f g c at (token ∷ tokens) same counts =
    let here : g (at + 1) ≡ c + f at = same at in
    let next : g (at + 1 + 1) ≡ c + f (at + 1) = same (at + 1) in
    let step : f (at + 1) ≡ f at + cond (is_open token.kind) 1 0 = counts.0 in
    (omega (arith, here, next, step), shifted f g c (at + 1) tokens same counts.1)

pub marks_count : (tokens : List RuleToken) (n : ℕ) → Counts (mark_of tokens) 0 (take n tokens)
marks_count tokens zero = tt
marks_count [] (suc n) = tt
marks_count (token ∷ tokens) (suc n) =
    let first : mark_of (token ∷ tokens) (0 + 1) ≡ cond (is_open token.kind) 1 0 + mark_of tokens 0 = one_more token tokens 0 in
    let none : mark_of tokens 0 ≡ 0 = refl in
    let start : mark_of (token ∷ tokens) 0 ≡ 0 = refl in (
      omega (arith, first, none, start),
      shifted (mark_of tokens) (mark_of (token ∷ tokens)) (cond (is_open token.kind) 1 0) 0 (take n tokens) (one_more token tokens) (marks_count tokens n),
    )

at_most_one : (b : Bool) → cond b 1 0 ≤ 1
at_most_one true = omega arith
at_most_one false = omega arith

-- so that there are no more of them than tokens
pub mark_within : (tokens : List RuleToken) (place : ℕ) → mark_of tokens place ≤ length tokens
mark_within tokens zero = omega arith
mark_within [] (suc place) = omega arith
mark_within (token ∷ tokens) (suc place) =
    let step : length (cond (is_open token.kind) (token ∷ before_token tokens place) (before_token tokens place)) ≡ cond (is_open token.kind) 1 0 + mark_of tokens place = counted (is_open token.kind) token (before_token tokens place) in
    let one : cond (is_open token.kind) 1 0 ≤ 1 = at_most_one (is_open token.kind) in
    let rest : mark_of tokens place ≤ length tokens = mark_within tokens place in
    omega (arith, step, one, rest)
