-- The way through a text is determined, so a text has at most one list of tokens, and stops at one place alone.
use Rattle.std.proofs.Common.{◌≡◌, ℕ, ◌+◌, true, false, List, [], ◌++◌, length, drop, refl, sym, ap, subst, ◌∙◌, arith, slice_index, Option, Some, None, inl, inr, append-nil, add-zero}
use Rattle.std.proofs.lemmas.List.{get_or-drop, drop_all}
use Rattle.k_lexer.specs.declared.token.Kind.{Kind}
use Rattle.k_lexer.specs.declared.token.Token.{Token}
use Rattle.k_lexer.specs.declared.fault.LexFault.{LexFault}
use Rattle.k_lexer.specs.Characters.{is_blank}
use Rattle.k_lexer.specs.Tokens.{IsLongest, IsComment, opens_comment}
use Rattle.k_lexer.specs.Fronts.{IsTaken, made}
use Rattle.k_lexer.specs.Lexing.{Reaches, start, blank, comment, token, Stops, IsStop, place}
use Rattle.k_lexer.proofs.Taking.{taken_same, IsBlocked, stopped, nil_blocked, stops_same}

-- one step: something is taken, and leads from one place and its tokens to the next
pub record Step (text : List ℕ) (tokens : List Token) (at : ℕ) (more : List Token) (next : ℕ) : Type 0 where
  pub kind : Option Kind
  pub size : ℕ
  pub taken : IsTaken (drop at text) kind size
  pub place_is : next ≡ at + size
  pub tokens_are : more ≡ tokens ++ made kind at size

-- steps that lead to an end
pub data Leads (text : List ℕ) (last : List Token) (end : ℕ) : List Token → ℕ → Type 0 where
  stay : Leads text last end last end
  go : (tokens : List Token) (at : ℕ) (more : List Token) (next : ℕ) → Step text tokens at more next → Leads text last end more next → Leads text last end tokens at

pub step_same : (text : List ℕ) (tokens ms ns : List Token) (at m n : ℕ) → Step text tokens at ms m → Step text tokens at ns n → (ms ≡ ns) × (m ≡ n)
step_same text tokens ms ns at m n f g =
    let same = taken_same (drop at text) f.kind g.kind f.size g.size f.taken g.taken in (
      f.tokens_are ∙ ap (λ k. tokens ++ made k at f.size) same.0 ∙ ap (λ s. tokens ++ made g.kind at s) same.1 ∙ sym g.tokens_are,
      f.place_is ∙ ap (λ s. at + s) same.1 ∙ sym g.place_is,
    )

leads_more : (text : List ℕ) (mid last : List Token) (m n : ℕ) (tokens : List Token) (at : ℕ) → Leads text mid m tokens at → Step text mid m last n → Leads text last n tokens at
leads_more text mid last m n tokens at stay step = go mid m last n step stay
leads_more text mid last m n tokens at (go _ _ more next first later) step = go tokens at more next first (leads_more text mid last m n more next later step)

pub blank_step : (text : List ℕ) (tokens : List Token) (at : ℕ) → is_blank (slice_index text at) ≡ true → Step text tokens at tokens (at + 1)
blank_step text tokens at is = record {
  kind = None;
  size = 1;
  taken = inl (ap is_blank (get_or-drop at text 0 0 ∙ ap (λ k. slice_index text k) (add-zero at)) ∙ is, refl);
  place_is = refl;
  tokens_are = sym (append-nil tokens);
}

pub comment_step : (text : List ℕ) (tokens : List Token) (at n : ℕ) → IsComment (drop at text) n → Step text tokens at tokens (at + n)
comment_step text tokens at n is = record { kind = None; size = n; taken = inr is; place_is = refl; tokens_are = sym (append-nil tokens) }

pub token_step : (text : List ℕ) (tokens : List Token) (at n : ℕ) (kind : Kind) → opens_comment (drop at text) ≡ false → IsLongest kind (drop at text) n
    → Step text tokens at (tokens ++ made (Some kind) at n) (at + n)
token_step text tokens at n kind none is = record { kind = Some kind; size = n; taken = (none, is); place_is = refl; tokens_are = refl }

pub leads : (text : List ℕ) (tokens : List Token) (at : ℕ) → Reaches text tokens at → Leads text tokens at [] 0
leads text tokens at start = stay
leads text tokens at (blank ts p before is) = leads_more text ts ts p (p + 1) [] 0 (leads text ts p before) (blank_step text ts p is)
leads text tokens at (comment ts p n before is) = leads_more text ts ts p (p + n) [] 0 (leads text ts p before) (comment_step text ts p n is)
leads text tokens at (token ts p n kind before none is) =
    leads_more text ts (ts ++ made (Some kind) p n) p (p + n) [] 0 (leads text ts p before) (token_step text ts p n kind none is)

-- what leads to a place where nothing is taken goes by each step
step_on : (text : List ℕ) (last more tokens : List Token) (end next at : ℕ) → IsBlocked (drop end text) → Leads text last end tokens at → Step text tokens at more next
    → Leads text last end more next
step_on text last more tokens end next at blocked stay step = absurd (blocked step.kind step.size step.taken)
step_on text last more tokens end next at blocked (go _ _ ms m first later) step =
    let same = step_same text tokens ms more at m next first step in
    subst (λ n. Leads text last end more n) same.1 (subst (λ ts. Leads text last end ts m) same.0 later)

passes : (text : List ℕ) (last : List Token) (end : ℕ) → IsBlocked (drop end text) → Leads text last end [] 0 → (tokens : List Token) (at : ℕ) → Reaches text tokens at
    → Leads text last end tokens at
passes text last end blocked way tokens at start = way
passes text last end blocked way tokens at (blank ts p before is) =
    step_on text last ts ts end (p + 1) p blocked (passes text last end blocked way ts p before) (blank_step text ts p is)
passes text last end blocked way tokens at (comment ts p n before is) =
    step_on text last ts ts end (p + n) p blocked (passes text last end blocked way ts p before) (comment_step text ts p n is)
passes text last end blocked way tokens at (token ts p n kind before none is) =
    step_on text last (ts ++ made (Some kind) p n) ts end (p + n) p blocked (passes text last end blocked way ts p before) (token_step text ts p n kind none is)

ends : (text : List ℕ) (last tokens : List Token) (end at : ℕ) → IsBlocked (drop at text) → Leads text last end tokens at → (tokens ≡ last) × (at ≡ end)
ends text last tokens end at blocked stay = (refl, refl)
ends text last tokens end at blocked (go _ _ more next step later) = absurd (blocked step.kind step.size step.taken)

-- two places that are reached, and where nothing is taken, are one
pub one_end : (text : List ℕ) (ms ns : List Token) (m n : ℕ) → Reaches text ms m → Reaches text ns n → IsBlocked (drop m text) → IsBlocked (drop n text) → (ms ≡ ns) × (m ≡ n)
one_end text ms ns m n f g stops ended = ends text ns ms n m stops (passes text ns n ended (leads text ns n g) ms m f)

pub end_blocked : (text : List ℕ) → IsBlocked (drop (length text) text)
end_blocked text = subst IsBlocked (sym (drop_all (length text) text (omega arith))) nil_blocked

pub stop_blocked : (text : List ℕ) (fault : LexFault) → IsStop text fault → IsBlocked (drop (place fault) text)
stop_blocked text fault stop = stopped (drop (place fault) text) fault stop.stops

pub one_stop : (text : List ℕ) (f g : LexFault) → IsStop text f → IsStop text g → f ≡ g
one_stop text f g first second =
    let places : place f ≡ place g = (one_end text first.tokens second.tokens (place f) (place g) first.reached second.reached (stop_blocked text f first) (stop_blocked text g second)).1 in
    stops_same (drop (place f) text) f g places first.stops (subst (λ p. Stops (drop p text) g) (sym places) second.stops)

pub one_whole : (text : List ℕ) (ms ns : List Token) → Reaches text ms (length text) → Reaches text ns (length text) → ms ≡ ns
one_whole text ms ns first second = (one_end text ms ns (length text) (length text) first second (end_blocked text) (end_blocked text)).0

-- what is taken leads on
pub reaches_more : (text : List ℕ) (tokens : List Token) (at : ℕ) (kind : Option Kind) (n : ℕ) → Reaches text tokens at → IsTaken (drop at text) kind n
    → Reaches text (tokens ++ made kind at n) (at + n)
reaches_more text tokens at None n before (inl is) =
    subst (λ k. Reaches text (tokens ++ []) (at + k)) (sym is.1)
    (subst (λ ts. Reaches text ts (at + 1)) (sym (append-nil tokens))
    (blank tokens at before (ap is_blank (sym (get_or-drop at text 0 0 ∙ ap (λ k. slice_index text k) (add-zero at))) ∙ is.0)))
reaches_more text tokens at None n before (inr is) = subst (λ ts. Reaches text ts (at + n)) (sym (append-nil tokens)) (comment tokens at n before is)
reaches_more text tokens at (Some kind) n before is = token tokens at n kind before is.0 is.1
