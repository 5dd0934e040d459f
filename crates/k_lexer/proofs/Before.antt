-- The tokens before a place.
use Rattle.std.proofs.Common.{◌≡◌, ℕ, ◌+◌, ◌-◌, ◌<◌, ◌≤◌, List, [], ◌∷◌, ◌++◌, length, drop, refl, sym, ap, subst, ◌∙◌, arith, append_assoc, append-nil, length-append, Option, Some}
use Rattle.k_lexer.specs.declared.token.Kind.{Kind}
use Rattle.k_lexer.specs.declared.token.Token.{Token}
use Rattle.k_lexer.specs.declared.fault.LexFault.{LexFault}
use Rattle.k_lexer.specs.Fronts.{IsTaken, made}
use Rattle.k_lexer.specs.Lexing.{Reaches, AreTokens, start, blank, comment, token, Stops, IsStop, place}
use Rattle.k_lexer.specs.Laws.{HasTokens}
use Rattle.k_lexer.specs.Before.{IsFront, AreBefore}
use Rattle.k_lexer.proofs.Taking.{taken_same, IsBlocked, stopped}
use Rattle.k_lexer.proofs.Steps.{Step, Leads, stay, go, step_same, leads, blank_step, comment_step, token_step, end_blocked, stop_blocked}

-- what can be taken here ends past a place
abbrev pub EndsPast : List ℕ → ℕ → ℕ → Type 0
EndsPast text from at = (kind : Option Kind) (n : ℕ) → IsTaken (drop from text) kind n → at < from + n

module _ (text : List ℕ) (last : List Token) (end at : ℕ) (past : EndsPast text end at) where
  step_on : (more tokens : List Token) (next from : ℕ) → next ≤ at → Leads text last end tokens from → Step text tokens from more next → Leads text last end more next
  step_on more tokens next from within stay step = absurd (let later = past step.kind step.size step.taken in let is = step.place_is in omega arith)
  step_on more tokens next from within (go _ _ ms m first rest) step =
      let same = step_same text tokens ms more from m next first step in
      subst (λ n. Leads text last end more n) same.1 (subst (λ ts. Leads text last end ts m) same.0 rest)

  passes : Leads text last end [] 0 → (tokens : List Token) (from : ℕ) → Reaches text tokens from → from ≤ at → Leads text last end tokens from
  passes way tokens from start within = way
  passes way tokens from (blank ts p before is) within = step_on ts ts (p + 1) p within (passes way ts p before (omega arith)) (blank_step text ts p is)
  passes way tokens from (comment ts p n before is) within = step_on ts ts (p + n) p within (passes way ts p before (omega arith)) (comment_step text ts p n is)
  passes way tokens from (token ts p n kind before none is) within =
      step_on (ts ++ made (Some kind) p n) ts (p + n) p within (passes way ts p before (omega arith)) (token_step text ts p n kind none is)

front_less : (front more whole : List Token) → IsFront (front ++ more) whole → IsFront front whole
front_less front more whole is = (more ++ is.0, is.1 ∙ append_assoc front more is.0)

leads_front : (text : List ℕ) (last : List Token) (end : ℕ) (tokens : List Token) (at : ℕ) → Leads text last end tokens at → IsFront tokens last
leads_front text last end tokens at stay = ([], sym (append-nil last))
leads_front text last end tokens at (go _ _ more next step rest) =
    front_less tokens (made step.kind at step.size) last (subst (λ ts. IsFront ts last) step.tokens_are (leads_front text last end more next rest))

pub are_before : (text : List ℕ) (tokens : List Token) (end at : ℕ) → Reaches text tokens end → end ≤ at → EndsPast text end at → AreBefore text at tokens
are_before text tokens end at reached within past = record {
  place = end;
  reached = reached;
  within = within;
  longest = λ others other leads_there less.
      leads_front text tokens end others other (passes text tokens end at past (leads text tokens end reached) others other leads_there less);
}

-- ---- what ends past a place

blocked_past : (text : List ℕ) (from at : ℕ) → IsBlocked (drop from text) → EndsPast text from at
blocked_past text from at blocked kind n taken = absurd (blocked kind n taken)

pub stop_past : (text rest : List ℕ) (from at : ℕ) (fault : LexFault) → rest ≡ drop from text → Stops rest fault → EndsPast text from at
stop_past text rest from at fault is stops = blocked_past text from at (stopped (drop from text) fault (subst (λ t. Stops t fault) is stops))

pub piece_past : (text rest : List ℕ) (from at : ℕ) (kind : Option Kind) (size : ℕ) → rest ≡ drop from text → IsTaken rest kind size → from ≤ at → at - from < size → EndsPast text from at
piece_past text rest from at kind size is taken within more other n also =
    let same : size ≡ n = (taken_same (drop from text) kind other size n (subst (λ t. IsTaken t kind size) is taken) also).1 in
    omega arith

pub end_past : (text : List ℕ) (from at : ℕ) → from ≡ length text → EndsPast text from at
end_past text from at is = blocked_past text from at (subst (λ n. IsBlocked (drop n text)) (sym is) (end_blocked text))

-- ---- one list before a place

front_nil : (tokens rest : List Token) → tokens ≡ tokens ++ rest → rest ≡ []
front_nil tokens [] is = refl
front_nil tokens (t ∷ rest) is = absurd (omega (arith, ap length is, length-append tokens (t ∷ rest)))

nothing : (xs ys : List Token) → xs ++ ys ≡ [] → xs ≡ []
nothing [] ys is = refl
nothing (x ∷ xs) ys is = absurd (omega (arith, ap length is))

front_both : (one other : List Token) → IsFront one other → IsFront other one → one ≡ other
front_both one other f g =
    let around : one ≡ one ++ (f.0 ++ g.0) = g.1 ∙ ap (λ ts. ts ++ g.0) f.1 ∙ append_assoc one f.0 g.0 in
    let none : f.0 ++ g.0 ≡ [] = front_nil one (f.0 ++ g.0) around in
    let first : f.0 ≡ [] = nothing f.0 g.0 none in
    sym (f.1 ∙ ap (λ ts. one ++ ts) first ∙ append-nil one)

pub one_before : (text : List ℕ) (at : ℕ) (one other : List Token) → AreBefore text at one → AreBefore text at other → one ≡ other
one_before text at one other first second =
    front_both one other (second.longest one first.place first.reached first.within) (first.longest other second.place second.reached second.within)

-- ---- the whole text, and a place where nothing can be taken

whole_before : (text : List ℕ) (tokens : List Token) → Reaches text tokens (length text) → AreBefore text (length text) tokens
whole_before text tokens reached = are_before text tokens (length text) (length text) reached (omega arith) (end_past text (length text) (length text) refl)

pub whole_front : (text : List ℕ) (tokens : List Token) → HasTokens text
    → (AreBefore text (length text) tokens → AreTokens text tokens) × (AreTokens text tokens → AreBefore text (length text) tokens)
whole_front text tokens has = (
  λ before. subst (λ ts. AreTokens text ts) (one_before text (length text) has.tokens tokens (whole_before text has.tokens has.are.whole) before) has.are,
  λ are. whole_before text tokens are.whole,
)

stop_before : (text : List ℕ) (fault : LexFault) (tokens : List Token) → IsStop text fault → Reaches text tokens (place fault) → AreBefore text (place fault) tokens
stop_before text fault tokens stop reached =
    are_before text tokens (place fault) (place fault) reached (omega arith) (blocked_past text (place fault) (place fault) (stop_blocked text fault stop))

pub stopped_front : (text : List ℕ) (fault : LexFault) (tokens : List Token) → IsStop text fault
    → (AreBefore text (place fault) tokens → Reaches text tokens (place fault)) × (Reaches text tokens (place fault) → AreBefore text (place fault) tokens)
stopped_front text fault tokens stop = (
  λ before.
      subst (λ ts. Reaches text ts (place fault)) (one_before text (place fault) stop.tokens tokens (stop_before text fault stop.tokens stop stop.reached) before)
      stop.reached,
  λ reached. stop_before text fault tokens stop reached,
)
